use Rattle.xns_connection.proofs.Leading.{goes_not}
use Rattle.xns_connection.proofs.Steps.{same_history}
use Rattle.std.proofs.Common.{ap}
use Rattle.xns_connection.specs.declared.conversation.Conversation.{Conversation}
use Rattle.xns_connection.proofs.GivenUp.{given_up_goes}
use Rattle.xns_connection.proofs.connection.Connection.not_served.Goals as goal

pub returns-then-is_some-clause-goes : goal.returns-then-is_some-clause-goes
returns-then-is_some-clause-goes c = goes_not c.args.self.now.conversation

pub invariant_of-self-clause-stands : goal.invariant_of-self-clause-stands
invariant_of-self-clause-stands c = same_history _ _ (ap (λ (t : Conversation). t.endpoint) c.give_up.ensures.rest) c.args.self.now.stands

pub returns-clause-goes : goal.returns-clause-goes
returns-clause-goes c = given_up_goes c.args.self.now.conversation c.give_up.new.self c.give_up.ensures.rest
