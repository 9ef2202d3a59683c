use Rattle.std.proofs.Common.{refl}
use Rattle.xns_connection.proofs.Leading.{goes_not}
use Rattle.xns_connection.specs.Step.{parts_of}
use Rattle.xns_connection.proofs.Steps.{acts_by}
use Rattle.xns_connection.proofs.Steps.{same_history}
use Rattle.std.proofs.Common.{ap}
use Rattle.xns_connection.specs.declared.conversation.Conversation.{Conversation}
use Rattle.xns_connection.proofs.GivenUp.{given_up_goes}
use Rattle.xns_connection.proofs.connection.Connection.act.Goals as goal

pub returns : goal.returns
returns c = record {
  act = c.act-act.ensures.act;
  later = c.act-act.ensures.later;
  goes = goes_not c.args.self.now.conversation;
  packets = refl;
  step = acts_by (parts_of c.args.self.now) c.act-act.result c.act-act.new.self c.owed_after-self.result c.args.now c.act-act.ensures.act c.act-act.ensures.after c.owed_after-self.ensures c.in_default.not-GiveUp;
}

pub invariant_of-self-clause-stands : goal.invariant_of-self-clause-stands
invariant_of-self-clause-stands c = same_history _ _ (ap (λ (t : Conversation). t.endpoint) c.give_up.ensures.rest) c.args.self.now.stands

pub returns-in-GiveUp-clause-goes : goal.returns-in-GiveUp-clause-goes
returns-in-GiveUp-clause-goes c = given_up_goes c.args.self.now.conversation c.give_up.new.self c.give_up.ensures.rest
