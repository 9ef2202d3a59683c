use Rattle.std.proofs.Common.{◌≡◌, ◌∙◌, ap, sym}
use Rattle.xns_connection.specs.Story.{is_stopped}
use Rattle.xns_connection.specs.declared.side.Side.TheVariants.{Answers}
use Rattle.xns_connection.proofs.Handing.{taken}
use Rattle.xns_connection.proofs.side.Side.take_message.Goals as goal

pub returns-in-Answers-clause-stopped : goal.returns-in-Answers-clause-stopped
returns-in-Answers-clause-stopped c =
    taken (c.take_call.new.self.failed ≡ c.in-Answers.server.failed) c.in-Answers.server c.take_call.new.self c.take_call.result c.take_call.ensures.handed c.take_call.ensures.unlisted c.take_call.ensures.none
    (λ k call listed there new. cc) (λ none same. cc)
    ∙ ap is_stopped (sym c.in-Answers.is)

pub returns-in-Answers-clause-none : goal.returns-in-Answers-clause-none
returns-in-Answers-clause-none c = λ is.
    taken (Answers c.take_call.new.self ≡ c.args.self.now) c.in-Answers.server c.take_call.new.self c.take_call.result c.take_call.ensures.handed c.take_call.ensures.unlisted c.take_call.ensures.none
    (λ k call listed there new. absurd (cc)) (λ none same. ap Answers same ∙ sym c.in-Answers.is)
