use Rattle.std.proofs.Common.{ap, refl}
use Rattle.xns_connection.specs.Deeds.{gave}
use Rattle.xns_connection.specs.Moving.{conversation_scene}
use Rattle.xns_connection.specs.declared.conversation.Conversation.{Conversation}
use Rattle.xns_connection.proofs.Steps.{step_by}
use Rattle.xns_connection.proofs.connection.Connection.answer.Goals as goal

pub returns-clause-step : goal.returns-clause-step
returns-clause-step c =
    let k = c.in_ok-answer.ensures in
    step_by c.args.now (gave c.args.kind c.args.words.now) c.args.self.now _ c.answer.new.self k.rest
    (λ s. ap (λ (t : Conversation). conversation_scene t s) (k.is refl)) (λ s. refl) (λ s. refl) c.go_on.ensures.moved k.answer (λ steps. steps) c.go_on.ensures.told
