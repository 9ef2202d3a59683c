use Rattle.std.proofs.Common.{ap, refl}
use Rattle.xns_connection.specs.Calls.{raw_of_call}
use Rattle.xns_connection.specs.Deeds.{made}
use Rattle.xns_connection.specs.Moving.{conversation_scene}
use Rattle.xns_connection.specs.declared.conversation.Conversation.{Conversation}
use Rattle.xns_connection.proofs.Steps.{step_by}
use Rattle.xns_connection.proofs.connection.Connection.call.Goals as goal

pub returns-clause-step : goal.returns-clause-step
returns-clause-step c =
    let k = c.in_ok-call.ensures in
    step_by c.args.now (made (raw_of_call c.args.call.now)) c.args.self.now _ c.call.new.self k.rest
    (λ s. ap (λ (t : Conversation). conversation_scene t s) (k.is refl)) (λ s. refl) (λ s. refl) c.go_on.ensures.moved k.answer (λ steps. steps) c.go_on.ensures.told
