use Rattle.std.proofs.Common.{ap, refl}
use Rattle.xns_connection.specs.Deeds.{asked}
use Rattle.xns_connection.specs.Moving.{conversation_scene}
use Rattle.xns_connection.specs.declared.conversation.Conversation.{Conversation}
use Rattle.xns_connection.proofs.Steps.{step_by}
use Rattle.xns_connection.proofs.connection.Connection.close.Goals as goal

pub returns : goal.returns
returns c =
    let k = c.close.ensures in
    record {
      step = step_by c.args.now asked c.args.self.now _ c.close.new.self k.rest (λ s. ap (λ (t : Conversation). conversation_scene t s) k.is) (λ s. refl) (λ s. refl)
          c.go_on.ensures.moved tt (λ steps. steps) c.go_on.ensures.told;
    }
