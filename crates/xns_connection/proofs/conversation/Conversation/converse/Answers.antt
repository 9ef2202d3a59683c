use Rattle.std.proofs.Common.{◌∙◌, refl, sym}
use Rattle.xns_connection.specs.Moving.{drains_only, converses, conversation_scene}
use Rattle.xns_connection.proofs.Scenes.{at_first}
use Rattle.xns_connection.proofs.conversation.Conversation.converse.Goals as goal

pub returns-then-drains-clause-moves : goal.returns-then-drains-clause-moves
returns-then-drains-clause-moves c = λ s stands. (conversation_scene c.args.self.now s, at_first c.args.self.now s stands, drains_only (sym c.drains.ensures ∙ c.if-drains.true))

pub returns-clause-moves : goal.returns-clause-moves
returns-clause-moves c = λ s stands.
    let led = c.converse.ensures.converses s stands in (
      record { side = c.converse.new.self; closing = c.args.self.now.closing; state = led.0 },
      record { stands = led.1; side = refl; closing = refl },
      converses (sym c.drains.ensures ∙ c.if-drains.false) led.2,
    )
