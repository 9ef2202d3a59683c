use Rattle.std.proofs.Common.{◌≡◌, true}
use Rattle.xns_spp.specs.Held.{StandsFor}
use Rattle.xns_spp.specs.State.{State}
use Rattle.xns_connection.specs.Closing.{drains}
use Rattle.xns_connection.specs.Moving.{IsAt, conversation_scene, taken_many}
use Rattle.xns_connection.proofs.conversation.Conversation.drain.Given as goal

abbrev pub invariant-loop-turn : goal.invariant-loop-turn
invariant-loop-turn l = (drains l.self.side l.self.closing ≡ true) × (l.self.packets ≡ l.initial.self.packets)
    × ((s : State) → StandsFor l.initial.self.endpoint s → IsAt l.self (taken_many l.turn (conversation_scene l.initial.self s)))
