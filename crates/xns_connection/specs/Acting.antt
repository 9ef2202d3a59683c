-- One step of a connection, with its story and with what the program did.
use Rattle.std.specs.Prelude.{◌≡◌, ℕ, List, ◌∷◌, [], ◌++◌, Option, Some}
use Rattle.courier_messages.specs.RawCalls.{RawCall}
use Rattle.courier_messages.specs.declared.message.Message.{Message}
use Rattle.courier_sessions.specs.Answering.{answer_message}
use Rattle.courier_sessions.specs.declared.answer.Answer.{Answer}
use Rattle.courier_sessions.specs.declared.program.Program.{Program}
use Rattle.xns_spp.specs.State.{State}
use Rattle.xns_connection.specs.Living.{Deeds, IsLived}
use Rattle.xns_connection.specs.Story.{Story, asked_of, waiting_message, with_handed}
use Rattle.xns_connection.specs.declared.conversation.Conversation.{Conversation}

-- from this story and these deeds on, the program does nothing, makes a call, is handed the message that waits, or answers the call that it
-- was handed; the story goes on from there
pub data Acts (c : Conversation) (h : Story) (l : Deeds) : Story → Deeds → Type 0 where
  idling : Acts c h l h l
  calling : (call : RawCall) → Acts c h l (record h { made = h.made ++ call ∷ [] }) (record l { made = l.made ++ call ∷ [] })
  handing : (m : Message) → waiting_message c.side ≡ Some m → Acts c h l (with_handed c.side h m) (record l { handed = l.handed ++ m ∷ [] })
  answering : (kind : Answer) (k : ℕ) (words : List ℕ) → asked_of c.side ≡ Some k
      → Acts c h l (record h { answers = h.answers ++ answer_message kind k words ∷ [] })
      (record l { gave = l.gave ++ answer_message kind k words ∷ [] })

-- a story is one of the connection, in which the program did these deeds
abbrev pub IsTold : (programs : Option (List Program)) (start : State) → Conversation → Deeds → Story → Type 0
IsTold programs start c l h = (lived : IsLived programs start c l) × (lived.story ≡ h)
