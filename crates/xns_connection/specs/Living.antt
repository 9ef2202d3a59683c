-- What happens to a connection, step after step, and what the program did at it.
use Rattle.std.specs.Prelude.{◌≡◌, ℕ, List, [], ◌∷◌, ◌++◌, if◌then◌else◌, slice_get, Option, Some}
use Rattle.std.specs.List.{filter}
use Rattle.courier_messages.specs.RawCalls.{RawCall}
use Rattle.courier_messages.specs.declared.message.Message.{Message}
use Rattle.courier_sessions.specs.Answering.{answer_message, transaction_in, why_unlisted, reject_message}
use Rattle.courier_sessions.specs.Answerings.{is_answerable}
use Rattle.courier_sessions.specs.Talks.{made_messages}
use Rattle.courier_sessions.specs.declared.answer.Answer.{Answer}
use Rattle.courier_sessions.specs.declared.program.Program.{Program}
use Rattle.courier_sessions.specs.declared.unlisted.Unlisted.{Unlisted}
use Rattle.xns_spp.specs.Growth.{Begins}
use Rattle.xns_spp.specs.Receiving.{after_receive}
use Rattle.xns_spp.specs.State.{State}
use Rattle.xns_connection.specs.Story.{Story, Runs, ProgramDoesNothing, new_story, asked_of, waiting_message, with_handed}
use Rattle.xns_connection.specs.Telling.{Tells, Goes, HearsBytes}
use Rattle.xns_connection.specs.declared.conversation.Conversation.{Conversation}

-- the calls that the program made, the messages that it was handed, and the answers that it gave, in order
pub record Deeds : Type 0 where
  pub made : List RawCall
  pub handed : List Message
  pub gave : List Message

abbrev pub no_deeds : Deeds
no_deeds = record { made = []; handed = []; gave = [] }

-- every story of the old connection goes on, from what something else made of it, to one of the new connection
abbrev pub GoesFrom : (old new : Conversation) → (Story → Story) → Type 0
GoesFrom old new base = (h : Story) → Tells old h → (m : Story) × Tells new m × ProgramDoesNothing (base h) m

-- steps of a connection, in any order, led from a new end to this conversation, and the program did this meanwhile; the programs are
-- those that can be called, or none where the connection calls
pub data Lives (programs : Option (List Program)) (start : State) : Conversation → Deeds → Type 0 where
  opens : {c : Conversation} → Tells c (new_story programs start) → Lives programs start c no_deeds
  -- the conversation gives packets, moves items, is closed or given up
  goes : {c d : Conversation} {l : Deeds} → Lives programs start c l → Goes c d → Lives programs start d l
  -- a packet comes
  hears : {c d : Conversation} {l : Deeds} → Lives programs start c l → (bytes : List ℕ) → HearsBytes c d bytes → Lives programs start d l
  -- the program makes a call, is handed the message that waits, or answers the call that it was handed
  calls : {c d : Conversation} {l : Deeds} → Lives programs start c l → (call : RawCall)
      → GoesFrom c d (λ h. record h { made = h.made ++ call ∷ [] }) → Lives programs start d (record l { made = l.made ++ call ∷ [] })
  takes : {c d : Conversation} {l : Deeds} → Lives programs start c l → (m : Message) → waiting_message c.side ≡ Some m
      → GoesFrom c d (λ h. with_handed c.side h m) → Lives programs start d (record l { handed = l.handed ++ m ∷ [] })
  gives : {c d : Conversation} {l : Deeds} → Lives programs start c l → (kind : Answer) (k : ℕ) (words : List ℕ)
      → asked_of c.side ≡ Some k → GoesFrom c d (λ h. record h { answers = h.answers ++ answer_message kind k words ∷ [] })
      → Lives programs start d (record l { gave = l.gave ++ answer_message kind k words ∷ [] })

-- an end's own steps, and packets that came, led from one state to the other
pub data Reaches (s : State) : State → Type 0 where
  stays : Reaches s s
  runs : {v w : State} → Reaches s v → Runs v w → Reaches s w
  receives : {v : State} → Reaches s v → (bytes : List ℕ) → Reaches s (after_receive v bytes)

-- the answers to the listed ones of these calls, in order
unfoldable pub to_listed : List Program → (calls answers : List Message) → List Message
to_listed programs [] answers = []
to_listed programs (c ∷ cs) [] = []
to_listed programs (c ∷ cs) (m ∷ answers) =
    if is_answerable programs c then m ∷ to_listed programs cs answers else to_listed programs cs answers

-- the conversation has a story: its end came from a new one, the program made these calls in it, was handed these messages, and gave these
-- answers to the listed calls
pub record IsLived (programs : Option (List Program)) (start : State) (c : Conversation) (l : Deeds) : Type 0 where
  pub story : Story
  pub tells : Tells c story
  pub path : Reaches start story.state
  pub table : story.programs ≡ programs
  pub made : story.made ≡ l.made
  pub handed : story.handed ≡ l.handed
  pub gave : (ps : List Program) → programs ≡ Some ps → l.gave ≡ to_listed ps story.taken story.answers

-- what the program at a connection that calls did, and the one at its peer, which is called for these programs
pub record ProgramsAgree (programs : List Program) (here there : Deeds) : Type 0 where
  -- the one was handed the listed calls that the other made, in order, as far as they came
  pub calls : Begins there.handed (filter (is_answerable programs) (made_messages 1 here.made))
  -- the other was handed the answers that the one gave to them, in order, as far as they came
  pub answers : Begins (to_listed programs (made_messages 1 here.made) here.handed) there.gave
  -- the program was handed a reject for each call that is not listed
  pub rejects : (k : ℕ) (call : Message) (u : Unlisted) (m : Message) → slice_get (made_messages 1 here.made) k ≡ Some call
      → why_unlisted programs call ≡ Some u → slice_get here.handed k ≡ Some m → m ≡ reject_message (transaction_in call) u
