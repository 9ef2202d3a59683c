-- What a program sees of one number of a host, and nothing more.
use Rattle.std.specs.Prelude.{◌≡◌, ◌⊎◌, ◌≤◌, ℕ, ◌+◌, Bool, true, false, List, [], ◌∷◌, ◌++◌, ◌||◌, length, slice_get, Option, Some, None}
use Rattle.std.specs.List.{filter}
use Rattle.courier_messages.specs.RawCalls.{RawCall, call_message, transaction_of}
use Rattle.courier_messages.specs.declared.message.Message.{Message}
use Rattle.courier_sessions.specs.Answering.{answer_message, transaction_in}
use Rattle.courier_sessions.specs.declared.answer.Answer.{Answer}
use Rattle.xns_connection.specs.declared.why.Why.{Why}

-- a connection: whether we opened it; whether the program was told that it is open; its calls and their answers, in order; whether the program
-- asked to close it; why it is closed, if it is; and whether the program was told that
pub record Dialogue : Type 0 where
  pub ours : Bool
  pub opened : Bool
  pub calls : List Message
  pub answers : List Message
  pub asked : Bool
  pub closed : Option Why
  pub told : Bool

abbrev pub new_dialogue : (ours : Bool) → Dialogue
new_dialogue ours = record { ours = ours; opened = false; calls = []; answers = []; asked = false; closed = None; told = false }

-- a number is free, or a connection has it
pub data View : Type 0 where
  free : View
  held : Dialogue → View

-- each call is answered
abbrev pub IsEven : Dialogue → Type 0
IsEven d = length d.calls ≡ length d.answers

-- a call is the one that is not answered, behind those that are
abbrev pub IsOpen : Dialogue → Message → Type 0
IsOpen d call = slice_get d.calls (length d.answers) ≡ Some call

-- we opened it, and the program was told nothing of it
abbrev pub IsUntold : Dialogue → Type 0
IsUntold d = (d.ours ≡ true) × (d.opened ≡ false) × (d.answers ≡ []) × (d.told ≡ false)

-- the number may become free: the program was told that the connection is closed; or a peer opened it, it is not closed, and no call of it
-- was handed
abbrev pub MayGo : Dialogue → Type 0
MayGo d = (d.told ≡ true) ⊎ ((d.ours ≡ false) × (d.calls ≡ []) × (d.closed ≡ None))

-- what happens at a number. The program connects, makes a call, gives an answer, asks to close, or abandons the connection. The host announces
-- to the program that the connection is open, hands it a message, or tells it why the connection is closed. Unseen by the program a peer opens a
-- connection, the connection is closed, the number becomes free.
pub data Happening : Type 0 where
  connects : Happening
  calls : RawCall → Happening
  answers : Answer → List ℕ → Happening
  asks : Happening
  abandons : Happening
  announces : Happening
  hands : Message → Happening
  tells : Why → Happening
  opens : Happening
  closes : Why → Happening
  goes : Happening

-- one step
pub data ViewMove : View → Happening → View → Type 0 where
  connecting : ViewMove free connects (held (new_dialogue true))
  opening : ViewMove free opens (held (new_dialogue false))
  -- the program is told that a connection of ours is open before all else of it, or never
  announcing : (d : Dialogue) → IsUntold d → ViewMove (held d) announces (held (record d { opened = true }))
  -- a call of ours is made once all others are answered, and then its answer is handed; the calls are numbered from 1 on
  calling : (d : Dialogue) (c : RawCall) → d.ours ≡ true → IsEven d → d.asked ≡ false → d.closed ≡ None
      → ViewMove (held d) (calls c) (held (record d { calls = d.calls ++ call_message (transaction_of (length d.calls + 1)) c ∷ [] }))
  handing_answer : (d : Dialogue) (call m : Message) → d.ours ≡ true → IsOpen d call → transaction_in m ≡ transaction_in call → d.told ≡ false
      → ViewMove (held d) (hands m) (held (record d { answers = d.answers ++ m ∷ [] }))
  -- a call of the peer's is handed once all others are answered, and then the program answers it
  handing_call : (d : Dialogue) (m : Message) → d.ours ≡ false → IsEven d → d.told ≡ false
      → ViewMove (held d) (hands m) (held (record d { calls = d.calls ++ m ∷ [] }))
  answering : (d : Dialogue) (call : Message) (kind : Answer) (words : List ℕ) → d.ours ≡ false → IsOpen d call → d.closed ≡ None
      → ViewMove (held d) (answers kind words) (held (record d { answers = d.answers ++ answer_message kind (transaction_in call) words ∷ [] }))
  -- the connection is closed once, the program is told why, once, and then the number becomes free
  asking : (d : Dialogue) → ViewMove (held d) asks (held (record d { asked = true }))
  closing : (d : Dialogue) (why : Why) → d.closed ≡ None → ViewMove (held d) (closes why) (held (record d { closed = Some why }))
  telling : (d : Dialogue) (why : Why) → d.closed ≡ Some why → d.told ≡ false → ViewMove (held d) (tells why) (held (record d { told = true }))
  freeing : (d : Dialogue) → MayGo d → ViewMove (held d) goes free
  -- the program may abandon the connection at any time
  abandoning : (d : Dialogue) → ViewMove (held d) abandons free

-- one step after another
unfoldable pub Course : View → List Happening → View → Type 0
Course v [] w = v ≡ w
Course v (x ∷ xs) w = (u : View) × ViewMove v x u × Course u xs w

-- ---- what every history comes to

-- the k-th answer is to the k-th call, and at most one call is not answered
pub record IsAnsweredInOrder (d : Dialogue) : Type 0 where
  pub each : (k : ℕ) (m : Message) → slice_get d.answers k ≡ Some m
      → (call : Message) × (slice_get d.calls k ≡ Some call) × (transaction_in m ≡ transaction_in call)
  pub few : length d.answers ≤ length d.calls
  pub most : length d.calls ≤ length d.answers + 1

-- a number that is free gets a connection
abbrev pub IsOpening : Happening → Type 0
IsOpening x = (x ≡ connects) ⊎ (x ≡ opens)

-- the program is handed or told something
abbrev pub is_news : Happening → Bool
is_news announces = true
is_news (hands m) = true
is_news (tells why) = true
is_news x = false

-- the number becomes free
abbrev pub is_going : Happening → Bool
is_going goes = true
is_going abandons = true
is_going x = false

-- the program does it or sees it
abbrev pub is_said : Happening → Bool
is_said opens = false
is_said (closes why) = false
is_said goes = false
is_said x = true

-- x happened, and nothing of its kind since
pub record Happened (x : Happening) (kind : Happening → Bool) (xs : List Happening) : Type 0 where
  pub before : List Happening
  pub since : List Happening
  pub is : xs ≡ before ++ x ∷ since
  pub none : filter kind since ≡ []

-- the program was told why the connection is closed that has the number
abbrev pub WasTold : List Happening → Type 0
WasTold xs = (why : Why) × Happened (tells why) is_going xs

-- a peer opened it, and nothing of it was told
abbrev pub IsUnheard : List Happening → Type 0
IsUnheard xs = Happened opens (λ x. is_news x || is_going x) xs

-- the program connected, and nothing of that connection was told
abbrev pub IsNewlyConnected : List Happening → Type 0
IsNewlyConnected xs = Happened connects (λ x. is_news x || is_going x) xs
