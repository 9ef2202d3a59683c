-- What is given to C through its own memory, and taken from it.
use Rattle.std.specs.Prelude.{◌≡◌, ◌≢◌, ◌<◌, ◌≤◌, ◌-◌, ℕ, Bool, not, ◌==◌, if◌then◌else◌, List, ◌++◌, drop, length, Option, Some, None, Result, Ok}
use Rattle.xns_spp.specs.Receiving.{receive_answer, after_receive}
use Rattle.xns_spp.specs.State.{State}
use Rattle.xns_spp.specs.Telling.{unacknowledged_count}
use Rattle.xns_spp.specs.declared.item.Item.{Item}
use Rattle.xns_c.specs.Results.{ok, nothing, no_memory, short, dropped_number}
use Rattle.xns_c.specs.declared.item.XnsItem.{XnsItem}
use Rattle.xns_c.specs.declared.received.XnsReceived.{XnsReceived}

-- C's yes or no: 0 is no
abbrev pub is_yes : ℕ → Bool
is_yes n = not (n == 0)

abbrev pub as_byte : Bool → ℕ
as_byte flag = if flag then 1 else 0

-- the bytes or words were put to the front of a buffer, and their number told; what stood behind them stands there still
abbrev pub IsPut : {A : Type 0} → List A → List A → List A → ℕ → Type 0
IsPut items before after size = (size ≡ length items) × (after ≡ items ++ drop (length items) before)

-- bytes that may not be there are put to the front of a buffer
abbrev pub IsPutIfThere : Option (List ℕ) → List ℕ → List ℕ → ℕ → Type 0
IsPutIfThere None before after size = (size ≡ 0) × (after ≡ before)
IsPutIfThere (Some bytes) before after size = IsPut bytes before after size

-- what was found is told; where nothing was, a number says so, and what was told before stays
abbrev pub IsTold : {A : Type 0} → Option A → ℕ → A → A → ℕ → Type 0
IsTold (Some found) missing was told number = (number ≡ ok) × (told ≡ found)
IsTold None missing was told number = (number ≡ missing) × (told ≡ was)

-- what stands at the front of bytes is told, where they are so many at least; of fewer bytes nothing is
pub record TellsFront {A F B : Type 0} (least : ℕ) (found : Result A F) (meant : B → A) (bytes : List ℕ) (was told : B) (number : ℕ) : Type 0 where
  pub read : number ≡ ok → found ≡ Ok (meant told)
  pub long : least ≤ length bytes → number ≡ ok
  pub short : length bytes < least → number ≡ short
  pub unchanged : number ≢ ok → told ≡ was

-- the item is given but for its bytes
pub record GivesItem (x : Item) (out : XnsItem) : Type 0 where
  pub stream : out.stream ≡ x.stream
  pub attention : out.attention ≡ as_byte x.attention
  pub last : out.last ≡ as_byte x.last

-- the next item is given, its bytes to the front of a buffer that has room for them, or there is none
abbrev pub NextIsTaken : Option Item → XnsItem → List ℕ → List ℕ → ℕ → Type 0
NextIsTaken None after old new number = number ≡ nothing
NextIsTaken (Some x) after old new number = (number ≡ ok) × GivesItem x after × IsPut x.body old new after.length

-- a packet, if there is one, is put to the front of a buffer that has room for it, unless memory is refused
abbrev pub PacketIsGiven : Option (List ℕ) → List ℕ → List ℕ → ℕ → ℕ → Type 0
PacketIsGiven None old new size number = number ≡ nothing
PacketIsGiven (Some packet) old new size number = number ≢ no_memory → (number ≡ ok) × IsPut packet old new size

-- an end with this history tells this of a packet that came, and its reply, if there is one, is put to the front of a buffer
pub record TellsReceived (s : State) (packet : List ℕ) (told : XnsReceived) (old new : List ℕ) : Type 0 where
  pub took : told.took ≡ (receive_answer s packet).took
  pub acknowledged : told.acknowledged ≡ unacknowledged_count s - unacknowledged_count (after_receive s packet)
  pub dropped : told.dropped ≡ dropped_number (receive_answer s packet).dropped
  pub reply : IsPutIfThere (receive_answer s packet).reply old new told.reply
