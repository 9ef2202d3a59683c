-- What the definitions imply: the statements of the laws, and the words that they need.
use Rattle.std.specs.Prelude.{◌≡◌, ◌<◌, ◌≤◌, ◌+◌, ◌%◌, [], ◌∷◌, ◌++◌, ◌↔◌, ℕ, List, map, length, false, Some, None, Result, Ok, Err}
use Rattle.std.specs.List.{All, AllByRecursion, flat_map}
use Rattle.xns_spp.specs.declared.item.Item.{Item}
use Rattle.xns_spp.specs.Growth.{Begins}
use Rattle.xns_spp.specs.Item.{IsItem, IsShortItem}
use Rattle.courier_types.specs.Pieces.{words_of}
use Rattle.courier_types.specs.Shape.{ShapeModel}
use Rattle.courier_types.specs.Value.{ValueModel}
use Rattle.courier_types.specs.Spelling.{SpellsValue, AreWords}
use Rattle.courier_messages.specs.declared.fault.SessionFault.{SessionFault}
use Rattle.courier_messages.specs.declared.message.Message.{Message}
use Rattle.courier_messages.specs.Message.{IsMessage, SpellsMessage, most_words, most_bytes, message_words, message_bytes, message_of}
use Rattle.courier_messages.specs.Text.{Sign, byte, signs, marked, written, pieces, rest, foreign_in}
use Rattle.courier_messages.specs.Bounds.{IsWithinMessage, bytes_in}
use Rattle.courier_messages.specs.Conversation.{Phase, opening, inside, conversation, ending}
use Rattle.courier_messages.specs.Phases.{run, said, onwards, ◌then◌}
use Rattle.courier_messages.specs.Cutting.{cut, versions_item}
use Rattle.courier_messages.specs.RawCalls.{RawCall, IsShortCall, call_message, call_items, caller_items, numbered, numbered_message}
use Rattle.courier_messages.specs.RawCalls.{transaction_of}
use Rattle.courier_messages.specs.Called.{calls_of, called_ending, server_ending}
use Rattle.courier_messages.specs.Whole.{whole}

-- the message has at most 131,072 bytes
abbrev pub IsShort : Message → Type 0
IsShort m = length (message_words m) ≤ most_words

-- the item of the versions, then each message, cut
abbrev pub items_of : List Message → List Item
items_of ms = versions_item ∷ flat_map cut ms

-- a conversation ends without a fault
abbrev pub IsFaultless : Result Phase SessionFault → Type 0
IsFaultless (Ok p) = Unit {0}
IsFaultless (Err e) = ⊥

-- an item that the Sequenced Packet Protocol accepts, without attention and of Courier's datastream, which is 0
pub record IsSendableItem (x : Item) : Type 0 where
  pub short : IsShortItem x
  pub plain : x.attention ≡ false
  pub stream : x.stream ≡ 0

-- a server that goes on is fed one more item
pub record GoesOnWithItem (fed : List Item) (p : Phase) (item : Item) : Type 0 where
  pub said_then : conversation (fed ++ item ∷ []) ≡ conversation fed ++ said p (signs item)
  pub ends : server_ending (fed ++ item ∷ []) ≡ called_ending (said p (signs item)) (run p (signs item))
  pub calls_then : calls_of (conversation (fed ++ item ∷ [])) ≡ calls_of (conversation fed) ++ calls_of (said p (signs item))

-- a server that met a fault is fed one more item: the first fault stays, and no call comes behind it
pub record StaysFailed (fed : List Item) (item : Item) (fault : SessionFault) : Type 0 where
  pub calls : calls_of (conversation (fed ++ item ∷ [])) ≡ calls_of (conversation fed)
  pub ending : server_ending (fed ++ item ∷ []) ≡ Err fault

-- the messages that were heard begin those that were sent, and no fault was met
pub record Hears (fed : List Item) (sent : List Message) : Type 0 where
  pub front : Begins (conversation fed) sent
  pub well : IsFaultless (ending fed)

-- the calls that a server heard begin those that were made, each with its transaction, and no fault was met
pub record HearsCalls (fed : List Item) (made : List RawCall) : Type 0 where
  pub messages : Begins (conversation fed) (map numbered_message (numbered 1 made))
  pub calls : Begins (calls_of (conversation fed)) (numbered 1 made)
  pub well : IsFaultless (server_ending fed)

-- the statements of the laws, each under the name of its law

pub record MessageIsSpelled : Type 0 where
  pub said : (m : Message) (bytes : List ℕ) → length bytes % 2 ≡ 0 → SpellsMessage m (words_of bytes) → message_of bytes ≡ Ok m
  pub written : (m : Message) (words : List ℕ) → SpellsMessage m words → message_of (message_bytes m) ≡ Ok m
  pub short : (bytes : List ℕ) (m : Message) → message_of bytes ≡ Ok m → IsShort m

abbrev pub WholeValueIsSpelled : Type 0
WholeValueIsSpelled = (shape : ShapeModel) (value : ValueModel) (words : List ℕ) → AreWords words
    → (whole shape words ≡ Some value) ↔ SpellsValue shape value words

abbrev pub TextIsItsPieces : Type 0
TextIsItsPieces = (text : List Sign) → foreign_in text ≡ None → flat_map marked (pieces text) ++ map byte (rest text) ≡ text

pub record ConversationIsReadSignBySign : Type 0 where
  pub messages : (fed : List Item) → conversation fed ≡ said (opening []) (written fed)
  pub ending : (fed : List Item) → ending fed ≡ run (opening []) (written fed)

abbrev pub WhatIsKeptIsBounded : Type 0
WhatIsKeptIsBounded = (fed : List Item) (p : Phase) → ending fed ≡ Ok p → IsWithinMessage p

pub record MessageItemsCanBeSent : Type 0 where
  pub items : (m : Message) → IsMessage m → All IsSendableItem (cut m)
  pub versions : IsSendableItem versions_item
  pub size : (m : Message) → IsShort m → length (bytes_in (cut m)) ≤ most_bytes

abbrev pub WhatIsHeardHasNumbers : Type 0
WhatIsHeardHasNumbers = (fed : List Item) → AllByRecursion IsItem fed → AllByRecursion IsMessage (conversation fed)

pub record CutsDoNotMatter : Type 0 where
  pub messages : (one other : List Item) → written one ≡ written other → conversation one ≡ conversation other
  pub ending : (one other : List Item) → written one ≡ written other → ending one ≡ ending other

pub record WhatIsSentIsHeard : Type 0 where
  pub messages : (sent : List Message) → AllByRecursion IsShort sent → conversation (items_of sent) ≡ sent
  pub ending : (sent : List Message) → AllByRecursion IsShort sent → ending (items_of sent) ≡ Ok (inside [])

pub record AConversationOnlyGrows : Type 0 where
  pub messages : (front fed : List Item) → Begins front fed → Begins (conversation front) (conversation fed)
  pub fault : (front fed : List Item) → Begins front fed → IsFaultless (ending fed) → IsFaultless (ending front)

pub record SignsRunOn : Type 0 where
  pub run_on : (p : Phase) (text more : List Sign) → run p (text ++ more) ≡ (run p text then λ q. run q more)
  pub said_on : (p : Phase) (text more : List Sign) → said p (text ++ more) ≡ said p text ++ onwards (run p text) (λ q. said q more)

pub record OneItemMore : Type 0 where
  pub messages : (fed : List Item) (item : Item) → conversation (fed ++ item ∷ []) ≡ conversation fed
      ++ onwards (ending fed) (λ p. said p (signs item))
  pub kept : (fed : List Item) (item : Item) → ending (fed ++ item ∷ []) ≡ (ending fed then λ p. run p (signs item))
  -- an item ends at most one message, and none where it brings a fault
  pub single : (item : Item) (p : Phase) → length (said p (signs item)) ≤ 1
  pub silent : (item : Item) (p : Phase) (fault : SessionFault) → run p (signs item) ≡ Err fault → said p (signs item) ≡ []

pub record AServerHearsOneItemMore : Type 0 where
  pub goes : (fed : List Item) (p : Phase) (item : Item) → server_ending fed ≡ Ok p → GoesOnWithItem fed p item
  pub stays : (fed : List Item) (item : Item) (fault : SessionFault) → server_ending fed ≡ Err fault → StaysFailed fed item fault
  -- an item that brings a fault ends no call
  pub silent : (fed : List Item) (item : Item) (fault : SessionFault) → server_ending (fed ++ item ∷ []) ≡ Err fault
      → calls_of (conversation (fed ++ item ∷ [])) ≡ calls_of (conversation fed)

pub record MoreCallsGoOut : Type 0 where
  pub one : (k : ℕ) (calls : List RawCall) (call : RawCall)
      → call_items k (calls ++ call ∷ []) ≡ call_items k calls ++ cut (call_message (transaction_of (k + length calls)) call)
  pub front : (front calls : List RawCall) → Begins front calls → Begins (caller_items front) (caller_items calls)

abbrev pub AFrontIsHeard : Type 0
AFrontIsHeard = (fed : List Item) (sent : List Message) → AllByRecursion IsShort sent → Begins fed (items_of sent) → Hears fed sent

abbrev pub CallsAreHeard : Type 0
CallsAreHeard = (fed : List Item) (made : List RawCall) → AllByRecursion IsShortCall made → Begins fed (caller_items made)
    → HearsCalls fed made

-- a shorter prefix of the items of messages says fewer messages
abbrev pub APartSaysLess : Type 0
APartSaysLess = (fed : List Item) (sent : List Message) → Begins fed (items_of sent) → length fed < length (items_of sent)
    → 0 < length sent → length (conversation fed) < length sent
