-- Faults, and refused memory in their place.
use Rattle.std.specs.Prelude.{◌≡◌, ◌≢◌, ◌+◌, ◌<◌, ℕ, List, [], length, map, Option, Result, Ok, Err, IsOk}
use Rattle.std.specs.Option.{option_to_list}
use Rattle.xns_spp.specs.declared.item.Item.{Item}
use Rattle.courier_messages.specs.declared.fault.MessageFault.{MessageFault}
use Rattle.courier_messages.specs.declared.fault.MessageRefusal.{MessageRefusal}
use Rattle.courier_messages.specs.declared.fault.MessageRefusal.TheVariants as refusals
use Rattle.courier_messages.specs.declared.fault.SessionFault.{SessionFault}
use Rattle.courier_messages.specs.declared.fault.SessionFault.TheVariants.{NoCommonVersion, BadVersions, BadMessage, WrongTransaction}
use Rattle.courier_messages.specs.declared.fault.SessionFault.TheVariants.{BadReply, Stream, NoMemory, Failed}
use Rattle.courier_messages.specs.declared.message.Message.{Message}
use Rattle.courier_messages.specs.Head.{words_in, head_in}
use Rattle.courier_messages.specs.declared.head.Head.{Head}
use Rattle.courier_messages.specs.Text.{byte, signs}
use Rattle.courier_messages.specs.Conversation.{range_bytes, Phase, opening, fresh, inside}
use Rattle.courier_messages.specs.Phases.{run, said}

-- what a function that reads a message returns: the message or its fault, unless memory was refused
abbrev pub Reads : Result Message MessageRefusal → Result Message MessageFault → Type 0
Reads (Ok m) read = read ≡ Ok m
Reads (Err (refusals.Fault e)) read = read ≡ Err e
Reads (Err refusals.NoMemory) read = Unit {0}

-- P holds where memory was refused
abbrev pub IfNoMemory : Result Message MessageRefusal → Type 0 → Type 0
IfNoMemory (Ok m) P = Unit {0}
IfNoMemory (Err (refusals.Fault e)) P = Unit {0}
IfNoMemory (Err refusals.NoMemory) P = P

-- a message that has words behind its head
abbrev pub HasOwnWords : Result Message MessageFault → Type 0
HasOwnWords (Ok m) = 0 < length (words_in m)
HasOwnWords (Err e) = ⊥

-- a fault that a peer makes, in which case P holds, or a want of memory, in which case M holds
abbrev pub Stops : SessionFault → Type 0 → Type 0 → Type 0
Stops NoMemory M P = M
Stops NoCommonVersion M P = P
Stops BadVersions M P = P
Stops (BadMessage e) M P = P
Stops WrongTransaction M P = P
Stops BadReply M P = P
Stops (Stream kind) M P = P
Stops Failed M P = ⊥

-- a fault that a peer makes, in which case P holds, or a want of memory, which says nothing
abbrev pub UnlessMemory : SessionFault → Type 0 → Type 0
UnlessMemory e P = Stops e (Unit {0}) P

-- a function came to `new`, to which q leads; or it returned the fault of q; or memory was refused
abbrev pub ComesTo : {X A : Type 0} → Result X SessionFault → Result A SessionFault → A → Type 0
ComesTo (Ok x) q new = q ≡ Ok new
ComesTo (Err e) q new = UnlessMemory e (q ≡ Err e)

-- a function came to `new`, to which q leads, and ms is the message that it returned, if any; or it returned the fault
-- of q, and ms is empty; or memory was refused
abbrev pub ComesToWith : {A : Type 0} → Result (Option Message) SessionFault → Result A SessionFault → List Message → A → Type 0
ComesToWith (Ok m) q ms new = (q ≡ Ok new) × (ms ≡ option_to_list m)
ComesToWith (Err e) q ms new = UnlessMemory e ((q ≡ Err e) × (ms ≡ []))

-- what a function returns of an item before it is taken: the head of the message that it ends, if it ends one, or the fault that a peer
-- makes
abbrev pub Foresees : {A : Type 0} → Result (Option Head) SessionFault → Result A SessionFault → List Message → Type 0
Foresees (Ok head) q ms = IsOk q × (map head_in ms ≡ option_to_list head)
Foresees (Err e) q ms = Stops e ⊥ ((q ≡ Err e) × (ms ≡ []))

-- the bytes bring no fault in this phase
abbrev pub AreRight : Phase → List ℕ → Type 0
AreRight p bytes = (e : SessionFault) → run p (map byte bytes) ≡ Err e → ⊥

-- More bytes make a second piece: some bytes are kept already. Bytes that just complete the version range make none,
-- since nothing is kept of a whole version range with nothing behind it.
abbrev pub MakeSecondPiece : Phase → List ℕ → Type 0
MakeSecondPiece (opening bytes) more = (0 < length bytes) × (length bytes + length more ≢ range_bytes)
MakeSecondPiece fresh more = ⊥
MakeSecondPiece (inside bytes) more = 0 < length bytes

-- none of the bytes that came are kept
abbrev pub KeepsNothing : Phase → Type 0
KeepsNothing (opening bytes) = bytes ≡ []
KeepsNothing fresh = Unit {0}
KeepsNothing (inside bytes) = bytes ≡ []

-- bytes for which memory may be refused: there are some, nothing is wrong with them, and they are not the first that are kept
abbrev pub MayBeKept : Phase → List ℕ → Type 0
MayBeKept p bytes = (0 < length bytes) × AreRight p bytes × MakeSecondPiece p bytes

-- an item at which memory may be refused: it is of datastream 0, has bytes to keep behind others or ends a message, and nothing is wrong
-- with its bytes
abbrev pub MayGrow : Phase → Item → Type 0
MayGrow p x = (x.stream ≡ 0) × (said p (signs x) ≡ [] → (0 < length x.body) × MakeSecondPiece p x.body) × AreRight p x.body
