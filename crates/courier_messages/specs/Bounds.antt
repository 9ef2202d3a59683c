-- How much a session holds.
use Rattle.std.specs.Prelude.{◌<◌, ◌≤◌, ℕ, List, length}
use Rattle.std.specs.Coded.{le_prop, Unit-prop}
use Rattle.std.specs.List.{flat_map}
use Rattle.xns_spp.specs.declared.item.Item.{Item}
use Rattle.courier_messages.specs.declared.spare.TheConstants.{FIRST_ROOM}
use Rattle.courier_messages.specs.Message.{most_bytes}
use Rattle.courier_messages.specs.Conversation.{range_bytes, Phase, opening, fresh, inside}

-- what a session keeps of the text: fewer than four bytes of the version range, or at most a message
abbrev pub IsWithinMessage : Phase → Type 0
IsWithinMessage (opening bytes) = length bytes < range_bytes
IsWithinMessage fresh = Unit {0}
IsWithinMessage (inside bytes) = length bytes ≤ most_bytes

pub IsWithinMessage-prop : (p : Phase) → IsProp (IsWithinMessage p)
IsWithinMessage-prop (opening bytes) = le_prop
IsWithinMessage-prop fresh = Unit-prop
IsWithinMessage-prop (inside bytes) = le_prop

-- how many words a message that is made has room for at first
abbrev pub first_room : ℕ
first_room = FIRST_ROOM

-- the bytes of items, one body behind the other
abbrev pub bytes_in : List Item → List ℕ
bytes_in items = flat_map (λ x. x.body) items
