-- How messages go out (XSIS 038112, Courier, Message stream).
use Rattle.std.specs.Prelude.{ℕ, ◌-◌, ◌/◌, zero, suc, List, [], ◌∷◌, length, take, drop, Bool, true, false}
use Rattle.xns_spp.specs.declared.item.Item.{Item}
use Rattle.xns_spp.specs.Packet.{most_body}
use Rattle.courier_types.specs.Source.{bytes_of}
use Rattle.courier_messages.specs.declared.message.Message.{Message}
use Rattle.courier_messages.specs.Message.{message_bytes}
use Rattle.courier_messages.specs.Conversation.{version}

-- the item of a part of a message; the last part ends the message
abbrev pub message_item : Bool → List ℕ → Item
message_item last body = record { stream = 0; attention = false; last = last; body = body }

-- the items of a message's bytes: so many full parts, then all that is left as the part that ends the message
unfoldable pub cut_items : ℕ → List ℕ → List Item
cut_items zero bytes = message_item true bytes ∷ []
cut_items (suc n) bytes = message_item false (take most_body bytes) ∷ cut_items n (drop most_body bytes)

-- the items of a message's bytes: each body is as long as a body may be, but for the last, which may be shorter
unfoldable pub cut_bytes : List ℕ → List Item
cut_bytes bytes = cut_items ((length bytes - 1) / most_body) bytes

abbrev pub cut : Message → List Item
cut m = cut_bytes (message_bytes m)

-- the item that says a side's lowest and highest version
abbrev pub versions_item : Item
versions_item = message_item true (bytes_of (version ∷ version ∷ []))
