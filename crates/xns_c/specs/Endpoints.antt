-- What becomes of an endpoint that C holds, and of the buffer that it writes to.
use Rattle.std.specs.Prelude.{◌≡◌, ◌≢◌, ◌<◌, ◌≤◌, ℕ, List, length, Option, None}
use Rattle.xns_idp.specs.Packet.{most_packet}
use Rattle.xns_spp.specs.Packet.{most_body}
use Rattle.xns_spp.specs.Receiving.{after_receive, NeedsMemory}
use Rattle.xns_spp.specs.Sending.{take_answer, after_take}
use Rattle.xns_spp.specs.State.{State}
use Rattle.xns_spp.specs.Telling.{resend_answer, after_resend}
use Rattle.xns_c.specs.Given.{NextIsTaken, PacketIsGiven, TellsReceived}
use Rattle.xns_c.specs.KeptEndpoint.{KeptEndpoint, KeepsEndpoint, waiting_packets}
use Rattle.xns_c.specs.Results.{ok, no_memory, no_endpoint, short_buffer}
use Rattle.xns_c.specs.declared.item.XnsItem.{XnsItem}
use Rattle.xns_c.specs.declared.received.XnsReceived.{XnsReceived}

-- a buffer wants room for so many bytes. With less room the endpoint is not asked, and that is told; else it is said where there is no endpoint.
-- But for what the buffer wants, something is written and told only where all went well. The packets that wait stay
pub record WantsRoom {A : Type 0} (least : ℕ) (old new : Option KeptEndpoint) (was is : List ℕ) (wants before after : A) (result : ℕ) : Type 0 where
  pub short : length was < least → (result ≡ short_buffer) × (after ≡ wants) × (new ≡ old)
  pub none : old ≡ None → least ≤ length was → (result ≡ no_endpoint) × (new ≡ None)
  pub unchanged : result ≢ ok → is ≡ was
  pub untold : result ≢ ok → result ≢ short_buffer → after ≡ before
  pub packets : waiting_packets new ≡ waiting_packets old

-- the next item is handed up to a buffer that has room for the longest one. With less room the length of the longest is told
pub record HandsUpToBuffer (old new : Option KeptEndpoint) (before after : XnsItem) (was is : List ℕ) (result : ℕ) : Type 0 where
  pub taken : (s : State) → KeepsEndpoint old s → most_body ≤ length was → NextIsTaken (take_answer s) after was is result
  pub stands : (s : State) → KeepsEndpoint old s → most_body ≤ length was → KeepsEndpoint new (after_take s)
  pub room : WantsRoom most_body old new was is (record before { length = most_body }) before after result

-- a packet is taken in, and the reply goes to a buffer that has room for one. With less room 42, the length of a reply, is told
pub record TakesPacket (old new : Option KeptEndpoint) (bytes : List ℕ) (before after : XnsReceived) (was is : List ℕ) (result : ℕ) : Type 0 where
  pub stands : (s : State) → KeepsEndpoint old s → result ≡ ok → KeepsEndpoint new (after_receive s bytes)
  pub told : (s : State) → KeepsEndpoint old s → result ≡ ok → TellsReceived s bytes after was is
  pub memory : (s : State) → KeepsEndpoint old s → 42 ≤ length was → result ≢ ok → (result ≡ no_memory) × NeedsMemory s bytes
  pub same : result ≢ ok → new ≡ old
  pub room : WantsRoom 42 old new was is (record before { reply = 42 }) before after result

-- the first packet that goes out again is written to a buffer that has room for the longest one. With less room the length of the longest is told
pub record ResendsFirst (old new : Option KeptEndpoint) (was is : List ℕ) (had told result : ℕ) : Type 0 where
  pub given : (s : State) → KeepsEndpoint old s → most_packet ≤ length was → PacketIsGiven (resend_answer s) was is told result
  pub stands : (s : State) → KeepsEndpoint old s → most_packet ≤ length was → result ≢ no_memory → KeepsEndpoint new (after_resend s)
  pub memory : result ≡ no_memory → new ≡ old
  pub room : WantsRoom most_packet old new was is most_packet had told result
