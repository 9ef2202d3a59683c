-- Both sides of the Echo protocol (XSIS 028112, Echo Protocol).
use Rattle.std.specs.Prelude.{◌≡◌, ◌⊎◌, ℕ, ◌+◌, false, true, List, drop, length, Ok}
use Rattle.xns_idp.specs.Packet.{PacketModel, broadcast}
use Rattle.xns_idp.specs.Reading.{made_even}
use Rattle.xns_idp.specs.declared.address.Address.{Address}
use Rattle.xns_small.specs.Echo.{IsAnswered, echo_of, echo_reply, echo_spelling}
use Rattle.xns_small.specs.Sending.{sent_packet}
use Rattle.xns_c.specs.Buffers.{WritesIf, WritesUpTo}
use Rattle.xns_c.specs.Views.{HasPacket, StandsIn}

-- ---- the side that answers

-- the bytes begin with an Echo request to this address
abbrev pub IsRequestTo : Address → List ℕ → Type 0
IsRequestTo own = HasPacket (IsAnswered own)

-- the reply to an Echo request to this address is written; other bytes have no reply, and nothing is written
abbrev pub WritesEchoReply : Address → (bytes old new : List ℕ) → (had told result : ℕ) → Type 0
WritesEchoReply own bytes old new had told result = WritesIf (IsRequestTo own bytes) (λ r. echo_reply own r.packet) old new had told result

-- ---- the side that asks

-- the most bytes that are echoed
abbrev pub most_echoed : ℕ
most_echoed = 544

-- the request that goes out
abbrev pub echo_request : Address → Address → List ℕ → List ℕ
echo_request own target bytes = sent_packet 2 own target (echo_spelling (record { reply = false; body = bytes }))

-- the request is written: 32 bytes and those that are echoed, made even
abbrev pub WritesEchoRequest : (own target : Address) → (bytes old new : List ℕ) → (had told result : ℕ) → Type 0
WritesEchoRequest own target bytes old new had told result =
    WritesUpTo most_echoed bytes (echo_request own target bytes) (made_even (32 + length bytes)) old new had told result

-- the packet is an Echo reply from the socket that was asked, of the host that was asked, or of any where every host was; networks are not
-- compared
pub record IsEchoed (asked : Address) (p : PacketModel) : Type 0 where
  pub kind : p.kind ≡ 2
  pub reply : echo_of p.body ≡ Ok (record { reply = true; body = drop 2 p.body })
  pub socket : p.source.socket ≡ asked.socket
  pub host : (p.source.host ≡ asked.host) ⊎ (asked.host ≡ broadcast)

-- the bytes begin with an Echo reply to what was asked, and what the reply echoes stands at a place within them
abbrev pub IsEchoedIn : (asked : Address) → List ℕ → (place size : ℕ) → Type 0
IsEchoedIn asked = StandsIn (IsEchoed asked) 2
