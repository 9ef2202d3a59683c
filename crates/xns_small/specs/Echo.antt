-- The Echo protocol (XSIS 028112, Echo Protocol).
use Rattle.std.specs.Prelude.{◌≡◌, ℕ, ◌==◌, nat_lt, Bool, true, false, if◌then◌else◌, List, ◌++◌, length, drop, Result, Ok, Err, ◌⊎◌}
use Rattle.std.specs.Int.{w16, to_be_bytes}
use Rattle.xns_idp.specs.Packet.{PacketModel, broadcast}
use Rattle.xns_idp.specs.Reading.{word_at}
use Rattle.xns_idp.specs.declared.address.Address.{Address}
use Rattle.xns_small.specs.Sending.{sent_packet}
use Rattle.xns_small.specs.declared.echo.Echo.{Echo}
use Rattle.xns_small.specs.declared.fault.SmallFault.{SmallFault}
use Rattle.xns_small.specs.declared.fault.SmallFault.TheVariants.{Short, EchoOperation}

-- an Echo request or reply without where its bytes lie in memory
pub record EchoModel : Type 0 where
  pub reply : Bool
  pub body : List ℕ

abbrev pub echo_model : Echo → EchoModel
echo_model v = record { reply = v.reply; body = v.body.now }

-- the operation word, 1 for a request and 2 for a reply, and then the bytes
abbrev pub echo_spelling : EchoModel → List ℕ
echo_spelling v = to_be_bytes w16 (if v.reply then 2 else 1) ++ v.body

-- the bytes spell the request or reply
abbrev pub SpellsEcho : EchoModel → List ℕ → Type 0
SpellsEcho v bytes = bytes ≡ echo_spelling v

-- the Echo that the bytes are by their operation word, or their first fault
unfoldable pub echo_of : List ℕ → Result EchoModel SmallFault
echo_of bytes =
    if nat_lt (length bytes) 2 then Err (Short (length bytes))
    else if word_at bytes 0 == 1 then Ok (record { reply = false; body = drop 2 bytes })
    else if word_at bytes 0 == 2 then Ok (record { reply = true; body = drop 2 bytes })
    else Err (EchoOperation (word_at bytes 0))

-- ---- the reply

-- an Echo request to this socket, of this host or of the broadcast host
pub record IsAnswered (own : Address) (p : PacketModel) : Type 0 where
  pub kind : p.kind ≡ 2
  pub request : echo_of p.body ≡ Ok (record { reply = false; body = drop 2 p.body })
  pub socket : p.target.socket ≡ own.socket
  pub host : (p.target.host ≡ own.host) ⊎ (p.target.host ≡ broadcast)

-- a reply with the request's bytes goes to where the request came from
unfoldable pub echo_reply : Address → PacketModel → List ℕ
echo_reply own p = sent_packet 2 own p.source (echo_spelling (record { reply = true; body = drop 2 p.body }))

-- the packet is the reply to a request: it comes from `own`, goes to the address that the request came from, and carries the same bytes
pub record IsReplyTo (own : Address) (request reply : PacketModel) : Type 0 where
  pub kind : reply.kind ≡ 2
  pub source : reply.source ≡ own
  pub target : reply.target ≡ request.source
  pub echoed : (bytes : List ℕ) → SpellsEcho (record { reply = false; body = bytes }) request.body
      → echo_of reply.body ≡ Ok (record { reply = true; body = bytes })
