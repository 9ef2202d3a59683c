-- The Packet Exchange protocol (XSIS 028112, Packet Exchange Protocol).
use Rattle.std.specs.Prelude.{◌≡◌, ℕ, ◌<◌, ◌≤◌, ◌^◌, true, List, ◌++◌, length, drop, Result}
use Rattle.std.specs.Int.{w16, w32, to_be_bytes}
use Rattle.xns_idp.specs.Packet.{PacketModel, same_place}
use Rattle.xns_idp.specs.Reading.{word_at, long_at}
use Rattle.xns_idp.specs.declared.address.Address.{Address}
use Rattle.xns_small.specs.Reading.{unless_short}
use Rattle.xns_small.specs.Sending.{sent_packet}
use Rattle.xns_small.specs.declared.exchange.Exchange.{Exchange}
use Rattle.xns_small.specs.declared.fault.SmallFault.{SmallFault}

-- a request or response without where its bytes lie in memory
pub record ExchangeModel : Type 0 where
  pub id : ℕ
  pub client : ℕ
  pub body : List ℕ

abbrev pub exchange_model : Exchange → ExchangeModel
exchange_model v = record { id = v.id; client = v.client; body = v.body.now }

-- the identifier, the client type, and then the bytes
abbrev pub exchange_spelling : ExchangeModel → List ℕ
exchange_spelling v = to_be_bytes w32 v.id ++ to_be_bytes w16 v.client ++ v.body

-- the bytes spell the request or response
abbrev pub SpellsExchange : ExchangeModel → List ℕ → Type 0
SpellsExchange v bytes = bytes ≡ exchange_spelling v

-- the numbers of a request or response are within their types
pub record IsExchange (v : ExchangeModel) : Type 0 where
  pub id : v.id < 2 ^ 32
  pub client : v.client < 2 ^ 16

-- the request or response that stands in the places of the fields, or the first fault of the bytes
unfoldable pub exchange_of : List ℕ → Result ExchangeModel SmallFault
exchange_of bytes = unless_short 6 bytes (record { id = long_at bytes 0; client = word_at bytes 4; body = drop 6 bytes })

-- ---- the asking side

-- the request that goes out
unfoldable pub asking_packet : Address → Address → ℕ → ℕ → List ℕ → List ℕ
asking_packet own target id client body = sent_packet 4 own target (exchange_spelling (record { id = id; client = client; body = body }))

-- whom a requester asks, under which identifier, and by which packet
pub record RequesterModel : Type 0 where
  pub asked : Address
  pub id : ℕ
  pub packet : List ℕ

abbrev pub requester_asking : Address → Address → ℕ → ℕ → List ℕ → RequesterModel
requester_asking own target id client body = record { asked = target; id = id; packet = asking_packet own target id client body }

-- the packet is the response: of type 4, from the place that was asked, with the identifier; network numbers are not compared
pub record IsResponse (requester : RequesterModel) (p : PacketModel) : Type 0 where
  pub kind : p.kind ≡ 4
  pub size : 6 ≤ length p.body
  pub place : same_place p.source requester.asked ≡ true
  pub id : long_at p.body 0 ≡ requester.id
