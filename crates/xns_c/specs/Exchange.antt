-- Both sides of a packet exchange (XSIS 028112, Packet Exchange Protocol). C holds whom a side asks, and under which identifier.
use Rattle.std.specs.Prelude.{◌≡◌, ◌≢◌, ◌⊎◌, ◌<◌, ◌≤◌, ℕ, ◌+◌, List, [], drop, length}
use Rattle.xns_idp.specs.Packet.{PacketModel, broadcast}
use Rattle.xns_idp.specs.Reading.{long_at, made_even, word_at}
use Rattle.xns_idp.specs.declared.address.Address.{Address}
use Rattle.xns_small.specs.Exchange.{RequesterModel, IsResponse, asking_packet, exchange_of, exchange_spelling}
use Rattle.xns_c.specs.Buffers.{IsUnwritten, WritesUpTo, WritesWhereRoom}
use Rattle.xns_c.specs.Given.{TellsFront}
use Rattle.xns_c.specs.Results.{nothing, bad_argument, too_long}
use Rattle.xns_c.specs.Views.{HasPacket, StandsIn}

-- the most bytes of data that an exchange carries
abbrev pub most_exchanged : ℕ
most_exchanged = 540

-- the length of a packet of an exchange that carries this many bytes of data: 36 bytes and the data, made even
abbrev pub exchange_size : ℕ → ℕ
exchange_size count = made_even (36 + count)

-- the data of a packet of an exchange are written: 6 bytes, and the bytes that the exchange carries
abbrev pub WritesExchange : (id client : ℕ) → (bytes old new : List ℕ) → (had told result : ℕ) → Type 0
WritesExchange id client bytes old new had told result =
    WritesUpTo most_exchanged bytes (exchange_spelling (record { id = id; client = client; body = bytes })) (6 + length bytes) old new had told result

-- the identifier and the client type are told of the data of a packet of an exchange, 6 bytes, behind which stand its own data
abbrev pub TellsExchange : List ℕ → (was told : ℕ × ℕ) → (result : ℕ) → Type 0
TellsExchange body was told result =
    TellsFront 6 (exchange_of body) (λ (t : ℕ × ℕ). record { id = t.0; client = t.1; body = drop 6 body }) body was told result

-- ---- the side that asks

-- the request to one host is written. Nothing is written where its data are too many, and else nothing where the target is every host
pub record WritesRequest (own target : Address) (id client : ℕ) (bytes old new : List ℕ) (had told result : ℕ) : Type 0 where
  pub long : most_exchanged < length bytes → (result ≡ too_long) × IsUnwritten old new had told
  pub everyone : length bytes ≤ most_exchanged → target.host ≡ broadcast → (result ≡ bad_argument) × IsUnwritten old new had told
  pub written : length bytes ≤ most_exchanged → target.host ≢ broadcast →
      WritesWhereRoom (asking_packet own target id client bytes) (exchange_size (length bytes)) old new had told result

-- a requester that asks this address under this identifier; the packet that it sent says nothing of what the response is
abbrev pub asker : Address → ℕ → RequesterModel
asker target id = record { asked = target; id = id; packet = [] }

-- the bytes are the response, and its own data stand at a place within them
abbrev pub IsResponseIn : RequesterModel → List ℕ → (place size : ℕ) → Type 0
IsResponseIn requester = StandsIn (IsResponse requester) 6

-- ---- the side that answers

-- the packet is one of a packet exchange to this socket, of this host or of the broadcast host, and comes from one host
pub record IsAsked (own : Address) (p : PacketModel) : Type 0 where
  pub kind : p.kind ≡ 4
  pub size : 6 ≤ length p.body
  pub socket : p.target.socket ≡ own.socket
  pub host : (p.target.host ≡ own.host) ⊎ (p.target.host ≡ broadcast)
  pub from : p.source.host ≢ broadcast

-- the bytes begin with a packet of a packet exchange that asks this address
abbrev pub IsAskedBy : Address → List ℕ → Type 0
IsAskedBy own = HasPacket (IsAsked own)

-- a response goes to where the request came from, with the request's identifier and client type
abbrev pub answering_packet : Address → PacketModel → List ℕ → List ℕ
answering_packet own request bytes = asking_packet own request.source (long_at request.body 0) (word_at request.body 4) bytes

-- the response to a packet that asks is written. Nothing is written where the response's data are too many, and else nothing where the bytes
-- begin with no packet that asks
pub record WritesResponse (own : Address) (request bytes old new : List ℕ) (had told result : ℕ) : Type 0 where
  pub long : most_exchanged < length bytes → (result ≡ too_long) × IsUnwritten old new had told
  pub written : length bytes ≤ most_exchanged → (r : IsAskedBy own request) →
      WritesWhereRoom (answering_packet own r.packet bytes) (exchange_size (length bytes)) old new had told result
  pub only : length bytes ≤ most_exchanged → result ≢ nothing → IsAskedBy own request
  pub nothing : result ≡ nothing → IsUnwritten old new had told
