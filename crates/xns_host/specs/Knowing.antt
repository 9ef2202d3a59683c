-- What a host knows of a connection.
use Rattle.std.specs.Prelude.{ℕ, Option, Some, None}
use Rattle.xns_idp.specs.declared.address.Address.{Address}
use Rattle.xns_connection.specs.Ends.{peer_that_opened}
use Rattle.xns_host.specs.Register.{peer_at}
use Rattle.xns_host.specs.declared.guest.Guest.{Guest}
use Rattle.xns_host.specs.declared.peer.Peer.{Peer}

-- our identifier of the connection, which its end has
abbrev pub id_of : Guest → ℕ
id_of g = g.connection.conversation.endpoint.ends.id

-- a peer that opened a connection, by its address and identifier, and at which socket of ours
abbrev pub opener_to : (socket : ℕ) → Option (Address × ℕ) → Option Peer
opener_to socket None = None
opener_to socket (Some o) = Some (peer_at o.0 o.1 socket)

-- the peer that opened the connection, and at which socket of ours, as the connection's end says; none where we opened it
abbrev pub who_opened : Guest → Option Peer
who_opened g = opener_to g.connection.conversation.endpoint.ends.own.socket (peer_that_opened g.connection)

-- what a host knows of a connection beside what the connection is: by which via its packets go out, and its peer
pub record KnownOfPeer : Type 0 where
  pub via : ℕ
  pub peer : Address

abbrev pub known_of_peer : Guest → KnownOfPeer
known_of_peer g = record { via = g.via; peer = g.peer }

-- what a host knows of the connection in this place
abbrev pub known_in : Option Guest → Option KnownOfPeer
known_in None = None
known_in (Some g) = Some (known_of_peer g)
