-- Which connection a packet names (XSIS 028112, Sequenced Packet Protocol, Connection Identifiers).
use Rattle.std.specs.Prelude.{ℕ, ◌==◌, if◌then◌else◌, Option, None, slice_index_or}
use Rattle.std.specs.BTreeMap.{BTreeMap, get}
use Rattle.std.specs.declared.cmp.Ordering.{Ordering}
use Rattle.xns_idp.specs.declared.address.Address.{Address}
use Rattle.xns_host.specs.Identifiers.{Ids}
use Rattle.xns_host.specs.contracts.peer.PeerOrd.TheImpl as peer_ord
use Rattle.xns_host.specs.declared.peer.Peer.{Peer}

abbrev pub peer_at : Address → ℕ → ℕ → Peer
peer_at a id to = record { host = a.host; socket = a.socket; id = id; to = to }

-- how peers are ordered: by host, by socket, by identifier, by our socket
abbrev pub peer_cmp : Peer → Peer → Ordering
peer_cmp = (peer_ord.ghosts).cmp

-- the connection that has an identifier of ours
abbrev pub owner_in : Ids → ℕ → Option ℕ
owner_in ids id = slice_index_or ids.owners id None

-- the connection that a packet of this peer names by an identifier of ours, or by 0: a peer that opens one does not know ours yet
abbrev pub number_by : Ids → BTreeMap Peer ℕ → ℕ → Peer → Option ℕ
number_by ids peers id peer = if id == 0 then get peer_cmp peers peer else owner_in ids id
