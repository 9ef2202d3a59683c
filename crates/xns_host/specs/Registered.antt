-- Where the register leads the packets of connections.
use Rattle.std.specs.Prelude.{◌≡◌, ◌≢◌, ◌⊎◌, ℕ, ◌<◌, List, Option, Some, None, slice_get}
use Rattle.std.specs.BTreeMap.{get}
use Rattle.xns_spp.specs.declared.ends.Ends.{Ends}
use Rattle.xns_spp.specs.declared.role.Role.TheVariants.{Responder}
use Rattle.xns_host.specs.Hosting.{IsThere}
use Rattle.xns_spp.specs.Packet.{SppPacketModel}
use Rattle.xns_host.specs.Knowing.{id_of, who_opened}
use Rattle.xns_host.specs.Register.{number_by, owner_in, peer_at, peer_cmp}
use Rattle.xns_connection.specs.Story.{Story}
use Rattle.xns_connection.specs.Telling.{Tells}
use Rattle.xns_host.specs.declared.guest.Guest.{Guest}
use Rattle.xns_host.specs.declared.peer.Peer.{Peer}
use Rattle.xns_host.specs.declared.register.Register.{Register}

-- the number of the connection that a packet names
abbrev pub named_in : Register → SppPacketModel → Option ℕ
named_in register p = number_by register.identifiers register.peers p.header.target_id (peer_at p.source p.header.source_id p.target.socket)

-- who opened a connection, as the end knows it that answers
abbrev pub opener_at : Ends → Peer
opener_at e = peer_at e.peer e.peer_id e.own.socket

-- the connection has this story; where its end is a responder, the end's peer opened the connection
pub record HasStory (g : Guest) : Type 0 where
  pub story : Story
  pub tells : Tells g.connection.conversation story
  pub opener : story.state.ends.role ≡ Responder → who_opened g ≡ Some (opener_at story.state.ends)

-- a connection has a story, and the register leads each of its names to a number
pub record IsRegistered (r : Register) (number : ℕ) (g : Guest) : Type 0 where
  pub story : ∥ HasStory g ∥₁
  pub known : 0 < id_of g
  pub own : owner_in r.identifiers (id_of g) ≡ Some number
  pub opener : (o : Peer) → who_opened g ≡ Some o → get peer_cmp r.peers o ≡ Some number

-- the register leads each name of each connection to its number, and leads to nothing else
pub record IsAllRegistered (r : Register) (guests : List (Option Guest)) : Type 0 where
  pub each : (n : ℕ) (g : Guest) → slice_get guests n ≡ Some (Some g) → IsRegistered r n g
  pub ids : (id n : ℕ) → owner_in r.identifiers id ≡ Some n → ∥ IsThere (λ g. id_of g ≡ id) (slice_get guests n) ∥₁
  pub peers : (o : Peer) (n : ℕ) → get peer_cmp r.peers o ≡ Some n → ∥ IsThere (λ g. who_opened g ≡ Some o) (slice_get guests n) ∥₁

-- nothing names both of these connections
pub record IsAnother (g h : Guest) : Type 0 where
  pub own : id_of h ≢ id_of g
  pub opener : (o : Peer) → who_opened g ≡ Some o → who_opened h ≢ Some o

-- the register leads to none what names this connection
pub record IsUnregistered (r : Register) (g : Guest) : Type 0 where
  pub own : owner_in r.identifiers (id_of g) ≡ None
  pub opener : (o : Peer) → who_opened g ≡ Some o → get peer_cmp r.peers o ≡ None

-- the register leads to each connection and to a new one with this number, which shares no name with them, and to nothing else
pub record HasRegistered (r : Register) (guests : List (Option Guest)) (number : ℕ) (new : Guest) : Type 0 where
  pub each : (n : ℕ) (g : Guest) → slice_get guests n ≡ Some (Some g) → IsRegistered r n g × IsAnother g new
  pub is : IsRegistered r number new
  pub ids : (id n : ℕ) → owner_in r.identifiers id ≡ Some n → (id_of new ≡ id) ⊎ ∥ IsThere (λ g. id_of g ≡ id) (slice_get guests n) ∥₁
  pub peers : (o : Peer) (n : ℕ) → get peer_cmp r.peers o ≡ Some n
      → (who_opened new ≡ Some o) ⊎ ∥ IsThere (λ g. who_opened g ≡ Some o) (slice_get guests n) ∥₁

-- the connection in this place left the register: nothing leads to it any longer, to each other one it leads still, and nothing new leads
-- to any
pub record HasLeft (old new : Register) (place : Option (Option Guest)) : Type 0 where
  pub gone : (g : Guest) → place ≡ Some (Some g) → IsUnregistered new g
  pub ids : (id n : ℕ) → owner_in new.identifiers id ≡ Some n → owner_in old.identifiers id ≡ Some n
  pub peers : (o : Peer) (n : ℕ) → get peer_cmp new.peers o ≡ Some n → get peer_cmp old.peers o ≡ Some n
  pub others : (n : ℕ) (g : Guest) → IsRegistered old n g → ((h : Guest) → place ≡ Some (Some h) → IsAnother h g) → IsRegistered new n g
