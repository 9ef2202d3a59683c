-- The end of a connection: who opened it, and what stays of it whatever is done.
use Rattle.std.specs.Prelude.{◌≡◌, ℕ, List, true, Option, Some, None, Result}
use Rattle.std.specs.declared.alloc.AllocError.{AllocError}
use Rattle.xns_idp.specs.declared.address.Address.{Address}
use Rattle.xns_spp.specs.Ends.{is_open}
use Rattle.xns_spp.specs.declared.ends.Ends.{Ends}
use Rattle.xns_spp.specs.declared.role.Role.{Role}
use Rattle.xns_spp.specs.declared.role.Role.TheVariants.{Initiator, Responder}
use Rattle.xns_connection.specs.Deeds.{Deed, acted, unserved}
use Rattle.xns_connection.specs.Step.{GivesNext, Hands, Step, parts_of}
use Rattle.xns_connection.specs.declared.connection.Connection.{Connection}

-- ---- who opened it

-- the peer that opened the connection of an end with this role, and the peer's identifier; none where the end itself opened it
abbrev pub opener_by : Role → Ends → Option (Address × ℕ)
opener_by Initiator e = None
opener_by Responder e = Some (e.peer, e.peer_id)

-- the peer that opened the connection, and the peer's identifier; none where our side opened it
abbrev pub peer_that_opened : Connection → Option (Address × ℕ)
peer_that_opened c = opener_by c.conversation.endpoint.ends.role c.conversation.endpoint.ends

-- ---- what stays

-- an end is as it was, except that an end that is not open may have learned its peer
pub record IsSameEnd (old new : Ends) : Type 0 where
  pub same : new ≡ record old { peer = new.peer; peer_id = new.peer_id }
  pub known : is_open old ≡ true → new ≡ old

-- a connection has the end that it had, and the same one opened it
pub record KeepsEnd (old new : Connection) : Type 0 where
  pub end : IsSameEnd old.conversation.endpoint.ends new.conversation.endpoint.ends
  pub opener : peer_that_opened new ≡ peer_that_opened old

-- a connection keeps its end at each step, when it is asked for a packet, when a message is handed, when what is due is done, and when
-- nobody hears its packets
pub record AConnectionKeepsItsEnd : Type 0 where
  pub steps : (now : ℕ) (deed : Deed) (old new : Connection) → Step now deed old new → KeepsEnd old new
  pub gives : (now : ℕ) (result : Result (Option (List ℕ)) AllocError) (old new : Connection) → GivesNext now result old new → KeepsEnd old new
  pub hands : (now : ℕ) (old new : Connection) → Hands now old new → KeepsEnd old new
  pub acts : (now : ℕ) (old new : Connection) → parts_of new ≡ acted (parts_of old) now → KeepsEnd old new
  pub refused : (number now : ℕ) (old new : Connection) → parts_of new ≡ unserved (parts_of old) number now → KeepsEnd old new
