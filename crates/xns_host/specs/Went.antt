-- What one call does to a connection in its place at a host: all of it.
use Rattle.std.specs.Prelude.{◌≡◌, ◌≢◌, ◌||◌, ℕ, List, Bool, true, false, Option, Some, None, Result, Ok, Err}
use Rattle.std.specs.Option.{is_some}
use Rattle.std.specs.declared.alloc.AllocError.{AllocError}
use Rattle.xns_spp.specs.Held.{StandsFor}
use Rattle.xns_spp.specs.Receiving.{StoresBytes}
use Rattle.xns_spp.specs.State.{State}
use Rattle.xns_connection.specs.Deeds.{Deed, acted, heard, unserved}
use Rattle.xns_connection.specs.Step.{GivesNext, Hands, Step, parts_of}
use Rattle.xns_connection.specs.Story.{waiting_message}
use Rattle.xns_host.specs.Events.{is_newly_open}
use Rattle.xns_host.specs.declared.guest.Guest.{Guest}
use Rattle.xns_host.specs.declared.host_fault.HostFault.{HostFault}
use Rattle.xns_host.specs.declared.host_fault.HostFault.TheVariants.{NoMemory}
use Rattle.xns_host.specs.declared.outgoing.Outgoing.{Outgoing}

-- ---- what the program does

-- the connection made this step, and nothing else of it changed
pub record GuestStep (now : ℕ) (deed : Deed) (g h : Guest) : Type 0 where
  pub same : h ≡ record g { connection = h.connection }
  pub step : Step now deed g.connection h.connection

-- the connection in the old place did this, and is in the new one
abbrev pub Went : ℕ → Deed → (old new : Option (Option Guest)) → Type 0
Went now deed None new = ⊥
Went now deed (Some None) new = ⊥
Went now deed (Some (Some g)) None = ⊥
Went now deed (Some (Some g)) (Some None) = ⊥
Went now deed (Some (Some g)) (Some (Some h)) = GuestStep now deed g h

-- the program gave it this tag, and nothing else of it changed
abbrev pub GuestTagged : (tag : ℕ) → (g h : Guest) → Type 0
GuestTagged tag g h = h ≡ record g { tag = tag }

-- ---- what comes

-- bytes came to the connection, which is confirmed where they confirm it
pub record GuestHeard (now : ℕ) (bytes : List ℕ) (confirming : Bool) (g h : Guest) : Type 0 where
  pub same : h ≡ record g { connection = h.connection; confirmed = confirming || g.confirmed }
  pub step : Step now (heard bytes) g.connection h.connection

-- bytes came to the connection; or they bring an item for whose bytes memory was refused, and are as if lost
pub data GuestHears (now : ℕ) (bytes : List ℕ) (confirming : Bool) (g : Guest) : Guest → Type 0 where
  hears : {h : Guest} → GuestHeard now bytes confirming g h → GuestHears now bytes confirming g h
  lost : ((s : State) → StandsFor g.connection.conversation.endpoint s → StoresBytes s bytes) → GuestHears now bytes confirming g g

-- nobody hears the packets of the connection, as an Error packet of this number says
pub record GuestUnserved (now error : ℕ) (g h : Guest) : Type 0 where
  pub same : h ≡ record g { connection = h.connection }
  pub parts : parts_of h.connection ≡ unserved (parts_of g.connection) error now

-- ---- what the program is told

-- the program was told that the connection is open, and nothing else of it changed
abbrev pub GuestAnnounced : (g h : Guest) → Type 0
GuestAnnounced g h = h ≡ record g { opening_untold = false }

-- the message that waits was handed, and the host knows from then on that the program was handed one; where none waits, the program was told
-- why the connection is closed. That it is open is not told any longer
pub record GuestTells (now : ℕ) (g h : Guest) : Type 0 where
  pub same : h ≡ record g {
    connection = h.connection;
    heard_of = is_some (waiting_message g.connection.conversation.side) || g.heard_of;
    opening_untold = false;
  }
  pub handed : waiting_message g.connection.conversation.side ≢ None → Hands now g.connection h.connection
  pub closed : waiting_message g.connection.conversation.side ≡ None → h.connection ≡ record g.connection { told = true }

-- the first of all that there is to tell was told: that the connection is open, or the rest
pub record GuestReports (now : ℕ) (g h : Guest) : Type 0 where
  pub opened : is_newly_open g ≡ true → GuestAnnounced g h
  pub later : is_newly_open g ≡ false → GuestTells now g h

-- ---- what is due, and what goes out

-- what was due at this time was done
pub record GuestActs (now : ℕ) (g h : Guest) : Type 0 where
  pub same : h ≡ record g { connection = h.connection }
  pub parts : parts_of h.connection ≡ acted (parts_of g.connection) now

-- no packet goes out; where one may be there still, memory was refused
abbrev pub none_by : (packet_left : Bool) → Result (Option Outgoing) HostFault
none_by true = Err NoMemory
none_by false = Ok None

-- a packet goes out by the way of its connection
abbrev pub given_by : (way : ℕ) → (packet_left : Bool) → Result (Option (List ℕ)) AllocError → Result (Option Outgoing) HostFault
given_by way left (Ok (Some p)) = Ok (Some (record { via = way; packet = p }))
given_by way left (Ok None) = none_by left
given_by way left (Err e) = Err NoMemory

-- the connection was asked for its next packet
pub record GuestGives (now : ℕ) (result : Result (Option Outgoing) HostFault) (g h : Guest) : Type 0 where
  pub answer : Result (Option (List ℕ)) AllocError
  pub same : h ≡ record g { connection = h.connection }
  pub gave : GivesNext now answer g.connection h.connection
  pub is : result ≡ given_by g.via h.connection.owed.fresh answer
