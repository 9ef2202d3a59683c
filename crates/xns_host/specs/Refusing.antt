-- What a host refuses, and what it tells where one of its connections refuses.
use Rattle.std.specs.Prelude.{◌≡◌, ℕ, Bool, ◌||◌, ◌&&◌, ◌==◌, nat_lt, if◌then◌else◌, List, Option, Some, None, is_none, Result, Ok, Err}
use Rattle.std.specs.BTreeMap.{BTreeMap, btree_map_len}
use Rattle.std.specs.Global.{Global}
use Rattle.std.specs.List.{list_any}
use Rattle.std.specs.declared.vec.Vec.{Vec}
use Rattle.std.specs.Str.{bytes_eq}
use Rattle.courier_sessions.specs.declared.program.Program.{Program}
use Rattle.xns_idp.specs.Packet.{broadcast}
use Rattle.xns_idp.specs.declared.address.Address.{Address}
use Rattle.xns_connection.specs.Refusing.{Answers}
use Rattle.xns_connection.specs.declared.refusal.Refusal.{Refusal}
use Rattle.xns_connection.specs.declared.refusal.Refusal.TheVariants as refusals
use Rattle.xns_host.specs.declared.host_fault.HostFault.{HostFault}
use Rattle.xns_host.specs.declared.host_fault.HostFault.TheVariants.{Busy, PeerCalls, NoCall, Closing, TooLong, NoMemory, EveryHost, NoSocket, EchoSocket, NoVersion, TooManyServices}
use Rattle.xns_host.specs.Services.{most_services, programs_at}
use Rattle.xns_host.specs.Strays.{echo_socket}

abbrev pub fault_of_refusal : Refusal → HostFault
fault_of_refusal refusals.Busy = Busy
fault_of_refusal refusals.PeerCalls = PeerCalls
fault_of_refusal refusals.NoCall = NoCall
fault_of_refusal refusals.Closing = Closing
fault_of_refusal refusals.TooLong = TooLong
fault_of_refusal refusals.NoMemory = NoMemory

-- what is told of what a connection did
abbrev pub told : Result (Unit {0}) Refusal → Result (Unit {0}) HostFault
told (Ok u) = Ok u
told (Err refusal) = Err (fault_of_refusal refusal)

-- what is told where this is the connection's reason against it
pub record TellsRefusal (reason : Option Refusal) (result : Result (Unit {0}) HostFault) : Type 0 where
  pub done : Result (Unit {0}) Refusal
  pub answers : Answers reason done
  pub is : result ≡ told done

-- ---- whatever is there

-- an address of the broadcast host, which is every host
abbrev pub is_every_host : Address → Bool
is_every_host a = bytes_eq a.host broadcast

-- why no connection is opened from an address to another: one of them is every host's, or has no socket
abbrev pub wrong_ends : (own peer : Address) → Option HostFault
wrong_ends own peer =
    if is_every_host own || is_every_host peer then Some EveryHost
    else if own.socket == 0 || peer.socket == 0 then Some NoSocket
    else None

-- a program whose lowest version is above its highest
abbrev pub has_no_version : Program → Bool
has_no_version p = nat_lt p.highest p.lowest

-- why programs are not served at a socket: it is Echo's, or one of the programs has no version, or as many other sockets are served as may be
abbrev pub wrong_service : BTreeMap ℕ (Vec Program Global) → ℕ → List Program → Option HostFault
wrong_service services socket programs =
    if socket == echo_socket then Some EchoSocket
    else if list_any has_no_version programs then Some NoVersion
    else if btree_map_len services == most_services && is_none (programs_at services socket) then Some TooManyServices
    else None
