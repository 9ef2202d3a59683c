-- The sockets at which connections are answered, and for which programs; and those from which connections were made.
use Rattle.std.specs.Prelude.{◌≡◌, ◌≢◌, ◌⊎◌, ◌<◌, ℕ, Bool, false, List, length, Option, Some, None, option_map, slice_index_or}
use Rattle.std.specs.BTreeMap.{BTreeMap, get}
use Rattle.std.specs.Ordering.{nat_cmp}
use Rattle.std.specs.declared.vec.Vec.{Vec}
use Rattle.std.specs.Global.{Global}
use Rattle.courier_sessions.specs.declared.program.Program.{Program}

-- how many sockets are served at most
abbrev pub most_services : ℕ
most_services = 16

-- the programs that are served at a socket
abbrev pub programs_at : BTreeMap ℕ (Vec Program Global) → ℕ → Option (List Program)
programs_at services socket = option_map (λ v. v.items) (get nat_cmp services socket)

-- from now on these programs are served at a socket, and what is served at the others stays
pub record Serves (old new : BTreeMap ℕ (Vec Program Global)) (socket : ℕ) (programs : List Program) : Type 0 where
  pub here : programs_at new socket ≡ Some programs
  pub others : (other : ℕ) → other ≢ socket → programs_at new other ≡ programs_at old other

-- memory is wanted to serve these programs at a socket: for a copy of them, where there is one, or for a socket that is not served yet
abbrev pub WantsMemory : BTreeMap ℕ (Vec Program Global) → ℕ → List Program → Type 0
WantsMemory services socket programs = (0 < length programs) ⊎ (programs_at services socket ≡ None)

-- sockets have 16 bits
abbrev pub sockets : ℕ
sockets = 65536

-- by socket it stands whether a connection was made from it; of this one it says so
abbrev pub has_called : List Bool → ℕ → Bool
has_called callers socket = slice_index_or callers socket false
