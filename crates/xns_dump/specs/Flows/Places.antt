-- How ends of flows are ordered.
use Rattle.std.specs.Prelude.{◌≡◌, ◌<◌, ℕ, ◌+◌, ◌*◌, List, [], ◌∷◌, All, length}
use Rattle.std.specs.Cmp.Lexicographic.{slice_cmp}
use Rattle.std.specs.Ordering.{nat_cmp, on, then_cmp}
use Rattle.std.specs.declared.cmp.Ordering.{Ordering}
use Rattle.xns_dump.specs.declared.flows.place.Place.{Place}

-- the order of ends: by host, then by socket, then by identifier
abbrev pub place_cmp : Place → Place → Ordering
place_cmp = then_cmp (on (λ p. p.host) (slice_cmp nat_cmp)) (then_cmp (on (λ p. p.socket) nat_cmp) (on (λ p. p.identifier) nat_cmp))

-- the number that bytes spell behind a number, the first byte highest
abbrev pub number_behind : ℕ → List ℕ → ℕ
number_behind high [] = high
number_behind high (byte ∷ bytes) = number_behind (high * 256 + byte) bytes

-- host and socket as one number
abbrev pub host_and_socket : Place → ℕ
host_and_socket place = number_behind 0 place.host * 65536 + place.socket

-- a host number has six bytes, and a socket number is a word
pub record IsPlace (place : Place) : Type 0 where
  pub host : length place.host ≡ 6
  pub bytes : All (λ byte. byte < 256) place.host
  pub socket : place.socket < 65536
