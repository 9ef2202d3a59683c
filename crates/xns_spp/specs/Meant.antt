-- The numbers that an end means by the fields of a packet.
use Rattle.std.specs.Prelude.{◌≡◌, ℕ, ◌%◌, length, Some}
use Rattle.xns_spp.specs.declared.field_numbers.FieldNumbers.{FieldNumbers}
use Rattle.xns_spp.specs.declared.header.Header.{Header}
use Rattle.xns_spp.specs.Nearest.{field_round}
use Rattle.xns_spp.specs.State.{State, window_top}

-- the numbers that a packet's fields were made of
pub record Meant : Type 0 where
  pub sequence : ℕ
  pub acknowledge : ℕ
  pub allocation : ℕ

-- an end means by the fields what it has taken, and the last number that it has room for
abbrev pub own_meant : State → (sequence : ℕ) → Meant
own_meant s sequence = record { sequence = sequence; acknowledge = length s.taken; allocation = window_top s }

-- the fields are those numbers modulo a round
pub record IsReduced (h : Header) (m : Meant) : Type 0 where
  pub sequence : h.sequence ≡ m.sequence % field_round
  pub acknowledge : h.acknowledge ≡ m.acknowledge % field_round
  pub allocation : h.allocation ≡ m.allocation % field_round

-- the numbers that an end reads in the fields where it reads what was meant
abbrev pub as_meant : Meant → FieldNumbers
as_meant m = record { sequence = Some m.sequence; acknowledge = Some m.acknowledge; allocation = Some m.allocation }
