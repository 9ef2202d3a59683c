-- What the readers of this crate return.
use Rattle.std.specs.Prelude.{ℕ, nat_lt, if◌then◌else◌, List, length, Result, Ok, Err}
use Rattle.xns_small.specs.declared.fault.SmallFault.{SmallFault}
use Rattle.xns_small.specs.declared.fault.SmallFault.TheVariants.{Short}

-- the result of a reader, without where its bytes lie in memory
abbrev pub answer_model : {V M : Type 0} → (V → M) → Result V SmallFault → Result M SmallFault
answer_model model (Ok v) = Ok (model v)
answer_model model (Err f) = Err f

-- the value that stands in the places of the fields, unless the bytes are fewer than the fields take
abbrev pub unless_short : {M : Type 0} → (least : ℕ) → List ℕ → M → Result M SmallFault
unless_short least bytes fields = if nat_lt (length bytes) least then Err (Short (length bytes)) else Ok fields
