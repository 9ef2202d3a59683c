-- Formats whose fields stand in fixed places, and what a reader of one finds.
use Rattle.std.proofs.Common.{◌≡◌, ℕ, ◌<◌, ◌≤◌, Bool, true, false, List, length, get_or, Result, Ok, Err, IfOk, refl, sym, ap, ◌∙◌}
use Rattle.std.specs.Prelude.{nat_lt, if◌then◌else◌}
use Rattle.std.proofs.lemmas.Bool.{le-ltb, ltb-false}
use Rattle.xns_small.specs.Reading.{answer_model, unless_short}
use Rattle.xns_small.specs.declared.fault.SmallFault.{SmallFault}
use Rattle.xns_small.specs.declared.fault.SmallFault.TheVariants.{Short}

-- a format whose fields take `least` bytes: a value that fits is spelled by at least so many bytes, and has the fields of its
-- spelling; so many bytes or more spell their fields
pub record IsFormat {M : Type 0} (Fits : M → Type 0) (spelling : M → List ℕ) (least : ℕ) (fields : List ℕ → M) : Type 0 where
  pub back : (v : M) → Fits v → (least ≤ length (spelling v)) × (fields (spelling v) ≡ v)
  pub front : (bytes : List ℕ) → ((i : ℕ) → get_or bytes i 0 < 256) → least ≤ length bytes → bytes ≡ spelling (fields bytes)

-- what is spelled is read
pub spelled_is_read : {M : Type 0} {Fits : M → Type 0} {spelling : M → List ℕ} {least : ℕ} {fields : List ℕ → M}
    → IsFormat Fits spelling least fields → (v : M) → Fits v → unless_short least (spelling v) (fields (spelling v)) ≡ Ok v
spelled_is_read {M} {Fits} {spelling} {least} {fields} format v fits =
    rw (le-ltb (length (spelling v)) least (format.back v fits).0, (format.back v fits).1) refl

-- where the fields are read, there are bytes for them
long_enough : {M : Type 0} (least : ℕ) (bytes : List ℕ) (fields v : M) → unless_short least bytes fields ≡ Ok v → (least ≤ length bytes) × (fields ≡ v)
long_enough {M} least bytes fields v read = by_test (nat_lt (length bytes) least) refl read
  where
    by_test : (b : Bool) → nat_lt (length bytes) least ≡ b → (if b then Err (Short (length bytes)) else Ok fields) ≡ Ok v → (least ≤ length bytes) × (fields ≡ v)
    by_test true short h = absurd (cc)
    by_test false long h = (ltb-false (length bytes) least long, cc)

-- what is read is spelled
read_is_spelled : {V M : Type 0} {Fits : M → Type 0} {spelling : M → List ℕ} {least : ℕ} {fields : List ℕ → M}
    → IsFormat Fits spelling least fields → (model : V → M) (bytes : List ℕ) (r : Result V SmallFault) → ((i : ℕ) → get_or bytes i 0 < 256)
    → answer_model model r ≡ unless_short least bytes (fields bytes)
    → IfOk r (λ v. bytes ≡ spelling (model v))
read_is_spelled {V} {M} {Fits} {spelling} {least} {fields} format model bytes (Ok v) fits e =
    let read = long_enough least bytes (fields bytes) (model v) (sym e) in format.front bytes fits read.0 ∙ ap spelling read.1
read_is_spelled format model bytes (Err f) fits e = tt

-- a reader that tells what stands in the places of the fields, or the first fault: what it finds is spelled, and what is spelled it finds
pub is_read : {V M : Type 0} {Fits : M → Type 0} {spelling : M → List ℕ} {least : ℕ} {fields : List ℕ → M}
    → IsFormat Fits spelling least fields → (model : V → M) (bytes : List ℕ) (r : Result V SmallFault) → ((i : ℕ) → get_or bytes i 0 < 256)
    → answer_model model r ≡ unless_short least bytes (fields bytes)
    → IfOk r (λ v. bytes ≡ spelling (model v)) × ((v : M) → Fits v → bytes ≡ spelling v → answer_model model r ≡ Ok v)
is_read {V} {M} {Fits} {spelling} {least} {fields} format model bytes r fits e = (
  read_is_spelled format model bytes r fits e,
  λ v right spells. e ∙ ap (λ (xs : List ℕ). unless_short least xs (fields xs)) spells ∙ spelled_is_read format v right,
)
