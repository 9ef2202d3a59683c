-- The first bad shape that stands in a table, as the loops find it.
use Rattle.std.proofs.Common.{◌≡◌, ap, sym, refl, ℕ, ◌+◌, ◌<◌, List, ◌∷◌, length, drop, get_or, Option, Some, None}
use Rattle.std.specs.Prelude.{option_map}
use Rattle.courier_types.specs.declared.shape_fault.ShapeFault.{ShapeFault}
use Rattle.courier_types.proofs.Loops.{walk_on}
use Rattle.courier_calls.specs.declared.fault.TableFault.{TableFault}
use Rattle.courier_calls.specs.declared.fault.TableFault.TheVariants.{BadShape}
use Rattle.courier_calls.specs.Table.{or_else}

pub none_yet : (first later : Option ShapeFault) → option_map BadShape first ≡ None → or_else first later ≡ later
none_yet None later h = refl
none_yet (Some fault) later h = absurd cc

pub found_first : (first later : Option ShapeFault) (fault : TableFault) → option_map BadShape first ≡ Some fault → option_map BadShape (or_else first later) ≡ Some fault
found_first None later fault h = absurd cc
found_first (Some own) later fault h = h

-- a walk over a list finds a bad shape in an item, and none before
pub found_on : {X : Type 0} (fault_of : List X → Option ShapeFault) (xs : List X) (i : ℕ) (x : X) (fault : TableFault) → x ≡ get_or xs i x → i < length xs
    → option_map BadShape (fault_of (x ∷ drop (i + 1) xs)) ≡ Some fault → fault_of (drop i xs) ≡ fault_of xs → option_map BadShape (fault_of xs) ≡ Some fault
found_on fault_of xs i x fault here lt found so_far =
    sym (walk_on (λ ys. option_map BadShape (fault_of ys)) xs i x (Some fault) (option_map BadShape (fault_of xs)) here lt found (ap (option_map BadShape) so_far))
