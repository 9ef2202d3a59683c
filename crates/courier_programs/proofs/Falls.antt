-- The measure of a walk over values that have others in them.
use Rattle.std.proofs.Common.{◌≡◌, ℕ, ◌+◌, ◌*◌, ◌<◌, ◌≤◌, List, length, get_or, ap, arith}
use Rattle.std.proofs.Math.Nat.{mul-le-mul_left}
use denote.Param.Weighed.{most, at_most}

-- what is in an item is no deeper than the items, and the function that is called for it ranks below the walk
pub item_falls : {X Y : Type 0} (size : X → ℕ) (inner : Y → ℕ) (xs : List X) (i : ℕ) (x : X) (y : Y) (ranks t j k : ℕ) → x ≡ get_or xs i x → i < length xs → inner y ≤ size x → ranks * most size xs + k ≡ t → j < k → ranks * inner y + j < t
item_falls size inner xs i x y ranks t j k e lt le h below =
    let h1 : size (get_or xs i x) ≤ most size xs = at_most size xs i x lt in
    let h2 : size x ≡ size (get_or xs i x) = ap size e in
    let h3 : inner y ≤ most size xs = omega arith in
    let h4 : ranks * inner y ≤ ranks * most size xs = mul-le-mul_left ranks h3 in
    omega arith
