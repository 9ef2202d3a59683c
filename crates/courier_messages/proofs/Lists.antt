-- One list begins another.
use Rattle.std.proofs.Common.{◌≡◌, List, [], ◌∷◌, refl}
use Rattle.std.specs.Prelude.{map}
use Rattle.xns_spp.specs.Fronts.{begins_cons}
use Rattle.xns_spp.specs.Growth.{Begins}

-- a prefix of a map is a map of a prefix
pub front_of_map : {X Y : Type 0} (f : X → Y) (ys : List Y) (xs : List X) → Begins ys (map f xs) → (zs : List X) × (ys ≡ map f zs) × Begins zs xs
front_of_map f [] xs p = ([], refl, (xs, refl))
front_of_map f (y ∷ ys) [] p = absurd (let e = p.1 in cc)
front_of_map {X} {Y} f (y ∷ ys) (x ∷ xs) p =
    let e = p.1 in
    let more = front_of_map f ys xs (p.0, cc) in
    let is = more.1 in
    (x ∷ more.0, cc, begins_cons x more.0 xs more.2)
