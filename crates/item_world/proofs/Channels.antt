-- In every history of a channel what is handed up begins what was accepted, by induction over its moves.
use Rattle.std.proofs.Common.{◌≡◌, ℕ, zero, suc, List, [], ◌∷◌, ◌++◌, refl, sym, subst}
use Rattle.xns_spp.specs.Growth.{Begins}
use Rattle.xns_spp.specs.declared.item.Item.{Item}
use Rattle.xns_spp.specs.Fronts.{begins_then, begins_more}
use Rattle.item_world.proofs.Sides.{other_other}
use Rattle.item_world.specs.Channel.{Channel, Move, quiet, accepts, hands_up, IsHistory}
use Rattle.item_world.specs.Side.{other}
use Rattle.item_world.specs.declared.side.Side.{Side}
use Rattle.item_world.specs.declared.side.Side.TheVariants.{A, B}

abbrev InOrder : Channel → Side → Type 0
InOrder c side = Begins (c.handed side) (c.accepted (other side))

-- a side is in order, where what it handed up and what the other side accepted are known
same : (c d : Channel) (side : Side) (h a : List Item) → d.handed side ≡ h → d.accepted (other side) ≡ a → Begins h a → InOrder d side
same c d side h a p q b = subst (λ (l : List Item). Begins (d.handed side) l) (sym q) (subst (λ (l : List Item). Begins l a) (sym p) b)

-- what holds of one side and of the other holds of each
either : (side : Side) (P : Side → Type 0) → P side → P (other side) → (t : Side) → P t
either A P p q A = p
either A P p q B = q
either B P p q A = q
either B P p q B = p

move_keeps : (c d : Channel) → Move c d → ((t : Side) → InOrder c t) → (t : Side) → InOrder d t
move_keeps c d (quiet q) h t = same c d t (c.handed t) (c.accepted (other t)) (q.handed t) (q.accepted (other t)) (h t)
move_keeps c d (accepts side x a) h t =
    let here = subst (λ (u : Side). d.accepted u ≡ c.accepted side ++ x ∷ []) (sym (other_other side)) a.here in
    let before = subst (λ (u : Side). Begins (c.handed (other side)) (c.accepted u)) (other_other side) (h (other side)) in
    let longer = begins_then (c.handed (other side)) (c.accepted side) (c.accepted side ++ x ∷ []) before (x ∷ [], refl) in
    either side (λ u. InOrder d u)
    (same c d side (c.handed side) (c.accepted (other side)) (a.handed side) a.there (h side))
    (same c d (other side) (c.handed (other side)) (c.accepted side ++ x ∷ []) (a.handed (other side)) here longer) t
move_keeps c d (hands_up side x u) h t =
    let more = begins_more (c.handed side) (c.accepted (other side)) x (h side) u.next in
    either side (λ v. InOrder d v)
    (same c d side (c.handed side ++ x ∷ []) (c.accepted (other side)) u.here (u.accepted (other side)) more)
    (same c d (other side) (c.handed (other side)) (c.accepted (other (other side))) u.there (u.accepted (other (other side))) (h (other side))) t

pub in_order : (c : ℕ → Channel) → IsHistory c → (n : ℕ) (side : Side) → InOrder (c n) side
in_order c h zero side = subst (λ (l : List Item). Begins l ((c 0).accepted (other side))) (sym (h.handed side)) ((c 0).accepted (other side), refl)
in_order c h (suc n) side = move_keeps (c n) (c (suc n)) (h.moves n) (in_order c h n) side
