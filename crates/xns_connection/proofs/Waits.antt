-- How many items wait at an end to be read.
use Rattle.std.proofs.Common.{◌≡◌, ◌∙◌, ap, sym, refl, ◌-◌, ◌≤◌, Bool, true, false, ◌||◌, Option, Some, None, arith}
use Rattle.std.specs.Prelude.{nat_lt}
use Rattle.std.specs.Option.{is_some}
use Rattle.std.proofs.lemmas.Bool.{ltb-false}
use Rattle.xns_spp.specs.Held.{Held, StandsFor}
use Rattle.xns_spp.specs.Laws.{TheNextItemIsHandedUp}
use Rattle.xns_spp.specs.Sending.{take_answer, after_take, waiting_count}
use Rattle.xns_spp.specs.State.{State}
use Rattle.xns_spp.specs.declared.item.Item.{Item}

-- an endpoint knows it
pub same_waiting : {e : Held} (s v : State) → StandsFor e s → StandsFor e v → waiting_count s ≡ waiting_count v
same_waiting s v p q = ap (λ (x : Held). x.numbers.taken - x.numbers.handed) (sym p.holds ∙ q.holds)

pub one_fewer : TheNextItemIsHandedUp → (s : State) (o : Option Item) → take_answer s ≡ o → waiting_count (after_take s) ≤ waiting_count s - 1
one_fewer next s None is =
    let none : nat_lt 0 (waiting_count s) ≡ false = next.waits s ∙ ap is_some is in
    let few = ltb-false 0 (waiting_count s) none in
    let same = ap waiting_count (next.none s is) in
    omega (arith, few, same)
one_fewer next s (Some x) is = let few = next.fewer s x is in omega (arith, few)

pub stays_true : (a b c : Bool) → (a || (b || (true || c))) ≡ true
stays_true true b c = refl
stays_true false true c = refl
stays_true false false c = refl
