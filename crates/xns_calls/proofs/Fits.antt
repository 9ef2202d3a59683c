-- Events in the place of others, of which a flow is as whole.
use Rattle.std.proofs.Common.{◌≡◌, ◌∙◌, ap, sym, refl, subst, arith, ℕ, ◌<◌, List, [], ◌∷◌, ◌++◌, Option, Some, None}
use Rattle.std.proofs.lemmas.Grind.{flat_map-append}
use Rattle.xns_spp.specs.declared.item.Item.{Item}
use Rattle.xns_calls.specs.Events.{AreWithinReach, Event, IsAmong, acknowledged, acknowledged_event, captured, captured_in, meanwhile, read, with_captured}
use Rattle.xns_calls.specs.Whole.{AreOf, IsWhole}
use Rattle.xns_calls.specs.declared.heading.Heading.{Heading}
use Rattle.xns_calls.proofs.LastKept.{AreAcks, bound_of}
use Rattle.xns_calls.proofs.Parts.{plain, plain_one}

of_front : (items : List Item) (xs ys : List Event) → AreOf items (xs ++ ys) → AreOf items xs
of_front items [] ys a = tt
of_front items (e ∷ xs) ys a = (a.0, of_front items xs ys a.1)

of_back : (items : List Item) (xs ys : List Event) → AreOf items (xs ++ ys) → AreOf items ys
of_back items [] ys a = a
of_back items (e ∷ xs) ys a = of_back items xs ys a.1

pub of_both : (items : List Item) (xs ys : List Event) → AreOf items xs → AreOf items ys → AreOf items (xs ++ ys)
of_both items [] ys a b = b
of_both items (e ∷ xs) ys a b = (a.0, of_both items xs ys a.1 b)

pub captured_both : (xs ys : List Event) (before : List ℕ) → captured_in (xs ++ ys) before ≡ captured_in ys (captured_in xs before)
captured_both [] ys before = refl
captured_both (e ∷ xs) ys before = captured_both xs ys (with_captured e before)

reach_front : (xs ys : List Event) (before : List ℕ) → AreWithinReach 0 before (xs ++ ys) → AreWithinReach 0 before xs
reach_front [] ys before a = tt
reach_front (e ∷ xs) ys before a = (a.0, reach_front xs ys (with_captured e before) a.1)

reach_back : (xs ys : List Event) (before : List ℕ) → AreWithinReach 0 before (xs ++ ys) → AreWithinReach 0 (captured_in xs before) ys
reach_back [] ys before a = a
reach_back (e ∷ xs) ys before a = reach_back xs ys (with_captured e before) a.1

pub reach_both : (xs ys : List Event) (before : List ℕ) → AreWithinReach 0 before xs → AreWithinReach 0 (captured_in xs before) ys → AreWithinReach 0 before (xs ++ ys)
reach_both [] ys before a b = b
reach_both (e ∷ xs) ys before a b = (a.0, reach_both xs ys (with_captured e before) a.1 b)

-- a flow that is whole by the first ones is whole by the others
pub record Fits (xs ys : List Event) : Type 0 where
  pub of : (items : List Item) → AreOf items xs → AreOf items ys
  pub captured : (before : List ℕ) → captured_in ys before ≡ captured_in xs before
  pub reach : (before : List ℕ) → AreWithinReach 0 before xs → AreWithinReach 0 before ys

pub fits : (xs ys : List Event) → ys ≡ xs → Fits xs ys
fits xs ys is = record {
  of = λ items a. subst (AreOf items) (sym is) a;
  captured = λ before. ap (λ es. captured_in es before) is;
  reach = λ before a. subst (AreWithinReach 0 before) (sym is) a;
}

fits_both : (xs ys xs' ys' : List Event) → Fits xs ys → Fits xs' ys' → Fits (xs ++ xs') (ys ++ ys')
fits_both xs ys xs' ys' f g = record {
  of = λ items a. of_both items ys ys' (f.of items (of_front items xs xs' a)) (g.of items (of_back items xs xs' a));
  captured = λ before. captured_both ys ys' before ∙ g.captured (captured_in ys before) ∙ ap (captured_in xs') (f.captured before) ∙ sym (captured_both xs xs' before);
  reach = λ before a. reach_both ys ys' before (f.reach before (reach_front xs xs' before a))
      (g.reach (captured_in ys before) (subst (λ z. AreWithinReach 0 z xs') (sym (f.captured before)) (reach_back xs xs' before a)));
}

pub fits_on : (xs xs' events events' : List Event) → Fits xs (plain events) → Fits xs' (plain events') → Fits (xs ++ xs') (plain (events ++ events'))
fits_on xs xs' events events' f g = subst (Fits (xs ++ xs')) (sym (flat_map-append plain_one events events')) (fits_both xs (plain events) xs' (plain events') f g)

pub fits_whole : (items : List Item) (xs ys : List Event) → Fits xs ys → IsWhole items xs → IsWhole items ys
fits_whole items xs ys f w = record {
  of = f.of items w.of;
  all = λ n lt. subst (IsAmong n) (sym (f.captured [])) (w.all n lt);
  reach = f.reach [] w.reach;
}

-- ---- acknowledgements of no more than a number

pub acks_of : (bound : ℕ) (items : List Item) (events : List Event) → AreAcks bound events → AreOf items (plain events)
acks_of bound items [] a = tt
acks_of bound items (captured h n item ∷ more) a = absurd a
acks_of bound items (acknowledged h n ∷ more) a = (tt, acks_of bound items more a.1)
acks_of bound items (read h ∷ more) a = absurd a
acks_of bound items (meanwhile calls text is_refused ∷ more) a = acks_of bound items more a

pub acks_captured : (bound : ℕ) (events : List Event) (before : List ℕ) → AreAcks bound events → captured_in (plain events) before ≡ before
acks_captured bound [] before a = refl
acks_captured bound (captured h n item ∷ more) before a = absurd a
acks_captured bound (acknowledged h n ∷ more) before a = acks_captured bound more before a.1
acks_captured bound (read h ∷ more) before a = absurd a
acks_captured bound (meanwhile calls text is_refused ∷ more) before a = acks_captured bound more before a

pub acks_reach : (bound : ℕ) (events : List Event) (before : List ℕ) → AreAcks bound events → ((n : ℕ) → n < bound → IsAmong n before) → AreWithinReach 0 before (plain events)
acks_reach bound [] before a late = tt
acks_reach bound (captured h n item ∷ more) before a late = absurd a
acks_reach bound (acknowledged h n ∷ more) before a late = (λ m le lt. late m (omega (arith, lt, a.0)), acks_reach bound more before a.1 late)
acks_reach bound (read h ∷ more) before a late = absurd a
acks_reach bound (meanwhile calls text is_refused ∷ more) before a late = acks_reach bound more before a late

-- acknowledgements of numbers up to a bound fit in the place of one of all below the bound
pub acks_fit : (h : Heading) (o : Option ℕ) (events : List Event) → AreAcks (bound_of o) events → Fits (acknowledged_event h o) (plain events)
acks_fit h o events a = record {
  of = λ items none. acks_of (bound_of o) items events a;
  captured = λ before. acks_captured (bound_of o) events before a ∙ sym (same o before);
  reach = λ before within. acks_reach (bound_of o) events before a (late o before within);
}
  where
    same : (o : Option ℕ) (before : List ℕ) → captured_in (acknowledged_event h o) before ≡ before
    same None before = refl
    same (Some n) before = refl

    late : (o : Option ℕ) (before : List ℕ) → AreWithinReach 0 before (acknowledged_event h o) → (n : ℕ) → n < bound_of o → IsAmong n before
    late None before within n lt = absurd (omega (arith, lt))
    late (Some m) before within n lt = within.0 n (omega arith) lt
