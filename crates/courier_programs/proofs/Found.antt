-- What a search of a list found, and what is looked up in what the list stands for.
use Rattle.std.proofs.Common.{◌≡◌, Bool, true, false, cond, List, [], ◌∷◌, map, Option, Some, None, option_map, refl, sym, ap, ◌∙◌}
use Rattle.std.specs.Prelude.{IfSome, IfNone}
use Rattle.std.specs.List.{find}

pub found_some : {A B : Type 0} (view : A → B) (r : Option A) (found : Option B) → option_map view r ≡ found → IfSome r (λ x. found ≡ Some (view x))
found_some view (Some x) found is = sym is
found_some view None found is = tt

pub found_none : {A B : Type 0} (view : A → B) (r : Option A) (found : Option B) → option_map view r ≡ found → IfNone r (found ≡ None)
found_none view (Some x) found is = tt
found_none view None found is = sym is

find_step : {A B : Type 0} (view : A → B) (b : Bool) (x : A) (others : Option A) (more : Option B) → more ≡ option_map view others → cond b (Some (view x)) more ≡ option_map view (cond b (Some x) others)
find_step view true x others more is = refl
find_step view false x others more is = is

find_in_map : {A B : Type 0} (view : A → B) (test : B → Bool) (xs : List A) → find test (map view xs) ≡ option_map view (find (λ x. test (view x)) xs)
find_in_map view test [] = refl
find_in_map view test (x ∷ xs) = find_step view (test (view x)) x (find (λ y. test (view y)) xs) (find test (map view xs)) (find_in_map view test xs)

-- what is found is seen by the same view as the list
found_in_map : {A B C : Type 0} (seen : A → B) (view : B → C) (test : C → Bool) (xs : List B) (r : Option A) → option_map seen r ≡ find (λ x. test (view x)) xs → option_map (λ x. view (seen x)) r ≡ find test (map view xs)
found_in_map seen view test xs (Some x) is = ap (option_map view) is ∙ sym (find_in_map view test xs)
found_in_map seen view test xs None is = ap (option_map view) is ∙ sym (find_in_map view test xs)

pub seen_some : {A B C : Type 0} (seen : A → B) (view : B → C) (test : C → Bool) (xs : List B) (r : Option A) → option_map seen r ≡ find (λ x. test (view x)) xs → IfSome r (λ x. find test (map view xs) ≡ Some (view (seen x)))
seen_some seen view test xs r is = found_some (λ x. view (seen x)) r (find test (map view xs)) (found_in_map seen view test xs r is)

pub seen_none : {A B C : Type 0} (seen : A → B) (view : B → C) (test : C → Bool) (xs : List B) (r : Option A) → option_map seen r ≡ find (λ x. test (view x)) xs → IfNone r (find test (map view xs) ≡ None)
seen_none seen view test xs r is = found_none (λ x. view (seen x)) r (find test (map view xs)) (found_in_map seen view test xs r is)
