-- Counting down by one.
use Rattle.std.proofs.Common.{◌≡◌, ◌∙◌, ap, sym, ℕ, suc, ◌+◌, List, [], ◌∷◌, ◌++◌, map, append_assoc, rules, arith}
use Rattle.std.proofs.lemmas.List.{map-append, append-nil}
use Rattle.courier_types.specs.declared.value.Value.{Value, Cardinal, the_lemmas}
use Rattle.courier_types.specs.Value.{ValueModel, value_model}
use Rattle.bench.specs.Lists.{counted}

model_cardinal : (n : ℕ) → value_model (Cardinal n) ≡ ValueModel.cardinal n
model_cardinal n = search (rules, the_lemmas)

counted_more : (n m : ℕ) → n ≡ suc m → counted n ≡ ValueModel.cardinal m ∷ counted m
unfolding counted
counted_more n m h = ap (λ (k : ℕ). counted k) h

counted_none : (n : ℕ) → n ≡ 0 → counted n ≡ []
unfolding counted
counted_none n h = ap (λ (k : ℕ). counted k) h

pub one_more : (before values : List Value) (n m : ℕ) (all : List ValueModel) → n ≡ m + 1 → values ≡ before ++ Cardinal m ∷ [] → map value_model before ++ counted n ≡ all → map value_model values ++ counted m ≡ all
one_more before values n m all k e so_far =
    let more : n ≡ suc m = omega (arith, k) in
    ap (λ (xs : List Value). map value_model xs ++ counted m) e
    ∙ ap (λ (xs : List ValueModel). xs ++ counted m) (map-append value_model before (Cardinal m ∷ []))
    ∙ ap (λ (v : ValueModel). (map value_model before ++ v ∷ []) ++ counted m) (model_cardinal m)
    ∙ append_assoc (map value_model before) (ValueModel.cardinal m ∷ []) (counted m)
    ∙ ap (λ (xs : List ValueModel). map value_model before ++ xs) (sym (counted_more n m more))
    ∙ so_far

pub no_more : (values : List Value) (n : ℕ) (all : List ValueModel) → n ≡ 0 → map value_model values ++ counted n ≡ all → map value_model values ≡ all
no_more values n all k so_far =
    sym (append-nil (map value_model values)) ∙ ap (λ (xs : List ValueModel). map value_model values ++ xs) (sym (counted_none n k)) ∙ so_far
