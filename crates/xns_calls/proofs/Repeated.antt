-- The line that tells of repeats is printed once.
use Rattle.std.proofs.Common.{◌≡◌, ◌∙◌, ap, refl, arith, inl, inr, ℕ, ◌+◌, ◌<◌, ◌⊎◌, ◌&&◌, ◌||◌, Bool, true, false, cond, List, [], ◌∷◌}
use Rattle.std.specs.Prelude.{nat_lt, not}
use Rattle.std.proofs.lemmas.Bool.{ltb-true}
use Rattle.std.proofs.Math.Bool.{or-true}
use Rattle.xns_calls.specs.Repeats.{has_row, in_a_row, one_repeat_more, repeats_of, row_ended, tells_next}
use Rattle.xns_calls.specs.declared.repeats.Repeats.TheVariants.{InARow, Told}

-- a flow was told of, or so many repeats are its last items
Keeps : List Bool → Type 0
Keeps items = ((has_row items ≡ true) × (repeats_of items ≡ Told)) ⊎ ((has_row items ≡ false) × (repeats_of items ≡ InARow (in_a_row items)) × (in_a_row items < 64))

keeps : (items : List Bool) → Keeps items
unfolding Keeps
keeps [] = inr (refl, refl, omega arith)
keeps (true ∷ items) = by_row (keeps items)
  where
    so_far : ℕ
    so_far = in_a_row items + 1

    by_count : (p : Bool) → nat_lt so_far 64 ≡ p → has_row items ≡ false → repeats_of items ≡ InARow (in_a_row items) → Keeps (true ∷ items)
    by_count true e none is =
        inr (ap (λ p. not p || has_row items) e ∙ none, ap one_repeat_more is ∙ ap (λ p. cond p (InARow so_far) Told) e, ltb-true so_far 64 e)
    by_count false e none is = inl (ap (λ p. not p || has_row items) e, ap one_repeat_more is ∙ ap (λ p. cond p (InARow so_far) Told) e)

    by_row : Keeps items → Keeps (true ∷ items)
    by_row (inl (told, is)) = inl (ap (λ p. not (nat_lt so_far 64) || p) told ∙ or-true (not (nat_lt so_far 64)), ap one_repeat_more is)
    by_row (inr (none, is, few)) = by_count (nat_lt so_far 64) refl none is
keeps (false ∷ items) = by_row (keeps items)
  where
    by_row : Keeps items → Keeps (false ∷ items)
    by_row (inl (told, is)) = inl (told, ap row_ended is)
    by_row (inr (none, is, few)) = inr (none, ap row_ended is, omega arith)

told_before : (p told : Bool) → told ≡ true → false ≡ ((p || told) && not told)
told_before true true e = refl
told_before false true e = refl
told_before p false e = (cc)

not_before : (p told : Bool) → told ≡ false → p ≡ ((p || told) && not told)
not_before true false e = refl
not_before false false e = refl
not_before p true e = (cc)

same_row : (told : Bool) → false ≡ (told && not told)
same_row true = refl
same_row false = refl

pub told_once : (is_repeat : Bool) (before : List Bool) → (is_repeat && tells_next (repeats_of before)) ≡ (has_row (is_repeat ∷ before) && not (has_row before))
unfolding Keeps
told_once false before = same_row (has_row before)
told_once true before = by_row (keeps before)
  where
    long : Bool
    long = not (nat_lt (in_a_row before + 1) 64)

    by_row : Keeps before → tells_next (repeats_of before) ≡ ((long || has_row before) && not (has_row before))
    by_row (inl (told, is)) = ap tells_next is ∙ told_before long (has_row before) told
    by_row (inr (none, is, few)) = ap tells_next is ∙ not_before long (has_row before) none
