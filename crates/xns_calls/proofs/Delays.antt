-- What takes effect with a packet is what the packet 64 before it acknowledged ahead.
use Rattle.std.proofs.Common.{◌≡◌, ◌∙◌, ap, sym, refl, subst, arith, ℕ, zero, suc, ◌+◌, ◌-◌, ◌<◌, ◌≤◌, ◌==◌, false, cond, List, [], ◌∷◌, ◌++◌, length, take, drop, append_assoc, append-nil, length-append, Option, Some, None}
use Rattle.std.specs.Prelude.{slice_get, slice_index_or, slice_set}
use Rattle.std.specs.Option.{unwrap_or}
use Rattle.std.proofs.lemmas.Bool.Decides.{nat_tests}
use Rattle.std.proofs.lemmas.Bool.{le-ltb, lt-ltb}
use Rattle.xns_calls.specs.Acknowledged.{ago, effective, kept_behind, nearer, one_nearer, waiting, with_ahead}
use Rattle.xns_calls.specs.declared.ahead.Ahead.{Ahead}

-- ---- one after the other is brought nearer

pub one_more_nearer : (xs : List Ahead) (i : ℕ) (d : Ahead) → i < length xs
    → slice_set (nearer (take i xs) ++ drop i xs) i (one_nearer (slice_index_or (nearer (take i xs) ++ drop i xs) i d)) ≡ nearer (take (suc i) xs) ++ drop (suc i) xs
one_more_nearer [] i d lt = absurd (omega (arith, lt))
one_more_nearer (x ∷ xs) zero d lt = refl
one_more_nearer (x ∷ xs) (suc i) d lt = ap (λ ys. one_nearer x ∷ ys) (one_more_nearer xs i d (omega (arith, lt)))

-- ---- what the last packets acknowledged ahead, of which the first waits for so many packets

entries : ℕ → List (Option ℕ) → List Ahead
entries l [] = []
entries l (None ∷ qs) = entries (l + 1) qs
entries l (Some n ∷ qs) = record { left = l; number = n } ∷ entries (l + 1) qs

nearer_entries : (l : ℕ) (qs : List (Option ℕ)) → nearer (entries (l + 1) qs) ≡ entries l qs
unfolding entries
nearer_entries l [] = refl
nearer_entries l (None ∷ qs) = nearer_entries (l + 1) qs
nearer_entries l (Some n ∷ qs) =
    let less : (l + 1) - 1 ≡ l = omega arith in
    let first : Ahead = record { left = l; number = n } in
    ap (λ m. record { left = m; number = n } ∷ nearer (entries ((l + 1) + 1) qs)) less ∙ ap (λ xs. first ∷ xs) (nearer_entries (l + 1) qs)

not_none : (l : ℕ) → (l + 1 == 0) ≡ false
not_none l = grind (arith, nat_tests)

effective_later : (l : ℕ) (qs : List (Option ℕ)) → effective (entries (l + 1) qs) ≡ None
unfolding entries
effective_later l [] = refl
effective_later l (None ∷ qs) = effective_later (l + 1) qs
effective_later l (Some n ∷ qs) = ap (λ p. cond p (Some n) None) (not_none l)

waiting_later : (l : ℕ) (qs : List (Option ℕ)) → waiting (entries (l + 1) qs) ≡ entries (l + 1) qs
unfolding entries
waiting_later l [] = refl
waiting_later l (None ∷ qs) = waiting_later (l + 1) qs
waiting_later l (Some n ∷ qs) =
    let rest = entries ((l + 1) + 1) qs in ap (λ p. cond p rest (record { left = l + 1; number = n } ∷ rest)) (not_none l)

effective_first : (q : Option ℕ) (qs : List (Option ℕ)) → effective (entries 0 (q ∷ qs)) ≡ q
unfolding entries
effective_first None qs = effective_later 0 qs
effective_first (Some n) qs = refl

waiting_first : (q : Option ℕ) (qs : List (Option ℕ)) → waiting (entries 0 (q ∷ qs)) ≡ entries 1 qs
unfolding entries
waiting_first None qs = waiting_later 0 qs
waiting_first (Some n) qs = refl

pushed : (l : ℕ) (qs : List (Option ℕ)) (o : Option ℕ) → l + length qs ≡ 64 → with_ahead o (entries l qs) ≡ entries l (qs ++ o ∷ [])
unfolding entries
pushed l [] None e = refl
pushed l [] (Some n) e = let same : 64 ≡ l = omega (arith, e) in ap (λ m. record { left = m; number = n } ∷ []) same
pushed l (None ∷ qs) o e = pushed (l + 1) qs o (omega (arith, e))
pushed l (Some n ∷ qs) None e = ap (λ xs. record { left = l; number = n } ∷ xs) (pushed (l + 1) qs None (omega (arith, e)))
pushed l (Some n ∷ qs) (Some m) e = ap (λ xs. record { left = l; number = n } ∷ xs) (pushed (l + 1) qs (Some m) (omega (arith, e)))

entries_few : (l : ℕ) (qs : List (Option ℕ)) → length (entries l qs) ≤ length qs
unfolding entries
entries_few l [] = omega arith
entries_few l (None ∷ qs) = let few = entries_few (l + 1) qs in omega (arith, few)
entries_few l (Some n ∷ qs) = let few = entries_few (l + 1) qs in omega (arith, few)

-- ---- what the packet 64 before acknowledged

abbrev at_place : List (Option ℕ) → ℕ → Option ℕ
at_place xs i = unwrap_or (slice_get xs i) None

ago_none : (xs : List (Option ℕ)) → length xs < 64 → ago xs ≡ None
ago_none xs lt = ap (λ p. cond p None (at_place xs (length xs - 64))) (lt-ltb (length xs) 64 lt)

ago_at : (xs : List (Option ℕ)) → 64 ≤ length xs → ago xs ≡ at_place xs (length xs - 64)
ago_at xs le = ap (λ p. cond p None (at_place xs (length xs - 64))) (le-ltb (length xs) 64 le)

ago_first : (q : Option ℕ) (qs : List (Option ℕ)) → length qs ≡ 63 → ago (q ∷ qs) ≡ q
ago_first q qs e = let at : length (q ∷ qs) - 64 ≡ 0 = omega (arith, e) in ago_at (q ∷ qs) (omega (arith, e)) ∙ ap (at_place (q ∷ qs)) at

ago_tail : (q : Option ℕ) (xs : List (Option ℕ)) → 64 ≤ length xs → ago (q ∷ xs) ≡ ago xs
ago_tail q xs le =
    let at : length (q ∷ xs) - 64 ≡ suc (length xs - 64) = omega (arith, le) in
    ago_at (q ∷ xs) (omega (arith, le)) ∙ ap (at_place (q ∷ xs)) at ∙ sym (ago_at xs le)

-- ---- packet by packet

Runs : List (Option ℕ) → List Ahead → List (Option ℕ) → Type 0
Runs more kept qs = (effective (nearer (kept_behind more kept)) ≡ ago (qs ++ more)) × (length (kept_behind more kept) ≤ 64)

runs : (more : List (Option ℕ)) (j : ℕ) (qs : List (Option ℕ)) → j + length qs ≡ 64 → Runs more (entries (j + 1) qs) qs
unfolding Runs
runs [] zero [] e = absurd (omega (arith, e))
runs [] zero (q ∷ qs) e = (
  ap effective (nearer_entries 0 (q ∷ qs)) ∙ effective_first q qs ∙ sym (ago_first q qs (omega (arith, e))) ∙ ap ago (sym (append-nil (q ∷ qs))),
  let few = entries_few 1 (q ∷ qs) in omega (arith, few, e),
)
runs [] (suc i) qs e =
    let one : suc i ≡ i + 1 = omega arith in (
      ap effective (nearer_entries (suc i) qs) ∙ ap (λ l. effective (entries l qs)) one ∙ effective_later i qs ∙ sym (ago_none qs (omega (arith, e))) ∙ ap ago (sym (append-nil qs)),
      let few = entries_few (suc i + 1) qs in omega (arith, few, e),
    )
runs (o ∷ more) zero [] e = absurd (omega (arith, e))
runs (o ∷ more) zero (q ∷ qs) e =
    let next = runs more 0 (qs ++ o ∷ []) (omega (arith, e, length-append qs (o ∷ []))) in
    let same : with_ahead o (waiting (nearer (entries 1 (q ∷ qs)))) ≡ entries 1 (qs ++ o ∷ []) =
    ap (λ xs. with_ahead o (waiting xs)) (nearer_entries 0 (q ∷ qs)) ∙ ap (with_ahead o) (waiting_first q qs) ∙ pushed 1 qs o (omega (arith, e)) in (
      ap (λ xs. effective (nearer (kept_behind more xs))) same ∙ next.0 ∙ ap ago (append_assoc qs (o ∷ []) more)
          ∙ sym (ago_tail q (qs ++ o ∷ more) (omega (arith, e, length-append qs (o ∷ more)))),
      subst (λ xs. length (kept_behind more xs) ≤ 64) (sym same) next.1,
    )
runs (o ∷ more) (suc i) qs e =
    let one : suc i ≡ i + 1 = omega arith in
    let next = runs more i (qs ++ o ∷ []) (omega (arith, e, length-append qs (o ∷ []))) in
    let same : with_ahead o (waiting (nearer (entries (suc i + 1) qs))) ≡ entries (i + 1) (qs ++ o ∷ []) =
    ap (λ xs. with_ahead o (waiting xs)) (nearer_entries (suc i) qs) ∙ ap (λ l. with_ahead o (waiting (entries l qs))) one
    ∙ ap (with_ahead o) (waiting_later i qs) ∙ pushed (i + 1) qs o (omega (arith, e)) in (
      ap (λ xs. effective (nearer (kept_behind more xs))) same ∙ next.0 ∙ ap ago (append_assoc qs (o ∷ []) more),
      subst (λ xs. length (kept_behind more xs) ≤ 64) (sym same) next.1,
    )

pub takes_effect : (packets : List (Option ℕ)) → effective (nearer (kept_behind packets [])) ≡ ago packets
unfolding Runs entries
takes_effect packets = (runs packets 64 [] refl).0

pub few_kept : (packets : List (Option ℕ)) → length (kept_behind packets []) ≤ 64
unfolding Runs entries
few_kept packets = (runs packets 64 [] refl).1
