-- A service that counts down keeps the law of services.
use Rattle.std.proofs.Common.{◌≡◌, ◌∙◌, ap, ℕ, zero, suc, ◌≤◌, Bool, true, false, length, refl, arith, Some, None}
use Rattle.std.proofs.lemmas.Bool.{le-leb}
use Rattle.std.specs.Prelude.{if◌then◌else◌, ◌==◌, ◌&&◌, nat_le}
use Rattle.courier_types.specs.Shape.{ShapeModel}
use Rattle.courier_types.specs.Value.{ValueModel, count, values_from}
use Rattle.courier_types.specs.Spelling.{values_spelling}
use Rattle.courier_types.specs.Fits.{has_shape, each_passes, AreValues}
use Rattle.courier_calls.specs.Calls.{AskedCall, OutcomeModel, found, in_procedures, HasArguments, IsListedCall, IsSent, AllowsOutcome}
use Rattle.courier_calls.specs.Calls.{IsAllowed, IsLawful}
use Rattle.courier_calls.specs.OneEntry.{of_one_entry}
use Rattle.bench.specs.Lists.{list_shape, lists_entry, counted, IsCount, lists}

counted_count : (n : ℕ) → count (values_from (counted n)) ≡ n
unfolding counted
counted_count zero = refl
counted_count (suc n) = ap suc (counted_count n)

counted_pass : (n : ℕ) → each_passes (has_shape ShapeModel.cardinal) (values_from (counted n)) ≡ true
unfolding counted has_shape
counted_pass zero = refl
counted_pass (suc n) = counted_pass n

counted_values : (n : ℕ) → n ≤ 60000 → AreValues (values_from (counted n))
unfolding counted
counted_values zero h = tt
counted_values (suc n) h = (omega arith, counted_values n (omega arith))

counted_size : (n : ℕ) → length (values_spelling (values_from (counted n))) ≡ n
unfolding counted
counted_size zero = refl
counted_size (suc n) = ap suc (counted_size n)

counted_shape : (n : ℕ) → n ≤ 60000 → has_shape list_shape (ValueModel.sequence (values_from (counted n))) ≡ true
unfolding has_shape
counted_shape n h =
    ap (λ (k : ℕ). nat_le k 60000 && each_passes (has_shape ShapeModel.cardinal) (values_from (counted n))) (counted_count n)
    ∙ ap (λ (b : Bool). b && each_passes (has_shape ShapeModel.cardinal) (values_from (counted n))) (le-leb n 60000 h)
    ∙ counted_pass n

counted_sent : (n : ℕ) → n ≤ 60000 → IsSent list_shape (ValueModel.sequence (values_from (counted n)))
counted_sent n h =
    let many = counted_count n in
    let size = counted_size n in
    record {
      fits = record { variants = counted_shape n h; numbers = (omega (arith, many, h), counted_values n h) };
      size = omega (arith, size, h);
    }

by_procedure : (list v : ValueModel) (listed : Bool) → IsSent list_shape list
    → HasArguments (in_procedures lists_entry (if listed then Some
    (record { number = 1; arguments = list_shape; results = list_shape }) else None)) v
    → AllowsOutcome (in_procedures lists_entry (if listed then Some
    (record { number = 1; arguments = list_shape; results = list_shape }) else None)) (OutcomeModel.returned list)
by_procedure list v true s h = s
by_procedure list v false s h = absurd h

allowed : (list : ValueModel) (q : AskedCall) → IsSent list_shape list → IsListedCall lists.table q
    → IsAllowed lists.table q (OutcomeModel.returned list)
unfolding found
allowed list q s h =
    of_one_entry (λ r. AllowsOutcome r (OutcomeModel.returned list)) lists_entry q.version q.procedure q.arguments (8 == q.program)
    (λ k. by_procedure list q.arguments (1 == q.procedure) s k) h

pub lists_lawful : IsLawful lists IsCount
lists_lawful = record {
  carries_out = λ s q few h. record {
    outcome = allowed (ValueModel.sequence (values_from (counted s.count))) q (counted_sent s.count few) h;
    after = few;
  };
  table = (record { low = omega arith; high = omega arith; errors = tt }, tt);
}
