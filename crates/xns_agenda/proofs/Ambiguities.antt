-- After eight ambiguous acknowledgements a wait begins as the pace's first one at least.
use Rattle.std.proofs.Common.{◌≡◌, ◌⊎◌, inl, inr, refl, rules, ℕ, ◌+◌, ◌<◌, ◌≤◌, Bool, true, false, not, Option, Some, None, arith}
use Rattle.std.specs.Prelude.{min, max, nat_lt, if◌then◌else◌}
use Rattle.std.proofs.lemmas.Bool.{ltb-true}
use Rattle.xns_agenda.specs.Measuring.{Ambiguous, ambiguously, doubted_wait, first_wait, here, is_expected, most_ambiguous, one, wait_by}
use Rattle.xns_agenda.specs.declared.measure.Measure.{Measure}
use Rattle.xns_agenda.specs.declared.pace.Pace.{Pace}
use Rattle.xns_agenda.specs.declared.smoothed.Smoothed.{Smoothed}

-- three doubts are known at least, or each acknowledgement was counted
abbrev Counts : (m : Measure) (n : ℕ) (k : Measure) → Type 0
Counts m n k = (3 ≤ k.doubts) ⊎ ((k.ambiguous ≡ m.ambiguous + n) × (m.ambiguous + n < most_ambiguous))

three : (d : ℕ) → 3 ≤ min (max d 2 + 1) 255
three d = grind arith

counts_by : (b : Bool) (m : Measure) (n : ℕ) (k : Measure) → nat_lt (k.ambiguous + 1) most_ambiguous ≡ b → Counts m n k
    → Counts m (n + 1) (if b then record k { ambiguous = k.ambiguous + 1 } else record k { doubts = min (max k.doubts 2 + 1) 255; ambiguous = 0 })
counts_by true m n k is (inl doubts) = inl doubts
counts_by true m n k is (inr counted) =
    let few = ltb-true (k.ambiguous + 1) most_ambiguous is in
    let same = counted.0 in
    inr (omega (arith, same), omega (arith, same, few))
counts_by false m n k is counted = inl (three k.doubts)

doubts_by : (b : Bool) (m : Measure) (n : ℕ) (k : Measure) (other : Measure) → b ≡ true → Counts m (n + 1) (ambiguously k)
    → Counts m (n + 1) (if not b then other else ambiguously k)
doubts_by true m n k other is counted = counted
doubts_by false m n k other is counted = absurd (search rules)

counts : (m : Measure) (pace : Pace) (n : ℕ) (k : Measure) → m.ambiguous < most_ambiguous → Ambiguous m pace n k → Counts m n k
counts m pace _ _ few here = inr (omega arith, omega (arith, few))
counts m pace _ _ few (one {n} {k} before passed is) =
    doubts_by (is_expected k.smoothed pace passed) m n k _ is (counts_by (nat_lt (k.ambiguous + 1) most_ambiguous) m n k refl (counts m pace n k few before))

doubted_long : (first doubts : ℕ) → 3 ≤ doubts → first ≤ doubted_wait first doubts
doubted_long first doubts many = grind arith

long_by : (o : Option Smoothed) (doubts : ℕ) (pace : Pace) → 3 ≤ doubts → pace.first ≤ wait_by o doubts pace
long_by None doubts pace many = omega arith
long_by (Some s) doubts pace many =
    let ordered = pace.ordered in
    let long = doubted_long pace.first doubts many in
    grind arith

long_enough : (m : Measure) (pace : Pace) (k : Measure) → Counts m most_ambiguous k → pace.first ≤ first_wait k pace
long_enough m pace k (inl many) = long_by k.smoothed k.doubts pace many
long_enough m pace k (inr counted) = let fewer = counted.1 in absurd (omega (arith, fewer))

pub waits_first : (m k : Measure) (pace : Pace) → m.ambiguous < most_ambiguous → Ambiguous m pace most_ambiguous k → pace.first ≤ first_wait k pace
waits_first m k pace few all = long_enough m pace k (counts m pace most_ambiguous k few all)
