-- A peer that is asked for a word and says none is borne as long as the patience says.
use Rattle.std.proofs.Common.{◌≡◌, ◌∙◌, ap, refl, sym, subst, ℕ, zero, suc, ◌+◌, ◌*◌, ◌<◌, ◌≤◌, Option, Some, None, arith}
use Rattle.std.specs.Prelude.{nat_le}
use Rattle.std.proofs.Math.Nat.{min-le_right}
use Rattle.xns_agenda.specs.Measuring.{borne, first_wait, most_borne, next_length, wait_by, waits_time}
use Rattle.xns_agenda.specs.Waiting.{Waiting, act_at, act_by, after_by, after_step, idling, later, rested}
use Rattle.xns_agenda.specs.Patience.{Asked, begins, steps, sends}
use Rattle.xns_agenda.specs.declared.act.Act.{Act}
use Rattle.xns_agenda.specs.declared.act.Act.TheVariants.{Ask, GiveUp}
use Rattle.xns_agenda.specs.declared.due.Due.{Due}
use Rattle.xns_agenda.specs.declared.due.Due.TheVariants.{AskAt}
use Rattle.xns_agenda.specs.declared.pace.Pace.{Pace}
use Rattle.xns_agenda.specs.declared.smoothed.Smoothed.{Smoothed}
use Rattle.xns_agenda.proofs.Measures.{patient, tried, waits_grow}
use Rattle.xns_agenda.proofs.Patience.{Goes, all_borne, given_up, goes_first, goes_on, later_by, length_after, over, time_after}

-- ---- no wait is longer than the longest

longest_by : (o : Option Smoothed) (doubts : ℕ) (pace : Pace) → wait_by o doubts pace ≤ pace.longest
longest_by None doubts pace = pace.ordered
longest_by (Some s) doubts pace = grind arith

longest_after : (pace : Pace) (length n : ℕ) → length ≤ pace.longest → length_after pace length n ≤ pace.longest
unfolding length_after
longest_after pace length zero most = most
longest_after pace length (suc n) most = longest_after pace (next_length pace length) n (min-le_right (length * 2) pace.longest)

-- ---- from the last word on

abbrev IsAsked : (span : ℕ) → Waiting → ℕ → Waiting → Type 0
IsAsked span w = Goes AskAt w.heard_at span (first_wait w.measure w.pace) w

asked_first : (span : ℕ) (w : Waiting) → IsAsked span w 0 (record (rested w) { due = AskAt (later w.heard_at span) })
asked_first span w = goes_first AskAt w.heard_at span _ w (record (rested w) { due = AskAt (later w.heard_at span) }) refl refl refl refl refl

asked_again : (span : ℕ) (w v : Waiting) (n now : ℕ) → IsAsked span w n v → act_at v now ≡ Ask → IsAsked span w (n + 1) (after_by v Ask now)
asked_again span w v n now before is =
    let more = over Ask (λ e. absurd (cc)) (nat_le before.until now) v before.until now refl (ap (λ (d : Due). act_by v d now) (sym before.due) ∙ is) in
    goes_on AskAt w.heard_at span _ w v (after_by v Ask now) n now before more refl refl refl refl refl

is_asked : {span : ℕ} {w : Waiting} {n : ℕ} {v : Waiting} → Asked span w n v → IsAsked span w n v
is_asked {span = span} {w = w} begins = asked_first span w
is_asked {span = span} {w = w} {n = n} (steps {v = v} before wants now) =
    let b = is_asked before in
    let same : after_step v None wants now ≡ v = ap (λ (d : Due). idling v d wants) b.due in
    subst (λ (u : Waiting). IsAsked span w n u) (sym same) b
is_asked {span = span} {w = w} (sends {n = n} {v = v} before now is) =
    let b = asked_again span w v n now (is_asked before) is in
    subst (λ (a : Act). IsAsked span w (n + 1) (after_by v a now)) (sym is) b

-- ---- an idle peer that is given up

pub record Asking (span : ℕ) (w : Waiting) (n now : ℕ) : Type 0 where
  pub tries : w.pace.tries ≤ n
  pub patience : n < most_borne → w.pace.longest ≤ span → later w.heard_at w.pace.patience ≤ now

pub not_early : (w v : Waiting) (span n now : ℕ) → w.misses ≡ 0 → Asked span w n v → act_at v now ≡ GiveUp → Asking span w n now
not_early w v span n now none asked is =
    let b = is_asked asked in
    let test : act_by v (AskAt b.until) now ≡ GiveUp = ap (λ (d : Due). act_by v d now) (sym b.due) ∙ is in
    let g = given_up Ask (λ e. absurd (cc)) (nat_le b.until now) v b.until now refl test in
    let all = all_borne AskAt w.heard_at span _ w v n none b g.many in
    let tries = tried w.measure w.pace in
    record {
      tries = omega (arith, tries, all);
      patience = λ few long.
          let first : ℕ = first_wait w.measure w.pace in
          let enough = patient w.measure w.pace (omega (arith, all, few)) in
          let last = longest_after w.pace first n (longest_by w.measure.smoothed w.measure.doubts w.pace) in
          let grown = waits_grow w.pace first (borne w.measure w.pace + 1) (suc n) (omega (arith, all)) in
          let one = time_after w.pace first n in
          later_by w.heard_at w.pace.patience (span + waits_time w.pace first n) b.until now (omega (arith, enough, grown, one, last, long)) b.late g.over;
    }
