-- While something waits for the peer, at most one packet goes out again for what it says.
use Rattle.std.proofs.Common.{◌≡◌, ◌⊎◌, inl, inr, ap, refl, ℕ, ◌+◌, ◌≤◌, true, false, Option, Some, None, arith}
use Rattle.std.specs.Prelude.{not}
use Rattle.std.proofs.lemmas.Bool.{and_parts, not-true}
use Rattle.xns_agenda.specs.Measuring.{begun_timing, first_wait, is_late, is_vain}
use Rattle.xns_agenda.specs.Replying.{is_third}
use Rattle.xns_agenda.specs.Waiting.{Unheard, here, steps, acts, hears, resends, replaces, Waiting, act_at, after_act, after_by, after_heard, after_step, after_word, no_more, overdue_by, third_by, waiting_on}
use Rattle.xns_agenda.specs.declared.act.Act.{Act}
use Rattle.xns_agenda.specs.declared.act.Act.TheVariants.{Nothing, Again, Ask, GiveUp, Forget}
use Rattle.xns_agenda.specs.declared.due.Due.{Due}
use Rattle.xns_agenda.specs.declared.due.Due.TheVariants.{Never, AgainAt, AskAt, ForgetAt}
use Rattle.xns_agenda.specs.declared.timing.Timing.{Timing}
use Rattle.xns_agenda.specs.declared.timing.Timing.TheVariants.{Ready, Timed, Resent, Over}

-- ---- nothing more goes out again for what the peer says: something went out again since it acknowledged more

abbrev Spent : Waiting → Type 0
Spent v = is_vain v.timing ≡ true

-- ---- a wait that is spent stays spent, until the peer acknowledges more or nothing waits for it

begun_spent : (t : Timing) (out now : ℕ) → is_vain t ≡ true → is_vain (begun_timing t out now) ≡ true
begun_spent Ready out now spent = absurd (cc)
begun_spent (Timed since place) out now spent = absurd (cc)
begun_spent (Resent at missing) out now spent = refl
begun_spent (Over before) out now spent = absurd (cc)

step_spent : (v : Waiting) (d : Due) (out now : ℕ) → Spent v → Spent (waiting_on v d out now)
step_spent v Never out now spent = begun_spent v.timing out now spent
step_spent v (AgainAt t) out now spent = begun_spent v.timing out now spent
step_spent v (AskAt t) out now spent = begun_spent v.timing out now spent
step_spent v (ForgetAt t) out now spent = spent

act_spent : (v : Waiting) (a : Act) (now : ℕ) → Spent v → Spent (after_by v a now)
act_spent v Nothing now spent = spent
act_spent v Again now spent = refl
act_spent v Ask now spent = spent
act_spent v GiveUp now spent = spent
act_spent v Forget now spent = spent

heard_spent : (v : Waiting) (d : Due) (out : ℕ) (reply : Option ℕ) (now : ℕ) → Spent v → Spent (after_heard v d (no_more out) reply false now)
heard_spent v Never out reply now spent = spent
heard_spent v (AgainAt t) out None now spent = spent
heard_spent v (AgainAt t) out (Some allocation) now spent = spent
heard_spent v (AskAt t) out reply now spent = spent
heard_spent v (ForgetAt t) out reply now spent = spent

-- ---- what goes out again for what the peer says did not before, and does no more then

late_fresh : (t : Timing) (wait now : ℕ) → is_late t wait now ≡ true → is_vain t ≡ true → ⊥
late_fresh Ready wait now late spent = absurd (cc)
late_fresh (Timed since place) wait now late spent = absurd (cc)
late_fresh (Resent at missing) wait now late spent = absurd (cc)
late_fresh (Over out) wait now late spent = absurd (cc)

overdue_fresh : (v : Waiting) (d : Due) (now : ℕ) → overdue_by v d now ≡ true → Spent v → ⊥
overdue_fresh v Never now late spent = absurd (cc)
overdue_fresh v (AgainAt t) now late spent = late_fresh v.timing (first_wait v.measure v.pace) now late spent
overdue_fresh v (AskAt t) now late spent = absurd (cc)
overdue_fresh v (ForgetAt t) now late spent = absurd (cc)

resent_spent : (v u : Waiting) (d : Due) (out now : ℕ) → overdue_by v d now ≡ true → Spent (after_heard u d (no_more out) None true now)
resent_spent v u Never out now late = absurd (cc)
resent_spent v u (AgainAt t) out now late = refl
resent_spent v u (AskAt t) out now late = absurd (cc)
resent_spent v u (ForgetAt t) out now late = absurd (cc)

third_fresh : (v : Waiting) (d : Due) (reply : Option ℕ) → third_by v d reply ≡ true → Spent v → ⊥
third_fresh v Never reply third spent = absurd (cc)
third_fresh v (AgainAt t) None third spent = absurd (cc)
third_fresh v (AgainAt t) (Some allocation) third spent =
    let fresh : is_vain v.timing ≡ false = not-true (is_vain v.timing) (and_parts (not (is_vain v.timing)) (is_third v.replies allocation) third).0 in
    absurd (cc)
third_fresh v (AskAt t) reply third spent = absurd (cc)
third_fresh v (ForgetAt t) reply third spent = absurd (cc)

replaced_spent : (v u : Waiting) (d : Due) (out : ℕ) (reply : Option ℕ) (now : ℕ) → third_by v d reply ≡ true
    → Spent (after_heard u d (no_more out) reply true now)
replaced_spent v u Never out reply now third = absurd (cc)
replaced_spent v u (AgainAt t) out None now third = absurd (cc)
replaced_spent v u (AgainAt t) out (Some allocation) now third = refl
replaced_spent v u (AskAt t) out reply now third = absurd (cc)
replaced_spent v u (ForgetAt t) out reply now third = absurd (cc)

-- ---- from one moment to another

-- nothing went out again, or one packet did
abbrev IsOnce : Waiting → ℕ → Type 0
IsOnce v n = (n ≡ 0) ⊎ ((n ≡ 1) × Spent v)

once_on : (v u : Waiting) (n : ℕ) → (Spent v → Spent u) → IsOnce v n → IsOnce u n
once_on v u n on (inl none) = inl none
once_on v u n on (inr one) = inr (one.0, on one.1)

once_more : (v u : Waiting) (n : ℕ) → (Spent v → ⊥) → Spent u → IsOnce v n → IsOnce u (n + 1)
once_more v u n fresh spent (inl none) = inr (ap (λ (k : ℕ). k + 1) none, spent)
once_more v u n fresh spent (inr one) = absurd (fresh one.1)

once : (w : Waiting) {n : ℕ} {v : Waiting} → Unheard w n v → IsOnce v n
once w here = inl refl
once w (steps {n = n} {v = v} before out wants now) = once_on v (after_step v (Some out) wants now) n (step_spent v v.due out now) (once w before)
once w (acts {n = n} {v = v} before now) = once_on v (after_act v now) n (act_spent v (act_at v now) now) (once w before)
once w (hears {n = n} {v = v} before out reply now) =
    once_on v (after_word v (no_more out) reply false now) n (heard_spent (record v { misses = 0; heard_at = now }) v.due out reply now) (once w before)
once w (resends {n = n} {v = v} before out now late) =
    once_more v (after_word v (no_more out) None true now) n (overdue_fresh v v.due now late) (resent_spent v (record v { misses = 0; heard_at = now }) v.due out now late) (once w before)
once w (replaces {n = n} {v = v} before out reply now third) =
    once_more v (after_word v (no_more out) reply true now) n (third_fresh v v.due reply third)
    (replaced_spent v (record v { misses = 0; heard_at = now }) v.due out reply now third) (once w before)

at_most_one : (v : Waiting) (n : ℕ) → IsOnce v n → n ≤ 1
at_most_one v n (inl none) = omega (arith, none)
at_most_one v n (inr one) = let is = one.0 in omega (arith, is)

pub answered_once : (w v : Waiting) (n : ℕ) → Unheard w n v → n ≤ 1
answered_once w v n unheard = at_most_one v n (once w unheard)
