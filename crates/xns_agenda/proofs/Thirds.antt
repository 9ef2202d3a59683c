-- A reply is the third that says the same only behind two others.
use Rattle.std.proofs.Common.{◌≡◌, ap, refl, ℕ, ◌+◌, ◌≤◌, Bool, true, false, Option, Some, None, arith}
use Rattle.std.specs.Prelude.{◌==◌, not}
use Rattle.std.proofs.lemmas.Bool.{and_parts, eqb-true}
use Rattle.xns_agenda.specs.Measuring.{is_vain}
use Rattle.xns_agenda.specs.Replying.{counted, is_third}
use Rattle.xns_agenda.specs.Waiting.{Lacks, here, steps, acts, hears, replies, Waiting, act_at, after_act, after_by, after_heard, after_step, after_word, idling, is_third_reply, no_more, third_by, waiting_on}
use Rattle.xns_agenda.specs.declared.act.Act.{Act}
use Rattle.xns_agenda.specs.declared.act.Act.TheVariants.{Nothing, Again, Ask, GiveUp, Forget}
use Rattle.xns_agenda.specs.declared.due.Due.{Due}
use Rattle.xns_agenda.specs.declared.due.Due.TheVariants.{Never, AgainAt, AskAt, ForgetAt}
use Rattle.xns_agenda.specs.declared.replies.Replies.{Replies}

-- ---- how many are counted

waits_same : (v : Waiting) (d : Due) (out now : ℕ) → (waiting_on v d out now).replies ≡ v.replies
waits_same v Never out now = refl
waits_same v (AgainAt t) out now = refl
waits_same v (AskAt t) out now = refl
waits_same v (ForgetAt t) out now = refl

idles_same : (v : Waiting) (d : Due) (wants : Bool) → (idling v d wants).replies ≡ v.replies
idles_same v Never wants = refl
idles_same v (AgainAt t) wants = refl
idles_same v (AskAt t) wants = refl
idles_same v (ForgetAt t) wants = refl

step_same : (v : Waiting) (waiting : Option ℕ) (wants : Bool) (now : ℕ) → (after_step v waiting wants now).replies ≡ v.replies
step_same v (Some out) wants now = waits_same v v.due out now
step_same v None wants now = idles_same v v.due wants

act_same : (v : Waiting) (a : Act) (now : ℕ) → (after_by v a now).replies ≡ v.replies
act_same v Nothing now = refl
act_same v Again now = refl
act_same v Ask now = refl
act_same v GiveUp now = refl
act_same v Forget now = refl

heard_same : (v : Waiting) (d : Due) (out : ℕ) (again : Bool) (now : ℕ) → (after_heard v d (no_more out) None again now).replies ≡ v.replies
heard_same v Never out again now = refl
heard_same v (AgainAt t) out true now = refl
heard_same v (AgainAt t) out false now = refl
heard_same v (AskAt t) out again now = refl
heard_same v (ForgetAt t) out again now = refl

one_more : (r : Replies) (allocation : ℕ) → (counted r allocation).count ≤ r.count + 1
one_more r allocation = grind arith

at_most : (v : Waiting) (d : Due) (out allocation : ℕ) (again : Bool) (now : ℕ)
    → (after_heard v d (no_more out) (Some allocation) again now).replies.count ≤ v.replies.count + 1
at_most v Never out allocation again now = omega arith
at_most v (AgainAt t) out allocation true now = one_more v.replies allocation
at_most v (AgainAt t) out allocation false now = one_more v.replies allocation
at_most v (AskAt t) out allocation again now = omega arith
at_most v (ForgetAt t) out allocation again now = omega arith

-- ---- from one moment to another

still : (u v : Waiting) (n : ℕ) → u.replies ≡ v.replies → v.replies.count ≤ n → u.replies.count ≤ n
still u v n same most = let is : u.replies.count ≡ v.replies.count = ap (λ (r : Replies). r.count) same in omega (arith, is, most)

counts : (w : Waiting) {n : ℕ} {v : Waiting} → w.replies.count ≡ 0 → Lacks w n v → v.replies.count ≤ n
counts w none here = omega (arith, none)
counts w none (steps {n = n} {v = v} before waiting wants now) = still (after_step v waiting wants now) v n (step_same v waiting wants now) (counts w none before)
counts w none (acts {n = n} {v = v} before now) = still (after_act v now) v n (act_same v (act_at v now) now) (counts w none before)
counts w none (hears {n = n} {v = v} before out again now) =
    still (after_word v (no_more out) None again now) v n (heard_same (record v { misses = 0; heard_at = now }) v.due out again now) (counts w none before)
counts w none (replies {n = n} {v = v} before out allocation again now) =
    let more = at_most (record v { misses = 0; heard_at = now }) v.due out allocation again now in
    let most = counts w none before in
    omega (arith, more, most)

third_has_two : (v : Waiting) (d : Due) (reply : Option ℕ) → third_by v d reply ≡ true → 2 ≤ v.replies.count
third_has_two v Never reply third = absurd (cc)
third_has_two v (AgainAt t) None third = absurd (cc)
third_has_two v (AgainAt t) (Some allocation) third =
    let third_now = (and_parts (not (is_vain v.timing)) (is_third v.replies allocation) third).1 in
    let two = eqb-true v.replies.count 2 (and_parts (v.replies.count == 2) (v.replies.allocation == allocation) third_now).0 in
    omega (arith, two)
third_has_two v (AskAt t) reply third = absurd (cc)
third_has_two v (ForgetAt t) reply third = absurd (cc)

pub third_after_two : (w v : Waiting) (n : ℕ) (reply : Option ℕ) → w.replies.count ≡ 0 → Lacks w n v → is_third_reply v reply ≡ true → 2 ≤ n
third_after_two w v n reply none lacks third =
    let most = counts w none lacks in
    let two = third_has_two v v.due reply third in
    omega (arith, most, two)
