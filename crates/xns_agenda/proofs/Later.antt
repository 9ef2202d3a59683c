-- What is due is done, and is then due later.
use Rattle.std.proofs.Common.{◌≡◌, ap, refl, subst, sym, ℕ, ◌+◌, ◌<◌, ◌≤◌, Bool, true, false, Some, None, arith}
use Rattle.std.specs.Prelude.{min, nat_le, if◌then◌else◌}
use Rattle.std.proofs.lemmas.Bool.{leb-false}
use Rattle.std.proofs.Math.Nat.{le-min}
use Rattle.xns_agenda.specs.Measuring.{borne}
use Rattle.xns_agenda.specs.Waiting.{Waiting, IsWaiting, IsDueAfter, act_by, after_act, after_by, due_time, last_time, later, unless_silent}
use Rattle.xns_agenda.specs.declared.act.Act.TheVariants.{Nothing, Again, Ask, GiveUp, Forget}
use Rattle.xns_agenda.specs.declared.due.Due.{Due}
use Rattle.xns_agenda.specs.declared.due.Due.TheVariants.{Never, AgainAt, AskAt, ForgetAt}

-- a wait has some length, and ends later
ends_later : (now span : ℕ) → 1 ≤ span → now < last_time → now < later now span
ends_later now span some more =
    let sum : now + 1 ≤ now + span = omega (arith, some) in
    let last : now + 1 ≤ last_time = omega (arith, more) in
    let least : now + 1 ≤ min (now + span) last_time = le-min sum last in
    omega (arith, least)

at_end : (now a : ℕ) (at : ℕ → Due) → ((t : ℕ) → due_time (at t) ≡ Some t) → now < a → IsDueAfter now (at a)
at_end now a at is more t due = let here = is a in let same : a ≡ t = cc in subst (λ (n : ℕ). now < n) same more

-- the waits of a connection have some length
record HasLength (w : Waiting) : Type 0 where
  pub next : 1 ≤ w.length
  pub longest : 1 ≤ w.pace.longest

has_length : (w : Waiting) → IsWaiting w.pace w.length w.misses w.measure → HasLength w
has_length w is =
    let some = w.pace.short in
    let least = is.least in
    let longest = is.longest in
    record { next = omega (arith, some, least); longest = omega (arith, some, least, longest) }

not_yet : (w : Waiting) (t now : ℕ) → due_time w.due ≡ Some t → nat_le t now ≡ false → IsDueAfter now w.due
not_yet w t now is late u due =
    let same : t ≡ u = cc in
    subst (λ (n : ℕ). now < n) same (leb-false t now late)

after_again : (b : Bool) (w : Waiting) (now : ℕ) → HasLength w → now < last_time → IsDueAfter now (after_by w (if b then GiveUp else Again) now).due
after_again true w now some more = at_end now (later now w.pace.longest) ForgetAt (λ t. refl) (ends_later now w.pace.longest some.longest more)
after_again false w now some more = at_end now (later now w.length) AgainAt (λ t. refl) (ends_later now w.length some.next more)

after_ask : (b : Bool) (w : Waiting) (now : ℕ) → HasLength w → now < last_time → IsDueAfter now (after_by w (if b then GiveUp else Ask) now).due
after_ask true w now some more = at_end now (later now w.pace.longest) ForgetAt (λ t. refl) (ends_later now w.pace.longest some.longest more)
after_ask false w now some more = at_end now (later now w.length) AskAt (λ t. refl) (ends_later now w.length some.next more)

by_again : (b : Bool) (w : Waiting) (t now : ℕ) → nat_le t now ≡ b → due_time w.due ≡ Some t → HasLength w → now < last_time
    → IsDueAfter now (after_by w (if b then unless_silent w Again else Nothing) now).due
by_again true w t now test is some more = after_again (nat_le (borne w.measure w.pace) w.misses) w now some more
by_again false w t now test is some more = not_yet w t now is test

by_ask : (b : Bool) (w : Waiting) (t now : ℕ) → nat_le t now ≡ b → due_time w.due ≡ Some t → HasLength w → now < last_time
    → IsDueAfter now (after_by w (if b then unless_silent w Ask else Nothing) now).due
by_ask true w t now test is some more = after_ask (nat_le (borne w.measure w.pace) w.misses) w now some more
by_ask false w t now test is some more = not_yet w t now is test

by_forget : (b : Bool) (w : Waiting) (t now : ℕ) → nat_le t now ≡ b → due_time w.due ≡ Some t
    → IsDueAfter now (after_by w (if b then Forget else Nothing) now).due
by_forget true w t now test is u due = absurd (cc)
by_forget false w t now test is u due = not_yet w t now is test u due

by_due : (w : Waiting) (d : Due) (now : ℕ) → w.due ≡ d → HasLength w → now < last_time → IsDueAfter now (after_by w (act_by w d now) now).due
by_due w Never now is some more t due = let none : due_time w.due ≡ None = ap due_time is in absurd (cc)
by_due w (AgainAt t) now is some more u due = by_again (nat_le t now) w t now refl (ap due_time is) some more u due
by_due w (AskAt t) now is some more u due = by_ask (nat_le t now) w t now refl (ap due_time is) some more u due
by_due w (ForgetAt t) now is some more u due = by_forget (nat_le t now) w t now refl (ap due_time is) u due

pub due_later : (w v : Waiting) (now : ℕ) → IsWaiting w.pace w.length w.misses w.measure → v ≡ after_act w now → now < last_time → IsDueAfter now v.due
due_later w v now is same more = subst (λ (u : Waiting). IsDueAfter now u.due) (sym same) (by_due w w.due now refl (has_length w is) more)
