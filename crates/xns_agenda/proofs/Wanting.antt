-- While a word of the peer is wanted something is due.
use Rattle.std.proofs.Common.{◌≡◌, refl, ℕ, Bool, true, false, Option, Some, None}
use Rattle.std.specs.Prelude.{◌&&◌, ◌==◌, if◌then◌else◌}
use Rattle.std.specs.Option.{is_some}
use Rattle.xns_agenda.specs.Waiting.{Waiting, after_step, due_time, idle_due, idle_span, idling, later, usual_idle, waiting_on}
use Rattle.xns_agenda.specs.declared.due.Due.{Due}
use Rattle.xns_agenda.specs.declared.due.Due.TheVariants.{Never, AgainAt, AskAt, ForgetAt}
use Rattle.xns_agenda.specs.declared.pace.Pace.{Pace}

by_span : (n heard_at idle : ℕ) (never : Bool) → (idle == 0) ≡ never
    → is_some (due_time (if (if never && true then usual_idle else idle) == 0 then Never else AskAt (later heard_at n))) ≡ true
by_span n heard_at idle true is = refl
by_span n heard_at idle false is = rw (is) refl

asks : (pace : Pace) (heard_at : ℕ) → is_some (due_time (idle_due pace heard_at true)) ≡ true
asks pace heard_at = by_span (idle_span pace true) heard_at pace.idle (pace.idle == 0) refl

waits : (w : Waiting) (d : Due) (out now : ℕ) → w.due ≡ d → is_some (due_time (waiting_on w d out now).due) ≡ true
waits w Never out now is = refl
waits w (AgainAt t) out now is = rw (is) refl
waits w (AskAt t) out now is = refl
waits w (ForgetAt t) out now is = rw (is) refl

idles : (w : Waiting) (d : Due) → w.due ≡ d → is_some (due_time (idling w d true).due) ≡ true
idles w Never is = asks w.pace w.heard_at
idles w (AgainAt t) is = asks w.pace w.heard_at
idles w (AskAt t) is = rw (is) refl
idles w (ForgetAt t) is = rw (is) refl

pub wants_due : (w : Waiting) (b : Option ℕ) (now : ℕ) → is_some (due_time (after_step w b true now).due) ≡ true
wants_due w (Some out) now = waits w w.due out now refl
wants_due w None now = idles w w.due refl
