-- What is due of a connection that is not closed, and of one that is.
use Rattle.std.proofs.Common.{◌≡◌, ◌≢◌, ◌∙◌, ap, refl, ℕ, Bool, true, false, Option, Some, None}
use Rattle.std.specs.Prelude.{◌&&◌, ◌==◌, nat_lt, if◌then◌else◌}
use Rattle.std.specs.Option.{is_none, is_some}
use Rattle.xns_connection.specs.Connecting.{FitsClosed, is_again, is_open_due, is_closed_due}
use Rattle.xns_agenda.specs.Waiting.{Waiting, after_step, after_word, after_heard, idle_span, later, rested, taught, unmoved, waiting_on, idling}
use Rattle.xns_connection.specs.Closing.{drains}
use Rattle.xns_connection.specs.declared.conversation.Conversation.{Conversation}
use Rattle.xns_connection.specs.declared.why.Why.{Why}
use Rattle.xns_agenda.specs.declared.due.Due.{Due}
use Rattle.xns_agenda.specs.declared.progress.Progress.{Progress}
use Rattle.xns_agenda.specs.declared.due.Due.TheVariants.{Never, AgainAt, AskAt, ForgetAt}

-- ---- a step

again_by : (w : Waiting) (d : Due) (out now : ℕ) → w.due ≡ d → is_open_due d ≡ true → is_again (waiting_on w d out now).due ≡ true
again_by w Never out now is free = refl
again_by w (AgainAt t) out now is free = ap is_again is
again_by w (AskAt t) out now is free = refl
again_by w (ForgetAt t) out now is free = absurd (cc)

-- where something waits for the peer, it goes out again
pub step_again : (w v : Waiting) (b : Option ℕ) (wants : Bool) (now : ℕ) → is_open_due w.due ≡ true → v ≡ after_step w b wants now → b ≢ None → is_again v.due ≡ true
step_again w v (Some out) wants now free is some = ap (λ (u : Waiting). is_again u.due) is ∙ again_by w w.due out now refl free
step_again w v None wants now free is some = absurd (some refl)

-- whether a word is wanted matters only where nothing waits
pub step_asked : (w : Waiting) (waiting : Option ℕ) (wants : Bool) (now : ℕ) → after_step w waiting (is_none waiting && wants) now ≡ after_step w waiting wants now
step_asked w None wants now = refl
step_asked w (Some out) wants now = refl

idle_open : (b : Bool) (t : ℕ) → is_open_due (if b then Never else AskAt t) ≡ true
idle_open true t = refl
idle_open false t = refl

waits_open : (w : Waiting) (d : Due) (out now : ℕ) → w.due ≡ d → is_open_due d ≡ true → is_open_due (waiting_on w d out now).due ≡ true
waits_open w Never out now is free = refl
waits_open w (AgainAt t) out now is free = ap is_open_due is
waits_open w (AskAt t) out now is free = refl
waits_open w (ForgetAt t) out now is free = absurd (cc)

idles_open : (w : Waiting) (d : Due) (wants : Bool) → w.due ≡ d → is_open_due d ≡ true → is_open_due (idling w d wants).due ≡ true
idles_open w Never wants is free = idle_open (idle_span w.pace wants == 0) (later w.heard_at (idle_span w.pace wants))
idles_open w (AgainAt t) wants is free = idle_open (idle_span w.pace wants == 0) (later w.heard_at (idle_span w.pace wants))
idles_open w (AskAt t) wants is free = ap is_open_due is
idles_open w (ForgetAt t) wants is free = absurd (cc)

pub step_open : (w v : Waiting) (b : Option ℕ) (wants : Bool) (now : ℕ) → is_open_due w.due ≡ true → v ≡ after_step w b wants now → is_open_due v.due ≡ true
step_open w v (Some out) wants now free is = ap (λ (u : Waiting). is_open_due u.due) is ∙ waits_open w w.due out now refl free
step_open w v None wants now free is = ap (λ (u : Waiting). is_open_due u.due) is ∙ idles_open w w.due wants refl free

-- ---- a word of the peer

unmoved_open : (w : Waiting) (reply : Option ℕ) (again : Bool) (out now : ℕ) → is_open_due w.due ≡ true → is_open_due (unmoved w reply again out now).due ≡ true
unmoved_open w None true out now free = refl
unmoved_open w None false out now free = free
unmoved_open w (Some allocation) true out now free = refl
unmoved_open w (Some allocation) false out now free = free

either_open : (b : Bool) (w v : Waiting) → is_open_due w.due ≡ true → is_open_due v.due ≡ true → is_open_due (if b then w else v).due ≡ true
either_open true w v first second = first
either_open false w v first second = second

heard_by : (w : Waiting) (d : Due) (p : Progress) (reply : Option ℕ) (again : Bool) (now : ℕ) → w.due ≡ d → is_open_due d ≡ true
    → is_open_due (after_heard w d p reply again now).due ≡ true
heard_by w Never p reply again now is free = refl
heard_by w (AgainAt t) p reply again now is free =
    either_open (nat_lt 0 p.acknowledged) (rested (taught w p again now)) (unmoved w reply again p.out now) refl
    (unmoved_open w reply again p.out now (ap is_open_due is))
heard_by w (AskAt t) p reply again now is free = refl
heard_by w (ForgetAt t) p reply again now is free = absurd (cc)

pub word_open : (w v : Waiting) (progress : Progress) (reply : Option ℕ) (again : Bool) (now : ℕ) → v ≡ after_word w progress reply again now → is_open_due w.due ≡ true
    → is_open_due v.due ≡ true
word_open w v progress reply again now is free =
    ap (λ (u : Waiting). is_open_due u.due) is ∙ heard_by (record w { misses = 0; heard_at = now }) w.due progress reply again now refl free

heard_shut : (w : Waiting) (d : Due) (progress : Progress) (reply : Option ℕ) (again : Bool) (now : ℕ) → w.due ≡ d → is_closed_due d ≡ true
    → is_closed_due (after_heard w d progress reply again now).due ≡ true
heard_shut w Never progress reply again now is shut = refl
heard_shut w (AgainAt t) progress reply again now is shut = absurd (cc)
heard_shut w (AskAt t) progress reply again now is shut = absurd (cc)
heard_shut w (ForgetAt t) progress reply again now is shut = ap is_closed_due is

pub word_shut : (w v : Waiting) (progress : Progress) (reply : Option ℕ) (again : Bool) (now : ℕ) → v ≡ after_word w progress reply again now → is_closed_due w.due ≡ true
    → is_closed_due v.due ≡ true
word_shut w v progress reply again now is shut =
    ap (λ (u : Waiting). is_closed_due u.due) is ∙ heard_shut (record w { misses = 0; heard_at = now }) w.due progress reply again now refl shut

-- ---- whether it is closed

pub fits_same : (closed : Option Why) (t u : Conversation) (w : Waiting) → FitsClosed closed t w
    → drains u.side u.closing ≡ drains t.side t.closing → FitsClosed closed u w
fits_same closed t u w fits same =
    record { open_due = fits.open_due; closed_due = fits.closed_due; deaf = λ some. same ∙ fits.deaf some }
