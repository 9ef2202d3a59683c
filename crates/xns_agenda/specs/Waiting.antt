-- When a connection says something again, asks its peer for a word, and is given up. Times are in milliseconds.
use Rattle.std.specs.Prelude.{◌≡◌, ℕ, ◌+◌, ◌-◌, ◌^◌, ◌<◌, ◌≤◌, Bool, true, false, not, ◌&&◌, ◌==◌, nat_le, nat_lt, min, if◌then◌else◌, Option, Some, None, IfSome}
use Rattle.xns_agenda.specs.Measuring.{IsWithinLongest, begun_timing, borne, first_wait, every, is_late, is_vain, learnt, moved_on, next_length}
use Rattle.xns_agenda.specs.Replying.{counted, is_third}
use Rattle.xns_agenda.specs.declared.act.Act.{Act}
use Rattle.xns_agenda.specs.declared.act.Act.TheVariants.{Nothing, Again, Ask, GiveUp, Forget}
use Rattle.xns_agenda.specs.declared.due.Due.{Due}
use Rattle.xns_agenda.specs.declared.due.Due.TheVariants.{Never, AgainAt, AskAt, ForgetAt}
use Rattle.xns_agenda.specs.declared.measure.Measure.{Measure}
use Rattle.xns_agenda.specs.declared.measure.TheConstants.Measure.{NONE}
use Rattle.xns_agenda.specs.declared.pace.Pace.{Pace}
use Rattle.xns_agenda.specs.declared.progress.Progress.{Progress}
use Rattle.xns_agenda.specs.declared.replies.Replies.{Replies}
use Rattle.xns_agenda.specs.declared.replies.TheConstants.Replies as none
use Rattle.xns_agenda.specs.declared.timing.Timing.{Timing}
use Rattle.xns_agenda.specs.declared.timing.Timing.TheVariants.{Ready, Resent}

pub record Waiting : Type 0 where
  pub pace : Pace
  pub due : Due
  -- how long the next wait is
  pub length : ℕ
  -- how long the peer takes, as it was measured
  pub measure : Measure
  -- the item that is timed
  pub timing : Timing
  -- how often the peer said that it lacks the same item
  pub replies : Replies
  -- how many packets went out again or asked since the last word of the peer
  pub misses : ℕ
  -- when the last word of the peer came
  pub heard_at : ℕ

-- no more misses than are borne; no wait is shorter than the least or longer than the longest
pub record IsWaiting (pace : Pace) (length misses : ℕ) (measure : Measure) : Type 0 where
  pub patient : misses ≤ borne measure pace
  pub least : pace.least ≤ length
  pub longest : length ≤ pace.longest
  pub bounded : IfSome measure.smoothed IsWithinLongest

abbrev pub last_time : ℕ
last_time = 2 ^ 64 - 1

-- the time `span` after `now`, and the last time where that would be later
abbrev pub later : ℕ → ℕ → ℕ
later now span = min (now + span) last_time

abbrev pub new_waiting : Pace → ℕ → Waiting
new_waiting pace now = record { pace = pace; due = Never; length = pace.first; measure = NONE; timing = Ready; replies = none.NONE; misses = 0; heard_at = now }

-- nothing waits for the peer, and the next wait is a first one
abbrev pub rested : Waiting → Waiting
rested w = record w { due = Never; length = first_wait w.measure w.pace }

-- a wait begins; something is done at its end
abbrev pub begun : (ℕ → Due) → Waiting → ℕ → Waiting
begun at w now = record w { due = at (later now w.length); length = next_length w.pace w.length }

-- ---- after a step of an open connection

abbrev pub usual_idle : ℕ
usual_idle = 10000

-- how long the peer may be silent, where 0 is for ever; while a word of the peer is wanted, the usual time stands for 0
abbrev pub idle_span : Pace → (wants : Bool) → ℕ
idle_span pace wants = if (pace.idle == 0) && wants then usual_idle else pace.idle

abbrev pub idle_due : Pace → ℕ → (wants : Bool) → Due
idle_due pace heard_at wants = if idle_span pace wants == 0 then Never else AskAt (later heard_at (idle_span pace wants))

-- a wait for the peer begins, which is timed
abbrev pub timed : Waiting → (out now : ℕ) → Waiting
timed w out now = begun AgainAt (record (rested w) { timing = begun_timing w.timing out now }) now

-- something waits for the peer, and so many items are out
abbrev pub waiting_on : Waiting → Due → (out now : ℕ) → Waiting
waiting_on w Never out now = timed w out now
waiting_on w (AgainAt t) out now = record w { timing = begun_timing w.timing out now }
waiting_on w (AskAt t) out now = timed w out now
waiting_on w (ForgetAt t) out now = w

-- nothing waits for the peer; the peer is asked when it has been silent for as long as it may be
abbrev pub idling : Waiting → Due → (wants : Bool) → Waiting
idling w Never wants = record (rested w) { due = idle_due w.pace w.heard_at wants; timing = Ready }
idling w (AgainAt t) wants = record (rested w) { due = idle_due w.pace w.heard_at wants; timing = Ready }
idling w (AskAt t) wants = w
idling w (ForgetAt t) wants = w

-- `waiting`: how many items are out, if something waits for the peer; `wants`: a word of the peer is wanted, for a call or for the end of
-- the connection
abbrev pub after_step : Waiting → (waiting : Option ℕ) (wants : Bool) → ℕ → Waiting
after_step w (Some out) wants now = waiting_on w w.due out now
after_step w None wants now = idling w w.due wants

-- ---- after a word of the peer, which acknowledges more or opens the connection, or does not

-- half of the first wait is over since the item that is timed went out, which the peer did not acknowledge, and nothing went out again
abbrev pub overdue_by : Waiting → Due → (now : ℕ) → Bool
overdue_by w Never now = false
overdue_by w (AgainAt t) now = is_late w.timing (first_wait w.measure w.pace) now
overdue_by w (AskAt t) now = false
overdue_by w (ForgetAt t) now = false

abbrev pub is_overdue : Waiting → (now : ℕ) → Bool
is_overdue w now = overdue_by w w.due now

-- the packet that waits for the peer goes out again before its time, and the first wait begins anew
abbrev pub resent : Waiting → (out now : ℕ) → Waiting
resent w out now = record (begun AgainAt (rested w) now) { timing = Resent now out }

-- the wait learns how long the peer took, and the item that the peer lacks then is another one
abbrev pub taught : Waiting → Progress → (again : Bool) → ℕ → Waiting
taught w progress again now = record w {
  measure = learnt w.measure w.pace w.timing progress now;
  timing = moved_on w.timing progress again now;
  replies = none.NONE;
}

-- the peer says by a reply with this allocation number that it lacks the first item that is out
abbrev pub counting : Waiting → (allocation : ℕ) → Waiting
counting w allocation = record w { replies = counted w.replies allocation }

-- while something waits for the peer, where nothing went out again since it acknowledged more, the reply is the third in a row that says
-- the same
abbrev pub third_by : Waiting → Due → Option ℕ → Bool
third_by w Never reply = false
third_by w (AgainAt t) None = false
third_by w (AgainAt t) (Some allocation) = not (is_vain w.timing) && is_third w.replies allocation
third_by w (AskAt t) reply = false
third_by w (ForgetAt t) reply = false

abbrev pub is_third_reply : Waiting → (reply : Option ℕ) → Bool
is_third_reply w reply = third_by w w.due reply

-- where the peer acknowledges no more; the allocation number is that of a reply by which it lacks an item that is out
abbrev pub unmoved : Waiting → (reply : Option ℕ) → (again : Bool) → (out now : ℕ) → Waiting
unmoved w None true out now = resent w out now
unmoved w None false out now = w
unmoved w (Some allocation) true out now = resent (counting w allocation) out now
unmoved w (Some allocation) false out now = counting w allocation

abbrev pub after_heard : Waiting → Due → Progress → (reply : Option ℕ) (again : Bool) → ℕ → Waiting
after_heard w Never progress reply again now = rested w
after_heard w (AgainAt t) progress reply again now =
    if nat_lt 0 progress.acknowledged then rested (taught w progress again now) else unmoved w reply again progress.out now
after_heard w (AskAt t) progress reply again now = rested w
after_heard w (ForgetAt t) progress reply again now = w

-- `progress`: how many items the peer acknowledges, where that it opens the connection counts as one, and how many are out then; `reply`:
-- the allocation number of a reply by which the peer lacks an item that is out; `again`: something goes out again for the word
abbrev pub after_word : Waiting → Progress → (reply : Option ℕ) (again : Bool) → ℕ → Waiting
after_word w progress reply again now = after_heard (record w { misses = 0; heard_at = now }) w.due progress reply again now

-- the peer acknowledges no more, and so many items are out
abbrev pub no_more : (out : ℕ) → Progress
no_more out = record { acknowledged = 0; out = out }

-- ---- when a wait is over

abbrev pub due_time : Due → Option ℕ
due_time Never = None
due_time (AgainAt t) = Some t
due_time (AskAt t) = Some t
due_time (ForgetAt t) = Some t

-- a packet goes out, unless as many went out without a word of the peer as are borne
abbrev pub unless_silent : Waiting → Act → Act
unless_silent w act = if nat_le (borne w.measure w.pace) w.misses then GiveUp else act

abbrev pub act_by : Waiting → Due → ℕ → Act
act_by w Never now = Nothing
act_by w (AgainAt t) now = if nat_le t now then unless_silent w Again else Nothing
act_by w (AskAt t) now = if nat_le t now then unless_silent w Ask else Nothing
act_by w (ForgetAt t) now = if nat_le t now then Forget else Nothing

abbrev pub act_at : Waiting → ℕ → Act
act_at w now = act_by w w.due now

-- a closed connection is kept for the longest wait, and then forgotten
abbrev pub lingering : Waiting → ℕ → Waiting
lingering w now = record w { due = ForgetAt (later now w.pace.longest) }

abbrev pub missed : (ℕ → Due) → Waiting → ℕ → Waiting
missed at w now = record (begun at w now) { misses = w.misses + 1 }

abbrev pub after_by : Waiting → Act → ℕ → Waiting
after_by w Nothing now = w
after_by w Again now = record (missed AgainAt w now) { timing = Resent now every }
after_by w Ask now = missed AskAt w now
after_by w GiveUp now = lingering w now
after_by w Forget now = record w { due = Never }

abbrev pub after_act : Waiting → ℕ → Waiting
after_act w now = after_by w (act_at w now) now

-- something is due after this time, or never
abbrev pub IsDueAfter : ℕ → Due → Type 0
IsDueAfter now due = (t : ℕ) → due_time due ≡ Some t → now < t

-- ---- at one moment

-- the first wait leads to the second by steps of this moment, or the connection was closed at it
pub data StepsAt (now : ℕ) (w : Waiting) : Waiting → Type 0 where
  still : StepsAt now w w
  step : {v : Waiting} → StepsAt now w v → (waiting : Option ℕ) (wants : Bool) → StepsAt now w (after_step v waiting wants now)
  close : {v : Waiting} → StepsAt now w v → StepsAt now w (lingering v now)

-- steps of this moment lead from the first wait to the second, and a word of the peer may have come before them
pub data HearsAt (now : ℕ) (w v : Waiting) : Type 0 where
  no_word : StepsAt now w v → HearsAt now w v
  word : (progress : Progress) (reply : Option ℕ) (again : Bool) → StepsAt now (after_word w progress reply again now) v → HearsAt now w v

-- ---- a silent peer

-- a packet goes out by the time alone
abbrev pub is_sent : Act → Bool
is_sent Nothing = false
is_sent Again = true
is_sent Ask = true
is_sent GiveUp = false
is_sent Forget = false

-- from one moment to another there is no word of the peer, and so many packets go out by the time alone
pub data Silence (w : Waiting) : ℕ → Waiting → Type 0 where
  here : Silence w 0 w
  steps : {n : ℕ} {v : Waiting} → Silence w n v → (waiting : Option ℕ) (wants : Bool) (now : ℕ) → Silence w n (after_step v waiting wants now)
  sends : {n : ℕ} {v : Waiting} → Silence w n v → (now : ℕ) → is_sent (act_at v now) ≡ true → Silence w (n + 1) (after_act v now)

-- ---- what a peer says that acknowledges no more

-- from one moment to another the peer acknowledges no more, and says by so many replies that it lacks an item that is out
pub data Lacks (w : Waiting) : ℕ → Waiting → Type 0 where
  here : Lacks w 0 w
  steps : {n : ℕ} {v : Waiting} → Lacks w n v → (waiting : Option ℕ) (wants : Bool) (now : ℕ) → Lacks w n (after_step v waiting wants now)
  acts : {n : ℕ} {v : Waiting} → Lacks w n v → (now : ℕ) → Lacks w n (after_act v now)
  hears : {n : ℕ} {v : Waiting} → Lacks w n v → (out : ℕ) (again : Bool) (now : ℕ) → Lacks w n (after_word v (no_more out) None again now)
  replies : {n : ℕ} {v : Waiting} → Lacks w n v → (out allocation : ℕ) (again : Bool) (now : ℕ)
      → Lacks w (n + 1) (after_word v (no_more out) (Some allocation) again now)

-- from one moment to another something waits for the peer, which acknowledges no more; so often something goes out
-- again when a word of the peer comes
pub data Unheard (w : Waiting) : ℕ → Waiting → Type 0 where
  here : Unheard w 0 w
  steps : {n : ℕ} {v : Waiting} → Unheard w n v → (out : ℕ) (wants : Bool) (now : ℕ) → Unheard w n (after_step v (Some out) wants now)
  acts : {n : ℕ} {v : Waiting} → Unheard w n v → (now : ℕ) → Unheard w n (after_act v now)
  hears : {n : ℕ} {v : Waiting} → Unheard w n v → (out : ℕ) (reply : Option ℕ) (now : ℕ)
      → Unheard w n (after_word v (no_more out) reply false now)
  resends : {n : ℕ} {v : Waiting} → Unheard w n v → (out now : ℕ) → is_overdue v now ≡ true
      → Unheard w (n + 1) (after_word v (no_more out) None true now)
  replaces : {n : ℕ} {v : Waiting} → Unheard w n v → (out : ℕ) (reply : Option ℕ) (now : ℕ) → is_third_reply v reply ≡ true
      → Unheard w (n + 1) (after_word v (no_more out) reply true now)
