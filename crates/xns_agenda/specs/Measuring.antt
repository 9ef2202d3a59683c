-- How long a peer takes to acknowledge, as it is measured, and how long a connection waits by that. Times are in milliseconds.
use Rattle.std.specs.Prelude.{◌≡◌, ℕ, zero, suc, ◌+◌, ◌-◌, ◌*◌, ◌/◌, ◌^◌, ◌≤◌, Bool, true, false, not, ◌&&◌, ◌==◌, nat_le, nat_lt, min, max, if◌then◌else◌, Option, Some, None}
use Rattle.std.specs.Int.{abs_diff}
use Rattle.xns_agenda.specs.declared.measure.Measure.{Measure}
use Rattle.xns_agenda.specs.declared.pace.Pace.{Pace}
use Rattle.xns_agenda.specs.declared.progress.Progress.{Progress}
use Rattle.xns_agenda.specs.declared.smoothed.Smoothed.{Smoothed}
use Rattle.xns_agenda.specs.declared.timing.Timing.{Timing}
use Rattle.xns_agenda.specs.declared.timing.Timing.TheVariants.{Ready, Timed, Resent, Over}

-- ---- what is measured

abbrev pub longest_time : ℕ
longest_time = 2 ^ 32 - 1

-- each number is at most as large as the longest time makes it
pub record IsWithinLongest (s : Smoothed) : Type 0 where
  pub time : s.time8 ≤ 8 * longest_time
  pub varies : s.varies4 ≤ 4 * longest_time

-- the first time that is measured may vary by half of it
abbrev pub first_smoothed : ℕ → Smoothed
first_smoothed time = record { time8 = 8 * time; varies4 = 2 * time }

-- each further time moves the smoothed time an eighth of the way to it, and moves what the time varies by a quarter of
-- the way to its distance from the smoothed time
abbrev pub smoothed_on : Smoothed → ℕ → Smoothed
smoothed_on s time = record {
  time8 = (s.time8 - s.time8 / 8) + time;
  varies4 = (s.varies4 - s.varies4 / 4) + abs_diff time (s.time8 / 8);
}

abbrev pub smoothed_by : Option Smoothed → ℕ → Smoothed
smoothed_by None time = first_smoothed time
smoothed_by (Some s) time = smoothed_on s time

-- the time that is to be expected: the smoothed one, and four times the amount by which it varies, which counts at least `least`
abbrev pub estimate : Smoothed → (least : ℕ) → ℕ
estimate s least = s.time8 / 8 + max least s.varies4

abbrev pub expected_time : Option Smoothed → Pace → ℕ
expected_time None pace = pace.first
expected_time (Some s) pace = estimate s pace.least

-- the soonest time that is to be expected: half of the smoothed time, less four times the amount by which it varies, which counts at least
-- `least`
abbrev pub soonest : Smoothed → (least : ℕ) → ℕ
soonest s least = s.time8 / 8 - s.time8 / 8 / 2 - max least s.varies4

abbrev pub expected_from : Option Smoothed → Pace → ℕ
expected_from None pace = pace.least - pace.least / 2
expected_from (Some s) pace = soonest s pace.least

-- how long after a packet went out again an acknowledgement counts as one of that packet: half of the smoothed time, or more
abbrev pub half_time : Option Smoothed → Pace → ℕ
half_time None pace = pace.least - pace.least / 2
half_time (Some s) pace = s.time8 / 8 - s.time8 / 8 / 2

abbrev pub is_fit : Option Smoothed → Pace → (passed : ℕ) → Bool
is_fit o pace passed = nat_le (half_time o pace) passed

-- the peer may have acknowledged a packet that went out again, by the time that has passed since
abbrev pub is_expected : Option Smoothed → Pace → (passed : ℕ) → Bool
is_expected o pace passed = nat_le (expected_from o pace) passed && nat_le passed (expected_time o pace)

-- ---- what is learnt where the peer acknowledges more, or opens the connection

abbrev pub sampled : Measure → Pace → (passed : ℕ) → Measure
sampled m pace passed = record { smoothed = Some (smoothed_by m.smoothed (min passed pace.longest)); doubts = 0; ambiguous = 0 }

-- how many ambiguous acknowledgements, between which no time was measured, say that the waits are too short
abbrev pub most_ambiguous : ℕ
most_ambiguous = 8

-- an ambiguous acknowledgement is one of all that was out, and may be of the packet that went out first or of the one that went out
-- again; the last one that is counted is a doubt, at least the third
abbrev pub ambiguously : Measure → Measure
ambiguously m =
    if nat_lt (m.ambiguous + 1) most_ambiguous then record m { ambiguous = m.ambiguous + 1 }
    else record m { doubts = min (max m.doubts 2 + 1) 255; ambiguous = 0 }

-- the peer acknowledges something after a packet went out again; `left`: something of ours is still not acknowledged
abbrev pub doubted : Measure → Pace → (left : Bool) (passed : ℕ) → Measure
doubted m pace left passed =
    if not (is_expected m.smoothed pace passed) then record m { doubts = min (m.doubts + 1) 255 }
    else if left then m else ambiguously m

-- how long the peer took is measured where it acknowledges the item that is timed, and nothing went out again; where something did, it is
-- doubted that the wait was long enough, unless the peer may have acknowledged the packet that went out again
abbrev pub learnt : Measure → Pace → Timing → Progress → (now : ℕ) → Measure
learnt m pace Ready progress now = m
learnt m pace (Timed since place) progress now = if nat_le place progress.acknowledged then sampled m pace (now - since) else m
learnt m pace (Resent at missing) progress now = doubted m pace (nat_lt 0 progress.out) (now - at)
learnt m pace (Over out) progress now = m

-- where the peer acknowledges so many items, the next one that it lacks goes out again: something had gone out again, which the peer may
-- have acknowledged, and the peer has not acknowledged all that was out then
abbrev pub mends : Measure → Pace → Timing → (acknowledged now : ℕ) → Bool
mends m pace Ready acknowledged now = false
mends m pace (Timed since place) acknowledged now = false
mends m pace (Resent at missing) acknowledged now = nat_lt acknowledged missing && is_fit m.smoothed pace (now - at)
mends m pace (Over out) acknowledged now = false

-- from one measure to another there come so many ambiguous acknowledgements, and no time is measured
pub data Ambiguous (m : Measure) (pace : Pace) : ℕ → Measure → Type 0 where
  here : Ambiguous m pace 0 m
  one : {n : ℕ} {k : Measure} → Ambiguous m pace n k → (passed : ℕ) → is_expected k.smoothed pace passed ≡ true
      → Ambiguous m pace (n + 1) (doubted k pace false passed)

-- ---- what is timed

-- a number of items that is not kept, and stands for more than any
abbrev pub every : ℕ
every = 2 ^ 64 - 1

-- something waits for the peer, and so many items are out: where nothing is timed, the first that went out since is timed
abbrev pub begun_timing : Timing → (out now : ℕ) → Timing
begun_timing Ready out now = Timed now 1
begun_timing (Timed since place) out now = Timed since place
begun_timing (Resent at missing) out now = Resent at missing
begun_timing (Over before) out now = if nat_lt before out then Timed now (before + 1) else Over before

-- something went out again since the peer acknowledged more
abbrev pub is_vain : Timing → Bool
is_vain Ready = false
is_vain (Timed since place) = false
is_vain (Resent at missing) = true
is_vain (Over out) = false

-- half of a wait is over since the item that is timed went out, and nothing went out again
abbrev pub is_late : Timing → (wait now : ℕ) → Bool
is_late Ready wait now = false
is_late (Timed since place) wait now = nat_le (wait - wait / 2) (now - since)
is_late (Resent at missing) wait now = false
is_late (Over out) wait now = false

-- the peer acknowledges so many items, and nothing goes out again for that: the item that is timed moves up, until it is acknowledged
abbrev pub moved_up : Timing → Progress → Timing
moved_up Ready progress = Over progress.out
moved_up (Timed since place) progress =
    if nat_lt progress.acknowledged place then Timed since (place - progress.acknowledged) else Over progress.out
moved_up (Resent at missing) progress = Over progress.out
moved_up (Over out) progress = Over progress.out

-- the peer acknowledges more, and something goes out again for that, or nothing does
abbrev pub moved_on : Timing → Progress → (again : Bool) → (now : ℕ) → Timing
moved_on timing progress again now = if again then Resent now progress.out else moved_up timing progress

-- ---- how long a connection waits

-- the least wait by the number of doubts: the first wait for three, twice as long for four, four times as long for more
abbrev pub doubted_wait : (first doubts : ℕ) → ℕ
doubted_wait first doubts = if nat_lt doubts 3 then 0 else if doubts == 3 then first else if doubts == 4 then first * 2 else first * 4

abbrev pub wait_by : Option Smoothed → (doubts : ℕ) → Pace → ℕ
wait_by None doubts pace = pace.first
wait_by (Some s) doubts pace = min (max (estimate s pace.least) (doubted_wait pace.first doubts)) (min (pace.first * 4) pace.longest)

-- the first wait for an acknowledgement: the time to be expected, at least what the doubts ask for, and at most four
-- times the pace's first wait and the pace's longest; where nothing was measured, the pace's first wait
abbrev pub first_wait : Measure → Pace → ℕ
first_wait m pace = wait_by m.smoothed m.doubts pace

-- the next wait is twice as long, up to the longest
abbrev pub next_length : Pace → ℕ → ℕ
next_length pace length = min (length * 2) pace.longest

-- how long so many waits take together, the first of which is `length` long
unfoldable pub waits_time : Pace → (length count : ℕ) → ℕ
waits_time pace length zero = 0
waits_time pace length (suc n) = length + waits_time pace (next_length pace length) n

-- ---- how long a silent peer is borne

-- how many waits have to come after one that is `length` long, until all of them together take `span`; no more than `most` are counted
unfoldable pub further_waits : (most : ℕ) → Pace → (length span : ℕ) → ℕ
further_waits zero pace length span = 0
further_waits (suc n) pace length span = if nat_le span length then 0 else 1 + further_waits n pace (next_length pace length) (span - length)

-- how many packets are borne at most: as many as 16 bits count
abbrev pub most_borne : ℕ
most_borne = 65535

-- how many packets are borne without a word of the peer: one goes out after each wait but the last, and all of the waits together take the
-- pace's patience; at least as many as the pace's tries. Each wait takes a millisecond at least, so that no more waits come than the
-- patience has milliseconds
abbrev pub borne : Measure → Pace → ℕ
borne m pace = max pace.tries (min (further_waits pace.patience pace (first_wait m pace) pace.patience) most_borne)
