-- An own time, made of the times that a clock tells, which may go back or far ahead. Times are in milliseconds.
use Rattle.std.specs.Prelude.{ℕ, ◌+◌, ◌-◌, ◌==◌, min, nat_lt, if◌then◌else◌, Option, Some, None}
use Rattle.xns_agenda.specs.Waiting.{last_time, later}
use Rattle.xns_agenda.specs.declared.clock.Clock.{Clock}

abbrev pub day : ℕ
day = 86400000

-- the own time once the time `now` is told: the steps forward are summed; a step back counts as none, and one of more
-- than a day as a day
abbrev pub time_at : Clock → ℕ → ℕ
time_at c now = later c.latest (min (now - c.told) day)

-- the clock after the time `now` is told: the next step is from this time
abbrev pub told_at : Clock → ℕ → Clock
told_at c now = record { told = now; latest = time_at c now }

-- a time past the end of a clock counts as at once, so that one time told far ahead holds nothing up
abbrev pub in_clock : ℕ → ℕ
in_clock at = if nat_lt at last_time then at else 0

-- an own time by the clock that told the time last: as long before or after the time told as before or after the own
-- time at that moment; 0 is at once by both
abbrev pub by_told : Clock → ℕ → ℕ
by_told c time = if time == 0 then 0 else in_clock ((c.told + time) - c.latest)

abbrev pub when_told : Clock → Option ℕ → Option ℕ
when_told c None = None
when_told c (Some time) = Some (by_told c time)
