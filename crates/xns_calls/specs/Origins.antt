-- Where in the input something comes from.
use Rattle.std.specs.Prelude.{ℕ, Option, Some, None, option_and_then}
use Rattle.xns_captures.specs.Times.{digits_of, nanoseconds_of}
use Rattle.xns_captures.specs.declared.frame_time.FrameTime.{FrameTime}
use Rattle.xns_captures.specs.declared.stamp.Stamp.{Stamp}
use Rattle.xns_calls.specs.Naming.{Programs}
use Rattle.xns_calls.specs.declared.origin.Origin.{Origin}
use Rattle.xns_calls.specs.declared.origin.ShownTime.{ShownTime}
use Rattle.xns_calls.specs.declared.origin.ShownTime.TheVariants as shown
use Rattle.xns_calls.specs.declared.times.Times.{Times}
use Rattle.xns_calls.specs.declared.times.Times.TheVariants as times

-- a line of hex has no time
abbrev pub line_origin : Programs → ℕ → Origin
line_origin programs n = record { number = n; time = shown.Hidden; programs = programs }

abbrev pub shown_at : ℕ → FrameTime → Option ℕ → ShownTime
shown_at since time None = shown.Unknown
shown_at since time (Some nanoseconds) = shown.Known nanoseconds since (digits_of time)

abbrev pub shown_known : ℕ → Option FrameTime → ShownTime
shown_known since None = shown.Unknown
shown_known since (Some time) = shown_at since time (nanoseconds_of time)

abbrev pub shown_from : Option ℕ → Option FrameTime → ShownTime
shown_from None time = shown.Unknown
shown_from (Some since) time = shown_known since time

-- the time of a frame of a capture with this first time: absolute times are counted from 1970, and relative ones from the first
abbrev pub shown_time : Times → Option FrameTime → Option FrameTime → ShownTime
shown_time times.Hidden first time = shown.Hidden
shown_time times.Absolute first time = shown_known 0 time
shown_time times.Relative first time = shown_from (option_and_then nanoseconds_of first) time

abbrev pub frame_origin : Programs → Times → Stamp → Origin
frame_origin programs times stamp = record {
  number = stamp.number;
  time = shown_time times stamp.first stamp.time;
  programs = programs;
}
