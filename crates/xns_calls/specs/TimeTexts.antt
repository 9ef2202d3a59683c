-- The times of frames as text.
use Rattle.std.specs.Prelude.{ℕ, zero, suc, ◌-◌, ◌*◌, ◌/◌, ◌%◌, nat_lt, if◌then◌else◌, List, [], ◌++◌, codes, Option, Some, None}
use Rattle.std.specs.Fmt.{decimal}
use Rattle.xns_calls.specs.declared.origin.ShownTime.{ShownTime}
use Rattle.xns_calls.specs.declared.origin.ShownTime.TheVariants.{Hidden, Unknown, Known}
use Rattle.xns_calls.specs.declared.waiting.Waiting.{Waiting}

-- the first digits of a part of a second, in billionths
abbrev pub digits_text : ℕ → ℕ → List ℕ
digits_text zero billionths = []
digits_text (suc digits) billionths = decimal (billionths / 100000000) ++ digits_text digits (billionths % 100000000 * 10)

abbrev pub fraction_text : ℕ → ℕ → List ℕ
fraction_text zero billionths = []
fraction_text (suc digits) billionths = codes "." ++ digits_text (suc digits) billionths

-- nanoseconds in seconds, with so many digits behind the point
abbrev pub seconds_text : ℕ → ℕ → List ℕ
seconds_text digits nanoseconds = decimal (nanoseconds / 1000000000) ++ fraction_text digits (nanoseconds % 1000000000)

-- the time from one to another
unfoldable pub from_to_text : ℕ → ℕ → ℕ → List ℕ
from_to_text digits from to =
    if nat_lt to from then codes "-" ++ seconds_text digits (from - to) else seconds_text digits (to - from)

-- before a line: the time of its frame, or a dash
unfoldable pub time_text : ShownTime → List ℕ
time_text Hidden = []
time_text Unknown = codes "- "
time_text (Known nanoseconds since digits) = from_to_text digits since nanoseconds ++ codes " "

-- how long it took from one frame to another, with the digits of the latter
abbrev pub took_since : ShownTime → ShownTime → List ℕ
took_since (Known from since digits) (Known to since' digits') = from_to_text digits' from to
took_since _ _ = codes "-"

abbrev pub took : Option Waiting → ShownTime → List ℕ
took None time = codes "-"
took (Some waiting) time = took_since waiting.time time

-- behind an answer: how long its call took, or a dash
unfoldable pub took_text : Option Waiting → ShownTime → List ℕ
took_text of Hidden = []
took_text of Unknown = codes " took " ++ took of Unknown
took_text of (Known nanoseconds since digits) = codes " took " ++ took of (Known nanoseconds since digits)
