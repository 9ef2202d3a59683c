-- The calls that a line can say: each may be made of the tally.
use Rattle.std.specs.Prelude.{◌==◌, ◌&&◌, Bool, true, false, if◌then◌else◌, nat_le, nat_lt, List, length}
use Rattle.std.specs.List.{list_all}
use Rattle.courier_messages.specs.RawCalls.{most_call_words}
use Rattle.courier_types.specs.Value.{ValueModel, no_values}
use Rattle.courier_calls.specs.Calls.{ArgumentsModel, CallModel, raw_words, typed}

abbrev pub is_cardinal : ValueModel → Bool
is_cardinal (ValueModel.cardinal n) = nat_lt n 65536
is_cardinal _ = false

abbrev pub is_no_fields : ValueModel → Bool
is_no_fields (ValueModel.fields no_values) = true
is_no_fields _ = false

abbrev pub is_said_with : CallModel → ArgumentsModel → Bool
is_said_with c (typed v) = c.program == 7 && (c.version == 2
    && (if c.procedure == 1 then is_cardinal v else c.procedure == 2 && is_no_fields v))
is_said_with c (raw_words words) = nat_le (length words) most_call_words

-- the call is an Add, a Total, or has words as arguments, which fit in a message
abbrev pub can_be_said : CallModel → Bool
can_be_said c = is_said_with c c.arguments

abbrev pub are_said : List CallModel → Bool
are_said calls = list_all can_be_said calls
