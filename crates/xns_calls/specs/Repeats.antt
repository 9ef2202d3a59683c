-- Repeats of a flow that come in a row, and where the line is printed that tells of them.
use Rattle.std.specs.Prelude.{ℕ, ◌+◌, ◌&&◌, ◌||◌, nat_lt, not, Bool, true, false, if◌then◌else◌, List, [], ◌∷◌}
use Rattle.xns_spp.specs.Ends.{most_pending}
use Rattle.xns_spp.specs.Header.{is_system}
use Rattle.xns_spp.specs.declared.header.Header.{Header}
use Rattle.xns_calls.specs.declared.connection.Connection.{Connection}
use Rattle.xns_calls.specs.declared.heading.Heading.{Heading}
use Rattle.xns_calls.specs.declared.repeats.Repeats.{Repeats}
use Rattle.xns_calls.specs.declared.repeats.Repeats.TheVariants.{InARow, Told}
use Rattle.xns_calls.specs.Exchange.{brings_new}
use Rattle.xns_calls.specs.Over.{side_in}
use Rattle.xns_calls.specs.Texts.{repeats_line}

-- ---- what is kept of a flow

-- one repeat more is told of: it is the 64th in a row, and none was told of before
abbrev pub tells_next : Repeats → Bool
tells_next Told = false
tells_next (InARow count) = not (nat_lt (count + 1) most_pending)

abbrev pub one_repeat_more : Repeats → Repeats
one_repeat_more Told = Told
one_repeat_more (InARow count) = if nat_lt (count + 1) most_pending then InARow (count + 1) else Told

-- an item that is no repeat ends the row
abbrev pub row_ended : Repeats → Repeats
row_ended Told = Told
row_ended (InARow count) = InARow 0

abbrev pub repeats_behind : Bool → Repeats → Repeats
repeats_behind is_repeat repeats = if is_repeat then one_repeat_more repeats else row_ended repeats

-- ---- the two flows of a connection

abbrev pub repeats_in : Bool → Connection → Repeats
repeats_in true connection = connection.second_repeats
repeats_in false connection = connection.first_repeats

-- an item of the flow with this field is a repeat
abbrev pub is_repeated : Bool → Header → Connection → Bool
is_repeated is_behind f connection = not (brings_new (side_in is_behind connection).track f.sequence)

-- what is kept of the flow's repeats, once this packet of it was captured; a system packet brings no item
abbrev pub repeats_with : Bool → Header → Connection → Repeats
repeats_with is_behind f connection =
    if is_system f then repeats_in is_behind connection else repeats_behind (is_repeated is_behind f connection) (repeats_in is_behind connection)

abbrev pub with_repeats : Bool → Repeats → Connection → Connection
with_repeats true repeats connection = record connection { second_repeats = repeats }
with_repeats false repeats connection = record connection { first_repeats = repeats }

-- with a packet of a flow the line is printed that tells of its repeats
abbrev pub tells_repeats : Bool → Header → Connection → Bool
tells_repeats is_behind f connection = not (is_system f) && (tells_next (repeats_in is_behind connection) && is_repeated is_behind f connection)

abbrev pub repeats_text : Heading → Bool → List ℕ
repeats_text heading tells = if tells then repeats_line heading else []

-- ---- the law: of the items of a flow, the last one first, each a repeat (true) or new

-- what is kept of repeats behind these items of a flow
abbrev pub repeats_of : List Bool → Repeats
repeats_of [] = InARow 0
repeats_of (is_repeat ∷ before) = repeats_behind is_repeat (repeats_of before)

-- how many of the last items are repeats
abbrev pub in_a_row : List Bool → ℕ
in_a_row [] = 0
in_a_row (is_repeat ∷ before) = if is_repeat then in_a_row before + 1 else 0

-- 64 repeats, or more, came in a row
abbrev pub has_row : List Bool → Bool
has_row [] = false
has_row (is_repeat ∷ before) = not (nat_lt (in_a_row (is_repeat ∷ before)) most_pending) || has_row before
