-- What `sim` prints of a play of calls.
use Rattle.std.specs.Prelude.{ℕ, ◌+◌, List, [], ◌∷◌, ◌++◌, codes}
use Rattle.std.specs.Fmt.{decimal}
use Rattle.courier_types.specs.Value.{ValueModel}
use Rattle.courier_calls.specs.Calls.{SeenModel}
use Rattle.xns_lines.specs.Text.{words_text}

-- a long cardinal in decimal; the tally's outcomes have no other values
abbrev pub value_text : ValueModel → List ℕ
value_text (ValueModel.long_cardinal n) = decimal n
value_text _ = []

unfoldable pub seen_text : SeenModel → List ℕ
seen_text (SeenModel.returned value) = codes " returned " ++ value_text value
seen_text (SeenModel.aborted error value) = codes " aborted " ++ decimal error ++ codes " " ++ value_text value
seen_text (SeenModel.rejected reason words) = codes " rejected " ++ decimal reason ++ codes " " ++ words_text words

-- the line of outcome k
unfoldable pub outcome_line : ℕ → SeenModel → List ℕ
outcome_line k seen = decimal k ++ seen_text seen ++ codes "\n"

-- the lines of outcomes of which the first has number k
abbrev pub outcome_lines : ℕ → List SeenModel → List ℕ
outcome_lines k [] = []
outcome_lines k (seen ∷ more) = outcome_line k seen ++ outcome_lines (k + 1) more

-- a name and a number
unfoldable pub count_line : List ℕ → ℕ → List ℕ
count_line name number = name ++ decimal number ++ codes "\n"

-- how many calls there are, how many the server decided, the outcomes that the caller saw, the tally's total, and how
-- many packets were sent
unfoldable pub trace_text : ℕ → ℕ → List SeenModel → ℕ → ℕ → List ℕ
trace_text calls carried seen total packets =
    count_line (codes "calls ") calls ++ count_line (codes "carried ") carried ++ outcome_lines 1 seen
    ++ count_line (codes "total ") total ++ count_line (codes "packets ") packets
