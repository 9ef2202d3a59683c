-- Programs of Courier's notation that a handle of C's has, and what C is told of them.
use Rattle.std.specs.Prelude.{◌≡◌, ◌≢◌, ◌⊎◌, ◌<◌, ◌≤◌, ℕ, ◌+◌, List, [], ◌∷◌, ◌++◌, length, take, Option, Some, None, Result, Ok, Err, IsOk, option_map}
use Rattle.std.specs.List.{find, flat_map}
use Rattle.std.specs.Str.{bytes_eq}
use Rattle.call_texts.specs.Showing.{UnreadModel}
use Rattle.call_texts.specs.declared.unread.UnreadReason.{UnreadReason}
use Rattle.call_texts.specs.declared.unread.UnreadReason.TheVariants as unread
use Rattle.courier_notation.specs.Lexing.{HasToken}
use Rattle.courier_programs.specs.Declarations.{error_by, procedure_by}
use Rattle.courier_programs.specs.Meanings.{ResolvedError, ResolvedProcedure, ResolvedModel, resolved_model}
use Rattle.courier_programs.specs.Texts.{TextFault, position_behind, text_meant}
use Rattle.courier_programs.specs.declared.program.Program.{Program}
use Rattle.program_tables.specs.Tables.{NodeModel, program_nodes}
use Rattle.xns_c.specs.Given.{IsPut, IsTold}
use Rattle.xns_c.specs.Reasons.{kind_number, program_reason_number}
use Rattle.xns_c.specs.Results.{ok, nothing, short_buffer, too_long, truncated, not_boolean, over_maximum, not_listed, left_over, wrong_text}
use Rattle.xns_c.specs.declared.kept_programs.KeptPrograms.{KeptPrograms}
use Rattle.xns_c.specs.declared.node.XnsNode.{XnsNode}
use Rattle.xns_c.specs.declared.notation_fault.XnsNotationFault.{XnsNotationFault}
use Rattle.xns_c.specs.declared.programs_handle.XnsPrograms.{XnsPrograms}

abbrev pub kept_programs_of : XnsPrograms → Option KeptPrograms
kept_programs_of h = h.kept

abbrev pub programs_in : Option KeptPrograms → List Program
programs_in None = []
programs_in (Some k) = k.programs.items

-- the programs that were read, in their order
abbrev pub programs_of : XnsPrograms → List Program
programs_of h = programs_in (kept_programs_of h)

-- ---- reading

-- the program stands behind those that were read before
abbrev pub IsAdded : ResolvedModel → List Program → List Program → Type 0
IsAdded p before after = (added : Program) × (resolved_model added ≡ p) × (after ≡ before ++ added ∷ [])

-- the first fault of a text, by line and column
abbrev pub fault_given : List ℕ → TextFault → XnsNotationFault
fault_given text f = record {
  line = (position_behind (take f.0 text)).0;
  column = (position_behind (take f.0 text)).1;
  reason = program_reason_number f.1;
}

-- reading a text, which is a program or has a first fault, returns this number
abbrev pub ReadsText : Result ResolvedModel TextFault → List ℕ → List Program → List Program → XnsNotationFault → XnsNotationFault → ℕ → Type 0
ReadsText (Ok p) text before after was fault result = (result ≡ ok) × IsAdded p before after × (fault ≡ was)
ReadsText (Err f) text before after was fault result = (result ≡ wrong_text) × (after ≡ before) × (fault ≡ fault_given text f)

-- reading a text wants memory only where the text begins with a token, or is a program, which is kept
abbrev pub ReadingWants : List ℕ → List Program → Type 0
ReadingWants text before = HasToken text ⊎ IsOk (text_meant text before)

-- ---- finding

-- the first program of that name
abbrev pub program_called : List Program → List ℕ → Option Program
program_called programs name = find (λ p. bytes_eq p.name.items name) programs

abbrev pub procedure_called : List ResolvedProcedure → List ℕ → Option ResolvedProcedure
procedure_called procedures name = find (λ p. bytes_eq p.name name) procedures

abbrev pub error_called : List ResolvedError → List ℕ → Option ResolvedError
error_called errors name = find (λ e. bytes_eq e.name name) errors

abbrev pub procedure_called_in : List ℕ → Option Program → Option ResolvedProcedure
procedure_called_in name (Some p) = procedure_called (resolved_model p).procedures name
procedure_called_in name None = None

abbrev pub error_called_in : List ℕ → Option Program → Option ResolvedError
error_called_in name (Some p) = error_called (resolved_model p).errors name
error_called_in name None = None

abbrev pub procedure_numbered_in : ℕ → Option Program → Option ResolvedProcedure
procedure_numbered_in number (Some p) = procedure_by (resolved_model p).procedures number
procedure_numbered_in number None = None

abbrev pub error_numbered_in : ℕ → Option Program → Option ResolvedError
error_numbered_in number (Some p) = error_by (resolved_model p).errors number
error_numbered_in number None = None

abbrev pub given_program_name : Option Program → Option (List ℕ)
given_program_name found = option_map (λ p. p.name.items) found

abbrev pub procedure_name : Option ResolvedProcedure → Option (List ℕ)
procedure_name found = option_map (λ p. p.name) found

abbrev pub error_name : Option ResolvedError → Option (List ℕ)
error_name found = option_map (λ e. e.name) found

abbrev pub procedure_number : Option ResolvedProcedure → Option ℕ
procedure_number found = option_map (λ p. p.number) found

abbrev pub error_number : Option ResolvedError → Option ℕ
error_number found = option_map (λ e. e.number) found

-- the number and the version of a program that was found are told, or that there is none
abbrev pub TellsProgram : Option Program → ℕ × ℕ → ℕ × ℕ → ℕ → Type 0
TellsProgram found was told result = IsTold (option_map (λ p. (p.number, p.version)) found) nothing was told result

-- bytes are given to the front of a buffer: a buffer without room for all of the bytes has none put, and their number is told
abbrev pub BytesAreGiven : List ℕ → List ℕ → List ℕ → ℕ → ℕ → Type 0
BytesAreGiven bytes old new written result =
    (length bytes ≤ length old → (result ≡ ok) × IsPut bytes old new written)
    × (length old < length bytes → (result ≡ short_buffer) × (written ≡ length bytes) × (new ≡ old))

-- bytes that may not be there are given
abbrev pub GivesBytes : Option (List ℕ) → List ℕ → List ℕ → ℕ → ℕ → ℕ → Type 0
GivesBytes (Some bytes) old new had written result = BytesAreGiven bytes old new written result
GivesBytes None old new had written result = (result ≡ nothing) × (new ≡ old) × (written ≡ had)

-- ---- texts

-- the number of a reason why words have no text
abbrev pub unread_number : UnreadReason → ℕ
unread_number unread.Truncated = truncated
unread_number unread.NotBoolean = not_boolean
unread_number unread.NotListed = not_listed
unread_number unread.OverMaximum = over_maximum
unread_number unread.Trailing = left_over
unread_number unread.LongText = too_long

-- a text is given, or the reason is told why there is none
abbrev pub GivesText : Option (Result (List ℕ) UnreadModel) → List ℕ → List ℕ → ℕ → ℕ → ℕ → ℕ → ℕ → Type 0
GivesText (Some (Ok text)) old new had written stood place result = BytesAreGiven text old new written result × (place ≡ stood)
GivesText (Some (Err why)) old new had written stood place result =
    (result ≡ unread_number why.1) × (place ≡ why.0) × (new ≡ old) × (written ≡ had)
GivesText None old new had written stood place result = (result ≡ nothing) × (new ≡ old) × (written ≡ had) × (place ≡ stood)

-- ---- tables

-- the nodes, where this many bytes of names stand before theirs
abbrev pub nodes_given : ℕ → List NodeModel → List XnsNode
nodes_given at [] = []
nodes_given at (n ∷ ns) =
    (record { kind = kind_number n.kind; number = n.number; parts = n.parts; name = at }) ∷ nodes_given (at + (length n.name + 1)) ns

-- the names, one behind the other, each with a 0 behind it
abbrev pub names_given : List NodeModel → List ℕ
names_given ns = flat_map (λ n. n.name ++ 0 ∷ []) ns

-- a program's nodes and names are given. Where a buffer has no room for all of its own, nothing is put, and how many nodes and bytes there are
-- is told
abbrev pub TableIsGiven : List NodeModel → List XnsNode → List XnsNode → List ℕ → List ℕ → ℕ × ℕ → ℕ → Type 0
TableIsGiven ns nodes after names names_after sizes result =
    (length (nodes_given 0 ns) ≤ length nodes → length (names_given ns) ≤ length names →
    (result ≡ ok) × IsPut (nodes_given 0 ns) nodes after sizes.0 × IsPut (names_given ns) names names_after sizes.1)
    × ((length nodes < length (nodes_given 0 ns)) ⊎ (length names < length (names_given ns)) →
    (result ≡ short_buffer) × (sizes ≡ (length (nodes_given 0 ns), length (names_given ns))) × (after ≡ nodes) × (names_after ≡ names))

-- the table of a program that may not be there is given; the program's number and version are told only with the table
abbrev pub GivesTable : Option Program → ℕ × ℕ → ℕ × ℕ → List XnsNode → List XnsNode → List ℕ → List ℕ → ℕ × ℕ → ℕ × ℕ → ℕ → Type 0
GivesTable (Some p) was told nodes after names names_after had sizes result =
    TableIsGiven (program_nodes (resolved_model p)) nodes after names names_after sizes result
    × (result ≡ ok → told ≡ (p.number, p.version)) × (result ≢ ok → told ≡ was)
GivesTable None was told nodes after names names_after had sizes result =
    (result ≡ nothing) × (told ≡ was) × (after ≡ nodes) × (names_after ≡ names) × (sizes ≡ had)

-- giving a table wants memory only where there is a program, and it has a node
abbrev pub TableWants : Option Program → Type 0
TableWants (Some p) = program_nodes (resolved_model p) ≢ []
TableWants None = ⊥
