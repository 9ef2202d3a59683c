-- The command line of the program.
use Rattle.std.specs.Prelude.{◌≡◌, List, ◌∷◌, [], Option, Some, None, option_and_then, option_map, slice_get, unwrap_or, codes, map, Bool, true, false, ◌||◌, ◌⊎◌, if◌then◌else◌}
use Rattle.std.specs.Borrow.{Bor}
use Rattle.std.specs.Str.{bytes_eq}
use Rattle.clap.specs.Kinds.{or_else}
use Rattle.clap.specs.Lexer.{usize_max}
use Rattle.clap.specs.Words.{App, Kinds, Row, Rule, Text, all_of, fault_of, first_of, new_app, new_rule, subcommand_of, with_rule, with_subcommand}
use Rattle.clap.specs.declared.error.kind.ErrorKind.TheVariants as kind
use Rattle.clap.specs.declared.builder.action.ArgAction.TheVariants.{Append, SetTrue}
use Rattle.xns_calls.specs.declared.times.Times.{Times}
use Rattle.xns_calls.specs.declared.times.Times.TheVariants.{Hidden, Absolute, Relative}
use Rattle.xns_command.specs.declared.mode.Mode.{Mode}
use Rattle.xns_command.specs.Modes.{name_of}
use Rattle.xns.specs.declared.command.request.Request.{Request}
use Rattle.xns.specs.declared.command.request.Request.TheVariants.{Programs, Run}

-- the texts behind references
abbrev pub texts : List (Bor Text) → List Text
texts = map (λ word. word.now)

-- an optional file
abbrev pub file_rule : Rule
file_rule = record (new_rule (codes "file")) { value_names = 1 }

-- a flag, which stands for `true`
abbrev pub flag_rule : Text → Rule
flag_rule name = record (new_rule name) { long = Some name; action = Some SetTrue }

-- an option with a file, which may come again
abbrev pub option_rule : Text → Rule
option_rule name = record (new_rule name) { long = Some name; value_names = 1; action = Some Append }

-- `calls` with its file, the flags for times, and the descriptions of programs
abbrev pub calls_app : App
calls_app =
    let times = with_rule (with_rule (with_rule (new_app (codes "calls")) file_rule) (flag_rule (codes "times"))) (flag_rule (codes "relative")) in
    with_rule times (option_rule (codes "programs"))

-- `xns` with its version, and with the subcommands that read captures, `dump` and `calls`, each with an optional file; a subcommand is
-- required
abbrev pub reading_app : App
reading_app =
    let subcommands = with_subcommand (with_subcommand (new_app (codes "xns")) (with_rule (new_app (codes "dump")) file_rule).top)
    calls_app.top in
    record subcommands { top = record subcommands.top { subcommand_required = true; has_version = true } }

-- one file or more
abbrev pub files_rule : Rule
files_rule = record (new_rule (codes "file")) {
  value_names = 1;
  required = true;
  range = Some (record { start_inclusive = 1; end_inclusive = usize_max });
}

-- the program's command, with `sim` and `programs` behind these
abbrev pub program_app : App
program_app = with_subcommand (with_subcommand reading_app (with_rule (new_app (codes "sim")) file_rule).top)
    (with_rule (new_app (codes "programs")) files_rule).top

-- the subcommand that the words name, by clap's meaning
abbrev pub named_subcommand : List Text → Option Text
named_subcommand words = option_map (λ p. p.0) (subcommand_of program_app words)

-- the values of an argument that a subcommand has
abbrev pub values_in : Text → Option (Text × List Row) → List Text
values_in name found = unwrap_or (option_and_then (λ p. all_of name p.1) found) []

-- the files that the words name
abbrev pub named_files : List Text → List Text
named_files words = values_in (codes "file") (subcommand_of program_app words)

-- the descriptions of programs that they name
abbrev pub named_descriptions : List Text → List Text
named_descriptions words = values_in (codes "programs") (subcommand_of program_app words)

abbrev pub is_true : Option Text → Bool
is_true None = false
is_true (Some text) = bytes_eq text (codes "true")

-- whether the words have the flag
abbrev pub flag_in : Text → Option (Text × List Row) → Bool
flag_in name found = is_true (option_and_then (λ p. first_of name p.1) found)

abbrev pub times_by : Bool → Bool → Times
times_by relative times = if relative then Relative else if times then Absolute else Hidden

-- the times that they ask for
abbrev pub named_times : List Text → Times
named_times words =
    times_by (flag_in (codes "relative") (subcommand_of program_app words)) (flag_in (codes "times") (subcommand_of program_app words))

-- a word as the program reads it: `--times=relative` stands for the flag `--relative`
abbrev pub plain_word : Text → Text
plain_word word = if bytes_eq word (codes "--times=relative") then codes "--relative" else word

abbrev pub is_mode : Option Text → Bool
is_mode None = false
is_mode (Some name) = bytes_eq name (codes "dump") || bytes_eq name (codes "calls") || bytes_eq name (codes "sim")

-- the subcommand that prints programs
abbrev pub is_programs : Option Text → Bool
is_programs None = false
is_programs (Some name) = bytes_eq name (codes "programs")

-- the kinds of error with which words may be refused: those of clap's meaning, and else that no subcommand is named
abbrev pub refusals_of : List Text → Kinds
refusals_of words = or_else (fault_of program_app words)
    (if is_mode (named_subcommand words) || is_programs (named_subcommand words) then [] else kind.MissingSubcommand ∷ [])

-- the words ask for that: for a mode, over the first file that they name, with calls named by the programs that they name, or for the
-- programs of all files
abbrev pub AsksFor : Request → List Text → Type 0
AsksFor (Run mode file times descriptions) words = (named_subcommand words ≡ Some (name_of mode))
    × (option_map (λ text. text.now) file ≡ slice_get (named_files words) 0) × (times ≡ named_times words)
    × (texts descriptions.items ≡ named_descriptions words)
AsksFor (Programs files) words = (named_subcommand words ≡ Some (codes "programs")) × (texts files.items ≡ named_files words)

-- the words `xns` and the mode's name
abbrev pub mode_words : Mode → List Text
mode_words mode = codes "xns" ∷ name_of mode ∷ []

-- the words `xns` and the mode's name, and the name of a file
abbrev pub words_with_file : Mode → List Text
words_with_file mode = codes "xns" ∷ name_of mode ∷ codes "x.pcap" ∷ []

-- the words that print a description
abbrev pub words_of_programs : List Text
words_of_programs = codes "xns" ∷ codes "programs" ∷ codes "x.courier" ∷ []

-- the words that print calls by the programs of a description
abbrev pub words_of_named_calls : List Text
words_of_named_calls = codes "xns" ∷ codes "calls" ∷ codes "--programs" ∷ codes "x.courier" ∷ codes "x.pcap" ∷ []

-- words that only want of memory refuses: a mode's own, these and a file that is called x.pcap, those that print a description, and
-- those that print calls by one
abbrev pub AreGoodWords : List Text → Type 0
AreGoodWords words = ((mode : Mode) × ((words ≡ mode_words mode) ⊎ (words ≡ words_with_file mode)))
    ⊎ ((words ≡ words_of_programs) ⊎ (words ≡ words_of_named_calls))
