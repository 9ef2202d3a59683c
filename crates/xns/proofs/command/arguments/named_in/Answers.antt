use Rattle.std.proofs.Common.{◌≡◌, ◌∙◌, ap, sym, refl, inl, inr, List, true, codes}
use Rattle.std.proofs.lemmas.Result.{err_from_is_err_and}
use Rattle.clap.proofs.OnLiterals.{clap_on_literals}
use Rattle.clap.specs.Words.{Text, fault_of, is_simple, is_simple_and_free, subcommand_of, takes}
use Rattle.xns.proofs.Refusals.{is_free}
use Rattle.xns_command.specs.declared.mode.Mode.{Mode}
use Rattle.xns_command.specs.declared.mode.Mode.TheVariants.{Calls, Dump, Sim}
use Rattle.xns.specs.Command.Arguments.{AreGoodWords, flag_in, program_app, texts, times_by, values_in, mode_words, words_of_named_calls, words_of_programs, words_with_file}
use Rattle.xns.proofs.command.arguments.named_in.Goals as goal

is_taken : (mode : Mode) → takes program_app (mode_words mode) ≡ true
unfolding clap_on_literals
is_taken Dump = refl
is_taken Calls = refl
is_taken Sim = refl

is_file_taken : (mode : Mode) → takes program_app (words_with_file mode) ≡ true
unfolding clap_on_literals
is_file_taken Dump = refl
is_file_taken Calls = refl
is_file_taken Sim = refl

is_description_taken : takes program_app words_of_programs ≡ true
unfolding clap_on_literals
is_description_taken = refl

are_named_calls_taken : takes program_app words_of_named_calls ≡ true
unfolding clap_on_literals
are_named_calls_taken = refl

is_plain : is_simple program_app ≡ true
unfolding clap_on_literals
is_plain = refl

are_taken : (words : List Text) → AreGoodWords words → takes program_app words ≡ true
are_taken words (inl (mode, inl h)) = ap (takes program_app) h ∙ is_taken mode
are_taken words (inl (mode, inr h)) = ap (takes program_app) h ∙ is_file_taken mode
are_taken words (inr (inl h)) = ap (takes program_app) h ∙ is_description_taken
are_taken words (inr (inr h)) = ap (takes program_app) h ∙ are_named_calls_taken

pub returns-in_err-matches-clause-memory : goal.returns-in_err-matches-clause-memory
returns-in_err-matches-clause-memory c =
    let p = err_from_is_err_and c.from_residual-in_err-matches.result c.from_residual-in_err-matches.ensures.1 in
    rw (p.1, p.2) (λ good. c.in_err-matches.ensures.passes
    (ap (λ app. takes app (texts c.args.words.now)) c.in_ok-program.ensures ∙ are_taken (texts c.args.words.now) good))

pub returns-clause-files : goal.returns-clause-files
returns-clause-files c =
    let app = c.in_ok-program.ensures in
    let rows = c.in_ok-matches.ensures.matches (ap is_simple app ∙ is_plain) in
    c.in_ok-files.ensures ∙ ap (values_in (codes "file")) (rows.1 ∙ ap (λ command. subcommand_of command (texts c.args.words.now)) app)

pub returns-clause-descriptions : goal.returns-clause-descriptions
returns-clause-descriptions c =
    let app = c.in_ok-program.ensures in
    let rows = c.in_ok-matches.ensures.matches (ap is_simple app ∙ is_plain) in
    c.in_ok-descriptions.ensures ∙ ap (values_in (codes "programs")) (rows.1 ∙ ap (λ command. subcommand_of command (texts c.args.words.now)) app)

pub returns-clause-times : goal.returns-clause-times
returns-clause-times c =
    let app = c.in_ok-program.ensures in
    let rows = c.in_ok-matches.ensures.matches (ap is_simple app ∙ is_plain) in
    c.times_of.ensures ∙ ap (λ found. times_by (flag_in (codes "relative") found) (flag_in (codes "times") found))
    (rows.1 ∙ ap (λ command. subcommand_of command (texts c.args.words.now)) app)

pub returns-clause-kinds : goal.returns-clause-kinds
returns-clause-kinds c =
    let app = c.in_ok-program.ensures in
    ap (λ command. fault_of command (texts c.args.words.now)) (sym app) ∙ c.in_ok-matches.ensures.kinds (ap is_simple_and_free app ∙ is_free)
