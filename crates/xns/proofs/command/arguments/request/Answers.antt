use Rattle.std.proofs.Common.{◌≡◌, ◌∙◌, ◌⊎◌, ap, sym, refl, inl, inr, List, Option, Some, codes, false}
use Rattle.std.proofs.lemmas.Result.{err_from_is_err_and}
use Rattle.clap.proofs.OnLiterals.{clap_on_literals}
use Rattle.clap.specs.Words.{Text}
use Rattle.xns.proofs.Refusals.{by_clap, by_name}
use Rattle.xns_command.specs.declared.mode.Mode.{Mode}
use Rattle.xns_command.specs.declared.mode.Mode.TheVariants.{Calls, Dump, Sim}
use Rattle.xns_command.specs.Modes.{name_of}
use Rattle.xns.specs.Command.Arguments.{AreGoodWords, is_programs, named_subcommand, texts, mode_words, words_of_named_calls, words_of_programs, words_with_file}
use Rattle.xns.proofs.command.arguments.request.Goals as goal

is_named : (mode : Mode) → (named_subcommand (mode_words mode) ≡ Some (name_of mode)) × (named_subcommand (words_with_file mode) ≡ Some (name_of mode))
unfolding clap_on_literals
is_named Dump = (refl, refl)
is_named Calls = (refl, refl)
is_named Sim = (refl, refl)

named_programs : named_subcommand words_of_programs ≡ Some (codes "programs")
unfolding clap_on_literals
named_programs = refl

named_calls : named_subcommand words_of_named_calls ≡ Some (name_of Calls)
unfolding clap_on_literals
named_calls = refl

name_one : (words : List Text) → AreGoodWords words → ((mode : Mode) × (named_subcommand words ≡ Some (name_of mode))) ⊎ (named_subcommand words ≡ Some (codes "programs"))
name_one words (inl (mode, inl h)) = inl (mode, ap named_subcommand h ∙ (is_named mode).0)
name_one words (inl (mode, inr h)) = inl (mode, ap named_subcommand h ∙ (is_named mode).1)
name_one words (inr (inl h)) = inr (ap named_subcommand h ∙ named_programs)
name_one words (inr (inr h)) = inl (Calls, ap named_subcommand h ∙ named_calls)

is_other : is_programs (Some (codes "programs")) ≡ false → ⊥
is_other e = (cc)

-- words that name no subcommand are not good ones
name_none : (words : List Text) (name : Option Text) → name ≡ named_subcommand words → ((mode : Mode) → name ≡ Some (name_of mode) → ⊥) → is_programs name ≡ false → AreGoodWords words → ⊥
name_none words name same none other good = elim (name_one words good) [
  | inl (mode, named) ↦ none mode (same ∙ named)
  | inr named ↦ is_other (ap is_programs (sym (same ∙ named)) ∙ other)
]

pub returns-in_err-error-clause-memory : goal.returns-in_err-error-clause-memory
returns-in_err-error-clause-memory c =
    let p = err_from_is_err_and c.from_residual-in_err-error.result c.from_residual-in_err-error.ensures.1 in
    rw p.1 (λ good. p.2)

pub returns-in_default-clause-memory : goal.returns-in_default-clause-memory
returns-in_default-clause-memory c = λ good.
    absurd (name_none (texts c.args.words.now) _ c.in_ok-name.ensures.named c.in_default.ensures.none
    (sym c.names_programs.ensures ∙ c.if-names_programs.false) good)

pub returns-in_err-name-clause-kinds : goal.returns-in_err-name-clause-kinds
returns-in_err-name-clause-kinds c =
    let p = err_from_is_err_and c.from_residual.result c.from_residual.ensures.1 in
    rw (p.1, p.2) (by_clap (texts c.args.words.now) c.in_err-name.field-0.0 c.in_err-name.ensures.kinds)

pub returns-in_default-clause-kinds : goal.returns-in_default-clause-kinds
returns-in_default-clause-kinds c =
    by_name (texts c.args.words.now) _ c.in_ok-error.field-0 c.in_ok-name.ensures.kinds c.in_ok-name.ensures.named c.in_default.ensures.none
    (sym c.names_programs.ensures ∙ c.if-names_programs.false) c.in_ok-error.ensures.kind
