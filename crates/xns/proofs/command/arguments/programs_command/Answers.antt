use Rattle.std.proofs.Common.{◌≡◌, ◌∙◌, ap, ap₂, rules, Option, Some, None, codes, false, true}
use Rattle.std.specs.Prelude.{IsSomeAnd}
use Rattle.std.proofs.lemmas.Result.{IfOk-weaker}
use Rattle.clap.specs.Lexer.{usize_max}
use Rattle.clap.specs.Words.{Rule, app_of, new_app, new_rule, rule_of, with_rule}
use Rattle.clap.specs.declared.builder.arg.Arg.{Arg}
use Rattle.clap.specs.declared.builder.range.ValueRange.{ValueRange}
use Rattle.xns.specs.Command.Arguments.{files_rule}
use Rattle.xns.proofs.command.arguments.programs_command.Goals as goal

given : (o : Option ValueRange) → IsSomeAnd o (λ r. r ≡ record { start_inclusive = 1; end_inclusive = usize_max }) → o ≡ Some (record { start_inclusive = 1; end_inclusive = usize_max })
given (Some r) h = ap Some h
given None h = absurd h

pub returns-clause-app : goal.returns-clause-app
returns-clause-app c =
    let range = given c.num_args.result.num_vals c.num_args.ensures.1 in
    let named : rule_of c.value_name.result ≡ record (new_rule (codes "file")) { value_names = 1 } =
    ap rule_of c.value_name.ensures ∙ ap (λ (r : Rule). record r { value_names = 1 }) c.new.ensures.rule in
    let ranged : rule_of c.num_args.result ≡ record (rule_of c.value_name.result) { range = Some (record { start_inclusive = 1; end_inclusive = usize_max }) } =
    ap rule_of c.num_args.ensures.0 ∙ ap (λ o. record (rule_of c.value_name.result) { range = o }) range in
    let required : rule_of c.required.result ≡ record (rule_of c.num_args.result) { required = true } = ap rule_of c.required.ensures in
    let helped : rule_of c.help-files.result ≡ rule_of c.required.result = ap rule_of c.help-files.ensures in
    let rule : rule_of c.help-files.result ≡ files_rule =
    helped ∙ required ∙ ap (λ (r : Rule). record r { required = true }) (ranged ∙ ap (λ (r : Rule). record r { range = Some (record { start_inclusive = 1; end_inclusive = usize_max }) }) named) in
    let local : c.help-files.result.global ≡ false =
    ap (λ (a : Arg). a.global) c.help-files.ensures ∙ ap (λ (a : Arg). a.global) c.required.ensures ∙ ap (λ (a : Arg). a.global) c.num_args.ensures.0
    ∙ ap (λ (a : Arg). a.global) c.value_name.ensures ∙ c.new.ensures.optional.1 in
    let app : app_of c.after_help.result ≡ new_app (codes "programs") = search rules in
    IfOk-weaker c.arg.result _ _ (λ r h. h.shape local ∙ ap₂ with_rule app rule) c.arg.ensures
