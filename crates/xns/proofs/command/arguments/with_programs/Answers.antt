use Rattle.std.proofs.Common.{◌∙◌, ap}
use Rattle.std.proofs.lemmas.Result.{IfOk-weaker}
use Rattle.clap.specs.declared.builder.arg.Arg.{Arg}
use Rattle.xns.proofs.Locals.{stays_local}
use Rattle.xns.proofs.command.arguments.with_programs.Goals as goal

pub returns-clause-local : goal.returns-clause-local
returns-clause-local c = IfOk-weaker c.arg.result _ _ (λ r h.
    stays_local h.globals (ap (λ (a : Arg). a.global) c.help-option.ensures ∙ ap (λ (a : Arg). a.global) c.action.ensures ∙ ap (λ (a : Arg). a.global) c.value_name.ensures
    ∙ ap (λ (a : Arg). a.global) c.long.ensures ∙ c.new.ensures.optional.1))
    c.arg.ensures
