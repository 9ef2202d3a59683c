use Rattle.std.proofs.Common.{◌∙◌, ap}
use Rattle.clap.proofs.WalkLemmas.{first_value-rows}
use Rattle.clap.specs.Words.{found_of}
use Rattle.xns.proofs.Rows.{of_rows}
use Rattle.xns.specs.Command.Arguments.{is_true}
use Rattle.xns.proofs.command.arguments.has_flag.Goals as goal

pub returns-in-Some : goal.returns-in-Some
returns-in-Some c =
    c.is_true.ensures
    ∙ ap is_true (c.get_str.ensures ∙ first_value-rows (found_of c.in-Some.found.now) c.args.name.now ∙ of_rows c.args.name.now _ _ c.in-Some.ensures.rows)
