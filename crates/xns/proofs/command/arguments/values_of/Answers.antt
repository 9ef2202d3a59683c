use Rattle.std.proofs.Common.{◌≡◌, ◌∙◌, ap, List, [], Option, Some, None}
use Rattle.std.specs.Prelude.{option_and_then, option_map, unwrap_or}
use Rattle.std.proofs.lemmas.Result.{IfOk-weaker}
use Rattle.clap.proofs.WalkLemmas.{raw_values-rows}
use Rattle.clap.specs.Words.{Row, Text, all_of, found_of}
use Rattle.xns.specs.Command.Arguments.{texts}
use Rattle.xns.proofs.command.arguments.values_of.Goals as goal

of_rows : (id : Text) (o : Option (Text × List Row)) (rows : List Row) → Some rows ≡ option_map (λ p. p.1) o → all_of id rows ≡ option_and_then (λ p. all_of id p.1) o
of_rows id None rows e = (cc)
of_rows id (Some p) rows e = ap (λ o. all_of id (unwrap_or o rows)) e

pub returns-in-Some-get_strs : goal.returns-in-Some-get_strs
returns-in-Some-get_strs c =
    let values = c.in-Some-get_strs.ensures ∙ raw_values-rows (found_of c.in-Some.found.now) c.args.name.now ∙ of_rows c.args.name.now _ _ c.in-Some.ensures.rows in
    IfOk-weaker c.from_slice.result _ _ (λ files e. ap texts e ∙ ap (λ o. unwrap_or o []) values) c.from_slice.ensures.items

pub returns-in-None-get_strs : goal.returns-in-None-get_strs
returns-in-None-get_strs c =
    let values = c.in-None-get_strs.ensures ∙ raw_values-rows (found_of c.in-Some.found.now) c.args.name.now ∙ of_rows c.args.name.now _ _ c.in-Some.ensures.rows in
    ap texts c.new.ensures.items ∙ ap (λ o. unwrap_or o []) values
