use Rattle.std.proofs.Common.{◌==◌, rules, tests}
use Rattle.std.proofs.lemmas.Iterator.{YieldsList-from_slice}
use Rattle.std.proofs.lemmas.Iterator.Search.{find_from_yields_List}
use Rattle.courier_programs.specs.Meanings.{resolved_procedure}
use Rattle.courier_programs.proofs.Found.{seen_none, seen_some}
use Rattle.courier_programs.proofs.finding.procedure_of.Goals as goal

pub returns-clause-some : goal.returns-clause-some
returns-clause-some c = seen_some (λ x. x.now) resolved_procedure (λ x. x.number == c.args.number) c.args.procedures.now c.find.result (find_from_yields_List (λ x. x.number == c.args.number) _ _ c.find.result c.find.ensures.ran (YieldsList-from_slice c.args.procedures.now cc) (λ x b q k. search (rules, tests)))

pub returns-clause-none : goal.returns-clause-none
returns-clause-none c = seen_none (λ x. x.now) resolved_procedure (λ x. x.number == c.args.number) c.args.procedures.now c.find.result (find_from_yields_List (λ x. x.number == c.args.number) _ _ c.find.result c.find.ensures.ran (YieldsList-from_slice c.args.procedures.now cc) (λ x b q k. search (rules, tests)))
