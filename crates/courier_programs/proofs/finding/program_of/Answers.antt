use Rattle.std.proofs.Common.{◌==◌, ◌&&◌, rules, tests}
use Rattle.std.proofs.lemmas.Iterator.{YieldsList-from_slice}
use Rattle.std.proofs.lemmas.Iterator.Search.{find_from_yields_List}
use Rattle.courier_programs.specs.Scopes.{program_by}
use Rattle.courier_programs.proofs.Found.{found_none, found_some}
use Rattle.courier_programs.proofs.finding.program_of.Goals as goal

pub returns-clause-some : goal.returns-clause-some
returns-clause-some c =
    found_some (λ x. x.now) c.find.result (program_by c.args.programs.now c.args.number c.args.version)
    (find_from_yields_List (λ p. (p.number == c.args.number) && (p.version == c.args.version)) _ _ c.find.result c.find.ensures.ran (YieldsList-from_slice c.args.programs.now cc) (λ x b q k. search (rules, tests)))

pub returns-clause-none : goal.returns-clause-none
returns-clause-none c =
    found_none (λ x. x.now) c.find.result (program_by c.args.programs.now c.args.number c.args.version)
    (find_from_yields_List (λ p. (p.number == c.args.number) && (p.version == c.args.version)) _ _ c.find.result c.find.ensures.ran (YieldsList-from_slice c.args.programs.now cc) (λ x b q k. search (rules, tests)))
