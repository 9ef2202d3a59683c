use Rattle.std.proofs.Common.{◌≡◌, drop, map}
use Rattle.courier_programs.specs.Meanings.{resolved_procedure}
use Rattle.xns_c.specs.Programs.{procedure_called}
use Rattle.xns_c.proofs.finding.number_of_procedure.Given as goal

abbrev pub invariant-loop-procedure : goal.invariant-loop-procedure
invariant-loop-procedure l = procedure_called (map resolved_procedure (drop l.procedure-index l.procedures)) l.name ≡ procedure_called (map resolved_procedure l.procedures) l.name
