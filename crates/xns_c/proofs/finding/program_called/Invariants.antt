use Rattle.std.proofs.Common.{◌≡◌, drop}
use Rattle.xns_c.specs.Programs.{program_called}
use Rattle.xns_c.proofs.finding.program_called.Given as goal

abbrev pub invariant-loop-program : goal.invariant-loop-program
invariant-loop-program l = program_called (drop l.program-index l.programs) l.name ≡ program_called l.programs l.name
