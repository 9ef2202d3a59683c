use Rattle.std.proofs.Common.{◌≡◌, drop, map}
use Rattle.courier_programs.specs.Meanings.{resolved_error}
use Rattle.xns_c.specs.Programs.{error_called}
use Rattle.xns_c.proofs.finding.number_of_error.Given as goal

abbrev pub invariant-loop-error : goal.invariant-loop-error
invariant-loop-error l = error_called (map resolved_error (drop l.error-index l.errors)) l.name ≡ error_called (map resolved_error l.errors) l.name
