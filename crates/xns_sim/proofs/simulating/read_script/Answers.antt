use Rattle.std.proofs.lemmas.Result.{err_from_is_err_and}
use Rattle.xns_sim.proofs.Scripted.{some_read}
use Rattle.xns_sim.proofs.simulating.read_script.Goals as goal

pub returns-in_err-take_lines-clause-err : goal.returns-in_err-take_lines-clause-err
returns-in_err-take_lines-clause-err g c =
    let p = err_from_is_err_and c.from_residual.result c.from_residual.ensures.1 in
    rw (p.1, p.2) (some_read _ _ _ _ c.new-taker.result c.take_lines.new.taker _ c.new-taker.ensures c.in_err-take_lines.ensures.err)
