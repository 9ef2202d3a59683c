use Rattle.std.proofs.lemmas.Grind.{common_steps}
use Rattle.std.proofs.Common.{arith, refl, ◌<◌, length}
use Rattle.std.proofs.lemmas.Bool.Decides.{nat_tests}
use Rattle.std.proofs.lemmas.Result.{err_from_is_err_and}
use Rattle.xns_lines.specs.declared.fault.RunFault.TheVariants as fault
use Rattle.xns_lines.proofs.Cutting.{cut_run, run_cut, short_here, short_long, short_many}
use Rattle.xns_lines.proofs.cutter.Cutter.take_run.Goals as goal

pub returns-then-len-run-gt-MOST_LINE_BYTES-clause-err : goal.returns-then-len-run-gt-MOST_LINE_BYTES-clause-err
returns-then-len-run-gt-MOST_LINE_BYTES-clause-err c = λ most taken h.
    short_long most c.args.self.now taken c.args.run.now c.requires (omega (arith, c.in_ok-next_number.ensures.ok)) (omega (arith, c.args.self.now.line.ok.0)) h

pub returns-in-Ok-clause-ok : goal.returns-in-Ok-clause-ok
returns-in-Ok-clause-ok c = λ most taken h.
    run_cut most _ taken c.args.run.now c.requires (cut_run most c.args.self.now _ taken c.args.run.now c.requires (omega (arith, c.in_ok-next_number.ensures.ok)) (omega (arith, c.args.self.now.line.ok.0)) refl c.in-Ok.ensures.items refl h)

pub returns-then-is_empty-clause-ok : goal.returns-then-is_empty-clause-ok
returns-then-is_empty-clause-ok c = grind (arith, common_steps)

pub returns-in-Err-clause-err : goal.returns-in-Err-clause-err
returns-in-Err-clause-err c = λ most taken h. short_here most c.args.self.now taken c.args.run.now fault.NoMemory tt tt h

pub returns-in_err-next_number-clause-err : goal.returns-in_err-next_number-clause-err
returns-in_err-next_number-clause-err c =
    let p = err_from_is_err_and c.from_residual.result c.from_residual.ensures.1 in
    let many = c.in_err-next_number.ensures.err in
    let some : 0 < length c.args.run.now = grind (arith, nat_tests, c.is_empty.ensures, c.if-is_empty.false) in
    rw (p.1, p.2, many.0) (λ most taken h. short_many most c.args.self.now taken c.args.run.now many.1 some h)
