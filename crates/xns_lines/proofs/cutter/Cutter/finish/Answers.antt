use Rattle.std.proofs.lemmas.Grind.{common_steps}
use Rattle.std.proofs.Common.{arith, ap, ◌+◌, ◌<◌, length, rules}
use Rattle.std.proofs.lemmas.Bool.Decides.{nat_tests}
use Rattle.std.proofs.lemmas.Result.{IfErr-weaker, on_ok_weaker}
use Rattle.xns_lines.specs.Lines.{closed_lines}
use Rattle.xns_lines.proofs.Cutting.{finished_open, left_as, stops_finishing}
use Rattle.xns_lines.proofs.cutter.Cutter.finish.Goals as goal

pub returns-clause-err : goal.returns-clause-err
returns-clause-err g c =
    let stands = g.T.LineTaker.stands c.take_line.new.self in
    let fails = g.T.LineTaker.fails c.take_line.new.self in
    let contents = g.W.Write.contents c.take_line.new.writer in
    let some : 0 < length c.args.self.line.items = grind (arith, nat_tests, c.args.self.line.ok.0, c.is_empty.ensures) in
    IfErr-weaker c.take_line.result _ _
    (λ fault err. λ most taken before h. stops_finishing most c.args.self taken fault (stands before contents) (fails before contents) some h.0
    (left_as most c.args.self fault (stands before contents) (fails before contents) taken c.as_slice.result.now c.as_slice.ensures.value h.0
    (err before (closed_lines taken) (ap (λ n. n + 1) h.0.count) h.1)))
    c.take_line.ensures.err

pub returns-clause-ok : goal.returns-clause-ok
returns-clause-ok g c =
    let stands = g.T.LineTaker.stands c.take_line.new.self in
    let contents = g.W.Write.contents c.take_line.new.writer in
    let some : 0 < length c.args.self.line.items = grind (arith, nat_tests, c.args.self.line.ok.0, c.is_empty.ensures) in
    on_ok_weaker c.take_line.result
    (λ ok. λ most taken before h. finished_open most c.args.self (stands before contents) taken c.as_slice.result.now some c.as_slice.ensures.value h.0
    (ok before (closed_lines taken) (ap (λ n. n + 1) h.0.count) h.1))
    c.take_line.ensures.ok

pub returns-then-is_empty-clause-ok : goal.returns-then-is_empty-clause-ok
returns-then-is_empty-clause-ok g c = search rules

pub returns-clause-limits : goal.returns-clause-limits
returns-clause-limits g c = grind (arith, common_steps)
