use Rattle.std.proofs.Common.{arith, ◌≡◌, ◌<◌, subst}
use Rattle.std.proofs.lemmas.Result.{err_from_is_err_and}
use Rattle.xns_lines.specs.Printing.{Stands}
use Rattle.xns_lines.proofs.pages.Pages.finish.Goals as goal

pub returns-then-self-clause-err : goal.returns-then-self-clause-err
returns-then-self-clause-err g c = λ before things h. (0, omega arith, h)

pub loop-part-init : goal.loop-part-init
loop-part-init g c = λ before things h. h

pub loop-part-preserved : goal.loop-part-preserved
loop-part-preserved g c = λ before things h.
    let count = c.count_parts-part-end.ensures things (h.printed c.if-self.false) in
    c.in_ok-take_part.ensures.ok before things (omega (arith, count, c.loop-part-test.true)) (c.loop-part.invariant before things h)

pub returns-in_err-take_part-clause-err : goal.returns-in_err-take_part-clause-err
returns-in_err-take_part-clause-err g c =
    let p = err_from_is_err_and c.from_residual.result c.from_residual.ensures.1 in
    rw (p.1, p.2) (λ before things h.
    let count = c.count_parts-part-end.ensures things (h.printed c.if-self.false) in
    let few : c.loop-part.part < g.P.ThingPrinter.output.end_count things = omega (arith, count, c.loop-part-test.true) in
    let s = c.in_err-take_part.ensures.err before things few (c.loop-part.invariant before things h) in (s.0, omega (arith, s.1, few), s.2))

pub returns-clause-ok : goal.returns-clause-ok
returns-clause-ok g c = λ before things h.
    let output = g.P.ThingPrinter.output in
    let count = c.count_parts-part-end.ensures things (h.printed c.if-self.false) in
    let all : c.loop-part.part ≡ output.end_count things = omega (arith, count) in
    subst (λ n. Stands output n c.loop-part.self before (g.W.Write.contents c.loop-part.writer) things) all (c.loop-part.invariant before things h)
