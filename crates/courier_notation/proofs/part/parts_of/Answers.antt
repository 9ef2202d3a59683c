use Rattle.std.proofs.lemmas.Result.{err_from_is_err_and}
use Rattle.courier_notation.specs.Reading.{most_parts}
use Rattle.courier_notation.proofs.Failing.{is_right, stops_fails}
use Rattle.courier_notation.proofs.Listing.{begun, ends, goes_on, is_done, is_full}
use Rattle.courier_notation.proofs.part.parts_of.Goals as goal

pub loop-init : goal.loop-init
loop-init g c = begun g.P.Part.reads g.P.Part.reads most_parts c.args.tokens.now c.new-parts.ensures.items

pub returns-in_err-part-clause-exact : goal.returns-in_err-part-clause-exact
returns-in_err-part-clause-exact g c =
    let p = err_from_is_err_and c.from_residual.result c.from_residual.ensures.1 in
    rw (p.1, p.2) (ends c.loop.invariant c.loop-test.true c.in_err-part.field-0.0 (stops_fails c.in_err-part.field-0.0 (g.P.Part.reads c.loop.rest.now) c.in_err-part.ensures))

pub returns-in-None-clause-exact : goal.returns-in-None-clause-exact
returns-in-None-clause-exact g c = is_done c.loop.invariant c.loop-test.true c.in_ok-part.ensures c.in-None.ensures.none c.in_ok-push.ensures.items

pub loop-preserved : goal.loop-preserved
loop-preserved g c = goes_on c.loop.invariant c.loop-test.true c.in_ok-part.ensures c.in-Some.ensures.some c.in_ok-push.ensures.items (is_right c.in_ok-part.ensures)

pub returns-clause-exact : goal.returns-clause-exact
returns-clause-exact g c = rw c.wrong.ensures (is_full c.loop.invariant c.loop-test.false)
