use Rattle.std.proofs.Common.{[], ◌∷◌, ◌++◌, ap, refl}
use Rattle.std.proofs.lemmas.Result.{err_from_is_err_and}
use Rattle.courier_notation.specs.Programs.{constant_at, element_at}
use Rattle.courier_notation.specs.Reading.{most_parts, passed}
use Rattle.courier_notation.proofs.Failing.{is_right}
use Rattle.courier_notation.proofs.Listing.{begun, goes_on, is_done, is_full, stops_past}
use Rattle.courier_notation.proofs.constants.+constants.Goals as goal

pub behind_elements-loop-init : goal.behind_elements-loop-init
behind_elements-loop-init t c = let one = element_at (constant_at c.args.depth) in ([], begun one one most_parts c.args.tokens.now refl)

pub behind_elements-returns-in_err-_element : goal.behind_elements-returns-in_err-_element
behind_elements-returns-in_err-_element t c =
    let p = err_from_is_err_and c.from_residual.result c.from_residual.ensures.1 in
    rw (p.1, p.2) (stops_past c.loop.invariant.1 c.loop-test.true c.in_err-_element.field-0.0 c.in_err-_element.ensures)

pub behind_elements-returns-in-None : goal.behind_elements-returns-in-None
behind_elements-returns-in-None t c = ap passed (is_done c.loop.invariant.1 c.loop-test.true c.in_ok-_element.ensures c.in-None.ensures.none refl)

pub behind_elements-loop-preserved : goal.behind_elements-loop-preserved
behind_elements-loop-preserved t c =
    (c.loop.invariant.0 ++ c.in_ok-_element._element ∷ [], goes_on c.loop.invariant.1 c.loop-test.true c.in_ok-_element.ensures c.in-Some.ensures.some refl (is_right c.in_ok-_element.ensures))

pub behind_elements-returns : goal.behind_elements-returns
behind_elements-returns t c = rw c.wrong.ensures (ap passed (is_full c.loop.invariant.1 c.loop-test.false))
