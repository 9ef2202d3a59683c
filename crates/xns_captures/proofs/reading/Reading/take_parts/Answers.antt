use Rattle.std.proofs.Common.{◌+◌, arith, length-drop, drop}
use Rattle.std.proofs.lemmas.List.{take_rest}
use Rattle.std.proofs.lemmas.Result.{err_from_is_err_and}
use Rattle.xns_captures.proofs.Frames.{part_read, stops_here}
use Rattle.xns_captures.proofs.reading.Reading.take_parts.Goals as goal

pub returns-in-Err-clause-err : goal.returns-in-Err-clause-err
returns-in-Err-clause-err g c = λ read before h.
    let so_far = c.parts.invariant.1 read before h in
    let step = rw (take_rest c.args.bytes.now c.parts.taken) at c.in-Err.ensures.err in
    stops_here c.parts.self read (drop c.parts.taken c.args.bytes.now) _ _ c.in-Err.fault step so_far so_far.taken

pub returns-in_err-take_part-clause-err : goal.returns-in_err-take_part-clause-err
returns-in_err-take_part-clause-err g c =
    let p = err_from_is_err_and c.from_residual.result c.from_residual.ensures.1 in
    rw (p.1, p.2) (λ read before h.
    c.in_err-take_part.ensures.err read (drop (c.parts.taken + c.in-Some.size) c.args.bytes.now) before
    (part_read c.parts.self read c.args.bytes.now c.parts.taken c.in-Some.size _ (c.parts.invariant.1 read before h)))

pub parts-preserved : goal.parts-preserved
parts-preserved g c =
    let whole = rw (c.in-Some.is, take_rest c.args.bytes.now c.parts.taken) at c.in-Ok.ensures.some in (
      omega (arith, whole.fits, c.parts.invariant.0, length-drop c.parts.taken c.args.bytes.now),
      (λ read before h.
          c.in_ok-take_part.ensures.ok read (drop (c.parts.taken + c.in-Some.size) c.args.bytes.now) before
          (part_read c.parts.self read c.args.bytes.now c.parts.taken c.in-Some.size _ (c.parts.invariant.1 read before h))),
    )
