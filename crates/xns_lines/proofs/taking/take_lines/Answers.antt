use Rattle.std.proofs.Common.{arith, rules, ◌≡◌, ◌∙◌, ap, take, ◌++◌, ℕ, [], List, Option, sym, subst}
use Rattle.std.proofs.lemmas.Result.{IfErr-weaker, err_from_is_err_and}
use Rattle.xns_lines.specs.Lines.{closed_lines}
use Rattle.xns_lines.proofs.Cuts.{closed-nothing}
use Rattle.xns_lines.proofs.Cutting.{few_lines, stops_at_once, stops_pausing, stops_reading, stops_short, taken_in, taker_stopped, taker_stopped_with}
use Rattle.xns_lines.proofs.Writes.{consumes_kept, consumes_none, consumes_nothing, consumes_trans, on_ok_2}
use Rattle.xns_lines.proofs.taking.take_lines.Goals as goal

pub returns-in_err-cutter-clause-err : goal.returns-in_err-cutter-clause-err
returns-in_err-cutter-clause-err g c =
    let p = err_from_is_err_and c.from_residual.result c.from_residual.ensures.1 in
    rw (p.1, p.2) (taker_stopped c.args.most g.T.LineTaker.stands g.T.LineTaker.fails g.W.Write.contents c.args.taker.now c.args.taker.now c.args.writer.now c.args.writer.now _ _ _ [] (consumes_nothing _)
    (λ before said. stops_at_once c.args.most _ _ _ c.in_err-cutter.ensures.err said))

pub loop-count-init : goal.loop-count-init
loop-count-init g c = ([], consumes_nothing _, c.in_ok-cutter.ensures.ok, (λ before said. subst (g.T.LineTaker.stands c.args.taker.now before (g.W.Write.contents c.args.writer.now)) (sym closed-nothing) said), c.in_ok-cutter.ensures.limit)

pub returns-in-Err-clause-err : goal.returns-in-Err-clause-err
returns-in-Err-clause-err g c =
    let so_far = c.loop-count.invariant in
    taker_stopped c.args.most g.T.LineTaker.stands g.T.LineTaker.fails g.W.Write.contents c.args.taker.now c.loop-count.taker c.args.writer.now c.loop-count.writer _ _ _ so_far.0
    (consumes_kept _ _ _ so_far.0 so_far.1 c.in-Err.ensures.bytes)
    (λ before said. stops_reading c.args.most _ so_far.0 (g.T.LineTaker.stands c.loop-count.taker before (g.W.Write.contents c.loop-count.writer)) (so_far.2, so_far.3 before said))

pub returns-in_err-take_piece-clause-err : goal.returns-in_err-take_piece-clause-err
returns-in_err-take_piece-clause-err g c =
    let so_far = c.loop-count.invariant in
    let p = err_from_is_err_and c.from_residual-in_err-take_piece.result c.from_residual-in_err-take_piece.ensures.1 in
    rw (p.1, p.2) (taker_stopped_with c.args.most g.T.LineTaker.stands g.T.LineTaker.fails g.W.Write.contents c.args.taker.now c.take_piece.new.taker c.args.writer.now c.take_piece.new.writer _ _ _ _ so_far.0 _ so_far.1 c.in-Ok.ensures.bytes.0
    (λ before said. stops_short c.args.most _ _ _ (c.in_err-take_piece.ensures.err c.args.most so_far.0 before (so_far.2, so_far.3 before said))))

pub loop-count-preserved : goal.loop-count-preserved
loop-count-preserved g c =
    let so_far = c.loop-count.invariant in (
      so_far.0 ++ take c.in-Ok.count c.read.new.buf,
      consumes_trans _ _ _ so_far.0 _ so_far.1 c.in-Ok.ensures.bytes.0,
      c.in_ok-take_piece.ensures.cut c.args.most so_far.0 so_far.2,
      (λ before said. c.in_ok-pause.ensures.ok before (closed_lines (so_far.0 ++ take c.in-Ok.count c.read.new.buf))
          (c.in_ok-take_piece.ensures.ok c.args.most so_far.0 before (so_far.2, so_far.3 before said)).1),
      c.in_ok-take_piece.ensures.limit ∙ so_far.4,
    )

pub returns-in_err-pause-clause-err : goal.returns-in_err-pause-clause-err
returns-in_err-pause-clause-err g c =
    let so_far = c.loop-count.invariant in
    let p = err_from_is_err_and c.from_residual-in_err-pause.result c.from_residual-in_err-pause.ensures.1 in
    rw (p.1, p.2) (taker_stopped_with c.args.most g.T.LineTaker.stands g.T.LineTaker.fails g.W.Write.contents c.args.taker.now c.pause.new.self c.args.writer.now c.pause.new.writer _ _ _ _ so_far.0 _ so_far.1 c.in-Ok.ensures.bytes.0
    (λ before said.
    let t = c.in_ok-take_piece.ensures.ok c.args.most so_far.0 before (so_far.2, so_far.3 before said) in
    stops_pausing c.args.most c.take_piece.new.self (so_far.0 ++ take c.in-Ok.count c.read.new.buf) _ _ _ c.in_err-pause.ensures.err.0 t.0
    (c.in_err-pause.ensures.err.1 before (closed_lines (so_far.0 ++ take c.in-Ok.count c.read.new.buf)) t.1)))

pub returns-clause-ok : goal.returns-clause-ok
returns-clause-ok g c =
    let so_far = c.loop-count.invariant in
    let none : take c.in-Ok.count c.read.new.buf ≡ [] = ap (λ (n : ℕ). take n c.read.new.buf) c.if-count-eq0.true in
    let first = λ (before : Option (List ℕ)). g.T.LineTaker.stands c.args.taker.now before (g.W.Write.contents c.args.writer.now) [] in
    let stands = λ (before : Option (List ℕ)). g.T.LineTaker.stands c.finish.new.taker before (g.W.Write.contents c.finish.new.writer) in
    on_ok_2 _ _ _ c.finish.result c.finish.ensures.limits c.finish.ensures.ok (λ limits ok.
    taken_in c.args.most _ _ _ first stands so_far.0 _ so_far.1 c.in-Ok.ensures.bytes.0 none (c.in-Ok.ensures.bytes.1 c.if-count-eq0.true (search rules))
    (limits c.args.most so_far.0 so_far.2) (λ before said. ok c.args.most so_far.0 before (so_far.2, so_far.3 before said)))

pub returns-clause-err : goal.returns-clause-err
returns-clause-err g c =
    let so_far = c.loop-count.invariant in
    let none : take c.in-Ok.count c.read.new.buf ≡ [] = ap (λ (n : ℕ). take n c.read.new.buf) c.if-count-eq0.true in
    IfErr-weaker c.finish.result _ _ (λ fault err.
    taker_stopped c.args.most g.T.LineTaker.stands g.T.LineTaker.fails g.W.Write.contents c.args.taker.now c.finish.new.taker c.args.writer.now c.finish.new.writer _ _ fault so_far.0
    (consumes_none _ _ _ so_far.0 _ none so_far.1 c.in-Ok.ensures.bytes.0)
    (λ before said. err c.args.most so_far.0 before (so_far.2, so_far.3 before said)))
    c.finish.ensures.err

pub take_piece-requires : goal.take_piece-requires
take_piece-requires g c = omega (arith, c.loop-count.invariant.4, c.requires.few)

pub finish-requires-clause-few : goal.finish-requires-clause-few
finish-requires-clause-few g c = omega (arith, c.loop-count.invariant.4, c.requires.few)

pub finish-requires-clause-room : goal.finish-requires-clause-room
finish-requires-clause-room g c = λ some. few_lines c.args.most _ c.loop-count.invariant.0 c.loop-count.invariant.2 some
