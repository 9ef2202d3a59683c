use Rattle.std.proofs.lemmas.Grind.{common_steps}
use Rattle.std.proofs.Common.{arith, ◌∙◌, ◌++◌, ◌+◌, take, drop, [], ◌∷◌, length-append}
use Rattle.std.proofs.lemmas.List.{take_rest, length-take, append-nil}
use Rattle.std.proofs.lemmas.Result.{IfErr-weaker, err_from_is_err_and, on_ok_weaker}
use Rattle.xns_lines.proofs.Cuts.{longer_front, newline_front, newline_split, whole_split}
use Rattle.xns_lines.proofs.Cutting.{cut_as, short_later, short_own, takes_as, takes_run}
use Rattle.xns_lines.proofs.cutter.Cutter.take_piece.Goals as goal

pub returns-in_err-take_end-clause-err : goal.returns-in_err-take_end-clause-err
returns-in_err-take_end-clause-err g c =
    let so_far = c.loop-end.invariant in
    let found = c.in-Some.ensures in
    let p = err_from_is_err_and c.from_residual.result c.from_residual.ensures.1 in
    rw (p.1, p.2) (λ most taken before h.
    short_later most _ (drop (c.in-Some.end + 1) c.loop-end.rest.now) _ _ _
    (newline_split taken so_far.0 c.loop-end.rest.now c.args.piece.now c.in-Some.end so_far.1 found.0.high found.1)
    (c.in_err-take_end.ensures.err most (taken ++ so_far.0) before (so_far.2 most taken before h)))

pub loop-end-preserved : goal.loop-end-preserved
loop-end-preserved g c =
    let so_far = c.loop-end.invariant in
    let found = c.in-Some.ensures in (
      (so_far.0 ++ take c.in-Some.end c.loop-end.rest.now) ++ 10 ∷ [],
      newline_front so_far.0 c.loop-end.rest.now c.args.piece.now _ c.in-Some.end so_far.1 found.0.high found.1 (take_rest c.loop-end.rest.now (c.in-Some.end + 1)),
      (λ most taken before h. takes_as most _ (g.T.LineTaker.stands c.take_end.new.taker before (g.W.Write.contents c.take_end.new.writer)) _ _ (longer_front taken so_far.0 (take c.in-Some.end c.loop-end.rest.now) (10 ∷ []))
          (c.in_ok-take_end.ensures.ok most (taken ++ so_far.0) before (so_far.2 most taken before h))),
      (λ most taken h. cut_as most _ _ _ (longer_front taken so_far.0 (take c.in-Some.end c.loop-end.rest.now) (10 ∷ []))
          (c.in_ok-take_end.ensures.cut most (taken ++ so_far.0) (so_far.3 most taken h))),
      omega (
        arith,
        c.in_ok-take_end.ensures.room,
        so_far.4,
        found.0.high,
        length-append (so_far.0 ++ take c.in-Some.end c.loop-end.rest.now) (10 ∷ []),
        length-append so_far.0 (take c.in-Some.end c.loop-end.rest.now),
        length-take c.in-Some.end c.loop-end.rest.now,
      ),
      c.in_ok-take_end.ensures.limit ∙ so_far.5,
    )

pub returns-clause-cut : goal.returns-clause-cut
returns-clause-cut g c =
    let so_far = c.loop-end.invariant in
    on_ok_weaker c.take_run.result
    (λ ok. λ most taken h. cut_as most _ _ _ (whole_split taken so_far.0 c.loop-end.rest.now c.args.piece.now so_far.1) (ok most (taken ++ so_far.0) (so_far.3 most taken h)).0)
    c.take_run.ensures.ok

pub returns-clause-ok : goal.returns-clause-ok
returns-clause-ok g c =
    let stands = g.T.LineTaker.stands c.loop-end.taker in
    let contents = g.W.Write.contents c.loop-end.writer in
    let so_far = c.loop-end.invariant in
    on_ok_weaker c.take_run.result
    (λ ok. λ most taken before h. takes_as most _ (stands before contents) _ _ (whole_split taken so_far.0 c.loop-end.rest.now c.args.piece.now so_far.1)
    (takes_run most _ _ (stands before contents) (taken ++ so_far.0) _ (ok most (taken ++ so_far.0)) (so_far.2 most taken before h)))
    c.take_run.ensures.ok

pub returns-clause-err : goal.returns-clause-err
returns-clause-err g c =
    let stands = g.T.LineTaker.stands c.loop-end.taker in
    let fails = g.T.LineTaker.fails c.loop-end.taker in
    let contents = g.W.Write.contents c.loop-end.writer in
    let so_far = c.loop-end.invariant in
    IfErr-weaker c.take_run.result _ _
    (λ fault err. λ most taken before h.
    let t = so_far.2 most taken before h in
    short_later most ((taken ++ so_far.0) ++ c.loop-end.rest.now) [] _ _ _
    (append-nil ((taken ++ so_far.0) ++ c.loop-end.rest.now) ∙ whole_split taken so_far.0 c.loop-end.rest.now c.args.piece.now so_far.1)
    (short_own most fault (stands before contents) (fails before contents) (taken ++ so_far.0) _ t.1 (err most (taken ++ so_far.0) t.0)))
    c.take_run.ensures.err

pub loop-end-init : goal.loop-end-init
loop-end-init g c = grind (arith, common_steps)

pub take_end-requires-clause-plain : goal.take_end-requires-clause-plain
take_end-requires-clause-plain g c = grind (arith, common_steps)

pub returns-clause-room : goal.returns-clause-room
returns-clause-room g c = grind (arith, common_steps)
