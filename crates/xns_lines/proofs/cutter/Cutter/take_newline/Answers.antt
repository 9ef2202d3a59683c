use Rattle.std.proofs.Common.{arith, refl, ap, ◌∙◌, ◌+◌, ◌∷◌, []}
use Rattle.std.proofs.lemmas.Result.{err_from_is_err_and}
use Rattle.xns_lines.specs.Lines.{closed_lines}
use Rattle.xns_lines.proofs.Cutting.{cut_newline, left_as, short_at, short_many, short_own, takes_newline}
use Rattle.xns_lines.proofs.cutter.Cutter.take_newline.Goals as goal

pub returns-in_err-take_line-clause-err : goal.returns-in_err-take_line-clause-err
returns-in_err-take_line-clause-err g c =
    let p = err_from_is_err_and c.from_residual-in_err-take_line.result c.from_residual-in_err-take_line.ensures.1 in
    rw (p.1, p.2) (λ most taken before h. short_at most c.args.self.now _ _ _ taken (omega (arith, c.in_ok-number.ensures.ok)) h.0
    (left_as most c.args.self.now c.in_err-take_line.field-0.0 _ _ taken c.as_slice.result.now c.as_slice.ensures.value h.0
    (c.in_err-take_line.ensures.err before (closed_lines taken) (c.in_ok-number.ensures.ok.0 ∙ ap (λ n. n + 1) h.0.count) h.1)))

pub returns-clause-ok : goal.returns-clause-ok
returns-clause-ok g c = λ most taken before h.
    takes_newline most c.args.self.now _ (g.T.LineTaker.stands c.take_line.new.self before (g.W.Write.contents c.take_line.new.writer)) taken c.as_slice.result.now (omega (arith, c.in_ok-number.ensures.ok)) refl c.clear.ensures.items c.in_ok-number.ensures.ok.0 c.as_slice.ensures.value h.0
    (c.in_ok-take_line.ensures.ok before (closed_lines taken) (c.in_ok-number.ensures.ok.0 ∙ ap (λ n. n + 1) h.0.count) h.1)

pub returns-clause-cut : goal.returns-clause-cut
returns-clause-cut g c = λ most taken h. cut_newline most c.args.self.now _ taken (omega (arith, c.in_ok-number.ensures.ok)) refl c.clear.ensures.items c.in_ok-number.ensures.ok.0 h

pub returns-in_err-number-clause-err : goal.returns-in_err-number-clause-err
returns-in_err-number-clause-err g c =
    let contents = g.W.Write.contents c.args.writer.now in
    let p = err_from_is_err_and c.from_residual.result c.from_residual.ensures.1 in
    let many = c.in_err-number.ensures.err in
    rw (p.1, p.2, many.0) (λ most taken before h.
    short_own most _ (g.T.LineTaker.stands c.args.taker.now before contents) (g.T.LineTaker.fails c.args.taker.now before contents) taken _ h.1
    (short_many most c.args.self.now taken (10 ∷ []) many.1 (omega arith) h.0))
