use Rattle.std.proofs.Common.{◌≡◌, arith, ap, refl, length, length-append, append_assoc, ◌∙◌, ◌+◌, ◌++◌, ◌∷◌, []}
use Rattle.std.proofs.lemmas.Bool.Decides.{nat_tests}
use Rattle.std.proofs.lemmas.Result.{IfErr-weaker, err_from_is_err_and, on_ok_weaker}
use Rattle.xns_lines.specs.Lines.{closed_lines}
use Rattle.xns_lines.proofs.Cutting.{cut_whole, short_at_whole, short_later, short_long, short_many, short_own, takes_run, takes_whole}
use Rattle.xns_lines.proofs.cutter.Cutter.take_end.Goals as goal

pub returns-then-run-gt-MOST_LINE_BYTES-clause-err : goal.returns-then-run-gt-MOST_LINE_BYTES-clause-err
returns-then-run-gt-MOST_LINE_BYTES-clause-err g c =
    let contents = g.W.Write.contents c.args.writer.now in
    λ most taken before h. short_later most (taken ++ c.args.run.now) (10 ∷ []) _ _ _ refl
    (short_own most _ (g.T.LineTaker.stands c.args.taker.now before contents) (g.T.LineTaker.fails c.args.taker.now before contents) taken _ h.1
    (short_long most c.args.self.now taken c.args.run.now c.requires.plain (omega (arith, c.in_ok-number.ensures.ok)) (omega arith) h.0))

pub returns-in_err-take_line-clause-err : goal.returns-in_err-take_line-clause-err
returns-in_err-take_line-clause-err g c =
    let none : length c.args.self.now.line.items ≡ 0 = grind (arith, nat_tests, c.is_empty.ensures, c.if-not-is_empty.false) in
    let p = err_from_is_err_and c.from_residual-in_err-take_line.result c.from_residual-in_err-take_line.ensures.1 in
    rw (p.1, p.2) (λ most taken before h.
    short_at_whole most c.args.self.now _ _ _ taken c.args.run.now c.requires.plain (omega (arith, c.in_ok-number.ensures.ok)) none (omega arith) h.0
    (c.in_err-take_line.ensures.err before (closed_lines taken) (c.in_ok-number.ensures.ok.0 ∙ ap (λ n. n + 1) h.0.count) h.1))

pub returns-clause-cut : goal.returns-clause-cut
returns-clause-cut g c =
    let none : length c.args.self.now.line.items ≡ 0 = grind (arith, nat_tests, c.is_empty.ensures, c.if-not-is_empty.false) in
    λ most taken h. cut_whole most c.args.self.now _ taken c.args.run.now c.requires.plain (omega (arith, c.in_ok-number.ensures.ok)) none (omega arith) refl refl c.in_ok-number.ensures.ok.0 h

pub returns-clause-ok : goal.returns-clause-ok
returns-clause-ok g c =
    let none : length c.args.self.now.line.items ≡ 0 = grind (arith, nat_tests, c.is_empty.ensures, c.if-not-is_empty.false) in
    λ most taken before h. takes_whole most c.args.self.now _ (g.T.LineTaker.stands c.take_line.new.self before (g.W.Write.contents c.take_line.new.writer)) taken c.args.run.now c.requires.plain (omega (arith, c.in_ok-number.ensures.ok)) none (omega arith) refl refl c.in_ok-number.ensures.ok.0 h.0
    (c.in_ok-take_line.ensures.ok before (closed_lines taken) (c.in_ok-number.ensures.ok.0 ∙ ap (λ n. n + 1) h.0.count) h.1)

pub returns-in_err-take_run-clause-err : goal.returns-in_err-take_run-clause-err
returns-in_err-take_run-clause-err g c =
    let contents = g.W.Write.contents c.args.writer.now in
    let p = err_from_is_err_and c.from_residual.result c.from_residual.ensures.1 in
    rw (p.1, p.2) (λ most taken before h.
    short_later most (taken ++ c.args.run.now) (10 ∷ []) _ _ _ refl
    (short_own most _ (g.T.LineTaker.stands c.args.taker.now before contents) (g.T.LineTaker.fails c.args.taker.now before contents) taken _ h.1 (c.in_err-take_run.ensures.err most taken h.0)))

pub returns-then-not-is_empty-clause-ok : goal.returns-then-not-is_empty-clause-ok
returns-then-not-is_empty-clause-ok g c =
    let contents = g.W.Write.contents c.args.writer.now in
    on_ok_weaker c.take_newline.result (λ ok. λ most taken before h.
    ok most (taken ++ c.args.run.now) before
    (takes_run most c.args.self.now _ (g.T.LineTaker.stands c.args.taker.now before contents) taken c.args.run.now (c.in_ok-take_run.ensures.ok most taken) h))
    c.take_newline.ensures.ok

pub returns-then-not-is_empty-clause-err : goal.returns-then-not-is_empty-clause-err
returns-then-not-is_empty-clause-err g c =
    let contents = g.W.Write.contents c.args.writer.now in
    IfErr-weaker c.take_newline.result _ _ (λ fault err. λ most taken before h.
    err most (taken ++ c.args.run.now) before
    (takes_run most c.args.self.now _ (g.T.LineTaker.stands c.args.taker.now before contents) taken c.args.run.now (c.in_ok-take_run.ensures.ok most taken) h))
    c.take_newline.ensures.err

pub returns-in_err-number-clause-err : goal.returns-in_err-number-clause-err
returns-in_err-number-clause-err g c =
    let contents = g.W.Write.contents c.args.writer.now in
    let p = err_from_is_err_and c.from_residual-in_err-number.result c.from_residual-in_err-number.ensures.1 in
    let many = c.in_err-number.ensures.err in
    rw (p.1, p.2, many.0) (λ most taken before h.
    rw append_assoc
    (short_own most _ (g.T.LineTaker.stands c.args.taker.now before contents) (g.T.LineTaker.fails c.args.taker.now before contents) taken _ h.1
    (short_many most c.args.self.now taken (c.args.run.now ++ 10 ∷ []) many.1 (omega (arith, length-append c.args.run.now (10 ∷ []))) h.0)))
