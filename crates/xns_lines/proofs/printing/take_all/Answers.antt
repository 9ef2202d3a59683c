use Rattle.std.proofs.Common.{List, ℕ}
use Rattle.std.proofs.lemmas.Result.{IfErr-weaker, err_from_is_err_and, on_ok_weaker}
use Rattle.std.proofs.lemmas.Option.{IfSome_then}
use Rattle.xns_lines.specs.Lines.{lines_of}
use Rattle.xns_lines.proofs.OnPages.{end_short, lines_short}
use Rattle.xns_lines.proofs.printing.take_all.Goals as goal

pub returns-in_err-take_lines-clause-err : goal.returns-in_err-take_lines-clause-err
returns-in_err-take_lines-clause-err g c =
    let p = err_from_is_err_and c.from_residual.result c.from_residual.ensures.1 in
    rw (p.1, p.2) (IfSome_then (g.R.Read.remaining c.args.reader.now) c.in_err-take_lines.ensures.err (λ (input : List ℕ) h. (
      h.0,
      h.1,
      (λ before said. lines_short c.args.most g.P.LinePrinter.end_count c.in_err-take_lines.field-0.0 input h.0 _ (h.2 before said)),
    )))

pub returns-clause-ok : goal.returns-clause-ok
returns-clause-ok g c =
    on_ok_weaker c.finish.result (λ ok.
    IfSome_then (g.R.Read.remaining c.args.reader.now) c.in_ok-take_lines.ensures.ok (λ (input : List ℕ) h. (
      h.0,
      h.1,
      (λ before said. ok before (lines_of input) (h.2 before said)),
    )))
    c.finish.ensures.ok

pub returns-clause-err : goal.returns-clause-err
returns-clause-err g c =
    IfErr-weaker c.finish.result _ _ (λ fault err.
    IfSome_then (g.R.Read.remaining c.args.reader.now) c.in_ok-take_lines.ensures.ok (λ (input : List ℕ) h. (
      input,
      h.0,
      (λ before said. end_short c.args.most _ fault c.finish.new.self before _ input h.1 (err before (lines_of input) (h.2 before said))),
    )))
    c.finish.ensures.err
