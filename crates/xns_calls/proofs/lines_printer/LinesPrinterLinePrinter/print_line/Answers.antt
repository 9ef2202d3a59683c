use Rattle.std.proofs.Common.{◌∙◌, ap}
use Rattle.xns_calls.specs.Calls.{after_line}
use Rattle.xns_calls.specs.Origins.{line_origin}
use Rattle.xns_calls.proofs.Printed.{known_by, printed}
use Rattle.xns_calls.proofs.lines_printer.LinesPrinterLinePrinter.print_line.Goals as goal

pub returns-clause-ok : goal.returns-clause-ok
returns-clause-ok g c = λ lines number begun h.
    printed g.D.Described.programs c.args.self.now.printer.capture _ c.args.page.now _ c.args.line.now c.args.number lines h.named
    (λ placed. c.in_ok-take_line_in.ensures.known placed
    ∙ ap (λ programs. after_line programs c.args.number c.args.line.now (known_by c.args.self.now.printer.capture c.args.page.now)) h.named)
    c.in_ok-take_line_in.ensures.placed (c.of_line-printer.ensures ∙ ap (λ programs. line_origin programs c.args.number) h.named) number begun h.keeps
