use Rattle.std.proofs.Common.{refl}
use Rattle.xns_calls.proofs.Places.{on_ok_with}
use Rattle.xns_calls.proofs.Printed.{end_printed}
use Rattle.xns_calls.proofs.lines_printer.LinesPrinterLinePrinter.print_end.Goals as goal

pub returns-clause-ok : goal.returns-clause-ok
returns-clause-ok g c = on_ok_with c.take_end.result _ _ c.take_end.ensures.known (λ known. λ lines few begun h.
    end_printed g.D.Described.programs c.args.self.now.printer _ c.args.page.now _ lines c.args.part refl known c.take_end.ensures.placed refl begun h)
