use Rattle.std.proofs.Common.{◌∙◌, ap, length}
use Rattle.xns_calls.proofs.lines_printer.LinesPrinterLinePrinter.count_ends.Goals as goal

pub returns : goal.returns
returns g c = λ lines h. c.connection_count.ensures ∙ ap length h.keeps.connections
