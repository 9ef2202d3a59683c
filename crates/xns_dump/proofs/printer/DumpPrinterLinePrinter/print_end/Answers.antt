use Rattle.std.proofs.Common.{arith}
use Rattle.xns_dump.proofs.printer.DumpPrinterLinePrinter.print_end.Goals as goal

pub returns-clause-ok : goal.returns-clause-ok
returns-clause-ok c = λ lines few begun h. absurd (omega (arith, few))
