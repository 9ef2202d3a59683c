use Rattle.std.proofs.Common.{arith}
use Rattle.xns_dump.proofs.packet_printer.DumpPrinterPacketPrinter.print_packet_end.Goals as goal

pub returns-clause-ok : goal.returns-clause-ok
returns-clause-ok c = λ packets few begun h. absurd (omega (arith, few))
