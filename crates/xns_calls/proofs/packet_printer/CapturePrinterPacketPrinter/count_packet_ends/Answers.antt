use Rattle.std.proofs.Common.{◌∙◌, ap, length}
use Rattle.xns_calls.proofs.packet_printer.CapturePrinterPacketPrinter.count_packet_ends.Goals as goal

pub returns : goal.returns
returns g c = λ packets h. c.connection_count.ensures ∙ ap length h.keeps.connections
