use Rattle.std.proofs.Common.{refl}
use Rattle.xns_calls.proofs.FilePrinted.{packet_end_printed}
use Rattle.xns_calls.proofs.Places.{on_ok_with}
use Rattle.xns_calls.proofs.packet_printer.CapturePrinterPacketPrinter.print_packet_end.Goals as goal

pub returns-clause-ok : goal.returns-clause-ok
returns-clause-ok g c = on_ok_with c.take_end.result _ _ c.take_end.ensures.known (λ known. λ packets few begun h.
    packet_end_printed g.D.Described.programs g.S.TimeStyle.style c.args.self.now.printer _ c.args.page.now _ packets c.args.part refl known c.take_end.ensures.placed refl begun h)
