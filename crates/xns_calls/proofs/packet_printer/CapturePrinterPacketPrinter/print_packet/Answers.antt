use Rattle.std.proofs.Common.{◌∙◌, ap, refl}
use Rattle.xns_calls.specs.Origins.{frame_origin}
use Rattle.xns_calls.proofs.FilePrinted.{packet_printed}
use Rattle.xns_calls.proofs.packet_printer.CapturePrinterPacketPrinter.print_packet.Goals as goal

pub returns-clause-ok : goal.returns-clause-ok
returns-clause-ok g c = λ packets above begun h.
    packet_printed g.D.Described.programs g.S.TimeStyle.style c.args.self.now.printer.capture _ c.args.page.now _ (c.args.stamp, c.args.packet.now) packets c.of_frame-origin.result h.named
    (c.of_frame-origin.ensures ∙ ap (λ times. frame_origin c.args.self.now.printer.programs times c.args.stamp) c.times.ensures
    ∙ ap (λ programs. frame_origin programs g.S.TimeStyle.style c.args.stamp) h.named)
    c.in_ok-take_packet_in.ensures.known c.in_ok-take_packet_in.ensures.placed refl begun h.keeps
