use Rattle.std.proofs.Common.{◌≡◌, ◌++◌, ◌||◌, ap, rules}
use Rattle.xns_dump.specs.Dump.Capture.{items_among, packet_text}
use Rattle.xns_dump.specs.Dump.Line.{said_by_bytes, said_item}
use Rattle.xns_dump.specs.Flows.Numbers.{numbering}
use Rattle.xns_dump.proofs.CapturePrinted.{packet_printed}
use Rattle.xns_dump.proofs.packet_printer.DumpPrinterPacketPrinter.print_packet.Goals as goal

pub returns-clause-ok : goal.returns-clause-ok
returns-clause-ok c = λ packets above begun h.
    let kept = c.args.self.now.numbers.last in
    let text : c.append_packet.new.report.line ≡ c.args.page.now.text.line ++ packet_text (numbering kept) (c.args.stamp, c.args.packet.now) = search rules in
    packet_printed kept c.note_item.new.self.last c.args.page.now _ packets (c.args.stamp, c.args.packet.now) above c.requires.few begun h
    (ap (λ r. c.args.page.now.is_refused || r) c.in_ok-said.ensures.refused) text
    (λ numbers. c.in_ok-note_item.ensures.after (numbering kept) (said_item (said_by_bytes c.args.packet.now)) (items_among packets) c.in_ok-said.ensures.item numbers h)
