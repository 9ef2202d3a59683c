use Rattle.std.proofs.Common.{◌≡◌, ◌++◌, ◌||◌, ap, rules}
use Rattle.xns_dump.specs.Dump.{items_in}
use Rattle.xns_dump.specs.Dump.Line.{item_of_line, text_of_line}
use Rattle.xns_dump.specs.Flows.Numbers.{numbering}
use Rattle.xns_dump.proofs.Printed.{printed}
use Rattle.xns_dump.proofs.printer.DumpPrinterLinePrinter.print_line.Goals as goal

pub returns-clause-ok : goal.returns-clause-ok
returns-clause-ok c = λ lines number begun h.
    let kept = c.args.self.now.numbers.last in
    let text : c.report_line.new.report.line ≡ c.args.page.now.text.line ++ text_of_line c.args.number (numbering kept) c.args.line.now = search rules in
    printed kept c.note_item.new.self.last c.args.page.now _ lines c.args.line.now c.args.number number c.requires.few begun h
    (ap (λ r. c.args.page.now.is_refused || r) c.in_ok-outcome.ensures.refused) text
    (λ numbers. c.in_ok-note_item.ensures.after (numbering kept) (item_of_line c.args.line.now) (items_in lines) c.in_ok-outcome.ensures.item numbers h)
