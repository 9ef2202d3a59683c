use Rattle.std.proofs.Common.{arith, ap, suc, ◌≡◌, ◌+◌}
use Rattle.xns_calls.specs.Calls.{known_with_end, text_with_end}
use Rattle.xns_calls.proofs.Behind.{text_behind}
use Rattle.xns_calls.proofs.lines_printer.LinesPrinterLinePrinter.text_only_grows.Goals as goal

pub returns-clause-begins : goal.returns-clause-begins
returns-clause-begins g c = text_behind g.D.Described.programs

pub returns-clause-ends : goal.returns-clause-ends
returns-clause-ends g c = λ lines part.
    let programs = g.D.Described.programs in
    let e : suc part ≡ part + 1 = omega arith in ((known_with_end programs lines (suc part)).text, ap (text_with_end programs lines) e)
