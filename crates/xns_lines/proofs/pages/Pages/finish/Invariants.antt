use Rattle.std.proofs.Common.{List, ℕ, Option}
use Rattle.xns_lines.specs.Printing.{Stands}
use Rattle.xns_lines.proofs.pages.Pages.finish.Given as goal

-- so many parts are printed
abbrev pub invariant-loop-part : goal.invariant-loop-part
invariant-loop-part g l =
    let printer = g.P.ThingPrinter in
    (before : Option (List ℕ)) (things : List printer.Thing)
    → Stands printer.output 0 l.fn.self before (g.W.Write.contents l.fn.writer) things
    → Stands printer.output l.part l.self before (g.W.Write.contents l.writer) things
