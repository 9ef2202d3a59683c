use Rattle.std.proofs.lemmas.Grind.{elements}
use Rattle.std.proofs.Common.{◌≡◌, arith, ◌∙◌, sym, Some}
use Rattle.std.specs.Prelude.{slice_get}
use Rattle.xns_calls.proofs.Places.{place_renewed}
use Rattle.xns_calls.proofs.capture.Capture.forget.Goals as goal

pub returns-clause-placed : goal.returns-clause-placed
returns-clause-placed c found h q formed =
    let there : slice_get c.args.self.now.connections.items c.args.place ≡ Some c.in-Some.connection.now = grind (arith, elements) in
    h q formed ∙ sym (rw (c.forget.ensures) (place_renewed c.flows_are_told_apart.ensures q c.args.flow c.args.self.now.connections.items c.args.place c.in-Some.connection.now c.in_ok-number.number (sym c.in-Some.ensures.value) there found))
