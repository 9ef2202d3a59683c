use Rattle.xns_calls.specs.Capture.{after_end, has_flow}
use Rattle.std.proofs.lemmas.Grind.{elements}
use Rattle.std.proofs.Common.{arith, ◌∙◌, ap, sym}
use Rattle.xns_calls.proofs.Places.{place_set}
use Rattle.xns_calls.proofs.capture.Capture.take_end.Goals as goal

pub returns-clause-placed : goal.returns-clause-placed
returns-clause-placed c = λ h q formed. h q formed ∙ sym (place_set q c.args.self.now.connections.items c.args.place c.in-Some.connection.now _ (sym c.in-Some.ensures.value) (ap (has_flow q) c.end.ensures.others))

pub returns-clause-known : goal.returns-clause-known
unfolding after_end
returns-clause-known c = grind (arith, elements)

pub returns-in_default-clause-known : goal.returns-in_default-clause-known
unfolding after_end
returns-in_default-clause-known c = grind (arith, elements)
