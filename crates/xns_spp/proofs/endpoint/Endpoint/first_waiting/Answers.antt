use Rattle.std.proofs.Common.{◌≡◌, Some, option_copied, slice_get}
use Rattle.xns_spp.specs.Inside.{held_by}
use Rattle.xns_spp.proofs.Steps.{first_there, takes_short}
use Rattle.xns_spp.proofs.endpoint.Endpoint.first_waiting.Goals as goal

first_slot : (c : goal.After-as_ref) → Some (option_copied c.as_ref.result) ≡ slice_get c.self.inside.slots.items 0
first_slot c = cc (c.as_ref.ensures.value, c.in_ok-get.ensures)

pub returns-clause-answer : goal.returns-clause-answer
returns-clause-answer c = λ s stands.
    first_there (held_by c.self.inside) s (option_copied c.as_ref.result) (rw c.self.view_is stands) c.if-self.false (first_slot c)

pub returns-clause-short : goal.returns-clause-short
returns-clause-short c = λ s stands.
    takes_short (held_by c.self.inside) s (option_copied c.as_ref.result) (rw c.self.view_is stands) c.if-self.false (first_slot c)
