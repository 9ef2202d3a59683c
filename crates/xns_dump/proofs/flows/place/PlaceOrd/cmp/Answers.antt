use Rattle.std.proofs.Common.{◌∙◌, ap}
use Rattle.std.specs.Ordering.{nat_cmp, ordering_then}
use Rattle.xns_dump.specs.Flows.Places.{host_and_socket}
use Rattle.xns_dump.proofs.Places.{two_numbers}
use Rattle.xns_dump.proofs.flows.place.PlaceOrd.cmp.Goals as goal

pub returns : goal.returns
returns c =
    c.or_identifiers.ensures
    ∙ ap (λ r. ordering_then r (nat_cmp c.args.self.now.identifier c.args.other.now.identifier))
    (c.cmp-order.ensures ∙ ap (λ n. nat_cmp n c.host_and_socket-2.result) c.host_and_socket.ensures.number
    ∙ ap (λ n. nat_cmp (host_and_socket c.args.self.now) n) c.host_and_socket-2.ensures.number)
    ∙ two_numbers c.args.self.now c.args.other.now c.host_and_socket.ensures.formed c.host_and_socket-2.ensures.formed
