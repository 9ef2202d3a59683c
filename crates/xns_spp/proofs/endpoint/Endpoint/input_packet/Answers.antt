use Rattle.std.proofs.Common.{ℕ, List, refl, ◌∙◌, sym, subst}
use Rattle.std.specs.Prelude.{◌≡◌, Ok}
use Rattle.xns_spp.specs.Held.{StandsFor}
use Rattle.xns_spp.specs.Inside.{held_by}
use Rattle.xns_spp.specs.Packet.{spp_packet_of}
use Rattle.xns_spp.specs.Receiving.{StoresBytes}
use Rattle.xns_spp.specs.State.{State}
use Rattle.xns_spp.proofs.Steps.{on_err}
use Rattle.xns_spp.proofs.Receives.{decided_as, drops, receives, inputs, input_drops, stores_bytes}
use Rattle.xns_spp.proofs.endpoint.Endpoint.input_packet.Goals as goal

pub returns-in-Err-clause-stands : goal.returns-in-Err-clause-stands
returns-in-Err-clause-stands c = λ s b stands read.
    let d = drops (held_by c.self.inside) s b c.in-Err.dropped (rw c.self.view_is stands) (c.in-Err.ensures.value ∙ decided_as (held_by c.self.inside) b c.args.packet.now read) in
    subst (λ (t : State). StandsFor c.args.self.now t) (sym d.1) stands

pub returns-in_err-item-clause-memory : goal.returns-in_err-item-clause-memory
returns-in_err-item-clause-memory c =
    on_err c.from_residual.result ((s : State) (b : List ℕ) → StandsFor c.args.self.now s → spp_packet_of b ≡ Ok c.args.packet.now → StoresBytes s b)
    (λ s b stands read. stores_bytes (held_by c.self.inside) s b c.in-Ok.arrival c.self.inside.numbers.taken (rw c.self.view_is stands)
    (c.in-Ok.ensures.value ∙ decided_as (held_by c.self.inside) b c.args.packet.now read) c.in_err-item.ensures.err.0 c.in_err-item.ensures.err.1)

pub returns-in-Err-clause-answer : goal.returns-in-Err-clause-answer
returns-in-Err-clause-answer c = λ s b stands read.
    c.of_dropped.ensures ∙ input_drops (held_by c.self.inside) s b c.in-Err.dropped (rw c.self.view_is stands) (c.in-Err.ensures.value ∙ decided_as (held_by c.self.inside) b c.args.packet.now read)

pub returns-clause-answer : goal.returns-clause-answer
returns-clause-answer c = λ s b stands read.
    inputs (held_by c.self.inside) s b c.in-Ok.arrival (record { took = c.in-Ok.arrival.took; owes_reply = c.wants_reply-owes_reply.result; dropped = c.reason.result }) (rw c.self.view_is stands)
    (c.in-Ok.ensures.value ∙ decided_as (held_by c.self.inside) b c.args.packet.now read)
    refl c.wants_reply-owes_reply.ensures c.reason.ensures

pub returns-clause-stands : goal.returns-clause-stands
returns-clause-stands c = λ s b stands read.
    receives (held_by c.self.inside) c.args.self.now c.advance.new.self s b c.in-Ok.arrival c.in_ok-item.item c.self.view_is stands
    (c.in-Ok.ensures.value ∙ decided_as (held_by c.self.inside) b c.args.packet.now read)
    c.in-Ok.ensures.follows c.in-Ok.ensures.fits c.in_ok-item.ensures.ok c.advance.ensures.ends c.advance.ensures.numbers c.advance.ensures.unacknowledged c.advance.ensures.slots
