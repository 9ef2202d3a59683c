use Rattle.std.proofs.Common.{◌≡◌, ◌∙◌, ap, rules, sym, false, ◌&&◌}
use Rattle.std.specs.Prelude.{not}
use Rattle.xns_idp.specs.Packet.{packet_model}
use Rattle.xns_spp.specs.Header.{is_system}
use Rattle.xns_calls.specs.Exchange.{brings_new}
use Rattle.xns_calls.proofs.Wanted.{begun_brings, on_err}
use Rattle.xns_calls.proofs.exchange.take_content.Goals as goal

pub returns-clause-memory : goal.returns-clause-memory
returns-clause-memory c =
    let plain : is_system c.args.arrived.now.header.now ≡ false = search rules in
    on_err c.take_new.result _
    (ap (λ p. not p && brings_new c.args.flows.now.own.now.track c.args.arrived.now.header.now.sequence) plain
    ∙ begun_brings c.args.flows.now.heading (packet_model c.args.arrived.now.packet.now) c.args.arrived.now.header.now c.args.flows.now.own.now c.begin.new.flows.own.now c.args.flows.now.other.now c.begin.new.flows.other.now c.args.flows.now.page.now c.begin.new.flows.page.now c.in-Some.number c.in_ok-begin.ensures.scene (sym c.in-Some.ensures.value))
