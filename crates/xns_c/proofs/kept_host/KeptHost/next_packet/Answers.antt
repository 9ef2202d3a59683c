use Rattle.std.proofs.Common.{◌≡◌, refl, rules, subst, arith, Option, Result, Ok, Err, None}
use Rattle.xns_host.specs.Turn.{GivesOut}
use Rattle.xns_host.specs.declared.host_fault.HostFault.{HostFault}
use Rattle.xns_host.specs.declared.outgoing.Outgoing.{Outgoing}
use Rattle.xns_c.proofs.Hosts.{packet_fetched, packet_put, packet_short}
use Rattle.xns_c.proofs.kept_host.KeptHost.next_packet.Goals as goal

pub returns-then-told-eq-SHORT_BUFFER : goal.returns-then-told-eq-SHORT_BUFFER
returns-then-told-eq-SHORT_BUFFER c =
    packet_fetched c.args.self.now c.take_packet.new.self _ c.args.now c.take_packet.result c.in-Ok-Some.found _ _ _ _ _ _ _ (search rules) c.take_packet.ensures.kept c.take_packet.ensures.gives c.take_packet.ensures.event
    (packet_short c.in-Ok-Some.found c.as_slice.result.now _ _ c.args.written.now _ c.args.via.now _ c.as_slice.ensures (search rules) c.put_front-told.ensures.put c.put_front-told.ensures.short c.put_front-told.ensures.unchanged) refl (search rules) refl

pub returns-else-told-eq-SHORT_BUFFER : goal.returns-else-told-eq-SHORT_BUFFER
returns-else-told-eq-SHORT_BUFFER c =
    packet_fetched c.args.self.now c.take_packet.new.self _ c.args.now c.take_packet.result c.in-Ok-Some.found _ _ _ _ _ _ _ (search rules) c.take_packet.ensures.kept c.take_packet.ensures.gives c.take_packet.ensures.event
    (packet_put c.in-Ok-Some.found c.as_slice.result.now _ _ c.args.written.now _ c.args.via.now _ c.as_slice.ensures (search rules) c.put_front-told.ensures.put c.put_front-told.ensures.short) refl (search rules) refl

pub returns-in-Ok-None : goal.returns-in-Ok-None
returns-in-Ok-None c =
    let none : c.take_packet.result ≡ Ok None = search rules in
    record {
      found = None;
      done = Ok tt;
      gives = λ no. subst (λ (x : Result (Option Outgoing) HostFault). GivesOut c.args.now x c.args.self.now.host c.take_packet.new.self.host) none (c.take_packet.ensures.gives no);
      starved = λ is. absurd (omega (arith, is));
      fetched = λ z. refl;
      kept = λ p is. absurd (search rules);
      given = search rules;
      left = search rules;
      event = search rules;
    }

pub returns-in-Err : goal.returns-in-Err
returns-in-Err c = record {
  found = None;
  done = Err c.in-Err.field-0;
  gives = λ no. subst (λ (x : Result (Option Outgoing) HostFault). GivesOut c.args.now x c.args.self.now.host c.take_packet.new.self.host) c.in-Err.is (c.take_packet.ensures.gives no);
  starved = λ z fine. absurd (search rules);
  fetched = λ more. absurd (more refl);
  kept = λ p is. absurd (search rules);
  given = search rules;
  left = search rules;
  event = search rules;
}
