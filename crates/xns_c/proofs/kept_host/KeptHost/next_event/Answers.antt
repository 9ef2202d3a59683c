use Rattle.std.proofs.Common.{refl, rules, subst, Option, None}
use Rattle.xns_host.specs.Turn.{TellsNext}
use Rattle.xns_host.specs.declared.event.Event.{Event}
use Rattle.xns_c.proofs.Hosts.{event_fetched}
use Rattle.xns_c.proofs.kept_host.KeptHost.next_event.Goals as goal

pub returns-then-result-eq-SHORT_BUFFER : goal.returns-then-result-eq-SHORT_BUFFER
returns-then-result-eq-SHORT_BUFFER c =
    event_fetched c.args.self.now c.take_event.new.self _ c.take_event.result c.in-Some.found _ _ _ _ _ _ _ c.in-Some.is c.take_event.ensures.kept c.take_event.ensures.tells c.take_event.ensures.packet c.give_event-result.ensures refl (search rules) refl

pub returns-else-result-eq-SHORT_BUFFER : goal.returns-else-result-eq-SHORT_BUFFER
returns-else-result-eq-SHORT_BUFFER c =
    event_fetched c.args.self.now c.take_event.new.self _ c.take_event.result c.in-Some.found _ _ _ _ _ _ _ c.in-Some.is c.take_event.ensures.kept c.take_event.ensures.tells c.take_event.ensures.packet c.give_event-result.ensures refl (search rules) refl

pub returns-in_default : goal.returns-in_default
returns-in_default c = record {
  found = None;
  kept = λ e is. absurd (search rules);
  tells = λ no. subst (λ (x : Option Event). TellsNext x c.args.self.now.host c.take_event.new.self.host) (search rules) (c.take_event.ensures.tells no);
  given = search rules;
  left = search rules;
  packet = search rules;
}
