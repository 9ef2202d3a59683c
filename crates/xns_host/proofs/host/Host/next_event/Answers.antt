use Rattle.std.proofs.Common.{refl, rules, None, Some}
use Rattle.xns_agenda.specs.Turns.{HasNoTurn}
use Rattle.xns_host.specs.Places.{another, nothing, told}
use Rattle.xns_host.proofs.Comings.{whole_by}
use Rattle.xns_host.proofs.Placed.{asked_as, vain_at_first}
use Rattle.xns_host.proofs.host.Host.next_event.Goals as goal

pub loop-number-init : goal.loop-number-init
loop-number-init c = (search rules, search rules, search rules, vain_at_first _ _ _ _ _ (search rules) (search rules))

pub loop-number-preserved : goal.loop-number-preserved
loop-number-preserved c = (
  search rules,
  search rules,
  search rules,
  another c.in-Some.number c.loop-number.invariant.3 c.in-Some.ensures.some
      (asked_as c.in-Some.number _ _ c.event.result None c.loop-number.self.clock c.args.self.now.clock c.loop-number.invariant.0.2 (search rules)
      c.event.ensures.asks),
)

pub returns-in-Some-event : goal.returns-in-Some-event
returns-in-Some-event c = record {
  tells = record {
    next = told c.in-Some.number c.loop-number.invariant.3 c.in-Some.ensures.some
        (asked_as c.in-Some.number _ _ c.event.result (Some c.in-Some-event.event) c.loop-number.self.clock c.args.self.now.clock c.loop-number.invariant.0.2
        c.in-Some-event.is c.event.ensures.asks);
    order = search rules;
    rest = whole_by c.args.self.now c.event.new.self _ _ _ (search rules) refl (search rules) refl;
    clock = search rules;
  };
}

pub returns : goal.returns
returns c = record {
  tells = let none : HasNoTurn c.loop-number.self.agenda.events = search rules in
      record {
        next = nothing c.loop-number.invariant.3 none;
        order = c.loop-number.invariant.1;
        rest = whole_by c.args.self.now c.loop-number.self _ _ _ c.loop-number.invariant.0 refl c.loop-number.invariant.2 refl;
        clock = c.loop-number.invariant.0.2;
      };
}
