use Rattle.std.proofs.Common.{◌≡◌, ◌∙◌, ap, sym, refl, rules, [], None, Some, Ok, Err}
use Rattle.xns_agenda.specs.Turns.{HasNoTurn}
use Rattle.xns_host.specs.Places.{another, gives, nobody, nothing, places_with}
use Rattle.xns_host.specs.Strays.{StrayQueue}
use Rattle.xns_host.specs.declared.host_fault.HostFault.TheVariants.{NoMemory}
use Rattle.xns_host.specs.declared.outgoing.Outgoing.{Outgoing}
use Rattle.xns_host.specs.declared.register.Register.{Register}
use Rattle.xns_host.specs.declared.settings.Settings.{Settings}
use Rattle.xns_host.proofs.Fetching.{packet_less}
use Rattle.xns_host.proofs.Placed.{acts_all_at, next_at, no_stray, packet_as, rests_at, some_stray, stray_out}
use Rattle.xns_host.proofs.host.Host.next_packet.Goals as goal

pub loop-number-init : goal.loop-number-init
loop-number-init c = (
  search rules,
  search rules,
  c.act_all.ensures.order,
  no_stray c.args.self.now.strays c.take.new.self c.take.result (search rules) (ap (λ (q : StrayQueue). q.waiting) (sym c.act_all.ensures.strays) ∙ c.take.ensures.waiting)
      (c.take.ensures.rest ∙ ap (λ (q : StrayQueue). let y : StrayQueue = record q { waiting = c.take.new.self.waiting } in y) c.act_all.ensures.strays),
  record {
    mid = places_with c.act_all.new.self.guests.items c.act_all.new.self.agenda;
    acts = record { one_by_one = c.act_all.ensures.one_by_one; all = c.act_all.ensures.acts };
    none = nobody;
  },
)

pub loop-number-smaller : goal.loop-number-smaller
loop-number-smaller c =
    let none : c.packet.result ≡ Ok None = search rules in
    packet_less c.loop-number.self.agenda.packets c.packet.new.self.agenda.packets c.in-Some-first_packet.number
    c.in-Some-first_packet.ensures.some.has (c.packet.ensures.rested none)

pub loop-number-preserved : goal.loop-number-preserved
loop-number-preserved c =
    let none : c.packet.result ≡ Ok None = search rules in (
      c.loop-number.invariant.0,
      search rules,
      ap (λ (r : Register). r.identifiers.ahead) c.packet.ensures.register ∙ c.loop-number.invariant.2,
      c.packet.ensures.strays ∙ c.loop-number.invariant.3,
      (let gone = c.loop-number.invariant.4 in
          record {
            mid = gone.mid;
            acts = gone.acts;
            none = another c.in-Some-first_packet.number gone.none c.in-Some-first_packet.ensures.some
                (packet_as _ c.in-Some-first_packet.number _ _ c.packet.result (Ok None) none c.packet.ensures.asks);
          }),
    )

pub returns-in-Some : goal.returns-in-Some
returns-in-Some c = record {
  gives = let waiting = ap (λ (q : StrayQueue). q.waiting) (sym c.act_all.ensures.strays) ∙ c.take.ensures.waiting in
      record {
        mid = places_with c.act_all.new.self.guests.items c.act_all.new.self.agenda;
        acts = acts_all_at c.tell-now.result _ _ _ c.tell-now.ensures.result (record { one_by_one = c.act_all.ensures.one_by_one; all = c.act_all.ensures.acts });
        stray = λ o os is.
            let out = stray_out c.args.self.now.strays c.take.new.self c.take.result c.in-Some.stray o os c.in-Some.is waiting
            (c.take.ensures.rest ∙ ap (λ (q : StrayQueue). let y : StrayQueue = record q { waiting = c.take.new.self.waiting } in y) c.act_all.ensures.strays) is in
            (ap (λ (x : Outgoing). Ok (Some x)) out.0, refl, out.1);
        next = λ none. absurd (some_stray c.args.self.now.strays c.take.new.self c.take.result c.in-Some.stray c.in-Some.is waiting none);
        order = c.act_all.ensures.order;
        set_up = search rules;
      };
}

pub returns-in-Err : goal.returns-in-Err
returns-in-Err c = record {
  gives = let made : c.packet.result ≡ Err NoMemory = search rules in
      let settings : c.packet.new.self.settings ≡ c.args.self.now.settings = search rules in
      let gone = c.loop-number.invariant.4 in
      record {
        mid = gone.mid;
        acts = acts_all_at c.tell-now.result _ _ _ c.tell-now.ensures.result gone.acts;
        stray = λ o os is. let none : c.args.self.now.strays.waiting ≡ [] = c.loop-number.invariant.0 in absurd (cc);
        next = λ none. (
          rests_at c.tell-now.result _ _ _ c.in-Some-first_packet.number _ _ _ _ c.packet.result _ c.tell-now.ensures.result
              (ap (λ (s : Settings). s.first_wait) settings) made (sym c.in-Err.is ∙ made) gone.none c.in-Some-first_packet.ensures.some c.packet.ensures.asks
              c.rest.ensures.rests,
          c.rest.ensures.strays ∙ (c.packet.ensures.strays ∙ c.loop-number.invariant.3),
        );
        order = ap (λ (r : Register). r.identifiers.ahead) c.rest.ensures.register
            ∙ (ap (λ (r : Register). r.identifiers.ahead) c.packet.ensures.register ∙ c.loop-number.invariant.2);
        set_up = search rules;
      };
}

pub returns-in-Ok-Some : goal.returns-in-Ok-Some
returns-in-Ok-Some c = record {
  gives = let gone = c.loop-number.invariant.4 in
      let made : c.packet.result ≡ Ok (Some c.in-Ok-Some.packet) = search rules in
      record {
        mid = gone.mid;
        acts = acts_all_at c.tell-now.result _ _ _ c.tell-now.ensures.result gone.acts;
        stray = λ o os is. let none : c.args.self.now.strays.waiting ≡ [] = c.loop-number.invariant.0 in absurd (cc);
        next = λ none. (
          next_at c.tell-now.result _ _ _ _ _ c.tell-now.ensures.result (gives c.in-Some-first_packet.number gone.none c.in-Some-first_packet.ensures.some
              (packet_as _ c.in-Some-first_packet.number _ _ c.packet.result (Ok (Some c.in-Ok-Some.packet)) made c.packet.ensures.asks)),
          c.packet.ensures.strays ∙ c.loop-number.invariant.3,
        );
        order = ap (λ (r : Register). r.identifiers.ahead) c.packet.ensures.register ∙ c.loop-number.invariant.2;
        set_up = search rules;
      };
}

pub returns : goal.returns
returns c = record {
  gives = let none_left : HasNoTurn c.loop-number.self.agenda.packets = search rules in
      let gone = c.loop-number.invariant.4 in
      record {
        mid = gone.mid;
        acts = acts_all_at c.tell-now.result _ _ _ c.tell-now.ensures.result gone.acts;
        stray = λ o os is. let none : c.args.self.now.strays.waiting ≡ [] = c.loop-number.invariant.0 in absurd (cc);
        next = λ none. (next_at c.tell-now.result _ _ _ _ _ c.tell-now.ensures.result (nothing gone.none none_left), c.loop-number.invariant.3);
        order = c.loop-number.invariant.2;
        set_up = search rules;
      };
}
