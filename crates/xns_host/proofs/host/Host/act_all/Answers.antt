use Rattle.std.proofs.Common.{◌∙◌, ◌<◌, refl, rules, arith, length}
use Rattle.xns_agenda.specs.Times.{HasNoneBy}
use Rattle.xns_host.specs.Places.{another, nobody}
use Rattle.xns_host.proofs.Done.{at_first, done_early, done_last, one_more}
use Rattle.xns_host.proofs.Placed.{who_is_due}
use Rattle.xns_host.proofs.host.Host.act_all.Goals as goal

pub loop-init : goal.loop-init
loop-init c = (
  refl,
  λ more. at_first c.args.now c.args.self.now.guests.items c.args.self.now.not_done,
  search rules,
  refl,
  nobody,
)

pub loop-preserved : goal.loop-preserved
loop-preserved c = (
  c.act.ensures.strays ∙ c.loop.invariant.0,
  λ more. one_more c.args.now c.args.self.now.guests.items c.loop.self.guests.items c.act.new.self.guests.items c.loop.self.agenda c.in-Some.number
      c.loop.counter (c.loop.invariant.1 more) c.loop.self.noted c.loop.self.sized c.in-Some.ensures.some (c.act.ensures.acts more) c.act.ensures.apart,
  search rules,
  c.act.ensures.order ∙ c.loop.invariant.3,
  let less : c.in-Some.number < length c.loop.self.guests.items = omega (arith, c.in-Some.ensures.within, c.loop.self.sized) in
      let who = who_is_due c.loop.self.agenda c.loop.self.guests.items c.args.now c.in-Some.number c.loop.self.noted less c.in-Some.ensures.some in
      another c.in-Some.number c.loop.invariant.4 c.in-Some.ensures.some (c.act.ensures.turn who.0 who.1),
)

pub returns-in_default-clause-acts : goal.returns-in_default-clause-acts
returns-in_default-clause-acts c = λ more.
    let none : HasNoneBy c.loop.self.agenda.dues c.args.now = search rules in
    done_early c.args.now c.args.self.now.guests.items c.loop.self.guests.items c.loop.self.agenda c.loop.counter (c.loop.invariant.1 more)
    c.loop.self.noted none

pub returns-clause-acts : goal.returns-clause-acts
returns-clause-acts c = λ more.
    done_last c.args.now c.args.self.now.guests.items c.loop.self.guests.items c.loop.counter (c.loop.invariant.1 more) (omega arith)
