use Rattle.std.proofs.Common.{rules}
use Rattle.xns_agenda.specs.Turns.{HasNoTurn}
use Rattle.xns_agenda.proofs.Agendas.{wakes_by, wakes_now}
use Rattle.xns_agenda.proofs.agenda.wake.Goals as goal

pub returns-then-is_some : goal.returns-then-is_some
returns-then-is_some c =
    wakes_now c.args.packets.now c.args.events.now c.args.dues.now c.args.short c.first.result c.first.ensures.some (search rules)

pub returns : goal.returns
returns c =
    let none : HasNoTurn c.args.events.now = search rules in
    rw c.sooner.ensures (wakes_by c.args.packets.now c.args.events.now c.args.dues.now c.args.short c.packet_time.result c.first_time.result none
    c.packet_time.ensures.some c.packet_time.ensures.there c.packet_time.ensures.time c.first_time.ensures.earliest c.first_time.ensures.there)
