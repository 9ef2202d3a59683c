use Rattle.std.proofs.Common.{arith, take}
use Rattle.item_world.proofs.Plays.{played_none, played_more, played_all}
use Rattle.item_world.proofs.play.played.Goals as goal
use Rattle.item_world.specs.Events.{world_after}
use Rattle.item_world.specs.World.{start}

pub loop-event-init : goal.loop-event-init
loop-event-init c = played_none c.in_ok-play.play c.args.setup.now c.in_ok-play.ensures

pub loop-event-preserved : goal.loop-event-preserved
loop-event-preserved c =
    let k = c.loop-event.event-index in
    let es = c.args.events.now in
    let before = c.loop-event.invariant in
    played_more c.happen.new.self c.args.setup.now es k c.event-item.result (omega arith) c.event-item.is
    (c.in_ok-happen.ensures.goes c.end_laws_are_given.ensures (world_after (start c.args.setup.now) (take k es)) before.stands) c.in_ok-happen.ensures.fits before.fits

pub returns : goal.returns
returns c = played_all c.loop-event.play c.args.setup.now c.args.events.now c.loop-event.event-index (omega arith) c.loop-event.invariant
