use Rattle.item_world.proofs.Plays.{trace_of, begins_played}
use Rattle.item_world.proofs.play.play_items.Goals as goal
use Rattle.item_world.specs.declared.side.Side.TheVariants.{A, B}
use Rattle.item_world.specs.Events.{world_after}
use Rattle.item_world.specs.World.{start}

pub returns-clause-trace : goal.returns-clause-trace
returns-clause-trace c =
    trace_of c.in_ok-a.field-0 (world_after (start c.args.setup.now) c.args.events.now) c.in_ok-into_bag.field-0 c.in_ok-a.ensures.stands c.in_ok-into_bag.ensures.bag

pub returns-clause-to_b : goal.returns-clause-to_b
returns-clause-to_b c = begins_played c.items_come_in_order.ensures c.in_ok-a.field-0 c.args.setup.now c.args.events.now B c.known.ensures c.requires c.in_ok-a.ensures

pub returns-clause-to_a : goal.returns-clause-to_a
returns-clause-to_a c = begins_played c.items_come_in_order.ensures c.in_ok-a.field-0 c.args.setup.now c.args.events.now A c.known.ensures c.requires c.in_ok-a.ensures

pub returns-clause-finishes : goal.returns-clause-finishes
returns-clause-finishes c =
    c.no_world_is_stuck.ensures.by_events c.args.setup.now c.args.events.now c.known.ensures c.requires c.in_ok-a.ensures.fits
