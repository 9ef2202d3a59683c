use Rattle.xns_world.proofs.CallPlays.{moves_at}
use Rattle.item_world.proofs.Quiet.{ok_then}
use Rattle.item_world.specs.World.{ticks}
use Rattle.item_world.specs.declared.side.Side.TheVariants.{A, B}
use Rattle.xns_world.proofs.call_pair.CallPair.tick.Goals as goal

pub returns-in-A : goal.returns-in-A
returns-in-A g c = ok_then c.tick_end.result c.tick_end.ensures.stands (moves_at ticks c.args.self.now c.args.side A c.tick_end.new.endpoint c.args.network.now c.tick_end.new.network c.in-A.is)

pub returns-in-B : goal.returns-in-B
returns-in-B g c = ok_then c.tick_end-in-B.result c.tick_end-in-B.ensures.stands (moves_at ticks c.args.self.now c.args.side B c.tick_end-in-B.new.endpoint c.args.network.now c.tick_end-in-B.new.network c.in-B.is)
