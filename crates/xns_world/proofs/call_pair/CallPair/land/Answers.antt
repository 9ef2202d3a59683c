use Rattle.std.proofs.Common.{◌≡◌, Some}
use Rattle.xns_world.proofs.CallPlays.{acts_at}
use Rattle.item_world.proofs.Quiet.{ok_then}
use Rattle.item_world.specs.Landing.{landing}
use Rattle.item_world.specs.World.{World}
use Rattle.item_world.specs.declared.side.Side.{Side}
use Rattle.item_world.specs.declared.side.Side.TheVariants.{A, B}
use Rattle.xns_world.proofs.call_pair.CallPair.land.Goals as goal

pub returns-in-A : goal.returns-in-A
returns-in-A g c =
    ok_then c.land.result c.land.ensures.stands (λ goes.
    acts_at (λ (t : Side) (w v : World). landing w c.args.number ≡ Some (t, v)) c.args.self.now c.args.side A c.land.new.endpoint c.args.network.now c.land.new.network c.in-A.is
    (λ laws w v came h. goes laws w v h came))

pub returns-in-B : goal.returns-in-B
returns-in-B g c =
    ok_then c.land-in-B.result c.land-in-B.ensures.stands (λ goes.
    acts_at (λ (t : Side) (w v : World). landing w c.args.number ≡ Some (t, v)) c.args.self.now c.args.side B c.land-in-B.new.endpoint c.args.network.now c.land-in-B.new.network c.in-B.is
    (λ laws w v came h. goes laws w v h came))
