use Rattle.xns_world.proofs.CallingEnds.{stepped_if}
use Rattle.xns_world.proofs.calling.CallingEnd.act.Goals as goal
use Rattle.xns_world.specs.CallPlay.{IsCalling}

pub returns-then-branch : goal.returns-then-branch
returns-then-branch g c p w given holds are h = stepped_if _ _ _ _ _ (IsCalling p c.list.new.self) c.if-branch.true (c.in_ok-list.ensures p w holds h)
