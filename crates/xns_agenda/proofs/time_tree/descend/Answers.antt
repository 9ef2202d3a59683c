use Rattle.xns_agenda.proofs.Tree.{leaf_there}
use Rattle.xns_agenda.proofs.time_tree.descend.Goals as goal

pub returns : goal.returns
returns c = leaf_there c.args.tree.now c.args.times.now c.loop-at.at c.args.time c.requires.tree.same c.loop-at-test.false c.loop-at.invariant.within c.loop-at.invariant.time
