use Rattle.std.proofs.Common.{◌/◌, ◌≤◌, arith}
use Rattle.std.proofs.lemmas.List.{length-set}
use Rattle.xns_agenda.proofs.Tree.{mended_above, stopped_above}
use Rattle.xns_agenda.proofs.time_tree.mend.Goals as goal

pub loop-at-preserved : goal.loop-at-preserved
loop-at-preserved c =
    let tree = c.loop-at.tree in let times = c.args.times.now in let at = c.loop-at.at in
    let two : 2 ≤ at = omega arith in
    let size = length-set tree (at / 2) c.right_time-time.result in
    let within = c.loop-at.invariant.within in
    record {
      but = mended_above tree times at c.right_time-time.result c.loop-at.invariant.but two within c.right_time-time.ensures;
      some = omega (arith, two);
      within = omega (arith, size, within);
    }

pub returns-then-has_time : goal.returns-then-has_time
returns-then-has_time c =
    let tree = c.loop-at.tree in let times = c.args.times.now in let at = c.loop-at.at in
    let two : 2 ≤ at = omega arith in
    stopped_above tree times at c.right_time-time.result c.loop-at.invariant.but two c.loop-at.invariant.within c.right_time-time.ensures
    (c.has_time.ensures cc)
