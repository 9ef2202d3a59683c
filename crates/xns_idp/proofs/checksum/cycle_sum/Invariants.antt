use Rattle.std.proofs.Common.{◌≡◌, ◌<◌, ◌%◌, length}
use Rattle.xns_idp.specs.Checksum.{words, sum_from}
use Rattle.xns_idp.proofs.checksum.cycle_sum.Given as goal

abbrev pub invariant-loop-left : goal.invariant-loop-left
invariant-loop-left l = record {
  small : l.sum < 65535;
  whole : length l.left % 2048 ≡ 0;
  same : sum_from l.sum (words l.left) % 65535 ≡ sum_from 0 (words l.bytes) % 65535;
}

abbrev pub decreases-loop-left : goal.decreases-loop-left
decreases-loop-left l = length l.left
