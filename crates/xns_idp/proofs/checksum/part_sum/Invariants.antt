use Rattle.std.proofs.Common.{◌≡◌, ◌*◌, ◌%◌, ◌≤◌, ◌-◌, length, drop}
use Rattle.std.specs.Simd.Lanes.{Each1}
use Rattle.xns_idp.specs.Checksum.{words, sum_from}
use Rattle.xns_idp.proofs.checksum.part_sum.Given as goal

-- whole blocks are left; the front, the lanes' words and then what is left have the sum; each block adds at most 255 to a lane
abbrev pub invariant-loop-at : goal.invariant-loop-at
invariant-loop-at l = record {
  within : l.at ≤ length l.bytes;
  whole : (length l.bytes - l.at) % 32 ≡ 0;
  lanes : length l.lanes ≡ 32;
  small : Each1 (λ x. x ≤ 8 * l.at) l.lanes;
  same : sum_from (sum_from (sum_from 0 (words l.front)) (words l.lanes)) (words (drop l.at l.bytes)) % 65535 ≡ sum_from 0 (words l.bytes) % 65535;
}

abbrev pub decreases-loop-at : goal.decreases-loop-at
decreases-loop-at l = length l.bytes - l.at
