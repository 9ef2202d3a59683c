use Rattle.std.proofs.Common.{◌≡◌, ◌++◌, ◌+◌, ◌*◌, ◌/◌, length, take}
use Rattle.courier_types.specs.Source.{bytes_of}
use Rattle.xns_c.proofs.reader.fill_bytes.Given as goal

abbrev pub invariant-loop-rest : goal.invariant-loop-rest
invariant-loop-rest l = record {
  put : take l.place l.bytes ++ bytes_of l.rest ≡ bytes_of (take (length l.bytes / 2) l.words);
  count : l.place + 2 * length l.rest ≡ 2 * (length l.bytes / 2);
}

abbrev pub decreases-loop-rest : goal.decreases-loop-rest
decreases-loop-rest l = length l.rest
