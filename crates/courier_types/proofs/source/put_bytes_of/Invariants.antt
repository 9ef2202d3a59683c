use Rattle.std.proofs.Common.{◌≡◌, ◌≤◌, ◌++◌, ◌+◌, ◌*◌, length, vec_len, vec_capacity}
use Rattle.courier_types.specs.Source.{bytes_of}
use Rattle.courier_types.proofs.source.put_bytes_of.Given as goal

abbrev pub invariant-loop-rest : goal.invariant-loop-rest
invariant-loop-rest l = record {
  taken : l.bytes.items ++ bytes_of l.rest ≡ l.fn.bytes.items ++ bytes_of l.words;
  room : vec_len l.bytes + 2 * length l.rest ≤ vec_capacity l.bytes;
}

abbrev pub decreases-loop-rest : goal.decreases-loop-rest
decreases-loop-rest l = length l.rest
