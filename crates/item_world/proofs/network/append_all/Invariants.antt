use Rattle.std.proofs.Common.{◌≡◌, ◌≤◌, ◌+◌, vec_len, vec_capacity}
use Rattle.std.specs.Vec.Iter.{into_iter_len}
use Rattle.item_world.specs.World.{with_packets}
use Rattle.item_world.proofs.network.append_all.Given as goal

-- the packets so far have joined the bag, and there is room for the others
abbrev pub invariant-loop-bytes : goal.invariant-loop-bytes
invariant-loop-bytes l = record {
  joined : l.before.items ≡ with_packets l.fn.before.items l.side l.at l.yielded;
  room : vec_len l.before + into_iter_len l.bytes-iterator ≤ vec_capacity l.before;
}
