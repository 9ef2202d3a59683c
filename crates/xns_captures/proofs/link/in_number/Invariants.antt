use Rattle.std.proofs.Common.{◌≡◌, length}
use Rattle.xns_captures.specs.Links.{behind_number}
use Rattle.xns_captures.proofs.link.in_number.Given as goal

-- the packet is that behind the type or length that was come to
abbrev pub invariant-loop-rest : goal.invariant-loop-rest
invariant-loop-rest l = behind_number l.kind l.rest ≡ behind_number l.fn.number l.fn.bytes

abbrev pub decreases-loop-rest : goal.decreases-loop-rest
decreases-loop-rest l = length l.rest
