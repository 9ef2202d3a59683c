use Rattle.std.proofs.Common.{drop}
use Rattle.std.specs.List.{flat_map}
use Rattle.courier_texts.specs.Printing.{quoted_byte}
use Rattle.courier_texts.proofs.Appends.{SoFar}
use Rattle.courier_texts.proofs.printing.print_bytes.Given as goal

abbrev pub invariant-loop-byte : goal.invariant-loop-byte
invariant-loop-byte l = SoFar l.fn.out l.out (flat_map quoted_byte (drop l.byte-index l.bytes)) (flat_map quoted_byte l.bytes)
