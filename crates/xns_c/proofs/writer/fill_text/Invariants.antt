use Rattle.std.proofs.Common.{◌≡◌, ◌∷◌, ◌++◌, ◌+◌, length, take}
use Rattle.courier_types.specs.Spelling.{bytes_spelling}
use Rattle.xns_c.proofs.writer.fill_text.Given as goal

abbrev pub invariant-loop-rest : goal.invariant-loop-rest
invariant-loop-rest l = record {
  put : take l.place l.words ++ bytes_spelling l.rest ≡ length l.bytes ∷ bytes_spelling l.bytes;
  count : l.place + length (bytes_spelling l.rest) ≡ length l.words;
}

abbrev pub decreases-loop-rest : goal.decreases-loop-rest
decreases-loop-rest l = length l.rest
