use Rattle.std.proofs.Common.{◌≡◌, ◌+◌, ◌++◌, drop, length, vec_len, vec_capacity}
use Rattle.courier_types.specs.Source.{bytes_of}
use Rattle.courier_messages.proofs.writing.put_words.Given as goal

abbrev pub invariant-loop-word : goal.invariant-loop-word
invariant-loop-word l = record {
  written : l.out.items ++ bytes_of (drop l.word-index l.words) ≡ l.fn.out.items ++ bytes_of l.words;
  len : vec_len l.out + length (bytes_of (drop l.word-index l.words)) ≡ vec_len l.fn.out + length (bytes_of l.words);
  capacity : vec_capacity l.out ≡ vec_capacity l.fn.out;
}
