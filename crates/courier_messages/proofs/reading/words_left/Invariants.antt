use Rattle.std.proofs.Common.{◌≡◌, ◌≤◌, ◌+◌, ◌++◌, length, vec_len, vec_capacity}
use Rattle.courier_messages.proofs.reading.words_left.Given as goal

abbrev pub invariant-loop-word : goal.invariant-loop-word
invariant-loop-word g l = record {
  so_far : l.words.items ++ g.S.WordSource.words_left l.source ≡ g.S.WordSource.words_left l.fn.source;
  room : vec_len l.words + length (g.S.WordSource.words_left l.source) ≤ vec_capacity l.words;
}

abbrev pub decreases-loop-word : goal.decreases-loop-word
decreases-loop-word g l = length (g.S.WordSource.words_left l.source)
