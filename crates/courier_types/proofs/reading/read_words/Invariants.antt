use Rattle.std.proofs.Common.{◌≡◌, ◌≤◌, ◌+◌, ◌-◌, min, length, vec_len, vec_capacity}
use Rattle.courier_types.specs.Reading.{reading_times, reading}
use Rattle.courier_types.specs.AnyWord.{shape_of}
use Rattle.courier_types.proofs.Loops.{with_values}
use Rattle.courier_types.proofs.reading.read_words.Given as goal

abbrev pub invariant-loop : goal.invariant-loop
invariant-loop g l = record {
  so_far : with_values l.values.items (reading_times (reading (shape_of l.kind)) (l.count - l.counter) (g.S.WordSource.words_left l.source)) ≡ reading_times (reading (shape_of l.kind)) l.count (g.S.WordSource.words_left l.fn.source);
  read : vec_len l.values ≡ l.counter;
  left : length (g.S.WordSource.words_left l.source) + l.counter ≡ length (g.S.WordSource.words_left l.fn.source);
  room : min l.count (length (g.S.WordSource.words_left l.fn.source)) ≤ vec_capacity l.values;
}
