use Rattle.std.proofs.Common.{◌≡◌, ◌∙◌, ap, sym, arith, Ok}
use Rattle.std.proofs.lemmas.Result.{err_from_is_err_and}
use Rattle.courier_types.specs.AnyWord.{shape_of}
use Rattle.courier_types.specs.Value.{ValueModel, value_model}
use Rattle.courier_types.specs.Memory.{ElementsWant}
use Rattle.courier_types.specs.Reading.{reading_times, reading}
use Rattle.courier_types.proofs.Loops.{times_more, times_end, times_done, any_is, any_fails, word_there}
use Rattle.courier_types.proofs.reading.read_words.Goals as goal

pub returns-in_err-word : goal.returns-in_err-word
returns-in_err-word g c =
    let p = err_from_is_err_and c.from_residual-in_err-word.result c.from_residual-in_err-word.ensures.1 in
    let words = g.S.WordSource.words_left in
    let one = reading (shape_of c.args.kind) in
    rw (p.1, p.2) (times_end ⊥ (ElementsWant c.args.count (words c.args.source.now)) c.in_err-word.field-0.0 one c.loop.values.items c.args.count c.loop.counter (words c.loop.source) (reading_times one c.args.count (words c.args.source.now)) c.loop-test.true (λ (x : ⊥). absurd x) (any_fails c.args.kind c.in_err-word.field-0.0 (words c.loop.source) c.in_err-word.ensures) c.loop.invariant.so_far)

pub returns : goal.returns
returns g c =
    let words = g.S.WordSource.words_left in
    let one = reading (shape_of c.args.kind) in
    times_done one c.loop.values.items c.args.count c.loop.counter (words c.loop.source) (reading_times one c.args.count (words c.args.source.now)) c.loop-test.false c.loop.invariant.so_far

pub loop-preserved : goal.loop-preserved
loop-preserved g c =
    let words = g.S.WordSource.words_left in
    let one = reading (shape_of c.args.kind) in
    let w = c.in_ok-word.word in
    let after = words c.read_word.new.source in
    let there = word_there (words c.loop.source) w after c.in_ok-word.ensures in
    let h : one (words c.loop.source) ≡ Ok (value_model c.value.result, after) = any_is c.args.kind (words c.loop.source) w after c.in_ok-word.ensures ∙ ap (λ (v : ValueModel). Ok (v, after)) (sym c.value.ensures) in
    let more = times_more one c.loop.values.items c.value.result c.args.count c.loop.counter (words c.loop.source) after (reading_times one c.args.count (words c.args.source.now)) c.loop-test.true h c.loop.invariant.so_far in
    record {
      so_far = rw c.push_reserved.ensures.items more;
      read = omega (arith, c.push_reserved.ensures.len, c.loop.invariant.read);
      left = omega (arith, there, c.loop.invariant.left);
      room = omega (arith, c.push_reserved.ensures.capacity, c.loop.invariant.room);
    }
