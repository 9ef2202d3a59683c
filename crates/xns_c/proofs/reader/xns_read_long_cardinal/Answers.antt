use Rattle.std.proofs.Common.{◌+◌, ◌*◌, ◌∙◌, ℕ, ap, slice_index_or}
use Rattle.courier_types.specs.Shape.{ShapeModel}
use Rattle.courier_types.specs.Value.{ValueModel}
use Rattle.xns_c.specs.Cursor.{ahead, further_on}
use Rattle.xns_c.specs.Results.{ok}
use Rattle.xns_c.proofs.Spelled.{same_read, long_cardinal_read, long_cardinal_cut}
use Rattle.xns_c.proofs.reader.xns_read_long_cardinal.Goals as goal

pub returns-in_default-clause-read : goal.returns-in_default-clause-read
returns-in_default-clause-read c = λ _. same_read ShapeModel.long_cardinal c.ahead.result.now (ahead c.args.words.now c.args.cursor.now) c.args.cursor.now c.fail.new.self c.fail.result (ValueModel.long_cardinal c.args.value.now) c.ahead.ensures.words
    (long_cardinal_cut c.ahead.result.now c.args.cursor.now c.fail.new.self c.fail.result (ValueModel.long_cardinal c.args.value.now) c.in_default.len_below c.fail.ensures)

pub returns-clause-read : goal.returns-clause-read
returns-clause-read c = λ _. same_read ShapeModel.long_cardinal c.ahead.result.now (ahead c.args.words.now c.args.cursor.now) c.args.cursor.now (further_on c.args.cursor.now 2) ok (ValueModel.long_cardinal (c.from.result * 65536 + c.from-2.result)) c.ahead.ensures.words
    (long_cardinal_read c.ahead.result.now c.args.cursor.now (c.from.result * 65536 + c.from-2.result) c.in-len2-up.len_at_least
    (ap (λ (high : ℕ). high * 65536 + c.from-2.result) c.from.ensures ∙ ap (λ (low : ℕ). slice_index_or c.ahead.result.now 0 0 * 65536 + low) c.from-2.ensures))
