use Rattle.std.proofs.Common.{slice_index_or}
use Rattle.courier_types.specs.Shape.{ShapeModel}
use Rattle.courier_types.specs.Value.{ValueModel}
use Rattle.xns_c.specs.Cursor.{ahead, further_on}
use Rattle.xns_c.specs.Given.{is_yes}
use Rattle.xns_c.specs.Results.{ok}
use Rattle.xns_c.proofs.Spelled.{same_read, boolean_read, boolean_wrong, boolean_cut}
use Rattle.xns_c.proofs.reader.xns_read_boolean.Goals as goal

pub returns-in-empty-clause-read : goal.returns-in-empty-clause-read
returns-in-empty-clause-read c = λ _. same_read ShapeModel.boolean c.ahead.result.now (ahead c.args.words.now c.args.cursor.now) c.args.cursor.now c.fail.new.self c.fail.result (ValueModel.boolean (is_yes c.args.value.now)) c.ahead.ensures.words
    (boolean_cut c.ahead.result.now c.args.cursor.now c.fail.new.self c.fail.result (ValueModel.boolean (is_yes c.args.value.now)) c.in-empty.len_below c.fail.ensures)

pub returns-in-len1-up-clause-read : goal.returns-in-len1-up-clause-read
returns-in-len1-up-clause-read c = λ _. same_read ShapeModel.boolean c.ahead.result.now (ahead c.args.words.now c.args.cursor.now) c.args.cursor.now (further_on c.args.cursor.now 1) ok (ValueModel.boolean (is_yes (slice_index_or c.ahead.result.now 0 0))) c.ahead.ensures.words
    (boolean_read c.ahead.result.now c.args.cursor.now c.in-len1-up.len_at_least c.if-word-le1.true)

pub returns-in-len1-up-2-clause-read : goal.returns-in-len1-up-2-clause-read
returns-in-len1-up-2-clause-read c = λ _. same_read ShapeModel.boolean c.ahead.result.now (ahead c.args.words.now c.args.cursor.now) c.args.cursor.now c.fail-in-len1-up-2.new.self c.fail-in-len1-up-2.result (ValueModel.boolean (is_yes c.args.value.now)) c.ahead.ensures.words
    (boolean_wrong c.ahead.result.now c.args.cursor.now c.fail-in-len1-up-2.new.self c.fail-in-len1-up-2.result (ValueModel.boolean (is_yes c.args.value.now)) c.in-len1-up.len_at_least c.if-word-le1.false c.fail-in-len1-up-2.ensures)
