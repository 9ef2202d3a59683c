use Rattle.std.proofs.Common.{slice_index_or}
use Rattle.courier_types.specs.Shape.{ShapeModel}
use Rattle.courier_types.specs.Value.{ValueModel}
use Rattle.xns_c.specs.Cursor.{ahead, further_on}
use Rattle.xns_c.specs.Results.{ok}
use Rattle.xns_c.proofs.Spelled.{same_read, cardinal_read, cardinal_cut}
use Rattle.xns_c.proofs.reader.xns_read_cardinal.Goals as goal

pub returns-in_default-clause-read : goal.returns-in_default-clause-read
returns-in_default-clause-read c = λ _. same_read ShapeModel.cardinal c.ahead.result.now (ahead c.args.words.now c.args.cursor.now) c.args.cursor.now c.fail.new.self c.fail.result (ValueModel.cardinal c.args.value.now) c.ahead.ensures.words
    (cardinal_cut c.ahead.result.now c.args.cursor.now c.fail.new.self c.fail.result (ValueModel.cardinal c.args.value.now) c.in_default.len_below c.fail.ensures)

pub returns-clause-read : goal.returns-clause-read
returns-clause-read c = λ _. same_read ShapeModel.cardinal c.ahead.result.now (ahead c.args.words.now c.args.cursor.now) c.args.cursor.now (further_on c.args.cursor.now 1) ok (ValueModel.cardinal (slice_index_or c.ahead.result.now 0 0)) c.ahead.ensures.words
    (cardinal_read c.ahead.result.now c.args.cursor.now c.in-len1-up.len_at_least)
