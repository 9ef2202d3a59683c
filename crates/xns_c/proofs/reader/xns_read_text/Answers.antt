use Rattle.std.proofs.Common.{◌∙◌, ◌++◌, ◌-◌, ℕ, List, length, take, drop, ap, sym, refl, arith}
use Rattle.courier_types.specs.Value.{ValueModel}
use Rattle.xns_c.specs.Cursor.{ahead, further_on}
use Rattle.xns_c.proofs.Texts.{text_told, text_sound, text_cut, text_none, same_filled}
use Rattle.xns_c.proofs.reader.xns_read_text.Goals as goal

pub returns-in_default-clause-read : goal.returns-in_default-clause-read
returns-in_default-clause-read c = λ bytes taken _ e _. absurd (text_none c.ahead.result.now (ahead c.args.words.now c.args.cursor.now) c.ahead.ensures.words c.in_default.len_below (ValueModel.text bytes, taken) e)

pub returns-in_default-clause-short : goal.returns-in_default-clause-short
returns-in_default-clause-short c = λ bytes taken _ e _. absurd (text_none c.ahead.result.now (ahead c.args.words.now c.args.cursor.now) c.ahead.ensures.words c.in_default.len_below (ValueModel.text bytes, taken) e)

pub returns-then-others-wanted-clause-read : goal.returns-then-others-wanted-clause-read
returns-then-others-wanted-clause-read c = λ bytes taken _ e _.
    absurd (text_cut c.ahead.result.now (ahead c.args.words.now c.args.cursor.now) c.from-count.result c.ahead.ensures.words c.in-len1-up.len_at_least c.from-count.ensures c.if-others-wanted.true (ValueModel.text bytes, taken) e)

pub returns-then-others-wanted-clause-short : goal.returns-then-others-wanted-clause-short
returns-then-others-wanted-clause-short c = λ bytes taken _ e _.
    absurd (text_cut c.ahead.result.now (ahead c.args.words.now c.args.cursor.now) c.from-count.result c.ahead.ensures.words c.in-len1-up.len_at_least c.from-count.ensures c.if-others-wanted.true (ValueModel.text bytes, taken) e)

pub returns-then-text-count-clause-read : goal.returns-then-text-count-clause-read
returns-then-text-count-clause-read c = λ bytes taken _ e room.
    let told = text_told c.ahead.result.now (ahead c.args.words.now c.args.cursor.now) c.from-count.result c.ahead.ensures.words c.in-len1-up.len_at_least c.from-count.ensures c.if-others-wanted.false bytes taken e in
    absurd (omega (arith, room, told.0, c.if-text-count.true))

pub returns-then-text-count-clause-short : goal.returns-then-text-count-clause-short
returns-then-text-count-clause-short c = λ bytes taken _ e _.
    let told = text_told c.ahead.result.now (ahead c.args.words.now c.args.cursor.now) c.from-count.result c.ahead.ensures.words c.in-len1-up.len_at_least c.from-count.ensures c.if-others-wanted.false bytes taken e in
    (refl, sym told.0, refl)

pub returns-then-text-count-clause-cut : goal.returns-then-text-count-clause-cut
returns-then-text-count-clause-cut c = λ fault _ e.
    absurd (text_sound c.ahead.result.now (ahead c.args.words.now c.args.cursor.now) c.from-count.result c.ahead.ensures.words c.in-len1-up.len_at_least c.from-count.ensures c.if-others-wanted.false fault e)

pub returns-clause-read : goal.returns-clause-read
returns-clause-read c = λ bytes taken _ e _.
    let told = text_told c.ahead.result.now (ahead c.args.words.now c.args.cursor.now) c.from-count.result c.ahead.ensures.words c.in-len1-up.len_at_least c.from-count.ensures c.if-others-wanted.false bytes taken e in
    let filled = same_filled (take (length c.ahead.result.now - 1) (drop 1 c.ahead.result.now)) c.args.text.now c.fill_bytes.new.bytes bytes c.from-count.result c.if-text-count.false c.fill_bytes.ensures told.2 in
    (refl, (sym told.0, ap (λ (l : List ℕ). l ++ drop c.from-count.result c.args.text.now) filled ∙ ap (λ (n : ℕ). bytes ++ drop n c.args.text.now) (sym told.0)), ap (further_on c.args.cursor.now) (sym told.1))

pub returns-clause-short : goal.returns-clause-short
returns-clause-short c = λ bytes taken _ e more.
    let told = text_told c.ahead.result.now (ahead c.args.words.now c.args.cursor.now) c.from-count.result c.ahead.ensures.words c.in-len1-up.len_at_least c.from-count.ensures c.if-others-wanted.false bytes taken e in
    absurd (omega (arith, more, told.0, c.if-text-count.false))

pub returns-clause-cut : goal.returns-clause-cut
returns-clause-cut c = λ fault _ e.
    absurd (text_sound c.ahead.result.now (ahead c.args.words.now c.args.cursor.now) c.from-count.result c.ahead.ensures.words c.in-len1-up.len_at_least c.from-count.ensures c.if-others-wanted.false fault e)
