use Rattle.std.proofs.Common.{sym, arith, ◌∙◌}
use Rattle.courier_notation.proofs.Skipping.{none, last_skipped, last_stands}
use Rattle.courier_notation.proofs.lexemes.behind_last.Goals as goal

pub returns-then-rest-eq0 : goal.returns-then-rest-eq0
returns-then-rest-eq0 c = sym (none c.args.is_comment c.args.rest.now (omega arith))

pub returns-then-is_passed : goal.returns-then-is_passed
returns-then-is_passed c = c.split_at.ensures.back ∙ sym (last_skipped c.args.is_comment c.args.rest.now (omega arith) (sym c.if-is_passed.ensures))

pub returns : goal.returns
returns c = sym (last_stands c.args.is_comment c.args.rest.now (omega arith) (sym c.if-is_passed.ensures))
