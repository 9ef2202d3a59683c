use Rattle.std.proofs.Common.{rules, arith, length-drop}
use Rattle.std.proofs.lemmas.Fmt.{length-decimal-le}
use Rattle.xns_calls.proofs.line_end.LineEnd.write_decimal.Goals as goal

pub write_digits-self-inside-requires : goal.write_digits-self-inside-requires
write_digits-self-inside-requires c =
    search (rules, length-decimal-le 20 c.args.number (omega arith) (omega arith) (omega arith), length-drop)

pub returns-clause-bound : goal.returns-clause-bound
returns-clause-bound c =
    search (rules, length-decimal-le 20 c.args.number (omega arith) (omega arith) (omega arith), length-drop)
