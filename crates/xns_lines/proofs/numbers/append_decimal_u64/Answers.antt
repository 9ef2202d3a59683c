use Rattle.std.specs.Prelude.{OnErr}
use Rattle.std.proofs.Common.{arith, rules, subst, sym}
use Rattle.std.proofs.lemmas.Fmt.{decimal_digit}
use Rattle.xns_lines.specs.Report.{Adds, LacksRoom}
use Rattle.xns_lines.proofs.numbers.append_decimal_u64.Goals as goal

pub returns-then-number-lt10-clause-text : goal.returns-then-number-lt10-clause-text
returns-then-number-lt10-clause-text c =
    subst (λ text. Adds c.append.result c.args.report.now c.append.new.self text) (sym (decimal_digit c.args.number (omega arith))) c.append.ensures.text

pub returns-then-number-lt10-clause-memory : goal.returns-then-number-lt10-clause-memory
returns-then-number-lt10-clause-memory c =
    subst (λ text. OnErr c.append.result (LacksRoom c.args.report.now text)) (sym (decimal_digit c.args.number (omega arith))) c.append.ensures.memory

pub returns : goal.returns
returns c = search rules
