use Rattle.std.proofs.Common.{arith, refl}
use Rattle.xns_script.proofs.Numbers.{accepted, refused}
use Rattle.xns_script.proofs.words.read_number.Goals as goal

pub returns-then-not-may_be_decimal-clause-value : goal.returns-then-not-may_be_decimal-clause-value
returns-then-not-may_be_decimal-clause-value c = refused c.args.most c.args.word.now (omega arith) (λ d le. let t = c.if-not-may_be_decimal.ensures.1 d.1 in cc)

pub returns-in-None-clause-value : goal.returns-in-None-clause-value
returns-in-None-clause-value c = refused c.args.most c.args.word.now (omega arith) (λ d le. c.in-None.ensures.none d.0)

pub returns-then-number-from-clause-value : goal.returns-then-number-from-clause-value
returns-then-number-from-clause-value c = refused c.args.most c.args.word.now (omega arith) (λ d le. omega (arith, c.in-Some.ensures.some.1, le))

pub returns-else-number-from-clause-value : goal.returns-else-number-from-clause-value
returns-else-number-from-clause-value c =
    accepted c.args.most c.in-Some.number c.args.word.now (omega arith) c.in-Some.ensures.some.1 (c.in-Some.ensures.some.0, c.if-not-may_be_decimal.ensures.0 refl) (omega arith)
