use Rattle.std.proofs.Common.{true, false, length, sym, ◌∙◌, arith}
use Rattle.courier_notation.proofs.Fronts.{split_is}
use Rattle.courier_notation.proofs.lexemes.front_and_rest.Goals as goal

pub returns-then-not-passes-clause-front : goal.returns-then-not-passes-clause-front
returns-then-not-passes-clause-front g c test decides =
    c.split_at.ensures.front ∙ sym (split_is test c.args.bytes.now c.loop-i.i (λ k h. decides _ true (c.loop-i.invariant k h)) (omega arith) (λ h. decides _ false c.if-not-passes.ensures)).0

pub returns-then-not-passes-clause-rest : goal.returns-then-not-passes-clause-rest
returns-then-not-passes-clause-rest g c test decides =
    c.split_at.ensures.back ∙ sym (split_is test c.args.bytes.now c.loop-i.i (λ k h. decides _ true (c.loop-i.invariant k h)) (omega arith) (λ h. decides _ false c.if-not-passes.ensures)).1

pub returns-clause-front : goal.returns-clause-front
returns-clause-front g c test decides =
    c.split_at-2.ensures.front ∙ sym (split_is test c.args.bytes.now (length c.args.bytes.now) (λ k h. decides _ true (c.loop-i.invariant k (omega arith))) (omega arith) (λ h. absurd (omega arith))).0

pub returns-clause-rest : goal.returns-clause-rest
returns-clause-rest g c test decides =
    c.split_at-2.ensures.back ∙ sym (split_is test c.args.bytes.now (length c.args.bytes.now) (λ k h. decides _ true (c.loop-i.invariant k (omega arith))) (omega arith) (λ h. absurd (omega arith))).1
