use Rattle.std.proofs.Common.{◌∙◌, ◌^◌, ap, arith, subst, sym, ◌<◌, Some}
use Rattle.xns_captures.proofs.Resolutions.{binary_units, decimal_units, no_units_behind, no_units_between, ten_pos}
use Rattle.xns_captures.proofs.frame_time.units_of_second.Goals as goal

pub returns-then-resolution-lt20-clause-units : goal.returns-then-resolution-lt20-clause-units
returns-then-resolution-lt20-clause-units c =
    ap Some (c.pow.ensures ∙ ap (λ e. 10 ^ e) c.from.ensures) ∙ sym (decimal_units c.args.resolution (omega (arith, c.if-resolution-lt20.true)))

pub returns-then-resolution-lt-BINARY-clause-units : goal.returns-then-resolution-lt-BINARY-clause-units
returns-then-resolution-lt-BINARY-clause-units c =
    sym (no_units_between c.args.resolution (omega (arith, c.if-resolution-lt20.false)) (omega (arith, c.if-resolution-lt-BINARY.true)))

pub returns-then-resolution-clause-units : goal.returns-then-resolution-clause-units
returns-then-resolution-clause-units c = sym (no_units_behind c.args.resolution (omega (arith, c.if-resolution.true)))

pub returns-clause-units : goal.returns-clause-units
returns-clause-units c =
    sym (binary_units c.args.resolution (omega (arith, c.if-resolution-lt-BINARY.false)) (omega (arith, c.if-resolution.false)))

pub returns-then-resolution-lt20-clause-some : goal.returns-then-resolution-lt20-clause-some
returns-then-resolution-lt20-clause-some c = subst (λ n. 0 < n) (sym c.pow.ensures) (ten_pos c.from.result)
