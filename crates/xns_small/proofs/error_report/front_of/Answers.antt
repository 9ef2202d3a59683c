use Rattle.std.proofs.Common.{sym, arith}
use Rattle.std.proofs.lemmas.List.{take_all, length-take}
use Rattle.xns_small.proofs.error_report.front_of.Goals as goal

pub returns-then-quoted-le-QUOTED-clause-front : goal.returns-then-quoted-le-QUOTED-clause-front
returns-then-quoted-le-QUOTED-clause-front c = sym (take_all 42 c.args.quoted.now c.if-quoted-le-QUOTED.true)

pub slice_bounds-result-end : goal.slice_bounds-result-end
slice_bounds-result-end c = omega (arith, length-take 42 c.args.quoted.now, c.if-quoted-le-QUOTED.false)

pub returns-clause-short : goal.returns-clause-short
returns-clause-short c = omega (arith, length-take 42 c.args.quoted.now)
