use Rattle.std.proofs.Common.{refl}
use Rattle.xns_lines.proofs.Cutting.{cut_nothing}
use Rattle.xns_lines.proofs.cutter.Cutter.new.Goals as goal

pub returns-in-Ok-clause-ok : goal.returns-in-Ok-clause-ok
returns-in-Ok-clause-ok c = cut_nothing c.args.most _ refl c.in-Ok.ensures.items refl
