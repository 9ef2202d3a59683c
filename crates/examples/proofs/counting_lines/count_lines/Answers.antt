use Rattle.std.specs.Prelude.{None, refl}
use Rattle.examples.proofs.counting_lines.count_lines.Goals as goal

pub returns : goal.returns
returns c = c.in_ok-take_lines.ensures.ok.2 None refl
