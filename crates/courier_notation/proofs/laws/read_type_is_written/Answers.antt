use Rattle.courier_notation.proofs.Sound.{type_takes}
use Rattle.courier_notation.proofs.laws.read_type_is_written.Goals as goal

pub returns : goal.returns
returns c = λ depth ts type rest e.
    let t = type_takes depth ts type rest e in
    (t.0.parts, t.1)
