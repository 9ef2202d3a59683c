use Rattle.std.proofs.Common.{arith, ◌∙◌, ◌++◌, ◌*◌, ◌/◌, ◌≡◌, ap, length}
use Rattle.std.proofs.lemmas.List.{length-drop}
use Rattle.xns_lines.proofs.WordsInHex.{room_cut}
use Rattle.xns_lines.proofs.digits.append_spaced.Goals as goal

pub returns-clause-ok : goal.returns-clause-ok
returns-clause-ok c =
    let grown = c.as_mut_slice.ensures.value ∙ c.in_ok-resize.ensures.items in
    let held : length c.as_mut_slice.result.now ≡ c.in-Some-checked_add.end = omega (arith, ap length c.as_mut_slice.ensures.value, c.as_mut_slice.ensures.len, c.in_ok-resize.ensures.len, c.resize.new.self.ok.0) in
    let left = length-drop c.len-start.result c.as_mut_slice.result.now in
    let room : length c.write_spaced.new.room ≡ 9 * (length c.args.bytes.now / 2) = omega (arith, held, left, c.write_spaced.auto.room) in
    room_cut c.args.text.now.items c.as_mut_slice.result.now _ _ c.write_spaced.new.room _ _ c.len-start.result c.in-Some-checked_add.end c.resize.new.self.len (5 * (length c.args.bytes.now / 2))
    (omega arith) (omega arith) grown (omega (arith, room)) (omega (arith, held, c.in_ok-resize.ensures.len)) c.truncate.ensures.items
    ∙ ap (λ l. c.args.text.now.items ++ l) c.write_spaced.ensures
