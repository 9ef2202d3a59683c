use Rattle.std.proofs.Common.{◌≡◌, ◌<◌, ◌∙◌, ◌++◌, ap, arith, sym, length, take, ◌+◌, ◌-◌, ◌≤◌}
use Rattle.std.proofs.lemmas.List.{length-take-le, with_items_is}
use Rattle.xns_captures.proofs.Windows.{length_written, read_behind}
use Rattle.xns_captures.proofs.window.Window.read_piece.Goals as goal

pub returns-clause-ok : goal.returns-clause-ok
returns-clause-ok g c =
    let filled = c.self.inside.filled in
    let count = c.in-Ok-read.count in
    let piece = c.read.new.buf in
    let room = c.deref_mut.result.now in
    let size = c.min-end.result - filled in
    let fits : filled + size ≤ length room = omega (arith, c.min-end.ensures, c.len.ensures, c.deref_mut.ensures.len, c.in-Ok.ensures.room) in
    let len : length piece ≡ size = omega (arith, fits, c.read.auto.buf) in
    let some : 0 < length piece = omega (arith, len, c.min-end.ensures, c.len.ensures, c.in-Ok.ensures.room) in
    let whole = with_items_is c.make_room.new.room _ (length_written room piece filled size len fits ∙ c.deref_mut.ensures.len) in
    let stays = ap (take filled) c.deref_mut.ensures.value ∙ c.in-Ok.ensures.kept ∙ ap (λ w. w.bytes) c.self.view_is in (
      take count piece,
      ap (take (filled + count)) whole ∙ read_behind room piece _ filled count (omega (arith, fits)) c.in-Ok-read.ensures.bound.0 ∙ ap (λ bytes. bytes ++ take count piece) stays,
      c.in-Ok-read.ensures.bytes.0,
      sym (length-take-le count piece c.in-Ok-read.ensures.bound.0),
      λ zero. c.in-Ok-read.ensures.bytes.1 zero some,
    )
