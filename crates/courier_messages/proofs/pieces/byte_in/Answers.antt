use Rattle.std.proofs.Common.{◌∙◌, ◌+◌, ◌-◌, arith, ap, sym, drop, ℕ, List}
use Rattle.std.specs.Prelude.{slice_get}
use Rattle.std.proofs.lemmas.Option.{slice_get_read}
use Rattle.courier_types.specs.Pieces.{joined}
use Rattle.courier_messages.proofs.Joins.{byte_kept, byte_that_comes, joined_from}
use Rattle.courier_messages.proofs.pieces.byte_in.Goals as goal

pub returns-then-left-len : goal.returns-then-left-len
returns-then-left-len c =
    let piece = c.piece-item.result in
    let left = c.loop-piece.left in
    let front = joined_from c.args.pieces.now c.loop-piece.piece-index piece c.loop-piece-test.true c.piece-item.is in
    sym (slice_get_read piece.items c.len.result left c.index.result.now (omega (arith, c.len.ensures, piece.ok.0)) c.if-left-len.true c.index.ensures)
    ∙ sym (byte_kept piece.items (joined (drop (c.loop-piece.piece-index + 1) c.args.pieces.now)) left (omega (arith, c.if-left-len.true, c.len.ensures, piece.ok.0)))
    ∙ ap (λ (bytes : List ℕ). slice_get bytes left) (sym front)
    ∙ c.loop-piece.invariant

pub loop-piece-preserved : goal.loop-piece-preserved
loop-piece-preserved c =
    let piece = c.piece-item.result in
    let left = c.loop-piece.left in
    let front = joined_from c.args.pieces.now c.loop-piece.piece-index piece c.loop-piece-test.true c.piece-item.is in
    sym (byte_that_comes piece.items (joined (drop (c.loop-piece.piece-index + 1) c.args.pieces.now)) left (left - c.len-left.result) (omega (arith, c.if-left-len.false, c.len.ensures, c.len-left.ensures, piece.ok.0)))
    ∙ ap (λ (bytes : List ℕ). slice_get bytes left) (sym front)
    ∙ c.loop-piece.invariant
