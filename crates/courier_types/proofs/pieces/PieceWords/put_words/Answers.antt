use Rattle.std.proofs.Common.{ap, ℕ, length, arith}
use Rattle.courier_types.proofs.Taken.{put_all}
use Rattle.courier_types.proofs.pieces.PieceWords.put_words.Goals as goal

pub loop-word-smaller : goal.loop-word-smaller
loop-word-smaller c =
    let taken = ap (length {A = ℕ}) c.in-Some.ensures in
    omega (arith, taken, c.put_piece-at-in-Some.ensures.count, c.put_piece-at-in-Some.ensures.onwards)

pub returns : goal.returns
returns c =
    let l = c.loop-word in
    put_all l.buffer c.args.buffer.now l.source c.args.self l.at l.invariant.so_far c.in_default.ensures.0 l.invariant.count l.invariant.behind
