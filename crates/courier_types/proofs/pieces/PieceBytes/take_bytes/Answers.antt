use Rattle.std.proofs.Common.{subst, ◌≡◌, ◌≤◌, ◌+◌, ◌++◌, ◌-◌, List, ℕ, drop, length, take, vec_capacity, vec_len, arith}
use Rattle.std.proofs.lemmas.Grind.{common_steps}
use Rattle.courier_types.specs.Pieces.{joined}
use Rattle.courier_types.proofs.Taken.{extended, pieces_next, take_step, drop_step, enough_step}
use Rattle.courier_types.proofs.pieces.PieceBytes.take_bytes.Goals as goal

pub loop-self-preserved : goal.loop-self-preserved
loop-self-preserved c =
    let l = c.loop-self in
    let front = l.self.front.now in
    let piece = c.piece-item.result in
    let next = pieces_next l.self.later.now piece c.in-len1-up.len_at_least c.piece-item.is in
    let back = piece.items ++ joined (take (length l.self.later.now - 1) (drop 1 l.self.later.now)) in
    let all = c.args.self.now.front.now ++ joined c.args.self.now.later.now in
    let le : length front ≤ l.wanted = omega (arith, c.if-wanted-self.false) in
    let taken = subst (λ (b : List ℕ). l.bytes.items ++ take l.wanted (front ++ b) ≡ c.args.bytes.now.items ++ take c.args.count all) next l.invariant.taken in
    let left = subst (λ (b : List ℕ). drop l.wanted (front ++ b) ≡ drop c.args.count all) next l.invariant.left in
    let enough = subst (λ (b : List ℕ). l.wanted ≤ length (front ++ b)) next l.invariant.enough in
    let bytes = l.bytes in
    let put = c.extend_from_slice-room_is_there in
    let room : vec_len bytes + length front ≤ vec_capacity bytes = omega (arith, le, l.invariant.room) in
    let items = extended put.result (vec_capacity bytes) (vec_len bytes) (length front) put.new.self.items (bytes.items ++ front) bytes.items room put.ensures.full put.ensures.items in
    let len = extended put.result (vec_capacity bytes) (vec_len bytes) (length front) (vec_len put.new.self) (vec_len bytes + length front) (vec_len bytes) room put.ensures.full put.ensures.len in
    rw (c.as_slice-self.ensures.value, items) (record {
      taken = take_step bytes.items front back (c.args.bytes.now.items ++ take c.args.count all) l.wanted le taken;
      left = drop_step front back (drop c.args.count all) l.wanted le left;
      enough = enough_step front back l.wanted le enough;
      room = omega (arith, le, len, put.ensures.capacity, l.invariant.room);
    })

pub returns-clause-items : goal.returns-clause-items
returns-clause-items c = grind (arith, common_steps)

pub split_at-requires : goal.split_at-requires
split_at-requires c = grind (arith, common_steps)

pub returns-clause-left : goal.returns-clause-left
returns-clause-left c = grind (arith, common_steps)
