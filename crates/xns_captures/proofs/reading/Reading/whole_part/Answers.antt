use Rattle.std.proofs.Common.{arith, sym}
use Rattle.xns_captures.proofs.Steps.{head_few, no_size, short_head, short_part, size_fits}
use Rattle.xns_captures.proofs.reading.Reading.whole_part.Goals as goal

pub returns-then-bytes-head-clause-none : goal.returns-then-bytes-head-clause-none
returns-then-bytes-head-clause-none c = λ _.
    short_head c.args.self.now.format c.args.self.now.interfaces.items c.args.bytes.now (omega (arith, c.head_bytes-head.ensures))

pub returns-in-Err-clause-err : goal.returns-in-Err-clause-err
returns-in-Err-clause-err c =
    let e = rw c.head_bytes-head.ensures at c.in-Err.ensures in
    no_size c.args.self.now.format c.args.self.now.interfaces.items c.args.bytes.now c.in-Err.fault (omega (arith, c.head_bytes-head.ensures)) (sym e)

pub returns-then-bytes-size-clause-none : goal.returns-then-bytes-size-clause-none
returns-then-bytes-size-clause-none c = λ _.
    let e = rw c.head_bytes-head.ensures at c.in-Ok.ensures in
    short_part c.args.self.now.format c.args.self.now.interfaces.items c.args.bytes.now c.in-Ok.size (omega (arith, c.head_bytes-head.ensures)) (sym e) c.if-bytes-size.true

pub returns-clause-some : goal.returns-clause-some
returns-clause-some c =
    let e = rw c.head_bytes-head.ensures at c.in-Ok.ensures in
    record { head = (size_fits _ _ _ (sym e)).0; of_head = sym e; fits = c.if-bytes-size.false }

pub returns-then-bytes-head-clause-few : goal.returns-then-bytes-head-clause-few
returns-then-bytes-head-clause-few c = λ _. omega (arith, c.head_bytes-head.ensures, head_few c.args.self.now.format)

pub returns-then-bytes-size-clause-few : goal.returns-then-bytes-size-clause-few
returns-then-bytes-size-clause-few c = λ _.
    let e = rw c.head_bytes-head.ensures at c.in-Ok.ensures in
    omega (arith, c.if-bytes-size.true, (size_fits _ _ _ (sym e)).1)
