use Rattle.std.proofs.Common.{◌≡◌, ◌∙◌, ap, sym, subst, arith, ℕ, ◌+◌, ◌-◌, ◌≤◌, List, ◌++◌, length, take, length-append}
use Rattle.std.proofs.Math.Seq.{take-append-add}
use Rattle.std.proofs.lemmas.List.{length-take, take-append-le}
use Rattle.std.specs.Io.KnownBytes.{Consumes}
use borrow.Rule.Slice.PartMut.{post_of, put_mid}
use Rattle.xns_lines.proofs.Writes.{consumes_trans}
use Rattle.xns_command.proofs.files.read_first.Goals as goal

-- what is read behind the first bytes
read_behind : (xs ys : List ℕ) (count k more : ℕ) → count ≤ length xs → more ≤ length ys
    → take (count + more) (put_mid count k xs ys) ≡ take count xs ++ take more ys
read_behind xs ys count k more within few =
    let e : count + more ≡ length (take count xs) + more = omega (arith, length-take count xs) in
    ap (λ n. take n (put_mid count k xs ys)) e
    ∙ take-append-add (take count xs) (ys ++ post_of count k xs) more
    ∙ ap (λ t. take count xs ++ t) (take-append-le more ys (post_of count k xs) few)

longer : (xs ys : List ℕ) (count k more : ℕ) → count ≤ length xs → more ≤ length ys → count + more ≤ length (put_mid count k xs ys)
longer xs ys count k more within few =
    omega (arith, length-append (take count xs) (ys ++ post_of count k xs), length-append ys (post_of count k xs), length-take count xs)

pub loop-count-preserved : goal.loop-count-preserved
loop-count-preserved g c =
    let so_far = c.loop-count.invariant in
    let few : c.in-Ok.more ≤ length c.read.new.buf = omega (arith, c.in-Ok.ensures.bound) in
    let xs = c.loop-count.first in
    let left = length xs - c.loop-count.count in (
      longer xs c.read.new.buf c.loop-count.count left c.in-Ok.more so_far.0 few,
      subst (Consumes (g.R.Read.remaining c.args.reader.now) (g.R.Read.remaining c.read.new.self))
          (sym (read_behind xs c.read.new.buf c.loop-count.count left c.in-Ok.more so_far.0 few))
          (consumes_trans _ _ _ _ _ so_far.1 c.in-Ok.ensures.bytes.0),
    )
