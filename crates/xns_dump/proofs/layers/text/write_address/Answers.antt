use Rattle.std.proofs.Common.{◌≡◌, ◌∙◌, ap, sym, refl, arith, ℕ, ◌-◌, List, ◌++◌, length, slice_set, take, drop, length-append}
use Rattle.std.specs.Prelude.{codes}
use Rattle.std.proofs.lemmas.List.{length-drop, length-set, length-take-le}
use Rattle.std.proofs.Math.Seq.{take-append_seam}
use borrow.Rule.Slice.PartMut.{put_mid}
use Rattle.xns_dump.specs.Layers.Text.{address_text}
use Rattle.xns_dump.proofs.Filled.{all_written, byte_written, length-put, part_written}
use Rattle.xns_dump.proofs.layers.text.write_address.Goals as goal

written : (text network host socket : List ℕ) (k : ℕ) → length text ≡ 26 → length network ≡ 8 → length host ≡ 12 → length socket ≡ k
    → k ≡ length (slice_set (put_mid 9 12 (slice_set (network ++ drop 8 text) 8 46) host) 21 46) - 22
    → put_mid 22 k (slice_set (put_mid 9 12 (slice_set (network ++ drop 8 text) 8 46) host) 21 46) socket
    ≡ network ++ codes "." ++ host ++ codes "." ++ socket
written text network host socket k et en eh es ek =
    let front : List ℕ = network ++ drop 8 text in
    let dot : List ℕ = slice_set front 8 46 in
    let middle : List ℕ = put_mid 9 12 dot host in
    let last : List ℕ = slice_set middle 21 46 in
    let l1 : length front ≡ 26 = omega (arith, et, en, length-append network (drop 8 text), length-drop 8 text) in
    let l2 : length dot ≡ 26 = length-set front 8 46 ∙ l1 in
    let l3 : length middle ≡ 26 = length-put dot host 9 12 (omega (arith, l2)) eh ∙ l2 in
    let l4 : length last ≡ 26 = length-set middle 21 46 ∙ l3 in
    let l5 : length (put_mid 22 k last socket) ≡ 26 = length-put last socket 22 k (omega (arith, l4, ek)) es ∙ l4 in
    let s1 : take 8 front ≡ network = ap (λ (n : ℕ). take n front) (sym en) ∙ take-append_seam network (drop 8 text) in
    let s2 = byte_written front network 8 46 9 (omega (arith, l1)) refl s1 in
    let s3 = part_written dot (network ++ codes ".") host 9 12 21 (omega (arith, l2)) eh refl s2 in
    let s4 = byte_written middle (network ++ codes "." ++ host) 21 46 22 (omega (arith, l3)) refl s3 in
    let s5 = part_written last (network ++ codes "." ++ host ++ codes ".") socket 22 k 26 (omega (arith, l4, ek)) es (omega (arith, l4, ek)) s4 in
    all_written (put_mid 22 k last socket) (network ++ codes "." ++ host ++ codes "." ++ socket) 26 (omega (arith, l5)) s5

pub returns : goal.returns
unfolding address_text
returns c =
    written c.args.text.now c.write_few_digits.new.digits c.write_few_digits-2.new.digits c.write_few_digits-3.new.digits _ c.requires (omega (arith, length-take-le 8 c.args.text.now (omega (arith, c.requires)))) (omega arith) (omega arith) refl
    ∙ rw (c.write_few_digits.ensures, c.write_few_digits-2.ensures, c.write_few_digits-3.ensures, c.to_be_bytes.ensures, c.to_be_bytes-2.ensures) refl
