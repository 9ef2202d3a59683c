use Rattle.std.proofs.Common.{◌≡◌, ◌∙◌, ap, sym, refl, arith, ℕ, ◌-◌, List, ◌++◌, length, take, drop, length-append}
use Rattle.std.proofs.lemmas.List.{length-drop, length-take-le}
use Rattle.std.proofs.Math.Seq.{take-append_seam}
use borrow.Rule.Slice.PartMut.{put_mid}
use Rattle.xns_dump.proofs.Filled.{all_written, length-put, part_written}
use Rattle.xns_calls.proofs.texts.write_end.Goals as goal

written : (text address name identifier : List ℕ) (k : ℕ) → length text ≡ 34 → length address ≡ 26 → length name ≡ 4 → length identifier ≡ k
    → k ≡ length (put_mid 26 4 (address ++ drop 26 text) name) - 30
    → put_mid 30 k (put_mid 26 4 (address ++ drop 26 text) name) identifier ≡ address ++ name ++ identifier
written text address name identifier k et ea en ei ek =
    let front : List ℕ = address ++ drop 26 text in
    let named : List ℕ = put_mid 26 4 front name in
    let l1 : length front ≡ 34 = omega (arith, et, ea, length-append address (drop 26 text), length-drop 26 text) in
    let l2 : length named ≡ 34 = length-put front name 26 4 (omega (arith, l1)) en ∙ l1 in
    let l3 : length (put_mid 30 k named identifier) ≡ 34 = length-put named identifier 30 k (omega (arith, l2, ek)) ei ∙ l2 in
    let s1 : take 26 front ≡ address = ap (λ (n : ℕ). take n front) (sym ea) ∙ take-append_seam address (drop 26 text) in
    let s2 = part_written front address name 26 4 30 (omega (arith, l1)) en refl s1 in
    let s3 = part_written named (address ++ name) identifier 30 k 34 (omega (arith, l2, ek)) ei (omega (arith, l2, ek)) s2 in
    all_written (put_mid 30 k named identifier) (address ++ name ++ identifier) 34 (omega (arith, l3)) s3

pub slice_bounds-write_address-end-2 : goal.slice_bounds-write_address-end-2
slice_bounds-write_address-end-2 c = omega (arith, c.requires, length-take-le 26 c.args.text.now (omega (arith, c.requires)))

pub returns : goal.returns
returns c =
    written c.args.text.now c.write_address.new.text c.copy_from_slice.new.self c.write_few_digits.new.digits _ c.requires (omega (arith, length-take-le 26 c.args.text.now (omega (arith, c.requires)))) (ap length c.copy_from_slice.ensures.after) (omega arith) refl
    ∙ rw (c.write_address.ensures, c.copy_from_slice.ensures.after, c.write_few_digits.ensures, c.to_be_bytes.ensures) refl
