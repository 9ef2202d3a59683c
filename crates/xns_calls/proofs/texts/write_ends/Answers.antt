use Rattle.std.proofs.Common.{◌≡◌, ◌∙◌, ap, sym, refl, arith, ℕ, List, ◌++◌, length, slice_set, take, drop, length-append, append_assoc}
use Rattle.std.specs.Prelude.{codes}
use Rattle.std.proofs.lemmas.List.{length-drop, length-set}
use Rattle.std.proofs.Math.Seq.{take-append_seam}
use borrow.Rule.Slice.PartMut.{put_mid}
use Rattle.xns_dump.proofs.Filled.{all_written, byte_written, length-put, part_written}
use Rattle.xns_calls.specs.Texts.{end_text}
use Rattle.xns_calls.proofs.texts.write_ends.Goals as goal

written : (text to target from source : List ℕ) → length text ≡ 84 → length to ≡ 9 → length target ≡ 34 → length from ≡ 6 → length source ≡ 34
    → slice_set (put_mid 49 34 (put_mid 43 6 (put_mid 9 34 (to ++ drop 9 text) target) from) source) 83 10 ≡ to ++ target ++ from ++ source ++ codes "\n"
written text to target from source et e1 e2 e3 e4 =
    let a : List ℕ = to ++ drop 9 text in
    let b : List ℕ = put_mid 9 34 a target in
    let c : List ℕ = put_mid 43 6 b from in
    let d : List ℕ = put_mid 49 34 c source in
    let la : length a ≡ 84 = omega (arith, et, e1, length-append to (drop 9 text), length-drop 9 text) in
    let lb : length b ≡ 84 = length-put a target 9 34 (omega (arith, la)) e2 ∙ la in
    let lc : length c ≡ 84 = length-put b from 43 6 (omega (arith, lb)) e3 ∙ lb in
    let ld : length d ≡ 84 = length-put c source 49 34 (omega (arith, lc)) e4 ∙ lc in
    let sa : take 9 a ≡ to = ap (λ (n : ℕ). take n a) (sym e1) ∙ take-append_seam to (drop 9 text) in
    let sb = part_written a to target 9 34 43 (omega (arith, la)) e2 refl sa in
    let sc = part_written b (to ++ target) from 43 6 49 (omega (arith, lb)) e3 refl sb in
    let sd = part_written c (to ++ target ++ from) source 49 34 83 (omega (arith, lc)) e4 refl sc in
    let se = byte_written d (to ++ target ++ from ++ source) 83 10 84 (omega (arith, ld)) refl sd in
    all_written (slice_set d 83 10) (to ++ target ++ from ++ source ++ codes "\n") 84 (omega (arith, ld, length-set d 83 10)) se

-- two names, and what stands behind each in three parts
joined : (to target between first from source second last : List ℕ)
    → to ++ (target ++ between ++ first) ++ from ++ (source ++ between ++ second) ++ last
    ≡ (to ++ target ++ between ++ first) ++ (from ++ source ++ between ++ second) ++ last
joined to target between first from source second last = simp append_assoc refl

pub returns : goal.returns
unfolding end_text
returns c =
    written c.args.text.now c.copy_from_slice.new.self c.write_end.new.text c.copy_from_slice-2.new.self c.write_end-2.new.text c.requires (ap length c.copy_from_slice.ensures.after) (omega arith) (ap length c.copy_from_slice-2.ensures.after) (omega arith)
    ∙ rw (c.copy_from_slice.ensures.after, c.write_end.ensures, c.copy_from_slice-2.ensures.after, c.write_end-2.ensures)
    (joined (codes " flow to ") _ (codes " id ") _ (codes " from ") _ _ (codes "\n"))
