use Rattle.std.proofs.lemmas.Grind.{common_steps}
use Rattle.std.proofs.Common.{◌≡◌, ◌+◌, ◌%◌, ◌<◌, ◌++◌, List, ℕ, [], ◌∷◌, length, replicate, refl, sym, ap, ◌∙◌, arith, length-append, rules}
use Rattle.std.specs.Int.{w16, to_be_bytes}
use Rattle.xns_idp.specs.Packet.{address_bytes, packet_model, with_data_behind}
use Rattle.xns_idp.proofs.Writing.{pieces, written}
use Rattle.xns_idp.proofs.encoding.encode_parts.Goals as goal

pub returns-clause-ok : goal.returns-clause-ok
returns-clause-ok c =
    let p = packet_model c.args.packet.now in
    let rest = c.args.rest.now in
    let size = length p.body + length rest in
    let long : size ≡ length (p.body ++ rest) = sym (length-append p.body rest) in
    let odd : size % 2 < 2 = omega arith in
    let items = c.pad.ensures.items
    ∙ pieces p c.args.out.now.items c.reserve.new.self.items c.extend_from_slice.new.self.items c.extend_from_slice-2.new.self.items c.extend_from_slice-3.new.self.items (0 ∷ 0 ∷ []) c.header_bytes.result rest _
    (c.header_bytes.ensures ∙ ap (λ (n : ℕ). 0 ∷ 0 ∷ to_be_bytes w16 (30 + n) ++ (p.control ∷ p.kind ∷ []) ++ address_bytes p.target ++ address_bytes p.source) long)
    (ap (λ (n : ℕ). replicate {A = ℕ} (n % 2) 0) long)
    c.in_ok-reserve.ensures.items c.in_ok-extend_from_slice.ensures.items c.in_ok-extend_from_slice-2.ensures.items c.in_ok-extend_from_slice-3.ensures.items in
    written (with_data_behind p rest) _ c.len-start.result c.args.out.now.items (0 ∷ 0 ∷ []) c.pad.new.out.items c.as_mut_slice.result.now c.put_checksum.new.packet refl items c.as_mut_slice.ensures.value (omega (arith, c.len-start.ensures)) (omega (arith, c.as_mut_slice.ensures.len, ap (λ (xs : List ℕ). length xs) c.as_mut_slice.ensures.value)) c.put_checksum.ensures

pub pad-requires : goal.pad-requires
pad-requires c = search rules

pub slice_bounds-put_checksum-count : goal.slice_bounds-put_checksum-count
slice_bounds-put_checksum-count c = grind (arith, common_steps)

pub slice_bounds-put_checksum-start : goal.slice_bounds-put_checksum-start
slice_bounds-put_checksum-start c = grind (arith, common_steps)

pub put_checksum-requires-clause-even : goal.put_checksum-requires-clause-even
put_checksum-requires-clause-even c = grind (arith, common_steps)

pub put_checksum-requires-clause-field : goal.put_checksum-requires-clause-field
put_checksum-requires-clause-field c = grind (arith, common_steps)
