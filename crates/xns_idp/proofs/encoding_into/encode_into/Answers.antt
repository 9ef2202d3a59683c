use Rattle.std.proofs.Common.{◌≡◌, ◌%◌, ◌<◌, length, take, drop, refl, ◌∙◌, arith}
use Rattle.xns_idp.specs.Packet.{packet_model}
use Rattle.xns_idp.proofs.Writing.{no_byte_or_one, pieces_of, placed}
use Rattle.xns_idp.proofs.encoding_into.encode_into.Goals as goal

pub returns : goal.returns
returns c =
    let p = packet_model c.args.packet.now in
    let garbage : length p.body % 2 < 2 = omega arith in
    let o1 = take c.put_behind-end.result c.put_behind-end.new.out in
    let o2 = take c.put_behind-end-2.result c.put_behind-end-2.new.out in
    let n = c.put_behind-end-3.result in
    let whole = c.put_behind-end-3.ensures.put ∙ pieces_of p o1 o2 c.header_bytes.result _ c.header_bytes.ensures (no_byte_or_one (length p.body % 2) garbage)
    c.put_behind-end.ensures.put c.put_behind-end-2.ensures.put in
    let e1 = c.put_behind-end.ensures.end in let e2 = c.put_behind-end-2.ensures.end in let e3 = c.put_behind-end-3.ensures.end in
    let behind : drop n c.put_behind-end-3.new.out ≡ drop n c.args.out.now =
    c.put_behind-end-3.ensures.behind n (omega (arith, e3)) ∙ c.put_behind-end-2.ensures.behind n (omega (arith, e2, e3)) ∙ c.put_behind-end.ensures.behind n (omega (arith, e1, e2, e3)) in
    placed p n c.args.out.now c.put_behind-end-3.new.out c.put_checksum.new.packet _ refl whole c.put_behind-end-3.ensures.within behind c.put_checksum.ensures
