use Rattle.std.proofs.Common.{ℕ, ◌<◌, List, ◌∷◌, drop, All, true, ap, ◌∙◌, arith, refl}
use Rattle.std.proofs.lemmas.List.{length-drop}
use Rattle.std.proofs.lemmas.List.Elements.{All-cons, All-drop}
use Rattle.xns_idp.specs.Packet.{PacketModel, IsPacket}
use Rattle.xns_small.specs.Echo.{echo_of, echo_reply, echo_spelling}
use Rattle.xns_small.proofs.Echoes.{echo_again}
use Rattle.xns_small.proofs.laws.an_answered_echo_carries_the_request.Goals as goal

pub returns : goal.returns
unfolding echo_reply
returns c = λ own request rest own_fits fits size answered.
    let echoed : List ℕ = drop 2 request.body in
    let reply : PacketModel = record { summed = true; control = 0; kind = 2; target = request.source; source = own; body = echo_spelling (record { reply = true; body = echoed }) } in
    let echoed_fits : All (λ x. x < 256) echoed = All-drop (λ x. x < 256) 2 request.body fits.body in
    let reply_fits : IsPacket reply = record {
      control = omega arith;
      kind = omega arith;
      target = fits.source;
      source = own_fits;
      body = All-cons (λ x. x < 256) 0 (2 ∷ echoed) (omega arith) (All-cons (λ x. x < 256) 2 echoed (omega arith) echoed_fits);
    } in (
      reply,
      c.written_packet_is_read_again.ensures.again reply rest reply_fits (omega (arith, length-drop 2 request.body)),
      record {
        kind = refl;
        source = refl;
        target = refl;
        echoed = λ bytes spells. ap (λ (xs : List ℕ). echo_of (echo_spelling (record { reply = true; body = xs }))) (ap (drop 2) spells) ∙ echo_again (record { reply = true; body = bytes });
      },
    )
