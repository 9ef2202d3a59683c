use Rattle.std.proofs.Common.{◌∙◌, ap, sym, subst}
use Rattle.item_world.proofs.Quiet.{ok_then}
use Rattle.item_world.proofs.Plays.{lands_there, some_landing, no_landing, delivers_nowhere}
use Rattle.item_world.proofs.Kept.{flushed, delivers_lands}
use Rattle.item_world.proofs.play.Play.deliver.Goals as goal
use Rattle.item_world.specs.declared.participant.Participant.{Participant}
use Rattle.item_world.specs.Landing.{landing}
use Rattle.item_world.specs.Play.{IsParticipant, IsPlaying}
use Rattle.item_world.specs.World.{World, end_at}

pub returns-in_default : goal.returns-in_default
returns-in_default c laws w h =
    subst (λ (v : World). IsPlaying c.args.self.now v) (sym (delivers_nowhere w c.args.number (no_landing (landing w c.args.number) (c.in_default.ensures.lands w h.network)))) h

pub returns : goal.returns
returns c =
    ok_then c.flush.result c.flush.ensures (λ flushes laws w h.
    let k = c.args.number in
    let side = c.in-Some.side in
    let l = some_landing (landing w k) side (c.in-Some.ensures.lands w h.network) in
    let here = subst (λ (p : Participant). IsParticipant p (end_at w side)) (sym c.at.ensures.value) (h.ends side) in
    let end = c.in_ok-land.ensures.stands laws w l.0 (record { stands = here.stands; network = h.network }) l.1 in
    let landed = lands_there laws c.args.self.now.ends c.land.new.network w l.0 k side c.at.result.now c.land.new.endpoint h.ends c.at.ensures.value l.1 end in
    subst (λ (v : World). IsPlaying c.flush.new.self v) (sym (delivers_lands w k ∙ ap (flushed w) l.1)) (flushes laws l.0 landed))
