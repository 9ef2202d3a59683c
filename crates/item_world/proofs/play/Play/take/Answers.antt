use Rattle.std.proofs.Common.{sym, subst}
use Rattle.xns_spp.specs.Sending.{after_take}
use Rattle.item_world.proofs.Quiet.{ok_then}
use Rattle.item_world.proofs.Plays.{acts_alone}
use Rattle.item_world.proofs.play.Play.take.Goals as goal
use Rattle.item_world.specs.declared.participant.Participant.{Participant}
use Rattle.item_world.specs.Play.{IsParticipant}
use Rattle.item_world.specs.World.{end_at}

pub returns : goal.returns
returns c =
    ok_then c.take.result c.take.ensures (λ took laws w h.
    let side = c.args.side in
    let s = end_at w side in
    let here = subst (λ (p : Participant). IsParticipant p s) (sym c.at.ensures.value) (h.ends side) in
    acts_alone c.args.self.now.ends c.args.self.now.network w side c.take.new.self (after_take s) h.ends (took laws s here) h.network (laws.hears.take s).taken)
