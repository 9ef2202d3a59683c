use Rattle.std.proofs.Common.{sym, subst}
use Rattle.xns_spp.specs.Sending.{after_send}
use Rattle.item_world.proofs.Quiet.{ok_then}
use Rattle.item_world.proofs.Plays.{acts_alone}
use Rattle.item_world.proofs.play.Play.send.Goals as goal
use Rattle.item_world.specs.declared.participant.Participant.{Participant}
use Rattle.item_world.specs.Play.{IsParticipant}
use Rattle.item_world.specs.World.{end_at, sends}

pub returns : goal.returns
returns c =
    ok_then c.flush.result c.flush.ensures (λ flushes laws w h.
    let side = c.args.side in
    let s = end_at w side in
    let x = c.args.item.now in
    let here = subst (λ (p : Participant). IsParticipant p s) (sym c.at.ensures.value) (h.ends side) in
    flushes laws (sends w side x)
    (acts_alone c.args.self.now.ends c.args.self.now.network w side c.send.new.self (after_send s x) h.ends (c.in_ok-send.ensures laws s here) h.network (laws.hears.send s x).taken))
