use Rattle.std.proofs.Common.{◌≡◌, false, sym, ◌∙◌, subst}
use Rattle.xns_spp.specs.Held.{StandsFor}
use Rattle.xns_spp.specs.Receiving.{is_ours}
use Rattle.xns_spp.specs.State.{State}
use Rattle.item_world.proofs.Sides.{foreign_changes_nothing}
use Rattle.item_world.proofs.Plays.{stays_there}
use Rattle.item_world.proofs.play.Play.overhear.Goals as goal
use Rattle.item_world.specs.declared.participant.Participant.{Participant}
use Rattle.item_world.specs.Play.{IsParticipant, IsPlaying, with_side}
use Rattle.item_world.specs.World.{World, end_at}

pub returns-in_ok-receive : goal.returns-in_ok-receive
returns-in_ok-receive c laws w h =
    let side = c.args.side in
    let s = end_at w side in
    let b = c.args.bytes.now in
    let here = subst (λ (p : Participant). IsParticipant p s) (sym c.at.ensures.value) (h.ends side) in
    let not_ours : is_ours s b ≡ false = sym (c.is_ours.ensures s here.stands) ∙ c.if-not-is_ours.true in
    let stands = subst (λ (t : State). StandsFor c.receive.new.self t) (laws.foreign.after s b not_ours) (c.in_ok-receive.ensures.stands s here.stands) in
    subst (λ (v : World). IsPlaying (record c.args.self.now { ends = with_side c.args.self.now.ends side (record c.at.result.now { endpoint = c.receive.new.self }) }) v) (sym (foreign_changes_nothing laws w side b))
    (stays_there c.args.self.now w side c.at.result.now c.receive.new.self h here stands)

pub returns-else-not-is_ours : goal.returns-else-not-is_ours
returns-else-not-is_ours c laws w h =
    let side = c.args.side in
    let b = c.args.bytes.now in
    let s = end_at w side in
    let here = subst (λ (p : Participant). IsParticipant p s) (sym c.at.ensures.value) (h.ends side) in
    subst (λ (v : World). IsPlaying (record c.args.self.now { ends = with_side c.args.self.now.ends side (record c.at.result.now { endpoint = c.at.result.now.endpoint }) }) v) (sym (foreign_changes_nothing laws w side b))
    (stays_there c.args.self.now w side c.at.result.now c.at.result.now.endpoint h here here.stands)
