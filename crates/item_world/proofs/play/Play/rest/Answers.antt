use Rattle.std.proofs.Common.{ℕ, List, fold, ◌∙◌, ap, sym, subst}
use Rattle.item_world.proofs.Quiet.{ok_then}
use Rattle.item_world.proofs.Plays.{unsettled_is_enough}
use Rattle.item_world.proofs.Kept.{deliveries}
use Rattle.item_world.proofs.play.Play.rest.Goals as goal
use Rattle.item_world.specs.Events.{delivers, undelivered}
use Rattle.item_world.specs.Play.{IsPlaying}
use Rattle.item_world.specs.World.{World}

pub returns : goal.returns
returns c =
    ok_then c.deliver_all.result c.deliver_all.ensures (λ all laws w h.
    let there = all laws w (record { ends = h.ends; network = c.unsettled.ensures.network w h.network }) in
    let listed = c.as_slice.ensures.value ∙ c.in_ok-numbers.ensures.numbers w h.network in
    subst (λ (v : World). IsPlaying c.deliver_all.new.self v)
    (ap (λ (l : List ℕ). fold delivers w l) listed ∙ (sym (unsettled_is_enough laws w) ∙ sym (deliveries w (undelivered 0 w.bag)))) there)
