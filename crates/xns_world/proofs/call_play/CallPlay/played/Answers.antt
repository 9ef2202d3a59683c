use Rattle.std.proofs.Common.{map, ◌∙◌, ap}
use Rattle.std.proofs.lemmas.Result.{MatchResult-at_ok}
use Rattle.item_world.specs.World.{sender_and_bytes}
use Rattle.xns_world.proofs.call_play.CallPlay.played.Goals as goal

pub returns : goal.returns
returns g c p w ready h =
    let ran = MatchResult-at_ok _ _ _ c.in_ok-ran.was c.run-ran.ensures p w ready h in
    let parts = c.into_parts-carried.ensures in
    record {
      carried = parts.carried p _ ran.ends;
      seen = parts.seen p _ ran.ends;
      service = parts.service p _ ready.serving_is ran.ends;
      bag = c.in_ok-bag.ensures.bag ∙ ap (map sender_and_bytes) ran.network.bag;
    }
