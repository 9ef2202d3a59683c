use Rattle.std.proofs.Common.{sym, subst}
use Rattle.courier_calls.specs.Calls.{Serving}
use Rattle.courier_calls.specs.Laws.{AllIsAnswered}
use Rattle.xns_world.proofs.CallMoves.{step_goes_on}
use Rattle.xns_world.proofs.CallProgress.{starts}
use Rattle.xns_world.proofs.CallEvents.{completes_by_events}
use Rattle.xns_world.proofs.CallRuns.{start_between}
use Rattle.xns_world.proofs.CallSmallSteps.{completes, always_completes}
use Rattle.xns_world.specs.CallPromises.{AreParties}
use Rattle.xns_world.specs.CallWorld.{Parties}
use Rattle.xns_world.proofs.laws.calls.no_play_is_stuck.Goals as goal

pub returns : goal.returns
returns g c =
    let given = c.laws_are_given.ensures in
    let stuck = c.no_world_is_stuck.ensures in
    let answered : (p : Parties g.row.S.Denot) → AreParties g.S.Service.serving g.S.Service.IsServiceState p → AllIsAnswered p.serving p.service =
    λ p are. subst (λ (v : Serving g.row.S.Denot). AllIsAnswered v p.service) (sym are.serving_is) (c.all_is_answered.ensures p.service are.state) in
    record {
      starts = λ p setup are fits good. starts p setup stuck (start_between p setup (given p are) fits good);
      each = λ p w s are h. step_goes_on p w s (given p are) stuck h;
      world = λ p w are room h. completes p w (given p are) stuck (answered p are) room h;
      always = λ p setup steps are fits good room.
          let g = given p are in always_completes p _ steps g stuck (answered p are) room (starts p setup stuck (start_between p setup g fits good));
      by_events = λ p setup events are fits good room.
          let g = given p are in completes_by_events p setup events g stuck (answered p are) room (start_between p setup g fits good);
    }
