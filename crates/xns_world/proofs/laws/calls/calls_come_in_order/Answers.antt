use Rattle.courier_calls.specs.Calls.{Serving}
use Rattle.xns_world.specs.CallLaws.{LawsAreGiven}
use Rattle.xns_world.specs.CallPromises.{CallsComeInOrder}
use Rattle.xns_world.proofs.CallEntries.{in_order, step_entry}
use Rattle.xns_world.proofs.CallRuns.{all_hold, always_between, start_between, quiet_between, settles_between, tick_between, meet_no_fault}
use Rattle.xns_world.proofs.CallCarries.{settles_end}
use Rattle.xns_world.proofs.laws.calls.calls_come_in_order.Goals as goal

come_in_order : {S : Type 0} (serving : Serving S) (IsServiceState : S → Type 0) → LawsAreGiven serving IsServiceState → CallsComeInOrder serving IsServiceState
come_in_order serving IsServiceState given = record {
  order = λ p w are h. in_order p w (given p are) h;
  well = λ p w are h. meet_no_fault p w (given p are) h;
  starts = λ p setup are fits good. start_between p setup (given p are) fits good;
  entry = λ p w s are h. step_entry p w s (given p are) h;
  keeps = λ p w ss are h. all_hold p w ss (given p are) h;
  between = λ p setup events are fits good. always_between p setup events (given p are) fits good;
  ends = λ p side w are b. settles_end p side w (given p are) b;
  settled = λ p side w are b. settles_between p side w (given p are) b;
  lands = λ p w k l are b e. let g = given p are in quiet_between p w l.1 b (g.world.land w.world k l b.holds.holds e) (g.answering.network.items.land w.world k l b.holds.holds e);
  tick = λ p w side are b. tick_between p w side (given p are) b;
}

pub returns : goal.returns
returns g c = come_in_order g.S.Service.serving g.S.Service.IsServiceState c.laws_are_given.ensures
