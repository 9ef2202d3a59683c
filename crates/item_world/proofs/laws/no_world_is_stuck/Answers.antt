use Rattle.item_world.proofs.Onward.{Kept}
use Rattle.item_world.proofs.Going.{Both, both_after, events_after}
use Rattle.item_world.proofs.Finishing.{finishes_by}
use Rattle.item_world.proofs.SmallSteps.{finishes}
use Rattle.item_world.proofs.Outward.{stirs, stirs_out}
use Rattle.item_world.proofs.Scheduled.{finishes_in_rounds}
use Rattle.item_world.proofs.Linking.{keeps_links, starts_linked}
use Rattle.item_world.proofs.laws.no_world_is_stuck.Goals as goal
use Rattle.item_world.specs.Events.{all_stepped, world_after}
use Rattle.item_world.specs.Setup.{IsSetup, IsGood}
use Rattle.item_world.specs.World.{start}
use Rattle.item_world.specs.declared.setup.Setup.{Setup}

pub returns : goal.returns
returns c =
    let laws = c.end_laws_are_given.ensures in
    let order = c.each_step_keeps_the_order.ensures in
    let k : Kept = record { laws = laws; order = order; links = keeps_links laws order } in
    let first : (setup : Setup) → IsSetup setup → IsGood setup → Both (start setup) =
    λ setup fits good. record { holds = order.start setup fits good; linked = starts_linked setup } in
    record {
      starts = starts_linked;
      each = keeps_links laws order;
      stirs = stirs k;
      stirs_out = stirs_out k;
      world = λ w holds linked. finishes k w (record { holds = holds; linked = linked });
      always = λ setup steps fits good all. finishes k (all_stepped (start setup) steps) (both_after k (start setup) steps all (first setup fits good));
      by_events = λ setup events fits good all. finishes_by k (world_after (start setup) events) (events_after k (start setup) events all (first setup fits good));
      by_rounds = λ setup events fits good all. finishes_in_rounds k (world_after (start setup) events) (events_after k (start setup) events all (first setup fits good));
    }
