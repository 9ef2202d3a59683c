use Rattle.xns_world.proofs.CallEntries.{history}
use Rattle.xns_world.proofs.CallRuns.{start_between}
use Rattle.xns_world.proofs.laws.calls.each_step_is_an_entry.Goals as goal

pub returns : goal.returns
returns g c p setup steps are fits good =
    let given = c.laws_are_given.ensures p are in
    history p setup steps given (start_between p setup given fits good).holds
