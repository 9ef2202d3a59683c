use Rattle.std.proofs.Common.{ℕ, List, [], ◌∷◌, fold, ◌∙◌, ap, sym, subst}
use Rattle.std.proofs.IntoIterSteps.{All-taken}
use Rattle.std.proofs.lemmas.List.Sums.{fold-append}
use Rattle.xns_world.proofs.CallPlays.{unsettled_is_enough}
use Rattle.xns_world.proofs.CallRuns.{all_between}
use Rattle.xns_world.specs.CallPlay.{IsCallPlaying, IsReady}
use Rattle.xns_world.specs.CallWorld.{CallWorld, call_delivers}
use Rattle.xns_world.proofs.call_play.CallPlay.rest.Goals as goal

pub loop-number-init : goal.loop-number-init
loop-number-init g c p w ready h = record { ends = h.ends; network = c.in_ok-numbers.ensures.network w.world h.network }

pub loop-number-preserved : goal.loop-number-preserved
loop-number-preserved g c p w ready h =
    let before : List ℕ = c.loop-number.yielded in
    let v = fold (call_delivers p) w before in
    let still : IsReady g.S.Service.serving c.args.calls.now p v = record { given = ready.given; between = all_between p w before ready.given ready.between; serving_is = ready.serving_is; calls_are = ready.calls_are } in
    let there = c.in_ok-deliver.ensures p v still (c.loop-number.invariant p w ready h) in
    subst (λ (u : CallWorld). IsCallPlaying p c.deliver.new.self u) (sym (fold-append (call_delivers p) w before (c.in-Some.number ∷ []))) there

pub returns : goal.returns
returns g c p w ready h =
    let all = All-taken c.into_iter-number-iterator.result c.loop-number.yielded (c.next.new.self, (c.loop-number.number-iterator, c.loop-number.yielded_by, c.in-None.ensures.steps)) ∙ c.into_iter-number-iterator.ensures.into_iter_gives.0 in
    let listed = all ∙ c.in_ok-numbers.ensures.numbers w.world h.network in
    subst (λ (v : CallWorld). IsCallPlaying p c.loop-number.self v)
    (ap (λ (l : List ℕ). fold (call_delivers p) w l) listed ∙ sym (unsettled_is_enough p ready.given.answering w)) (c.loop-number.invariant p w ready h)
