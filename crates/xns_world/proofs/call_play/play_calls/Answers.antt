use Rattle.std.proofs.Common.{refl, map, arith}
use Rattle.std.proofs.lemmas.Result.{IfOk-weaker}
use Rattle.xns_world.proofs.CallPlays.{once_along}
use Rattle.xns_world.proofs.CallEntries.{in_order, outcomes_length}
use Rattle.xns_world.proofs.CallRuns.{start_between, always_between, outcomes_begin}
use Rattle.xns_spp.specs.Fronts.{front_begins, begins_then, begins_length}
use Rattle.std.proofs.lemmas.List.{length-map}
use Rattle.courier_calls.specs.Calls.{outcomes, raw_call, seen_model}
use Rattle.xns_world.specs.CallPlay.{IsReady, parties}
use Rattle.xns_world.specs.CallWorld.{call_start, run_calls}
use Rattle.xns_world.specs.CallLaws.{PartiesLaws}
use Rattle.xns_world.proofs.call_play.play_calls.Goals as goal

trace : goal.returns-clause-trace
trace g c =
    let cs = c.args.calls.now in
    let serving = g.S.Service.serving in
    let p = parties serving c.args.service cs in
    let setup = c.args.setup.now in
    let given : PartiesLaws p = c.laws_are_given.ensures p (record { serving_is = refl; state = c.requires.state; calls = c.known_calls.ensures }) in
    let ready : IsReady serving cs p (call_start setup) = record { given = given; between = start_between p setup given c.known.ensures c.requires.good; serving_is = refl; calls_are = refl } in
    IfOk-weaker c.played.result _ _ (λ t is. is p (call_start setup) ready (c.in_ok-play.ensures p refl refl)) c.played.ensures

pub returns-clause-trace : goal.returns-clause-trace
returns-clause-trace g c = trace g c

once : goal.returns-clause-once
once g c =
    let p = parties g.S.Service.serving c.args.service c.args.calls.now in
    let w = run_calls p c.args.setup.now c.args.events.now in
    let given : PartiesLaws p = c.laws_are_given.ensures p (record { serving_is = refl; state = c.requires.state; calls = c.known_calls.ensures }) in
    let once = in_order p w given (always_between p c.args.setup.now c.args.events.now given c.known.ensures c.requires.good).holds in
    IfOk-weaker c.played.result _ _ (λ t is. once_along g.S.Service.serving c.args.service c.args.calls.now t w is (front_begins w.made p.calls) once) (trace g c)

pub returns-clause-once : goal.returns-clause-once
returns-clause-once g c = once g c

pub returns-clause-seen : goal.returns-clause-seen
returns-clause-seen g c =
    let serving = g.S.Service.serving in
    let s = c.args.service in
    let calls = map raw_call c.args.calls.now in
    IfOk-weaker c.played.result _ _
    (λ t is.
    let carried = map raw_call t.carried.items in
    begins_then (map seen_model t.seen.items) (outcomes serving s carried) (outcomes serving s calls) is.seen
    (outcomes_begin serving s carried calls is.carried))
    (once g c)

pub returns-clause-fewer : goal.returns-clause-fewer
returns-clause-fewer g c =
    let serving = g.S.Service.serving in
    let s = c.args.service in
    IfOk-weaker c.played.result _ _
    (λ t is.
    let carried = map raw_call t.carried.items in
    let seen = map seen_model t.seen.items in
    omega (
      arith,
      begins_length seen (outcomes serving s carried) is.seen,
      outcomes_length serving s carried,
      length-map t.carried.items raw_call,
      length-map t.seen.items seen_model,
    ))
    (once g c)

pub returns-clause-finishes : goal.returns-clause-finishes
returns-clause-finishes g c = λ room.
    let p = parties g.S.Service.serving c.args.service c.args.calls.now in
    c.no_play_is_stuck.ensures.by_events p c.args.setup.now c.args.events.now
    (record { serving_is = refl; state = c.requires.state; calls = c.known_calls.ensures }) c.known.ensures c.requires.good room
