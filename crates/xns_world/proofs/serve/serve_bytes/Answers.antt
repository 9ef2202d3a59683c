use Rattle.std.proofs.lemmas.Result.{MatchResult-at_ok}
use Rattle.xns_world.proofs.ServeBounds.{begun_bytes}
use Rattle.xns_world.proofs.ServingEnds.{heard_along, within}
use Rattle.xns_world.specs.Serve.{serve, serve_start}
use Rattle.xns_world.proofs.serve.serve_bytes.Goals as goal

trace : goal.returns-clause-trace
trace g c =
    let serving = g.S.Service.serving in
    let s = c.args.service in
    let answering = c.server_laws_are_given.ensures s c.requires.state in
    let w = serve_start c.args.setup.now in
    c.into_trace-trace.ensures s _ (MatchResult-at_ok _ _ _ c.in_ok-ran.was c.run-ran.ensures s w answering c.in_ok-play.ensures)

pub returns-clause-trace : goal.returns-clause-trace
returns-clause-trace g c = trace g c

pub returns-clause-heard : goal.returns-clause-heard
returns-clause-heard g c = heard_along g.S.Service.serving c.args.service _ (serve g.S.Service.serving c.args.service c.args.setup.now c.args.packets.now) (trace g c)

pub returns-clause-within : goal.returns-clause-within
returns-clause-within g c =
    let serving = g.S.Service.serving in
    let s = c.args.service in
    let bytes = c.args.packets.now in
    let bounds = c.served_ends_stay_within_bounds.ensures.ends s c.args.setup.now bytes c.requires.state c.known.ensures c.requires.good c.known_packets.ensures in
    within serving s _ (serve serving s c.args.setup.now bytes) (trace g c) bounds.end

pub returns-clause-always : goal.returns-clause-always
returns-clause-always g c come begins =
    let s = c.args.service in
    c.served_ends_stay_within_bounds.ensures.ends s c.args.setup.now come c.requires.state c.known.ensures c.requires.good (begun_bytes come c.args.packets.now begins c.known_packets.ensures)
