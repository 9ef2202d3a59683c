use Rattle.xns_host.specs.Turn.{Abandons}
use Rattle.xns_c.proofs.Hosts.{done_with_one}
use Rattle.xns_c.proofs.kept_host.KeptHost.abandon.Goals as goal

pub returns : goal.returns
returns c =
    done_with_one (Abandons c.args.number) c.args.self.now c.let_go.new.self c.abandon.new.self _ c.args.number _ c.abandon.result c.let_go.ensures c.host_told-result.ensures
    c.abandon.ensures.gone c.abandon.ensures.none c.abandon.ensures.some
