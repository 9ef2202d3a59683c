use Rattle.xns_host.specs.Turn.{Tags}
use Rattle.xns_c.proofs.Hosts.{done_with_one}
use Rattle.xns_c.proofs.kept_host.KeptHost.set_tag.Goals as goal

pub returns : goal.returns
returns c =
    done_with_one (Tags c.args.number c.args.tag) c.args.self.now c.tag_event.new.self c.set_tag.new.self _ c.args.number _ c.set_tag.result c.tag_event.ensures
    c.host_told-result.ensures c.set_tag.ensures.tags c.set_tag.ensures.none c.set_tag.ensures.some
