use Rattle.std.proofs.Common.{rules, sym}
use Rattle.xns_idp.specs.Packet.{packet_model}
use Rattle.xns_host.specs.Coming.{foreign, unmeant}
use Rattle.xns_host.specs.Turn.{whole_of}
use Rattle.xns_host.proofs.Comings.{arrives_at, arrives_meant, complained}
use Rattle.xns_host.proofs.Foreign.{never_read, unread_not_ours}
use Rattle.xns_host.proofs.host.Host.receive.Goals as goal

pub returns-in_default : goal.returns-in_default
returns-in_default c = record {
  takes = record {
    clock = search rules;
    comes = unmeant (foreign (unread_not_ours (whole_of c.args.self.now) c.args.bytes.now c.decode.result c.decode.ensures.exact (λ x yes. absurd (search rules))))
        (λ p taken read served. never_read c.args.bytes.now c.decode.result p taken c.decode.ensures.exact (λ x yes. absurd (search rules)) read);
  };
}

pub returns-then-take : goal.returns-then-take
returns-then-take c = record {
  takes = record {
    clock = search rules;
    comes = arrives_meant c.tell-now.result _ c.args.via c.args.bytes.now (whole_of c.args.self.now) (whole_of c.take.new.self) c.take.result
        c.tell-now.ensures.result (search rules) (c.take.ensures.comes c.in-Ok.field-0-1 (sym c.in-Ok.ensures.exact));
  };
}

pub returns : goal.returns
returns c = record {
  takes = record {
    clock = search rules;
    comes = arrives_at c.tell-now.result _ c.args.via c.args.bytes.now (whole_of c.args.self.now) (whole_of c.complain.new.self) c.complain.result
        c.tell-now.ensures.result (complained c.tell-now.result c.args.via c.args.bytes.now (whole_of c.args.self.now) (whole_of c.take.new.self)
        (whole_of c.complain.new.self) c.take.result c.complain.result (packet_model c.in-Ok.packet) c.in-Ok.field-0-1 (sym c.in-Ok.ensures.exact)
        (search rules) (c.take.ensures.comes c.in-Ok.field-0-1 (sym c.in-Ok.ensures.exact)) c.complain.ensures.served
        c.complain.ensures.unserved c.complain.ensures.waits c.complain.ensures.unchanged c.complain.ensures.rest);
  };
}
