use Rattle.std.proofs.Common.{length, length-append, ap, arith, rules}
use Rattle.std.proofs.lemmas.List.{length-take}
use Rattle.xns_small.specs.ErrorReport.{complaint}
use Rattle.xns_small.proofs.complaining.complain.Goals as goal

pub sent_packet-requires : goal.sent_packet-requires
sent_packet-requires c =
    omega (arith, simp length-append at (ap length c.in_ok-write_error.ensures.ok), ap length c.new-body.ensures.items, length-take 42 c.args.offending.now)

pub returns-in_default-clause-memory : goal.returns-in_default-clause-memory
unfolding complaint
returns-in_default-clause-memory c = search rules
