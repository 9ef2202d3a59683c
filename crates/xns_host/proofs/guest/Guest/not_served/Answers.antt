use Rattle.std.proofs.Common.{ap}
use Rattle.xns_connection.specs.declared.connection.Connection.{Connection}
use Rattle.xns_host.proofs.Undone.{not_done_steps}
use Rattle.xns_host.proofs.guest.Guest.not_served.Goals as goal

pub returns-clause-not_done : goal.returns-clause-not_done
returns-clause-not_done c =
    not_done_steps _ c.args.self.now.connection c.not_served.new.self c.not_served.ensures.told
    (λ some. ap (λ (x : Connection). x.closed) (c.not_served.ensures.closed some)) c.not_served.ensures.steps
