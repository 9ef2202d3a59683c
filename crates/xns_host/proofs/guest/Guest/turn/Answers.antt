use Rattle.std.proofs.Common.{ap, refl, Ok}
use Rattle.xns_host.specs.Requests.{request_fault_of}
use Rattle.xns_host.proofs.guest.Guest.turn.Goals as goal

pub returns-in-Close-clause-refused : goal.returns-in-Close-clause-refused
returns-in-Close-clause-refused c =
    record { done = Ok tt; answers = ap (request_fault_of c.args.self.now.connection.conversation) c.in-Close.is; is = refl }
