use Rattle.std.proofs.Common.{rules}
use Rattle.xns_agenda.proofs.Free.{for_most, nobody_in, room_of}
use Rattle.xns_agenda.proofs.agenda.Agenda.new.Goals as goal

pub invariant_of-result : goal.invariant_of-result
invariant_of-result c = room_of _ c.args.most (search rules)

pub returns-clause-room : goal.returns-clause-room
returns-clause-room c = for_most _ c.args.most (search rules)

pub returns-clause-nobody : goal.returns-clause-nobody
returns-clause-nobody c = λ k less. nobody_in _ c.args.most k (search rules) less
