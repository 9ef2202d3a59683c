use Rattle.xns_agenda.proofs.Free.{new_room, nobody_yet}
use Rattle.xns_agenda.proofs.laws.a_new_agenda_has_nobody.Goals as goal

pub returns-clause-room : goal.returns-clause-room
returns-clause-room c = new_room

pub returns-clause-nobody : goal.returns-clause-nobody
returns-clause-nobody c = nobody_yet
