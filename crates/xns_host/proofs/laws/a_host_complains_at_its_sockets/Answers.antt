use Rattle.xns_host.proofs.Complaints.{complains_of_it, knows_where_from}
use Rattle.xns_host.proofs.laws.a_host_complains_at_its_sockets.Goals as goal

pub returns-clause-complains : goal.returns-clause-complains
returns-clause-complains c = complains_of_it

pub returns-clause-called : goal.returns-clause-called
returns-clause-called c = knows_where_from
