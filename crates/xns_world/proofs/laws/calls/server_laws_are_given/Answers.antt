use Rattle.xns_world.proofs.laws.calls.server_laws_are_given.Goals as goal

pub returns : goal.returns
returns g c s can = record {
  ends = c.end_laws_are_given.ensures;
  network = c.network_laws_are_given.ensures;
  pieces = c.session_items_can_be_sent.ensures.server s can;
  faults = c.first_fault_stays.ensures;
}
