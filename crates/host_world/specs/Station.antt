-- Where a connection begins.
use Rattle.std.specs.Prelude.{◌<◌}
use Rattle.xns_idp.specs.Packet.{IsAddress}
use Rattle.xns_spp.specs.State.{State, initiator_state, responder_state}
use Rattle.host_world.specs.declared.station.Station.{Station}

pub record IsStation (s : Station) : Type 0 where
  pub address : IsAddress s.address
  pub id_least : 0 < s.id
  pub id_most : s.id < 65536

-- the new end at the host that calls: it does not know its peer's identifier yet
abbrev pub calling_end : (own peer : Station) → State
calling_end own peer = initiator_state own.address own.id peer.address own.terms.window own.terms.backlog

-- the new end at the host that is called
abbrev pub called_end : (own peer : Station) → State
called_end own peer = responder_state own.address own.id peer.address peer.id own.terms.window own.terms.backlog
