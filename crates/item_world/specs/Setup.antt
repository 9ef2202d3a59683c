-- The setup of two ends: their addresses and identifiers, the window and the backlog.
use Rattle.std.specs.Prelude.{◌≢◌, ◌<◌, ◌≤◌}
use Rattle.xns_idp.specs.Packet.{IsAddress, broadcast}
use Rattle.xns_spp.specs.Ends.{most_pending}
use Rattle.item_world.specs.declared.setup.Setup.{Setup}

-- the numbers of a setup are within their types' bounds
pub record IsSetup (s : Setup) : Type 0 where
  pub a : IsAddress s.a
  pub b : IsAddress s.b
  pub a_id : s.a_id < 65536
  pub b_id : s.b_id < 65536

-- a connection can be made from this setup
pub record IsGood (s : Setup) : Type 0 where
  pub a_id : 0 < s.a_id
  pub b_id : 0 < s.b_id
  pub window_least : 1 ≤ s.window
  pub window_most : s.window ≤ most_pending
  pub backlog_least : 1 ≤ s.backlog
  pub backlog_most : s.backlog ≤ most_pending
  pub a_host : s.a.host ≢ broadcast
  pub b_host : s.b.host ≢ broadcast
