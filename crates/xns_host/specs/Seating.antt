-- What becomes of a host's places where a new connection gets one.
use Rattle.std.specs.Prelude.{◌≡◌, ℕ, Bool, false, length}
use Rattle.xns_connection.specs.declared.connection.Connection.{Connection}
use Rattle.xns_idp.specs.declared.address.Address.{Address}
use Rattle.xns_host.specs.Hosting.{IsAllNoted}
use Rattle.xns_host.specs.Identifiers.{StaysInOrder}
use Rattle.xns_host.specs.Places.{Places, taken_by, vacated}
use Rattle.xns_host.specs.Registered.{IsAllRegistered}
use Rattle.xns_host.specs.declared.guest.Guest.{Guest}
use Rattle.xns_host.specs.declared.register.Register.{Register}

-- a connection that was just made, of which no packet came and nothing was told
abbrev pub new_guest : Connection → (via : ℕ) → (peer : Address) → (opening_untold : Bool) → Guest
new_guest connection via peer opening_untold = record {
  connection = connection;
  via = via;
  peer = peer;
  confirmed = false;
  heard_of = false;
  opening_untold = opening_untold;
  tag = 0;
}

-- the connection that was in this place gave way to this new one; the agenda and the register say of all connections what there is to say
pub record GetsPlace (number : ℕ) (guest : Guest) (old new : Register) (p q : Places) : Type 0 where
  pub noted : IsAllNoted q.agenda q.guests
  pub sized : length q.agenda.dues ≡ length p.agenda.dues
  pub room : length q.guests ≡ length p.guests
  pub registered : IsAllRegistered new q.guests
  pub order : StaysInOrder old.identifiers new.identifiers
  pub places : q ≡ taken_by (vacated p number) number guest
