-- What a host begins with, and what stands in it whatever comes.
use Rattle.std.specs.Prelude.{◌≡◌, ℕ, List, None, replicate, false, true}
use Rattle.std.specs.BTreeMap.{IsEmpty}
use Rattle.xns_agenda.specs.Clock.{told_at}
use Rattle.xns_agenda.specs.Agenda.{new_agenda}
use Rattle.xns_host.specs.Identifiers.{is_free, most_id, numbers, order_of}
use Rattle.xns_host.specs.Services.{has_called}
use Rattle.xns_host.specs.Strays.{new_strays}
use Rattle.xns_host.specs.declared.host.Host.{Host}
use Rattle.xns_host.specs.declared.settings.Settings.{Settings}

-- a host at this address that serves nothing, has no connection and made none, and has nothing to say or to do, with room for as many stray
-- replies as the settings say, and for as many connections; its identifiers stand in the order that the secret gives, none is in use, and no
-- peer opened a connection
pub record IsNewHost (network : ℕ) (host : List ℕ) (settings : Settings) (secret : List ℕ) (h : Host) : Type 0 where
  pub at_network : h.network ≡ network
  pub at_host : h.host ≡ host
  pub with_settings : h.settings ≡ settings
  pub unserved : IsEmpty h.services.programs
  pub uncalled : (socket : ℕ) → has_called h.services.callers.items socket ≡ false
  pub nobody : h.guests.items ≡ replicate settings.connections None
  pub room : h.strays ≡ new_strays settings.strays
  pub idle : h.agenda ≡ new_agenda settings.connections
  pub untold : (h.clock.told ≡ 0) × (h.clock.latest ≡ 0)
  pub order : h.register.identifiers.ahead ≡ order_of (numbers most_id) secret
  pub unused : (id : ℕ) → is_free h.register.identifiers.owners id ≡ true
  pub unopened : IsEmpty h.register.peers

-- the address and the settings of the host are as they were
abbrev pub IsSameHost : (old new : Host) → Type 0
IsSameHost old new = (new.network ≡ old.network) × (new.host ≡ old.host) × (new.settings ≡ old.settings)

-- the address and the settings of the host, what it serves and its clock are as they were
abbrev pub StaysSetUp : (old new : Host) → Type 0
StaysSetUp old new = IsSameHost old new × (new.services ≡ old.services) × (new.clock ≡ old.clock)

-- the address and the settings of the host and what it serves are as they were, and it was told the time
abbrev pub StaysSetUpAt : ℕ → (old new : Host) → Type 0
StaysSetUpAt now old new = IsSameHost old new × (new.services ≡ old.services) × (new.clock ≡ told_at old.clock now)
