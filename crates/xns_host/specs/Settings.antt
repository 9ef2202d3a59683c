-- What a host is made with.
use Rattle.std.specs.Prelude.{◌≡◌, ℕ, ◌≤◌, Bool, not, ◌&&◌, ◌==◌, nat_lt, nat_le, if◌then◌else◌, true, false, Option, Some, None, Result, Ok, Err}
use Rattle.xns_spp.specs.Ends.{IsCapacity, most_pending}
use Rattle.xns_connection.specs.Step.{IsMade}
use Rattle.xns_connection.specs.declared.connection.Connection.{Connection}
use Rattle.xns_connection.specs.declared.terms.Terms.{Terms}
use Rattle.xns_host.specs.declared.host_fault.HostFault.{HostFault}
use Rattle.xns_host.specs.declared.host_fault.HostFault.TheVariants.{OutOfRange}
use Rattle.xns_agenda.specs.Waiting.{usual_idle}
use Rattle.xns_agenda.specs.declared.pace.Pace.{Pace}
use Rattle.xns_host.specs.declared.setting.Setting.{Setting}
use Rattle.xns_host.specs.declared.setting.Setting.TheVariants.{Connections, Window, Backlog, FirstWait, LongestWait, LeastWait, Tries, Patience, Strays}
use Rattle.xns_host.specs.declared.settings.Settings.{Settings}

-- times are in milliseconds
abbrev pub usual_settings : Settings
usual_settings = record {
  connections = 64;
  window = 8;
  backlog = 16;
  first_wait = 250;
  longest_wait = 8000;
  least_wait = 10;
  idle = usual_idle;
  tries = 8;
  patience = 32000;
  strays = 16;
  answers_echo = true;
  tells_opened = false;
}

-- numbers of connections have 16 bits
abbrev pub most_connections : ℕ
most_connections = 65535

abbrev pub most_strays : ℕ
most_strays = 1024

-- a day
abbrev pub most_patience : ℕ
most_patience = 86400000

-- each setting is in its range
pub record IsFit (s : Settings) : Type 0 where
  pub some_connections : 1 ≤ s.connections
  pub connections : s.connections ≤ most_connections
  pub window : IsCapacity s.window
  pub backlog : IsCapacity s.backlog
  pub first_wait : 1 ≤ s.first_wait
  pub longest_wait : s.first_wait ≤ s.longest_wait
  pub some_least_wait : 1 ≤ s.least_wait
  pub least_wait : s.least_wait ≤ s.first_wait
  pub tries : 1 ≤ s.tries
  pub some_patience : 1 ≤ s.patience
  pub patience : s.patience ≤ most_patience
  pub some_strays : 1 ≤ s.strays
  pub strays : s.strays ≤ most_strays

abbrev pub is_within : ℕ → ℕ → ℕ → Bool
is_within low n high = nat_le low n && nat_le n high

-- the first setting that is out of its range
abbrev pub wrong_setting : Settings → Option Setting
wrong_setting s =
    if not (is_within 1 s.connections most_connections) then Some Connections
    else if not (is_within 1 s.window most_pending) then Some Window
    else if not (is_within 1 s.backlog most_pending) then Some Backlog
    else if s.first_wait == 0 then Some FirstWait
    else if nat_lt s.longest_wait s.first_wait then Some LongestWait
    else if not (is_within 1 s.least_wait s.first_wait) then Some LeastWait
    else if s.tries == 0 then Some Tries
    else if not (is_within 1 s.patience most_patience) then Some Patience
    else if not (is_within 1 s.strays most_strays) then Some Strays
    else None

abbrev pub answer_unless : Option Setting → Result (Unit {0}) HostFault
answer_unless None = Ok tt
answer_unless (Some setting) = Err (OutOfRange setting)

abbrev pub settings_answer : Settings → Result (Unit {0}) HostFault
settings_answer s = answer_unless (wrong_setting s)

-- what a connection's waits are made of
pub record IsPaceOf (s : Settings) (p : Pace) : Type 0 where
  pub first : p.first ≡ s.first_wait
  pub longest : p.longest ≡ s.longest_wait
  pub least : p.least ≡ s.least_wait
  pub idle : p.idle ≡ s.idle
  pub tries : p.tries ≡ s.tries
  pub patience : p.patience ≡ s.patience

-- what a connection is made with
pub record AreTermsOf (s : Settings) (t : Terms) : Type 0 where
  pub window : t.window ≡ s.window
  pub backlog : t.backlog ≡ s.backlog
  pub pace : IsPaceOf s t.pace

-- a connection that was made at this time, with these settings
pub record IsMadeBy (s : Settings) (now : ℕ) (again : Bool) (c : Connection) : Type 0 where
  pub pace : Pace
  pub paced : IsPaceOf s pace
  pub made : IsMade pace now again c
