-- What a host is made with, as C gives it.
use Rattle.std.specs.Prelude.{ℕ, not, ◌==◌, min, if◌then◌else◌}
use Rattle.xns_host.specs.Settings.{usual_settings}
use Rattle.xns_host.specs.declared.settings.Settings.{Settings}
use Rattle.xns_c.specs.declared.settings.XnsSettings.{XnsSettings}

-- a number that is 0 is not given
abbrev pub given_or : ℕ → ℕ → ℕ
given_or usual given = if given == 0 then usual else given

-- the largest number is never, which a host has as 0
abbrev pub never_idle : ℕ
never_idle = 4294967295

abbrev pub idle_in : ℕ → ℕ → ℕ
idle_in usual given = if given == never_idle then 0 else given_or usual given

abbrev pub settings_in : XnsSettings → Settings
settings_in s = record {
  connections = given_or usual_settings.connections s.connections;
  window = given_or usual_settings.window s.window;
  backlog = given_or usual_settings.backlog s.backlog;
  first_wait = given_or usual_settings.first_wait s.first_wait;
  longest_wait = given_or usual_settings.longest_wait s.longest_wait;
  least_wait = given_or (min usual_settings.least_wait (given_or usual_settings.first_wait s.first_wait)) s.least_wait;
  idle = idle_in usual_settings.idle s.idle;
  tries = given_or usual_settings.tries s.tries;
  patience = given_or usual_settings.patience s.patience;
  strays = usual_settings.strays;
  answers_echo = s.no_echo == 0;
  tells_opened = not (s.tells_opened == 0);
}

-- a time that does not come
abbrev pub never : ℕ
never = 18446744073709551615
