-- A connection that was made on the terms of these settings is made as they say.
use Rattle.std.proofs.Common.{subst, ℕ, Bool}
use Rattle.xns_connection.specs.Step.{IsMade}
use Rattle.xns_connection.specs.declared.connection.Connection.{Connection}
use Rattle.xns_connection.specs.declared.terms.Terms.{Terms}
use Rattle.xns_host.specs.Settings.{AreTermsOf, IsMadeBy}
use Rattle.xns_host.specs.declared.settings.Settings.{Settings}

pub on_terms : (s : Settings) (t : Terms) → AreTermsOf s t → (P : (window backlog : ℕ) → Type 0) → P t.window t.backlog → P s.window s.backlog
on_terms s t fits P p = subst (λ (n : ℕ). P s.window n) fits.backlog (subst (λ (n : ℕ). P n t.backlog) fits.window p)

pub made_on : (s : Settings) (t : Terms) → AreTermsOf s t → (now : ℕ) (again : Bool) (c : Connection) → IsMade t.pace now again c → IsMadeBy s now again c
made_on s t fits now again c made = record { pace = t.pace; paced = fits.pace; made = made }
