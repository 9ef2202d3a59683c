use Rattle.std.proofs.Common.{refl}
use Rattle.xns_c.specs.contracts.programs_handle.XnsPrograms.{the_type}
use Rattle.xns_c.specs.contracts.programs_handle.XnsProgramsHandle.exchange.Key.{name}
use Rattle.xns_c.specs.contracts.kept_programs.KeptPrograms.{the_row}
use Rattle.xns_c.proofs.Exchanges.{exchanges}
use Rattle.xns_c.proofs.programs_handle.XnsProgramsHandle.exchange.Code.{unfolded}
use Rattle.xns_c.proofs.programs_handle.XnsProgramsHandle.exchange.Statement.{statement}

pub exchange_spec : {M : Type 1} → statement M
exchange_spec 𝓤 𝓛 𝓜 𝓡 wired =
    exchanges the_row the_type (λ h. h.at) (λ h. h.kept) (λ p y. record { at = p; kept = y }) (λ p y. refl) 𝓤 𝓛 𝓜 𝓡 name (unfolded 𝓤 𝓛.H 𝓜 𝓡 wired)
