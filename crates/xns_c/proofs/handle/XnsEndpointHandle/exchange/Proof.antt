use Rattle.std.proofs.Common.{refl}
use Rattle.xns_c.specs.contracts.handle.XnsEndpoint.{the_type}
use Rattle.xns_c.specs.contracts.handle.XnsEndpointHandle.exchange.Key.{name}
use Rattle.xns_c.specs.contracts.connection.Connection.{the_row}
use Rattle.xns_c.proofs.Exchanges.{exchanges}
use Rattle.xns_c.proofs.handle.XnsEndpointHandle.exchange.Code.{unfolded}
use Rattle.xns_c.proofs.handle.XnsEndpointHandle.exchange.Statement.{statement}

pub exchange_spec : {M : Type 1} → statement M
exchange_spec 𝓤 𝓛 𝓜 𝓡 wired =
    exchanges the_row the_type (λ h. h.at) (λ h. h.line) (λ p y. record { at = p; line = y }) (λ p y. refl) 𝓤 𝓛 𝓜 𝓡 name (unfolded 𝓤 𝓛.H 𝓜 𝓡 wired)
