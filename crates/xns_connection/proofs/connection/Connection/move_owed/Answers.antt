use Rattle.std.proofs.Common.{refl, subst, sym, Bool}
use Rattle.xns_connection.specs.Deeds.{nothing}
use Rattle.xns_connection.specs.Step.{MovesOwed, Step}
use Rattle.xns_connection.proofs.Steps.{step_by}
use Rattle.xns_connection.proofs.connection.Connection.move_owed.Goals as goal

pub returns : goal.returns
returns c =
    let step : Step c.args.now nothing c.args.self.now c.go_on.new.self
    = step_by c.args.now nothing c.args.self.now _ c.args.self.now.conversation (record { endpoint = refl; packets = refl; drains = refl }) (λ s. refl) (λ s. refl) (λ s. refl) c.go_on.ensures.moved tt
    (λ steps. steps)
    c.go_on.ensures.told in
    record { moved = subst (λ (b : Bool). MovesOwed b c.args.now c.args.self.now c.go_on.new.self) (sym c.if-not-self.false) step }
