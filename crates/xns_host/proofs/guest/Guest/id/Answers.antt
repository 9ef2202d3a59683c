use Rattle.std.proofs.Common.{◌∙◌, ap, ℕ}
use Rattle.std.proofs.Math.Logic.{∥∥₁_elim}
use Rattle.std.proofs.Props.{props}
use Rattle.xns_idp.specs.declared.address.Address.{Address}
use Rattle.xns_host.proofs.Ends.{end_id}
use Rattle.xns_host.proofs.guest.Guest.id.Goals as goal

-- the end of the connection has a history, and its name is that of each history that it has
pub returns : goal.returns
returns c = ∥∥₁_elim c.args.self.now.connection.stands (Prim.hlevel props)
    (λ has. ap (λ (name : Address × ℕ). name.1) (c.own-id.ensures has.0 has.1) ∙ end_id c.args.self.now has.0 has.1)
