use Rattle.std.proofs.Common.{◌∙◌, ◌<◌, length, subst, sym, ℕ, Option}
use Rattle.std.specs.Prelude.{IfSome}
use Rattle.xns_agenda.proofs.Agendas.{giver_gives, giver_within}
use Rattle.xns_agenda.proofs.agenda.giver.Goals as goal

pub returns-clause-within : goal.returns-clause-within
returns-clause-within c =
    subst (λ (o : Option ℕ). IfSome o (λ k. k < length c.args.places.now.closed)) (sym c.number.ensures)
    (giver_within c.args.places.now.closed c.args.places.now.strangers c.way.result c.way.ensures.lingers c.way.ensures.stranger c.requires)

pub returns-clause-some : goal.returns-clause-some
returns-clause-some c = λ k is.
    giver_gives c.args.places.now.closed c.args.places.now.strangers c.way.result k c.way.ensures.lingers c.way.ensures.stranger (sym c.number.ensures ∙ is)
