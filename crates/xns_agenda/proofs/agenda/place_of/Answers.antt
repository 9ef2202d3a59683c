use Rattle.std.proofs.Common.{◌≡◌, rules, subst, ℕ}
use Rattle.xns_agenda.specs.Agenda.{GetsNumber, free_number, given_way}
use Rattle.xns_agenda.specs.Turns.{HasNoTurn}
use Rattle.xns_agenda.proofs.agenda.place_of.Goals as goal

pub returns-in-Some-clause-some : goal.returns-in-Some-clause-some
returns-in-Some-clause-some c = λ k is.
    let same : c.in-Some.number ≡ k = cc in
    subst (λ (n : ℕ). GetsNumber c.args.free.now c.args.places.now.closed c.args.places.now.strangers n) same (free_number c.in-Some.number c.in-Some.ensures.some.has)

pub returns-clause-some : goal.returns-clause-some
returns-clause-some c = λ k is.
    let none : HasNoTurn c.args.free.now = search rules in
    given_way k none (c.giver.ensures.some k is)
