use Rattle.std.proofs.Common.{◌≡◌, rules, subst, ℕ, None}
use Rattle.xns_agenda.specs.Times.{HasEarliest, IsEarliest}
use Rattle.xns_agenda.proofs.places.Places.way.Goals as goal

pub returns-in-Some-clause-lingers : goal.returns-in-Some-clause-lingers
returns-in-Some-clause-lingers c = λ k t is.
    let here : IsEarliest c.args.self.now.closed c.in-Some.number c.in-Some.forgotten_at = c.first.ensures.some c.in-Some.number c.in-Some.forgotten_at c.in-Some.is in
    let number : c.in-Some.number ≡ k = cc in
    let time : c.in-Some.forgotten_at ≡ t = cc in
    subst (λ (n : ℕ). IsEarliest c.args.self.now.closed n t) number (subst (λ (s : ℕ). IsEarliest c.args.self.now.closed c.in-Some.number s) time here)

pub returns-in-Some-first-clause-stranger : goal.returns-in-Some-first-clause-stranger
returns-in-Some-first-clause-stranger c = λ k t is.
    let none : HasEarliest c.args.self.now.closed None = search rules in
    let here : IsEarliest c.args.self.now.strangers c.in-Some-first.number c.in-Some-first.heard_at = c.first-2.ensures.some c.in-Some-first.number c.in-Some-first.heard_at c.in-Some-first.is in
    let number : c.in-Some-first.number ≡ k = cc in
    let time : c.in-Some-first.heard_at ≡ t = cc in
    (none, subst (λ (n : ℕ). IsEarliest c.args.self.now.strangers n t) number (subst (λ (s : ℕ). IsEarliest c.args.self.now.strangers c.in-Some-first.number s) time here))
