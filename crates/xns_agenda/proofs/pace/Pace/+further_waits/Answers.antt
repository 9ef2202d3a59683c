use Rattle.std.proofs.Common.{◌≡◌, ◌-◌, ℕ, ◌≤◌, subst}
use Rattle.xns_agenda.specs.Measuring.{further_waits}
use Rattle.xns_agenda.proofs.Measures.{one_further}
use Rattle.xns_agenda.proofs.pace.Pace.+further_waits.Goals as goal

pub returns-clause-value : goal.returns-clause-value
returns-clause-value t c = λ most all.
    one_further most c.args.self.now c.args.length c.args.span c.further_waits.result c.requires.some c.if-span-length.false all
    (subst (λ (l : ℕ). (n : ℕ) → c.args.span - c.args.length ≤ n → c.further_waits.result ≡ further_waits n c.args.self.now l (c.args.span - c.args.length))
    c.next_length.ensures.value c.further_waits.ensures.value)
