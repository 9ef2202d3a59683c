use Rattle.std.proofs.Common.{◌≡◌, ◌∙◌, sym, ap, subst, true, refl}
use Rattle.std.specs.Prelude.{is_some}
use Rattle.xns_spp.proofs.Single.{flushes_one, others_flush_none}
use Rattle.xns_spp.proofs.Steps.{on_err}
use Rattle.xns_spp.specs.Ends.{is_open}
use Rattle.xns_spp.specs.Held.{Held, StandsFor}
use Rattle.xns_spp.specs.Inside.{held_by}
use Rattle.xns_spp.specs.Numbers.{send_limit_at}
use Rattle.xns_spp.specs.State.{State}
use Rattle.xns_spp.specs.Telling.{single_answer, after_single}
use Rattle.xns_spp.proofs.endpoint.Endpoint.flush_single.Goals as goal

pub returns-then-number-reach-clause-answer : goal.returns-then-number-reach-clause-answer
returns-then-number-reach-clause-answer c = λ s stands.
    (others_flush_none (held_by c.self.inside) s c.send_limit-reach.result (rw c.self.view_is stands) c.if-number-reach.true c.send_limit-reach.ensures).answer

pub returns-then-number-reach-clause-stands : goal.returns-then-number-reach-clause-stands
returns-then-number-reach-clause-stands c = λ s stands.
    subst (λ (v : Held). StandsFor v (after_single s)) c.self.view_is
    (others_flush_none (held_by c.self.inside) s c.send_limit-reach.result (rw c.self.view_is stands) c.if-number-reach.true c.send_limit-reach.ensures).stands

pub returns-in_err-packet-clause-memory : goal.returns-in_err-packet-clause-memory
returns-in_err-packet-clause-memory c =
    on_err c.from_residual.result ((s : State) → StandsFor c.args.self.now s → is_some (single_answer s) ≡ true)
    (λ s stands.
    (flushes_one (held_by c.self.inside) s c.self.inside.numbers.sent c.send_limit-reach.result (rw c.self.view_is stands) (sym c.is_open.ensures ∙ c.if-not-is_open.false) refl c.if-number-reach.false c.send_limit-reach.ensures).memory)

pub returns-clause-answer : goal.returns-clause-answer
returns-clause-answer c = λ s stands.
    let opened = subst (λ (v : Held). is_open v.ends ≡ true) c.self.view_is (sym c.is_open.ensures ∙ c.if-not-is_open.false) in
    let sent = ap (λ (v : Held). v.numbers.sent) c.self.view_is in
    let reach = c.send_limit-reach.ensures ∙ ap (λ (v : Held). send_limit_at v.numbers) c.self.view_is in
    (flushes_one c.args.self.now s c.self.inside.numbers.sent c.send_limit-reach.result stands opened sent c.if-number-reach.false reach).answer _ c.in_ok-packet.ensures

pub returns-clause-stands : goal.returns-clause-stands
returns-clause-stands c = λ s stands.
    (flushes_one (held_by c.self.inside) s c.self.inside.numbers.sent c.send_limit-reach.result (rw c.self.view_is stands) (sym c.is_open.ensures ∙ c.if-not-is_open.false) refl c.if-number-reach.false c.send_limit-reach.ensures).stands
