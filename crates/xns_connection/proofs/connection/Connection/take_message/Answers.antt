use Rattle.std.proofs.Common.{refl, subst}
use Rattle.xns_spp.specs.Held.{Held, StandsFor}
use Rattle.std.proofs.Common.{◌≡◌, ◌∙◌, ap, sym, false, None, rules}
use Rattle.std.specs.Prelude.{not}
use Rattle.std.proofs.lemmas.Bool.{and_left, and_right}
use Rattle.xns_connection.specs.Deeds.{took}
use Rattle.xns_connection.specs.Moving.{is_calm, conversation_scene}
use Rattle.xns_connection.specs.Step.{calmly, moving_on, none_waits, parts_of}
use Rattle.xns_connection.specs.declared.conversation.Conversation.{Conversation}
use Rattle.xns_connection.proofs.Steps.{calm_then, same_connection, step_by}
use Rattle.xns_connection.proofs.connection.Connection.take_message.Goals.{else-not-self-via-then-not-self+else-is_calm, else-not-self-via-else-not-self}
use Rattle.xns_connection.proofs.connection.Connection.take_message.Goals as goal

pub returns-in_err-message-clause-step : goal.returns-in_err-message-clause-step
returns-in_err-message-clause-step c =
    let none : c.take_message.result ≡ None = search rules in
    none_waits (sym c.take_message.ensures.message ∙ none) (same_connection _ _ (ap (λ (t : Conversation). record (parts_of c.args.self.now) { conversation = t }) (c.take_message.ensures.none none)))

pub returns-then-is_calm-clause-step : goal.returns-then-is_calm-clause-step
returns-then-is_calm-clause-step c =
    let k = c.in_ok-message.ensures in
    let idle : c.args.self.now.owed.moving ≡ false = search rules in
    calmly (λ z. absurd (cc))
    (λ s stands.
    let value = c.is_calm.ensures.value s (subst (λ (e : Held). StandsFor e s) (sym k.rest.endpoint) stands) in
    calm_then c.args.self.now c.take_message.new.self s idle (ap (λ (t : Conversation). conversation_scene t s) k.is) (sym value ∙ c.if-is_calm.true))
    (ap (λ (t : Conversation). record (parts_of c.args.self.now) { conversation = t }) k.is)

pub returns-clause-step : goal.returns-clause-step
returns-clause-step c =
    let k = c.in_ok-message.ensures in
    moving_on (λ z. absurd (cc))
    (λ s stands.
    let same = ap (λ (t : Conversation). conversation_scene t s) k.is in
    elim c.else-not-self.branch [
      | else-not-self-via-then-not-self+else-is_calm w ↦ and_right (not c.args.self.now.owed.moving) _ (ap is_calm (sym same) ∙ (sym (w.is_calm.ensures.value s (subst (λ (e : Held). StandsFor e s) (sym k.rest.endpoint) stands)) ∙ w.if-is_calm.false))
      | else-not-self-via-else-not-self w ↦ and_left (not c.args.self.now.owed.moving) _ (cc)
    ])
    (step_by c.args.now took c.args.self.now _ c.take_message.new.self k.rest (λ s. ap (λ (t : Conversation). conversation_scene t s) k.is) (λ s. refl) (λ s. refl)
    c.go_on.ensures.moved tt (λ steps. steps) c.go_on.ensures.told)
