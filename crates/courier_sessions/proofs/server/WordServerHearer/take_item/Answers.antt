use Rattle.std.proofs.Common.{◌≡◌, ◌∙◌, ap, sym, refl, rules, Err, Option}
use Rattle.std.specs.Option.{option_to_list}
use Rattle.courier_messages.specs.declared.message.Message.{Message}
use Rattle.courier_messages.specs.Head.{words_in}
use Rattle.courier_sessions.specs.Answering.{is_a_call}
use Rattle.courier_sessions.proofs.Hearing.{silent, asked, no_call, stopped}
use Rattle.courier_sessions.proofs.server.WordServerHearer.take_item.Goals as goal

pub returns-in_err-message-clause-hears : goal.returns-in_err-message-clause-hears
returns-in_err-message-clause-hears c =
    let w : c.from_residual.result ≡ Err c.in_err-message.field-0.0 = search rules in
    rw (← c.self.view_is) (stopped _ _ _ c.args.item c.in_err-message.field-0.0 c.from_residual.result w refl c.in_err-message.ensures.takes)

pub returns-in_default-clause-hears : goal.returns-in_default-clause-hears
returns-in_default-clause-hears c =
    let k = c.in_ok-message.ensures.takes in
    rw (← c.self.view_is) (silent _ _ c.args.item c.take.new.self refl k.0
    (k.1 ∙ ap (λ (o : Option Message). option_to_list o) c.in_default.is))

pub returns-then-not-is_call-clause-hears : goal.returns-then-not-is_call-clause-hears
returns-then-not-is_call-clause-hears c =
    let k = c.in_ok-message.ensures.takes in
    let is : is_a_call c.in-Some.message ≡ c.is_call.result = ap is_a_call c.head.ensures
    ∙ sym (c.is_call.ensures (words_in c.in-Some.message)) in
    rw (← c.self.view_is) (no_call _ _ c.args.item c.take.new.self c.in-Some.message (is ∙ c.if-not-is_call.true) refl k.0
    (k.1 ∙ ap (λ (o : Option Message). option_to_list o) c.in-Some.is))

pub returns-clause-hears : goal.returns-clause-hears
returns-clause-hears c =
    let k = c.in_ok-message.ensures.takes in
    let is : is_a_call c.in-Some.message ≡ c.is_call.result = ap is_a_call c.head.ensures
    ∙ sym (c.is_call.ensures (words_in c.in-Some.message)) in
    rw (← c.self.view_is) (asked _ _ c.args.item c.take.new.self c.in-Some.message (is ∙ c.if-not-is_call.false) refl k.0
    (k.1 ∙ ap (λ (o : Option Message). option_to_list o) c.in-Some.is))
