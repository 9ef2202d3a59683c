use Rattle.std.proofs.Common.{◌≡◌, ◌∙◌, ap, refl, rules, Err}
use Rattle.std.specs.Option.{option_to_list}
use Rattle.std.specs.Prelude.{Option}
use Rattle.courier_messages.specs.declared.message.Message.{Message}
use Rattle.courier_calls.specs.Calls.{seen_model}
use Rattle.courier_messages.specs.Phases.{run, said}
use Rattle.courier_messages.specs.Text.{signs}
use Rattle.courier_calls.proofs.CallerWithItem.{hears_answer}
use Rattle.courier_calls.proofs.HeadFaults.{judged}
use Rattle.courier_calls.proofs.caller.Caller.take_item.Goals as goal

pub returns-in_err-judge-clause-heard : goal.returns-in_err-judge-clause-heard
returns-in_err-judge-clause-heard c =
    let old = c.args.self.now in
    let x = c.args.item in
    let w : c.from_residual.result ≡ Err c.in_err-judge.field-0.0 = search rules in
    judged old old (said old.phase (signs x)) (run old.phase (signs x)) c.in_err-judge.field-0.0 c.from_residual.result w refl refl c.in_err-judge.ensures

pub returns-clause-heard : goal.returns-clause-heard
returns-clause-heard c =
    let takes = c.in_ok-message.ensures.takes in
    rw (← c.self.view_is) (hears_answer _ _ _ _ c.in-Some.message (takes.1 ∙ ap (λ (o : Option Message). option_to_list o) c.in-Some.is) takes.0
    (record { target = c.in-Some-waiting.target; seen = seen_model c.in_ok-seen.seen; waited = c.in-Some-waiting.is; answer = c.in_ok-seen.ensures.read; waiting = refl; outcome = refl }))

pub returns-in_default-clause-memory : goal.returns-in_default-clause-memory
returns-in_default-clause-memory c = search rules
