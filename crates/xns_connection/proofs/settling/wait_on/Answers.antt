use Rattle.std.proofs.Common.{◌∙◌, ap, ℕ, Bool, Option}
use Rattle.xns_agenda.specs.Waiting.{after_step}
use Rattle.xns_connection.specs.Closing.{wants_word}
use Rattle.xns_connection.proofs.Dues.{step_again, step_asked, step_open}
use Rattle.xns_connection.proofs.settling.wait_on.Goals as goal

pub returns-clause-waits : goal.returns-clause-waits
returns-clause-waits c = λ s stands.
    let wants : Bool = wants_word c.args.conversation.now.side c.args.conversation.now.closing in
    c.step.ensures
    ∙ ap (λ (b : Bool). after_step c.args.wait.now c.waits-waiting.result b c.args.now) c.asks_word.ensures
    ∙ step_asked c.args.wait.now c.waits-waiting.result wants c.args.now
    ∙ ap (λ (m : Option ℕ). after_step c.args.wait.now m wants c.args.now) (c.waits-waiting.ensures.value s stands)

pub returns-clause-timed : goal.returns-clause-timed
returns-clause-timed c = λ s stands some. step_again c.args.wait.now c.step.new.self c.waits-waiting.result c.asks_word.result c.args.now c.requires c.step.ensures (λ none. some (c.waits-waiting.ensures.tick s stands none))

pub returns-clause-open_due : goal.returns-clause-open_due
returns-clause-open_due c = step_open c.args.wait.now c.step.new.self c.waits-waiting.result c.asks_word.result c.args.now c.requires c.step.ensures
