use Rattle.std.proofs.Common.{rules}
use Rattle.xns_connection.proofs.Steps.{then_kept, then_open, then_shut}
use Rattle.xns_connection.proofs.settling.after_moving.Goals as goal

pub returns-then-is_some-clause-closes : goal.returns-then-is_some-clause-closes
returns-then-is_some-clause-closes c = then_kept c.args.now c.args.conversation.now c.args.moved c.args.closed.now c.args.wait.now (search rules)

pub returns-then-is_some-2-clause-closes : goal.returns-then-is_some-2-clause-closes
returns-then-is_some-2-clause-closes c =
    let is = c.give_up.ensures.rest in
    let lingers = c.linger.ensures in
    rw (is, lingers)
    (then_shut c.args.now c.args.conversation.now c.args.moved c.args.closed.now c.why_after-why.result c.args.wait.now (search rules) (search rules) c.why_after-why.ensures)

pub returns-clause-closes : goal.returns-clause-closes
returns-clause-closes c =
    then_open c.args.now c.args.conversation.now c.args.moved c.args.closed.now c.why_after-why.result c.args.wait.now c.wait_on.new.wait (search rules) (search rules)
    c.why_after-why.ensures c.wait_on.ensures.waits c.wait_on.ensures.steps
