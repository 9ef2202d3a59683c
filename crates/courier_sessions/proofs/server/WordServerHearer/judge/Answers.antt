use Rattle.std.proofs.Common.{◌≡◌, rules, subst, sym, Err, Result}
use Rattle.courier_messages.specs.declared.fault.SessionFault.{SessionFault}
use Rattle.courier_messages.specs.Text.{item_of}
use Rattle.courier_sessions.specs.Answering.{after_item}
use Rattle.courier_sessions.specs.Feeding.{Judges}
use Rattle.courier_sessions.proofs.Judging.{fault_first, no_call_yet, one_call, another_message}
use Rattle.courier_sessions.proofs.server.WordServerHearer.judge.Goals as goal

pub returns-in_err-head : goal.returns-in_err-head
returns-in_err-head c =
    let w : c.from_residual.result ≡ Err c.in_err-head.field-0.0 = search rules in
    subst (λ (r : Result (Unit {0}) SessionFault). Judges r (after_item c.args.self.now
    (item_of c.args.stream c.args.last c.args.body.now))) (sym w)
    (rw (← c.self.view_is) (fault_first _ c.in_err-head.field-0.0
    (item_of c.args.stream c.args.last c.args.body.now) c.in_err-head.ensures))

pub returns-in_default : goal.returns-in_default
returns-in_default c = rw (← c.self.view_is) (no_call_yet _ (item_of c.args.stream c.args.last c.args.body.now)
    (rw c.in_default.is at c.in_ok-head.ensures))

pub returns-then-is_call : goal.returns-then-is_call
returns-then-is_call c = rw (← c.self.view_is) (one_call _ (item_of c.args.stream c.args.last c.args.body.now) c.in-Some.head
    c.is_call.result c.if-is_call.true (rw c.in-Some.is at c.in_ok-head.ensures) c.is_call.ensures)

pub returns-else-is_call : goal.returns-else-is_call
returns-else-is_call c = rw (← c.self.view_is) (another_message _ (item_of c.args.stream c.args.last c.args.body.now) c.in-Some.head
    c.is_call.result c.if-is_call.false (rw c.in-Some.is at c.in_ok-head.ensures) c.is_call.ensures)
