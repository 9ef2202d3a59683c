use Rattle.std.proofs.Common.{◌≡◌, Err, rules, subst, sym, Result, Option}
use Rattle.courier_messages.specs.declared.head.Head.{Head}
use Rattle.courier_messages.specs.declared.fault.SessionFault.{SessionFault}
use Rattle.courier_messages.specs.Phases.{run, said}
use Rattle.courier_messages.specs.Refusal.{Foresees}
use Rattle.courier_messages.specs.Text.{signs, item_of}
use Rattle.courier_messages.proofs.Foreseen.{foreseen_open, foreseen_mark, foreseen_fault}
use Rattle.courier_messages.proofs.Runs.{other_stream}
use Rattle.courier_messages.proofs.incoming.Incoming.look.Goals as goal

pub returns-then-stream-ne0 : goal.returns-then-stream-ne0
returns-then-stream-ne0 c = other_stream c.args.self.now (item_of c.args.stream c.args.last c.args.body.now) c.if-stream-ne0.true

pub returns-in_err-stage : goal.returns-in_err-stage
returns-in_err-stage c =
    let x = item_of c.args.stream c.args.last c.args.body.now in
    let w : c.from_residual.result ≡ Err c.in_err-stage.field-0.0 = search rules in
    subst (λ (r : Result (Option Head) SessionFault). Foresees r (run c.args.self.now (signs x)) (said c.args.self.now (signs x))) (sym w)
    (rw (← c.self.view_is) (foreseen_fault c.in_err-stage.field-0.0 _ x c.if-stream-ne0.false c.in_err-stage.ensures.stops))

pub returns-then-last : goal.returns-then-last
returns-then-last c =
    rw (← c.self.view_is) (foreseen_mark c.look_at_mark.result _ _ (item_of c.args.stream c.args.last c.args.body.now) c.if-stream-ne0.false c.if-last.true c.in_ok-stage.ensures.runs c.look_at_mark.ensures)

pub returns-else-last : goal.returns-else-last
returns-else-last c =
    rw (← c.self.view_is) (foreseen_open _ _ (item_of c.args.stream c.args.last c.args.body.now) c.if-stream-ne0.false c.if-last.false c.in_ok-stage.ensures.runs)
