use Rattle.courier_messages.specs.Text.{item_of}
use Rattle.courier_sessions.proofs.Judging.{wrong_answer, right_answer}
use Rattle.courier_sessions.proofs.caller.WordCallerHearer.judge.Goals as goal

pub returns-in-Some-reply_fault : goal.returns-in-Some-reply_fault
returns-in-Some-reply_fault c = rw (← c.self.view_is) (wrong_answer _ (item_of c.args.stream c.args.last c.args.body.now) c.in-Some.head
    c.reply_fault.result c.in-Some-reply_fault.fault c.in-Some-reply_fault.is (rw c.in-Some.is at c.in_ok-head.ensures)
    c.reply_fault.ensures.fault)

pub returns-in-None : goal.returns-in-None
returns-in-None c = rw (← c.self.view_is) (right_answer _ (item_of c.args.stream c.args.last c.args.body.now) c.in-Some.head
    c.reply_fault.result c.in-None.is (rw c.in-Some.is at c.in_ok-head.ensures) c.reply_fault.ensures.fault)
