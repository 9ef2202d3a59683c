use Rattle.item_world.proofs.Quiet.{took_none, took_one}
use Rattle.item_world.proofs.participant.Participant.take.Goals as goal

pub returns-in_ok-push : goal.returns-in_ok-push
returns-in_ok-push c laws s h =
    took_one laws c.args.self.now s c.in-Some.item c.take.new.self c.push.new.self h (c.in-Some.ensures.answer s h.stands) (c.in-Some.ensures.stands s h.stands) c.in_ok-push.ensures.ok

pub returns-in_default : goal.returns-in_default
returns-in_default c laws s h = took_none laws c.args.self.now s c.take.new.self h (c.in_default.ensures.answer s h.stands) (c.in_default.ensures.stands s h.stands)
