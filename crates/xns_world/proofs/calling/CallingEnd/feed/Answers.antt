use Rattle.xns_world.proofs.CallingEnds.{calling_feeds, calling_none}
use Rattle.xns_world.specs.CallPlay.{caller_history}
use Rattle.xns_world.proofs.calling.CallingEnd.feed.Goals as goal

pub returns-in-Ok : goal.returns-in-Ok
returns-in-Ok g c p w given holds h =
    calling_feeds p c.args.self.now w c.in-Some.item c.take.new.self c.feed.new.self given holds h (c.in-Some.ensures.answer w.world.a h.stands) (c.in-Some.ensures.stands w.world.a h.stands)
    (c.in-Ok.ensures.stands p.serving.table (caller_history p w) h.session).0

pub returns-in_default : goal.returns-in_default
returns-in_default g c p w given holds h =
    calling_none p c.args.self.now w c.take.new.self given h (c.in_default.ensures.answer w.world.a h.stands) (c.in_default.ensures.stands w.world.a h.stands)
