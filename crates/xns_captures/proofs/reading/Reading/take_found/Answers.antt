use Rattle.std.proofs.Common.{◌+◌, ◌-◌, ap, ◌∙◌, take, drop}
use Rattle.std.proofs.lemmas.Result.{IfErr-weaker, on_ok_weaker}
use Rattle.xns_captures.specs.Captures.{contents, with_frame}
use Rattle.xns_captures.proofs.Steps.{at_part_as}
use Rattle.xns_captures.proofs.Frames.{same_frame, same_rest, stops_at_frame, takes_frame}
use Rattle.xns_captures.proofs.reading.Reading.take_found.Goals as goal

pub returns-clause-ok : goal.returns-clause-ok
returns-clause-ok g c =
    on_ok_weaker c.take_frame.result (λ taken. λ read tail before h.
    let t = taken h.frames before h.count h.first h.taken in
    takes_frame c.args.self.now c.take_frame.new.self read c.args.bytes.now tail _ _
    (c.args.frame.link, take (c.args.frame.start + c.args.frame.count - c.args.frame.start) (drop c.args.frame.start c.args.bytes.now), c.args.frame.time)
    (λ rest. at_part_as c.args.self.now.format c.args.self.now.interfaces.items c.args.bytes.now rest _ c.requires.whole.head c.requires.whole.of_head c.requires.found
    ∙ same_frame c.args.frame c.args.bytes.now (contents c.args.self.now.format c.args.self.now.interfaces.items rest)
    ∙ ap (with_frame (c.args.frame.link, take (c.args.frame.start + c.args.frame.count - c.args.frame.start) (drop c.args.frame.start c.args.bytes.now), c.args.frame.time))
    (same_rest c.take_frame.new.self c.args.self.now.format c.args.self.now.interfaces.items rest c.take_frame.ensures.format c.take_frame.ensures.interfaces)) h t.0 t.1 t.2)
    c.take_frame.ensures.ok

pub returns-clause-err : goal.returns-clause-err
returns-clause-err g c =
    IfErr-weaker c.take_frame.result _ _ (λ fault stopped. λ read tail before h.
    stops_at_frame fault c.args.self.now read c.args.bytes.now tail _ _ _
    (c.args.frame.link, take (c.args.frame.start + c.args.frame.count - c.args.frame.start) (drop c.args.frame.start c.args.bytes.now), c.args.frame.time)
    (λ rest. contents c.args.self.now.format c.args.self.now.interfaces.items rest)
    (λ rest. at_part_as c.args.self.now.format c.args.self.now.interfaces.items c.args.bytes.now rest _ c.requires.whole.head c.requires.whole.of_head c.requires.found
    ∙ same_frame c.args.frame c.args.bytes.now (contents c.args.self.now.format c.args.self.now.interfaces.items rest)) h (stopped h.frames before h.count h.first h.taken))
    c.take_frame.ensures.err
