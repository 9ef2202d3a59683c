use Rattle.std.proofs.Common.{[], ◌++◌, ap, sym, ◌∙◌, refl, Err}
use Rattle.xns_captures.specs.Captures.{contents, empty_frame, with_frame}
use Rattle.xns_captures.proofs.Interfaces.{few_with, has_room}
use Rattle.xns_captures.proofs.Steps.{at_part_as}
use Rattle.xns_captures.proofs.Frames.{moves, same_rest, stops_at_frame, stops_at_part, stops_in_run, takes_frame}
use Rattle.xns_captures.proofs.reading.Reading.take_part.Goals as goal

pub returns-in-Err-clause-err : goal.returns-in-Err-clause-err
returns-in-Err-clause-err g c = λ read tail before h.
    let is_part = rw c.as_slice.ensures.value at c.in-Err.ensures.value in
    stops_at_part c.args.self.now read c.args.bytes.now tail _ _ c.in-Err.fault
    (λ rest. at_part_as c.args.self.now.format c.args.self.now.interfaces.items c.args.bytes.now rest (Err c.in-Err.fault) c.requires.head c.requires.of_head (sym is_part))
    h h.taken

pub returns-in-Begins-clause-ok : goal.returns-in-Begins-clause-ok
returns-in-Begins-clause-ok g c = λ read tail before h.
    let is_part = rw (c.as_slice.ensures.value, c.in-Begins.is) at c.in-Ok.ensures.value in
    moves c.args.self.now c.begin.new.self read c.args.bytes.now tail _ c.begin.ensures.count c.begin.ensures.first
    (λ rest. at_part_as c.args.self.now.format c.args.self.now.interfaces.items c.args.bytes.now rest _ c.requires.head c.requires.of_head (sym is_part)
    ∙ same_rest c.begin.new.self c.in-Begins.format [] rest c.begin.ensures.format c.begin.ensures.interfaces) h

pub returns-in-Ok-push-clause-ok : goal.returns-in-Ok-push-clause-ok
returns-in-Ok-push-clause-ok g c = λ read tail before h.
    let is_part = rw (c.as_slice.ensures.value, c.in-Interface.is) at c.in-Ok.ensures.value in
    moves c.args.self.now _ read c.args.bytes.now tail _ refl refl
    (λ rest. at_part_as c.args.self.now.format c.args.self.now.interfaces.items c.args.bytes.now rest _ c.requires.head c.requires.of_head (sym is_part)
    ∙ ap (λ interfaces. contents c.args.self.now.format interfaces rest) (sym c.in-Ok-push.ensures.items)) h

pub returns-in-Err-push-clause-err : goal.returns-in-Err-push-clause-err
returns-in-Err-push-clause-err g c = λ read tail before h. stops_in_run c.args.self.now _ read (c.args.bytes.now ++ tail) _ _ tt h h.taken

pub returns-in-Continues-clause-ok : goal.returns-in-Continues-clause-ok
returns-in-Continues-clause-ok g c = λ read tail before h.
    let is_part = rw (c.as_slice.ensures.value, c.in-Continues.is) at c.in-Ok.ensures.value in
    moves c.args.self.now _ read c.args.bytes.now tail _ refl refl
    (λ rest. at_part_as c.args.self.now.format c.args.self.now.interfaces.items c.args.bytes.now rest _ c.requires.head c.requires.of_head (sym is_part)) h

pub returns-in-Ok-take_frame-clause-ok : goal.returns-in-Ok-take_frame-clause-ok
returns-in-Ok-take_frame-clause-ok g c = λ read tail before h.
    let is_part = rw (c.as_slice.ensures.value, c.in-Counted.is) at c.in-Ok.ensures.value in
    let t = c.in-Ok-take_frame.ensures.ok h.frames before h.count h.first h.taken in
    takes_frame c.args.self.now _ read c.args.bytes.now tail _ _ empty_frame
    (λ rest. at_part_as c.args.self.now.format c.args.self.now.interfaces.items c.args.bytes.now rest _ c.requires.head c.requires.of_head (sym is_part)
    ∙ ap (λ interfaces. with_frame empty_frame (contents c.in-Counted.format interfaces rest)) (sym c.take_frame.ensures.interfaces)) h t.0 t.1 t.2

pub returns-in-Err-take_frame-clause-err : goal.returns-in-Err-take_frame-clause-err
returns-in-Err-take_frame-clause-err g c = λ read tail before h.
    let is_part = rw (c.as_slice.ensures.value, c.in-Counted.is) at c.in-Ok.ensures.value in
    stops_at_frame c.in-Err-take_frame.fault c.args.self.now read c.args.bytes.now tail _ _ _ empty_frame
    (λ rest. contents c.in-Counted.format c.args.self.now.interfaces.items rest)
    (λ rest. at_part_as c.args.self.now.format c.args.self.now.interfaces.items c.args.bytes.now rest _ c.requires.head c.requires.of_head (sym is_part))
    h (c.in-Err-take_frame.ensures.err h.frames before h.count h.first h.taken)

pub invariant_of-self : goal.invariant_of-self
invariant_of-self g c =
    let is_part = rw (c.as_slice.ensures.value, c.in-Interface.is) at c.in-Ok.ensures.value in record {
      few = few_with c.args.self.now.interfaces.items _ c.in-Interface.interface _
          (has_room c.args.self.now.format c.args.self.now.interfaces.items c.args.bytes.now c.in-Interface.interface is_part) c.push.ensures.items;
    }
