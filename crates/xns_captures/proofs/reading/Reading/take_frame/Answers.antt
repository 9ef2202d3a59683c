use Rattle.std.proofs.Common.{◌∙◌, ◌+◌, ◌∷◌, [], ap, arith, sym, subst, length-append, None}
use Rattle.std.specs.Option.{option_or}
use Rattle.xns_captures.specs.Captures.{packets_in}
use Rattle.xns_captures.proofs.Frames.{failed_at, first-append, is_stamp, no_packet, one_packet, packets_few}
use Rattle.xns_captures.proofs.reading.Reading.take_frame.Goals as goal

pub returns-in_default-clause-ok : goal.returns-in_default-clause-ok
returns-in_default-clause-ok g c = λ frames before counted firsts said. (
  omega (arith, c.note.ensures.count, length-append frames ((c.args.link, c.args.frame.now, c.args.time) ∷ [])),
  c.note.ensures.first ∙ c.first_of.ensures ∙ ap (λ f. option_or f c.args.time) firsts ∙ sym (first-append None frames (c.args.link, c.args.frame.now, c.args.time)),
  subst (g.T.PacketTaker.stands c.args.taker.now before (g.W.Write.contents c.args.writer.now))
      (sym (no_packet frames c.args.link c.args.frame.now c.args.time c.in_default.ensures)) said,
)

pub returns-in-Ok-clause-ok : goal.returns-in-Ok-clause-ok
returns-in-Ok-clause-ok g c = λ frames before counted firsts said. (
  omega (arith, c.note-in-Ok.ensures.count, length-append frames ((c.args.link, c.args.frame.now, c.args.time) ∷ [])),
  c.note-in-Ok.ensures.first ∙ c.first_of.ensures ∙ ap (λ f. option_or f c.args.time) firsts ∙ sym (first-append None frames (c.args.link, c.args.frame.now, c.args.time)),
  subst (g.T.PacketTaker.stands c.take_packet.new.self before (g.W.Write.contents c.take_packet.new.writer))
      (sym (one_packet frames c.args.link c.args.frame.now c.in-Some.packet.now c.args.time _ c.in-Some.ensures
      (is_stamp c.args.self.now.count c.args.self.now.first frames c.args.time _ counted firsts (ap (λ f. record { number = c.args.self.now.count + 1; time = c.args.time; first = f }) c.first_of.ensures))))
      (c.in-Ok.ensures.ok before (packets_in None 1 frames) (omega (arith, counted, packets_few None 1 frames)) said),
)

pub returns-in-Err-clause-err : goal.returns-in-Err-clause-err
returns-in-Err-clause-err g c = λ frames before counted firsts said.
    failed_at c.in-Err.fault c.args.self.now.count (g.T.PacketTaker.stands c.take_packet.new.self before (g.W.Write.contents c.take_packet.new.writer))
    (g.T.PacketTaker.fails c.take_packet.new.self before (g.W.Write.contents c.take_packet.new.writer))
    (packets_in None 1 frames) _ (_, c.in-Some.packet.now)
    (one_packet frames c.args.link c.args.frame.now c.in-Some.packet.now c.args.time _ c.in-Some.ensures
    (is_stamp c.args.self.now.count c.args.self.now.first frames c.args.time _ counted firsts (ap (λ f. record { number = c.args.self.now.count + 1; time = c.args.time; first = f }) c.first_of.ensures)))
    (c.in-Err.ensures.err before (packets_in None 1 frames) (omega (arith, counted, packets_few None 1 frames)) said)
