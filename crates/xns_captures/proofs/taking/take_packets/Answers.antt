use Rattle.std.proofs.Common.{◌≡◌, ◌∙◌, ◌⊎◌, inl, inr, ap, sym, subst, lit≤, ◌++◌, drop, List, ℕ, [], None, Some}
use Rattle.std.proofs.lemmas.List.{nil_from_length}
use Rattle.std.proofs.lemmas.Result.{err_from_is_err_and}
use Rattle.xns_captures.specs.Captures.{packets_in}
use Rattle.xns_captures.specs.Reading.{HasRead, HasStopped, IsOfNoLine, Says, StandsAfter}
use Rattle.xns_captures.specs.declared.file_fault.FileFault.TheVariants.{Run}
use Rattle.xns_captures.specs.declared.reading.Reading.{Reading}
use Rattle.xns_lines.specs.declared.fault.RunFault.{RunFault}
use Rattle.xns_lines.specs.declared.fault.RunFault.TheVariants as run
use Rattle.xns_lines.proofs.Writes.{consumes_kept, consumes_nothing, consumes_trans}
use Rattle.xns_captures.proofs.Frames.{stops_in_run}
use Rattle.xns_captures.proofs.Fuel.{contents-none}
use Rattle.xns_captures.proofs.Whole.{anew, begun, ended, grown, paused, stops_by}
use Rattle.xns_captures.proofs.taking.take_packets.Goals as goal

pub file-init : goal.file-init
file-init g c = (
  [],
  consumes_nothing _,
  (λ before said. subst (λ kept. HasRead c.new-reading.result [] kept (g.T.PacketTaker.stands c.args.taker.now before (g.W.Write.contents c.args.writer.now)))
      (sym c.new-window.ensures)
      (begun c.new-reading.result _ c.new-reading.ensures.format c.new-reading.ensures.interfaces c.new-reading.ensures.count c.new-reading.ensures.first said)),
  rw c.new-window.ensures (contents-none c.new-reading.result.format c.new-reading.result.interfaces.items),
  rw c.new-window.ensures (lit≤ tt),
)

-- a read that fails, or one for which there is no memory, leaves the taker as it is
unread : (fault : RunFault) (reading : Reading) (read kept : List ℕ) (stands fails : Says) → (fault ≡ run.NoMemory) ⊎ (fault ≡ run.Read)
    → HasRead reading read kept stands → HasStopped (Run fault) read (StandsAfter (Run fault) stands fails)
unread fault reading read kept stands fails (inl e) h =
    subst (λ f. HasStopped (Run f) read (StandsAfter (Run f) stands fails)) (sym e) (stops_in_run reading run.NoMemory read kept _ _ tt h h.taken)
unread fault reading read kept stands fails (inr e) h =
    subst (λ f. HasStopped (Run f) read (StandsAfter (Run f) stands fails)) (sym e) (stops_in_run reading run.Read read kept _ _ tt h h.taken)

pub returns-in-Err-clause-err : goal.returns-in-Err-clause-err
returns-in-Err-clause-err g c =
    let so_far = c.file.invariant in
    stops_by (Run c.in-Err.fault) (g.R.Read.remaining c.args.reader.now) (g.R.Read.remaining c.read_piece.new.reader) so_far.0
    (λ before. g.T.PacketTaker.stands c.args.taker.now before (g.W.Write.contents c.args.writer.now))
    (λ before. StandsAfter (Run c.in-Err.fault) (g.T.PacketTaker.stands c.file.taker before (g.W.Write.contents c.file.writer))
    (g.T.PacketTaker.fails c.file.taker before (g.W.Write.contents c.file.writer)))
    (consumes_kept _ _ _ so_far.0 so_far.1 c.in-Err.ensures.err.1)
    (λ before said. unread c.in-Err.fault c.file.reading so_far.0 c.file.window.bytes _ _ c.in-Err.ensures.err.0 (so_far.2 before said))

pub returns-then-count-eq0-clause-ok : goal.returns-then-count-eq0-clause-ok
returns-then-count-eq0-clause-ok g c =
    let so_far = c.file.invariant in
    let more = c.in-Ok.ensures.ok in
    ended _ _ _ c.file.reading so_far.0 c.file.window.bytes more.0 c.as_slice.result.now None
    (λ before. g.T.PacketTaker.stands c.args.taker.now before (g.W.Write.contents c.args.writer.now))
    (λ before. g.T.PacketTaker.stands c.file.taker before (g.W.Write.contents c.file.writer))
    so_far.1 more.2 (nil_from_length more.0 (sym more.3 ∙ c.if-count-eq0.true)) (more.4 c.if-count-eq0.true)
    so_far.3 (c.as_slice.ensures ∙ more.1) (sym c.end_fault.ensures ∙ c.in_default.is) so_far.2

pub returns-in-Some-clause-err : goal.returns-in-Some-clause-err
returns-in-Some-clause-err g c =
    let so_far = c.file.invariant in
    let more = c.in-Ok.ensures.ok in
    ended _ _ _ c.file.reading so_far.0 c.file.window.bytes more.0 c.as_slice.result.now (Some c.in-Some.fault)
    (λ before. g.T.PacketTaker.stands c.args.taker.now before (g.W.Write.contents c.args.writer.now))
    (λ before. g.T.PacketTaker.stands c.file.taker before (g.W.Write.contents c.file.writer))
    so_far.1 more.2 (nil_from_length more.0 (sym more.3 ∙ c.if-count-eq0.true)) (more.4 c.if-count-eq0.true)
    so_far.3 (c.as_slice.ensures ∙ more.1) (sym c.end_fault.ensures ∙ c.in-Some.is) so_far.2

pub returns-in_err-taken-clause-err : goal.returns-in_err-taken-clause-err
returns-in_err-taken-clause-err g c =
    let so_far = c.file.invariant in
    let more = c.in-Ok.ensures.ok in
    let p = err_from_is_err_and c.from_residual.result c.from_residual.ensures.1 in
    rw (p.1, p.2) (
    stops_by _ (g.R.Read.remaining c.args.reader.now) (g.R.Read.remaining c.read_piece.new.reader)
    (so_far.0 ++ more.0)
    (λ before. g.T.PacketTaker.stands c.args.taker.now before (g.W.Write.contents c.args.writer.now))
    _
    (consumes_trans _ _ _ so_far.0 _ so_far.1 more.2)
    (λ before said.
    c.in_err-taken.ensures.err (so_far.0 ++ more.0) before
    (anew c.file.reading (so_far.0 ++ more.0) (c.file.window.bytes ++ more.0) _ _ _
    (c.as_slice-in-file.ensures ∙ more.1)
    (grown c.file.reading so_far.0 c.file.window.bytes more.0 _ (so_far.2 before said)) (λ said'. said')))
    )

pub returns-in-Err-pause-clause-err : goal.returns-in-Err-pause-clause-err
returns-in-Err-pause-clause-err g c =
    let so_far = c.file.invariant in
    let more = c.in-Ok.ensures.ok in
    stops_by (Run c.in-Err-pause.fault) (g.R.Read.remaining c.args.reader.now) (g.R.Read.remaining c.read_piece.new.reader)
    (so_far.0 ++ more.0)
    (λ before. g.T.PacketTaker.stands c.args.taker.now before (g.W.Write.contents c.args.writer.now))
    (λ before. StandsAfter (Run c.in-Err-pause.fault) (g.T.PacketTaker.stands c.pause.new.self before (g.W.Write.contents c.pause.new.writer))
    (g.T.PacketTaker.fails c.pause.new.self before (g.W.Write.contents c.pause.new.writer)))
    (consumes_trans _ _ _ so_far.0 _ so_far.1 more.2)
    (λ before said.
    let h = c.in_ok-taken.ensures.ok (so_far.0 ++ more.0) before
    (anew c.file.reading (so_far.0 ++ more.0) (c.file.window.bytes ++ more.0) _ _ _
    (c.as_slice-in-file.ensures ∙ more.1)
    (grown c.file.reading so_far.0 c.file.window.bytes more.0 _ (so_far.2 before said)) (λ said'. said')) in
    stops_in_run c.take_parts.new.self c.in-Err-pause.fault _ _ _ _ (subst IsOfNoLine (sym c.in-Err-pause.ensures.err.0) tt) h
    (paused c.in-Err-pause.fault _ _ _ c.in-Err-pause.ensures.err.0 (c.in-Err-pause.ensures.err.1 before (packets_in None 1 h.frames) h.taken)))

pub file-preserved : goal.file-preserved
file-preserved g c =
    let so_far = c.file.invariant in
    let more = c.in-Ok.ensures.ok in
    let kept : c.drop_front.new.self.bytes ≡ drop c.in_ok-taken.taken c.as_slice-in-file.result.now =
    c.drop_front.ensures.bytes ∙ ap (drop c.in_ok-taken.taken) (sym c.as_slice-in-file.ensures) in (
      so_far.0 ++ more.0,
      consumes_trans _ _ _ so_far.0 _ so_far.1 more.2,
      (λ before said.
          let h = c.in_ok-taken.ensures.ok (so_far.0 ++ more.0) before
          (anew c.file.reading (so_far.0 ++ more.0) (c.file.window.bytes ++ more.0) _ _ _
          (c.as_slice-in-file.ensures ∙ more.1)
          (grown c.file.reading so_far.0 c.file.window.bytes more.0 _ (so_far.2 before said)) (λ said'. said')) in
          anew c.take_parts.new.self (so_far.0 ++ more.0) _ _ _ _ kept h (c.in-Ok-pause.ensures.ok before (packets_in None 1 h.frames))),
      rw kept c.in_ok-taken.ensures.rest,
      rw kept c.in_ok-taken.ensures.few,
    )

pub returns-clause-err : goal.returns-clause-err
returns-clause-err g c =
    let so_far = c.file.invariant in
    stops_by (Run run.Read) (g.R.Read.remaining c.args.reader.now) (g.R.Read.remaining c.file.reader) so_far.0
    (λ before. g.T.PacketTaker.stands c.args.taker.now before (g.W.Write.contents c.args.writer.now))
    (λ before. g.T.PacketTaker.stands c.file.taker before (g.W.Write.contents c.file.writer))
    so_far.1
    (λ before said. let h = so_far.2 before said in stops_in_run c.file.reading run.Read so_far.0 c.file.window.bytes _ _ tt h h.taken)
