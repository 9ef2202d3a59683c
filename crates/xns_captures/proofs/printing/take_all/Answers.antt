use Rattle.std.proofs.lemmas.Option.{IfSome_then}
use Rattle.xns_captures.specs.Captures.{packets_of}
use Rattle.xns_captures.proofs.Pages.{stops_in_end, stops_with}
use Rattle.xns_captures.proofs.printing.take_all.Goals as goal

pub returns-in-Err-clause-err : goal.returns-in-Err-clause-err
returns-in-Err-clause-err g c =
    IfSome_then (g.R.Read.remaining c.args.reader.now) c.in-Err.ensures.err (λ file h. λ before said.
    stops_with c.in-Err.fault g.P.PacketPrinter.packet_ends file _ (h before said))

pub returns-in-Ok-finish-clause-ok : goal.returns-in-Ok-finish-clause-ok
returns-in-Ok-finish-clause-ok g c =
    IfSome_then (g.R.Read.remaining c.args.reader.now) c.in-Ok.ensures.ok (λ file h. λ before said.
    let t = h before said in (t.0, c.in-Ok-finish.ensures.ok before (packets_of file) t.1))

pub returns-in-Err-finish-clause-err : goal.returns-in-Err-finish-clause-err
returns-in-Err-finish-clause-err g c =
    IfSome_then (g.R.Read.remaining c.args.reader.now) c.in-Ok.ensures.ok (λ file h. λ before said.
    let t = h before said in
    stops_in_end c.in-Err-finish.fault _ file c.finish.new.self before _ (c.in-Err-finish.ensures.err before (packets_of file) t.1))
