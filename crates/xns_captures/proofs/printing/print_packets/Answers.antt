use Rattle.std.proofs.lemmas.Option.{IfSome_then}
use Rattle.xns_captures.proofs.Pages.{flushed_all, flushed_some, unflushed}
use Rattle.xns_captures.proofs.printing.print_packets.Goals as goal

pub returns-in-Err : goal.returns-in-Err
returns-in-Err g c =
    let law = c.nothing_is_said.ensures in
    let begun = c.new-pages.ensures (g.W.Write.contents c.args.writer.now) (record { printed = c.requires; text = law.nothing; refused = law.unrefused }) in
    unflushed _ _ c.take_all-taken.new.pages _ _ _ begun c.take_all-taken.result c.in-Err.fault _ c.in-Err.ensures.fault c.take_all-taken.ensures.ok c.take_all-taken.ensures.err

pub returns-in-Ok-taken : goal.returns-in-Ok-taken
returns-in-Ok-taken g c =
    let law = c.nothing_is_said.ensures in
    let begun = c.new-pages.ensures (g.W.Write.contents c.args.writer.now) (record { printed = c.requires; text = law.nothing; refused = law.unrefused }) in
    flushed_all _ _ c.take_all-taken.new.pages _ _ _ begun c.flush.new.self (g.R.Read.remaining c.args.reader.now) (g.R.Read.remaining c.take_all-taken.new.reader) c.in-Ok.ensures.refused c.in-Ok.ensures.ok c.in-Ok-taken.ensures.ok

pub returns : goal.returns
returns g c =
    let law = c.nothing_is_said.ensures in
    let begun = c.new-pages.ensures (g.W.Write.contents c.args.writer.now) (record { printed = c.requires; text = law.nothing; refused = law.unrefused }) in
    IfSome_then (g.R.Read.remaining c.args.reader.now) c.in-Err-taken.ensures.err (λ file some.
    flushed_some _ _ c.take_all-taken.new.pages _ _ _ begun c.in-Err-taken.fault file c.in-Ok.ensures.ok some)
