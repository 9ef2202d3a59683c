use Rattle.std.proofs.lemmas.Result.{err_from_is_err_and}
use Rattle.xns_lines.proofs.OnPages.{flushed_all, flushed_some, unflushed_all}
use Rattle.xns_lines.proofs.printing.print_lines.Goals as goal

pub returns-in_err-flush : goal.returns-in_err-flush
returns-in_err-flush g c =
    let p = err_from_is_err_and c.from_residual.result c.from_residual.ensures.1 in
    let law = c.text_only_grows.ensures in
    let begun = c.new-pages.ensures (g.W.Write.contents c.args.writer.now) (record { printed = c.requires.begun; text = law.nothing; refused = law.unrefused }) in
    rw (p.1, p.2) (unflushed_all c.args.most _ law.begins law.ends _ _ _ _ _ _ _ begun
    c.take_all-taken.result _ c.in_err-flush.ensures.fault c.take_all-taken.ensures.ok c.take_all-taken.ensures.err)

pub returns-in-Ok : goal.returns-in-Ok
returns-in-Ok g c =
    let law = c.text_only_grows.ensures in
    let begun = c.new-pages.ensures (g.W.Write.contents c.args.writer.now) (record { printed = c.requires.begun; text = law.nothing; refused = law.unrefused }) in
    flushed_all c.args.most _ law.begins law.ends _ _ _ _ _ _ _ begun c.flush.new.self c.in_ok-flush.ensures.refused c.in-Ok.ensures.ok c.in_ok-flush.ensures.ok

pub returns : goal.returns
returns g c =
    let law = c.text_only_grows.ensures in
    let begun = c.new-pages.ensures (g.W.Write.contents c.args.writer.now) (record { printed = c.requires.begun; text = law.nothing; refused = law.unrefused }) in
    flushed_some c.args.most _ law.begins law.ends _ _ _ _ _ _ _ begun c.in-Err.fault c.in-Err.ensures.err c.in_ok-flush.ensures.ok
