use Rattle.std.proofs.Common.{◌≡◌, ◌∙◌, arith, length, take}
use Rattle.std.proofs.lemmas.List.{length-take-le}
use Rattle.xns_command.proofs.LongTexts.{of_file, unread}
use Rattle.xns_command.proofs.descriptions.read_into.Goals as goal

pub returns-in-Ok : goal.returns-in-Ok
returns-in-Ok g c =
    let size : length c.read_first.new.first ≡ 262145 = c.in-Ok.ensures.room ∙ c.requires in
    of_file c.read_whole.result (g.R.Read.remaining c.args.reader.now) (g.R.Read.remaining c.read_first.new.reader) (take c.in-Ok.count c.read_first.new.first) c.args.before.now
    c.in-Ok.ensures.read
    (λ few. c.in-Ok.ensures.end (omega (arith, few, size, c.in-Ok.ensures.few, length-take-le c.in-Ok.count c.read_first.new.first c.in-Ok.ensures.few)))
    c.read_whole.ensures

pub returns-in-Err : goal.returns-in-Err
returns-in-Err g c = rw c.in-Err.ensures.fault (unread (g.R.Read.remaining c.args.reader.now) c.args.before.now)
