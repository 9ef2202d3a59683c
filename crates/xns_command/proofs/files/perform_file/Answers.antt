use Rattle.std.proofs.Common.{arith, take}
use Rattle.std.proofs.lemmas.List.{length-take}
use Rattle.xns_command.proofs.FirstBytes.{prints_file, stops_at_first, whole_file}
use Rattle.xns_command.proofs.files.perform_file.Goals as goal

pub returns-in-Err : goal.returns-in-Err
returns-in-Err g c =
    let job = c.args.job.now in
    rw c.in-Err.ensures.fault (stops_at_first job.programs job.times job.mode (g.R.Read.remaining c.args.reader.now) (g.R.Read.remaining c.read_first.new.reader) (g.W.Write.contents c.args.writer.now))

pub returns : goal.returns
returns g c =
    let job = c.args.job.now in
    let first = take c.in-Ok.count c.read_first.new.first in
    let same = whole_file (g.R.Read.remaining c.args.reader.now) (g.R.Read.remaining c.read_first.new.reader) _ first c.is_capture-is_capture.result
    c.chain-whole.ensures.bytes c.in-Ok.ensures.read
    (λ few. c.in-Ok.ensures.end (omega (arith, few, length-take c.in-Ok.count c.read_first.new.first, c.in-Ok.ensures.few, c.in-Ok.ensures.room)))
    c.is_capture-is_capture.ensures in
    prints_file job.programs job.times job.mode (g.W.Write.contents c.args.writer.now) (g.W.Write.contents c.perform_as.new.writer) c.is_capture-is_capture.result
    (g.R.Read.remaining c.args.reader.now) _ _ _ c.perform_as.result same c.perform_as.ensures
