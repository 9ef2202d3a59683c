use Rattle.std.proofs.Common.{refl}
use Rattle.xns_captures.proofs.Pages.{at_first}
use Rattle.xns_dump.specs.Dump.Capture.{packet_end_count, packets_text_with_end}
use Rattle.xns_dump.proofs.dumping.dump_capture.Goals as goal

pub returns-in_default : goal.returns-in_default
returns-in_default g c =
    at_first packets_text_with_end packet_end_count (g.R.Read.remaining c.args.reader.now) (g.W.Write.contents c.args.writer.now) refl
