use Rattle.std.proofs.Common.{refl}
use Rattle.xns_captures.proofs.Pages.{at_first}
use Rattle.xns_calls.specs.Files.{packet_end_count, packets_text_with_end}
use Rattle.xns_calls.proofs.calling.print_styled.Goals as goal

pub returns-in_default : goal.returns-in_default
returns-in_default g c =
    at_first (packets_text_with_end g.D.Described.programs g.S.TimeStyle.style) (packet_end_count g.D.Described.programs g.S.TimeStyle.style) (g.R.Read.remaining c.args.reader.now) (g.W.Write.contents c.args.writer.now) refl
