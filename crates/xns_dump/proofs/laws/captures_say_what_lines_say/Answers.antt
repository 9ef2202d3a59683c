use Rattle.std.proofs.Common.{[]}
use Rattle.xns_captures.specs.Captures.{packets_of}
use Rattle.xns_lines.specs.Lines.{lines_of}
use Rattle.xns_dump.proofs.Spelled.{all_refused, all_text, same_refused, same_text}
use Rattle.xns_dump.proofs.laws.captures_say_what_lines_say.Goals as goal

pub returns : goal.returns
returns c = record {
  text = λ input file spelled. same_text 1 [] (lines_of input) (packets_of file) spelled;
  refused = λ input file spelled. same_refused 1 (lines_of input) (packets_of file) spelled;
  all_text = λ input hex. all_text 1 [] (lines_of input) hex;
  all_refused = λ input hex. all_refused (lines_of input) hex;
}
