use Rattle.xns_captures.specs.Captures.{packets_of}
use Rattle.xns_lines.specs.Lines.{lines_of}
use Rattle.xns_calls.proofs.Spelled.{same_refused, same_text}
use Rattle.xns_calls.proofs.laws.captures_say_what_lines_say.Goals as goal

pub returns : goal.returns
returns c = record {
  text = λ programs input file spelled. same_text programs (lines_of input) (packets_of file) spelled;
  refused = λ programs input file spelled. same_refused programs (lines_of input) (packets_of file) spelled;
}
