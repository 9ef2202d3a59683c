use Rattle.std.proofs.Common.{rules}
use Rattle.xns_calls.proofs.speech.Speech.behind.Goals as goal

pub returns-then-is_last : goal.returns-then-is_last
returns-then-is_last c = search rules
