use Rattle.xns_calls.specs.Calls.{nothing_known}
use Rattle.xns_calls.proofs.Inputs.{numbered_from}
use Rattle.xns_calls.proofs.Numbered.{numbered_none}
use Rattle.xns_calls.proofs.Since.{given_once}
use Rattle.xns_calls.proofs.laws.connections_have_numbers.Goals as goal

pub returns : goal.returns
returns c = record {
  below = λ programs lines. (numbered_from programs 1 nothing_known lines numbered_none).below;
  own = λ programs lines. (numbered_from programs 1 nothing_known lines numbered_none).alone;
  once = given_once;
}
