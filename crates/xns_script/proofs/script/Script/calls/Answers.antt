use Rattle.std.proofs.Common.{map}
use Rattle.courier_calls.specs.Calls.{call_model}
use Rattle.xns_script.proofs.CallsFit.{all_fit}
use Rattle.xns_script.proofs.script.Script.calls.Goals as goal

pub returns-clause-fit : goal.returns-clause-fit
returns-clause-fit c = rw c.as_slice.ensures.value (all_fit (map call_model c.args.self.now.calls.items) c.args.self.now.said)
