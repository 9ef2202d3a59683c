use Rattle.std.proofs.Common.{refl, rules}
use Rattle.xns_connection.specs.Calls.{raw_of_call}
use Rattle.xns_connection.specs.Deeds.{made}
use Rattle.xns_connection.specs.Reasons.{call_fault_of}
use Rattle.xns_c.proofs.Hosts.{turned}
use Rattle.xns_c.proofs.kept_host.KeptHost.call.Goals as goal

pub returns-then-keeps_answer : goal.returns-then-keeps_answer
returns-then-keeps_answer c = record { kept = λ is. (refl, refl); turns = λ not. absurd (search rules); event = refl }

pub returns : goal.returns
returns c =
    let call = raw_of_call c.args.call.now in
    record {
      kept = λ is. absurd (search rules);
      turns = λ not. turned c.args.self.now _ c.call.new.self c.args.now c.args.number (made call) (λ t. call_fault_of t call) c.call.result c.host_told.result refl refl
          c.host_told.ensures c.call.ensures.turn c.call.ensures.none c.call.ensures.refused;
      event = refl;
    }
