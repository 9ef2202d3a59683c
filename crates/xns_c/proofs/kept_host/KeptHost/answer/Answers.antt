use Rattle.std.proofs.Common.{◌≡◌, ap, refl, subst, rules}
use Rattle.courier_sessions.specs.declared.answer.Answer.{Answer}
use Rattle.xns_connection.specs.Deeds.{gave}
use Rattle.xns_connection.specs.Reasons.{answer_fault_of}
use Rattle.xns_c.specs.Hosts.{HostTurns}
use Rattle.xns_c.specs.declared.kept_host.KeptHost.{KeptHost}
use Rattle.xns_c.proofs.Hosts.{turned}
use Rattle.xns_c.proofs.kept_host.KeptHost.answer.Goals as goal

pub returns-in_default : goal.returns-in_default
returns-in_default c = record {
  turns = λ a is. absurd (search rules);
  bad = λ none. (search rules, refl);
  event = search rules;
}

pub returns : goal.returns
returns c =
    let host : c.let_go.new.self.host ≡ c.answer.new.self = ap (λ (y : KeptHost). y.host) c.let_go.ensures in
    record {
      turns = λ a is.
          let same : c.in-Some.answer ≡ a = search rules in
          subst (λ (x : Answer). HostTurns c.args.self.now c.let_go.new.self c.args.now c.args.number (gave x c.args.words.now) (λ t. answer_fault_of t x c.args.words.now) c.host_told-result.result) same
          (turned c.args.self.now c.let_go.new.self c.answer.new.self c.args.now c.args.number (gave c.in-Some.answer c.args.words.now) (λ t. answer_fault_of t c.in-Some.answer c.args.words.now)
          c.answer.result c.host_told-result.result host (search rules) c.host_told-result.ensures c.answer.ensures.turn c.answer.ensures.none c.answer.ensures.refused);
      bad = λ none. absurd (search rules);
      event = search rules;
    }
