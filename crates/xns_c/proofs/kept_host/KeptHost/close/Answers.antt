use Rattle.std.proofs.Common.{◌≡◌, ◌∙◌, None, Ok, refl, ap, subst, sym, rules}
use Rattle.xns_connection.specs.Deeds.{asked}
use Rattle.xns_host.specs.Refusing.{TellsRefusal}
use Rattle.xns_c.specs.Faults.{host_told}
use Rattle.xns_c.specs.declared.kept_host.KeptHost.{KeptHost}
use Rattle.xns_c.proofs.Hosts.{turned}
use Rattle.xns_c.proofs.kept_host.KeptHost.close.Goals as goal

pub returns : goal.returns
returns c =
    let host : c.let_answer_go.new.self.host ≡ c.close.new.self = ap (λ (y : KeptHost). y.host) c.let_answer_go.ensures in
    record {
      turns = turned c.args.self.now c.let_answer_go.new.self c.close.new.self c.args.now c.args.number asked (λ t. None) c.close.result c.host_told-result.result host (search rules)
          c.host_told-result.ensures c.close.ensures.turn c.close.ensures.none (λ g there. subst (TellsRefusal None) (sym (c.close.ensures.some g there)) (record { done = Ok tt; answers = refl; is = refl }));
      some = λ g there. c.host_told-result.ensures ∙ ap host_told (c.close.ensures.some g there);
      event = search rules;
    }
