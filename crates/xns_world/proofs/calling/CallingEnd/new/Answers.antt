use Rattle.std.proofs.Common.{List, map, refl, sym, ◌∙◌, ap, subst}
use Rattle.courier_calls.specs.Caller as caller
use Rattle.courier_calls.specs.Table.{EntryModel}
use Rattle.courier_calls.specs.Calls.{seen_model}
use Rattle.xns_world.proofs.calling.CallingEnd.new.Goals as goal

pub returns : goal.returns
returns g c p serving =
    record {
      stands = c.in_ok-endpoint.ensures;
      session = subst (λ (l : List EntryModel). caller.CallerStandsFor l c.in_ok-caller.caller caller.empty_caller_history) (c.requires.listed ∙ ap (λ v. v.table) (sym serving)) c.in_ok-caller.ensures.stands;
      made = refl;
      seen = ap (map seen_model) c.new-2.ensures.items;
    }
