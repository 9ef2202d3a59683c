use Rattle.std.proofs.Common.{sym, subst}
use Rattle.courier_calls.specs.Calls.{Serving}
use Rattle.courier_calls.specs.Laws.{BothSidesAgree, AnItemBringsAtMostOneAnswer}
use Rattle.xns_world.proofs.laws.calls.laws_are_given.Goals as goal
use Rattle.xns_world.specs.CallLaws.{ServerLaws}

pub returns : goal.returns
returns g c p are = record {
  world = c.each_step_keeps_the_order.ensures;
  foreign = c.foreign_bytes_change_nothing.ensures;
  heard = c.what_is_heard_stays.ensures p.serving;
  pieces = c.session_items_can_be_sent.ensures.caller;
  agree = subst (λ (v : Serving g.row.S.Denot). BothSidesAgree v p.service) (sym are.serving_is) (c.both_sides_agree.ensures p.service are.state);
  brings = subst (λ (v : Serving g.row.S.Denot). AnItemBringsAtMostOneAnswer v p.service) (sym are.serving_is) (c.an_item_brings_at_most_one_answer.ensures p.service are.state);
  answering = subst (λ (v : Serving g.row.S.Denot). ServerLaws v p.service) (sym are.serving_is) (c.server_laws_are_given.ensures p.service are.state);
  fitting = are.calls;
}
