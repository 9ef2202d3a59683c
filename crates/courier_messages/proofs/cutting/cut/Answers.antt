use Rattle.std.proofs.Common.{arith, ◌≡◌, ◌∙◌, ap, rules, List, length}
use Rattle.xns_spp.specs.declared.item.Item.{Item}
use Rattle.courier_types.specs.Source.{bytes_of}
use Rattle.courier_messages.specs.Bounds.{bytes_in}
use Rattle.courier_messages.specs.Cutting.{cut_bytes}
use Rattle.courier_messages.proofs.Cuts.{one_more_item, next_cut, last_item, cut_length}
use Rattle.courier_messages.proofs.cutting.cut.Goals as goal

pub loop-rest-preserved : goal.loop-rest-preserved
loop-rest-preserved c =
    next_cut c.loop-rest.items.items c.push_back.new.self.items c.loop-rest.rest.now c.split_at.result.0.now c.split_at.result.1.now c.args.words.now c.in_ok-make_item.field-0 c.loop-rest-test.true c.split_at.ensures.front c.split_at.ensures.back c.in_ok-make_item.ensures c.in_ok-push_back.ensures.items c.loop-rest.invariant

pub returns-clause-size : goal.returns-clause-size
returns-clause-size c =
    let all : c.push_back-2.new.self.items ≡ cut_bytes (bytes_of c.args.words.now) = search (rules, last_item) in
    ap (λ (xs : List Item). length (bytes_in xs)) all ∙ cut_length c.args.words.now

pub returns-clause-items : goal.returns-clause-items
returns-clause-items c = grind (arith, last_item, one_more_item)
