use Rattle.std.proofs.Common.{◌≡◌, ◌∙◌, ap, sym, rules, length, Some, None}
use Rattle.std.specs.BTreeMap.{Updates, get}
use Rattle.xns_calls.specs.Keys.{connection_key, key_cmp}
use Rattle.xns_calls.proofs.Places.{begun_there, placed_new}
use Rattle.xns_calls.proofs.capture.Capture.place_or_begin.Goals as goal

pub returns-in_default-clause-placed : goal.returns-in_default-clause-placed
returns-in_default-clause-placed c h q formed =
    let next : c.len-next.result ≡ length c.args.self.now.connections.items = search rules in
    let absent : None ≡ get key_cmp c.args.self.now.places (connection_key c.args.flow) = search rules in
    let updates : Updates key_cmp c.args.self.now.places c.place_or_insert.new.places c.of-key.result (Some c.len-next.result) = search rules in
    rw (c.in_ok-push_connection.ensures) (placed_new c.flows_are_told_apart.ensures c.one_key_serves_both_directions.ensures c.args.self.now.places c.place_or_insert.new.places c.args.flow c.of-key.result c.args.self.now.connections.items c.len-next.result _ next c.of-key.ensures.key c.of-key.ensures.formed updates (sym (h c.args.flow c.of-key.ensures.formed) ∙ sym absent) h q formed)

pub returns-in_default-clause-found : goal.returns-in_default-clause-found
returns-in_default-clause-found c h =
    let next : c.len-next.result ≡ length c.args.self.now.connections.items = search rules in
    let absent : None ≡ get key_cmp c.args.self.now.places (connection_key c.args.flow) = search rules in
    rw (c.in_ok-push_connection.ensures) (begun_there c.flows_are_told_apart.ensures c.args.flow _ c.args.self.now.connections.items (sym (h c.args.flow c.of-key.ensures.formed) ∙ sym absent) ∙ ap (λ n. Some n) (sym next))
