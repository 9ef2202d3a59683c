use Rattle.std.proofs.Common.{◌∙◌, ◌==◌, ◌&&◌, ap, not}
use Rattle.xns_dump.specs.Flows.Places.{host_and_socket}
use Rattle.xns_calls.specs.declared.end_key.EndKey.{EndKey}
use Rattle.xns_calls.proofs.Keys.{end_told}
use Rattle.xns_calls.proofs.connection.Connection.is_behind.Goals as goal

pub returns : goal.returns
returns c =
    let first = c.args.self.now.flow.source in
    let source = c.args.flow.source in
    let other = c.end_key_of-2.result in
    c.ne.ensures
    ∙ ap (λ (end : EndKey). not ((end.host_and_socket == other.host_and_socket) && (end.identifier == other.identifier))) c.end_key_of.ensures.key
    ∙ ap (λ (end : EndKey). not ((host_and_socket first == end.host_and_socket) && (first.identifier == end.identifier))) c.end_key_of-2.ensures.key
    ∙ ap not (end_told c.flows_are_told_apart.ensures c.places_are_ordered_by_numbers.ensures first source c.end_key_of.ensures.formed c.end_key_of-2.ensures.formed)
