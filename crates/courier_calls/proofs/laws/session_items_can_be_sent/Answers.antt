use Rattle.std.proofs.lemmas.List.Elements.{All-from_recursion, recursion_from_All}
use Rattle.std.specs.Prelude.{List}
use Rattle.xns_spp.specs.Item.{IsItem}
use Rattle.xns_spp.specs.declared.item.Item.{Item}
use Rattle.courier_messages.specs.Conversation.{conversation}
use Rattle.courier_calls.specs.Calls.{IsFitting}
use Rattle.courier_calls.specs.Server.{server_items}
use Rattle.courier_messages.specs.RawCalls.{caller_items}
use Rattle.courier_messages.specs.Laws.{IsSendableItem}
use Rattle.courier_messages.specs.Called.{calls_of}
use Rattle.courier_calls.proofs.Numbers.{heard_numbers}
use Rattle.courier_calls.proofs.Sent.{server_sent, caller_sent, front_bytes}
use Rattle.courier_calls.proofs.laws.session_items_can_be_sent.Goals as goal

pub returns-clause-caller : goal.returns-clause-caller
returns-clause-caller g c calls fit =
    All-from_recursion IsSendableItem (caller_items calls) (caller_sent c.message_items_can_be_sent.ensures calls (recursion_from_All IsFitting calls fit))

pub returns-clause-server : goal.returns-clause-server
returns-clause-server g c s can =
    let sent = server_sent c.message_items_can_be_sent.ensures (record { spelled = c.whole_value_is_spelled.ensures; fits = c.spelled_value_fits.ensures }) c.fitting_value_is_spelled.ensures g.S.Service.serving g.S.Service.IsServiceState g.met.S.Service.lawful s can in
    let items = λ (f : List Item). All-from_recursion IsSendableItem (server_items g.S.Service.serving s f) in
    record {
      server = λ f bytes. items f (sent (calls_of (conversation f)) (heard_numbers c.what_is_heard_has_numbers.ensures f (recursion_from_All IsItem f bytes)));
      answering = λ calls f fit p. items f (sent (calls_of (conversation f)) (heard_numbers c.what_is_heard_has_numbers.ensures f (front_bytes c.message_items_can_be_sent.ensures calls f (recursion_from_All IsFitting calls fit) p)));
    }
