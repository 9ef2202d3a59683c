use Rattle.std.proofs.lemmas.List.Elements.{recursion_from_All}
use Rattle.std.specs.Prelude.{◌++◌, ◌∷◌, []}
use Rattle.xns_spp.specs.Item.{IsItem}
use Rattle.courier_calls.proofs.Brings.{brings}
use Rattle.courier_calls.proofs.laws.an_item_brings_at_most_one_answer.Goals as goal

pub returns : goal.returns
returns g c = λ s can f x bytes.
    brings (record { more = c.one_item_more.ensures; server = c.a_server_hears_one_item_more.ensures; numbers = c.what_is_heard_has_numbers.ensures; size = c.message_items_can_be_sent.ensures.size }) c.written_value_is_read.ensures (record { spelled = c.whole_value_is_spelled.ensures; fits = c.spelled_value_fits.ensures }) g.S.Service.serving g.S.Service.IsServiceState g.met.S.Service.lawful s f x can
    (recursion_from_All IsItem (f ++ x ∷ []) bytes)
