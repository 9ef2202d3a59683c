-- What is heard first stays.
use Rattle.std.proofs.Common.{◌≡◌, List, [], ◌++◌, Result, Ok, Err, sym, ◌∙◌, ap, subst}
use Rattle.std.proofs.lemmas.List.Concat.{flat_map-append}
use Rattle.xns_spp.specs.declared.item.Item.{Item}
use Rattle.courier_messages.specs.declared.fault.SessionFault.{SessionFault}
use Rattle.courier_messages.specs.Text.{signs, written}
use Rattle.courier_messages.specs.Conversation.{Phase, opening, conversation, ending}
use Rattle.courier_messages.specs.Phases.{◌then◌, run, onwards, said}
use Rattle.xns_spp.specs.Growth.{Begins}
use Rattle.courier_messages.specs.Laws.{IsFaultless}
use Rattle.courier_messages.proofs.Runs.{run_append, said_append}
use Rattle.courier_messages.proofs.Signs.{conversation_is, ending_is}

pub conversation_append : (xs ys : List Item) → conversation (xs ++ ys) ≡ conversation xs ++ onwards (ending xs) (λ q. said q (written ys))
conversation_append xs ys =
    conversation_is (xs ++ ys) ∙ ap (said (opening [])) (flat_map-append signs xs ys) ∙ said_append (opening []) (written xs) (written ys)
    ∙ (λ i. sym (conversation_is xs) i ++ onwards (sym (ending_is xs) i) (λ q. said q (written ys)))

pub ending_append : (xs ys : List Item) → ending (xs ++ ys) ≡ (ending xs then λ q. run q (written ys))
ending_append xs ys =
    ending_is (xs ++ ys) ∙ ap (run (opening [])) (flat_map-append signs xs ys) ∙ run_append (opening []) (written xs) (written ys)
    ∙ ap (λ (r : Result Phase SessionFault). r then λ q. run q (written ys)) (sym (ending_is xs))

pub messages_begin : (xs ys : List Item) → Begins xs ys → Begins (conversation xs) (conversation ys)
messages_begin xs ys p = (onwards (ending xs) (λ q. said q (written p.0)), sym (conversation_append xs p.0) ∙ ap conversation p.1)

well_front : (r : Result Phase SessionFault) (f : Phase → Result Phase SessionFault) → IsFaultless (r then f) → IsFaultless r
well_front (Ok p) f h = tt
well_front (Err e) f h = h

pub well_begins : (xs ys : List Item) → Begins xs ys → IsFaultless (ending ys) → IsFaultless (ending xs)
well_begins xs ys p h = well_front (ending xs) (λ q. run q (written p.0)) (subst IsFaultless (sym (ap ending p.1) ∙ ending_append xs p.0) h)
