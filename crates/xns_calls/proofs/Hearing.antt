-- What is heard of items is their conversation, up to its first fault.
use Rattle.std.proofs.Common.{◌≡◌, ◌≤◌, ◌∙◌, ap, sym, refl, List, [], ◌∷◌, ◌++◌, Bool, append_assoc, append-nil, arith, length, Ok, Err}
use Rattle.std.specs.Prelude.{IfOk, Result}
use Rattle.xns_spp.specs.declared.item.Item.{Item}
use Rattle.courier_messages.specs.declared.fault.SessionFault.{SessionFault}
use Rattle.courier_messages.specs.declared.message.Message.{Message}
use Rattle.courier_messages.specs.Text.{signs, written}
use Rattle.courier_messages.specs.Conversation.{Phase, opening}
use Rattle.courier_messages.specs.Phases.{onwards, run, said, ◌then◌}
use Rattle.courier_messages.specs.Laws.{OneItemMore, SignsRunOn}
use Rattle.xns_calls.specs.Listening.{messages_heard, messages_in}
use Rattle.xns_calls.specs.Speech.{behind, heard_at, speech_at}
use Rattle.xns_calls.specs.declared.speech.Speech.TheVariants.{Hearing}

abbrev IsHeard : List Message → Result Phase SessionFault → Type 0
IsHeard ms r = ms ≡ messages_in (heard_at ms r)

by_item : (r : Result Phase SessionFault) (ms : List Message) → length ms ≤ 1 → ((e : SessionFault) → r ≡ Err e → ms ≡ []) → IsHeard ms r
by_item (Err e) ms few silent = silent e refl
by_item (Ok q) [] few silent = refl
by_item (Ok q) (m ∷ []) few silent = refl
by_item (Ok q) (m ∷ n ∷ ms) few silent = absurd (omega (arith, few))

-- an item ends at most one message, which is heard, and none where it is a fault
item_heard : OneItemMore → (p : Phase) (x : Item) → IsHeard (said p (signs x)) (run p (signs x))
item_heard law p x = by_item (run p (signs x)) (said p (signs x)) (law.single x p) (λ e h. law.silent x p e h)

-- what is heard begins with the messages of the signs, and there is no more where they have no fault
abbrev pub HearsAll : List Message → Result Phase SessionFault → List Message → Type 0
HearsAll said r heard = (rest : List Message) × (said ++ rest ≡ heard) × IfOk r (λ q. rest ≡ [])

onwards_heard : (r : Result Phase SessionFault) (ms : List Message) (last : Bool) (items : List Item) → IsHeard ms r
    → ((q : Phase) → HearsAll (said q (written items)) (run q (written items)) (messages_heard (Hearing q) items))
    → HearsAll (ms ++ onwards r (λ q. said q (written items))) (r then λ q. run q (written items)) (messages_in (heard_at ms r) ++ messages_heard (speech_at last r) items)
onwards_heard (Ok q) ms last items one more =
    let h = more q in
    (h.0, append_assoc ms (said q (written items)) h.0 ∙ ap (λ t. ms ++ t) h.1 ∙ ap (λ (t : List Message). t ++ messages_heard (Hearing q) items) one, h.2)
onwards_heard (Err e) ms last items one more =
    (messages_heard (behind last) items, ap (λ (t : List Message). t ++ messages_heard (behind last) items) (append-nil ms ∙ one), tt)

pub all_heard : (runs : SignsRunOn) (law : OneItemMore) (p : Phase) (items : List Item) → HearsAll (said p (written items)) (run p (written items)) (messages_heard (Hearing p) items)
unfolding run said
all_heard runs law p [] = ([], refl, refl)
all_heard runs law p (x ∷ items) =
    rw (runs.said_on p (signs x) (written items), runs.run_on p (signs x) (written items)) (onwards_heard (run p (signs x)) (said p (signs x)) x.last items (item_heard law p x) (λ q. all_heard runs law q items))

pub begins_heard : (runs : SignsRunOn) (law : OneItemMore) (items : List Item) (ms : List Message) → ms ≡ said (opening []) (written items) → (rest : List Message) × (ms ++ rest ≡ messages_heard (Hearing (opening [])) items)
begins_heard runs law items ms e =
    let h = all_heard runs law (opening []) items in (h.0, ap (λ (t : List Message). t ++ h.0) e ∙ h.1)

whole_if : (r : Result Phase SessionFault) (ms rest heard : List Message) → ms ++ rest ≡ heard → IfOk r (λ q. rest ≡ []) → IfOk r (λ q. ms ≡ heard)
whole_if (Ok q) ms rest heard e none = sym (append-nil ms) ∙ ap (λ t. ms ++ t) (sym none) ∙ e
whole_if (Err f) ms rest heard e none = tt

pub whole_heard : (runs : SignsRunOn) (law : OneItemMore) (items : List Item) (ms : List Message) (r : Result Phase SessionFault) → ms ≡ said (opening []) (written items) → r ≡ run (opening []) (written items)
    → IfOk r (λ q. ms ≡ messages_heard (Hearing (opening [])) items)
whole_heard runs law items ms r e f =
    let h = all_heard runs law (opening []) items in
    rw f (whole_if (run (opening []) (written items)) ms h.0 _ (ap (λ (t : List Message). t ++ h.0) e ∙ h.1) h.2)
