-- The calls of a caller, as they are heard.
use Rattle.std.proofs.Common.{◌≡◌, ℕ, ◌+◌, true, List, [], ◌∷◌, ◌++◌, refl, sym, ◌∙◌, ap, subst, arith}
use Rattle.std.specs.Prelude.{map}
use Rattle.std.specs.List.{flat_map, AllByRecursion}
use Rattle.xns_spp.specs.declared.item.Item.{Item}
use Rattle.xns_spp.specs.Growth.{Begins}
use Rattle.courier_messages.specs.declared.message.Message.{Message}
use Rattle.courier_messages.specs.Conversation.{conversation}
use Rattle.courier_messages.specs.Cutting.{cut, versions_item}
use Rattle.courier_messages.specs.RawCalls.{RawCall, IsShortCall, call_message, call_items, caller_items, numbered, numbered_message, transaction_of}
use Rattle.courier_messages.specs.Called.{calls_of, all_calls}
use Rattle.courier_messages.specs.Laws.{IsShort, items_of, IsFaultless, Hears, HearsCalls}
use Rattle.courier_messages.proofs.Lists.{front_of_map}
use Rattle.courier_messages.proofs.Called.{well_server}
use Rattle.courier_messages.proofs.Talks.{messages_begin, well_begins}
use Rattle.courier_messages.proofs.Written.{leads_items}

pub call_items_are : (k : ℕ) (cs : List RawCall) → call_items k cs ≡ flat_map cut (map numbered_message (numbered k cs))
unfolding call_items numbered numbered_message
call_items_are k [] = refl
call_items_are k (c ∷ cs) = ap (λ (l : List Item). cut (call_message (transaction_of k) c) ++ l) (call_items_are (k + 1) cs)

pub calls_back : (ns : List (ℕ × RawCall)) → calls_of (map numbered_message ns) ≡ ns
unfolding calls_of numbered_message
calls_back [] = refl
calls_back (n ∷ ns) = ap (λ (l : List (ℕ × RawCall)). n ∷ l) (calls_back ns)

pub all_are_calls : (ns : List (ℕ × RawCall)) → all_calls (map numbered_message ns) ≡ true
unfolding all_calls numbered_message
all_are_calls [] = refl
all_are_calls (n ∷ ns) = all_are_calls ns

pub calls_short : (k : ℕ) (cs : List RawCall) → AllByRecursion IsShortCall cs → AllByRecursion IsShort (map numbered_message (numbered k cs))
unfolding numbered numbered_message
calls_short k [] h = tt
calls_short k (c ∷ cs) h = (omega (arith, h.0), calls_short (k + 1) cs h.1)

pub caller_items_are : (cs : List RawCall) → caller_items cs ≡ items_of (map numbered_message (numbered 1 cs))
caller_items_are cs = ap (λ (l : List Item). versions_item ∷ l) (call_items_are 1 cs)

pub hears : (heard : List Item) (ms : List Message) → AllByRecursion IsShort ms → Begins heard (items_of ms) → Hears heard ms
hears heard ms short p =
    let sent = leads_items ms short in record {
      front = subst (λ (l : List Message). Begins (conversation heard) l) sent.said (messages_begin heard (items_of ms) p);
      well = well_begins heard (items_of ms) p (subst IsFaultless (sym sent.run) tt);
    }

pub hears_calls : (fed : List Item) (calls : List RawCall) → AllByRecursion IsShortCall calls → Begins fed (caller_items calls) → HearsCalls fed calls
hears_calls fed calls short p =
    let ns = numbered 1 calls in
    let h = hears fed (map numbered_message ns) (calls_short 1 calls short) (subst (λ (l : List Item). Begins fed l) (caller_items_are calls) p) in
    let front = front_of_map numbered_message (conversation fed) ns h.front in
    let calls_are : calls_of (conversation fed) ≡ front.0 = ap calls_of front.1 ∙ calls_back front.0 in
    record {
      messages = h.front;
      calls = subst (λ (l : List (ℕ × RawCall)). Begins l ns) (sym calls_are) front.2;
      well = well_server fed (ap all_calls front.1 ∙ all_are_calls front.0) h.well;
    }
