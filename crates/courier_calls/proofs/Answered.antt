-- All that is sent is answered, and a call that is going out has no answer beside it.
use Rattle.std.proofs.Common.{◌≡◌, ◌⊎◌, inl, inr, ℕ, ◌+◌, ◌<◌, ◌≤◌, Bool, true, false, nat_lt, length, map, List, [], ◌∷◌, refl, sym, ◌∙◌, ap, subst, arith}
use Rattle.std.specs.List.{AllByRecursion}
use Rattle.std.proofs.lemmas.Bool.{ltb-true, ltb-false}
use Rattle.std.proofs.lemmas.List.{length-map}
use Rattle.std.proofs.lemmas.List.Elements.{recursion_from_All}
use Rattle.xns_spp.specs.declared.item.Item.{Item}
use Rattle.xns_spp.specs.Growth.{Begins}
use Rattle.xns_spp.specs.Fronts.{begins_itself, begins_map, begins_length, all_front, all_weaker}
use Rattle.courier_types.specs.Laws.{WrittenValueIsRead}
use Rattle.courier_messages.specs.declared.message.Message.{Message}
use Rattle.courier_messages.specs.Called.{calls_of}
use Rattle.courier_messages.specs.Conversation.{conversation}
use Rattle.courier_messages.specs.RawCalls.{RawCall, IsShortCall, numbered, numbered_message, caller_items}
use Rattle.courier_messages.specs.Laws.{IsShort, items_of, AFrontIsHeard, CallsAreHeard, WhatIsSentIsHeard, APartSaysLess}
use Rattle.courier_messages.proofs.Numbered.{caller_items_are, calls_back, calls_short}
use Rattle.courier_calls.specs.Calls.{Serving, HasWords, IsFitting, IsLawful}
use Rattle.courier_calls.specs.Caller.{answers}
use Rattle.courier_calls.specs.Server.{decided_calls, server_items}
use Rattle.courier_calls.specs.Laws.{AllIsAnswered}
use Rattle.courier_calls.proofs.Both.{server_items_are}
use Rattle.courier_calls.proofs.FewCalls.{calls_few}
use Rattle.courier_calls.proofs.Lawful.{Values, keeps_all}
use Rattle.courier_calls.proofs.Sides.{replies, raws_numbered, length-replies, replies_short, answers_are}

-- what a server's answers rest on
record Known {S : Type 0} (serving : Serving S) (IsServiceState : S → Type 0) : Type 0 where
  again : WrittenValueIsRead
  laws : Values
  heard : AFrontIsHeard
  calls_heard : CallsAreHeard
  sent : WhatIsSentIsHeard
  less : APartSaysLess
  law : IsLawful serving IsServiceState

-- the messages that go back, and how many answers were read
record Back {S : Type 0} (serving : Serving S) (s : S) (calls : List RawCall) (f g : List Item) : Type 0 where
  short : AllByRecursion IsShort (replies serving s (calls_of (conversation f)))
  front : Begins (calls_of (conversation f)) (numbered 1 calls)
  count : length (answers serving.table calls g) ≡ length (conversation g)

back_of : {S : Type 0} (serving : Serving S) (IsServiceState : S → Type 0) → Known serving IsServiceState → (s : S) (calls : List RawCall) (f g : List Item) → IsServiceState s → AllByRecursion IsFitting calls → Begins f (caller_items calls) → Begins g (server_items serving s f) → Back serving s calls f g
back_of serving IsServiceState k s calls f g can fitting p q =
    let there = k.calls_heard f calls (all_weaker IsFitting IsShortCall (λ c fit. fit.size) calls fitting) p in
    let cs = calls_of (conversation f) in
    let once : Begins (decided_calls f) calls =
    subst (λ (l : List RawCall). Begins (decided_calls f) l) (raws_numbered 1 calls) (begins_map (λ c. c.1) cs (numbered 1 calls) there.calls) in
    let before : AllByRecursion IsFitting (decided_calls f) = all_front IsFitting (decided_calls f) once.0 (subst (λ (l : List RawCall). AllByRecursion IsFitting l) (sym once.1) fitting) in
    let kept = keeps_all k.laws serving IsServiceState k.law s can (decided_calls f) (all_weaker IsFitting HasWords (λ c fit. fit.words) (decided_calls f) before) in
    let lawful = kept.allowed in
    let short = replies_short k.again serving k.law.table s cs lawful in
    let back = k.heard g (replies serving s cs) short (subst (λ (l : List Item). Begins g l) (server_items_are serving s f) q) in
    let are = answers_are k.again serving k.law.table s 1 calls (conversation g) cs lawful there.calls back.front in
    record { short = short; front = there.calls; count = are.count }

length-numbered : (calls : List RawCall) → length (numbered 1 calls) ≡ length calls
length-numbered calls = sym (length-map (numbered 1 calls) (λ (c : ℕ × RawCall). c.1)) ∙ ap (length {A = RawCall}) (raws_numbered 1 calls)

-- all calls were heard, and all answers read
whole_read : {S : Type 0} (serving : Serving S) (IsServiceState : S → Type 0) → Known serving IsServiceState → (s : S) (calls : List RawCall) → IsServiceState s → AllByRecursion IsFitting calls
    → length calls ≤ length (answers serving.table calls (server_items serving s (caller_items calls)))
whole_read serving IsServiceState k s calls can fitting =
    let f = caller_items calls in
    let g = server_items serving s f in
    let b = back_of serving IsServiceState k s calls f g can fitting (begins_itself f) (begins_itself g) in
    let ms = map numbered_message (numbered 1 calls) in
    let short = calls_short 1 calls (all_weaker IsFitting IsShortCall (λ c fit. fit.size) calls fitting) in
    let said : conversation f ≡ ms = ap conversation (caller_items_are calls) ∙ k.sent.messages ms short in
    let cs = calls_of (conversation f) in
    let all : cs ≡ numbered 1 calls = ap calls_of said ∙ calls_back (numbered 1 calls) in
    let answered : conversation g ≡ replies serving s cs = ap conversation (server_items_are serving s f) ∙ k.sent.messages (replies serving s cs) b.short in
    omega (arith, b.count, ap (length {A = Message}) answered, length-replies serving s cs, ap (length {A = ℕ × RawCall}) all, length-numbered calls)

none_cut : (ms : List Message) → length ms ≤ 0 → length (items_of ms) ≤ 1
none_cut [] h = omega arith
none_cut (m ∷ ms) h = absurd (omega (arith, h))

none_out : {S : Type 0} (serving : Serving S) (s : S) (cs : List (ℕ × RawCall)) → length cs ≤ 0 → length (items_of (replies serving s cs)) ≤ 1
none_out serving s cs h = none_cut (replies serving s cs) (omega (arith, h, length-replies serving s cs))

-- a call is going out
apart_by : {S : Type 0} (serving : Serving S) (IsServiceState : S → Type 0) → Known serving IsServiceState → (s : S) (calls : List RawCall) (f g : List Item) → IsServiceState s → AllByRecursion IsFitting calls → Begins f (caller_items calls)
    → length f < length (caller_items calls) → Begins g (server_items serving s f) → length calls ≤ length (answers serving.table calls g) + 1
    → (b c : Bool) → nat_lt 0 (length (calls_of (conversation f))) ≡ b → nat_lt (length g) (length (server_items serving s f)) ≡ c
    → (length (server_items serving s f) ≤ length g) ⊎ (length (server_items serving s f) ≤ 1)
apart_by serving IsServiceState k s calls f g can fitting p less q few b false is that = inl (ltb-false (length g) (length (server_items serving s f)) that)
apart_by serving IsServiceState k s calls f g can fitting p less q few false true is that =
    let cs = calls_of (conversation f) in
    inr (omega (arith, ap (length {A = Item}) (server_items_are serving s f), none_out serving s cs (ltb-false 0 (length cs) is)))
apart_by serving IsServiceState k s calls f g can fitting p less q few true true is that =
    let cs = calls_of (conversation f) in
    let r = back_of serving IsServiceState k s calls f g can fitting p q in
    let ms = map numbered_message (numbered 1 calls) in
    let are = caller_items_are calls in
    let some = ltb-true 0 (length cs) is in
    let count : length ms ≡ length calls = length-map (numbered 1 calls) numbered_message ∙ length-numbered calls in
    let front = begins_length cs (numbered 1 calls) r.front in
    let said : length (conversation f) < length ms =
    k.less f ms (subst (λ (l : List Item). Begins f l) are p) (omega (arith, less, ap (length {A = Item}) are)) (omega (arith, count, some, front, length-numbered calls)) in
    let out = server_items_are serving s f in
    let replies_count = length-replies serving s cs in
    let read : length (conversation g) < length (replies serving s cs) =
    k.less g (replies serving s cs) (subst (λ (l : List Item). Begins g l) out q) (omega (arith, ltb-true (length g) (length (server_items serving s f)) that, ap (length {A = Item}) out)) (omega (arith, replies_count, some)) in
    absurd (omega (arith, few, r.count, read, replies_count, calls_few (conversation f), said, count))

pub all_answered : {S : Type 0} (again : WrittenValueIsRead) (laws : Values) → AFrontIsHeard → CallsAreHeard → WhatIsSentIsHeard → APartSaysLess → (serving : Serving S) (IsServiceState : S → Type 0) → IsLawful serving IsServiceState → (s : S) → IsServiceState s → AllIsAnswered serving s
all_answered again laws heard calls_heard sent less serving IsServiceState law s can =
    let k : Known serving IsServiceState = record { again = again; laws = laws; heard = heard; calls_heard = calls_heard; sent = sent; less = less; law = law } in
    record {
      whole = λ calls fit. whole_read serving IsServiceState k s calls can (recursion_from_All IsFitting calls fit);
      apart = λ calls f g fit p short q few.
          apart_by serving IsServiceState k s calls f g can (recursion_from_All IsFitting calls fit) p short q few (nat_lt 0 (length (calls_of (conversation f)))) (nat_lt (length g) (length (server_items serving s f))) refl refl;
    }
