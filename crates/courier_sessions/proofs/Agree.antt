-- Two sessions that face each other.
use Rattle.std.proofs.Common.{◌≡◌, ◌∙◌, ap, sym, refl, subst, ℕ, ◌+◌, ◌%◌, ◌<◌, List, [], ◌∷◌, ◌++◌, length, map, Bool, true, false, arith}
use Rattle.std.proofs.Common.{inl, inr, Ok, Err, eq-eqb}
use Rattle.std.specs.Prelude.{Result, Option, Some, None, ◌==◌, ◌&&◌}
use Rattle.std.specs.List.{AllByRecursion}
use Rattle.std.specs.Option.{option_to_list}
use Rattle.std.proofs.lemmas.List.{map-append, length-map}
use Rattle.xns_spp.specs.Fronts.{begins_then, begins_map, all_front}
use Rattle.xns_spp.specs.Growth.{Begins}
use Rattle.xns_spp.specs.declared.item.Item.{Item}
use Rattle.courier_messages.specs.declared.fault.SessionFault.{SessionFault}
use Rattle.courier_messages.specs.declared.message.Message.{Message}
use Rattle.courier_messages.specs.declared.message.Message.TheVariants.{Call, Reject, Return, Abort}
use Rattle.courier_messages.specs.RawCalls.{RawCall, caller_items, call_message, numbered, numbered_message}
use Rattle.courier_messages.specs.Conversation.{conversation}
use Rattle.courier_messages.specs.Laws.{items_of, IsShort, IsFaultless, Hears, HearsCalls, AFrontIsHeard, CallsAreHeard, OneItemMore}
use Rattle.courier_messages.specs.Laws.{AServerHearsOneItemMore}
use Rattle.courier_messages.specs.Called.{server_ending}
use Rattle.courier_sessions.specs.declared.program.Program.{Program}
use Rattle.courier_sessions.specs.Answering.{Answering, transaction_in, is_a_call, after_item as after_heard}
use Rattle.courier_sessions.specs.Answerings.{HasAnswered, IsAnswer}
use Rattle.courier_sessions.specs.Talk.{Talk, wrong_unless, reply_fault, after_item}
use Rattle.courier_sessions.specs.Talks.{HasDone, StopsTalk, made_messages, count_if}
use Rattle.courier_sessions.proofs.Answered.{stops}
use Rattle.courier_sessions.proofs.Done.{refuses}
use Rattle.courier_sessions.proofs.Room.{last_is}

made_are : (k : ℕ) (cs : List RawCall) → made_messages k cs ≡ map numbered_message (numbered k cs)
unfolding made_messages numbered numbered_message
made_are k [] = refl
made_are k (c ∷ cs) = ap (λ (ms : List Message). call_message (k % 65536) c ∷ ms) (made_are (k + 1) cs)

-- what the server hears

heard : (asks : CallsAreHeard) (made : List RawCall) (back given : List Item) (got : List Message) (t : Talk) (fed : List Item) →
    HasDone made back given got t → Begins fed given → HearsCalls fed made
heard asks made back given got t fed h p = asks fed made h.short (begins_then fed given (caller_items made) p (t.out, h.items))

calls_heard : (asks : CallsAreHeard) (made : List RawCall) (back given : List Item) (got : List Message) (t : Talk) (fed : List Item) →
    HasDone made back given got t → Begins fed given → Begins (conversation fed) (made_messages 1 made)
calls_heard asks made back given got t fed h p = subst (λ (ms : List Message). Begins (conversation fed) ms) (sym (made_are 1 made))
    (heard asks made back given got t fed h p).messages

never_stops : (asks : CallsAreHeard) (made : List RawCall) (back given : List Item) (got : List Message) (t : Talk) (fed : List Item) →
    HasDone made back given got t → Begins fed given → IsFaultless (server_ending fed)
never_stops asks made back given got t fed h p = (heard asks made back given got t fed h p).well

pub server_goes : (asks : CallsAreHeard) (server : AServerHearsOneItemMore) (made : List RawCall) (back given : List Item)
    (got : List Message) (t : Talk) (programs : List Program) (fed sent : List Item) (taken handed answers : List Message) (a : Answering)
    (x : Item) → HasDone made back given got t → HasAnswered programs fed sent taken handed answers a → Begins (fed ++ x ∷ []) given →
    (n : Answering) × (after_heard a x ≡ Ok n)
server_goes asks server made back given got t programs fed sent taken handed answers a x h s p = by_result (after_heard a x) refl where
  by_result : (r : Result Answering SessionFault) → after_heard a x ≡ r → (n : Answering) × (after_heard a x ≡ Ok n)
  by_result (Ok n) e = (n, e)
  by_result (Err e) is = absurd (subst IsFaultless (stops server programs fed sent taken handed answers a x e s is)
      (never_stops asks made back given got t (fed ++ x ∷ []) h p))

pub calls_agree : (asks : CallsAreHeard) (made : List RawCall) (back given : List Item) (got : List Message) (t : Talk)
    (programs : List Program) (fed sent : List Item) (taken handed answers : List Message) (a : Answering) → HasDone made back given got t →
    HasAnswered programs fed sent taken handed answers a → Begins fed given → Begins (taken ++ option_to_list a.call) (made_messages 1 made)
calls_agree asks made back given got t programs fed sent taken handed answers a h s p =
    subst (λ (ms : List Message). Begins ms (made_messages 1 made)) (sym s.calls) (calls_heard asks made back given got t fed h p)

-- what the caller hears

all_short : (ms : List Message) → AllByRecursion IsAnswer ms → AllByRecursion IsShort ms
all_short [] h = tt
all_short (m ∷ ms) h = (h.0.0, all_short ms h.1)

replies_heard : (hear : AFrontIsHeard) (programs : List Program) (fed sent : List Item) (taken handed answers : List Message)
    (a : Answering) (back : List Item) → HasAnswered programs fed sent taken handed answers a → Begins back sent → Hears back answers
replies_heard hear programs fed sent taken handed answers a back s p =
    hear back answers (all_short answers s.good) (begins_then back sent (items_of answers) p (a.out, s.items))

pub answers_agree : (hear : AFrontIsHeard) (made : List RawCall) (back given : List Item) (got : List Message) (t : Talk)
    (programs : List Program) (fed sent : List Item) (taken handed answers : List Message) (a : Answering) → HasDone made back given got t →
    HasAnswered programs fed sent taken handed answers a → Begins back sent → Begins (got ++ option_to_list t.outcome) answers
answers_agree hear made back given got t programs fed sent taken handed answers a h s p =
    subst (λ (ms : List Message). Begins ms answers) (sym h.messages)
    (replies_heard hear programs fed sent taken handed answers a back s p).front

-- the numbers of the answers are those of the calls made
numbers_begin : (asks : CallsAreHeard) (made : List RawCall) (back given : List Item) (got : List Message) (t : Talk)
    (programs : List Program) (fed sent : List Item) (taken handed answers : List Message) (a : Answering) → HasDone made back given got t →
    HasAnswered programs fed sent taken handed answers a → Begins fed given →
    Begins (map transaction_in answers) (map transaction_in (made_messages 1 made))
numbers_begin asks made back given got t programs fed sent taken handed answers a h s p =
    let of_calls = begins_map transaction_in (taken ++ option_to_list a.call) (made_messages 1 made)
    (calls_agree asks made back given got t programs fed sent taken handed answers a h s p) in
    let of_taken : Begins (map transaction_in taken) (map transaction_in (taken ++ option_to_list a.call)) =
    (map transaction_in (option_to_list a.call), sym (map-append transaction_in taken (option_to_list a.call))) in
    begins_then (map transaction_in answers) (map transaction_in taken) (map transaction_in (made_messages 1 made))
    (option_to_list a.asked, sym s.numbers)
    (begins_then (map transaction_in taken) (map transaction_in (taken ++ option_to_list a.call))
    (map transaction_in (made_messages 1 made)) of_taken of_calls)

-- the number that stands behind a prefix of the calls' numbers
number_at : (k : ℕ) (cs : List RawCall) (ns : List ℕ) (n : ℕ) → Begins (ns ++ n ∷ []) (map transaction_in (made_messages k cs)) →
    (n ≡ (k + length ns) % 65536) × (length ns < length cs)
unfolding made_messages
number_at k [] [] n p = absurd (let e = p.1 in cc)
number_at k [] (m ∷ ns) n p = absurd (let e = p.1 in cc)
number_at k (c ∷ cs) [] n p =
    let e = p.1 in
    let is : n ≡ k % 65536 = cc in
    (is ∙ ap (λ (i : ℕ). i % 65536) (let z : k ≡ k + 0 = omega arith in z), omega arith)
number_at k (c ∷ cs) (m ∷ ns) n p =
    let e = p.1 in
    let rest : (ns ++ n ∷ []) ++ p.0 ≡ map transaction_in (made_messages (k + 1) cs) = cc in
    let r = number_at (k + 1) cs ns n (p.0, rest) in
    let few = r.1 in
    (r.0 ∙ ap (λ (i : ℕ). i % 65536) (let z : k + 1 + length ns ≡ k + length (m ∷ ns) = omega arith in z), omega (arith, few))

waits : (w : Bool) (n k : ℕ) → n ≡ k + count_if w → k < n → (w ≡ true) × (n ≡ 1 + k)
waits true n k e few = (refl, omega (arith, e))
waits false n k e few = absurd (omega (arith, e, few))

right_one : (w b : Bool) → w ≡ true → b ≡ true → wrong_unless (w && b) ≡ None
right_one true true e f = refl
right_one true false e f = absurd cc
right_one false b e f = absurd cc

no_fault : (w : Bool) (k : ℕ) (m : Message) → w ≡ true → transaction_in m ≡ k → is_a_call m ≡ false → reply_fault w k m ≡ None
no_fault w k (Call transaction program version procedure words) e f g = absurd cc
no_fault w k (Reject transaction reason words) e f g = right_one w (transaction == k) e (eq-eqb transaction k f)
no_fault w k (Return transaction words) e f g = right_one w (transaction == k) e (eq-eqb transaction k f)
no_fault w k (Abort transaction error words) e f g = right_one w (transaction == k) e (eq-eqb transaction k f)

some_is_not_none : (o : Option SessionFault) (e : SessionFault) → o ≡ Some e → o ≡ None → ⊥
some_is_not_none o e f g = absurd cc

pub caller_goes : (asks : CallsAreHeard) (hear : AFrontIsHeard) (law : OneItemMore) (made : List RawCall) (back given : List Item)
    (got : List Message) (t : Talk) (programs : List Program) (fed sent : List Item) (taken handed answers : List Message) (a : Answering)
    (x : Item) → HasDone made back given got t → HasAnswered programs fed sent taken handed answers a → Begins fed given →
    Begins (back ++ x ∷ []) sent → (n : Talk) × (after_item t x ≡ Ok n)
caller_goes asks hear law made back given got t programs fed sent taken handed answers a x h s p q = by_result (after_item t x) refl where
  hs : Hears (back ++ x ∷ []) answers
  hs = replies_heard hear programs fed sent taken handed answers a (back ++ x ∷ []) s q

  by_message : (e : SessionFault) (m : Message) → conversation (back ++ x ∷ []) ≡ conversation back ++ m ∷ [] →
      reply_fault t.waiting t.transaction m ≡ Some e → ⊥
  by_message e m more wrong =
      let front : Begins (conversation back ++ m ∷ []) answers = subst (λ (ms : List Message). Begins ms answers) more hs.front in
      let ns : List ℕ = map transaction_in (conversation back) in
      let of_answers : Begins (ns ++ transaction_in m ∷ []) (map transaction_in answers) =
      subst (λ (is : List ℕ). Begins is (map transaction_in answers)) (map-append transaction_in (conversation back) (m ∷ []))
      (begins_map transaction_in (conversation back ++ m ∷ []) answers front) in
      let of_calls = begins_then (ns ++ transaction_in m ∷ []) (map transaction_in answers)
      (map transaction_in (made_messages 1 made)) of_answers
      (numbers_begin asks made back given got t programs fed sent taken handed answers a h s p) in
      let at = number_at 1 made ns (transaction_in m) of_calls in
      let few = at.1 in
      let size : length ns ≡ length (conversation back) = length-map (conversation back) transaction_in in
      let w = waits t.waiting (length made) (length (conversation back)) h.count (omega (arith, few, size)) in
      let all = w.1 in
      let number : transaction_in m ≡ t.transaction = at.0 ∙ ap (λ (i : ℕ). i % 65536)
      (let z : 1 + length ns ≡ length made = omega (arith, size, all) in z) ∙ sym h.transaction in
      let good = last_is IsAnswer (conversation back) m (all_front IsAnswer (conversation back ++ m ∷ []) front.0
      (subst (AllByRecursion IsAnswer) (sym front.1) s.good)) in
      some_is_not_none (reply_fault t.waiting t.transaction m) e wrong (no_fault t.waiting t.transaction m w.0 number good.1)

  by_fault : (e : SessionFault) → StopsTalk back t x e → ⊥
  by_fault e (inl stopped) = subst IsFaultless stopped hs.well
  by_fault e (inr r) = by_message e r.0 r.1 r.2

  by_result : (r : Result Talk SessionFault) → after_item t x ≡ r → (n : Talk) × (after_item t x ≡ Ok n)
  by_result (Ok n) e = (n, e)
  by_result (Err e) is = absurd (by_fault e (refuses law made back given got t x e h is))
