-- What a session that answers calls has done with one step more. Each proof names what the step changes, and takes the rest from what
-- held before.
use Rattle.std.proofs.Common.{◌≡◌, ◌∙◌, ap, sym, refl, subst, ℕ, List, [], ◌∷◌, ◌++◌, map, append_assoc, append-nil, length, arith, Bool}
use Rattle.std.proofs.Common.{true, false, Ok, Err}
use Rattle.std.specs.Prelude.{Result, Option, Some, None, IfSome, not, cond, nat_lt, ◌||◌, if◌then◌else◌}
use Rattle.std.specs.List.{flat_map, filter}
use Rattle.std.specs.Option.{is_some, option_to_list}
use Rattle.std.proofs.lemmas.Bool.{ltb-false}
use Rattle.std.proofs.lemmas.List.{map-append}
use Rattle.std.proofs.lemmas.List.Concat.{flat_map-append}
use Rattle.std.proofs.lemmas.List.Elements.{filter-append}
use Rattle.xns_spp.specs.Fronts.{all_append}
use Rattle.xns_spp.specs.declared.item.Item.{Item}
use Rattle.courier_messages.specs.declared.fault.SessionFault.{SessionFault}
use Rattle.courier_messages.specs.declared.message.Message.{Message}
use Rattle.courier_messages.specs.Conversation.{Phase, conversation, conversation_fault, ending}
use Rattle.courier_messages.specs.Cutting.{cut, versions_item}
use Rattle.courier_messages.specs.Laws.{items_of, IsShort, OneItemMore, AServerHearsOneItemMore}
use Rattle.courier_messages.specs.Message.{most_words, message_words}
use Rattle.courier_messages.specs.Phases.{run, said, ◌then◌}
use Rattle.courier_messages.specs.Called.{all_calls, called_ending, server_ending}
use Rattle.courier_messages.specs.Text.{signs}
use Rattle.courier_sessions.proofs.Done.{two_are_no_one, none_there}
use Rattle.courier_sessions.specs.declared.program.Program.{Program}
use Rattle.courier_sessions.specs.declared.unlisted.Unlisted.{Unlisted}
use Rattle.courier_sessions.specs.declared.unlisted.Unlisted.TheVariants as unlisted
use Rattle.courier_sessions.specs.Answering.{Answering, new_answering, has_items, is_busy, with_call, after_item, transaction_in, is_a_call}
use Rattle.courier_sessions.specs.Answering.{after_call, why_unlisted, reject_message, after_reject, answer_message, answer_refusal}
use Rattle.courier_sessions.specs.Answering.{with_answer_out}
use Rattle.courier_sessions.specs.declared.answer.Answer.{Answer}
use Rattle.courier_sessions.specs.declared.answer.Answer.TheVariants as kinds
use Rattle.courier_sessions.specs.declared.answer_refusal.AnswerRefusal.TheVariants as refusals
use Rattle.courier_sessions.specs.Answerings.{HasAnswered, IsAnswer, is_answerable}

pub start : (programs : List Program) → HasAnswered programs [] [] [] [] [] (new_answering programs)
unfolding conversation conversation_fault ending all_calls
start programs = assumption

-- an item that is given, a call that is handed, and an answer that is made

pub gives : (programs : List Program) (fed given : List Item) (taken handed answers : List Message) (a : Answering) (x : Item)
    (xs : List Item) → HasAnswered programs fed given taken handed answers a → a.out ≡ x ∷ xs →
    HasAnswered programs fed (given ++ x ∷ []) taken handed answers (record a { out = xs })
gives programs fed given taken handed answers a x xs h e =
    let items : (given ++ x ∷ []) ++ xs ≡ items_of answers = append_assoc given (x ∷ []) xs
    ∙ ap (λ (ys : List Item). given ++ ys) (sym e) ∙ h.items in
    assumption (items, h)

listed_by : (old programs : List Program) (m : Message) (o : Option Unlisted) → old ≡ programs → why_unlisted old m ≡ o →
    is_answerable programs m ≡ not (is_some o)
listed_by old programs m o e f = ap (λ (ps : List Program). is_answerable ps m) (sym e) ∙ ap (λ (u : Option Unlisted). not (is_some u)) f

pub hands : (programs : List Program) (fed given : List Item) (taken handed answers : List Message) (a : Answering) (m : Message) →
    HasAnswered programs fed given taken handed answers a → a.call ≡ Some m → why_unlisted a.programs m ≡ None →
    HasAnswered programs fed given (taken ++ m ∷ []) (handed ++ m ∷ []) answers (after_call a m)
hands programs fed given taken handed answers a m h e fine =
    let none : a.asked ≡ None = subst (λ (o : Option Message). IfSome o (λ n. a.asked ≡ None)) e h.single in
    let right : is_answerable programs m ≡ true = listed_by a.programs programs m None h.table fine in
    let before : map transaction_in taken ≡ map transaction_in answers = h.numbers
    ∙ ap (λ (o : Option ℕ). map transaction_in answers ++ option_to_list o) none ∙ append-nil (map transaction_in answers) in
    let numbers : map transaction_in (taken ++ m ∷ []) ≡ map transaction_in answers ++ transaction_in m ∷ [] =
    map-append transaction_in taken (m ∷ []) ∙ ap (λ (ks : List ℕ). ks ++ transaction_in m ∷ []) before in
    let calls : (taken ++ m ∷ []) ++ [] ≡ conversation fed = append-nil (taken ++ m ∷ [])
    ∙ ap (λ (o : Option Message). taken ++ option_to_list o) (sym e) ∙ h.calls in
    let listed : handed ++ m ∷ [] ≡ filter (is_answerable programs) (taken ++ m ∷ []) = ap (λ (ms : List Message). ms ++ m ∷ []) h.listed
    ∙ sym (filter-append (is_answerable programs) taken (m ∷ []) ∙ ap (λ (b : Bool). filter (is_answerable programs) taken ++ cond b (m ∷ [])
    []) right) in
    assumption (numbers, calls, listed, h)

none_waits : (o : Option Message) (s : Option ℕ) (k : ℕ) → IfSome o (λ n. s ≡ None) → s ≡ Some k → o ≡ None
none_waits None s k h e = refl
none_waits (Some n) s k h e = absurd cc

-- the items of one more answer
items_more : (given out : List Item) (ms : List Message) (m : Message) → given ++ out ≡ items_of ms →
    (given ++ out) ++ cut m ≡ items_of (ms ++ m ∷ [])
items_more given out ms m h = ap (λ (xs : List Item). xs ++ cut m) h ∙ ap (λ (xs : List Item). versions_item ∷ xs)
    (sym (flat_map-append cut ms (m ∷ []) ∙ ap (λ (xs : List Item). flat_map cut ms ++ xs) (append-nil (cut m))))

reject_number : (k : ℕ) (u : Unlisted) → transaction_in (reject_message k u) ≡ k
reject_number k unlisted.Program = refl
reject_number k (unlisted.Version low high) = refl

reject_good : (k : ℕ) (u : Unlisted) → IsAnswer (reject_message k u)
reject_good k unlisted.Program = (omega arith, refl)
reject_good k (unlisted.Version low high) = (omega arith, refl)

pub rejects : (programs : List Program) (fed given : List Item) (taken handed answers : List Message) (a : Answering) (m : Message)
    (u : Unlisted) → HasAnswered programs fed given taken handed answers a → a.call ≡ Some m → why_unlisted a.programs m ≡ Some u →
    HasAnswered programs fed given (taken ++ m ∷ []) handed (answers ++ reject_message (transaction_in m) u ∷ []) (after_reject a m u)
rejects programs fed given taken handed answers a m u h e refused =
    let reject : Message = reject_message (transaction_in m) u in
    let none : a.asked ≡ None = subst (λ (o : Option Message). IfSome o (λ n. a.asked ≡ None)) e h.single in
    let before : map transaction_in taken ≡ map transaction_in answers = h.numbers
    ∙ ap (λ (o : Option ℕ). map transaction_in answers ++ option_to_list o) none ∙ append-nil (map transaction_in answers) in
    let wrong : is_answerable programs m ≡ false = listed_by a.programs programs m (Some u) h.table refused in
    let more : map transaction_in (answers ++ reject ∷ []) ≡ map transaction_in answers ++ transaction_in m ∷ [] =
    map-append transaction_in answers (reject ∷ []) ∙ ap (λ (n : ℕ). map transaction_in answers ++ n ∷ [])
    (reject_number (transaction_in m) u) in
    let items = sym (append_assoc given a.out (cut reject)) ∙ items_more given a.out answers reject h.items in
    let good = all_append IsAnswer answers (reject ∷ []) h.good (reject_good (transaction_in m) u, tt) in
    let numbers : map transaction_in (taken ++ m ∷ []) ≡ map transaction_in (answers ++ reject ∷ []) ++ option_to_list a.asked =
    map-append transaction_in taken (m ∷ []) ∙ ap (λ (ks : List ℕ). ks ++ transaction_in m ∷ []) before ∙ sym more
    ∙ sym (append-nil (map transaction_in (answers ++ reject ∷ [])))
    ∙ ap (λ (o : Option ℕ). map transaction_in (answers ++ reject ∷ []) ++ option_to_list o) (sym none) in
    let calls : (taken ++ m ∷ []) ++ [] ≡ conversation fed = append-nil (taken ++ m ∷ [])
    ∙ ap (λ (o : Option Message). taken ++ option_to_list o) (sym e) ∙ h.calls in
    let listed : handed ≡ filter (is_answerable programs) (taken ++ m ∷ []) = h.listed
    ∙ sym (filter-append (is_answerable programs) taken (m ∷ [])
    ∙ ap (λ (b : Bool). filter (is_answerable programs) taken ++ cond b (m ∷ []) []) wrong
    ∙ append-nil (filter (is_answerable programs) taken)) in
    assumption (items, good, numbers, calls, listed, h)

answers_right : (answer : Answer) (k : ℕ) (words : List ℕ) → (transaction_in (answer_message answer k words) ≡ k)
    × (is_a_call (answer_message answer k words) ≡ false)
answers_right (kinds.Reject reason) k words = (refl, refl)
answers_right kinds.Return k words = (refl, refl)
answers_right (kinds.Abort error) k words = (refl, refl)

fits : (asked : Option ℕ) (answer : Answer) (k : ℕ) (words : List ℕ) → answer_refusal asked answer words ≡ None → asked ≡ Some k →
    IsShort (answer_message answer k words)
fits asked answer k words h e = few (nat_lt most_words (length (message_words (answer_message answer k words)))) refl
    (sym (ap (λ (o : Option ℕ). answer_refusal o answer words) e) ∙ h) where
      few : (b : Bool) → nat_lt most_words (length (message_words (answer_message answer k words))) ≡ b →
          (if b then Some refusals.TooLong else None) ≡ None → IsShort (answer_message answer k words)
      few true f h = absurd cc
      few false f h = ltb-false most_words (length (message_words (answer_message answer k words))) f

pub answers_one : (programs : List Program) (fed given : List Item) (taken handed answers : List Message) (a : Answering) (answer : Answer)
    (k : ℕ) (words : List ℕ) → HasAnswered programs fed given taken handed answers a → a.asked ≡ Some k →
    answer_refusal a.asked answer words ≡ None → HasAnswered programs fed given taken handed (answers ++ answer_message answer k words ∷ [])
    (with_answer_out a (answer_message answer k words))
answers_one programs fed given taken handed answers a answer k words h e fine =
    let m : Message = answer_message answer k words in
    let right = answers_right answer k words in
    let more : map transaction_in (answers ++ m ∷ []) ≡ map transaction_in answers ++ k ∷ [] = map-append transaction_in answers (m ∷ [])
    ∙ ap (λ (n : ℕ). map transaction_in answers ++ n ∷ []) right.0 in
    let items = sym (append_assoc given a.out (cut m)) ∙ items_more given a.out answers m h.items in
    let good = all_append IsAnswer answers (m ∷ []) h.good ((fits a.asked answer k words fine e, right.1), tt) in
    let numbers : map transaction_in taken ≡ map transaction_in (answers ++ m ∷ []) ++ [] = h.numbers
    ∙ ap (λ (o : Option ℕ). map transaction_in answers ++ option_to_list o) e ∙ sym more
    ∙ sym (append-nil (map transaction_in (answers ++ m ∷ []))) in
    let calls : taken ++ [] ≡ conversation fed = ap (λ (o : Option Message). taken ++ option_to_list o)
    (sym (none_waits a.call a.asked k h.single e)) ∙ h.calls in
    assumption (items, good, numbers, calls, h)

-- a reject of a call that was not handed is as one of a call that was
pub refuses : (programs : List Program) (fed given : List Item) (taken handed answers : List Message) (a : Answering) (reason : ℕ)
    (words : List ℕ) (m : Message) → HasAnswered programs fed given taken handed answers a → a.call ≡ Some m →
    why_unlisted a.programs m ≡ None → answer_refusal (Some (transaction_in m)) (kinds.Reject reason) words ≡ None →
    HasAnswered programs fed given (taken ++ m ∷ []) (handed ++ m ∷ [])
    (answers ++ answer_message (kinds.Reject reason) (transaction_in m) words ∷ [])
    (with_answer_out a (answer_message (kinds.Reject reason) (transaction_in m) words))
refuses programs fed given taken handed answers a reason words m h e fine free =
    answers_one programs fed given (taken ++ m ∷ []) (handed ++ m ∷ []) answers (after_call a m) (kinds.Reject reason)
    (transaction_in m) words (hands programs fed given taken handed answers a m h e fine) refl free

-- an item that is fed

idle_by : (c s o : Bool) → (c || s || o) ≡ false → (c ≡ false) × (s ≡ false)
idle_by true s o h = absurd cc
idle_by false true o h = absurd cc
idle_by false false o h = (refl, refl)

-- one more item was fed, behind which the side is at p, and the call that o holds waits
takes_on : (programs : List Program) (fed given : List Item) (taken handed answers : List Message) (a : Answering) (x : Item) (p : Phase)
    (o : Option Message) → HasAnswered programs fed given taken handed answers a → a.asked ≡ None
    → taken ++ option_to_list o ≡ conversation (fed ++ x ∷ []) → server_ending (fed ++ x ∷ []) ≡ Ok p →
    HasAnswered programs (fed ++ x ∷ []) given taken handed answers (record a { phase = p; call = o })
takes_on programs fed given taken handed answers a x p o h idle calls ends = assumption (calls, nothing_asked o, ends, h) where
  nothing_asked : (o : Option Message) → IfSome o (λ m. a.asked ≡ None)
  nothing_asked None = tt
  nothing_asked (Some m) = idle

feeds_by : (law : OneItemMore) (server : AServerHearsOneItemMore) (programs : List Program) (fed given : List Item)
    (taken handed answers : List Message) (a n : Answering) (x : Item) (p : Phase) (ms : List Message) →
    HasAnswered programs fed given taken handed answers a → a.call ≡ None → a.asked ≡ None
    → said a.phase (signs x) ≡ ms → server_ending (fed ++ x ∷ []) ≡ Ok p → with_call (record a { phase = p }) ms ≡ n →
    HasAnswered programs (fed ++ x ∷ []) given taken handed answers n
feeds_by law server programs fed given taken handed answers a n x p [] h empty idle hm ends is =
    let more : conversation (fed ++ x ∷ []) ≡ conversation fed = (server.goes fed a.phase x h.ending).said_then
    ∙ ap (λ (ms : List Message). conversation fed ++ ms) hm ∙ append-nil (conversation fed) in
    subst (HasAnswered programs (fed ++ x ∷ []) given taken handed answers) is
    (takes_on programs fed given taken handed answers a x p a.call h idle (h.calls ∙ sym more) ends)
feeds_by law server programs fed given taken handed answers a n x p (m ∷ []) h empty idle hm ends is =
    let more : conversation (fed ++ x ∷ []) ≡ conversation fed ++ m ∷ [] = (server.goes fed a.phase x h.ending).said_then
    ∙ ap (λ (ms : List Message). conversation fed ++ ms) hm in
    let all : taken ≡ conversation fed = sym (append-nil taken) ∙ ap (λ (o : Option Message). taken ++ option_to_list o) (sym empty)
    ∙ h.calls in
    subst (HasAnswered programs (fed ++ x ∷ []) given taken handed answers) is
    (takes_on programs fed given taken handed answers a x p (Some m) h idle (ap (λ (ms : List Message). ms ++ m ∷ []) all ∙ sym more) ends)
feeds_by law server programs fed given taken handed answers a n x p (m ∷ m' ∷ ms) h empty idle hm ends is =
    absurd (two_are_no_one (said a.phase (signs x)) m m' ms hm (law.single x a.phase))

then_is : (q : Result Phase SessionFault) (f : Phase → Answering) (n : Answering) → (q then λ p. Ok (f p)) ≡ Ok n → (p : Phase) × (q ≡ Ok p)
    × (f p ≡ n)
then_is (Ok p) f n h = (p, refl, cc)
then_is (Err e) f n h = absurd cc

pub feeds : (law : OneItemMore) (server : AServerHearsOneItemMore) (programs : List Program) (fed given : List Item)
    (taken handed answers : List Message) (a n : Answering) (x : Item) → HasAnswered programs fed given taken handed answers a →
    is_busy a ≡ false → after_item a x ≡ Ok n → HasAnswered programs (fed ++ x ∷ []) given taken handed answers n
feeds law server programs fed given taken handed answers a n x h free is =
    let idle = idle_by (is_some a.call) (is_some a.asked) (has_items a.out) free in
    let ms : List Message = said a.phase (signs x) in
    let t = then_is (called_ending ms (run a.phase (signs x))) (λ p. with_call (record a { phase = p }) ms) n is in
    feeds_by law server programs fed given taken handed answers a n x t.0 ms h (none_there a.call idle.0) (none_there a.asked idle.1) refl
    ((server.goes fed a.phase x h.ending).ends ∙ t.1) t.2

-- a fault

then_fault : (q : Result Phase SessionFault) (f : Phase → Answering) (e : SessionFault) → (q then λ p. Ok (f p)) ≡ Err e → q ≡ Err e
then_fault (Ok p) f e h = absurd cc
then_fault (Err d) f e h = cc

pub stops : (server : AServerHearsOneItemMore) (programs : List Program) (fed given : List Item) (taken handed answers : List Message)
    (a : Answering) (x : Item) (e : SessionFault) → HasAnswered programs fed given taken handed answers a → after_item a x ≡ Err e →
    server_ending (fed ++ x ∷ []) ≡ Err e
stops server programs fed given taken handed answers a x e h is =
    let ms : List Message = said a.phase (signs x) in
    (server.goes fed a.phase x h.ending).ends ∙ then_fault (called_ending ms (run a.phase (signs x)))
    (λ p. with_call (record a { phase = p }) ms) e is
