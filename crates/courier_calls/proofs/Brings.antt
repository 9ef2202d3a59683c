-- What one item more brings.
use Rattle.std.proofs.Common.{◌≡◌, ◌∙◌, ap, refl, subst, ℕ, ◌≤◌, List, [], ◌∷◌, ◌++◌, length, append-nil, Result, Ok, Err, inl, inr, arith}
use Rattle.std.specs.List.{AllByRecursion}
use Rattle.std.proofs.lemmas.List.{map-append}
use Rattle.xns_spp.specs.declared.item.Item.{Item}
use Rattle.xns_spp.specs.Item.{IsItem}
use Rattle.courier_types.specs.Laws.{WrittenValueIsRead}
use Rattle.courier_messages.specs.declared.fault.SessionFault.{SessionFault}
use Rattle.courier_messages.specs.declared.message.Message.{Message}
use Rattle.courier_messages.specs.Message.{most_bytes}
use Rattle.courier_messages.specs.Text.{signs}
use Rattle.courier_messages.specs.Conversation.{Phase, conversation}
use Rattle.courier_messages.specs.Phases.{said}
use Rattle.courier_messages.specs.RawCalls.{RawCall}
use Rattle.courier_calls.specs.Calls.{Serving, IsLawful, decision}
use Rattle.courier_messages.specs.Cutting.{cut, versions_item}
use Rattle.courier_calls.specs.Answers.{answer_message}
use Rattle.courier_calls.specs.Server.{decided_calls, server_state, answer_items}
use Rattle.courier_messages.specs.Bounds.{bytes_in}
use Rattle.courier_messages.specs.Laws.{IsShort, OneItemMore, AServerHearsOneItemMore, WhatIsHeardHasNumbers}
use Rattle.courier_messages.specs.Called.{calls_of, raws, server_ending}
use Rattle.courier_calls.specs.Laws.{BringsNone, BringsOne, BringsAtMostOne}
use Rattle.xns_spp.specs.Fronts.{all_front}
use Rattle.courier_calls.proofs.FewCalls.{calls_few}
use Rattle.courier_calls.proofs.Lawful.{Values, keeps, keeps_all}
use Rattle.courier_calls.proofs.Numbers.{IsHeard, heard_numbers}
use Rattle.courier_calls.proofs.Sent.{raws_words}
use Rattle.courier_calls.proofs.Serves.{answers_append}
use Rattle.courier_calls.proofs.Sides.{reply_read}

-- ---- the calls of one item

-- what the laws of messages give here
pub record Messages : Type 0 where
  pub more : OneItemMore
  pub server : AServerHearsOneItemMore
  pub numbers : WhatIsHeardHasNumbers
  pub size : (m : Message) → IsShort m → length (bytes_in (cut m)) ≤ most_bytes

pub brings_none : {S : Type 0} (serving : Serving S) (s : S) (F G : List Item) → calls_of (conversation G) ≡ calls_of (conversation F) → BringsNone serving s F G
brings_none serving s F G same = record {
  calls = ap (λ (cs : List (ℕ × RawCall)). raws cs) same;
  out = ap (λ (cs : List (ℕ × RawCall)). versions_item ∷ answer_items serving s cs) same;
}

one_answer : {S : Type 0} (serving : Serving S) (s : S) (c : ℕ × RawCall) → answer_items serving s (c ∷ []) ≡ cut (answer_message c.0 (decision serving s c.1))
unfolding answer_items
one_answer serving s c = append-nil (cut (answer_message c.0 (decision serving s c.1)))

brings_one : {S : Type 0} (messages : Messages) (serving : Serving S) (s : S) (F G : List Item) (c : ℕ × RawCall) → calls_of (conversation G) ≡ calls_of (conversation F) ++ c ∷ [] → IsShort (answer_message c.0 (decision serving (server_state serving s F) c.1)) → BringsOne serving s F G
brings_one messages serving s F G c more short =
    let before = calls_of (conversation F) in
    record {
      transaction = c.0;
      call = c.1;
      calls = ap (λ (cs : List (ℕ × RawCall)). raws cs) more ∙ map-append (λ (d : ℕ × RawCall). d.1) before (c ∷ []);
      out = ap (λ (cs : List (ℕ × RawCall)). versions_item ∷ answer_items serving s cs) more
          ∙ ap (λ (xs : List Item). versions_item ∷ xs) (answers_append serving s before (c ∷ []) ∙ ap (λ (xs : List Item). answer_items serving s before ++ xs) (one_answer serving (server_state serving s F) c));
      size = messages.size (answer_message c.0 (decision serving (server_state serving s F) c.1)) short;
    }

last_heard : (cs : List (ℕ × RawCall)) (c : ℕ × RawCall) → AllByRecursion IsHeard (cs ++ c ∷ []) → IsHeard c
last_heard [] c h = h.0
last_heard (d ∷ cs) c h = last_heard cs c h.1

pub brings : {S : Type 0} → Messages → WrittenValueIsRead → Values → (serving : Serving S) (IsServiceState : S → Type 0) → IsLawful serving IsServiceState → (s : S) (F : List Item) (x : Item) → IsServiceState s → AllByRecursion IsItem (F ++ x ∷ [])
    → BringsAtMostOne serving s F (F ++ x ∷ [])
brings messages again laws serving IsServiceState law s F x can items = by_front (server_ending F) refl where
  before : List (ℕ × RawCall)
  before = calls_of (conversation F)

  short : (c : ℕ × RawCall) → calls_of (conversation (F ++ x ∷ [])) ≡ before ++ c ∷ [] → IsShort (answer_message c.0 (decision serving (server_state serving s F) c.1))
  short c more =
      let heard = subst (AllByRecursion IsHeard) more (heard_numbers messages.numbers (F ++ x ∷ []) items) in
      let here = (keeps_all laws serving IsServiceState law s can (decided_calls F) (raws_words before (all_front IsHeard before (c ∷ []) heard))).after in
      let one = last_heard before c heard in
      (reply_read again serving law.table (server_state serving s F) c.0 c.1 (keeps laws serving IsServiceState law (server_state serving s F) here c.1 one.words).well).0

  by_calls : (cs : List (ℕ × RawCall)) → length cs ≤ 1 → calls_of (conversation (F ++ x ∷ [])) ≡ before ++ cs → BringsAtMostOne serving s F (F ++ x ∷ [])
  by_calls [] few more = inl (brings_none serving s F (F ++ x ∷ []) (more ∙ append-nil before))
  by_calls (c ∷ []) few more = inr (brings_one messages serving s F (F ++ x ∷ []) c more (short c more))
  by_calls (c ∷ d ∷ cs) few more = absurd (omega (arith, few))

  by_front : (r : Result Phase SessionFault) → server_ending F ≡ r → BringsAtMostOne serving s F (F ++ x ∷ [])
  by_front (Err e) k = inl (brings_none serving s F (F ++ x ∷ []) (messages.server.stays F x e k).calls)
  by_front (Ok p) k =
      let ms = said p (signs x) in
      by_calls (calls_of ms) (omega (arith, calls_few ms, messages.more.single x p)) (messages.server.goes F p x k).calls_then
