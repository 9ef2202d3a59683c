-- No answer is read at the item in which a fault stands.
use Rattle.std.proofs.Common.{◌≡◌, ◌∙◌, ap, sym, refl, ℕ, ◌+◌, ◌≤◌, List, [], ◌∷◌, ◌++◌, length, append-nil, arith, Ok, Err}
use Rattle.std.specs.Prelude.{Result}
use Rattle.xns_spp.specs.declared.item.Item.{Item}
use Rattle.courier_messages.specs.declared.fault.SessionFault.{SessionFault}
use Rattle.courier_messages.specs.declared.message.Message.{Message}
use Rattle.courier_messages.specs.Text.{signs}
use Rattle.courier_messages.specs.Conversation.{Phase, conversation, ending}
use Rattle.courier_messages.specs.Phases.{run, said, onwards, ◌then◌}
use Rattle.courier_calls.specs.Table.{EntryModel}
use Rattle.courier_messages.specs.RawCalls.{RawCall, transaction_of}
use Rattle.courier_calls.specs.Calls.{SeenModel}
use Rattle.courier_calls.specs.Caller.{answer_in, before, answers, answers_from, unanswered, unanswered_from, caller_ending}
use Rattle.courier_calls.proofs.CallerLists.{unanswered_none, answers_none, unanswered_more, answers_more, stopped_answers}
use Rattle.courier_messages.specs.Laws.{OneItemMore}

unread_answer : (r : Result SeenModel SessionFault) (f : List RawCall) (q : Result Phase SessionFault) (e : SessionFault) → ((r then λ s. Ok f) then λ cs. q) ≡ Err e → ((d : SessionFault) → q ≡ Err d → ⊥) → before r [] ≡ []
unread_answer (Ok s) f q e h quiet = absurd (quiet e h)
unread_answer (Err d) f q e h quiet = refl

unanswered_message : (table : List EntryModel) (k : ℕ) (cs : List RawCall) (ms : List Message) (q : Result Phase SessionFault) (e : SessionFault) → length ms ≤ 1 → ((d : SessionFault) → q ≡ Err d → ms ≡ []) → (unanswered_from table k cs ms then λ ds. q) ≡ Err e → answers_from table k cs ms ≡ []
unfolding unanswered_from answers_from
unanswered_message table k cs [] q e few quiet h = answers_none table k cs
unanswered_message table k [] (m ∷ []) q e few quiet h = refl
unanswered_message table k (c ∷ cs) (m ∷ []) q e few quiet h =
    ap (λ (rs : List SeenModel). before (answer_in table (transaction_of k) c m) rs) (answers_none table (k + 1) cs)
    ∙ unread_answer (answer_in table (transaction_of k) c m) cs q e
    (ap (λ (f : Result (List RawCall) SessionFault). (answer_in table (transaction_of k) c m then λ s. f) then λ ds. q) (sym (unanswered_none table (k + 1) cs)) ∙ h)
    (λ d j. let n = quiet d j in absurd cc)
unanswered_message table k cs (m ∷ n ∷ ms) q e few quiet h = absurd (omega (arith, few))

pub answers_stay : (law : OneItemMore) (table : List EntryModel) (C : List RawCall) (F : List Item) (x : Item) (e : SessionFault) → caller_ending table C (F ++ x ∷ []) ≡ Err e → answers table C (F ++ x ∷ []) ≡ answers table C F
answers_stay law table C F x e h = by_front (unanswered table C F) (ending F) refl refl where
  by_front : (r : Result (List RawCall) SessionFault) (q : Result Phase SessionFault) → unanswered table C F ≡ r → ending F ≡ q → answers table C (F ++ x ∷ []) ≡ answers table C F
  by_front (Err d) q er eq =
      ap (λ (ms : List Message). answers_from table 1 C ms) (law.messages F x) ∙ stopped_answers table 1 C (conversation F) (onwards (ending F) (λ t. said t (signs x))) d er
  by_front (Ok cs) (Err d) er eq =
      ap (λ (ms : List Message). answers_from table 1 C ms) (law.messages F x ∙ ap (λ (o : Result Phase SessionFault). conversation F ++ onwards o (λ t. said t (signs x))) eq ∙ append-nil (conversation F))
  by_front (Ok cs) (Ok p) er eq =
      let ms = said p (signs x) in
      let k = 1 + length (conversation F) in
      let c : conversation (F ++ x ∷ []) ≡ conversation F ++ ms = law.messages F x ∙ ap (λ (o : Result Phase SessionFault). conversation F ++ onwards o (λ t. said t (signs x))) eq in
      let u : unanswered table C (F ++ x ∷ []) ≡ unanswered_from table k cs ms = ap (λ (ns : List Message). unanswered_from table 1 C ns) c ∙ unanswered_more table 1 C (conversation F) ms cs er in
      let n : ending (F ++ x ∷ []) ≡ run p (signs x) = law.kept F x ∙ ap (λ (o : Result Phase SessionFault). o then λ t. run t (signs x)) eq in
      let none = unanswered_message table k cs ms (run p (signs x)) e (law.single x p) (λ d j. law.silent x p d j)
      (ap (λ (q : Result Phase SessionFault). unanswered_from table k cs ms then λ ds. q) (sym n) ∙ ap (λ (o : Result (List RawCall) SessionFault). o then λ ds. ending (F ++ x ∷ [])) (sym u) ∙ h) in
      ap (λ (ns : List Message). answers_from table 1 C ns) c ∙ answers_more table 1 C (conversation F) ms cs er
      ∙ ap (λ (rs : List SeenModel). answers table C F ++ rs) none ∙ append-nil (answers table C F)
