-- What an item would bring, before it is taken.
use Rattle.std.proofs.Common.{◌≡◌, ◌∙◌, ap, refl, subst, sym, ℕ, List, [], ◌∷◌, ◌++◌, drop, length, map, Bool, true, false, Option, None, Result, Ok, Err}
use Rattle.std.specs.Prelude.{is_ok}
use Rattle.xns_spp.specs.declared.item.Item.{Item}
use Rattle.courier_messages.specs.declared.fault.SessionFault.{SessionFault}
use Rattle.courier_messages.specs.declared.fault.SessionFault.TheVariants as faults
use Rattle.courier_messages.specs.declared.head.Head.{Head}
use Rattle.courier_messages.specs.declared.incoming.Stage.{Stage}
use Rattle.courier_messages.specs.declared.message.Message.{Message}
use Rattle.courier_messages.specs.Conversation.{Phase, inside}
use Rattle.courier_messages.specs.Head.{head_in}
use Rattle.courier_messages.specs.Inside.{kept_at, phase_in}
use Rattle.courier_messages.specs.Phases.{after_sign, ended, run, said, onwards, ◌then◌}
use Rattle.courier_messages.specs.Refusal.{Foresees, Stops}
use Rattle.courier_messages.specs.Text.{Sign, byte, mark, signs, end_of, item_of}
use Rattle.courier_messages.proofs.Runs.{signs_open, run_append, said_append, said_bytes, run_mark, said_mark, without_mark, weaker}

pub foreseen_open : (p q : Phase) (x : Item) → x.stream ≡ 0 → x.last ≡ false → run p (map byte x.body) ≡ Ok q → Foresees (Ok None) (run p (signs x)) (said p (signs x))
foreseen_open p q x h l r =
    let w = without_mark p q x h l r in
    (ap is_ok w.0, ap (map head_in) w.1)

with_mark : (x : Item) → x.stream ≡ 0 → x.last ≡ true → signs x ≡ map byte x.body ++ mark ∷ []
with_mark x h l = signs_open x h ∙ ap (λ (b : Bool). map byte x.body ++ end_of b) l

-- an item with a mark leads where the mark leads behind the bytes of the item
ran_to_mark : (p q : Phase) (x : Item) → x.stream ≡ 0 → x.last ≡ true → run p (map byte x.body) ≡ Ok q → run p (signs x) ≡ after_sign q mark
ran_to_mark p q x h l r =
    ap (run p) (with_mark x h l) ∙ run_append p (map byte x.body) (mark ∷ [])
    ∙ ap (λ (t : Result Phase SessionFault). t then λ q. run q (mark ∷ [])) r ∙ run_mark q

said_to_mark : (p q : Phase) (x : Item) → x.stream ≡ 0 → x.last ≡ true → run p (map byte x.body) ≡ Ok q → said p (signs x) ≡ ended q mark
said_to_mark p q x h l r =
    let bytes : List Sign = map byte x.body in
    ap (said p) (with_mark x h l) ∙ said_append p bytes (mark ∷ []) ∙ ap (λ (ms : List Message). ms ++ onwards (run p bytes) (λ q. said q (mark ∷ []))) (said_bytes p x.body)
    ∙ ap (λ (t : Result Phase SessionFault). onwards t (λ q. said q (mark ∷ []))) r ∙ said_mark q

pub foreseen_mark : (seen : Result (Option Head) SessionFault) (p q : Phase) (x : Item) → x.stream ≡ 0 → x.last ≡ true → run p (map byte x.body) ≡ Ok q → Foresees seen (after_sign q mark) (ended q mark)
    → Foresees seen (run p (signs x)) (said p (signs x))
foreseen_mark seen p q x h l r f =
    subst (λ (t : Result Phase SessionFault). Foresees seen t (said p (signs x))) (sym (ran_to_mark p q x h l r))
    (subst (λ (ms : List Message). Foresees seen (after_sign q mark) ms) (sym (said_to_mark p q x h l r)) f)

-- where no bytes are kept and a mark behind an item's bytes ends a message, the item with the mark leads to where none
-- are kept
pub whole_run : (p : Phase) (stage : Stage) (skipped : ℕ) (pieces body : List ℕ) → length pieces ≡ 0
    → run p (map byte body) ≡ Ok (phase_in stage (drop skipped (kept_at stage (pieces ++ body))))
    → after_sign (phase_in stage (drop skipped (kept_at stage body))) mark ≡ Ok (inside []) → run p (signs (item_of 0 true body)) ≡ Ok (inside pieces)
whole_run p stage skipped [] body e r s = ran_to_mark p _ (item_of 0 true body) refl refl r ∙ s
whole_run p stage skipped (b ∷ pieces) body e r s = (cc)

pub whole_said : (p : Phase) (stage : Stage) (skipped : ℕ) (pieces body : List ℕ) (ms : List Message) → length pieces ≡ 0
    → run p (map byte body) ≡ Ok (phase_in stage (drop skipped (kept_at stage (pieces ++ body))))
    → ended (phase_in stage (drop skipped (kept_at stage body))) mark ≡ ms → said p (signs (item_of 0 true body)) ≡ ms
whole_said p stage skipped [] body ms e r s = said_to_mark p _ (item_of 0 true body) refl refl r ∙ s
whole_said p stage skipped (b ∷ pieces) body ms e r s = (cc)

pub foreseen_fault : (e : SessionFault) (p : Phase) (x : Item) → x.stream ≡ 0 → Stops e ⊥ (run p (map byte x.body) ≡ Err e) → Foresees (Err e) (run p (signs x)) (said p (signs x))
foreseen_fault e p x h = weaker e (λ u. u) on_fault where
  bytes : List Sign
  bytes = map byte x.body

  on_fault : run p bytes ≡ Err e → (run p (signs x) ≡ Err e) × (said p (signs x) ≡ [])
  on_fault r = (
    ap (run p) (signs_open x h) ∙ run_append p bytes (end_of x.last) ∙ ap (λ (t : Result Phase SessionFault). t then λ q. run q (end_of x.last)) r,
    ap (said p) (signs_open x h) ∙ said_append p bytes (end_of x.last) ∙ ap (λ (ms : List Message). ms ++ onwards (run p bytes) (λ q. said q (end_of x.last))) (said_bytes p x.body)
        ∙ ap (λ (t : Result Phase SessionFault). onwards t (λ q. said q (end_of x.last))) r,
  )

-- a fault says no message
said_none : (e : SessionFault) (P : Type 0) (ms : List Message) → Stops e ⊥ (P × (ms ≡ [])) → ms ≡ []
said_none faults.NoMemory P ms s = absurd s
said_none faults.NoCommonVersion P ms s = s.1
said_none faults.BadVersions P ms s = s.1
said_none (faults.BadMessage f) P ms s = s.1
said_none faults.WrongTransaction P ms s = s.1
said_none faults.BadReply P ms s = s.1
said_none (faults.Stream kind) P ms s = s.1
said_none faults.Failed P ms s = absurd s

pub fault_said : (e : SessionFault) (p : Phase) (body : List ℕ) → Stops e ⊥ (run p (map byte body) ≡ Err e) → said p (signs (item_of 0 true body)) ≡ []
fault_said e p body s =
    said_none e (run p (signs (item_of 0 true body)) ≡ Err e) (said p (signs (item_of 0 true body))) (foreseen_fault e p (item_of 0 true body) refl s)
