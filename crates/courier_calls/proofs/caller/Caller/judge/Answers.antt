use Rattle.std.proofs.Common.{◌≡◌, ◌∙◌, ap, inr, rules, subst, sym, ℕ, List, [], ◌∷◌, map, Err, Option, Result}
use Rattle.std.specs.Option.{option_to_list}
use Rattle.courier_messages.specs.declared.fault.SessionFault.{SessionFault}
use Rattle.courier_messages.specs.declared.head.Head.{Head}
use Rattle.courier_messages.specs.Phases.{run, said}
use Rattle.courier_messages.specs.Text.{signs}
use Rattle.courier_messages.specs.Head.{head_in, with_words}
use Rattle.courier_messages.specs.Refusal.{Stops}
use Rattle.courier_calls.specs.Table.{table_model}
use Rattle.courier_calls.specs.Caller.{CallerState, CallerJudges, head_fault}
use Rattle.courier_calls.proofs.HeadFaults.{fault_first, nothing_yet, wrong_head, right_head}
use Rattle.courier_calls.proofs.caller.Caller.judge.Goals as goal

pub returns-in_err-head : goal.returns-in_err-head
returns-in_err-head c =
    let old = c.args.self.now in
    let x = c.args.item.now in
    let e = c.in_err-head.field-0.0 in
    let w : c.from_residual.result ≡ Err e = search rules in
    let told = subst (λ (v : CallerState). Stops e ⊥ ((run v.phase (signs x) ≡ Err e) × (said v.phase (signs x) ≡ []))) c.self.view_is (rw c.as_slice.ensures at c.in_err-head.ensures) in
    subst (λ (r : Result (Unit {0}) SessionFault). CallerJudges old r (said old.phase (signs x)) (run old.phase (signs x))) (sym w)
    (fault_first old e (said old.phase (signs x)) (run old.phase (signs x)) told)

pub returns-in_default : goal.returns-in_default
returns-in_default c =
    let k = rw c.as_slice.ensures at c.in_ok-head.ensures in
    rw (← c.self.view_is) (inr (nothing_yet _ _ _ k.0 (k.1 ∙ ap (λ (o : Option Head). option_to_list o) c.in_default.is)))

pub returns-in-Some-head_fault : goal.returns-in-Some-head_fault
returns-in-Some-head_fault c =
    let old = c.args.self.now in
    let x = c.args.item.now in
    let head = c.in-Some.head in
    let k = rw c.as_slice.ensures at c.in_ok-head.ensures in
    let heads = subst (λ (v : CallerState). map head_in (said v.phase (signs x)) ≡ head ∷ []) c.self.view_is (k.1 ∙ ap (λ (o : Option Head). option_to_list o) c.in-Some.is) in
    let told = subst (λ (v : CallerState). (words : List ℕ) → c.head_fault.result ≡ head_fault (table_model v.table) v.transaction v.waiting (with_words head words)) c.self.view_is c.head_fault.ensures in
    wrong_head old (said old.phase (signs x)) (run old.phase (signs x)) head c.head_fault.result c.in-Some-head_fault.fault c.in-Some-head_fault.is heads told

pub returns-in-None : goal.returns-in-None
returns-in-None c =
    let k = rw c.as_slice.ensures at c.in_ok-head.ensures in
    rw (← c.self.view_is) (inr (right_head _ _ _ c.in-Some.head c.head_fault.result c.in-None.is k.0
    (k.1 ∙ ap (λ (o : Option Head). option_to_list o) c.in-Some.is) c.head_fault.ensures))
