use Rattle.std.proofs.Common.{◌≡◌, ◌∙◌, ap, inr, rules, subst, sym, Err, Option, Some, Result}
use Rattle.std.specs.Option.{option_to_list}
use Rattle.courier_messages.specs.declared.fault.SessionFault.{SessionFault}
use Rattle.courier_messages.specs.declared.head.Head.{Head}
use Rattle.courier_messages.specs.Phases.{run, said}
use Rattle.courier_messages.specs.Text.{signs}
use Rattle.courier_calls.specs.Server.{ServerJudges}
use Rattle.courier_calls.proofs.Judging.{fault_first, nothing_yet, a_call, another}
use Rattle.courier_calls.proofs.server.judge.Goals as goal

pub returns-in_err-head : goal.returns-in_err-head
returns-in_err-head c =
    let ms = said c.args.incoming.now (signs c.args.item.now) in
    let q = run c.args.incoming.now (signs c.args.item.now) in
    let w : c.from_residual.result ≡ Err c.in_err-head.field-0.0 = search rules in
    subst (λ (r : Result (Unit {0}) SessionFault). ServerJudges c.args.incoming.now r ms q) (sym w) (fault_first c.in_err-head.field-0.0 ms q (rw c.as_slice.ensures at c.in_err-head.ensures))

pub returns-in_default : goal.returns-in_default
returns-in_default c =
    let k = rw c.as_slice.ensures at c.in_ok-head.ensures in
    inr (nothing_yet _ _ k.0 (k.1 ∙ ap (λ (o : Option Head). option_to_list o) c.in_default.is))

pub returns-in-Call : goal.returns-in-Call
returns-in-Call c =
    let k = rw c.as_slice.ensures at c.in_ok-head.ensures in
    inr (a_call _ _ _ _ _ _ k.0 (k.1 ∙ ap (λ (o : Option Head). option_to_list o) (c.in-Some.is ∙ ap (λ (h : Head). Some h) c.in-Call.is)))

pub returns-in_default-head : goal.returns-in_default-head
returns-in_default-head c =
    let k = rw c.as_slice.ensures at c.in_ok-head.ensures in
    another _ _ c.in-Some.head c.in_default-head.not-Call (k.1 ∙ ap (λ (o : Option Head). option_to_list o) c.in-Some.is)
