use Rattle.std.proofs.Common.{◌≡◌, sym, subst, refl, rules, Err}
use Rattle.courier_messages.specs.RawCalls.{words_call}
use Rattle.courier_sessions.specs.Refusing.{IsRefusedAs}
use Rattle.courier_sessions.specs.Talk.{call_refusal, is_want_of_memory}
use Rattle.courier_sessions.proofs.caller.WordCaller.call.Goals as goal

pub returns-in_err-refusal-clause-answer : goal.returns-in_err-refusal-clause-answer
returns-in_err-refusal-clause-answer c =
    let w : c.from_residual.result ≡ Err c.in_err-refusal.field-0.0 = search rules in
    subst (IsRefusedAs is_want_of_memory (call_refusal c.args.self.now (words_call c.args.program c.args.version c.args.procedure c.args.words.now))) (sym w)
    (c.in_err-refusal.ensures.answer c.args.program c.args.version c.args.procedure c.args.words.now refl)

pub returns-clause-called : goal.returns-clause-called
returns-clause-called c = search rules
