use Rattle.std.proofs.Common.{◌≡◌, ◌∙◌, ◌∷◌, ap, refl, rules, sym, ℕ, List, Ok, Err, [], inl}
use Rattle.courier_messages.specs.RawCalls.{words_call}
use Rattle.courier_messages.specs.declared.fault.SessionFault.TheVariants.{NoMemory}
use Rattle.courier_messages.specs.declared.head.Head.{Head}
use Rattle.courier_messages.specs.declared.message.Message.{Message}
use Rattle.courier_messages.specs.declared.message.Message.TheVariants.{Call}
use Rattle.courier_messages.specs.Head.{with_words, words_in}
use Rattle.courier_calls.proofs.NotCalls.{not_a_call}
use Rattle.courier_calls.proofs.Serves.{no_call, one_call, runs_out}
use Rattle.courier_calls.proofs.server.Server.carry_out.Goals as goal

pub returns-in_default-clause-taken : goal.returns-in_default-clause-taken
returns-in_default-clause-taken g c = no_call _ _ _ _ c.args.message.now refl refl refl (not_a_call c.args.message.now c.head.result c.head.ensures c.in_default.not-Call)

pub returns-in_err-words-clause-taken : goal.returns-in_err-words-clause-taken
returns-in_err-words-clause-taken g c =
    let m = c.args.message.now in
    let w : c.from_residual.result ≡ Err NoMemory = search rules in
    let message = c.head.ensures ∙ ap (λ (h : Head). with_words h (words_in m)) c.in-Call.is in
    runs_out g.S.Service.serving _ _ m c.from_residual.result c.in-Call.transaction (words_call c.in-Call.program c.in-Call.version c.in-Call.procedure (words_in m)) w message refl (inl refl)

pub returns-in_err-answer-clause-taken : goal.returns-in_err-answer-clause-taken
returns-in_err-answer-clause-taken g c =
    let m = c.args.message.now in
    let w : c.from_residual-in_err-answer.result ≡ Err NoMemory = search rules in
    let message = c.head.ensures ∙ ap (λ (h : Head). with_words h (words_in m)) c.in-Call.is in
    runs_out g.S.Service.serving _ _ m c.from_residual-in_err-answer.result c.in-Call.transaction (words_call c.in-Call.program c.in-Call.version c.in-Call.procedure (words_in m)) w message (c.in_err-answer.ensures.silent ∙ sym c.requires) (rw (c.as_slice.ensures, c.in_ok-words.ensures.words) at c.in_err-answer.ensures.refused)

pub returns-clause-taken : goal.returns-clause-taken
returns-clause-taken g c =
    let m = c.args.message.now in
    let message = c.head.ensures ∙ ap (λ (h : Head). with_words h (words_in m)) c.in-Call.is in
    let call = ap (λ (ws : List ℕ). Call c.in-Call.transaction c.in-Call.program c.in-Call.version c.in-Call.procedure ws) (sym c.in_ok-words.ensures.words) in
    one_call g.S.Service.serving _ _ _ _ c.in-Call.transaction (words_call c.in-Call.program c.in-Call.version c.in-Call.procedure c.in_ok-words.words)
    (ap (λ (n : Message). n ∷ []) (message ∙ call)) (ap (λ p. Ok p) (sym c.in_ok-answer.ensures.phase))
    (rw c.as_slice.ensures at c.in_ok-answer.ensures.state)
    (rw c.as_slice.ensures at c.in_ok-answer.ensures.out)

pub returns-clause-out : goal.returns-clause-out
returns-clause-out g c =
    let m = c.args.message.now in
    let message = c.head.ensures ∙ ap (λ (h : Head). with_words h (words_in m)) c.in-Call.is in
    let call = ap (λ (ws : List ℕ). Call c.in-Call.transaction c.in-Call.program c.in-Call.version c.in-Call.procedure ws) (sym c.in_ok-words.ensures.words) in (
      c.in-Call.transaction,
      ap (λ (n : Message). n ∷ []) (message ∙ call),
      rw c.as_slice.ensures at c.in_ok-answer.ensures.out,
    )
