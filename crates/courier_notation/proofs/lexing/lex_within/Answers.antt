use Rattle.std.proofs.Common.{arith, inr}
use Rattle.std.proofs.lemmas.Result.{err_from_is_err_and}
use Rattle.courier_notation.specs.Lexing.{lexing_view, lexeme_in, lexeme_view, lexed_from, most_tokens, nothing_read}
use Rattle.courier_notation.proofs.Failing.{stops_fails}
use Rattle.courier_notation.proofs.Lexings.{text_ends, token_fails, token_read, token_there, too_many}
use Rattle.courier_notation.proofs.lexing.lex_within.Goals as goal

pub loop-preserved : goal.loop-preserved
loop-preserved c =
    let l = c.loop in
    let read = token_read most_tokens l.counter (lexing_view l.lexed) l.rest.now c.behind_blanks-begun.result.now (lexeme_view c.in_ok-lexeme.lexeme) c.in_ok-lexeme.behind.now (lexed_from most_tokens nothing_read c.args.text.now) c.loop-test.true c.behind_blanks-begun.ensures (omega arith) c.in_ok-lexeme.ensures l.invariant.so_far in
    record {
      so_far = rw c.in_ok-add.ensures.view read;
      first = inr (token_there c.args.text.now l.rest.now c.behind_blanks-begun.result.now (lexeme_view c.in_ok-lexeme.lexeme, c.in_ok-lexeme.behind.now) l.invariant.first c.behind_blanks-begun.ensures c.in_ok-lexeme.ensures);
      names = omega (arith, c.in_ok-add.ensures.names, l.invariant.names);
      strings = omega (arith, c.in_ok-add.ensures.strings, l.invariant.strings);
    }

pub returns-clause-exact : goal.returns-clause-exact
returns-clause-exact c = too_many most_tokens c.loop.counter (lexing_view c.loop.lexed) c.loop.rest.now (lexed_from most_tokens nothing_read c.args.text.now) c.loop-test.false c.loop.invariant.so_far

pub returns-then-begun-eq0-clause-exact : goal.returns-then-begun-eq0-clause-exact
returns-then-begun-eq0-clause-exact c =
    let l = c.loop in
    text_ends most_tokens l.counter (lexing_view l.lexed) l.rest.now c.behind_blanks-begun.result.now (lexed_from most_tokens nothing_read c.args.text.now) c.loop-test.true c.behind_blanks-begun.ensures (omega arith) l.invariant.so_far

pub returns-in_err-lexeme-clause-exact : goal.returns-in_err-lexeme-clause-exact
returns-in_err-lexeme-clause-exact c =
    let l = c.loop in
    let p = err_from_is_err_and c.from_residual.result c.from_residual.ensures.1 in
    rw (p.1, p.2) (token_fails c.in_err-lexeme.field-0.0 most_tokens l.counter (lexing_view l.lexed) l.rest.now c.behind_blanks-begun.result.now (lexed_from most_tokens nothing_read c.args.text.now) c.loop-test.true c.behind_blanks-begun.ensures (omega arith) (stops_fails c.in_err-lexeme.field-0.0 (lexeme_in c.behind_blanks-begun.result.now) c.in_err-lexeme.ensures) l.invariant.so_far)
