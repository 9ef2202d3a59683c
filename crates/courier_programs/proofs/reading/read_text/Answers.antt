use Rattle.std.proofs.Common.{IsOk, ◌≤◌, length}
use Rattle.courier_notation.specs.Lexing.{HasToken, lexing_view, most_text}
use Rattle.courier_notation.specs.Programs.{header_at}
use Rattle.courier_notation.proofs.Failing.{wants_more}
use Rattle.courier_programs.proofs.Begins.{begins_with_token, header_has_tokens, lexed_fits}
use Rattle.courier_programs.proofs.reading.read_text.Goals as goal

pub returns-in-Ok-clause-memory : goal.returns-in-Ok-clause-memory
returns-in-Ok-clause-memory c =
    let text = c.args.text.now in
    let lexing = lexing_view c.in-Ok.lexed in
    let lexed = rw c.in-Ok.is at c.lex.ensures.exact in
    wants_more c.read_lexed.result (IsOk (header_at lexing.tokens)) (HasToken text) (λ h. begins_with_token text lexing lexed (header_has_tokens lexing.tokens h)) c.read_lexed.ensures.memory

pub returns-in-Ok-clause-fits : goal.returns-in-Ok-clause-fits
returns-in-Ok-clause-fits c =
    let text = c.args.text.now in
    let lexing = lexing_view c.in-Ok.lexed in
    let lexed = rw c.in-Ok.is at c.lex.ensures.exact in
    wants_more c.read_lexed.result (IsOk (header_at lexing.tokens)) (length text ≤ most_text) (λ h. lexed_fits text lexing lexed) c.read_lexed.ensures.memory
