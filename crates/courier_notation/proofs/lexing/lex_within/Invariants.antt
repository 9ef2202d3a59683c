use Rattle.std.proofs.Common.{◌≡◌, ◌⊎◌, ◌-◌, ◌≤◌, vec_len}
use Rattle.courier_notation.specs.Lexing.{HasToken, lexed_from, lexing_view, most_tokens, nothing_read}
use Rattle.courier_notation.proofs.lexing.lex_within.Given as goal

abbrev pub invariant-loop : goal.invariant-loop
invariant-loop l = record {
  so_far : lexed_from (most_tokens - l.counter) (lexing_view l.lexed) l.rest ≡ lexed_from most_tokens nothing_read l.fn.text;
  names : vec_len l.lexed.names ≤ l.counter;
  first : (l.rest ≡ l.fn.text) ⊎ HasToken l.fn.text;
  strings : vec_len l.lexed.strings ≤ l.counter;
}
