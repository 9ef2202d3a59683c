use Rattle.std.proofs.Common.{◌≡◌, drop}
use Rattle.courier_notation.specs.Lexing.{token_beside}
use Rattle.courier_notation.proofs.keywords.token_beside.Given as goal

abbrev pub invariant-loop-name : goal.invariant-loop-name
invariant-loop-name l = token_beside (λ name. name.now) (drop l.name-index l.table) l.word ≡ token_beside (λ name. name.now) l.table l.word
