use Rattle.std.proofs.Common.{◌≡◌, ◌⊎◌, ◌-◌}
use Rattle.courier_notation.specs.ProgramModels.{declaration_views}
use Rattle.courier_notation.specs.Programs.{DeclarationsWant, declarations_at, most_declarations}
use Rattle.courier_notation.proofs.Listing.{with_front}
use Rattle.courier_notation.proofs.declarations.some_declarations.Given as goal

abbrev pub invariant-loop : goal.invariant-loop
invariant-loop l = record {
  so_far : with_front (declaration_views l.declarations.items) (declarations_at (most_declarations - l.counter) l.rest) ≡ declarations_at most_declarations l.fn.tokens;
  first : (l.rest ≡ l.fn.tokens) ⊎ DeclarationsWant l.fn.tokens;
}
