use Rattle.std.proofs.Common.{sym}
use Rattle.courier_notation.specs.Programs.{most_declarations}
use Rattle.courier_notation.proofs.Declaring.{ended_first}
use Rattle.courier_notation.proofs.declarations.declarations_of.Goals as goal

pub returns-then-is_end-clause-exact : goal.returns-then-is_end-clause-exact
returns-then-is_end-clause-exact c = rw c.new.ensures.items (ended_first most_declarations c.args.tokens.now (sym c.if-is_end.ensures))
