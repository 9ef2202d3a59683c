use Rattle.courier_notation.specs.Reading.{most_parts}
use Rattle.courier_notation.proofs.Listing.{IsReadTo}
use Rattle.courier_notation.proofs.part.parts_of.Given as goal

abbrev pub invariant-loop : goal.invariant-loop
invariant-loop g l = IsReadTo g.P.Part.reads g.P.Part.reads most_parts l.parts.items l.counter l.rest l.fn.tokens
