use Rattle.std.proofs.Common.{◌≡◌, map, take}
use Rattle.courier_texts.proofs.shapes.words_of.Given as goal

abbrev pub invariant-loop-member : goal.invariant-loop-member
invariant-loop-member l = l.words.items ≡ map (λ m. m.1) (take l.member-index l.members)
