-- The two ends.
use Rattle.item_world.specs.declared.side.Side.{Side}
use Rattle.item_world.specs.declared.side.Side.TheVariants.{A, B}

-- the end on the other side
abbrev pub other : Side → Side
other A = B
other B = A

-- the one of two that is at this side
abbrev pub of_two : {T : Type 0} → (a b : T) → Side → T
of_two a b A = a
of_two a b B = b
