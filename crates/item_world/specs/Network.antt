-- What the program's network stands for.
use Rattle.std.specs.Prelude.{◌≡◌, ◌≤◌, ℕ, ◌+◌, Bool, true, ◌||◌, if◌then◌else◌, List, [], ◌∷◌, length, take, All}
use Rattle.xns_spp.specs.Held.{Held, StandsFor}
use Rattle.item_world.specs.declared.counts.Counts.{Counts}
use Rattle.item_world.specs.declared.emitted.Emitted.{Emitted}
use Rattle.item_world.specs.declared.moment.Moment.{Moment}
use Rattle.item_world.specs.declared.network.Network.{Network}
use Rattle.item_world.specs.declared.side.Side.{Side}
use Rattle.item_world.specs.Side.{of_two, other}
use Rattle.item_world.specs.World.{World, end_at, has_passed}

abbrev pub count_of : Counts → Side → ℕ
count_of c side = of_two c.a c.b side

-- an end has taken n items now, and the other one as many as before
pub record CountsOn (c d : Counts) (side : Side) (n : ℕ) : Type 0 where
  pub here : count_of d side ≡ n
  pub there : count_of d (other side) ≡ count_of c (other side)

-- the moment at which the end at this side sends
abbrev pub moment_of : Counts → Side → Moment
moment_of c side = record { sender = count_of c side; receiver = count_of c (other side) }

-- nothing is left to be done with a packet: it was delivered, or it lives no longer
abbrev pub is_settled : World → Emitted → Bool
is_settled w x = x.delivered || has_passed w x

-- the first n packets of the world are all settled
pub record AreRested (n : ℕ) (w : World) : Type 0 where
  pub within : n ≤ length w.bag
  pub settled : All (λ x. is_settled w x ≡ true) (take n w.bag)

-- the numbers of the packets that are not settled, in order; the first packet of the list has number i
abbrev pub unsettled : World → ℕ → List Emitted → List ℕ
unsettled w i [] = []
unsettled w i (x ∷ xs) = if is_settled w x then unsettled w (i + 1) xs else i ∷ unsettled w (i + 1) xs

-- a network stands for a world: it has the packets of the world, and counts what the ends of the world have taken
pub record IsNetwork (n : Network) (w : World) : Type 0 where
  pub bag : n.packets ≡ w.bag
  pub taken : (side : Side) → count_of n.taken side ≡ length (end_at w side).taken
  pub rested : AreRested n.rested w

-- an endpoint stands for the end at this side of the world, and the network for its packets
pub record IsEnd (e : Held) (n : Network) (w : World) (side : Side) : Type 0 where
  pub stands : StandsFor e (end_at w side)
  pub network : IsNetwork n w
