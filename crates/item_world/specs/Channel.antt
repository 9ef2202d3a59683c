-- What is seen of the two ends of a connection, and nothing more: the items that each accepted to send, and those that it handed up.
use Rattle.std.specs.Prelude.{◌≡◌, ℕ, suc, List, [], ◌∷◌, ◌++◌, length, slice_get, Some}
use Rattle.xns_spp.specs.declared.item.Item.{Item}
use Rattle.item_world.specs.Side.{other}
use Rattle.item_world.specs.declared.side.Side.{Side}

pub record Channel : Type 0 where
  pub accepted : Side → List Item
  pub handed : Side → List Item

-- nothing is accepted or handed up
pub record IsQuiet (c d : Channel) : Type 0 where
  pub accepted : (side : Side) → d.accepted side ≡ c.accepted side
  pub handed : (side : Side) → d.handed side ≡ c.handed side

-- x joins what this side accepted
pub record Accepts (c d : Channel) (side : Side) (x : Item) : Type 0 where
  pub here : d.accepted side ≡ c.accepted side ++ x ∷ []
  pub there : d.accepted (other side) ≡ c.accepted (other side)
  pub handed : (t : Side) → d.handed t ≡ c.handed t

-- x joins what this side handed up, and is the next one of what the other side accepted
pub record HandsUp (c d : Channel) (side : Side) (x : Item) : Type 0 where
  pub next : slice_get (c.accepted (other side)) (length (c.handed side)) ≡ Some x
  pub accepted : (t : Side) → d.accepted t ≡ c.accepted t
  pub here : d.handed side ≡ c.handed side ++ x ∷ []
  pub there : d.handed (other side) ≡ c.handed (other side)

-- one move: nothing is accepted or handed up, or one side accepts an item, or one side hands an item up
pub data Move (c d : Channel) : Type 0 where
  quiet : IsQuiet c d → Move c d
  accepts : (side : Side) (x : Item) → Accepts c d side x → Move c d
  hands_up : (side : Side) (x : Item) → HandsUp c d side x → Move c d

-- a history of a channel: at first nothing was accepted or handed up, and then there is one move after another
pub record IsHistory (c : ℕ → Channel) : Type 0 where
  pub accepted : (side : Side) → (c 0).accepted side ≡ []
  pub handed : (side : Side) → (c 0).handed side ≡ []
  pub moves : (n : ℕ) → Move (c n) (c (suc n))
