-- What an end leaves that sends packets of its own accord, as in a flush or a tick.
use Rattle.std.specs.Prelude.{◌≡◌, ◌<◌, ◌⊎◌, ℕ, List, Result, length, OnOk, OnErr}
use Rattle.std.specs.declared.alloc.AllocError.{AllocError}
use Rattle.xns_spp.specs.Held.{Held, StandsFor}
use Rattle.xns_spp.specs.State.{State}
use Rattle.item_world.specs.declared.network.Network.{Network}
use Rattle.item_world.specs.declared.side.Side.{Side}
use Rattle.item_world.specs.EndLaws.{EndLaws}
use Rattle.item_world.specs.Network.{IsEnd}
use Rattle.item_world.specs.World.{World, end_at, moved}

-- the end at this side goes on as `after` says, from e to f, and the network takes the packets of `answer`, from n to m
pub record GoesOut (after : State → State) (answer : State → List (List ℕ)) (side : Side) (result : Result (Unit {0}) AllocError) (e f : Held) (n m : Network) : Type 0 where
  pub stands : OnOk result (EndLaws → (w : World) → IsEnd e n w side → IsEnd f m (moved w side (after (end_at w side)) (answer (end_at w side))) side)
  pub endpoint : OnOk result ((s : State) → StandsFor e s → StandsFor f (after s))
  -- where memory is refused, the network is as it was, and the end is too, or went on
  pub unchanged : OnErr result (m ≡ n)
  pub refused : OnErr result ((s : State) → StandsFor e s → StandsFor f s ⊎ StandsFor f (after s))
  -- memory is refused only where something is to be sent
  pub memory : OnErr result ((s : State) → StandsFor e s → 0 < length (answer s))
