-- What the program's play stands for.
use Rattle.std.specs.Prelude.{◌≡◌, List, take, All}
use Rattle.std.specs.Borrow.{Lends, MutBor, Fml}
use Rattle.xns_spp.specs.Held.{StandsFor}
use Rattle.xns_spp.specs.State.{State}
use Rattle.item_world.specs.contracts.pair.Pair as pair
use Rattle.item_world.specs.contracts.participant.Participant as participant
use Rattle.item_world.specs.declared.event.Event.{Event}
use Rattle.item_world.specs.declared.pair.Pair.{Pair}
use Rattle.item_world.specs.declared.participant.Participant.{Participant}
use Rattle.item_world.specs.declared.play.Play.{Play}
use Rattle.item_world.specs.declared.setup.Setup.{Setup}
use Rattle.item_world.specs.declared.side.Side.{Side}
use Rattle.item_world.specs.EndLaws.{EndLaws}
use Rattle.item_world.specs.Events.{world_after, IsEvent}
use Rattle.item_world.specs.Network.{IsNetwork}
use Rattle.item_world.specs.Side.{of_two}
use Rattle.item_world.specs.World.{World, start, end_at}

abbrev pub at_side : Pair → Side → Participant
at_side p side = of_two p.a p.b side

abbrev pub with_side : Pair → Side → Participant → Pair
with_side p side e = record { a = of_two e p.a side; b = of_two p.b e side }

-- the pair ends as it was, but at this side as the reference leaves the participant
abbrev pub LendsSide : MutBor Pair → Side → MutBor Participant → Fml
LendsSide s side r = Lends pair.the_row participant.the_row s r (with_side s.now side)

-- a participant stands for an end, with the items that it accepted and those that it handed up
pub record IsParticipant (p : Participant) (s : State) : Type 0 where
  pub stands : StandsFor p.endpoint s
  pub sent : p.sent ≡ s.accepted
  pub handed : p.handed ≡ take s.handed s.taken

-- under the laws of an end, a participant that stood for s then stands for what f makes of s
abbrev pub Becomes : Participant → Participant → (State → State) → Type 0
Becomes p q f = EndLaws → (s : State) → IsParticipant p s → IsParticipant q (f s)

-- a play stands for a world
pub record IsPlaying (p : Play) (w : World) : Type 0 where
  pub ends : (side : Side) → IsParticipant (at_side p.ends side) (end_at w side)
  pub network : IsNetwork p.network w

-- under the laws of an end, a play that stood for w then stands for what f makes of w
abbrev pub StepsBy : Play → Play → (World → World) → Type 0
StepsBy p q f = EndLaws → (w : World) → IsPlaying p w → IsPlaying q (f w)

-- a play from this setup, after these events
pub record IsPlayed (p : Play) (setup : Setup) (events : List Event) : Type 0 where
  pub stands : IsPlaying p (world_after (start setup) events)
  pub fits : All IsEvent events
