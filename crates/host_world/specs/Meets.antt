-- What happens to two connections and the packets between them, step after step.
use Rattle.std.specs.Prelude.{◌≡◌, ℕ, suc, false, List, [], ◌++◌, Option, Some, None, slice_get, All}
use Rattle.std.specs.Option.{option_to_list}
use Rattle.courier_sessions.specs.declared.program.Program.{Program}
use Rattle.item_world.specs.Landing.{with_arrival}
use Rattle.item_world.specs.Side.{other}
use Rattle.item_world.specs.World.{has_passed}
use Rattle.item_world.specs.declared.emitted.Emitted.{Emitted}
use Rattle.item_world.specs.declared.side.Side.{Side}
use Rattle.xns_spp.specs.Receiving.{after_receive, is_ours}
use Rattle.xns_connection.specs.Acting.{Acts}
use Rattle.xns_connection.specs.Agreeing.{ArePeers}
use Rattle.xns_connection.specs.Living.{Deeds, ProgramsAgree}
use Rattle.xns_connection.specs.Story.{Story, made_on, new_story}
use Rattle.xns_connection.specs.Telling.{Tells}
use Rattle.xns_connection.specs.declared.conversation.Conversation.{Conversation}
use Rattle.host_world.specs.Meeting.{Party, Meeting, at, new_meeting, Next, went_on, HasMade}
use Rattle.host_world.specs.Station.{calling_end, called_end}
use Rattle.host_world.specs.declared.station.Station.{Station}

-- the story from where it is after these bytes came
abbrev pub heard_story : Party → List ℕ → Story
heard_story p bytes = record p.story { state = after_receive p.story.state bytes }

-- one step of two connections
pub data MeetingStep (m : Meeting) : Meeting → Type 0 where
  -- a connection moves items, is closed or given up, or its program does something; no packet is given, and those that wait stay
  acts : (side : Side) → {base : Story} → {l : Deeds} → Acts (at m side).conversation (at m side).story (at m side).deeds base l → (n : Next base)
      → n.conversation.packets ≡ (at m side).conversation.packets → MeetingStep m (went_on m m.world side n l (at m side).given)
  -- a connection gives a packet, or none
  gives : (side : Side) → (packet : Option (List ℕ)) → (n : Next (at m side).story)
      → option_to_list packet ++ n.conversation.packets.items ≡ (at m side).conversation.packets.items ++ made_on n.on.path
      → MeetingStep m (went_on m m.world side n (at m side).deeds ((at m side).given ++ option_to_list packet))
  -- packet k, which lives, comes to the other connection. What that end answers at once is in the bag then. A connection sends a system
  -- packet of its own later instead: so the bag holds all that may come, and more.
  arrives : (k : ℕ) (x : Emitted) → slice_get m.world.bag k ≡ Some x → has_passed m.world x ≡ false
      → (n : Next (heard_story (at m (other x.side)) x.bytes)) → n.conversation.packets ≡ (at m (other x.side)).conversation.packets
      → MeetingStep m (went_on m (with_arrival m.world k x) (other x.side) n (at m (other x.side)).deeds (at m (other x.side)).given)
  -- bytes that are no packet of the connection come to it
  strays : (side : Side) → (bytes : List ℕ) → is_ours (at m side).story.state bytes ≡ false → (n : Next (heard_story (at m side) bytes))
      → n.conversation.packets ≡ (at m side).conversation.packets → MeetingStep m (went_on m m.world side n (at m side).deeds (at m side).given)

-- steps of two connections, in any order, led to this meeting; the one at a calls, and these programs can be called at b
pub data Meets (a b : Station) (programs : List Program) : Meeting → Type 0 where
  opens : (c d : Conversation) → Tells c (new_story None (calling_end a b)) → Tells d (new_story (Some programs) (called_end b a))
      → c.packets.items ≡ [] → d.packets.items ≡ [] → Meets a b programs (new_meeting a b programs c d)
  moves : {m n : Meeting} → Meets a b programs m → MeetingStep m n → Meets a b programs n

-- at most so many steps led from the one meeting to the other
pub data IsWithinSteps : ℕ → Meeting → Meeting → Type 0 where
  no_step : {most : ℕ} {m : Meeting} → IsWithinSteps most m m
  one_more : {most : ℕ} {m n o : Meeting} → IsWithinSteps most m n → MeetingStep n o → IsWithinSteps (suc most) m o

-- what a meeting comes to
pub record IsMet (programs : List Program) (m : Meeting) : Type 0 where
  -- what each end handed up begins what the other accepted
  pub peers : ArePeers m.a.story m.b.story
  -- the programs agree
  pub agree : ProgramsAgree programs m.a.deeds m.b.deeds
  -- each packet that a connection gave was made by its end, so it is one of those that may come while they live
  pub given : (side : Side) → All (HasMade m.world side) (at m side).given
