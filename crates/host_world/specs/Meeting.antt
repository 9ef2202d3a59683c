-- Two connections, what they have done, and the packets between them.
use Rattle.std.specs.Prelude.{◌≡◌, ℕ, List, [], Option, Some, None, slice_get}
use Rattle.courier_sessions.specs.declared.program.Program.{Program}
use Rattle.item_world.specs.Events.{stepped, sending, taking, flushing, resending, telling}
use Rattle.item_world.specs.Side.{of_two}
use Rattle.item_world.specs.World.{World, sent_packets}
use Rattle.item_world.specs.declared.side.Side.{Side}
use Rattle.xns_spp.specs.State.{State}
use Rattle.xns_connection.specs.Living.{Deeds, no_deeds}
use Rattle.xns_connection.specs.Story.{Story, Runs, start, sends, takes, flushes, resends, tells, ProgramDoesNothing, new_story}
use Rattle.xns_connection.specs.Telling.{Tells}
use Rattle.xns_connection.specs.declared.conversation.Conversation.{Conversation}
use Rattle.host_world.specs.Station.{calling_end, called_end}
use Rattle.host_world.specs.declared.station.Station.{Station}

-- a connection, with its story, what its program did, and the packets that it gave
pub record Party : Type 0 where
  pub conversation : Conversation
  pub story : Story
  pub deeds : Deeds
  pub given : List (List ℕ)

-- the connection that calls, the one that is called, and the world of their items: both ends, and each packet that was made
pub record Meeting : Type 0 where
  pub a : Party
  pub b : Party
  pub world : World

abbrev pub at : Meeting → Side → Party
at m side = of_two m.a m.b side

abbrev pub with_party : Meeting → Side → Party → Meeting
with_party m side p = record m { a = of_two p m.a side; b = of_two m.b p side }

-- nothing has happened yet
abbrev pub new_party : Conversation → Option (List Program) → State → Party
new_party c programs s = record { conversation = c; story = new_story programs s; deeds = no_deeds; given = [] }

abbrev pub new_meeting : (a b : Station) → List Program → (calls answers : Conversation) → Meeting
new_meeting a b programs calls answers = record {
  a = new_party calls None (calling_end a b);
  b = new_party answers (Some programs) (called_end b a);
  world = record { a = calling_end a b; b = called_end b a; bag = [] };
}

-- an end's own steps in the world: what is made on the way is in the bag then
abbrev pub led : World → Side → {s v : State} → Runs s v → World
led w side start = w
led w side (sends p x) = stepped (led w side p) (sending side x)
led w side (takes p) = stepped (led w side p) (taking side)
led w side (flushes p) = stepped (led w side p) (flushing side)
led w side (resends p) = stepped (led w side p) (resending side)
led w side (tells p asks) = stepped (led w side p) (telling side asks)

-- a connection after a step, whose story goes on from this one
pub record Next (base : Story) : Type 0 where
  pub conversation : Conversation
  pub story : Story
  pub tells : Tells conversation story
  pub on : ProgramDoesNothing base story

-- the connection at this side goes on so, from this world on; it has given these packets then
abbrev pub went_on : Meeting → World → Side → {base : Story} → Next base → Deeds → List (List ℕ) → Meeting
went_on m w side n l given =
    record (with_party m side (record { conversation = n.conversation; story = n.story; deeds = l; given = given })) {
      world = led w side n.on.path;
    }

-- bytes that this end made
abbrev pub HasMade : World → Side → List ℕ → Type 0
HasMade w side bytes = (k : ℕ) × (slice_get (sent_packets w) k ≡ Some (side, bytes))
