-- The pair of connections in code, and what its functions come to.
use Rattle.std.specs.Prelude.{◌≡◌, ℕ, false, List, ◌∷◌, [], ◌++◌, Some, slice_get}
use Rattle.std.specs.Borrow.{Lends, MutBor, Fml}
use Rattle.courier_messages.specs.RawCalls.{RawCall}
use Rattle.courier_messages.specs.declared.message.Message.{Message}
use Rattle.courier_sessions.specs.declared.program.Program.{Program}
use Rattle.item_world.specs.Side.{of_two, other}
use Rattle.item_world.specs.World.{has_passed, sender_and_bytes}
use Rattle.item_world.specs.declared.emitted.Emitted.{Emitted}
use Rattle.item_world.specs.declared.side.Side.{Side}
use Rattle.xns_spp.specs.Receiving.{is_ours}
use Rattle.xns_connection.specs.Living.{Deeds}
use Rattle.xns_connection.specs.contracts.connection.Connection as connection
use Rattle.xns_connection.specs.declared.connection.Connection.{Connection}
use Rattle.host_world.specs.Meeting.{Meeting, at}
use Rattle.host_world.specs.Meets.{IsWithinSteps, Meets}
use Rattle.host_world.specs.Station.{IsStation}
use Rattle.host_world.specs.contracts.pair.Pair as pair
use Rattle.host_world.specs.declared.pair.Pair.{Pair}
use Rattle.host_world.specs.declared.station.Station.{Station}

abbrev pub connection_at : Pair → Side → Connection
connection_at p side = of_two p.a p.b side

abbrev pub with_connection : Pair → Side → Connection → Pair
with_connection p side c = record { a = of_two c p.a side; b = of_two p.b c side }

-- the pair ends with what is left behind the reference at this side
abbrev pub LendsConnection : MutBor Pair → Side → MutBor Connection → Fml
LendsConnection p side r = Lends pair.the_row connection.the_row p r (with_connection p.now side)

-- ---- what a program did, with one deed more or none

abbrev pub with_no_more : Deeds → Deeds
with_no_more l = l

abbrev pub one_call_more : RawCall → Deeds → Deeds
one_call_more call l = record l { made = l.made ++ call ∷ [] }

abbrev pub one_message_more : Message → Deeds → Deeds
one_message_more m l = record l { handed = l.handed ++ m ∷ [] }

abbrev pub one_answer_more : Message → Deeds → Deeds
one_answer_more m l = record l { gave = l.gave ++ m ∷ [] }

-- ---- the packets that were made

-- each packet of the one is in the other at its place, with its bytes and when it was made
pub record AreKept (old new : List Emitted) : Type 0 where
  pub each : (k : ℕ) (x : Emitted) → slice_get old k ≡ Some x
      → (y : Emitted) × (slice_get new k ≡ Some y) × (y ≡ record x { delivered = y.delivered })

-- ---- what the pair stands for, and goes on to stand for

-- from two new ends at these stations steps led to this meeting, whose connections are those of the pair
pub record PairStandsFor (p : Pair) (a b : Station) (programs : List Program) (m : Meeting) : Type 0 where
  pub calls : IsStation a
  pub called : IsStation b
  pub meets : Meets a b programs m
  pub same : (side : Side) → (at m side).conversation ≡ (connection_at p side).conversation

-- at most so many steps led from the one meeting to the other; by them the program at this side did so, and the connection there gave these
-- packets; the other side stayed as it was, and each packet that was made is kept
pub record DoesAt (most : ℕ) (m n : Meeting) (side : Side) (did : Deeds → Deeds) (gave : List (List ℕ)) : Type 0 where
  pub within : IsWithinSteps most m n
  pub deeds : (at n side).deeds ≡ did (at m side).deeds
  pub given : (at n side).given ≡ (at m side).given ++ gave
  pub other : at n (other side) ≡ at m (other side)
  pub kept : AreKept m.world.bag n.world.bag

-- whatever meeting the pair stood for, it stands for one to which that led in at most so many steps; the connection at the other side stayed
-- as it was
pub record Steps (most : ℕ) (old new : Pair) (side : Side) (did : Deeds → Deeds) (gave : List (List ℕ)) : Type 0 where
  pub on : (a b : Station) (programs : List Program) (m : Meeting) → PairStandsFor old a b programs m
      → (n : Meeting) × PairStandsFor new a b programs n × DoesAt most m n side did gave
  pub beside : connection_at new (other side) ≡ connection_at old (other side)

-- bytes that may come to this side: a packet that the other end made, while it lives, or no packet of the connection
pub data MayCome (m : Meeting) (side : Side) (bytes : List ℕ) : Type 0 where
  made : (k : ℕ) (x : Emitted) → slice_get m.world.bag k ≡ Some x → has_passed m.world x ≡ false → other x.side ≡ side → x.bytes ≡ bytes
      → MayCome m side bytes
  foreign : is_ours (at m side).story.state bytes ≡ false → MayCome m side bytes

-- bytes that are a packet of this side's; wherever it is kept, it may come to the other side while it lives, which is counted from when it was
-- made
pub record WasMade (m : Meeting) (side : Side) (bytes : List ℕ) : Type 0 where
  pub place : ℕ
  pub packet : Emitted
  pub there : slice_get m.world.bag place ≡ Some packet
  pub is : sender_and_bytes packet ≡ (side, bytes)
  pub comes : (n : Meeting) → AreKept m.world.bag n.world.bag → has_passed n.world packet ≡ false → MayCome n (other side) bytes

-- whatever meeting the pair stood for, to which these bytes may come, it stands for one to which they came, in at most one step: the program
-- did nothing, and no packet was given; the other side stayed as it was
pub record StepsByBytes (old new : Pair) (side : Side) (bytes : List ℕ) : Type 0 where
  pub on : (a b : Station) (programs : List Program) (m : Meeting) → PairStandsFor old a b programs m → MayCome m side bytes
      → (n : Meeting) × PairStandsFor new a b programs n × DoesAt 1 m n side with_no_more []
  pub beside : connection_at new (other side) ≡ connection_at old (other side)
