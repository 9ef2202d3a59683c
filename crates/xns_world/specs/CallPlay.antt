-- What the program's play of calls stands for.
use Rattle.std.specs.Prelude.{◌≡◌, List, map}
use Rattle.courier_messages.specs.RawCalls.{RawCall}
use Rattle.courier_calls.specs.Calls.{SeenModel, Serving, outcomes, seen_model, raw_call}
use Rattle.courier_calls.specs.declared.call.Call.{Call}
use Rattle.courier_calls.specs.Caller as caller
use Rattle.courier_calls.specs.Server.{call_of}
use Rattle.xns_spp.specs.Held.{Held, StandsFor}
use Rattle.xns_world.specs.CallLaws.{PartiesLaws}
use Rattle.xns_world.specs.CallOrder.{decides, IsBetween}
use Rattle.xns_world.specs.Ledger.{Ledger, IsInOrder}
use Rattle.item_world.specs.EndLaws.{EndLaws}
use Rattle.item_world.specs.Network.{IsNetwork, IsEnd}
use Rattle.xns_world.specs.ServeEnd.{IsServed}
use Rattle.xns_world.specs.declared.call_pair.CallPair.{CallPair}
use Rattle.xns_world.specs.declared.call_play.CallPlay.{CallPlay}
use Rattle.xns_world.specs.declared.call_trace.CallTrace.{CallTrace}
use Rattle.xns_world.specs.declared.calling.CallingEnd.{CallingEnd}
use Rattle.item_world.specs.declared.network.Network.{Network}
use Rattle.xns_world.specs.declared.serving.ServingEnd.{ServingEnd}
use Rattle.item_world.specs.declared.side.Side.{Side}
use Rattle.item_world.specs.declared.side.Side.TheVariants.{A, B}
use Rattle.xns_world.specs.CallWorld.{Parties, CallWorld, calls_made, seen_at, carried_at, service_at}
use Rattle.item_world.specs.World.{World, handed_at, sent_at, sent_packets}

-- the history of the session of the caller's end
abbrev pub caller_history : {S : Type 0} → Parties S → CallWorld → caller.CallerHistory
caller_history p w = record { made = calls_made p w; fed = handed_at w.world A; fetched = sent_at w.world A; handed = seen_at p w }

-- the caller's end, with its session, the calls made and the outcomes listed
pub record IsCalling {S : Type 0} (p : Parties S) (e : CallingEnd) (w : CallWorld) : Type 0 where
  pub stands : StandsFor e.endpoint w.world.a
  pub session : caller.CallerStandsFor p.serving.table e.caller (caller_history p w)
  pub made : e.made ≡ w.made
  pub seen : map seen_model e.seen.items ≡ seen_at p w

-- the server's end, with its session and the calls that it decided
abbrev pub IsServing : {S : Type 0} → Parties S → ServingEnd S → CallWorld → Type 0
IsServing p e w = IsServed p.serving p.service e w.world.b

-- the trace that a play returns is that of the world
pub record IsCallTrace {S : Type 0} (p : Parties S) (t : CallTrace S) (w : CallWorld) : Type 0 where
  pub carried : t.carried.items ≡ map call_of (carried_at w)
  pub seen : map seen_model t.seen.items ≡ seen_at p w
  pub service : t.service ≡ service_at p w
  pub bag : t.bag ≡ sent_packets w.world

abbrev pub endpoint_at : {S : Type 0} → CallPair S → Side → Held
endpoint_at e A = e.a.endpoint
endpoint_at e B = e.b.endpoint

abbrev pub with_endpoint : {S : Type 0} → CallPair S → Side → Held → CallPair S
with_endpoint e A x = record e { a = record e.a { endpoint = x } }
with_endpoint e B x = record e { b = record e.b { endpoint = x } }

-- an endpoint of the pair acts on the network, and nothing else of the pair changes; under the laws of an end: where
-- the endpoint and the network stood for w, they then stand for what w leads to
pub record EndpointActs {S : Type 0} (e f : CallPair S) (n m : Network) (side : Side) (leads : World → World → Type 0) : Type 0 where
  pub pair : f ≡ with_endpoint e side (endpoint_at f side)
  pub stands : EndLaws → (w v : World) → leads w v → IsEnd (endpoint_at e side) n w side → IsEnd (endpoint_at f side) m v side

-- the end at this side
abbrev pub IsAtSide : {S : Type 0} → Parties S → CallPair S → CallWorld → Side → Type 0
IsAtSide p e w A = IsCalling p e.a w
IsAtSide p e w B = IsServing p e.b w

abbrev pub IsCallPair : {S : Type 0} → Parties S → CallPair S → CallWorld → Type 0
IsCallPair p e w = (side : Side) → IsAtSide p e w side

-- a play stands for a world of calls
pub record IsCallPlaying {S : Type 0} (p : Parties S) (play : CallPlay S) (w : CallWorld) : Type 0 where
  pub ends : IsCallPair p play.ends w
  pub network : IsNetwork play.network w.world

-- p are the parties of the play, and the world is one between events
pub record IsReady {S : Type 0} (serving : Serving S) (calls : List Call) (p : Parties S) (w : CallWorld) : Type 0 where
  pub given : PartiesLaws p
  pub between : IsBetween p w
  pub serving_is : p.serving ≡ serving
  pub calls_are : p.calls ≡ map raw_call calls

-- where a play stood for w, it then stands for what f makes of w
abbrev pub CallStepsBy : {S : Type 0} → Serving S → List Call → CallPlay S → CallPlay S → (Parties S → CallWorld → CallWorld) → Type 0
CallStepsBy {S} serving calls before after f = (p : Parties S) (w : CallWorld) → IsReady serving calls p w → IsCallPlaying p before w
    → IsCallPlaying p after (f p w)

abbrev pub parties : {S : Type 0} → Serving S → S → List Call → Parties S
parties serving service calls = record { serving = serving; service = service; calls = map raw_call calls }

-- a trace as a ledger, in which all of these calls were made
abbrev pub ledger_in : {S : Type 0} → Serving S → S → List Call → CallTrace S → Ledger S RawCall SeenModel
ledger_in serving service calls t = record {
  made = map raw_call calls;
  carried = map raw_call t.carried.items;
  answered = outcomes serving service (map raw_call t.carried.items);
  seen = map seen_model t.seen.items;
  state = t.service;
}

-- each call is carried out at most once and in order, and the k-th outcome that the caller saw is the server's to its k-th call
abbrev pub IsOnceInOrder : {S : Type 0} → Serving S → S → List Call → CallTrace S → Type 0
IsOnceInOrder serving service calls t = IsInOrder (decides serving) service (ledger_in serving service calls t)
