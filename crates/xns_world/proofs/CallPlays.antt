-- What a play of calls stands for after each event.
use Rattle.std.proofs.Common.{◌≡◌, ℕ, List, [], ◌∷◌, map, take, fold, Option, Some, None, refl, sym, ◌∙◌, ap, subst}
use Rattle.std.specs.List.{filter}
use Rattle.std.specs.Prelude.{All, if◌then◌else◌, is_some}
use Rattle.std.proofs.lemmas.List.Elements.{All-head, All-tail}
use Rattle.courier_messages.specs.RawCalls.{RawCall}
use Rattle.courier_calls.specs.Calls.{SeenModel, Serving, outcomes, raw_call}
use Rattle.courier_calls.specs.Caller as caller
use Rattle.courier_calls.specs.Caller.{answers}
use Rattle.courier_calls.specs.declared.call.Call.{Call}
use Rattle.xns_spp.specs.Held.{Held, StandsFor}
use Rattle.xns_spp.specs.Sending.{flush_answer, after_flush, tick_answer, after_tick}
use Rattle.xns_spp.specs.State.{State}
use Rattle.xns_spp.specs.declared.item.Item.{Item}
use Rattle.xns_world.proofs.CallRuns.{settles_is, arrived, arrived_nowhere, deliveries_all, steps_leave, quiet_between}
use Rattle.xns_world.proofs.CallCarries.{steps_hold}
use Rattle.xns_world.proofs.ServingEnds.{served_on, raw_again}
use Rattle.xns_world.specs.declared.call_trace.CallTrace.{CallTrace}
use Rattle.xns_world.specs.declared.calling.CallingEnd.{CallingEnd}
use Rattle.xns_world.specs.declared.call_pair.CallPair.{CallPair}
use Rattle.xns_world.specs.declared.call_play.CallPlay.{CallPlay}
use Rattle.item_world.specs.declared.network.Network.{Network}
use Rattle.xns_world.specs.declared.serving.ServingEnd.{ServingEnd}
use Rattle.item_world.specs.declared.side.Side.{Side}
use Rattle.item_world.specs.declared.side.Side.TheVariants.{A, B}
use Rattle.xns_spp.specs.Growth.{Begins}
use Rattle.item_world.specs.Invariant.{Holds}
use Rattle.item_world.specs.Channel.{IsQuiet}
use Rattle.item_world.specs.Later.{Later, StaysAway, does_land}
use Rattle.item_world.specs.Landing.{landing}
use Rattle.item_world.specs.declared.event.Event.TheVariants.{Rest}
use Rattle.item_world.specs.Events as events
use Rattle.item_world.specs.Events.{undelivered}
use Rattle.item_world.specs.Network.{IsNetwork, IsEnd, unsettled}
use Rattle.item_world.specs.Side.{other}
use Rattle.xns_world.specs.CallLaws.{ServerLaws, PartiesLaws}
use Rattle.xns_spp.specs.Fronts.{begins_then}
use Rattle.xns_world.specs.CallOrder.{decides, ledger_of, IsBetween}
use Rattle.xns_world.specs.Ledger.{Ledger, IsInOrder}
use Rattle.xns_world.specs.CallPlay.{endpoint_at, with_endpoint, EndpointActs, IsCalling, caller_history, IsServing, IsAtSide, IsCallPair, IsCallPlaying, IsReady, IsCallTrace, ledger_in, IsOnceInOrder, parties}
use Rattle.xns_world.specs.CallWorld.{Parties, CallWorld, calls_made, in_world, carried_at, step, settles, call_delivers, call_happens}
use Rattle.xns_world.specs.Settling.{most_steps, stepped_out}
use Rattle.xns_world.specs.ServeEnd.{IsServed}
use Rattle.item_world.specs.World.{World, end_at, flushes, ticks, channel_of, handed_at, sent_at}
use Rattle.item_world.specs.EndLaws.{EndLaws}

-- ---- an end whose world goes on elsewhere

-- a caller's end goes on with the same calls and items
calling_on : {S : Type 0} (p : Parties S) (e : CallingEnd) (w v : CallWorld) (endpoint : Held) → StandsFor endpoint v.world.a → handed_at v.world A ≡ handed_at w.world A → sent_at v.world A ≡ sent_at w.world A → v.made ≡ w.made → v.listed ≡ w.listed
    → IsCalling p e w → IsCalling p (record e { endpoint = endpoint }) v
calling_on p e w v endpoint stands handed sent made listed h =
    let at : ℕ → List Item → List Item → ℕ → caller.CallerHistory =
    λ n fed fetched m. record { made = take n p.calls; fed = fed; fetched = fetched; handed = take m (answers p.serving.table (take n p.calls) fed) } in
    let same : caller_history p v ≡ caller_history p w =
    ap (λ (n : ℕ). at n (handed_at v.world A) (sent_at v.world A) v.listed) made
    ∙ (ap (λ (l : List Item). at w.made l (sent_at v.world A) v.listed) handed
    ∙ (ap (λ (l : List Item). at w.made (handed_at w.world A) l v.listed) sent ∙ ap (λ (n : ℕ). at w.made (handed_at w.world A) (sent_at w.world A) n) listed)) in
    record {
      stands = stands;
      session = subst (λ (c : caller.CallerHistory). caller.CallerStandsFor p.serving.table e.caller c) (sym same) h.session;
      made = h.made ∙ sym made;
      seen = h.seen ∙ sym (ap (λ (c : caller.CallerHistory). c.handed) same);
    }

pub other_calling : {S : Type 0} (p : Parties S) (e : CallingEnd) (w v : CallWorld) → v.world.a ≡ w.world.a → v.made ≡ w.made → v.listed ≡ w.listed → IsCalling p e w → IsCalling p e v
other_calling p e w v world made listed h =
    calling_on p e w v e.endpoint (subst (λ (s : State). StandsFor e.endpoint s) (sym world) h.stands) (ap (λ (s : State). take s.handed s.taken) world) (ap (λ (s : State). s.accepted) world) made listed h

pub other_serving : {S : Type 0} (p : Parties S) (e : ServingEnd S) (w v : CallWorld) → v.world.b ≡ w.world.b → IsServing p e w → IsServing p e v
other_serving p e w v same h = subst (λ (s : State). IsServed p.serving p.service e s) (sym same) h

-- ---- an end that accepts and hands up nothing

pub quiet_calling : {S : Type 0} (p : Parties S) (e : CallingEnd) (w : CallWorld) (u : World) (endpoint : Held) → IsQuiet (channel_of w.world) (channel_of u) → StandsFor endpoint u.a → IsCalling p e w → IsCalling p (record e { endpoint = endpoint }) (in_world w u)
quiet_calling p e w u endpoint q stands h = calling_on p e w (in_world w u) endpoint stands (q.handed A) (q.accepted A) refl refl h

pub quiet_serving : {S : Type 0} (p : Parties S) (e : ServingEnd S) (w : CallWorld) (u : World) (endpoint : Held) → IsQuiet (channel_of w.world) (channel_of u) → StandsFor endpoint u.b → IsServing p e w → IsServing p (record e { endpoint = endpoint }) (in_world w u)
quiet_serving p e w u endpoint q stands h = served_on p.serving p.service e w.world.b u.b endpoint h stands (q.accepted B) (q.handed B)

-- ---- the caller's end and the server's, side by side

pub pair_of : {S : Type 0} (p : Parties S) (e : CallPair S) (w : CallWorld) → IsCalling p e.a w → IsServing p e.b w → IsCallPair p e w
pair_of p e w a b = λ side. elim side as (λ t. IsAtSide p e w t) [ A ↦ a | B ↦ b ]

-- the end at a side takes its steps, and the other one stays
pub caller_stepped : {S : Type 0} (p : Parties S) → ServerLaws p.serving p.service → (e : CallPair S) (w : CallWorld) (a : CallingEnd) → IsCallPair p e w → IsCalling p a (stepped_out (step p A) w) → IsCallPair p (record e { a = a }) (stepped_out (step p A) w)
caller_stepped p laws e w a h i =
    let v = stepped_out (step p A) w in
    pair_of p (record e { a = a }) v i (other_serving p e.b w v (steps_leave p laws A w most_steps).there (h B))

pub server_stepped : {S : Type 0} (p : Parties S) → ServerLaws p.serving p.service → (e : CallPair S) (w : CallWorld) (b : ServingEnd S) → IsCallPair p e w → IsServing p b (stepped_out (step p B) w) → IsCallPair p (record e { b = b }) (stepped_out (step p B) w)
server_stepped p laws e w b h i =
    let v = stepped_out (step p B) w in
    let l = steps_leave p laws B w most_steps in
    pair_of p (record e { b = b }) v (other_calling p e.a w v l.there (l.made refl) (l.listed refl) (h A)) i

-- an endpoint goes on that accepts and hands up nothing, and the other end stays
quiet_pair : {S : Type 0} (p : Parties S) (e : CallPair S) (w : CallWorld) (u : World) (side : Side) (endpoint : Held) → IsQuiet (channel_of w.world) (channel_of u) → end_at u (other side) ≡ end_at w.world (other side) → StandsFor endpoint (end_at u side) → IsCallPair p e w → IsCallPair p (with_endpoint e side endpoint) (in_world w u)
quiet_pair p e w u A endpoint q same stands h = pair_of p (with_endpoint e A endpoint) (in_world w u) (quiet_calling p e.a w u endpoint q stands (h A)) (other_serving p e.b w (in_world w u) same (h B))
quiet_pair p e w u B endpoint q same stands h = pair_of p (with_endpoint e B endpoint) (in_world w u) (other_calling p e.a w (in_world w u) same refl refl (h A)) (quiet_serving p e.b w u endpoint q stands (h B))

stands_at : {S : Type 0} (p : Parties S) (e : CallPair S) (w : CallWorld) (side : Side) → IsCallPair p e w → StandsFor (endpoint_at e side) (end_at w.world side)
stands_at p e w A h = (h A).stands
stands_at p e w B h = (h B).stands

-- the endpoint at a side acts
pub acts_at : {S : Type 0} (leads : Side → World → World → Type 0) (e : CallPair S) (side t : Side) (endpoint : Held) (n m : Network) → side ≡ t
    → (EndLaws → (w v : World) → leads t w v → IsEnd (endpoint_at e t) n w t → IsEnd endpoint m v t) → EndpointActs e (with_endpoint e t endpoint) n m side (leads side)
acts_at leads e side A endpoint n m is h = subst (λ (s : Side). EndpointActs e (with_endpoint e A endpoint) n m s (leads s)) (sym is) (record { pair = refl; stands = h })
acts_at leads e side B endpoint n m is h = subst (λ (s : Side). EndpointActs e (with_endpoint e B endpoint) n m s (leads s)) (sym is) (record { pair = refl; stands = h })

-- the endpoint at a side takes a step of its own, as it flushes or ticks
pub moves_at : {S : Type 0} (moves : World → Side → World) (e : CallPair S) (side t : Side) (endpoint : Held) (n m : Network) → side ≡ t
    → (EndLaws → (w : World) → IsEnd (endpoint_at e t) n w t → IsEnd endpoint m (moves w t) t) → EndpointActs e (with_endpoint e t endpoint) n m side (λ w v. moves w side ≡ v)
moves_at moves e side t endpoint n m is h = acts_at (λ (s : Side) (w v : World). moves w s ≡ v) e side t endpoint n m is (λ laws w v to i. subst (λ (u : World). IsEnd endpoint m u t) to (h laws w i))

-- the endpoint that acts accepts and hands up nothing
acted : {S : Type 0} → EndLaws → (p : Parties S) (e f : CallPair S) (n m : Network) (w : CallWorld) (u : World) (side : Side) (leads : World → World → Type 0) → EndpointActs e f n m side leads → leads w.world u → IsQuiet (channel_of w.world) (channel_of u)
    → end_at u (other side) ≡ end_at w.world (other side) → IsCallPair p e w → IsNetwork n w.world → IsCallPlaying p (record { ends = f; network = m }) (in_world w u)
acted {S} laws p e f n m w u side leads a led q same h network =
    let end = a.stands laws w.world u led (record { stands = stands_at p e w side h; network = network }) in
    record {
      ends = subst (λ (x : CallPair S). IsCallPair p x (in_world w u)) (sym a.pair) (quiet_pair p e w u side (endpoint_at f side) q same end.stands h);
      network = end.network;
    }

-- ---- a side settles

pub settled : {S : Type 0} (p : Parties S) (e f : CallPair S) (n m : Network) (w : CallWorld) (side : Side) → PartiesLaws p → IsBetween p w → IsCallPair p e (stepped_out (step p side) w) → IsNetwork n w.world
    → EndpointActs e f n m side (λ v u. flushes v side ≡ u) → IsCallPlaying p (record { ends = f; network = m }) (settles p side w)
settled p e f n m w side g b h network a =
    let laws = g.answering.ends in
    let v = stepped_out (step p side) w in
    let s : State = end_at v.world side in
    let holds = (steps_hold p side w most_steps g b.holds).holds in
    subst (λ (u : CallWorld). IsCallPlaying p (record { ends = f; network = m }) u) (sym (settles_is p side w))
    (acted laws p e f n m v (flushes v.world side) side (λ v u. flushes v side ≡ u) a refl (g.answering.network.items.quiet v.world (events.flushing side) tt holds) (g.answering.network.moves.there v.world side (after_flush s) (flush_answer s)) h ((steps_leave p g.answering side w most_steps).network n network))

-- ---- a packet is delivered

-- the world as an end has heard a packet, or has ticked
pub record Heard {S : Type 0} (serving : Serving S) (cs : List Call) (p : Parties S) (play : CallPlay S) (w : CallWorld) : Type 0 where
  pub ready : IsReady serving cs p w
  pub playing : IsCallPlaying p play w

heard : {S : Type 0} (serving : Serving S) (cs : List Call) (p : Parties S) (e f : CallPair S) (n m : Network) (w : CallWorld) (u : World) (side : Side) (leads : World → World → Type 0) → IsReady serving cs p w → IsCallPlaying p (record { ends = e; network = n }) w
    → EndpointActs e f n m side leads → leads w.world u → Holds u → IsQuiet (channel_of w.world) (channel_of u) → end_at u (other side) ≡ end_at w.world (other side) → Heard serving cs p (record { ends = f; network = m }) (in_world w u)
heard serving cs p e f n m w u side leads r h a led holds q same = record {
  ready = record { given = r.given; between = quiet_between p w u r.between holds q; serving_is = r.serving_is; calls_are = r.calls_are };
  playing = acted r.given.answering.ends p e f n m w u side leads a led q same h.ends h.network;
}

pub landed : {S : Type 0} (serving : Serving S) (cs : List Call) (p : Parties S) (e f : CallPair S) (n m : Network) (w : CallWorld) (k : ℕ) (u : World) (side : Side) → IsReady serving cs p w → IsCallPlaying p (record { ends = e; network = n }) w
    → landing w.world k ≡ Some (side, u) → EndpointActs e f n m side (λ w v. landing w k ≡ Some (side, v)) → Heard serving cs p (record { ends = f; network = m }) (in_world w u)
landed serving cs p e f n m w k u side r h came a =
    let holds = r.between.holds.holds in
    heard serving cs p e f n m w u side (λ w v. landing w k ≡ Some (side, v)) r h a came (r.given.world.land w.world k (side, u) holds came) (r.given.answering.network.items.land w.world k (side, u) holds came) (r.given.answering.network.moves.land w.world k (side, u) came)

-- ---- time passes

pub ticked : {S : Type 0} (serving : Serving S) (cs : List Call) (p : Parties S) (e f : CallPair S) (n m : Network) (w : CallWorld) (side : Side) → IsReady serving cs p w → IsCallPlaying p (record { ends = e; network = n }) w
    → EndpointActs e f n m side (λ w v. ticks w side ≡ v) → Heard serving cs p (record { ends = f; network = m }) (in_world w (ticks w.world side))
ticked serving cs p e f n m w side r h a =
    let holds = r.between.holds.holds in
    let s : State = end_at w.world side in
    heard serving cs p e f n m w (ticks w.world side) side (λ w v. ticks w side ≡ v) r h a refl (r.given.world.each w.world (events.ticking side) tt holds) (r.given.answering.network.items.quiet w.world (events.ticking side) tt holds) (r.given.answering.network.moves.there w.world side (after_tick s) (tick_answer s))

-- ---- deliveries in turn

settles_later : {S : Type 0} (p : Parties S) → ServerLaws p.serving p.service → (side : Side) (w : CallWorld) → Later w.world (settles p side w).world
settles_later p laws side w =
    let v = stepped_out (step p side) w in
    subst (λ (u : CallWorld). Later w.world u.world) (sym (settles_is p side w))
    (laws.network.goes_on.further w.world v.world (flushes v.world side) (steps_leave p laws side w most_steps).later (laws.network.goes_on.flush v.world side))

delivers_later : {S : Type 0} (p : Parties S) → ServerLaws p.serving p.service → (w : CallWorld) (k : ℕ) (o : Option (Side × World)) → landing w.world k ≡ o → Later w.world (call_delivers p w k).world
delivers_later p laws w k None is = subst (λ (u : CallWorld). Later w.world u.world) (sym (arrived_nowhere p w k is)) (laws.network.goes_on.itself w.world)
delivers_later p laws w k (Some l) is =
    let v = settles p l.0 (in_world w l.1) in
    subst (λ (u : CallWorld). Later w.world u.world) (sym (arrived p w k l is))
    (laws.network.goes_on.further w.world l.1 v.world (laws.network.goes_on.land w.world k l is) (settles_later p laws l.0 (in_world w l.1)))

one_passed : {S : Type 0} (p : Parties S) (w : World) (v : CallWorld) (k : ℕ) (ks : List ℕ) (o : Option (Side × World)) → landing w k ≡ o → StaysAway w k → Later w v.world
    → fold (call_delivers p) (call_delivers p v k) ks ≡ fold (call_delivers p) (call_delivers p v k) (filter (does_land w) ks) → fold (call_delivers p) v ks ≡ fold (call_delivers p) v (filter (does_land w) ks)
    → fold (call_delivers p) (call_delivers p v k) ks ≡ fold (call_delivers p) v (if is_some o then k ∷ filter (does_land w) ks else filter (does_land w) ks)
one_passed p w v k ks (Some l) is away later next same = next
one_passed p w v k ks None is away later next same = ap (λ (u : CallWorld). fold (call_delivers p) u ks) (arrived_nowhere p v k (away is v.world later)) ∙ same

-- what lands nowhere as they begin is passed over
pass_over : {S : Type 0} (p : Parties S) → ServerLaws p.serving p.service → (w : World) (v : CallWorld) (ks : List ℕ) → All (StaysAway w) ks → Later w v.world → fold (call_delivers p) v ks ≡ fold (call_delivers p) v (filter (does_land w) ks)
pass_over p laws w v [] stay later = refl
pass_over p laws w v (k ∷ ks) stay later =
    let rest = All-tail (StaysAway w) k ks stay in
    let on = laws.network.goes_on.further w v.world (call_delivers p v k).world later (delivers_later p laws v k (landing v.world k) refl) in
    one_passed p w v k ks (landing w k) refl (All-head (StaysAway w) k ks stay) later (pass_over p laws w (call_delivers p v k) ks rest on) (pass_over p laws w v ks rest later)

pub unsettled_is_enough : {S : Type 0} (p : Parties S) → ServerLaws p.serving p.service → (w : CallWorld) → call_happens p w Rest ≡ fold (call_delivers p) w (unsettled w.world 0 w.world.bag)
unsettled_is_enough p laws w =
    deliveries_all p w (undelivered 0 w.world.bag)
    ∙ pass_over p laws w.world w (undelivered 0 w.world.bag) (laws.network.rest.away w.world) (laws.network.goes_on.itself w.world)
    ∙ ap (fold (call_delivers p) w) (sym (laws.network.rest.left_out w.world))

-- ---- the headline, of what the play hands over

pub once_along : {S : Type 0} (serving : Serving S) (service : S) (cs : List Call) (t : CallTrace S) (w : CallWorld) → IsCallTrace (parties serving service cs) t w → Begins (calls_made (parties serving service cs) w) (map raw_call cs)
    → IsInOrder (decides serving) service (ledger_of (parties serving service cs) w) → IsOnceInOrder serving service cs t
once_along {S} serving service cs t w is made once =
    let carried : map raw_call t.carried.items ≡ carried_at w = ap (map raw_call) is.carried ∙ raw_again (carried_at w) in
    let now : Ledger S RawCall SeenModel = record (ledger_of (parties serving service cs) w) { made = map raw_call cs } in
    let later : IsInOrder (decides serving) service now =
    record { carried = begins_then (carried_at w) (calls_made (parties serving service cs) w) (map raw_call cs) once.carried made; answered = once.answered; seen = once.seen } in
    let same : ledger_in serving service cs t ≡ now =
    ap (λ (l : List RawCall). record (ledger_in serving service cs t) { carried = l; answered = outcomes serving service l }) carried
    ∙ (ap (λ (l : List SeenModel). record now { seen = l; state = t.service }) is.seen ∙ ap (λ (s : S). record now { state = s }) is.service) in
    subst (IsInOrder (decides serving) service) (sym same) later
