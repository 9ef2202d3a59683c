-- A packet that begins a connection, or begins one anew, for a flow of a whole input that has begun; and with that any packet.
use Rattle.std.proofs.Common.{◌≡◌, ◌∙◌, ap, sym, refl, subst, arith, inl, inr, ℕ, ◌+◌, ◌<◌, ◌≤◌, ◌==◌, ◌⊎◌, Bool, true, false, cond, List, [], ◌∷◌, ◌++◌, length, Option, Some, None}
use Rattle.std.specs.Prelude.{not, slice_get}
use Rattle.std.proofs.lemmas.Bool.{eqb-false, eqb-true, ne_eqb}
use Rattle.std.proofs.lemmas.Option.{slice_get_within}
use Rattle.std.proofs.Math.Nat.{ne_of_lt}
use Rattle.xns_idp.specs.Packet.{PacketModel}
use Rattle.xns_spp.specs.Header.{is_system}
use Rattle.xns_spp.specs.declared.header.Header.{Header}
use Rattle.xns_dump.specs.Flows.{flow_of, is_place}
use Rattle.xns_dump.specs.declared.flows.flow.Flow.{Flow}
use Rattle.xns_calls.specs.Acknowledged.{acknowledged_in, due_of}
use Rattle.xns_calls.specs.Anew.{begins_anew}
use Rattle.xns_calls.specs.AtEnd.{both_ended}
use Rattle.xns_calls.specs.Capture.{Known, after_at, after_in, after_new_flow, after_place, after_sequenced, after_there, forgotten, heading_at, is_behind_in, new_connection, place_of, renewed, renewed_there, scene_in, with_new}
use Rattle.xns_calls.specs.Events.{Event, acknowledged_event, after_events}
use Rattle.xns_calls.specs.Exchange.{Scene, behind_last, told_of}
use Rattle.xns_calls.specs.Input.{Part, known_connection, connection_of, ending_events, events_between, events_there, name_in, next_name}
use Rattle.xns_calls.specs.Over.{side_in}
use Rattle.xns_calls.specs.Reading.{Told}
use Rattle.xns_calls.specs.declared.connection.Connection.{Connection}
use Rattle.xns_calls.proofs.EndReads.{ends_say, flow_ends, flow_left}
use Rattle.xns_calls.proofs.Fits.{acks_fit}
use Rattle.xns_calls.proofs.Ordered.{IsOrdered}
use Rattle.xns_calls.proofs.LastKept.{all_below, bound_of}
use Rattle.xns_calls.proofs.Numbered.{IsNumbered, fresh_number, more_cases, numbered_more, numbered_renewed, set_cases}
use Rattle.xns_calls.proofs.Others.{get_front, get_last, get_same}
use Rattle.xns_calls.proofs.Places.{place_there}
use Rattle.xns_calls.proofs.Onwards.{Says}
use Rattle.xns_calls.specs.declared.origin.Origin.{Origin}
use Rattle.xns_calls.proofs.Parts.{flow_at, plain}
use Rattle.xns_calls.proofs.Begun.{IsGone, IsOn, Stepped, nothing_step, stays_gone, two_steps, unchanged}
use Rattle.xns_calls.proofs.Happenings.{at_step, far_stays, flow_here, near_events, side_track}

-- ---- the end of a connection that begins anew

abbrev pub forgotten_parts : Origin → Connection → Known → List Part
forgotten_parts n c k = (ends_say n c.number false (scene_in false c k)).parts

-- the number of the next connection is none of these
pub next_other : (m n : ℕ) → m ≤ n → (m == n + 1) ≡ false
next_other m n le = ne_eqb m (n + 1) (ne_of_lt (omega (arith, le)))

pub gone_now : (k : Known) (i : ℕ) (flow : Flow) (n : Origin) (c : Connection) (u : Told) → IsNumbered k.connections k.count → slice_get k.connections i ≡ Some c → u.track.early ≡ [] → IsGone c.number (forgotten n i flow c k) u
gone_now k i flow n c u numbered there empty = record {
  empty = empty;
  counted = let le : c.number ≤ k.count = numbered.below i c there in omega (arith, le);
  none = λ j d at is. by_case j d is (set_cases k.connections i j (new_connection (k.count + 1) flow) d at);
}
  where
    by_case : (j : ℕ) (d : Connection) → d.number ≡ c.number → ((i ≡ j) × (d ≡ new_connection (k.count + 1) flow)) ⊎ ((i ≡ j → ⊥) × (slice_get k.connections j ≡ Some d)) → ⊥
    by_case j d is (inl (e, one)) = fresh_number d.number c.number k.count (ap (λ (x : Connection). x.number) one) (numbered.below i c there) is
    by_case j d is (inr (other, at)) = other (numbered.alone i j c d there at (sym is))

pub gone_renewed : (m i : ℕ) (flow : Flow) (n : Origin) (c : Connection) (k : Known) (t : Told) → IsGone m k t → IsGone m (forgotten n i flow c k) t
gone_renewed m i flow n c k t gone = record {
  empty = gone.empty;
  counted = let le : m ≤ k.count = gone.counted in omega (arith, le);
  none = λ j d at is. by_case j d is (set_cases k.connections i j (new_connection (k.count + 1) flow) d at);
}
  where
    by_case : (j : ℕ) (d : Connection) → d.number ≡ m → ((i ≡ j) × (d ≡ new_connection (k.count + 1) flow)) ⊎ ((i ≡ j → ⊥) × (slice_get k.connections j ≡ Some d)) → ⊥
    by_case j d is (inl (e, one)) = fresh_number d.number m k.count (ap (λ (x : Connection). x.number) one) gone.counted is
    by_case j d is (inr (other, at)) = gone.none j d at is

pub forget_near : (n : Origin) (i : ℕ) (b : Bool) (flow : Flow) (c : Connection) (k : Known) (t : Told) → IsNumbered k.connections k.count → slice_get k.connections i ≡ Some c → IsOrdered t
    → (scene_in b c k).own.track ≡ Some t.track → t ≡ told_of t.track (scene_in b c k)
    → Stepped n c.number b k (forgotten n i flow c k) t (acknowledged_event (heading_at n c.number b) (behind_last (side_in b c).track))
forget_near n i b flow c k t numbered there ordered track is =
    let w = flow_ends n b c k t track is ordered in
    let l = w.leads in
    let o = behind_last (Some t.track) in
    subst (λ o. Stepped n c.number b k (forgotten n i flow c k) t (acknowledged_event (heading_at n c.number b) (behind_last o))) (sym track ∙ side_track b c k)
    (record {
      events = w.events;
      are = acks_fit (heading_at n c.number b) o w.events (w.acks (bound_of o) (all_below t ordered)).0;
      at = l.at;
      stands = inr (gone_now k i flow n c (after_events w.events t) numbered there (flow_left n b c k (after_events w.events t).track l.track));
      parts = l.parts;
      text = l.text;
      own = l.own;
    })

pub forget_step : (n : Origin) (m i : ℕ) (b : Bool) (flow : Flow) (c : Connection) (k : Known) (t : Told) → IsNumbered k.connections k.count → slice_get k.connections i ≡ Some c → IsOn m b k t
    → Stepped n m b k (forgotten n i flow c k) t (ending_events (flow_at m b) (heading_at n m b) c)
forget_step n m i b flow c k t numbered there on = by_number (m == c.number) refl on
  where
    ended : Says c.number (scene_in false c k) (both_ended (heading_at n c.number false) (scene_in false c k))
    ended = ends_say n c.number false (scene_in false c k)

    by_number : (p : Bool) → (m == c.number) ≡ p → IsOn m b k t → Stepped n m b k (forgotten n i flow c k) t (cond p (acknowledged_event (heading_at n m b) (behind_last (side_in b c).track)) [])
    by_number true e (inl a) =
        let here = flow_here m i b c k t numbered there a (eqb-true m c.number e) in
        subst (λ g. Stepped n g b k (forgotten n i flow c k) t (acknowledged_event (heading_at n g b) (behind_last (side_in b c).track))) (sym (eqb-true m c.number e))
        (forget_near n i b flow c k t numbered there a.ordered here.0 here.1)
    by_number true e (inr gone) = absurd (gone.none i c there (sym (eqb-true m c.number e)))
    by_number false e (inl a) =
        unchanged n m b k (forgotten n i flow c k) t (forgotten_parts n c k) ended.text (ended.far m b e) a
        (far_stays m i b c _ k t there a (eqb-false m c.number e))
    by_number false e (inr gone) =
        stays_gone n m b k (forgotten n i flow c k) t (forgotten_parts n c k) ended.text (ended.far m b e)
        (gone_renewed m i flow n c k t gone)

-- ---- a connection that begins

-- the flow of a new connection is not the one behind
abbrev pub IsPlain : Type 0
IsPlain = (flow : Flow) → is_place flow.source flow.source ≡ true

pub none_due : (b : Bool) (number : ℕ) (flow : Flow) → due_of b (new_connection number flow) ≡ None
none_due true number flow = refl
none_due false number flow = refl

pub none_acknowledged : (q : Bool) (f : Header) (number : ℕ) (flow : Flow) → acknowledged_in q f (new_connection number flow) ≡ None
none_acknowledged true f number flow = refl
none_acknowledged false f number flow = refl

pub none_new : (b : Bool) (number : ℕ) (flow : Flow) → (side_in b (new_connection number flow)).track ≡ None
none_new true number flow = refl
none_new false number flow = refl

pub new_there : IsPlain → (n : Origin) (i : ℕ) (flow : Flow) (packet : PacketModel) (f : Header) (content : List ℕ) (number : ℕ) (k : Known) → slice_get k.connections i ≡ Some (new_connection number flow)
    → after_at n i flow packet f content k ≡ after_in n i false packet f content (new_connection number flow) k
unfolding after_at
new_there plain n i flow packet f content number k there =
    let c = new_connection number flow in
    ap (λ o. after_there n i flow packet f content o k) there ∙ ap (λ p. after_in n i (not p) packet f content c k) (plain flow)

-- the first packet of a connection is nothing to a flow that has begun before
pub fresh_step : IsPlain → (n : Origin) (m i : ℕ) (b : Bool) (flow : Flow) (packet : PacketModel) (f : Header) (content : List ℕ) (number : ℕ) (k : Known) (t : Told) → IsNumbered k.connections k.count
    → slice_get k.connections i ≡ Some (new_connection number flow) → IsOn m b k t
    → Stepped n m b k (after_at n i flow packet f content k) t (events_between (flow_at m b) (flow_at number false) (heading_at n m b) f content None None None)
fresh_step plain n m i b flow packet f content number k t numbered there on =
    let c = new_connection number flow in
    subst (λ k'. Stepped n m b k k' t (events_between (flow_at m b) (flow_at number false) (heading_at n m b) f content None None None)) (sym (new_there plain n i flow packet f content number k there))
    (subst (λ o. Stepped n m b k (after_in n i false packet f content c k) t (events_between (flow_at m b) (flow_at number false) (heading_at n m b) f content None None o)) (none_due b number flow)
    (subst (λ o. Stepped n m b k (after_in n i false packet f content c k) t (events_between (flow_at m b) (flow_at number false) (heading_at n m b) f content None o (due_of b c))) (none_new b number flow)
    (subst (λ o. Stepped n m b k (after_in n i false packet f content c k) t (events_between (flow_at m b) (flow_at number false) (heading_at n m b) f content o (side_in b c).track (due_of b c))) (none_acknowledged false f number flow)
    (at_step n m i b false packet f content c k t numbered there on))))

scene_more : (b : Bool) (flow : Flow) (c : Connection) (k : Known) → scene_in b c (with_new flow k) ≡ scene_in b c k
scene_more true flow c k = refl
scene_more false flow c k = refl

pub with_more : (m : ℕ) (b : Bool) (flow : Flow) (k : Known) (t : Told) → IsOn m b k t → IsOn m b (with_new flow k) t
with_more m b flow k t (inl a) =
    let same = scene_more b flow a.connection k in inl (record {
      place = a.place;
      connection = a.connection;
      there = get_front k.connections (new_connection (k.count + 1) flow ∷ []) a.place (slice_get_within k.connections a.place a.connection a.there) ∙ a.there;
      number = a.number;
      track = ap (λ (s : Scene). s.own.track) same ∙ a.track;
      is = a.is ∙ ap (λ (s : Scene). told_of t.track s) (sym same);
      ordered = a.ordered;
    })
with_more m b flow k t (inr gone) = inr (record {
  empty = gone.empty;
  counted = let le : m ≤ k.count = gone.counted in omega (arith, le);
  none = λ j d at is. by_case j d is (more_cases k.connections j (new_connection (k.count + 1) flow) d at);
})
  where
    by_case : (j : ℕ) (d : Connection) → d.number ≡ m → ((j ≡ length k.connections) × (d ≡ new_connection (k.count + 1) flow)) ⊎ ((j < length k.connections) × (slice_get k.connections j ≡ Some d)) → ⊥
    by_case j d is (inl (e, one)) = fresh_number d.number m k.count (ap (λ (x : Connection). x.number) one) gone.counted is
    by_case j d is (inr (lt, at)) = gone.none j d at is

pub begun_before : (m : ℕ) (b : Bool) (k : Known) (t : Told) → IsNumbered k.connections k.count → IsOn m b k t → m ≤ k.count
begun_before m b k t numbered (inl a) = let le : a.connection.number ≤ k.count = numbered.below a.place a.connection a.there in let e : a.connection.number ≡ m = a.number in omega (arith, le, e)
begun_before m b k t numbered (inr gone) = gone.counted

-- a packet that begins a connection, or that is a system packet of none
pub new_step : IsPlain → (n : Origin) (m : ℕ) (b : Bool) (flow : Flow) (packet : PacketModel) (f : Header) (content : List ℕ) (k : Known) (t : Told) → IsNumbered k.connections k.count → IsOn m b k t
    → Stepped n m b k (after_new_flow n flow packet f content k) t (events_between (flow_at m b) (next_name k) (heading_at n m b) f content None None None)
new_step plain n m b flow packet f content k t numbered on = over (is_system f)
  where
    more : Known
    more = with_new flow k

    happened : List Event
    happened = events_between (flow_at m b) (next_name k) (heading_at n m b) f content None None None

    none : happened ≡ []
    none =
        ap (λ (p : Bool). cond p (near_events n m b false f content None None None) [])
        (next_other m k.count (begun_before m b k t numbered on))

    over : (p : Bool) → Stepped n m b k (cond p k (after_at n (length k.connections) flow packet f content more)) t happened
    over true = subst (Stepped n m b k k t) (sym none) (nothing_step n m b k t on)
    over false =
        let w = fresh_step plain n m (length k.connections) b flow packet f content (k.count + 1) more t (numbered_more k.connections k.count (new_connection (k.count + 1) flow) numbered refl)
        (get_last k.connections (new_connection (k.count + 1) flow)) (with_more m b flow k t on) in
        record { events = w.events; are = w.are; at = w.at; stands = w.stands; parts = w.parts; text = w.text; own = w.own }

-- a packet of a connection that is there, which may begin anew
pub place_step : IsPlain → (n : Origin) (m i : ℕ) (b : Bool) (packet : PacketModel) (f : Header) (content : List ℕ) (c : Connection) (k : Known) (t : Told) → IsNumbered k.connections k.count → slice_get k.connections i ≡ Some c → IsOn m b k t
    → Stepped n m b k (after_at n i (flow_of packet f) packet f content (renewed n i (flow_of packet f) f k)) t (events_there (flow_at m b) (heading_at n m b) (packet, f, content) (Some c) k)
unfolding renewed after_at
place_step plain n m i b packet f content c k t numbered there on =
    subst (λ o. Stepped n m b k (after_at n i flow packet f content (renewed_there n i flow f o k)) t (events_there (flow_at m b) (heading_at n m b) (packet, f, content) (Some c) k)) (sym there)
    (by_anew (begins_anew f c))
  where
    flow : Flow
    flow = flow_of packet f

    by_anew : (p : Bool)
        → Stepped n m b k (after_at n i flow packet f content (cond p (forgotten n i flow c k) k)) t
        (cond p (ending_events (flow_at m b) (heading_at n m b) c ++ events_between (flow_at m b) (next_name k) (heading_at n m b) f content None None None)
        (events_between (flow_at m b) (name_in flow c) (heading_at n m b) f content (acknowledged_in (is_behind_in flow c) f c) (side_in b c).track (due_of b c)))
    by_anew true =
        two_steps n m b k (forgotten n i flow c k) (after_at n i flow packet f content (forgotten n i flow c k)) t (ending_events (flow_at m b) (heading_at n m b) c)
        (events_between (flow_at m b) (next_name k) (heading_at n m b) f content None None None)
        (forget_step n m i b flow c k t numbered there on)
        (λ u on'. fresh_step plain n m i b flow packet f content (k.count + 1) (forgotten n i flow c k) u
        (numbered_renewed k.connections k.count i (new_connection (k.count + 1) flow) numbered refl)
        (get_same k.connections i c (new_connection (k.count + 1) flow) there) on')
    by_anew false = there_step
      where
        there_step : Stepped n m b k (after_at n i flow packet f content k) t (events_between (flow_at m b) (name_in flow c) (heading_at n m b) f content (acknowledged_in (is_behind_in flow c) f c) (side_in b c).track (due_of b c))
        there_step =
            subst (λ o. Stepped n m b k (after_there n i flow packet f content o k) t (events_between (flow_at m b) (name_in flow c) (heading_at n m b) f content (acknowledged_in (is_behind_in flow c) f c) (side_in b c).track (due_of b c))) (sym there)
            (at_step n m i b (is_behind_in flow c) packet f content c k t numbered there on)

pub sequenced_step : IsPlain → (n : Origin) (m : ℕ) (b : Bool) (packet : PacketModel) (f : Header) (content : List ℕ) (k : Known) (t : Told) → IsNumbered k.connections k.count → IsOn m b k t
    → Stepped n m b k (after_sequenced n packet f content k) t (events_there (flow_at m b) (heading_at n m b) (packet, f, content) (connection_of packet f k.connections) k)
unfolding after_sequenced
sequenced_step plain n m b packet f content k t numbered on = by_place (place_of (flow_of packet f) k.connections) refl
  where
    by_place : (o : Option ℕ) → place_of (flow_of packet f) k.connections ≡ o
        → Stepped n m b k (after_place n (flow_of packet f) packet f content o k) t (events_there (flow_at m b) (heading_at n m b) (packet, f, content) (known_connection o k.connections) k)
    by_place (Some i) at =
        let w = place_there (flow_of packet f) k.connections i at in
        subst (λ o. Stepped n m b k (after_at n i (flow_of packet f) packet f content (renewed n i (flow_of packet f) f k)) t (events_there (flow_at m b) (heading_at n m b) (packet, f, content) o k)) (sym w.1)
        (place_step plain n m i b packet f content w.0 k t numbered w.1 on)
    by_place None at = new_step plain n m b (flow_of packet f) packet f content k t numbered on
