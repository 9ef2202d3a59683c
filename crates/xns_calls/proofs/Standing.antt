-- A packet, by where its flow stands.
use Rattle.std.proofs.Common.{◌≡◌, ◌∙◌, ap, sym, refl, subst, inl, inr, ℕ, ◌+◌, ◌&&◌, Bool, true, false, cond, List, length, Option, Some, None}
use Rattle.std.specs.Prelude.{not, slice_get, ◌==◌}
use Rattle.std.proofs.lemmas.Bool.{or_left}
use Rattle.std.proofs.Math.Bool.{and-false}
use Rattle.xns_idp.specs.Packet.{PacketModel}
use Rattle.xns_lines.specs.declared.page.Page.{Page}
use Rattle.xns_spp.specs.Header.{is_system}
use Rattle.xns_spp.specs.declared.header.Header.{Header}
use Rattle.xns_dump.specs.Flows.{flow_of}
use Rattle.xns_dump.specs.declared.flows.flow.Flow.{Flow}
use Rattle.xns_calls.specs.Anew.{begins_anew}
use Rattle.xns_calls.specs.Capture.{IsThereOrBegins, Known, after_at, after_place, after_sequenced, begins_anew_in, begun_for, begun_if, begun_place, forgotten, forgotten_in, is_behind_in, known, new_connection, place_if, place_of, renewed, renewed_there, wants_at, wants_flow, wants_in, wants_place, wants_sequenced, wants_there, with_new}
use Rattle.xns_calls.specs.Over.{closes, is_closed_both_ways}
use Rattle.xns_calls.specs.declared.connection.Connection.{Connection}
use Rattle.xns_calls.specs.declared.origin.Origin.{Origin}
use Rattle.xns_calls.proofs.Others.{get_last}

-- a flow whose connection is at a place
pub after_there : (n : Origin) (packet : PacketModel) (f : Header) (content : List ℕ) (k : Known) (flow : Flow) (at : ℕ) → flow ≡ flow_of packet f
    → place_of flow k.connections ≡ Some at → after_sequenced n packet f content k ≡ after_at n at flow packet f content (renewed n at flow f k)
unfolding after_sequenced
after_there n packet f content k flow at is e =
    ap (λ q. after_place n q packet f content (place_of q k.connections) k) (sym is)
    ∙ ap (λ o. after_place n flow packet f content o k) e

-- a system packet begins nothing anew
never_anew : (f : Header) (connection : Connection) → is_system f ≡ true → begins_anew f connection ≡ false
never_anew f connection e = ap (λ p. (not p && f.sequence == 0 && not (closes f.stream)) && is_closed_both_ways connection) e

pub system_same : (n : Origin) (at : ℕ) (flow : Flow) (f : Header) (k : Known) → is_system f ≡ true → renewed n at flow f k ≡ k
unfolding renewed
system_same n at flow f k e = by_connection (slice_get k.connections at)
  where
    by_connection : (o : Option Connection) → renewed_there n at flow f o k ≡ k
    by_connection None = refl
    by_connection (Some c) = ap (λ p. cond p (forgotten n at flow c k) k) (never_anew f c e)

-- where a packet begins the connection anew, and where not
pub renewed_anew : (n : Origin) (at : ℕ) (flow : Flow) (f : Header) (k : Known) → begins_anew_in f (slice_get k.connections at) ≡ true
    → renewed n at flow f k ≡ forgotten_in n at flow (slice_get k.connections at) k
unfolding renewed
renewed_anew n at flow f k e = by_connection (slice_get k.connections at) e
  where
    by_connection : (o : Option Connection) → begins_anew_in f o ≡ true → renewed_there n at flow f o k ≡ forgotten_in n at flow o k
    by_connection None is = (cc)
    by_connection (Some c) is = ap (λ p. cond p (forgotten n at flow c k) k) is

pub renewed_not : (n : Origin) (at : ℕ) (flow : Flow) (f : Header) (k : Known) → begins_anew_in f (slice_get k.connections at) ≡ false → renewed n at flow f k ≡ k
unfolding renewed
renewed_not n at flow f k e = by_connection (slice_get k.connections at) e
  where
    by_connection : (o : Option Connection) → begins_anew_in f o ≡ false → renewed_there n at flow f o k ≡ k
    by_connection None is = refl
    by_connection (Some c) is = ap (λ p. cond p (forgotten n at flow c k) k) is

pub anew_wants : (at : ℕ) (flow : Flow) (f : Header) (k : Known) → begins_anew_in f (slice_get k.connections at) ≡ true → wants_at at flow f k ≡ true
anew_wants at flow f k e = by_connection (slice_get k.connections at) e
  where
    by_connection : (o : Option Connection) → begins_anew_in f o ≡ true → wants_there flow f o k ≡ true
    by_connection None is = (cc)
    by_connection (Some c) is = or_left (begins_anew f c) (wants_in (is_behind_in flow c) f c k) is

-- a connection that has just begun does not begin anew
pub new_same : (n : Origin) (flow : Flow) (f : Header) (k : Known) → renewed n (length k.connections) flow f (with_new flow k) ≡ with_new flow k
unfolding renewed
new_same n flow f k =
    let c = new_connection (k.count + 1) flow in
    let K = with_new flow k in
    let i = length k.connections in
    ap (λ o. renewed_there n i flow f o K) (get_last k.connections c)
    ∙ ap (λ p. cond p (forgotten n i flow c K) K) (and-false (not (is_system f) && f.sequence == 0 && not (closes f.stream)))

-- ---- where the connection of a flow begins, if it is not there

-- a system packet begins none
pub system_begins : (n : Origin) (flow : Flow) (f : Header) (o : Option ℕ) (k : Known) → is_system f ≡ true → (place_if f o k ≡ o) × (begun_if n flow f o k ≡ k)
system_begins n flow f (Some i) k e = (refl, system_same n i flow f k e)
system_begins n flow f None k e = (ap (λ p. cond p None (Some (length k.connections))) e, ap (λ p. cond p k (with_new flow k)) e)

-- a data packet, whose connection is there, or begins
pub data_begins : (n : Origin) (f : Header) (cs cs' : List Connection) (count count' : ℕ) (page : Page) (flow : Flow) (at : ℕ)
    → is_system f ≡ false → IsThereOrBegins flow at cs count cs' count'
    → (begun_place flow f (known cs count page) ≡ Some at) × (renewed n at flow f (known cs' count' page) ≡ begun_for n flow f (known cs count page))
data_begins n f cs cs' count count' page flow at plain (inl (there, same, counted)) =
    let k = known cs count page in (
      ap (λ o. place_if f o k) there,
      ap (λ xs. renewed n at flow f (known xs count' page)) same ∙ ap (λ m. renewed n at flow f (known cs m page)) counted ∙ ap (λ o. begun_if n flow f o k) (sym there),
    )
data_begins n f cs cs' count count' page flow at plain (inr (none, place, new, counted)) =
    let k = known cs count page in
    let more : known cs' count' page ≡ with_new flow k = ap (λ xs. known xs count' page) new ∙ ap (λ m. known (with_new flow k).connections m page) counted in (
      ap (λ o. place_if f o k) none ∙ ap (λ p. cond p None (Some (length cs))) plain ∙ ap Some (sym place),
      ap (renewed n at flow f) more ∙ ap (λ i. renewed n i flow f (with_new flow k)) place ∙ new_same n flow f k
          ∙ sym (ap (λ o. begun_if n flow f o k) none ∙ ap (λ p. cond p k (with_new flow k)) plain),
    )

-- the packet is taken there
abbrev pub after_if : Origin → Option ℕ → Flow → PacketModel → Header → List ℕ → Known → Known
after_if n None flow packet f content k = k
after_if n (Some i) flow packet f content k = after_at n i flow packet f content k

pub taken_there : (n : Origin) (packet : PacketModel) (f : Header) (content : List ℕ) (k k' : Known) (flow : Flow) (place : Option ℕ) → flow ≡ flow_of packet f
    → place ≡ begun_place flow f k → k' ≡ begun_for n flow f k → after_if n place flow packet f content k' ≡ after_sequenced n packet f content k
unfolding after_sequenced
taken_there n packet f content k k' flow place is there begun =
    ap (λ o. after_if n o flow packet f content k') there ∙ ap (after_if n (begun_place flow f k) flow packet f content) begun ∙ by_place (place_of flow k.connections)
    ∙ ap (λ q. after_place n q packet f content (place_of q k.connections) k) is
  where
    by_system : (p : Bool) → after_if n (cond p None (Some (length k.connections))) flow packet f content (cond p k (with_new flow k))
        ≡ cond p k (after_at n (length k.connections) flow packet f content (with_new flow k))
    by_system true = refl
    by_system false = refl

    by_place : (o : Option ℕ) → after_if n (place_if f o k) flow packet f content (begun_if n flow f o k) ≡ after_place n flow packet f content o k
    by_place None = by_system (is_system f)
    by_place (Some i) = refl

-- a packet that wants memory behind the renewal did before
renewed_wants : (n : Origin) (at : ℕ) (flow : Flow) (f : Header) (k : Known) → wants_at at flow f (renewed n at flow f k) ≡ true → wants_at at flow f k ≡ true
unfolding renewed
renewed_wants n at flow f k e = by_connection (slice_get k.connections at) refl e
  where
    by_connection : (o : Option Connection) → slice_get k.connections at ≡ o → wants_at at flow f (renewed_there n at flow f o k) ≡ true → wants_at at flow f k ≡ true
    by_connection None there e = e
    by_connection (Some c) there e = by_anew (begins_anew f c) refl e
      where
        by_anew : (p : Bool) → begins_anew f c ≡ p → wants_at at flow f (cond p (forgotten n at flow c k) k) ≡ true → wants_at at flow f k ≡ true
        by_anew true is e =
            ap (λ o. wants_there flow f o k) there ∙ or_left (begins_anew f c) (wants_in (is_behind_in flow c) f c k) is
        by_anew false is e = e

-- ---- where memory is wanted

-- a packet wants memory where its flow does
pub flow_wants : (packet : PacketModel) (f : Header) (k : Known) (flow : Flow) → flow ≡ flow_of packet f → wants_flow flow f k ≡ true → wants_sequenced packet f k ≡ true
unfolding wants_sequenced
flow_wants packet f k flow is wants = ap (λ q. wants_flow q f k) (sym is) ∙ wants

-- a data packet that begins a connection wants memory
pub nowhere_wants : (f : Header) (k : Known) (flow : Flow) → is_system f ≡ false → place_of flow k.connections ≡ None → wants_flow flow f k ≡ true
nowhere_wants f k flow plain none = ap (λ o. wants_place flow f o k) none ∙ ap not plain

pub data_wants : (f : Header) (cs cs' : List Connection) (count count' : ℕ) (page : Page) (flow : Flow) (at : ℕ) → is_system f ≡ false → IsThereOrBegins flow at cs count cs' count'
    → wants_at at flow f (known cs' count' page) ≡ true → wants_flow flow f (known cs count page) ≡ true
data_wants f cs cs' count count' page flow at plain (inl (there, same, counted)) wants =
    ap (λ o. wants_place flow f o (known cs count page)) there ∙ ap (λ xs. wants_at at flow f (known xs count page)) (sym same) ∙ ap (λ m. wants_at at flow f (known cs' m page)) (sym counted) ∙ wants
data_wants f cs cs' count count' page flow at plain (inr (none, place, new, counted)) wants = nowhere_wants f (known cs count page) flow plain none

-- a packet wants memory where the connection does that has begun for it
pub there_wants : (n : Origin) (packet : PacketModel) (f : Header) (k k' : Known) (flow : Flow) (at : ℕ) → flow ≡ flow_of packet f
    → Some at ≡ begun_place flow f k → k' ≡ begun_for n flow f k → wants_at at flow f k' ≡ true → wants_sequenced packet f k ≡ true
there_wants n packet f k k' flow at is there begun wants =
    flow_wants packet f k flow is (by_place (place_of flow k.connections) there (subst (λ x. wants_at at flow f x ≡ true) begun wants))
  where
    by_system : (p : Bool) → Some at ≡ cond p None (Some (length k.connections)) → not p ≡ true
    by_system true there = (cc)
    by_system false there = refl

    by_place : (o : Option ℕ) → Some at ≡ place_if f o k → wants_at at flow f (begun_if n flow f o k) ≡ true → wants_place flow f o k ≡ true
    by_place None there wants = by_system (is_system f) there
    by_place (Some i) there wants =
        let same : at ≡ i = (cc) in renewed_wants n i flow f k (subst (λ j. wants_at j flow f (renewed n i flow f k) ≡ true) same wants)
