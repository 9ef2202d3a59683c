-- Each connection that is known has come from a new one, by packets that were handled.
use Rattle.std.proofs.Common.{◌≡◌, ◌∙◌, ap, sym, refl, subst, inl, inr, ℕ, ◌+◌, ◌<◌, ◌==◌, ◌⊎◌, Bool, true, false, cond, List, [], ◌∷◌, ◌++◌, length, Option, Some, None}
use Rattle.std.specs.Prelude.{slice_get}
use Rattle.std.proofs.lemmas.Bool.{eqb-false, eqb-true}
use Rattle.xns_idp.specs.Packet.{PacketModel}
use Rattle.xns_spp.specs.Header.{is_system}
use Rattle.xns_spp.specs.declared.header.Header.{Header}
use Rattle.xns_dump.specs.Flows.{flow_of}
use Rattle.xns_dump.specs.declared.flows.flow.Flow.{Flow}
use Rattle.xns_calls.specs.Acknowledged.{noted_beside}
use Rattle.xns_calls.specs.Anew.{begins_anew}
use Rattle.xns_calls.specs.Calls.{known_from, known_of, line_taken, nothing_known}
use Rattle.xns_calls.specs.Capture.{Known, after_at, after_in, after_place, after_sequenced, after_there, forgotten, is_behind_in, new_connection, place_of, renewed, renewed_there, with_new}
use Rattle.xns_calls.specs.Held.{AreHandled, Handled, IsHandled, behind_all, handled_in, handled_of, packets_at, handled_from, handled_packets, packets_place, packets_there, with_all, with_handled}
use Rattle.xns_calls.specs.Input.{Arrival, arrival}
use Rattle.xns_calls.specs.Naming.{Programs}
use Rattle.xns_calls.specs.Origins.{line_origin}
use Rattle.xns_calls.specs.declared.connection.Connection.{Connection}
use Rattle.xns_calls.specs.declared.origin.Origin.{Origin}
use Rattle.xns_calls.proofs.Inputs.{line_is}
use Rattle.xns_calls.proofs.Numbered.{more_cases}
use Rattle.xns_calls.proofs.Others.{at_same, get_last, get_same, renewed_same}
use Rattle.xns_calls.proofs.Taken.{fused}

pub with_both : (xs ys : List Handled) (c : Connection) → with_all (xs ++ ys) c ≡ with_all ys (with_all xs c)
with_both [] ys c = refl
with_both (packet ∷ xs) ys c = with_both xs ys (with_handled packet c)

pub both_handled : (xs ys : List Handled) (c : Connection) → AreHandled (xs ++ ys) c → AreHandled xs c × AreHandled ys (with_all xs c)
both_handled [] ys c are = (tt, are)
both_handled (packet ∷ xs) ys c are = let rest = both_handled xs ys (with_handled packet c) are.1 in ((are.0, rest.0), rest.1)

one_more : (xs : List Handled) (packet : Handled) (c : Connection) → AreHandled xs c → IsHandled packet (with_all xs c) → AreHandled (xs ++ packet ∷ []) c
one_more [] packet c are is = (is, tt)
one_more (x ∷ xs) packet c are is = (are.0, one_more xs packet (with_handled x c) are.1 is)

-- ---- one connection

record Comes (packets : List Handled) (c : Connection) : Type 0 where
  are : AreHandled packets (new_connection c.number c.flow)
  is : c ≡ behind_all c.number c.flow packets

new_comes : (number : ℕ) (flow : Flow) → Comes [] (new_connection number flow)
new_comes number flow = record { are = tt; is = refl }

-- a packet leaves the number and the flow
same_start : (packet : Handled) (c : Connection) → new_connection (with_handled packet c).number (with_handled packet c).flow ≡ new_connection c.number c.flow
same_start packet c = by_flow packet.is_behind
  where
    by_flow : (q : Bool) → new_connection (noted_beside q packet.header c).number (noted_beside q packet.header c).flow ≡ new_connection c.number c.flow
    by_flow true = refl
    by_flow false = refl

comes_on : (packets : List Handled) (packet : Handled) (c : Connection) → IsHandled packet c → Comes packets c → Comes (packets ++ packet ∷ []) (with_handled packet c)
comes_on packets packet c one w =
    let start = new_connection c.number c.flow in
    let same = same_start packet c in record {
      are = subst (AreHandled (packets ++ packet ∷ [])) (sym same) (one_more packets packet start w.are (subst (IsHandled packet) w.is one));
      is = ap (with_handled packet) w.is ∙ sym (with_both packets (packet ∷ []) start) ∙ ap (with_all (packets ++ packet ∷ [])) (sym same);
    }

-- ---- the connection at a place

abbrev ComesAt : ℕ → List Handled → Known → Type 0
ComesAt i packets k = (c : Connection) → slice_get k.connections i ≡ Some c → Comes packets c

pub handled_there : (n : Origin) (i : ℕ) (q : Bool) (packet : PacketModel) (f : Header) (content : List ℕ) (c : Connection) (k : Known) → slice_get k.connections i ≡ Some c
    → slice_get (after_in n i q packet f content c k).connections i ≡ Some (with_handled (handled_in n q packet f content c k) c)
handled_there n i true packet f content c k there =
    ap (λ (x : Known). slice_get x.connections i) (fused n i true packet f content c k there) ∙ get_same k.connections i c (with_handled (handled_in n true packet f content c k) c) there
handled_there n i false packet f content c k there =
    ap (λ (x : Known). slice_get x.connections i) (fused n i false packet f content c k there) ∙ get_same k.connections i c (with_handled (handled_in n false packet f content c k) c) there

-- a packet of its flow is handled there
at_comes : (n : Origin) (i : ℕ) (flow : Flow) (a : Arrival) (k : Known) (c : Connection) (packets : List Handled) → slice_get k.connections i ≡ Some c → Comes packets c
    → ComesAt i (packets ++ handled_of n flow a c k ∷ []) (after_at n i flow a.0 a.1 a.2 k)
unfolding after_at
at_comes n i flow a k c packets there w d at =
    let packet = handled_of n flow a c k in
    let new = with_handled packet c in
    let is : slice_get (after_there n i flow a.0 a.1 a.2 (slice_get k.connections i) k).connections i ≡ Some new =
    ap (λ o. slice_get (after_there n i flow a.0 a.1 a.2 o k).connections i) there ∙ handled_there n i (is_behind_in flow c) a.0 a.1 a.2 c k there in
    let some : Some new ≡ Some d = sym is ∙ at in
    let same : new ≡ d = (cc) in
    subst (Comes (packets ++ packet ∷ [])) same (comes_on packets packet c (record { known = k; is = refl }) w)

-- the packets of a connection go on, also where a packet begins the connection anew
there_comes : (n : Origin) (i : ℕ) (flow : Flow) (a : Arrival) (k : Known) (packets : List Handled) → ComesAt i packets k
    → ComesAt i (packets_there i n flow a (slice_get k.connections i) k packets) (after_at n i flow a.0 a.1 a.2 (renewed n i flow a.1 k))
unfolding renewed after_at
there_comes n i flow a k packets w = by_connection (slice_get k.connections i) refl
  where
    by_anew : (c : Connection) → slice_get k.connections i ≡ Some c → (p : Bool)
        → ComesAt i (cond p (handled_of n flow a (new_connection (k.count + 1) flow) (forgotten n i flow c k) ∷ []) (packets ++ handled_of n flow a c k ∷ []))
        (after_at n i flow a.0 a.1 a.2 (cond p (forgotten n i flow c k) k))
    by_anew c there true =
        let new = new_connection (k.count + 1) flow in at_comes n i flow a (forgotten n i flow c k) new [] (get_same k.connections i c new there) (new_comes (k.count + 1) flow)
    by_anew c there false = at_comes n i flow a k c packets there (w c there)

    by_connection : (o : Option Connection) → slice_get k.connections i ≡ o → ComesAt i (packets_there i n flow a o k packets) (after_at n i flow a.0 a.1 a.2 (renewed_there n i flow a.1 o k))
    by_connection None there = subst (λ o. ComesAt i packets (after_there n i flow a.0 a.1 a.2 o k)) (sym there) w
    by_connection (Some c) there = by_anew c there (begins_anew a.1 c)

-- ---- a packet

place_comes : (n : Origin) (i : ℕ) (flow : Flow) (a : Arrival) (o : Option ℕ) (k : Known) (packets : List Handled) → ComesAt i packets k
    → ComesAt i (packets_place i n flow a o k packets) (after_place n flow a.0 a.1 a.2 o k)
place_comes n i flow a (Some j) k packets w = by_place (i == j) refl
  where
    by_place : (p : Bool) → (i == j) ≡ p → ComesAt i (cond p (packets_there i n flow a (slice_get k.connections i) k packets) packets) (after_at n j flow a.0 a.1 a.2 (renewed n j flow a.1 k))
    by_place true e =
        subst (λ x. ComesAt i (packets_there i n flow a (slice_get k.connections i) k packets) (after_at n x flow a.0 a.1 a.2 (renewed n x flow a.1 k))) (eqb-true i j e)
        (there_comes n i flow a k packets w)
    by_place false e = λ c at.
        let other = eqb-false i j e in w c (sym (at_same n i j flow a.0 a.1 a.2 (renewed n j flow a.1 k) other ∙ renewed_same n i j flow a.1 k other) ∙ at)
place_comes n i flow a None k packets w = by_system (is_system a.1)
  where
    new : Connection
    new = new_connection (k.count + 1) flow

    last : ℕ
    last = length k.connections

    begun : Known
    begun = after_at n last flow a.0 a.1 a.2 (with_new flow k)

    first : List Handled
    first = handled_of n flow a new (with_new flow k) ∷ []

    by_last : (p : Bool) → (i == last) ≡ p → ComesAt i (cond p first packets) begun
    by_last true e = subst (λ x. ComesAt x first begun) (sym (eqb-true i last e)) (at_comes n last flow a (with_new flow k) new [] (get_last k.connections new) (new_comes (k.count + 1) flow))
    by_last false e = λ c at. by_case e c (more_cases k.connections i new c (sym (at_same n i last flow a.0 a.1 a.2 (with_new flow k) (eqb-false i last e)) ∙ at))
      where
        by_case : (i == last) ≡ false → (c : Connection) → ((i ≡ last) × (c ≡ new)) ⊎ ((i < last) × (slice_get k.connections i ≡ Some c)) → Comes packets c
        by_case e c (inl (is, same)) = absurd (eqb-false i last e is)
        by_case e c (inr (lt, there)) = w c there

    by_system : (p : Bool) → ComesAt i (cond p packets (cond (i == last) first packets)) (cond p k begun)
    by_system true = w
    by_system false = by_last (i == last) refl

sequenced_comes : (n : Origin) (i : ℕ) (a : Arrival) (k : Known) (packets : List Handled) → ComesAt i packets k
    → ComesAt i (packets_at i n (Some a) k packets) (after_sequenced n a.0 a.1 a.2 k)
unfolding after_sequenced
sequenced_comes n i a k packets w = place_comes n i (flow_of a.0 a.1) a (place_of (flow_of a.0 a.1) k.connections) k packets w

-- ---- all lines

module _ (programs : Programs) where
  line_comes : (i n : ℕ) (k : Known) (line : List ℕ) (packets : List Handled) → ComesAt i packets k
      → ComesAt i (packets_at i (line_origin programs n) (arrival line) (record k { text = [] }) packets) (line_taken programs n line k)
  line_comes i n k line packets w =
      line_is programs (λ k' o. ComesAt i (packets_at i (line_origin programs n) o (record k { text = [] }) packets) k') n (record k { text = [] }) (λ part none. w) w
      (λ a. sequenced_comes (line_origin programs n) i a (record k { text = [] }) packets w)
      line

  lines_come : (i n : ℕ) (k : Known) (packets : List Handled) (lines : List (List ℕ)) → ComesAt i packets k → ComesAt i (handled_from programs i n k packets lines) (known_from programs n k lines)
  lines_come i n k packets [] w = w
  lines_come i n k packets (line ∷ lines) w =
      lines_come i (n + 1) (line_taken programs n line k) (packets_at i (line_origin programs n) (arrival line) (record k { text = [] }) packets) lines (line_comes i n k line packets w)

  pub known_come : (lines : List (List ℕ)) (i : ℕ) (c : Connection) → slice_get (known_of programs lines).connections i ≡ Some c
      → AreHandled (handled_packets programs i lines) (new_connection c.number c.flow) × (c ≡ behind_all c.number c.flow (handled_packets programs i lines))
  known_come lines i c there = let w = lines_come i 1 nothing_known [] lines (λ d at. (cc)) c there in (w.are, w.is)
