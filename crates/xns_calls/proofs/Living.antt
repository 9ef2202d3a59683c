-- A connection that no end has closed is kept, whatever comes.
use Rattle.std.proofs.Common.{◌≡◌, ◌∙◌, ap, sym, refl, subst, ℕ, ◌+◌, Bool, true, false, cond, ◌&&◌, ◌||◌, List, [], ◌∷◌, Option, Some, None}
use Rattle.std.specs.Prelude.{◌==◌, option_map, slice_get}
use Rattle.std.proofs.lemmas.Bool.{eqb-false, eqb-true}
use Rattle.std.proofs.Math.Bool.{and-false}
use Rattle.std.proofs.lemmas.Option.{slice_get_within}
use Rattle.xns_idp.specs.Packet.{PacketModel}
use Rattle.xns_spp.specs.Datastreams.{end_reply_stream}
use Rattle.xns_spp.specs.declared.header.Header.{Header}
use Rattle.xns_dump.specs.Flows.{flow_of}
use Rattle.xns_dump.specs.declared.flows.flow.Flow.{Flow}
use Rattle.xns_calls.specs.Naming.{Programs}
use Rattle.xns_calls.specs.Acknowledged.{due_in, given_in, noted_beside}
use Rattle.xns_calls.specs.Anew.{begins_anew, begins_items}
use Rattle.xns_calls.specs.Calls.{known_from, line_taken}
use Rattle.xns_calls.specs.Capture.{Known, after_at, after_in, after_sequenced, after_there, forgotten, heading_at, is_behind_in, place_of, renewed, renewed_there, repeats_told, scene_in, settled_at, settled_there, taken_in, with_scene}
use Rattle.xns_calls.specs.Exchange.{Scene, after_packet}
use Rattle.xns_calls.specs.Input.{Arrival, arrival}
use Rattle.xns_calls.specs.Living.{AnswersNothing, IsNotAnswered, is_answered}
use Rattle.xns_calls.specs.Origins.{line_origin}
use Rattle.xns_calls.specs.Read.{settled}
use Rattle.xns_calls.specs.Over.{brings_new_item, closed_with, closes, closing_in, closing_with, has_ended, has_replied, with_end_said}
use Rattle.xns_calls.specs.declared.closing.Closing.{Closing}
use Rattle.xns_calls.specs.declared.closing.Closing.TheVariants.{Open, End, EndReply}
use Rattle.xns_calls.specs.declared.connection.Connection.{Connection}
use Rattle.xns_calls.specs.declared.origin.Origin.{Origin}
use Rattle.xns_calls.proofs.Inputs.{line_is}
use Rattle.xns_calls.proofs.Numbered.{same_number, scene_number}
use Rattle.xns_calls.proofs.Others.{get_same, others_same}
use Rattle.xns_calls.proofs.Standing.{after_there as after_there_at}
use Rattle.xns_calls.proofs.Taken.{read_there}

Stays : ℕ → ℕ → Known → Type 0
Stays i number k = (c : Connection) × (slice_get k.connections i ≡ Some c) × (c.number ≡ number) × (is_answered c ≡ false)

-- ---- an item that is no EndReply answers nothing

end_replies : (closing : Closing) → has_replied (with_end_said closing) ≡ has_replied closing
end_replies Open = refl
end_replies End = refl
end_replies EndReply = refl

other_item : (stream : ℕ) → (stream ≡ end_reply_stream → ⊥) → (stream == end_reply_stream) ≡ false
other_item stream other = by_test (stream == end_reply_stream) refl
  where
    by_test : (p : Bool) → (stream == end_reply_stream) ≡ p → p ≡ false
    by_test true e = absurd (other (eqb-true stream end_reply_stream e))
    by_test false e = refl

closed_replies : (stream : ℕ) (closing : Closing) → (stream ≡ end_reply_stream → ⊥) → has_replied (closed_with stream closing) ≡ has_replied closing
closed_replies stream closing other = ap (λ p. has_replied (cond p EndReply (with_end_said closing))) (other_item stream other) ∙ end_replies closing

closing_replies : (q : Bool) (f : Header) (c : Connection) → (f.stream ≡ end_reply_stream → ⊥) → has_replied (closing_with q f c) ≡ has_replied (closing_in q c)
closing_replies q f c other = by_item (closes f.stream && brings_new_item q f c)
  where
    by_item : (p : Bool) → has_replied (cond p (closed_with f.stream (closing_in q c)) (closing_in q c)) ≡ has_replied (closing_in q c)
    by_item true = closed_replies f.stream (closing_in q c) other
    by_item false = refl

answered_same : (q : Bool) (f : Header) (c : Connection) (s : Scene) → (f.stream ≡ end_reply_stream → ⊥) → is_answered (with_scene q s (noted_beside q f c)) ≡ is_answered c
answered_same true f c s other = ap (λ p. has_replied c.first_closing || p) (closing_replies true f c other)
answered_same false f c s other = ap (λ p. p || has_replied c.second_closing) (closing_replies false f c other)

still_answered : (q : Bool) (s : Scene) (c : Connection) → is_answered (with_scene q s c) ≡ is_answered c
still_answered true s c = refl
still_answered false s c = refl

-- ---- a connection that is not answered is not over

never_anew : (f : Header) (c : Connection) → is_answered c ≡ false → begins_anew f c ≡ false
never_anew f c e =
    let first = has_ended c.first c.first_closing in
    let second = has_ended c.second c.second_closing in
    ap (λ p. begins_items f && ((first && second) && p)) e ∙ ap (λ p. begins_items f && p) (and-false (first && second)) ∙ and-false (begins_items f)

-- ---- a packet

own_stays : (n : Origin) (i number : ℕ) (flow : Flow) (packet : PacketModel) (f : Header) (content : List ℕ) (k : Known) → (f.stream ≡ end_reply_stream → ⊥) → Stays i number k
    → Stays i number (after_at n i flow packet f content (renewed n i flow f k))
unfolding Stays renewed after_at
own_stays n i number flow packet f content k other (c, there, is, quiet) =
    let q = is_behind_in flow c in
    let told = repeats_told n q f c k in
    let s = after_packet (heading_at n c.number q) (due_in q f c) packet f content (scene_in q c told) in
    let c' = with_scene q s (noted_beside q f c) in
    let k' = taken_in n i q packet f content c told in
    let there' : slice_get k'.connections i ≡ Some c' = get_same k.connections i c c' there in
    let z = settled (heading_at n c'.number q) (given_in q c') (scene_in q c' k') in
    let c'' = with_scene q z c' in
    let reads : settled_at n i q k' ≡ settled_there n i q (Some c') k' = read_there n i q k' c' there' in
    let same : renewed_there n i flow f (slice_get k.connections i) k ≡ k =
    ap (λ o. renewed_there n i flow f o k) there ∙ ap (λ p. cond p (forgotten n i flow c k) k) (never_anew f c quiet) in
    let takes : after_there n i flow packet f content (slice_get k.connections i) k ≡ after_in n i q packet f content c k = ap (λ o. after_there n i flow packet f content o k) there in
    subst (λ (x : Known). (d : Connection) × (slice_get (after_there n i flow packet f content (slice_get x.connections i) x).connections i ≡ Some d) × (d.number ≡ number) × (is_answered d ≡ false)) (sym same)
    (c'', ap (λ (x : Known). slice_get x.connections i) (takes ∙ reads) ∙ get_same k'.connections i c' c'' there', same_number q z c' ∙ scene_number q s f c ∙ is, still_answered q z c' ∙ answered_same q f c s other ∙ quiet)

other_stays : (n : Origin) (i number : ℕ) (packet : PacketModel) (f : Header) (content : List ℕ) (k : Known) → (place_of (flow_of packet f) k.connections ≡ Some i → ⊥) → Stays i number k
    → Stays i number (after_sequenced n packet f content k)
unfolding Stays
other_stays n i number packet f content k other (c, there, is, quiet) =
    (c, others_same n packet f content k i (slice_get_within k.connections i c there) other ∙ there, is, quiet)

packet_stays : (n : Origin) (i number : ℕ) (packet : PacketModel) (f : Header) (content : List ℕ) (k : Known) → (place_of (flow_of packet f) k.connections ≡ Some i → f.stream ≡ end_reply_stream → ⊥) → Stays i number k
    → Stays i number (after_sequenced n packet f content k)
packet_stays n i number packet f content k quiet stays = by_place (place_of (flow_of packet f) k.connections) refl
  where
    some_tells : (a b : ℕ) → (a == b) ≡ false → Some b ≡ Some a → ⊥
    some_tells a b e is = eqb-false a b e (let same : a ≡ b = (cc) in same)

    by_place : (o : Option ℕ) → place_of (flow_of packet f) k.connections ≡ o → Stays i number (after_sequenced n packet f content k)
    by_place None at = other_stays n i number packet f content k (λ found. let wrong : None ≡ Some i = sym at ∙ found in (cc)) stays
    by_place (Some j) at = by_number (i == j) refl
      where
        by_number : (p : Bool) → (i == j) ≡ p → Stays i number (after_sequenced n packet f content k)
        by_number false e = other_stays n i number packet f content k (λ found. some_tells i j e (sym at ∙ found)) stays
        by_number true e =
            let here : place_of (flow_of packet f) k.connections ≡ Some i = at ∙ ap (λ x. Some x) (sym (eqb-true i j e)) in
            subst (Stays i number) (sym (after_there_at n packet f content k (flow_of packet f) i refl here)) (own_stays n i number (flow_of packet f) packet f content k (quiet here) stays)

-- ---- all lines

module _ (programs : Programs) where
  line_stays : (n i number : ℕ) (k : Known) (line : List ℕ) → AnswersNothing i (arrival line) k → Stays i number k → Stays i number (line_taken programs n line k)
  unfolding Stays
  line_stays n i number k line quiet stays =
      line_is programs (λ k' o. AnswersNothing i o (record k { text = [] }) → Stays i number k') n (record k { text = [] }) (λ part none q. stays) (λ q. stays)
      (λ a q. packet_stays (line_origin programs n) i number a.0 a.1 a.2 (record k { text = [] }) q stays)
      line (front (arrival line) quiet)
    where
      front : (o : Option Arrival) → AnswersNothing i o k → AnswersNothing i o (record k { text = [] })
      front None q = tt
      front (Some a) q = q

  lines_stay : (n i number : ℕ) (k : Known) (lines : List (List ℕ)) → IsNotAnswered programs i n k lines → Stays i number k → Stays i number (known_from programs n k lines)
  lines_stay n i number k [] quiet stays = stays
  lines_stay n i number k (line ∷ lines) quiet stays = lines_stay (n + 1) i number (line_taken programs n line k) lines quiet.1 (line_stays n i number k line quiet.0 stays)

  number_of : (i number : ℕ) (k : Known) → Stays i number k → option_map (λ c. c.number) (slice_get k.connections i) ≡ Some number
  unfolding Stays
  number_of i number k (c, there, is, quiet) = ap (λ o. option_map (λ (x : Connection). x.number) o) there ∙ ap (λ x. Some x) is

  pub living_kept : (i n : ℕ) (k : Known) (c : Connection) (lines : List (List ℕ)) → slice_get k.connections i ≡ Some c → is_answered c ≡ false → IsNotAnswered programs i n k lines
      → option_map (λ c. c.number) (slice_get (known_from programs n k lines).connections i) ≡ Some c.number
  unfolding Stays
  living_kept i n k c lines there quiet none = number_of i c.number (known_from programs n k lines) (lines_stay n i c.number k lines none (c, there, refl, quiet))
