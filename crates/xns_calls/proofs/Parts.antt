-- The parts of a text, and what they say of a flow.
use Rattle.std.proofs.Common.{◌≡◌, ◌∙◌, ap, sym, refl, subst, ℕ, ◌==◌, Bool, true, false, cond, List, [], ◌∷◌, ◌++◌, length, drop, append_assoc, append-nil, Option, Some, None}
use Rattle.std.specs.Prelude.{not}
use Rattle.std.specs.List.{flat_map}
use Rattle.std.proofs.lemmas.Grind.{flat_map-append}
use Rattle.std.proofs.Math.Seq.{drop-append_seam, drop-length}
use Rattle.std.proofs.lemmas.Bool.{eq-eqb}
use Rattle.xns_idp.specs.Packet.{PacketModel}
use Rattle.xns_spp.specs.declared.header.Header.{Header}
use Rattle.xns_spp.specs.declared.item.Item.{Item}
use Rattle.xns_calls.specs.declared.carried.Carried.{Carried}
use Rattle.xns_calls.specs.Capture.{Known, heading_at, scene_in}
use Rattle.xns_calls.specs.Events.{AreWithinReach, Event, IsAmong, acknowledged, acknowledged_event, after_event, after_events, captured, captured_event, captured_in, meanwhile, read}
use Rattle.xns_calls.specs.Exchange.{Scene, after_packet, of_other, other_reached}
use Rattle.xns_calls.specs.Input.{FlowName, Part, FlowSaid, is_same, parts_text, said_texts, text_in, texts_in, told}
use Rattle.xns_calls.specs.Reading.{Told}
use Rattle.xns_calls.specs.Whole.{AreOf, IsWhole, flow_text, new_text}
use Rattle.xns_calls.specs.declared.connection.Connection.{Connection}
use Rattle.xns_calls.specs.declared.due.Due.{Due}
use Rattle.xns_calls.specs.declared.heading.Heading.{Heading}
use Rattle.xns_calls.proofs.Adding.{Adds, both_add, packet_adds, reached_adds}
use Rattle.xns_calls.proofs.Whole.{after_append}
use Rattle.xns_calls.specs.declared.origin.Origin.{Origin}

-- ---- texts

pub added : (h : Heading) (a b : List ℕ) → (x : Adds h a b) → drop (length a) b ≡ said_texts h x.said
added h a b x = ap (drop (length a)) x.is ∙ drop-append_seam a (said_texts h x.said)

-- what an event prints is what is new in the text
pub captured_new : (h : Heading) (o : Option ℕ) (item : Carried) (t : Told)
    → flow_text (captured_event h o item) t ≡ drop (length t.text) (after_events (captured_event h o item) t).text
captured_new h None item t = sym (drop-length t.text)
captured_new h (Some n) item t = append-nil (new_text (captured h n item) t)

pub acknowledged_new : (h : Heading) (o : Option ℕ) (t : Told)
    → flow_text (acknowledged_event h o) t ≡ drop (length t.text) (after_events (acknowledged_event h o) t).text
acknowledged_new h None t = sym (drop-length t.text)
acknowledged_new h (Some n) t = append-nil (new_text (acknowledged h n) t)

pub item_new : (p : Bool) (h : Heading) (o : Option ℕ) (item : Carried) (t : Told)
    → flow_text (cond p [] (captured_event h o item)) t ≡ drop (length t.text) (after_events (cond p [] (captured_event h o item)) t).text
item_new true h o item t = sym (drop-length t.text)
item_new false h o item t = captured_new h o item t

pub flow_append : (xs ys : List Event) (t : Told) → flow_text (xs ++ ys) t ≡ flow_text xs t ++ flow_text ys (after_events xs t)
flow_append [] ys t = refl
flow_append (e ∷ xs) ys t =
    ap (λ z. new_text e t ++ z) (flow_append xs ys (after_event e t))
    ∙ sym (append_assoc (new_text e t) (flow_text xs (after_event e t)) (flow_text ys (after_events xs (after_event e t))))

-- the parts of a flow that begins with a line, behind more events of it
pub joined_own : (p : FlowName) (xs ys : List Part) (line : List ℕ) (events more : List Event) (t : Told) → texts_in p xs ≡ line ++ flow_text events t
    → texts_in p ys ≡ flow_text more (after_events events t) → texts_in p (xs ++ ys) ≡ line ++ flow_text (events ++ more) t
joined_own p xs ys line events more t first then =
    flat_map-append (text_in p) xs ys ∙ ap (λ z. z ++ texts_in p ys) first ∙ ap (λ z. (line ++ flow_text events t) ++ z) then
    ∙ append_assoc line (flow_text events t) (flow_text more (after_events events t))
    ∙ ap (λ z. line ++ z) (sym (flow_append events more t))

-- what an item prints, and what takes effect behind it, is what is new in the text
pub both_new : (p : Bool) (h : Heading) (o : Option ℕ) (item : Carried) (a : Option ℕ) (t : Told)
    → flow_text (cond p [] (captured_event h o item) ++ acknowledged_event h a) t ≡ drop (length t.text) (after_events (cond p [] (captured_event h o item) ++ acknowledged_event h a) t).text
both_new p h o item a t =
    let items = cond p [] (captured_event h o item) in
    let acks = acknowledged_event h a in
    let u = after_events items t in
    let v = after_events acks u in
    let x = both_add p h o item a t in
    flow_append items acks t
    ∙ ap (λ z. z ++ flow_text acks u) (item_new p h o item t ∙ added h t.text u.text x.0)
    ∙ ap (λ z. said_texts h x.0.said ++ z) (acknowledged_new h a u ∙ added h u.text v.text x.1)
    ∙ sym (drop-append_seam t.text (said_texts h x.0.said ++ said_texts h x.1.said))
    ∙ ap (drop (length t.text)) (sym (x.1.is ∙ ap (λ z. z ++ said_texts h x.1.said) x.0.is ∙ append_assoc t.text (said_texts h x.0.said) (said_texts h x.1.said)))
    ∙ ap (λ (w : Told). drop (length t.text) w.text) (sym (after_append items acks t))

-- ---- what others do meanwhile, and when items are read, is nothing to whether a flow is whole

abbrev pub plain_one : Event → List Event
plain_one (captured h n item) = captured h n item ∷ []
plain_one (acknowledged h n) = acknowledged h n ∷ []
plain_one (read h) = []
plain_one (meanwhile calls text is_refused) = []

abbrev pub plain : List Event → List Event
plain events = flat_map plain_one events

pub plain_of : (items : List Item) (events : List Event) → AreOf items (plain events) → AreOf items events
plain_of items [] h = tt
plain_of items (captured heading n item ∷ more) h = (h.0, plain_of items more h.1)
plain_of items (acknowledged heading n ∷ more) h = (h.0, plain_of items more h.1)
plain_of items (read heading ∷ more) h = (tt, plain_of items more h)
plain_of items (meanwhile calls text is_refused ∷ more) h = (tt, plain_of items more h)

pub plain_captured : (events : List Event) (before : List ℕ) → captured_in (plain events) before ≡ captured_in events before
plain_captured [] before = refl
plain_captured (captured h n item ∷ more) before = plain_captured more (n ∷ before)
plain_captured (acknowledged h n ∷ more) before = plain_captured more before
plain_captured (read h ∷ more) before = plain_captured more before
plain_captured (meanwhile calls text is_refused ∷ more) before = plain_captured more before

pub plain_reach : (first : ℕ) (before : List ℕ) (events : List Event) → AreWithinReach first before (plain events) → AreWithinReach first before events
plain_reach first before [] h = tt
plain_reach first before (captured heading n item ∷ more) h = (h.0, plain_reach first (n ∷ before) more h.1)
plain_reach first before (acknowledged heading n ∷ more) h = (h.0, plain_reach first before more h.1)
plain_reach first before (read heading ∷ more) h = (λ n le late. absurd late, plain_reach first before more h)
plain_reach first before (meanwhile calls text is_refused ∷ more) h = (λ n le late. absurd late, plain_reach first before more h)

pub plain_whole : (items : List Item) (events : List Event) → IsWhole items (plain events) → IsWhole items events
plain_whole items events w = record {
  of = plain_of items events w.of;
  all = λ n lt. subst (IsAmong n) (plain_captured events []) (w.all n lt);
  reach = plain_reach 0 [] events w.reach;
}

pub captured_plain : (h : Heading) (o : Option ℕ) (item : Carried) → plain (captured_event h o item) ≡ captured_event h o item
captured_plain h None item = refl
captured_plain h (Some n) item = refl

pub item_plain : (p : Bool) (h : Heading) (o : Option ℕ) (item : Carried) → plain (cond p [] (captured_event h o item)) ≡ cond p [] (captured_event h o item)
item_plain true h o item = refl
item_plain false h o item = captured_plain h o item

pub ack_plain : (h : Heading) (o : Option ℕ) → plain (acknowledged_event h o) ≡ acknowledged_event h o
ack_plain h None = refl
ack_plain h (Some n) = refl

pub both_plain : (p : Bool) (h : Heading) (o : Option ℕ) (item : Carried) (a : Option ℕ)
    → plain (cond p [] (captured_event h o item) ++ acknowledged_event h a) ≡ cond p [] (captured_event h o item) ++ acknowledged_event h a
both_plain p h o item a =
    let items = cond p [] (captured_event h o item) in
    flat_map-append plain_one items (acknowledged_event h a)
    ∙ ap (λ z. z ++ plain (acknowledged_event h a)) (item_plain p h o item) ∙ ap (λ z. items ++ z) (ack_plain h a)

pub acknowledged_plain : (h : Heading) (o : Option ℕ) (others : Event) → plain_one others ≡ [] → plain (acknowledged_event h o ++ others ∷ []) ≡ acknowledged_event h o
acknowledged_plain h None others none = ap (λ z. z ++ []) none
acknowledged_plain h (Some n) others none = ap (λ z. acknowledged h n ∷ (z ++ [])) none

-- ---- lists

-- ---- parts

abbrev pub flow_at : ℕ → Bool → FlowName
flow_at m b = record { connection = m; is_behind = b }

pub own_text : (n : Origin) (i : ℕ) (b : Bool) (said : List FlowSaid) → text_in (flow_at i b) (told n (flow_at i b) said) ≡ said_texts (heading_at n i b) said
own_text n i true said = ap (λ p. cond p (said_texts (heading_at n i true) said) []) (eq-eqb i i refl)
own_text n i false said = ap (λ p. cond p (said_texts (heading_at n i false) said) []) (eq-eqb i i refl)

pub other_text : (n : Origin) (i : ℕ) (b : Bool) (said : List FlowSaid) → text_in (flow_at i b) (told n (flow_at i (not b)) said) ≡ []
other_text n i true said = ap (λ (p : Bool). cond p [] []) (eq-eqb i i refl)
other_text n i false said = ap (λ (p : Bool). cond p [] []) (eq-eqb i i refl)

pub behind_text : (n : Origin) (i : ℕ) (q : Bool) (said : List FlowSaid) → text_in (flow_at i (not q)) (told n (flow_at i q) said) ≡ []
behind_text n i true said = ap (λ (p : Bool). cond p [] []) (eq-eqb i i refl)
behind_text n i false said = ap (λ (p : Bool). cond p [] []) (eq-eqb i i refl)

pub far_text : (n : Origin) (i j : ℕ) (b q : Bool) (said : List FlowSaid) → (i == j) ≡ false → text_in (flow_at i b) (told n (flow_at j q) said) ≡ []
far_text n i j b q said e = ap (λ (p : Bool). cond p (cond (is_same b q) (said_texts (heading_at n j q) said) []) []) e

pub two_of : (a b c d : List ℕ) → a ≡ c → b ≡ d → a ++ (b ++ []) ≡ c ++ d
two_of a b c d e f = ap (λ z. z ++ (b ++ [])) e ∙ ap (λ z. c ++ z) (append-nil b ∙ f)

pub scene_text : (b : Bool) (c : Connection) (k : Known) → (scene_in b c k).text ≡ k.text
scene_text true c k = refl
scene_text false c k = refl

pub reached_said : Origin → ℕ → Bool → Due → Scene → List FlowSaid
reached_said n i q due s = (reached_adds (heading_at n i q) due.other s).said

pub packet_said : Origin → ℕ → Bool → Due → PacketModel → Header → List ℕ → Scene → List FlowSaid
packet_said n i q due packet f content s = (packet_adds (heading_at n i q) due packet f content s).said

-- what a packet of a flow says of the flow behind it, and of the flow
abbrev pub packet_parts : Origin → ℕ → Bool → Due → PacketModel → Header → List ℕ → Scene → List Part
packet_parts n i q due packet f content s = told n (flow_at i (not q)) (reached_said n i q due s) ∷ told n (flow_at i q) (packet_said n i q due packet f content s) ∷ []

pub two_texts : (a b c x y : List ℕ) → b ≡ a ++ x → c ≡ b ++ y → c ≡ a ++ (x ++ (y ++ []))
two_texts a b c x y e f = f ∙ ap (λ z. z ++ y) e ∙ append_assoc a x y ∙ ap (λ z. a ++ (x ++ z)) (sym (append-nil y))

pub packet_text : (n : Origin) (i : ℕ) (q : Bool) (due : Due) (packet : PacketModel) (f : Header) (content : List ℕ) (s : Scene)
    → (after_packet (heading_at n i q) due packet f content s).text ≡ s.text ++ parts_text (packet_parts n i q due packet f content s)
unfolding reached_said packet_said
packet_text n i q due packet f content s =
    let h = heading_at n i q in
    let x = reached_adds h due.other s in
    let y = packet_adds h due packet f content s in
    two_texts s.text (other_reached h due.other s).text (after_packet h due packet f content s).text (said_texts (of_other h) x.said) (said_texts h y.said) x.is y.is

pub reached_is : (n : Origin) (i : ℕ) (q : Bool) (due : Due) (s : Scene)
    → (other_reached (heading_at n i q) due.other s).text ≡ s.text ++ said_texts (of_other (heading_at n i q)) (reached_said n i q due s)
unfolding reached_said
reached_is n i q due s = (reached_adds (heading_at n i q) due.other s).is

pub reached_text : (n : Origin) (i : ℕ) (q : Bool) (due : Due) (s : Scene)
    → drop (length s.text) (other_reached (heading_at n i q) due.other s).text ≡ said_texts (of_other (heading_at n i q)) (reached_said n i q due s)
unfolding reached_said
reached_text n i q due s =
    let h = heading_at n i q in added (of_other h) s.text (other_reached h due.other s).text (reached_adds h due.other s)

pub said_text_of : (n : Origin) (i : ℕ) (q : Bool) (due : Due) (packet : PacketModel) (f : Header) (content : List ℕ) (s : Scene)
    → drop (length (other_reached (heading_at n i q) due.other s).text) (after_packet (heading_at n i q) due packet f content s).text
    ≡ said_texts (heading_at n i q) (packet_said n i q due packet f content s)
unfolding packet_said
said_text_of n i q due packet f content s =
    let h = heading_at n i q in added h (other_reached h due.other s).text (after_packet h due packet f content s).text (packet_adds h due packet f content s)
