-- Each item that a flow keeps was brought by a packet of the flow.
use Rattle.std.proofs.Common.{◌≡◌, ap, sym, refl, subst, inl, inr, ℕ, ◌-◌, ◌⊎◌, Bool, true, false, cond, List, [], ◌∷◌, ◌++◌, Option, Some, None}
use Rattle.std.specs.Prelude.{nat_lt}
use Rattle.std.proofs.lemmas.Bool.{cond_both}
use Rattle.xns_idp.specs.Packet.{PacketModel}
use Rattle.xns_spp.specs.Header.{is_system}
use Rattle.xns_spp.specs.declared.header.Header.{Header}
use Rattle.xns_calls.specs.Acknowledged.{acknowledged_in, due_in}
use Rattle.xns_calls.specs.Capture.{heading_at, repeats_told, scene_in}
use Rattle.xns_calls.specs.Events.{Event, acknowledged, acknowledged_event, after_event, after_events, brought_if, captured, captured_event, meanwhile, own_events, read}
use Rattle.xns_calls.specs.Exchange.{Scene, carried, first_track, is_repeat, of_other, other_reached, seen_from_other, told_of, up_to}
use Rattle.xns_calls.specs.Held.{AreHandled, CameWith, Handled, IsHandled, handled_in, carried_item, with_all, with_handled}
use Rattle.xns_calls.specs.Numbers.{most_early, near}
use Rattle.xns_calls.specs.Over.{side_in}
use Rattle.xns_calls.specs.Queue.{kept, last_kept_number}
use Rattle.xns_calls.specs.Read.{handled}
use Rattle.xns_calls.specs.Reading.{Told, brought, item_read}
use Rattle.xns_calls.specs.declared.carried.Carried.{Carried}
use Rattle.xns_calls.specs.declared.connection.Connection.{Connection}
use Rattle.xns_calls.specs.declared.due.Due.{Due}
use Rattle.xns_calls.specs.declared.early.Early.{Early}
use Rattle.xns_calls.specs.declared.heading.Heading.{Heading}
use Rattle.xns_calls.specs.declared.origin.Origin.{Origin}
use Rattle.xns_calls.specs.declared.track.Track.{Track}
use Rattle.xns_calls.proofs.GoingOn.{GoesOn, begin_scene, begin_told, behind_runs, behind_still, behind_told, goes_order, new_runs, one_goes, own_runs, own_told, system_still, told_ordered}
use Rattle.xns_calls.proofs.Known.{early, event_ordered, events_ordered, kept_cases, with_item}
use Rattle.xns_calls.proofs.Ordered.{AreFrom, Bears, IsOrdered, brought_bears, first_bears}
use Rattle.xns_calls.proofs.Parts.{plain}
use Rattle.xns_calls.proofs.Steps.{early_of, passed_early, read_early, with_early}
use Rattle.xns_calls.proofs.Unbegun.{first_early}

-- ---- the items that a flow keeps

abbrev AllEarly : (Carried → Type 0) → List Early → Type 0
AllEarly Q [] = Unit {0}
AllEarly Q (e ∷ rest) = Q e.item × AllEarly Q rest

abbrev Has : (Carried → Type 0) → Told → Type 0
Has Q t = AllEarly Q (early_of t)

early_rest : (Q : Carried → Type 0) (e : Early) (rest : List Early) → AllEarly Q (e ∷ rest) → AllEarly Q rest
early_rest Q e rest has = has.1

has_read : (Q : Carried → Type 0) (h : Heading) (e : Early) (rest : List Early) (t : Told) → early_of t ≡ e ∷ rest → Has Q t → Has Q (item_read h e (with_early rest t))
has_read Q h e rest t same has = subst (AllEarly Q) (sym (read_early h e (with_early rest t))) (early_rest Q e rest (subst (AllEarly Q) same has))

has_bears : (Q : Carried → Type 0) (h : Heading) (n : ℕ) → Bears (Has Q) h n
has_bears Q h n = record { reads = λ e rest t same le due has. has_read Q h e rest t same has; passes = λ t has. subst (AllEarly Q) (sym (passed_early h n t)) has }

has_brought : (Q : Carried → Type 0) (h : Heading) (n : ℕ) (t : Told) → IsOrdered t → Has Q t → Has Q (brought h n t)
has_brought Q h n t ordered has = brought_bears (Has Q) h n t (has_bears Q h n) ordered has

has_if : (Q : Carried → Type 0) (h : Heading) (o : Option ℕ) (t : Told) → IsOrdered t → Has Q t → Has Q (brought_if h o t)
has_if Q h None t ordered has = has
has_if Q h (Some n) t ordered has = has_brought Q h n t ordered has

has_kept : (Q : Carried → Type 0) (k : ℕ) (item : Carried) (es : List Early) → Q item → AllEarly Q es → AllEarly Q (kept k item es)
has_kept Q k item [] new has = (new, tt)
has_kept Q k item (e ∷ rest) new has =
    subst (AllEarly Q) (sym (kept_cases (nat_lt e.number k) k item e rest refl))
    (cond_both (nat_lt e.number k) (e ∷ kept k item rest) (early k item ∷ e ∷ rest) (AllEarly Q) (λ less. (has.0, has_kept Q k item rest new has.1)) (λ more. (new, has)))

-- ---- events

-- what an event brings is one of these items
abbrev Brings : (Carried → Type 0) → Event → Type 0
Brings Q (captured h k item) = Q item
Brings Q (acknowledged h n) = Unit {0}
Brings Q (read h) = Unit {0}
Brings Q (meanwhile calls text is_refused) = Unit {0}

abbrev AllBring : (Carried → Type 0) → List Event → Type 0
AllBring Q [] = Unit {0}
AllBring Q (e ∷ more) = Brings Q e × AllBring Q more

event_has : (Q : Carried → Type 0) (e : Event) (t : Told) → IsOrdered t → Brings Q e → Has Q t → Has Q (after_event e t)
event_has Q (captured h k item) t ordered new has =
    let u = brought h (k - most_early) t in
    cond_both (is_repeat k t.track) t (with_item k item u) (Has Q) (λ old. has) (λ other. has_kept Q k item (early_of u) new (has_brought Q h (k - most_early) t ordered has))
event_has Q (acknowledged h n) t ordered new has = has_if Q h (up_to (last_kept_number t.track.early) (Some n)) t ordered has
event_has Q (read h) t ordered new has = first_bears (Has Q) h (λ e rest u same le had. has_read Q h e rest u same had) t ordered has
event_has Q (meanwhile calls text is_refused) t ordered new has = has

events_have : (Q : Carried → Type 0) (events : List Event) (t : Told) → IsOrdered t → AllBring Q events → Has Q t → Has Q (after_events events t)
events_have Q [] t ordered new has = has
events_have Q (e ∷ more) t ordered new has = events_have Q more (after_event e t) (event_ordered e t ordered) new.1 (event_has Q e t ordered new.0 has)

-- what is read brings nothing
plain_bring : (Q : Carried → Type 0) (events : List Event) → plain events ≡ [] → AllBring Q events
plain_bring Q [] are = tt
plain_bring Q (captured h n item ∷ more) are = absurd (let wrong : captured h n item ∷ plain more ≡ [] = are in (cc))
plain_bring Q (acknowledged h n ∷ more) are = absurd (let wrong : acknowledged h n ∷ plain more ≡ [] = are in (cc))
plain_bring Q (read h ∷ more) are = (tt, plain_bring Q more are)
plain_bring Q (meanwhile calls text is_refused ∷ more) are = (tt, plain_bring Q more are)

acknowledged_bring : (Q : Carried → Type 0) (h : Heading) (o : Option ℕ) → AllBring Q (acknowledged_event h o)
acknowledged_bring Q h None = tt
acknowledged_bring Q h (Some n) = (tt, tt)

captured_bring : (Q : Carried → Type 0) (h : Heading) (o : Option ℕ) (item : Carried) → Q item → AllBring Q (captured_event h o item)
captured_bring Q h None item new = tt
captured_bring Q h (Some n) item new = (new, tt)

item_bring : (Q : Carried → Type 0) (p : Bool) (h : Heading) (o a : Option ℕ) (item : Carried) → Q item → AllBring Q (cond p [] (captured_event h o item) ++ acknowledged_event h a)
item_bring Q true h o a item new = acknowledged_bring Q h a
item_bring Q false h None a item new = acknowledged_bring Q h a
item_bring Q false h (Some n) a item new = (new, acknowledged_bring Q h a)

-- ---- a packet

abbrev AllOf : (Carried → Type 0) → Option Track → Type 0
AllOf Q None = Unit {0}
AllOf Q (Some track) = AllEarly Q track.early

told_has : (Q : Carried → Type 0) (h : Heading) (due : Due) (packet : PacketModel) (f : Header) (content : List ℕ) (s : Scene) → Q (carried h due.acknowledged f content) → Has Q (begin_told h due packet f content s)
unfolding begin_told
told_has Q h due packet f content s new =
    let first = first_track f.sequence in
    let t = told_of first (begin_scene h due packet f s) in
    let order : IsOrdered t = subst (AreFrom first.next) (sym (first_early f.sequence)) tt in
    events_have Q (captured_event h (near first.next f.sequence) (carried h due.acknowledged f content)) t order
    (captured_bring Q h (near first.next f.sequence) (carried h due.acknowledged f content) new) (subst (AllEarly Q) (sym (first_early f.sequence)) tt)

own_have : (Q : Carried → Type 0) (n : Origin) (m : ℕ) (b : Bool) (due : Due) (packet : PacketModel) (f : Header) (content : List ℕ) (s : Scene) → Q (carried (heading_at n m b) due.acknowledged f content)
    → GoesOn None s.own.track → AllOf Q s.own.track → AllOf Q (handled (heading_at n m b) due packet f content s).own.track
own_have Q n m b due packet f content s new = by_track s.own.track refl
  where
    by_system : (p : Bool) → s.own.track ≡ None → is_system f ≡ p → AllOf Q (handled (heading_at n m b) due packet f content s).own.track
    by_system true none e = subst (AllOf Q) (sym (system_still n m b due packet f content s none e)) tt
    by_system false none e =
        let h = heading_at n m b in
        let acks = acknowledged_event h due.own in
        let u = begin_told h due packet f content s in
        let order = told_ordered h due packet f content s in
        let ran = new_runs n m b due packet f content s none e in
        subst (AllOf Q) (sym ran.is)
        (events_have Q ran.later (after_events acks u) (events_ordered acks u order) (plain_bring Q ran.later ran.are)
        (events_have Q acks u order (acknowledged_bring Q h due.own) (told_has Q h due packet f content s new)))

    by_track : (o : Option Track) → s.own.track ≡ o → GoesOn None o → AllOf Q o → AllOf Q (handled (heading_at n m b) due packet f content s).own.track
    by_track None at order has = by_system (is_system f) at refl
    by_track (Some track) at order has =
        let h = heading_at n m b in
        let events = own_events h due f content track (other_reached h due.other s) in
        let t = told_of track s in
        let ran = own_runs n m b due packet f content s track at in
        subst (AllOf Q) (sym ran.is)
        (events_have Q ran.later (own_told h due f content s track) (events_ordered events t order) (plain_bring Q ran.later ran.are)
        (events_have Q events t order (tt, item_bring Q (is_system f) h (near track.next f.sequence) due.own (carried h due.acknowledged f content) new) has))

behind_have : (Q : Carried → Type 0) (n : Origin) (m : ℕ) (q : Bool) (due : Due) (packet : PacketModel) (f : Header) (content : List ℕ) (s : Scene)
    → GoesOn None s.other.track → AllOf Q s.other.track → AllOf Q (handled (heading_at n m q) due packet f content s).other.track
behind_have Q n m q due packet f content s = by_track s.other.track refl
  where
    by_track : (o : Option Track) → s.other.track ≡ o → GoesOn None o → AllOf Q o → AllOf Q (handled (heading_at n m q) due packet f content s).other.track
    by_track None at order has = subst (AllOf Q) (sym (behind_still n m q due packet f content s at)) tt
    by_track (Some track) at order has =
        let h = heading_at n m q in
        let acks = acknowledged_event (of_other h) due.other in
        let t = told_of track (seen_from_other s) in
        let ran = behind_runs n m q due packet f content s track at in
        subst (AllOf Q) (sym ran.is)
        (events_have Q ran.later (behind_told h due packet f content s track) (events_ordered acks t order) (plain_bring Q ran.later ran.are)
        (events_have Q acks t order (acknowledged_bring Q (of_other h) due.other) has))

-- ---- the packets of a connection

one_has : (Q : Carried → Type 0) (d : Bool) (packet : Handled) (c : Connection) → (w : IsHandled packet c) → (packet.is_behind ≡ d → Q (carried_item packet c))
    → GoesOn None (side_in d c).track → AllOf Q (side_in d c).track → AllOf Q (side_in d (with_handled packet c)).track
one_has Q d packet c w new order has = subst (λ x. AllOf Q (side_in d (with_handled x c)).track) (sym w.is) (by_flow d packet.is_behind new order has)
  where
    by_flow : (d q : Bool) → (q ≡ d → Q (carried (heading_at packet.origin c.number q) (acknowledged_in q packet.header c) packet.header packet.content)) → GoesOn None (side_in d c).track → AllOf Q (side_in d c).track
        → AllOf Q (side_in d (with_handled (handled_in packet.origin q packet.sent packet.header packet.content c w.known) c)).track
    by_flow true true new order has = own_have Q packet.origin c.number true (due_in true packet.header c) packet.sent packet.header packet.content (scene_in true c (repeats_told packet.origin true packet.header c w.known)) (new refl) order has
    by_flow false false new order has = own_have Q packet.origin c.number false (due_in false packet.header c) packet.sent packet.header packet.content (scene_in false c (repeats_told packet.origin false packet.header c w.known)) (new refl) order has
    by_flow true false new order has = behind_have Q packet.origin c.number false (due_in false packet.header c) packet.sent packet.header packet.content (scene_in false c (repeats_told packet.origin false packet.header c w.known)) order has
    by_flow false true new order has = behind_have Q packet.origin c.number true (due_in true packet.header c) packet.sent packet.header packet.content (scene_in true c (repeats_told packet.origin true packet.header c w.known)) order has

-- an item is that of a packet of a flow
abbrev IsOf : Bool → Handled → Connection → Carried → Type 0
IsOf d packet c item = (packet.is_behind ≡ d) × (item ≡ carried_item packet c)

-- one of the packets brought the item
abbrev IsBrought : Bool → List Handled → Connection → Carried → Type 0
IsBrought d [] c item = ⊥
IsBrought d (packet ∷ more) c item = IsOf d packet c item ⊎ IsBrought d more (with_handled packet c) item

early_more : (P Q : Carried → Type 0) → ((item : Carried) → P item → Q item) → (es : List Early) → AllEarly P es → AllEarly Q es
early_more P Q on [] has = tt
early_more P Q on (e ∷ rest) has = (on e.item has.0, early_more P Q on rest has.1)

all_more : (P Q : Carried → Type 0) → ((item : Carried) → P item → Q item) → (o : Option Track) → AllOf P o → AllOf Q o
all_more P Q on None has = tt
all_more P Q on (Some track) has = early_more P Q on track.early has

over_again : (A B C : Type 0) → (A ⊎ B) ⊎ C → A ⊎ (B ⊎ C)
over_again A B C (inl (inl a)) = inl a
over_again A B C (inl (inr b)) = inr (inl b)
over_again A B C (inr c) = inr (inr c)

one_own : (Q : Carried → Type 0) (d : Bool) (packet : Handled) (c : Connection) → IsHandled packet c → GoesOn None (side_in d c).track → AllOf Q (side_in d c).track
    → AllOf (λ item. Q item ⊎ IsOf d packet c item) (side_in d (with_handled packet c)).track
one_own Q d packet c w order has =
    one_has (λ item. Q item ⊎ IsOf d packet c item) d packet c w (λ own. inr (own, refl)) order
    (all_more Q (λ item. Q item ⊎ IsOf d packet c item) (λ item is. inl is) (side_in d c).track has)

all_brought : (Q : Carried → Type 0) (d : Bool) (packets : List Handled) (c : Connection) → AreHandled packets c → GoesOn None (side_in d c).track → AllOf Q (side_in d c).track
    → AllOf (λ item. Q item ⊎ IsBrought d packets c item) (side_in d (with_all packets c)).track
all_brought Q d [] c are order has = all_more Q (λ item. Q item ⊎ ⊥) (λ item is. inl is) (side_in d c).track has
all_brought Q d (packet ∷ more) c are order has =
    let c' = with_handled packet c in
    let Q' : Carried → Type 0 = λ item. Q item ⊎ IsOf d packet c item in
    let one : AllOf Q' (side_in d c').track = one_own Q d packet c are.0 order has in
    all_more (λ item. Q' item ⊎ IsBrought d more c' item) (λ item. Q item ⊎ IsBrought d (packet ∷ more) c item)
    (λ item is. over_again (Q item) (IsOf d packet c item) (IsBrought d more c' item) is) (side_in d (with_all more c')).track
    (all_brought Q' d more c' are.1 (goes_order (side_in d c).track (side_in d c').track (one_goes d packet c are.0 order)) one)

-- ---- where the packet of an item stands

stands_among : (d : Bool) (packets : List Handled) (c : Connection) (item : Carried) → IsBrought d packets c item → CameWith d packets c item
stands_among d [] c item is = absurd is
stands_among d (packet ∷ more) c item (inl (own, is)) = record { before = []; packet = packet; more = more; are = refl; own = own; brought = is }
stands_among d (packet ∷ more) c item (inr later) =
    let x = stands_among d more (with_handled packet c) item later in
    record { before = packet ∷ x.before; packet = x.packet; more = x.more; are = ap (λ xs. packet ∷ xs) x.are; own = x.own; brought = x.brought }

first_brought : (d : Bool) (packets : List Handled) (c : Connection) (o : Option Track) (track : Track) (e : Early) (rest : List Early) → o ≡ Some track → track.early ≡ e ∷ rest
    → AllOf (λ item. ⊥ ⊎ IsBrought d packets c item) o → IsBrought d packets c e.item
first_brought d packets c o track e rest at first has = by_item (early_first (subst (AllEarly Q) first (subst (AllOf Q) at has)))
  where
    Q : Carried → Type 0
    Q item = ⊥ ⊎ IsBrought d packets c item

    early_first : AllEarly Q (e ∷ rest) → ⊥ ⊎ IsBrought d packets c e.item
    early_first all = all.0

    by_item : ⊥ ⊎ IsBrought d packets c e.item → IsBrought d packets c e.item
    by_item (inl none) = absurd none
    by_item (inr is) = is

-- the first item that a flow of a connection keeps, which has come from one that keeps nothing of it
pub first_stands : (d : Bool) (packets : List Handled) (c : Connection) (track : Track) (e : Early) (rest : List Early) → AreHandled packets c → (side_in d c).track ≡ None
    → (side_in d (with_all packets c)).track ≡ Some track → track.early ≡ e ∷ rest → CameWith d packets c e.item
first_stands d packets c track e rest are none at first =
    let order : GoesOn None (side_in d c).track = subst (GoesOn None) (sym none) tt in
    let empty : AllOf (λ item. ⊥) (side_in d c).track = subst (AllOf (λ item. ⊥)) (sym none) tt in
    stands_among d packets c e.item
    (first_brought d packets c (side_in d (with_all packets c)).track track e rest at first (all_brought (λ item. ⊥) d packets c are order empty))
