-- What becomes of the connection in a place, and of all of them.
use Rattle.std.proofs.Common.{◌≡◌, ◌∙◌, ◌<◌, ◌≤◌, ap, arith, refl, subst, sym, ℕ, List, Bool, true, false, Option, Some, None, Result, Ok, Err, OnErr, get_or, length, slice_get, slice_set}
use Rattle.std.specs.Prelude.{[], ◌∷◌, ◌++◌}
use Rattle.std.specs.Option.{option_to_list}
use Rattle.std.proofs.lemmas.List.{length-set, set-get_or}
use Rattle.std.proofs.lemmas.Option.{slice_get-get_or, slice_get_read, slice_get_within}
use Rattle.std.specs.declared.alloc.AllocError.{AllocError}
use Rattle.xns_agenda.specs.Agenda.{Plan, noted}
use Rattle.xns_agenda.specs.Times.{IsFirstBy}
use Rattle.xns_agenda.specs.Turns.{IsFirst, has_turn, with_turn}
use Rattle.xns_agenda.specs.Waiting.{later}
use Rattle.xns_agenda.specs.declared.clock.Clock.{Clock}
use Rattle.xns_host.specs.Events.{event_in}
use Rattle.xns_host.specs.Hosting.{IsAllNoted, IsApart, facts_in, facts_of, may_go}
use Rattle.xns_host.specs.Places.{ActsAll, ActsAt, AsksEvent, AsksInVain, AsksPacket, GivesNone, NextPacket, Places, PlaceTurns, became, nobody, resting, starves, taken_by, vacated, event_passed, places_with, vacated_if, quiet, tells}
use Rattle.xns_host.specs.Strays.{StrayQueue}
use Rattle.xns_host.specs.Went.{GuestActs, GuestReports, given_by}
use Rattle.xns_host.specs.declared.event.Event.{Event}
use Rattle.xns_host.specs.declared.guest.Guest.{Guest}
use Rattle.xns_host.specs.declared.host_fault.HostFault.{HostFault}
use Rattle.xns_host.specs.declared.host_fault.HostFault.TheVariants.{NoMemory}
use Rattle.xns_host.specs.declared.outgoing.Outgoing.{Outgoing}
use Rattle.xns_host.proofs.Apart.{apart_then, set_apart, set_there}

-- ---- one that gives a packet

-- a connection that gave no packet has none left
pub rested_so : (way : ℕ) (left : Bool) (answer : Result (Option (List ℕ)) AllocError) → Ok None ≡ given_by way left answer → left ≡ false
rested_so way left (Ok (Some p)) is = absurd (cc)
rested_so way true (Ok None) is = absurd (cc)
rested_so way false (Ok None) is = refl
rested_so way left (Err e) is = absurd (cc)

pub given_fault : (way : ℕ) (left : Bool) (answer : Result (Option (List ℕ)) AllocError) (r : Result (Option Outgoing) HostFault) → r ≡ given_by way left answer
    → OnErr r (r ≡ Err NoMemory)
given_fault way left (Ok (Some p)) r is = subst (λ (x : Result (Option Outgoing) HostFault). OnErr x (x ≡ Err NoMemory)) (sym is) tt
given_fault way true (Ok None) r is = subst (λ (x : Result (Option Outgoing) HostFault). OnErr x (x ≡ Err NoMemory)) (sym is) refl
given_fault way false (Ok None) r is = subst (λ (x : Result (Option Outgoing) HostFault). OnErr x (x ≡ Err NoMemory)) (sym is) tt
given_fault way left (Err e) r is = subst (λ (x : Result (Option Outgoing) HostFault). OnErr x (x ≡ Err NoMemory)) (sym is) refl

-- ---- all places

abbrev Row : Type 0
Row = List (Option Guest)

there : (gs : Row) (n : ℕ) (old : Option Guest) → n < length gs → old ≡ get_or gs n old → slice_get gs n ≡ Some old
there gs n old less read = slice_get_read gs (length gs) n old refl less read

pub set_back : (gs : Row) (n : ℕ) (old v : Option Guest) → old ≡ get_or gs n old → v ≡ old → slice_set gs n v ≡ gs
set_back gs n old v read same = ap (λ (p : Option Guest). slice_set gs n p) (same ∙ read) ∙ set-get_or gs n old

pub asked_quiet : (now n : ℕ) (gs : Row) (a b : Plan) (old v : Option Guest) (o : Option Event) → o ≡ None → n < length gs → old ≡ get_or gs n old → v ≡ old → event_in n old ≡ None
    → b ≡ record a { events = with_turn a.events n false } → AsksEvent now n (places_with gs a) o (places_with (slice_set gs n v) b)
asked_quiet now n gs a b old v o silent less read same none passed =
    let e : places_with (slice_set gs n v) b ≡ event_passed (places_with gs a) n
    = ap (λ (xs : Row). places_with xs b) (set_back gs n old v read same) ∙ ap (λ (x : Plan). places_with gs x) passed in
    subst (λ (x : Option Event). AsksEvent now n (places_with gs a) x (places_with (slice_set gs n v) b)) (sym silent)
    (subst (λ (p : Places). AsksEvent now n (places_with gs a) None p) (sym e) (quiet old (there gs n old less read) none))

became_by : (p : Places) (n : ℕ) (h : Guest) (x d : Plan) (ks : Row) (done : Bool) → x ≡ noted p.agenda n (facts_of h) → done ≡ may_go h.connection
    → places_with ks d ≡ vacated_if done (places_with (slice_set p.guests n (Some h)) x) n → places_with ks d ≡ became p n h
became_by p n h x d ks done noting is settled =
    settled ∙ (ap (λ (b : Bool). vacated_if b (places_with (slice_set p.guests n (Some h)) x) n) is
    ∙ ap (λ (y : Plan). vacated_if (may_go h.connection) (places_with (slice_set p.guests n (Some h)) y) n) noting)

pub asked_tells : (now n : ℕ) (gs ks : Row) (a b x d : Plan) (g h : Guest) (event : Event) (done : Bool) → slice_get gs n ≡ Some (Some g)
    → event_in n (Some g) ≡ Some event → GuestReports now g h → b ≡ record a { events = with_turn a.events n false } → x ≡ noted b n (facts_of h)
    → done ≡ may_go h.connection → places_with ks d ≡ vacated_if done (places_with (slice_set gs n (Some h)) x) n
    → AsksEvent now n (places_with gs a) (Some event) (places_with ks d)
asked_tells now n gs ks a b x d g h event done here some turn passed noting is settled =
    let e : places_with ks d ≡ became (event_passed (places_with gs a) n) n h
    = became_by (event_passed (places_with gs a) n) n h x d ks done (noting ∙ ap (λ (y : Plan). noted y n (facts_of h)) passed) is settled in
    subst (λ (p : Places). AsksEvent now n (places_with gs a) (Some event) p) (sym e) (tells g h event here some turn)

pub acts_at : (now n : ℕ) (gs ks : Row) (a x d : Plan) (g h : Guest) (done : Bool) → slice_get gs n ≡ Some (Some g) → GuestActs now g h
    → x ≡ noted a n (facts_of h) → done ≡ may_go h.connection → places_with ks d ≡ vacated_if done (places_with (slice_set gs n (Some h)) x) n
    → ActsAt now n (places_with gs a) (places_with ks d)
acts_at now n gs ks a x d g h done here turn noting is settled =
    record { guest = g; next = h; was = here; acts = turn; is = became_by (places_with gs a) n h x d ks done noting is settled }

-- ---- as loops have them

pub asked_as : (n : ℕ) (p r : Places) (o q : Option Event) (a b : Clock) → a ≡ b → o ≡ q → AsksEvent a.latest n p o r → AsksEvent b.latest n p q r
asked_as n p r o q a b same is asks =
    subst (λ (k : Clock). AsksEvent k.latest n p q r) same (subst (λ (x : Option Event). AsksEvent a.latest n p x r) is asks)

pub vain_at_first : (t : ℕ) (gs hs : Row) (a b : Plan) → hs ≡ gs → b ≡ a → AsksInVain t (places_with gs a) (places_with hs b)
vain_at_first t gs hs a b items plan =
    subst (λ (xs : Row). AsksInVain t (places_with gs a) (places_with xs b)) (sym items)
    (subst (λ (x : Plan). AsksInVain t (places_with gs a) (places_with gs x)) (sym plan) nobody)

-- who has a turn to give a packet, or of whom something is due, is there
someone : (f : Option Guest → Type 0) (p : Option Guest) → (f None → ⊥) → f p → (g : Guest) × (p ≡ Some g)
someone f None never holds = absurd (never holds)
someone f (Some g) never holds = (g, refl)

pub who_packs : (a : Plan) (gs : Row) (n : ℕ) → IsAllNoted a gs → n < length gs → has_turn a.packets n ≡ true → (g : Guest) × (slice_get gs n ≡ Some (Some g))
who_packs a gs n all less has =
    let here : slice_get gs n ≡ Some (get_or gs n None) = slice_get-get_or gs n None less in
    let note = all.each n (get_or gs n None) here in
    let who = someone (λ (p : Option Guest). (facts_in p).has_packet ≡ true) (get_or gs n None) (λ no. absurd (cc)) (sym note.facts.packet ∙ has) in
    (who.0, here ∙ ap Some who.1)

pub who_is_due : (a : Plan) (gs : Row) (now n : ℕ) → IsAllNoted a gs → n < length gs → IsFirstBy a.dues now n → (g : Guest) × (slice_get gs n ≡ Some (Some g))
who_is_due a gs now n all less first =
    let here : slice_get gs n ≡ Some (get_or gs n None) = slice_get-get_or gs n None less in
    let note = all.each n (get_or gs n None) here in
    let due : Some ((facts_in (get_or gs n None)).due) ≡ Some (Some first.time) = sym note.facts.due ∙ first.first.there in
    let who = someone (λ (p : Option Guest). Some ((facts_in p).due) ≡ Some (Some first.time)) (get_or gs n None) (λ no. absurd (cc)) due in
    (who.0, here ∙ ap Some who.1)

pub no_place : (gs : Row) (n : ℕ) (p : Option Guest) → slice_get gs n ≡ Some p → length gs ≤ n → ⊥
no_place gs n p at far = let less = slice_get_within gs n p at in absurd (omega (arith, less, far))

pub other_place : (gs : Row) (n : ℕ) (old : Option Guest) (g : Guest) → n < length gs → old ≡ get_or gs n old → old ≡ None → slice_get gs n ≡ Some (Some g) → ⊥
other_place gs n old g less read none at = let here = there gs n old less read in cc

-- all that was due was done, and as often as it had none the one whose turn it was was asked for a packet
pub record GoneFrom (now : ℕ) (p r : Places) : Type 0 where
  pub mid : Places
  pub acts : ActsAll now p mid
  pub none : GivesNone now mid r

pub packet_as : (now n : ℕ) (p r : Places) (x y : Result (Option Outgoing) HostFault) → x ≡ y → AsksPacket now n x p r → AsksPacket now n y p r
packet_as now n p r x y is asks = subst (λ (z : Result (Option Outgoing) HostFault). AsksPacket now n z p r) is asks

pub acts_all_at : (t u : ℕ) (p r : Places) → t ≡ u → ActsAll t p r → ActsAll u p r
acts_all_at t u p r same acts = subst (λ (x : ℕ). ActsAll x p r) same acts

pub next_at : (t u w : ℕ) (p r : Places) (x : Result (Option Outgoing) HostFault) → t ≡ u → NextPacket t w p x r → NextPacket u w p x r
next_at t u w p r x same next = subst (λ (y : ℕ). NextPacket y w p x r) same next

-- memory was refused to the one whose turn it was, and packets are asked for again when the wait is over
pub rests_at : (t u v w n : ℕ) (p q r s : Places) (x y : Result (Option Outgoing) HostFault) → t ≡ u → v ≡ w → x ≡ Err NoMemory → y ≡ Err NoMemory
    → GivesNone t p q → IsFirst q.agenda.packets n → AsksPacket t n x q r → s ≡ resting r (later t v) → NextPacket u w p y s
rests_at t u v w n p q r s x y time wait short told gone first asks is =
    let so : s ≡ resting r (later u w) = is ∙ (ap (λ (k : ℕ). resting r (later k v)) time ∙ ap (λ (k : ℕ). resting r (later u k)) wait) in
    let at_t : NextPacket t w p (Err NoMemory) (resting r (later t w)) = starves n gone first (packet_as t n q r x (Err NoMemory) short asks) in
    subst (λ (z : Result (Option Outgoing) HostFault). NextPacket u w p z s) (sym told)
    (subst (λ (k : Places). NextPacket u w p (Err NoMemory) k) (sym so) (subst (λ (k : ℕ). NextPacket k w p (Err NoMemory) (resting r (later k w))) time at_t))

-- ---- stray replies

pub no_stray : (q r : StrayQueue) (x : Option Outgoing) → x ≡ None → q.waiting ≡ option_to_list x ++ r.waiting → r ≡ record q { waiting = r.waiting } → r ≡ q
no_stray q r (Some s) none waiting rest = absurd (cc)
no_stray q r None none waiting rest = rest ∙ ap (λ (ws : List Outgoing). let y : StrayQueue = record q { waiting = ws } in y) (sym waiting)

pub stray_out : (q r : StrayQueue) (x : Option Outgoing) (s o : Outgoing) (os : List Outgoing) → x ≡ Some s → q.waiting ≡ option_to_list x ++ r.waiting
    → r ≡ record q { waiting = r.waiting } → q.waiting ≡ o ∷ os → (s ≡ o) × (r ≡ record q { waiting = os })
stray_out q r None s o os some waiting rest is = absurd (cc)
stray_out q r (Some t) s o os some waiting kept is =
    let both : t ∷ r.waiting ≡ o ∷ os = sym waiting ∙ is in
    let first : s ≡ o = cc in
    let rest : r.waiting ≡ os = cc in
    (first, kept ∙ ap (λ (ws : List Outgoing). let y : StrayQueue = record q { waiting = ws } in y) rest)

pub some_stray : (q r : StrayQueue) (x : Option Outgoing) (s : Outgoing) → x ≡ Some s → q.waiting ≡ option_to_list x ++ r.waiting → q.waiting ≡ [] → ⊥
some_stray q r None s some waiting none = absurd (cc)
some_stray q r (Some t) s some waiting none = let bad : t ∷ r.waiting ≡ [] = sym waiting ∙ none in absurd (cc)

-- ---- one in its place

pub turns_at : (P : Guest → Guest → Type 0) (n : ℕ) (gs : Row) (a b x : Plan) (g h : Guest) → slice_get gs n ≡ Some (Some g) → P g h → b ≡ a
    → x ≡ noted b n (facts_of h) → PlaceTurns P n (places_with gs a) (places_with (slice_set gs n (Some h)) x)
turns_at P n gs a b x g h here turn same noting = record {
  guest = g;
  next = h;
  was = here;
  turn = turn;
  is = ap (λ (y : Plan). places_with (slice_set gs n (Some h)) y) (noting ∙ ap (λ (y : Plan). noted y n (facts_of h)) same);
}

pub taken_same : (n : ℕ) (g h : Guest) (q p : Places) → g ≡ h → q ≡ taken_by (vacated p n) n g → q ≡ taken_by (vacated p n) n h
taken_same n g h q p same is = is ∙ ap (λ (x : Guest). taken_by (vacated p n) n x) same

pub taken_as : (gs : Row) (n : ℕ) (g h : Guest) (q p : Places) → slice_get gs n ≡ Some (Some g) → slice_get gs n ≡ Some (Some h)
    → q ≡ taken_by (vacated p n) n g → q ≡ taken_by (vacated p n) n h
taken_as gs n g h q p here at is =
    let same : g ≡ h = cc in taken_same n g h q p same is

pub is_true : (b : Bool) → (b ≡ false → ⊥) → b ≡ true
is_true true never = refl
is_true false never = absurd (never refl)

-- ---- one that was forgotten, if it was done

abbrev rows : Places → Row
rows p = p.guests

pub settled_kept : (gs ks : Row) (x d : Plan) (n : ℕ) (done : Bool) → places_with ks d ≡ vacated_if done (places_with gs x) n → done ≡ false → ks ≡ gs
settled_kept gs ks x d n true is z = absurd (cc)
settled_kept gs ks x d n false is z = ap rows is

pub settled_gone : (gs ks : Row) (x d : Plan) (n : ℕ) (done : Bool) → places_with ks d ≡ vacated_if done (places_with gs x) n → n < length gs → done ≡ true
    → slice_get ks n ≡ Some None
settled_gone gs ks x d n true is less z = set_there gs ks n None less (ap rows is)
settled_gone gs ks x d n false is less z = absurd (cc)

pub settled_apart : (gs ks : Row) (x d : Plan) (n : ℕ) (done : Bool) → places_with ks d ≡ vacated_if done (places_with gs x) n → IsApart gs ks n
settled_apart gs ks x d n true is = set_apart gs ks n None (ap rows is)
settled_apart gs ks x d n false is = record { others = λ k other. ap (λ (xs : Row). slice_get xs k) (ap rows is) }

-- a connection gave way to another
pub taken_apart : (gs ks : Row) (x d : Plan) (n : ℕ) (g : Guest) → places_with ks d ≡ taken_by (vacated (places_with gs x) n) n g → IsApart gs ks n
taken_apart gs ks x d n g is =
    apart_then gs (slice_set gs n None) ks n (set_apart gs (slice_set gs n None) n None refl) (set_apart (slice_set gs n None) ks n (Some g) (ap rows is))

pub taken_there : (gs ks : Row) (x d : Plan) (n : ℕ) (g : Guest) → places_with ks d ≡ taken_by (vacated (places_with gs x) n) n g → n < length gs
    → slice_get ks n ≡ Some (Some g)
taken_there gs ks x d n g is less =
    set_there (slice_set gs n None) ks n (Some g) (subst (λ (m : ℕ). n < m) (sym (length-set gs n None)) less) (ap rows is)
