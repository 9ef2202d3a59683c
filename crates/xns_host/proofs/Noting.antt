-- The agenda says of each place what the connection in it says.
use Rattle.std.proofs.Common.{◌≡◌, ◌≢◌, ◌∙◌, ◌⊎◌, inl, inr, ap, refl, subst, sym, ℕ, ◌<◌, Bool, true, false, List, length, replicate, Option, Some, None, slice_get, get_or, arith}
use Rattle.std.specs.Prelude.{not, ◌&&◌, ◌||◌, slice_set, if◌then◌else◌}
use Rattle.std.specs.Option.{is_some, is_none}
use Rattle.std.proofs.lemmas.List.{get_or-replicate, get_or-set_other, get_or-set_same, length-replicate, set-get_or}
use Rattle.std.proofs.lemmas.Option.{get_or_from_slice_get, slice_get_read, slice_get_within}
use Rattle.courier_messages.specs.declared.message.Message.{Message}
use Rattle.courier_sessions.proofs.Done.{none_there as nothing_there}
use Rattle.xns_agenda.proofs.Free.{last_other, last_same}
use Rattle.xns_agenda.proofs.Putting.{one_place, place_other, place_set, same_or_other}
use Rattle.xns_agenda.specs.Agenda.{Plan, HasNobody, IsFor, IsNoted, noted, released}
use Rattle.xns_host.specs.Events.{event_by, event_in, is_newly_open, later_event}
use Rattle.xns_host.specs.Hosting.{IsAllNoted, IsNotedBut, IsNotedIn, facts_in, tells}
use Rattle.xns_host.specs.Knowing.{known_in}
use Rattle.xns_agenda.specs.Turns.{Line, has_turn, with_last, with_turn}
use Rattle.xns_connection.specs.Story.{has_message, waiting_message, listed_call}
use Rattle.xns_connection.specs.declared.connection.Connection.{Connection}
use Rattle.xns_agenda.specs.declared.facts.Facts.{Facts}
use Rattle.xns_agenda.specs.declared.facts.TheConstants.Facts.{NONE}
use Rattle.xns_host.specs.declared.event.Event.{Event}
use Rattle.xns_host.specs.declared.event.Event.TheVariants.{Opened}
use Rattle.xns_host.specs.declared.guest.Guest.{Guest}
use Rattle.xns_connection.specs.declared.side.Side.{Side}
use Rattle.xns_connection.specs.declared.side.Side.TheVariants.{Calls, Answers}
use Rattle.xns_connection.specs.declared.why.Why.{Why}

-- ---- turns

given_same : (b : Bool) (line : Line) (n : ℕ) → has_turn line n ≡ b → n < length line.tickets → has_turn (if b then line else with_last line n) n ≡ true
given_same true line n is less = is
given_same false line n is less = last_same line n less

given_other : (b : Bool) (line : Line) (n k : ℕ) → k ≢ n → has_turn (if b then line else with_last line n) k ≡ has_turn line k
given_other true line n k other = refl
given_other false line n k other = last_other line n k other

pub turn_same : (line : Line) (n : ℕ) (b : Bool) → n < length line.tickets → has_turn (with_turn line n b) n ≡ b
turn_same line n true less = given_same (has_turn line n) line n refl less
turn_same line n false less = ap is_some (get_or-set_same line.tickets n None None less)

pub turn_other : (line : Line) (n k : ℕ) (b : Bool) → k ≢ n → has_turn (with_turn line n b) k ≡ has_turn line k
turn_other line n k true other = given_other (has_turn line n) line n k other
turn_other line n k false other = ap is_some (get_or-set_other line.tickets n k None None other)

-- ---- one place

other_noted : (a b : Plan) (k : ℕ) (p : Option Guest) → IsNotedIn a k p
    → slice_get b.dues k ≡ slice_get a.dues k → has_turn b.packets k ≡ has_turn a.packets k → has_turn b.events k ≡ has_turn a.events k
    → slice_get b.closed k ≡ slice_get a.closed k → slice_get b.strangers k ≡ slice_get a.strangers k → has_turn b.free k ≡ has_turn a.free k → IsNotedIn b k p
other_noted a b k p is dues packets events closed strangers free = record {
  facts = record {
    due = dues ∙ is.facts.due;
    packet = packets ∙ is.facts.packet;
    closed = closed ∙ is.facts.closed;
    stranger = strangers ∙ is.facts.stranger;
  };
  event = λ none. is.event (sym events ∙ none);
  news = λ has. is.news (sym events ∙ has);
  free = free ∙ is.free;
}

note_other : (a : Plan) (n k : ℕ) (f : Facts) (p : Option Guest) → k ≢ n → IsNotedIn a k p → IsNotedIn (noted a n f) k p
note_other a n k f p other is =
    other_noted a (noted a n f) k p is (place_other a.dues n k f.due other) (turn_other a.packets n k f.has_packet other)
    (turn_other a.events n k f.has_event other) (place_other a.closed n k f.forgotten_at other)
    (place_other a.strangers n k f.stranger_heard_at other) refl

note_same : (a : Plan) (n most : ℕ) (f : Facts) → IsFor a most → n < most → IsNoted (noted a n f) n f
note_same a n most f is less = record {
  due = place_set a.dues n f.due (omega (arith, is.dues, less));
  packet = turn_same a.packets n f.has_packet (omega (arith, is.packets, less));
  closed = place_set a.closed n f.forgotten_at (omega (arith, is.closed, less));
  stranger = place_set a.strangers n f.stranger_heard_at (omega (arith, is.strangers, less));
}

-- who has nothing to tell by its facts has nothing
side_quiet : (s : Side) → has_message s ≡ false → waiting_message s ≡ None
side_quiet (Calls t) none = nothing_there t.outcome none
side_quiet (Answers a) none = ap (λ (o : Option Message). listed_call a.programs o) (nothing_there a.call none)

why_quiet : (number tag : ℕ) (told : Bool) (why : Option Why) → (is_some why && not told) ≡ false → event_by number tag None (if told then None else why) ≡ None
why_quiet number tag true why none = refl
why_quiet number tag false None none = refl
why_quiet number tag false (Some w) none = absurd (cc)

either_quiet : (number tag : ℕ) (c : Connection) (b d : Bool) → has_message c.conversation.side ≡ b → (is_some c.closed && not c.told) ≡ d → b || d ≡ false
    → event_by number tag (waiting_message c.conversation.side) (if c.told then None else c.closed) ≡ None
either_quiet number tag c true d message why none = absurd (cc)
either_quiet number tag c false d message why none =
    ap (λ (o : Option Message). event_by number tag o (if c.told then None else c.closed)) (side_quiet c.conversation.side message)
    ∙ why_quiet number tag c.told c.closed (why ∙ none)

unless_open : (newly news : Bool) (first later : Option Event) → (newly || news) ≡ false → (news ≡ false → later ≡ None) → (if newly then first else later) ≡ None
unless_open true news first later none quiet = absurd (cc)
unless_open false news first later none quiet = quiet none

quiet_in : (number : ℕ) (p : Option Guest) → (facts_in p).has_event ≡ false → event_in number p ≡ None
quiet_in number None none = refl
quiet_in number (Some g) none =
    unless_open (is_newly_open g) (tells g.connection) (Some (Opened number g.tag)) (later_event number g) none
    (either_quiet number g.tag g.connection (has_message g.connection.conversation.side) (is_some g.connection.closed && not g.connection.told) refl refl)

note_quiet : (a : Plan) (n most : ℕ) (p : Option Guest) → IsFor a most → n < most → has_turn (noted a n (facts_in p)).events n ≡ false → event_in n p ≡ None
note_quiet a n most p is less none =
    quiet_in n p (sym (turn_same a.events n (facts_in p).has_event (omega (arith, is.events, less))) ∙ none)

note_news : (a : Plan) (n most : ℕ) (f : Facts) → IsFor a most → n < most → has_turn (noted a n f).events n ≡ true → f.has_event ≡ true
note_news a n most f is less has = sym (turn_same a.events n f.has_event (omega (arith, is.events, less))) ∙ has

free_other : (a : Plan) (n k : ℕ) (b : Bool) (p : Option Guest) → k ≢ n → IsNotedIn a k p → IsNotedIn (record a { free = with_turn a.free n b }) k p
free_other a n k b p other is = other_noted a (record a { free = with_turn a.free n b }) k p is refl refl refl refl refl (turn_other a.free n k b other)

-- ---- all places

abbrev Places : Type 0
Places = List (Option Guest)

none_named : (p : Option Guest) → is_none (known_in p) ≡ is_none p
none_named None = refl
none_named (Some g) = refl

same_none : (p q : Option Guest) → known_in q ≡ known_in p → is_none q ≡ is_none p
same_none p q same = sym (none_named q) ∙ ap is_none same ∙ none_named p

-- a connection that is there changed
pub changed : (a : Plan) (gs : Places) (n : ℕ) (old v : Option Guest) → IsAllNoted a gs → slice_get gs n ≡ Some old → known_in v ≡ known_in old
    → IsNotedBut a (slice_set gs n v) n
changed a gs n old v all there same =
    let less : n < length gs = slice_get_within gs n old there in record {
      others = λ k p other is. all.each k p (sym (place_other gs n k v other) ∙ is);
      free = λ p is. let here : v ≡ p = one_place v p (slice_get (slice_set gs n v) n) (place_set gs n v less) is in
          (all.each n old there).free ∙ sym (same_none old v same) ∙ ap is_none here;
    }

-- the place that was left out is noted
pub noted_all : (a : Plan) (gs : Places) (n most : ℕ) (p : Option Guest) → IsFor a most → n < most → slice_get gs n ≡ Some p → IsNotedBut a gs n
    → IsAllNoted (noted a n (facts_in p)) gs
noted_all a gs n most p for_most less there but = record { each = λ k q is. by k q is (same_or_other k n) } where
  by : (k : ℕ) (q : Option Guest) → slice_get gs k ≡ Some q → (k ≡ n) ⊎ (k ≢ n) → IsNotedIn (noted a n (facts_in p)) k q
  by k q is (inl e) =
      let here : slice_get gs n ≡ Some q = subst (λ (m : ℕ). slice_get gs m ≡ Some q) e is in
      let same : p ≡ q = one_place p q (slice_get gs n) there here in
      subst (λ (m : ℕ). IsNotedIn (noted a n (facts_in p)) m q) (sym e) (subst (λ (r : Option Guest). IsNotedIn (noted a n (facts_in p)) n r) same
      (record {
        facts = note_same a n most (facts_in p) for_most less;
        event = note_quiet a n most p for_most less;
        news = note_news a n most (facts_in p) for_most less;
        free = but.free p there;
      }))
  by k q is (inr other) = note_other a n k (facts_in p) q other (but.others k q other is)

-- the connection is gone
pub vacated : (a : Plan) (gs : Places) (n most : ℕ) → IsFor a most → n < most → n < length gs → IsAllNoted a gs
    → IsAllNoted (released a n) (slice_set gs n None)
vacated a gs n most for_most less within all = record { each = λ k q is. by k q is (same_or_other k n) } where
  nothing : IsNoted (noted a n NONE) n NONE → IsNoted (released a n) n (facts_in None)
  nothing is = record { due = is.due; packet = is.packet; closed = is.closed; stranger = is.stranger }

  by : (k : ℕ) (q : Option Guest) → slice_get (slice_set gs n None) k ≡ Some q → (k ≡ n) ⊎ (k ≢ n) → IsNotedIn (released a n) k q
  by k q is (inl e) =
      let here : slice_get (slice_set gs n None) n ≡ Some q = subst (λ (m : ℕ). slice_get (slice_set gs n None) m ≡ Some q) e is in
      let same : None ≡ q = one_place None q (slice_get (slice_set gs n None) n) (place_set gs n None within) here in
      subst (λ (m : ℕ). IsNotedIn (released a n) m q) (sym e) (subst (λ (r : Option Guest). IsNotedIn (released a n) n r) same
      (record {
        facts = nothing (note_same a n most NONE for_most less);
        event = λ none. refl;
        news = note_news a n most NONE for_most less;
        free = turn_same a.free n true (omega (arith, for_most.free, less));
      }))
  by k q is (inr other) =
      free_other (noted a n NONE) n k true q other (note_other a n k NONE q other (all.each k q (sym (place_other gs n k None other) ∙ is)))

-- a connection is put into a place
pub filled : (a : Plan) (gs : Places) (n most : ℕ) (g : Guest) → IsFor a most → n < most → n < length gs → IsAllNoted a gs
    → IsNotedBut (record a { free = with_turn a.free n false }) (slice_set gs n (Some g)) n
filled a gs n most g for_most less within all = record {
  others = λ k p other is. free_other a n k false p other (all.each k p (sym (place_other gs n k (Some g) other) ∙ is));
  free = λ p is. let here : Some g ≡ p = one_place (Some g) p (slice_get (slice_set gs n (Some g)) n) (place_set gs n (Some g) within) is in
      turn_same a.free n false (omega (arith, for_most.free, less)) ∙ ap is_none here;
}

-- a connection that has nothing to tell needs no turn
pub quiet_noted : (a : Plan) (gs : Places) (n most : ℕ) → IsFor a most → n < most → ((p : Option Guest) → slice_get gs n ≡ Some p → event_in n p ≡ None)
    → IsAllNoted a gs → IsAllNoted (record a { events = with_turn a.events n false }) gs
quiet_noted a gs n most for_most less quiet all = record { each = λ k p is. by k p is (same_or_other k n) } where
  facts : (k : ℕ) (p : Option Guest) → IsNotedIn a k p → IsNoted (record a { events = with_turn a.events n false }) k (facts_in p)
  facts k p is = record { due = is.facts.due; packet = is.facts.packet; closed = is.facts.closed; stranger = is.facts.stranger }

  by : (k : ℕ) (p : Option Guest) → slice_get gs k ≡ Some p → (k ≡ n) ⊎ (k ≢ n) → IsNotedIn (record a { events = with_turn a.events n false }) k p
  by k p is (inl e) = record {
    facts = facts k p (all.each k p is);
    event = λ none. subst (λ (m : ℕ). event_in m p ≡ None) (sym e) (quiet p (subst (λ (m : ℕ). slice_get gs m ≡ Some p) e is));
    news = λ has. let no : has_turn (with_turn a.events n false) n ≡ false = turn_same a.events n false (omega (arith, for_most.events, less)) in
        let yes : has_turn (with_turn a.events n false) n ≡ true = subst (λ (m : ℕ). has_turn (with_turn a.events n false) m ≡ true) e has in absurd (cc);
    free = (all.each k p is).free;
  }
  by k p is (inr other) = record {
    facts = facts k p (all.each k p is);
    event = λ none. (all.each k p is).event (sym (turn_other a.events n k false other) ∙ none);
    news = λ has. (all.each k p is).news (sym (turn_other a.events n k false other) ∙ has);
    free = (all.each k p is).free;
  }

-- ---- no connection

pub none_there : {X : Type 0} (n k : ℕ) (p : Option X) → slice_get (replicate n None) k ≡ Some p → p ≡ None
none_there {X = X} n k p is =
    let less : k < n = omega (arith, slice_get_within (replicate n None) k p is, length-replicate {A = Option X} n None) in
    sym (get_or_from_slice_get (replicate n None) k p None is) ∙ get_or-replicate n k None None less

pub empty_noted : (a : Plan) (gs : Places) (most : ℕ) → ((k : ℕ) → k < most → HasNobody a k) → gs ≡ replicate most None → IsAllNoted a gs
empty_noted a gs most nobody none = record {
  each = λ k p is.
      let there : slice_get (replicate most None) k ≡ Some p = subst (λ (xs : Places). slice_get xs k ≡ Some p) none is in
      let less : k < most = omega (arith, slice_get_within (replicate most None) k p there, length-replicate {A = Option Guest} most None) in
      let here : HasNobody a k = nobody k less in
      subst (λ (q : Option Guest). IsNotedIn a k q) (sym (none_there most k p there)) (record {
        facts = here.facts;
        event = λ quiet. refl;
        news = λ has. let no = here.event in absurd (cc);
        free = here.free;
      });
}

-- ---- as goals have them

pub kept_but : (a : Plan) (gs hs : Places) (n : ℕ) (old v : Option Guest) → IsAllNoted a gs → n < length gs → old ≡ get_or gs n old → hs ≡ slice_set gs n v
    → known_in v ≡ known_in old → IsNotedBut a hs n
kept_but a gs hs n old v all less read is same =
    subst (λ (xs : Places). IsNotedBut a xs n) (sym is) (changed a gs n old v all (slice_get_read gs (length gs) n old refl less read) same)

pub put_back : (a : Plan) (gs : Places) (n : ℕ) (v : Option Guest) → IsAllNoted a gs → v ≡ get_or gs n v → IsAllNoted a (slice_set gs n v)
put_back a gs n v all read =
    let back : slice_set gs n v ≡ gs = ap (λ (p : Option Guest). slice_set gs n p) read ∙ set-get_or gs n v in
    subst (λ (xs : Places). IsAllNoted a xs) (sym back) all

pub told_nothing : (a : Plan) (gs : Places) (n most : ℕ) (old v : Option Guest) → IsAllNoted a gs → IsFor a most → n < most → n < length gs
    → old ≡ get_or gs n old → v ≡ old → event_in n old ≡ None → IsAllNoted (record a { events = with_turn a.events n false }) (slice_set gs n v)
told_nothing a gs n most old v all for_most less within read same quiet =
    let there : slice_get gs n ≡ Some old = slice_get_read gs (length gs) n old refl within read in
    let back : slice_set gs n v ≡ gs = ap (λ (p : Option Guest). slice_set gs n p) (same ∙ read) ∙ set-get_or gs n old in
    subst (λ (xs : Places). IsAllNoted (record a { events = with_turn a.events n false }) xs) (sym back)
    (quiet_noted a gs n most for_most less (λ p is. ap (λ (q : Option Guest). event_in n q) (sym (one_place old p (slice_get gs n) there is)) ∙ quiet) all)

pub passed_but : (a : Plan) (hs : Places) (n : ℕ) → IsNotedBut a hs n → IsNotedBut (record a { events = with_turn a.events n false }) hs n
passed_but a hs n but = record {
  others = λ k p other is. other_noted a (record a { events = with_turn a.events n false }) k p (but.others k p other is) refl refl
      (turn_other a.events n k false other) refl refl refl;
  free = but.free;
}

-- the turn to give a packet
pub rested_but : (a : Plan) (hs : Places) (n : ℕ) → IsNotedBut a hs n → IsNotedBut (record a { packets = with_turn a.packets n false }) hs n
rested_but a hs n but = record {
  others = λ k p other is. other_noted a (record a { packets = with_turn a.packets n false }) k p (but.others k p other is) refl
      (turn_other a.packets n k false other) refl refl refl refl;
  free = but.free;
}

-- nothing is forgotten where packets are asked for later
pub rested_all : (a : Plan) (gs : Places) (time : ℕ) → IsAllNoted a gs → IsAllNoted (record a { short = Some time }) gs
rested_all a gs time all = record { each = λ k p there. other_noted a (record a { short = Some time }) k p (all.each k p there) refl refl refl refl refl refl }

pub same_place : (gs : Places) (n : ℕ) (old p : Option Guest) → n < length gs → old ≡ get_or gs n old → slice_get gs n ≡ Some p → old ≡ p
same_place gs n old p less read is = one_place old p (slice_get gs n) (slice_get_read gs (length gs) n old refl less read) is
