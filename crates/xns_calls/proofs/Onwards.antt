-- What is read of a connection, as far as it can be: each is an event of its flow.
use Rattle.std.proofs.Common.{◌≡◌, ◌∙◌, ap, sym, refl, subst, ℕ, zero, suc, ◌+◌, ◌==◌, Bool, true, false, List, [], ◌∷◌, ◌++◌, length, drop, append_assoc, append-nil, Option, Some, None}
use Rattle.std.specs.Prelude.{not}
use Rattle.std.proofs.lemmas.Grind.{flat_map-append}
use Rattle.xns_calls.specs.Capture.{heading_at}
use Rattle.xns_calls.specs.Events.{Event, after_events, meanwhile, read}
use Rattle.xns_calls.specs.Exchange.{Scene, after_told, of_other, seen_from_other, told_of}
use Rattle.xns_calls.specs.Input.{Part, FlowSaid, part_text, parts_text, said_texts, text_in, texts_in, told}
use Rattle.xns_calls.specs.Read.{kept_item_count, one_read, own_read, read_of, read_times, settled}
use Rattle.xns_calls.specs.Reading.{Told, first_read}
use Rattle.xns_calls.specs.Turns.{next_turn}
use Rattle.xns_calls.specs.Whole.{flow_text}
use Rattle.xns_calls.specs.declared.given.Given.{Given}
use Rattle.xns_calls.specs.declared.heading.Heading.{Heading}
use Rattle.xns_calls.specs.declared.origin.Origin.{Origin}
use Rattle.xns_calls.proofs.Whole.{after_append}
use Rattle.xns_calls.proofs.Adding.{Adds, first_adds, flow_adds}
use Rattle.xns_calls.proofs.Packets.{read_event, read_none, read_other}
use Rattle.xns_calls.proofs.AtLines.{AreAt, both_at}
use Rattle.xns_calls.proofs.Parts.{added, far_text, flow_append, flow_at, other_text, own_text, plain, plain_one}

-- ---- what one flow reads

read_adds : (h : Heading) (s : Scene) → Adds h s.text (own_read h s).text
read_adds h s = flow_adds h (first_read h) s (first_adds h)

pub read_said : Origin → ℕ → Bool → Scene → List FlowSaid
read_said n m b s = (read_adds (heading_at n m b) s).said

one_text : (n : Origin) (m : ℕ) (b : Bool) (s : Scene) → (own_read (heading_at n m b) s).text ≡ s.text ++ parts_text (told n (flow_at m b) (read_said n m b s) ∷ [])
unfolding read_said
one_text n m b s =
    let x = read_adds (heading_at n m b) s in
    x.is ∙ ap (λ z. s.text ++ z) (sym (append-nil (said_texts (heading_at n m b) x.said)))

said_new : (n : Origin) (m : ℕ) (b : Bool) (s : Scene) → drop (length s.text) (own_read (heading_at n m b) s).text ≡ said_texts (heading_at n m b) (read_said n m b s)
unfolding read_said
said_new n m b s = let h = heading_at n m b in added h s.text (own_read h s).text (read_adds h s)

-- ---- for a flow that has begun, which is the scene's own

-- the events lead from a scene of the flow to another: what is printed between are parts, of which its own are what the events print
pub record Leads (n : Origin) (m : ℕ) (b : Bool) (s s' : Scene) (t : Told) (events : List Event) : Type 0 where
  pub at : AreAt (heading_at n m b) events
  pub track : s'.own.track ≡ Some (after_events events t).track
  pub is : after_events events t ≡ told_of (after_events events t).track s'
  pub parts : List Part
  pub text : s'.text ≡ s.text ++ parts_text parts
  pub own : texts_in (flow_at m b) parts ≡ flow_text events t

pub leads_nowhere : (n : Origin) (m : ℕ) (b : Bool) (s : Scene) (t : Told) → s.own.track ≡ Some t.track → t ≡ told_of t.track s → Leads n m b s s t []
leads_nowhere n m b s t track is = record { at = tt; track = track; is = is; parts = []; text = sym (append-nil s.text); own = refl }

pub leads_on : (n : Origin) (m : ℕ) (b : Bool) (s s' s'' : Scene) (t : Told) (es fs : List Event) → Leads n m b s s' t es → Leads n m b s' s'' (after_events es t) fs
    → Leads n m b s s'' t (es ++ fs)
leads_on n m b s s' s'' t es fs w v =
    let P = flow_at m b in
    let same = after_append es fs t in record {
      at = both_at (heading_at n m b) es fs w.at v.at;
      track = v.track ∙ ap (λ (x : Told). Some x.track) (sym same);
      is = same ∙ v.is ∙ ap (λ (x : Told). told_of x.track s'') (sym same);
      parts = w.parts ++ v.parts;
      text = v.text ∙ ap (λ z. z ++ parts_text v.parts) w.text ∙ append_assoc s.text (parts_text w.parts) (parts_text v.parts) ∙ ap (λ z. s.text ++ z) (sym (flat_map-append part_text w.parts v.parts));
      own = flat_map-append (text_in P) w.parts v.parts ∙ ap (λ z. z ++ texts_in P v.parts) w.own ∙ ap (λ z. flow_text es t ++ z) v.own ∙ sym (flow_append es fs t);
    }

-- events that bring no item lead to the scene
pub record Ran (n : Origin) (m : ℕ) (b : Bool) (s s' : Scene) (t : Told) : Type 0 where
  pub events : List Event
  pub are : plain events ≡ []
  pub leads : Leads n m b s s' t events

stays : (n : Origin) (m : ℕ) (b : Bool) (s : Scene) (t : Told) → s.own.track ≡ Some t.track → t ≡ told_of t.track s → Ran n m b s s t
stays n m b s t track is = record { events = []; are = refl; leads = leads_nowhere n m b s t track is }

-- the flow reads its first item
reads : (n : Origin) (m : ℕ) (b : Bool) (s : Scene) (t : Told) → s.own.track ≡ Some t.track → t ≡ told_of t.track s → Ran n m b s (own_read (heading_at n m b) s) t
reads n m b s t track is =
    let h = heading_at n m b in
    let u = first_read h t in
    let after : own_read h s ≡ after_told u s = read_event h s t.track track ∙ ap (λ (x : Told). after_told (first_read h x) s) (sym is) in record {
      events = read h ∷ [];
      are = refl;
      leads = record {
        at = (refl, tt);
        track = ap (λ (x : Scene). x.own.track) after;
        is = sym (ap (λ (x : Scene). told_of u.track x) after);
        parts = told n (flow_at m b) (read_said n m b s) ∷ [];
        text = one_text n m b s;
        own = ap (λ z. z ++ []) (own_text n m b (read_said n m b s) ∙ sym (said_new n m b s) ∙ ap (λ (x : Scene). drop (length s.text) x.text) after
            ∙ ap (λ (x : Told). drop (length x.text) u.text) (sym is));
      };
    }

-- the flow behind reads
waits : (n : Origin) (m : ℕ) (b : Bool) (s : Scene) (t : Told) → s.own.track ≡ Some t.track → t ≡ told_of t.track s
    → Ran n m b s (seen_from_other (own_read (heading_at n m (not b)) (seen_from_other s))) t
waits n m b s t track is =
    let x = seen_from_other s in
    let y = own_read (heading_at n m (not b)) x in record {
      events = meanwhile (record { own = y.other.call; asked = y.own.call }) y.text y.is_refused ∷ [];
      are = refl;
      leads = record {
        at = tt;
        track = read_other (heading_at n m (not b)) x ∙ track;
        is = refl;
        parts = told n (flow_at m (not b)) (read_said n m (not b) x) ∷ [];
        text = one_text n m (not b) x;
        own = ap (λ z. z ++ []) (other_text n m b (read_said n m (not b) x));
      };
    }

ran_on : (n : Origin) (m : ℕ) (b : Bool) (s s' s'' : Scene) (t : Told) → (w : Ran n m b s s' t) → Ran n m b s' s'' (after_events w.events t) → Ran n m b s s'' t
ran_on n m b s s' s'' t w v = record {
  events = w.events ++ v.events;
  are = flat_map-append plain_one w.events v.events ∙ ap (λ z. z ++ plain v.events) w.are ∙ v.are;
  leads = leads_on n m b s s' s'' t w.events v.events w.leads v.leads;
}

own_turn : (n : Origin) (m : ℕ) (b : Bool) (o : Option Bool) (s : Scene) (t : Told) → s.own.track ≡ Some t.track → t ≡ told_of t.track s → Ran n m b s (read_of (heading_at n m b) o s) t
own_turn n m b None s t track is = stays n m b s t track is
own_turn n m b (Some false) s t track is = reads n m b s t track is
own_turn n m b (Some true) s t track is = waits n m b s t track is

other_turn : (n : Origin) (m : ℕ) (q : Bool) (o : Option Bool) (s : Scene) (t : Told) → s.other.track ≡ Some t.track → t ≡ told_of t.track (seen_from_other s)
    → Ran n m (not q) (seen_from_other s) (seen_from_other (read_of (heading_at n m q) o s)) t
other_turn n m q None s t track is = stays n m (not q) (seen_from_other s) t track is
other_turn n m true (Some false) s t track is = waits n m false (seen_from_other s) t track is
other_turn n m false (Some false) s t track is = waits n m true (seen_from_other s) t track is
other_turn n m q (Some true) s t track is = reads n m (not q) (seen_from_other s) t track is

own_times : (n : Origin) (m : ℕ) (b : Bool) (count : ℕ) (given : Given) (s : Scene) (t : Told) → s.own.track ≡ Some t.track → t ≡ told_of t.track s → Ran n m b s (read_times count (heading_at n m b) given s) t
own_times n m b zero given s t track is = stays n m b s t track is
own_times n m b (suc count) given s t track is =
    let h = heading_at n m b in
    let s' = one_read h given s in
    let w = own_turn n m b (next_turn given s.own.track s.other.track) s t track is in
    ran_on n m b s s' (read_times count h given s') t w (own_times n m b count given s' (after_events w.events t) w.leads.track w.leads.is)

other_times : (n : Origin) (m : ℕ) (q : Bool) (count : ℕ) (given : Given) (s : Scene) (t : Told) → s.other.track ≡ Some t.track → t ≡ told_of t.track (seen_from_other s)
    → Ran n m (not q) (seen_from_other s) (seen_from_other (read_times count (heading_at n m q) given s)) t
other_times n m q zero given s t track is = stays n m (not q) (seen_from_other s) t track is
other_times n m q (suc count) given s t track is =
    let h = heading_at n m q in
    let s' = one_read h given s in
    let w = other_turn n m q (next_turn given s.own.track s.other.track) s t track is in
    ran_on n m (not q) (seen_from_other s) (seen_from_other s') (seen_from_other (read_times count h given s')) t w (other_times n m q count given s' (after_events w.events t) w.leads.track w.leads.is)

pub own_settled : (n : Origin) (m : ℕ) (b : Bool) (given : Given) (s : Scene) (t : Told) → s.own.track ≡ Some t.track → t ≡ told_of t.track s → Ran n m b s (settled (heading_at n m b) given s) t
unfolding settled
own_settled n m b given s t track is = own_times n m b (kept_item_count s.own.track + kept_item_count s.other.track) given s t track is

pub other_settled : (n : Origin) (m : ℕ) (q : Bool) (given : Given) (s : Scene) (t : Told) → s.other.track ≡ Some t.track → t ≡ told_of t.track (seen_from_other s)
    → Ran n m (not q) (seen_from_other s) (seen_from_other (settled (heading_at n m q) given s)) t
unfolding settled
other_settled n m q given s t track is = other_times n m q (kept_item_count s.own.track + kept_item_count s.other.track) given s t track is

-- ---- for a flow that has not begun

pub record Rests (m : ℕ) (b : Bool) (s s' : Scene) : Type 0 where
  pub track : s'.own.track ≡ None
  pub parts : List Part
  pub text : s'.text ≡ s.text ++ parts_text parts
  pub own : texts_in (flow_at m b) parts ≡ []

pub rests_so : (m : ℕ) (b : Bool) (s : Scene) → s.own.track ≡ None → Rests m b s s
rests_so m b s none = record { track = none; parts = []; text = sym (append-nil s.text); own = refl }

rests_own : (n : Origin) (m : ℕ) (b : Bool) (s : Scene) → s.own.track ≡ None → Rests m b s (own_read (heading_at n m b) s)
rests_own n m b s none =
    let same : own_read (heading_at n m b) s ≡ s = read_none (heading_at n m b) s none in record {
      track = ap (λ (x : Scene). x.own.track) same ∙ none;
      parts = [];
      text = ap (λ (x : Scene). x.text) same ∙ sym (append-nil s.text);
      own = refl;
    }

rests_behind : (n : Origin) (m : ℕ) (b : Bool) (s : Scene) → s.own.track ≡ None → Rests m b s (seen_from_other (own_read (heading_at n m (not b)) (seen_from_other s)))
rests_behind n m b s none =
    let x = seen_from_other s in record {
      track = read_other (heading_at n m (not b)) x ∙ none;
      parts = told n (flow_at m (not b)) (read_said n m (not b) x) ∷ [];
      text = one_text n m (not b) x;
      own = ap (λ z. z ++ []) (other_text n m b (read_said n m (not b) x));
    }

pub rests_on : (m : ℕ) (b : Bool) (s s' s'' : Scene) → Rests m b s s' → Rests m b s' s'' → Rests m b s s''
rests_on m b s s' s'' w v = record {
  track = v.track;
  parts = w.parts ++ v.parts;
  text = v.text ∙ ap (λ z. z ++ parts_text v.parts) w.text ∙ append_assoc s.text (parts_text w.parts) (parts_text v.parts) ∙ ap (λ z. s.text ++ z) (sym (flat_map-append part_text w.parts v.parts));
  own = flat_map-append (text_in (flow_at m b)) w.parts v.parts ∙ ap (λ z. z ++ texts_in (flow_at m b) v.parts) w.own ∙ v.own;
}

-- where what one flow does, and what the flow behind does, leaves a flow as one that has not begun, a turn of either does
pub record TurnsRest (n : Origin) (m : ℕ) (turned : Heading → Option Bool → Scene → Scene) : Type 0 where
  pub none : (h : Heading) (s : Scene) → turned h None s ≡ s
  pub behind_is : (h : Heading) (s : Scene) → turned h (Some true) s ≡ seen_from_other (turned (of_other h) (Some false) (seen_from_other s))
  pub own : (b : Bool) (s : Scene) → s.own.track ≡ None → Rests m b s (turned (heading_at n m b) (Some false) s)
  pub behind : (b : Bool) (s : Scene) → s.own.track ≡ None → Rests m b s (seen_from_other (turned (heading_at n m (not b)) (Some false) (seen_from_other s)))

pub own_turn_rests : (n : Origin) (m : ℕ) (turned : Heading → Option Bool → Scene → Scene) → TurnsRest n m turned → (b : Bool) (o : Option Bool) (s : Scene) → s.own.track ≡ None
    → Rests m b s (turned (heading_at n m b) o s)
own_turn_rests n m turned w b None s none = subst (Rests m b s) (sym (w.none (heading_at n m b) s)) (rests_so m b s none)
own_turn_rests n m turned w b (Some false) s none = w.own b s none
own_turn_rests n m turned w b (Some true) s none = subst (Rests m b s) (sym (w.behind_is (heading_at n m b) s)) (w.behind b s none)

pub other_turn_rests : (n : Origin) (m : ℕ) (turned : Heading → Option Bool → Scene → Scene) → TurnsRest n m turned → (q : Bool) (o : Option Bool) (s : Scene) → s.other.track ≡ None
    → Rests m (not q) (seen_from_other s) (seen_from_other (turned (heading_at n m q) o s))
other_turn_rests n m turned w q None s none =
    subst (λ x. Rests m (not q) (seen_from_other s) (seen_from_other x)) (sym (w.none (heading_at n m q) s)) (rests_so m (not q) (seen_from_other s) none)
other_turn_rests n m turned w true (Some false) s none = w.behind false (seen_from_other s) none
other_turn_rests n m turned w false (Some false) s none = w.behind true (seen_from_other s) none
other_turn_rests n m turned w q (Some true) s none =
    subst (λ x. Rests m (not q) (seen_from_other s) (seen_from_other x)) (sym (w.behind_is (heading_at n m q) s)) (w.own (not q) (seen_from_other s) none)

reads_rest : (n : Origin) (m : ℕ) → TurnsRest n m read_of
reads_rest n m = record { none = λ h s. refl; behind_is = λ h s. refl; own = rests_own n m; behind = rests_behind n m }

own_rests : (n : Origin) (m : ℕ) (b : Bool) (count : ℕ) (given : Given) (s : Scene) → s.own.track ≡ None → Rests m b s (read_times count (heading_at n m b) given s)
own_rests n m b zero given s none = rests_so m b s none
own_rests n m b (suc count) given s none =
    let h = heading_at n m b in
    let s' = one_read h given s in
    let w = own_turn_rests n m read_of (reads_rest n m) b (next_turn given s.own.track s.other.track) s none in
    rests_on m b s s' (read_times count h given s') w (own_rests n m b count given s' w.track)

other_rests : (n : Origin) (m : ℕ) (q : Bool) (count : ℕ) (given : Given) (s : Scene) → s.other.track ≡ None
    → Rests m (not q) (seen_from_other s) (seen_from_other (read_times count (heading_at n m q) given s))
other_rests n m q zero given s none = rests_so m (not q) (seen_from_other s) none
other_rests n m q (suc count) given s none =
    let h = heading_at n m q in
    let s' = one_read h given s in
    let w = other_turn_rests n m read_of (reads_rest n m) q (next_turn given s.own.track s.other.track) s none in
    rests_on m (not q) (seen_from_other s) (seen_from_other s') (seen_from_other (read_times count h given s')) w (other_rests n m q count given s' w.track)

pub own_settles : (n : Origin) (m : ℕ) (b : Bool) (given : Given) (s : Scene) → s.own.track ≡ None → Rests m b s (settled (heading_at n m b) given s)
unfolding settled
own_settles n m b given s none = own_rests n m b (kept_item_count s.own.track + kept_item_count s.other.track) given s none

pub other_settles : (n : Origin) (m : ℕ) (q : Bool) (given : Given) (s : Scene) → s.other.track ≡ None → Rests m (not q) (seen_from_other s) (seen_from_other (settled (heading_at n m q) given s))
unfolding settled
other_settles n m q given s none = other_rests n m q (kept_item_count s.own.track + kept_item_count s.other.track) given s none

-- ---- for the flows of other connections

pub record Says (m : ℕ) (s s' : Scene) : Type 0 where
  pub parts : List Part
  pub text : s'.text ≡ s.text ++ parts_text parts
  pub far : (m' : ℕ) (b' : Bool) → (m' == m) ≡ false → texts_in (flow_at m' b') parts ≡ []

says_of : (n : Origin) (m : ℕ) (q : Bool) (o : Option Bool) (s : Scene) → Says m s (read_of (heading_at n m q) o s)
says_of n m q None s = record { parts = []; text = sym (append-nil s.text); far = λ m' b' e. refl }
says_of n m q (Some false) s = record {
  parts = told n (flow_at m q) (read_said n m q s) ∷ [];
  text = one_text n m q s;
  far = λ m' b' e. ap (λ z. z ++ []) (far_text n m' m b' q (read_said n m q s) e);
}
says_of n m q (Some true) s =
    let x = seen_from_other s in record {
      parts = told n (flow_at m (not q)) (read_said n m (not q) x) ∷ [];
      text = one_text n m (not q) x;
      far = λ m' b' e. ap (λ z. z ++ []) (far_text n m' m b' (not q) (read_said n m (not q) x) e);
    }

pub says_on : (m : ℕ) (s s' s'' : Scene) → Says m s s' → Says m s' s'' → Says m s s''
says_on m s s' s'' w v = record {
  parts = w.parts ++ v.parts;
  text = v.text ∙ ap (λ z. z ++ parts_text v.parts) w.text ∙ append_assoc s.text (parts_text w.parts) (parts_text v.parts) ∙ ap (λ z. s.text ++ z) (sym (flat_map-append part_text w.parts v.parts));
  far = λ m' b' e. flat_map-append (text_in (flow_at m' b')) w.parts v.parts ∙ ap (λ z. z ++ texts_in (flow_at m' b') v.parts) (w.far m' b' e) ∙ v.far m' b' e;
}

says_times : (n : Origin) (m : ℕ) (q : Bool) (count : ℕ) (given : Given) (s : Scene) → Says m s (read_times count (heading_at n m q) given s)
says_times n m q zero given s = record { parts = []; text = sym (append-nil s.text); far = λ m' b' e. refl }
says_times n m q (suc count) given s =
    let h = heading_at n m q in
    let s' = one_read h given s in
    says_on m s s' (read_times count h given s') (says_of n m q (next_turn given s.own.track s.other.track) s) (says_times n m q count given s')

pub settled_says : (n : Origin) (m : ℕ) (q : Bool) (given : Given) (s : Scene) → Says m s (settled (heading_at n m q) given s)
unfolding settled
settled_says n m q given s = says_times n m q (kept_item_count s.own.track + kept_item_count s.other.track) given s
