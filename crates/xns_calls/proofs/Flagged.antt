-- What is said of a flow and of a connection has the word `refused` exactly where the flag is set with it.
use Rattle.std.proofs.Common.{◌≡◌, ◌∙◌, ap, sym, refl, ℕ, zero, suc, ◌+◌, ◌-◌, ◌==◌, ◌||◌, Bool, true, false, List, [], ◌∷◌, ◌++◌, Option, Some, None}
use Rattle.std.proofs.Math.Bool.{or-false, or-true, or_assoc}
use Rattle.std.specs.Prelude.{nat_lt}
use Rattle.xns_idp.specs.Packet.{PacketModel}
use Rattle.xns_spp.specs.Header.{is_system}
use Rattle.xns_spp.specs.declared.header.Header.{Header}
use Rattle.xns_spp.specs.declared.item.Item.{Item}
use Rattle.xns_calls.specs.declared.carried.Carried.{Carried}
use Rattle.xns_calls.specs.declared.given.Given.{Given}
use Rattle.xns_dump.specs.Laws.{IsLoud, SaysNoRefusal, JoinedTextsSayRefused, OnlyRefusalsSayRefused, says_refused}
use Rattle.xns_calls.specs.Numbers.{most_early}
use Rattle.xns_calls.specs.AtEnd.{both_ended, end_turn, ended_of, ended_times, first_in, one_ended, own_ended, read_behind}
use Rattle.xns_calls.specs.declared.first_kept.FirstKept.{FirstKept}
use Rattle.xns_calls.specs.Exchange.{Scene, advance_other, advance_own, advanced, after_content, after_data, after_new, after_number, after_packet, begin_track, begun, carried, new_number, in_flow, in_track, of_other, other_reached, own_reached, reached, seen_from_other, told_of}
use Rattle.xns_calls.specs.Reading.{Told, after_heard, brought, brought_over, first_read, first_read_over, item_read, item_taken, passed, past, read_next, said_item}
use Rattle.xns_calls.specs.Read.{kept_item_count, one_read, own_read, read_of, read_times, settled}
use Rattle.xns_calls.specs.Turns.{next_turn}
use Rattle.xns_calls.specs.Speech.{heard_of}
use Rattle.xns_calls.specs.Telling.{heard_text, is_fault}
use Rattle.xns_calls.specs.Unanswered.{UnansweredCalls}
use Rattle.xns_calls.specs.declared.early.Early.{Early}
use Rattle.xns_calls.specs.declared.due.Due.{Due}
use Rattle.xns_calls.specs.declared.heading.Heading.{Heading}
use Rattle.xns_calls.specs.declared.heard.Heard.{Heard}
use Rattle.xns_calls.specs.declared.heard.Heard.TheVariants as heard
use Rattle.xns_calls.specs.declared.track.Track.{Track}
use Rattle.xns_calls.proofs.Quiet.{IsPlain, cases, flow_is, message_is, missing_is, refused_is}

-- ---- a text and a flag

pub Tells : Bool → List ℕ → Type 0
Tells true xs = IsLoud xs
Tells false xs = SaysNoRefusal xs

-- since the flag was b, the text has the word where the flag was set
pub record Says (b : Bool) (text : List ℕ) (flag : Bool) : Type 0 where
  pub new : Bool
  pub flag_is : flag ≡ (b || new)
  pub tells : Tells new text

abbrev SaysTold : Bool → Told → Type 0
SaysTold b t = Says b t.text t.is_refused

abbrev pub SaysScene : Bool → Scene → Type 0
SaysScene b s = Says b s.text s.is_refused

module _ (joined : JoinedTextsSayRefused) (only : OnlyRefusalsSayRefused) where
  -- ---- the flag is set where the text has the word

  tells_both : (b c : Bool) (xs ys : List ℕ) → Tells b xs → Tells c ys → Tells (b || c) (xs ++ ys)
  unfolding Tells
  tells_both true c xs ys h k = joined.loud_before xs ys h
  tells_both false true xs ys h k = joined.loud_behind xs ys h k
  tells_both false false xs ys h k = joined.quiet xs ys h k

  says_more : (b : Bool) (text more : List ℕ) (flag c : Bool) → Says b text flag → Tells c more → Says b (text ++ more) (flag || c)
  says_more b text more flag c s t = record {
    new = s.new || c;
    flag_is = ap (λ f. f || c) s.flag_is ∙ or_assoc b s.new c;
    tells = tells_both s.new c text more s.tells t;
  }

  pub says_quiet : (b : Bool) (text more : List ℕ) (flag : Bool) → Says b text flag → SaysNoRefusal more → Says b (text ++ more) flag
  unfolding Tells
  says_quiet b text more flag s q = record {
    new = s.new || false;
    flag_is = s.flag_is ∙ ap (λ c. b || c) (sym (or-false s.new));
    tells = tells_both s.new false text more s.tells q;
  }

  pub says_loud : (b : Bool) (text more : List ℕ) (flag : Bool) → Says b text flag → IsLoud more → Says b (text ++ more) true
  unfolding Tells
  says_loud b text more flag s l = record {
    new = s.new || true;
    flag_is = sym (or-true b) ∙ ap (λ c. b || c) (sym (or-true s.new));
    tells = tells_both s.new true text more s.tells l;
  }

  -- two texts, of which the second begins with the first one's flag
  pub says_on : {b flag last : Bool} {xs ys : List ℕ} → Says b xs flag → Says flag ys last → Says b (xs ++ ys) last
  says_on {b} {flag} {last} {xs} {ys} s t = record {
    new = s.new || t.new;
    flag_is = t.flag_is ∙ ap (λ f. f || t.new) s.flag_is ∙ or_assoc b s.new t.new;
    tells = tells_both s.new t.new xs ys s.tells t.tells;
  }

  pub none_said : (b : Bool) → Says b [] b
  unfolding Tells
  none_said b = record { new = false; flag_is = sym (or-false b); tells = record { skips = λ ys. refl } }

  tells_is : (c : Bool) (xs : List ℕ) → Tells c xs → says_refused xs ≡ c
  unfolding Tells
  tells_is true xs h = joined.said xs h
  tells_is false xs h = joined.silent xs h

  pub says_it : {xs : List ℕ} {flag : Bool} → Says false xs flag → says_refused xs ≡ flag
  says_it {xs} s = tells_is s.new xs s.tells ∙ sym s.flag_is

  -- ---- a flow

  passed_says : (b : Bool) (h : Heading) (n : ℕ) (t : Told) → SaysTold b t → SaysTold b (passed h n t)
  unfolding passed
  passed_says b h n t s = cases (SaysTold b) (nat_lt t.track.next n) (past h n t) t (says_quiet b t.text _ t.is_refused s (missing_is joined only h t.track.next n)) s

  heard_tells : (h : Heading) (plain : IsPlain h) (calls : UnansweredCalls) (x : Heard) → Tells (is_fault x) (heard_text h calls x)
  unfolding Tells
  heard_tells h plain calls heard.Nothing = record { skips = λ ys. refl }
  heard_tells h plain calls (heard.Message m) = message_is joined only h plain calls m
  heard_tells h plain calls (heard.Fault fault) = refused_is joined only h fault

  said_says : (b : Bool) (h : Heading) (plain : IsPlain h) (item : Item) (t : Told) → SaysTold b t → SaysTold b (said_item h item t)
  unfolding said_item after_heard
  said_says b h plain item t s = says_more b t.text _ t.is_refused _ s (heard_tells h plain t.calls (heard_of t.track.speech item))

  next_says : (b : Bool) (h : Heading) (plain : IsPlain h) (n : ℕ) (item : Item) (t : Told) → SaysTold b t → SaysTold b (read_next h n item t)
  next_says b h plain n item t s =
      let onwards : Told = record t { track = record t.track { next = n } } in cases (SaysTold b) (item.stream == 0) (said_item h item onwards) onwards (said_says b h plain item onwards s) s

  read_says : (b : Bool) (h : Heading) (plain : IsPlain h) (early : Early) (t : Told) → SaysTold b t → SaysTold b (item_read h early t)
  unfolding item_read
  read_says b h plain early t s = next_says b h plain (early.number + 1) early.item.item (passed h early.number t) (passed_says b h early.number t s)

  over_says : (b : Bool) (h : Heading) (plain : IsPlain h) (n : ℕ) (es : List Early) (t : Told) → SaysTold b t → SaysTold b (brought_over h n es t)
  over_says b h plain n [] t s = passed_says b h n t s
  over_says b h plain n (early ∷ rest) t s =
      let left : Told = record t { track = record t.track { early = rest } } in
      cases (SaysTold b) (nat_lt early.number n) (brought_over h n rest (item_read h early left)) (passed h n t) (over_says b h plain n rest (item_read h early left) (read_says b h plain early left s)) (passed_says b h n t s)

  brought_says : (b : Bool) (h : Heading) (plain : IsPlain h) (n : ℕ) (t : Told) → SaysTold b t → SaysTold b (brought h n t)
  unfolding brought
  brought_says b h plain n t s = over_says b h plain n t.track.early t s

  first_over_says : (b : Bool) (h : Heading) (plain : IsPlain h) (es : List Early) (t : Told) → SaysTold b t → SaysTold b (first_read_over h es t)
  first_over_says b h plain [] t s = s
  first_over_says b h plain (early ∷ rest) t s =
      let left : Told = record t { track = record t.track { early = rest } } in
      cases (SaysTold b) (nat_lt t.track.next early.number) t (item_read h early left) s (read_says b h plain early left s)

  first_says : (b : Bool) (h : Heading) (plain : IsPlain h) (t : Told) → SaysTold b t → SaysTold b (first_read h t)
  unfolding first_read
  first_says b h plain t s = first_over_says b h plain t.track.early t s

  -- ---- a connection

  -- what is read of one flow says no less where both are seen
  flow_says : (b : Bool) (reads : Told → Told) (s : Scene) → ((t : Told) → SaysTold b t → SaysTold b (reads t)) → SaysScene b s → SaysScene b (in_flow reads s)
  unfolding in_flow
  flow_says b reads s says k = by_track s.own.track
    where
      by_track : (o : Option Track) → SaysScene b (in_track reads o s)
      by_track None = k
      by_track (Some track) = says (told_of track s) k

  advanced_says : (b : Bool) (h : Heading) (plain : IsPlain h) (n : ℕ) (s : Scene) → SaysScene b s → SaysScene b (advanced h n s)
  advanced_says b h plain n s k = flow_says b (brought h n) s (brought_says b h plain n) k

  other_says : (b : Bool) (h : Heading) (plain : IsPlain h) (o : Option ℕ) (s : Scene) → SaysScene b s → SaysScene b (advance_other h o s)
  other_says b h plain None s k = k
  other_says b h plain (Some n) s k = advanced_says b (of_other h) plain n (seen_from_other s) k

  reached_says : (b : Bool) (h : Heading) (plain : IsPlain h) (number : Option ℕ) (s : Scene) → SaysScene b s → SaysScene b (other_reached h number s)
  unfolding other_reached
  reached_says b h plain number s k = other_says b h plain (reached s.other.track number) s k

  own_says : (b : Bool) (h : Heading) (plain : IsPlain h) (o : Option ℕ) (s : Scene) → SaysScene b s → SaysScene b (advance_own h o s)
  own_says b h plain None s k = k
  own_says b h plain (Some n) s k = advanced_says b h plain n s k

  own_reached_says : (b : Bool) (h : Heading) (plain : IsPlain h) (number : Option ℕ) (s : Scene) → SaysScene b s → SaysScene b (own_reached h number s)
  unfolding own_reached
  own_reached_says b h plain number s k = own_says b h plain (reached s.own.track number) s k

  begin_says : (b : Bool) (h : Heading) (p : PacketModel) (f : Header) (o : Option Track) (s : Scene) → SaysScene b s → SaysScene b (begin_track h p f o s)
  begin_says b h p f (Some track) s k = k
  begin_says b h p f None s k = says_quiet b s.text _ s.is_refused k (flow_is joined only h p f)

  begun_says : (b : Bool) (h : Heading) (p : PacketModel) (f : Header) (s : Scene) → SaysScene b s → SaysScene b (begun h p f s)
  unfolding begun
  begun_says b h p f s k = begin_says b h p f s.own.track s k

  new_says : (b : Bool) (h : Heading) (plain : IsPlain h) (n : ℕ) (item : Carried) (s : Scene) → SaysScene b s → SaysScene b (after_new h n item s)
  unfolding after_new
  new_says b h plain n item s k = flow_says b (item_taken h n item) s (brought_says b h plain (n - most_early)) k

  number_says : (b : Bool) (h : Heading) (plain : IsPlain h) (o : Option ℕ) (item : Carried) (s : Scene) → SaysScene b s → SaysScene b (after_number h o item s)
  number_says b h plain None item s k = k
  number_says b h plain (Some n) item s k = new_says b h plain n item s k

  data_says : (b : Bool) (h : Heading) (plain : IsPlain h) (a : Option ℕ) (p : PacketModel) (f : Header) (content : List ℕ) (s : Scene) → SaysScene b s → SaysScene b (after_data h a p f content s)
  unfolding after_data
  data_says b h plain a p f content s k =
      let u = begun h p f s in number_says b h plain (new_number u.own.track f.sequence) (carried h a f content) u (begun_says b h p f s k)

  content_says : (b : Bool) (h : Heading) (plain : IsPlain h) (a : Option ℕ) (p : PacketModel) (f : Header) (content : List ℕ) (s : Scene) → SaysScene b s → SaysScene b (after_content h a p f content s)
  unfolding after_content
  content_says b h plain a p f content s k = cases (SaysScene b) (is_system f) s (after_data h a p f content s) k (data_says b h plain a p f content s k)

  pub packet_says : (b : Bool) (h : Heading) (plain : IsPlain h) (due : Due) (p : PacketModel) (f : Header) (content : List ℕ) (s : Scene) → SaysScene b s → SaysScene b (after_packet h due p f content s)
  unfolding after_packet
  packet_says b h plain due p f content s k =
      let u = other_reached h due.other s in
      let v = after_content h due.acknowledged p f content u in
      own_reached_says b h plain due.own v (content_says b h plain due.acknowledged p f content u (reached_says b h plain due.other s k))

  own_read_says : (b : Bool) (h : Heading) (plain : IsPlain h) (s : Scene) → SaysScene b s → SaysScene b (own_read h s)
  own_read_says b h plain s k = flow_says b (first_read h) s (first_says b h plain) k

  turn_says : (b : Bool) (h : Heading) (plain : IsPlain h) (o : Option Bool) (s : Scene) → SaysScene b s → SaysScene b (read_of h o s)
  turn_says b h plain None s k = k
  turn_says b h plain (Some false) s k = own_read_says b h plain s k
  turn_says b h plain (Some true) s k = own_read_says b (of_other h) plain (seen_from_other s) k

  times_say : (b : Bool) (h : Heading) (plain : IsPlain h) (n : ℕ) (given : Given) (s : Scene) → SaysScene b s → SaysScene b (read_times n h given s)
  times_say b h plain zero given s k = k
  times_say b h plain (suc n) given s k = times_say b h plain n given (one_read h given s) (turn_says b h plain (next_turn given s.own.track s.other.track) s k)

  pub settled_says : (b : Bool) (h : Heading) (plain : IsPlain h) (given : Given) (s : Scene) → SaysScene b s → SaysScene b (settled h given s)
  unfolding settled
  settled_says b h plain given s k = times_say b h plain (kept_item_count s.own.track + kept_item_count s.other.track) given s k

  -- ---- the end of a connection

  behind_says : (b : Bool) (h : Heading) (plain : IsPlain h) (o : Option FirstKept) (s : Scene) → SaysScene b s → SaysScene b (read_behind h o s)
  behind_says b h plain None s k = k
  behind_says b h plain (Some first) s k =
      let u = other_reached h first.acknowledged s in own_says b h plain (Some (first.number + 1)) u (reached_says b h plain first.acknowledged s k)

  own_ended_says : (b : Bool) (h : Heading) (plain : IsPlain h) (s : Scene) → SaysScene b s → SaysScene b (own_ended h s)
  unfolding own_ended
  own_ended_says b h plain s k = behind_says b h plain (first_in s.own.track) s k

  end_says : (b : Bool) (h : Heading) (plain : IsPlain h) (o : Option Bool) (s : Scene) → SaysScene b s → SaysScene b (ended_of h o s)
  end_says b h plain None s k = k
  end_says b h plain (Some false) s k = own_ended_says b h plain s k
  end_says b h plain (Some true) s k = own_ended_says b (of_other h) plain (seen_from_other s) k

  ends_say : (b : Bool) (h : Heading) (plain : IsPlain h) (n : ℕ) (s : Scene) → SaysScene b s → SaysScene b (ended_times n h s)
  ends_say b h plain zero s k = k
  ends_say b h plain (suc n) s k = ends_say b h plain n (one_ended h s) (end_says b h plain (end_turn s.own.track s.other.track) s k)

  pub both_say : (b : Bool) (h : Heading) (plain : IsPlain h) (s : Scene) → SaysScene b s → SaysScene b (both_ended h s)
  unfolding both_ended
  both_say b h plain s k = ends_say b h plain (kept_item_count s.own.track + kept_item_count s.other.track) s k
