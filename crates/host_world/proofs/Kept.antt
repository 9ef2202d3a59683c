-- Whatever steps led there, the connections are peers.
use Rattle.std.proofs.Common.{◌≡◌, ◌∙◌, ◌≤◌, ◌-◌, ◌||◌, ap, sym, refl, subst, ℕ, zero, suc, Bool, true, false, List, [], ◌∷◌, ◌++◌, append-nil, append_assoc, map, take, length, Option, Some, None, arith}
use Rattle.std.specs.Prelude.{slice_get, slice_set, All, Contains, nat_lt, if◌then◌else◌}
use Rattle.std.specs.Option.{option_map, option_to_list}
use Rattle.std.proofs.Math.Seq.{take-append_seam}
use Rattle.std.proofs.lemmas.Bool.{le-ltb}
use Rattle.std.proofs.lemmas.List.Elements.{All-nil, All-cons, All-append, All-weaker, All-take, All-contains}
use Rattle.std.proofs.lemmas.Option.{slice_get-map}
use Rattle.courier_sessions.specs.declared.program.Program.{Program}
use Rattle.xns_spp.specs.Fronts.{last_of}
use Rattle.xns_spp.specs.Growth.{Begins}
use Rattle.xns_spp.specs.Receiving.{receive_answer, after_receive, is_ours}
use Rattle.xns_spp.specs.State.{State}
use Rattle.xns_spp.specs.declared.item.Item.{Item}
use Rattle.item_world.specs.EndLaws.{EndLaws}
use Rattle.item_world.specs.Invariant.{Holds, StandsBesidePeer}
use Rattle.item_world.specs.Landing.{with_arrival, landed, landing}
use Rattle.item_world.specs.Laws.{EachStepKeepsTheOrder}
use Rattle.item_world.specs.Side.{other}
use Rattle.item_world.specs.World.{World, end_at, lifetime, marked_delivered, has_passed, sent_packets, sender_and_bytes}
use Rattle.item_world.specs.declared.emitted.Emitted.{Emitted}
use Rattle.item_world.specs.declared.side.Side.{Side}
use Rattle.item_world.specs.declared.side.Side.TheVariants.{A, B}
use Rattle.item_world.proofs.Fronts.{begins_get}
use Rattle.item_world.proofs.Sides.{same_end, same_marked, same_other}
use Rattle.xns_connection.specs.Acting.{Acts, idling, calling, handing, answering, IsTold}
use Rattle.xns_connection.specs.Agreeing.{ArePeers}
use Rattle.xns_connection.specs.Living.{Deeds}
use Rattle.xns_connection.specs.Story.{Story, ProgramDoesNothing, made_on, new_story, with_handed}
use Rattle.xns_connection.specs.Telling.{Tells}
use Rattle.xns_connection.specs.declared.conversation.Conversation.{Conversation}
use Rattle.xns_connection.specs.declared.side.Side.{Side as Kind}
use Rattle.xns_connection.specs.declared.side.Side.TheVariants.{Calls, Answers}
use Rattle.host_world.specs.MeetingLaws.{StoryLaws}
use Rattle.host_world.specs.Meeting.{Meeting, at, new_meeting, led, Next, went_on, HasMade}
use Rattle.host_world.specs.Meets.{heard_story, Meets, MeetingStep, acts, arrives, gives, moves, opens, strays, IsMet}
use Rattle.host_world.specs.Pairing.{MayCome, WasMade, made as comes}
use Rattle.host_world.specs.Station.{IsStation, calling_end, called_end}
use Rattle.host_world.specs.declared.station.Station.{Station}
use Rattle.host_world.proofs.Led.{moved_bag, led_end, led_other, led_bag, led_holds, are_items, by}

-- ---- what was made stays in the bag

abbrev Sent : Type 0
Sent = List (Side × List ℕ)

still_made : (w v : World) (side : Side) (b : List ℕ) → Begins (sent_packets w) (sent_packets v) → HasMade w side b → HasMade v side b
still_made w v side b more made = (made.0, begins_get (sent_packets w) (sent_packets v) made.0 (side, b) more made.1)

all_still : (w v : World) (side : Side) (bs : List (List ℕ)) → Begins (sent_packets w) (sent_packets v) → All (HasMade w side) bs → All (HasMade v side) bs
all_still w v side bs more all = All-weaker (HasMade w side) (HasMade v side) (λ b made. still_made w v side b more made) bs all

all_made : (w : World) (base : Sent) (side : Side) (bs : List (List ℕ)) → base ++ map (by side) bs ≡ sent_packets w → All (HasMade w side) bs
all_made w base side [] e = All-nil (HasMade w side)
all_made w base side (b ∷ bs) e =
    let more : (base ++ (side, b) ∷ []) ++ map (by side) bs ≡ sent_packets w = append_assoc base ((side, b) ∷ []) (map (by side) bs) ∙ e in
    All-cons (HasMade w side) b bs (length base, last_of base (side, b) (sent_packets w) (map (by side) bs, more)) (all_made w (base ++ (side, b) ∷ []) side bs more)

-- the mark that a packet was delivered changes neither its sender nor its bytes
set_same : (bag : List Emitted) (k : ℕ) (x : Emitted) → slice_get bag k ≡ Some x → map sender_and_bytes (slice_set bag k (record x { delivered = true })) ≡ map sender_and_bytes bag
set_same [] k x e = absurd (cc)
set_same (y ∷ bag) zero x e = let same : y ≡ x = cc in ap (λ (z : Emitted). sender_and_bytes z ∷ map sender_and_bytes bag) (sym same)
set_same (y ∷ bag) (suc k) x e = ap (λ (l : Sent). sender_and_bytes y ∷ l) (set_same bag k x e)

-- ---- what is true at every moment

abbrev pub IsToldAt : (a b : Station) → List Program → Side → Conversation → Deeds → Story → Type 0
IsToldAt a b programs A c l h = IsTold None (calling_end a b) c l h
IsToldAt a b programs B c l h = IsTold (Some programs) (called_end b a) c l h

pub record Keeps (a b : Station) (programs : List Program) (m : Meeting) : Type 0 where
  pub told : (side : Side) → IsToldAt a b programs side (at m side).conversation (at m side).deeds (at m side).story
  pub ends : (side : Side) → end_at m.world side ≡ (at m side).story.state
  pub holds : Holds m.world
  pub made : (side : Side) → All (HasMade m.world side) ((at m side).given ++ (at m side).conversation.packets.items)

-- a connection goes on
record Goes (a b : Station) (programs : List Program) (m : Meeting) (u : World) (side : Side) {base : Story} (n : Next base) (l : Deeds) (given : List (List ℕ)) : Type 0 where
  pub told : IsToldAt a b programs side n.conversation l n.story
  pub here : end_at u side ≡ base.state
  pub there : end_at u (other side) ≡ end_at m.world (other side)
  pub holds : Holds u
  pub bag : Begins (sent_packets m.world) (sent_packets u)
  pub made : All (HasMade (led u side n.on.path) side) (given ++ n.conversation.packets.items)

more_bag : (w u : World) (side : Side) {base : Story} (n : Next base) → end_at u side ≡ base.state → Begins (sent_packets w) (sent_packets u) → Begins (sent_packets w) (sent_packets (led u side n.on.path))
more_bag w u side n e b = (
  b.0 ++ map (by side) (made_on n.on.path),
  sym (append_assoc (sent_packets w) b.0 (map (by side) (made_on n.on.path))) ∙ ap (λ (l : Sent). l ++ map (by side) (made_on n.on.path)) b.1 ∙ sym (led_bag u side n.on.path e),
)

went : EndLaws → EachStepKeepsTheOrder → {a b : Station} {programs : List Program} (m : Meeting) (u : World) (side : Side) {base : Story} (n : Next base) (l : Deeds) (given : List (List ℕ)) → Keeps a b programs m → Goes a b programs m u side n l given
    → Keeps a b programs (went_on m u side n l given)
went laws keeps {a} {b} {programs} m u A n l given k g = record {
  told = λ side. elim side as (λ s. IsToldAt a b programs s (at (went_on m u A n l given) s).conversation (at (went_on m u A n l given) s).deeds (at (went_on m u A n l given) s).story) [ A ↦ g.told | B ↦ k.told B ];
  ends = λ side. elim side as (λ s. end_at (led u A n.on.path) s ≡ (at (went_on m u A n l given) s).story.state) [ A ↦ led_end u A n.on.path g.here | B ↦ led_other u A n.on.path ∙ g.there ∙ k.ends B ];
  holds = led_holds laws keeps u A n.on.path g.here (are_items n.story.state n.tells.stands.fits) g.holds;
  made = λ side. elim side as (λ s. All (HasMade (led u A n.on.path) s) ((at (went_on m u A n l given) s).given ++ (at (went_on m u A n l given) s).conversation.packets.items)) [
    | A ↦ g.made
    | B ↦ all_still m.world (led u A n.on.path) B (m.b.given ++ m.b.conversation.packets.items) (more_bag m.world u A n g.here g.bag) (k.made B)
  ];
}
went laws keeps {a} {b} {programs} m u B n l given k g = record {
  told = λ side. elim side as (λ s. IsToldAt a b programs s (at (went_on m u B n l given) s).conversation (at (went_on m u B n l given) s).deeds (at (went_on m u B n l given) s).story) [ A ↦ k.told A | B ↦ g.told ];
  ends = λ side. elim side as (λ s. end_at (led u B n.on.path) s ≡ (at (went_on m u B n l given) s).story.state) [ A ↦ led_other u B n.on.path ∙ g.there ∙ k.ends A | B ↦ led_end u B n.on.path g.here ];
  holds = led_holds laws keeps u B n.on.path g.here (are_items n.story.state n.tells.stands.fits) g.holds;
  made = λ side. elim side as (λ s. All (HasMade (led u B n.on.path) s) ((at (went_on m u B n l given) s).given ++ (at (went_on m u B n l given) s).conversation.packets.items)) [
    | A ↦ all_still m.world (led u B n.on.path) A (m.a.given ++ m.a.conversation.packets.items) (more_bag m.world u B n g.here g.bag) (k.made A)
    | B ↦ g.made
  ];
}

-- ---- each step

-- what the program does leaves the end
pub acts_end : {c : Conversation} {h b : Story} {l r : Deeds} → Acts c h l b r → b.state ≡ h.state
acts_end idling = refl
acts_end (calling call) = refl
acts_end {c = c} {h = h} (handing m is) = same c.side where
  same : (side : Kind) → (with_handed side h m).state ≡ h.state
  same (Calls t) = refl
  same (Answers t) = refl
acts_end (answering kind k words asked) = refl

act_told : StoryLaws → (a b : Station) (programs : List Program) (side : Side) (c d : Conversation) (l r : Deeds) (h x m : Story) → IsToldAt a b programs side c l h → Acts c h l x r → Tells d m → ProgramDoesNothing x m → IsToldAt a b programs side d r m
act_told laws a b programs A c d l r h x m told act tells on = laws.acts None (calling_end a b) c d l r h x m told act tells on
act_told laws a b programs B c d l r h x m told act tells on = laws.acts (Some programs) (called_end b a) c d l r h x m told act tells on

hear_told : StoryLaws → (a b : Station) (programs : List Program) (side : Side) (c d : Conversation) (l : Deeds) (h m : Story) (bytes : List ℕ) → IsToldAt a b programs side c l h → Tells d m → ProgramDoesNothing (record h { state = after_receive h.state bytes }) m
    → IsToldAt a b programs side d l m
hear_told laws a b programs A c d l h m bytes told tells on = laws.hears None (calling_end a b) c d l h m bytes told tells on
hear_told laws a b programs B c d l h m bytes told tells on = laws.hears (Some programs) (called_end b a) c d l h m bytes told tells on

-- the packets that wait are the same
waits_on : {a b : Station} {programs : List Program} (m : Meeting) (u : World) (side : Side) {base : Story} (n : Next base) → Keeps a b programs m → end_at u side ≡ base.state → Begins (sent_packets m.world) (sent_packets u) → n.conversation.packets ≡ (at m side).conversation.packets
    → All (HasMade (led u side n.on.path) side) ((at m side).given ++ n.conversation.packets.items)
waits_on m u side n k e b same =
    let old = (at m side).conversation in
    let items : n.conversation.packets.items ≡ old.packets.items = cc in
    subst (λ (bs : List (List ℕ)). All (HasMade (led u side n.on.path) side) ((at m side).given ++ bs)) (sym items)
    (all_still m.world (led u side n.on.path) side ((at m side).given ++ old.packets.items) (more_bag m.world u side n e b) (k.made side))

itself : (w : World) → Begins (sent_packets w) (sent_packets w)
itself w = ([], append-nil (sent_packets w))

acts_keeps : EndLaws → EachStepKeepsTheOrder → StoryLaws → {a b : Station} {programs : List Program} (m : Meeting) (side : Side) {base : Story} {l : Deeds} (n : Next base) → Keeps a b programs m → Acts (at m side).conversation (at m side).story (at m side).deeds base l
    → n.conversation.packets ≡ (at m side).conversation.packets → Keeps a b programs (went_on m m.world side n l (at m side).given)
acts_keeps laws keeps stories {a} {b} {programs} m side {base} {l} n k act same =
    let here : end_at m.world side ≡ base.state = k.ends side ∙ sym (acts_end act) in
    went laws keeps m m.world side n l (at m side).given k (record {
      told = act_told stories a b programs side (at m side).conversation n.conversation (at m side).deeds l (at m side).story base n.story (k.told side) act n.tells n.on;
      here = here;
      there = refl;
      holds = k.holds;
      bag = itself m.world;
      made = waits_on m m.world side n k here (itself m.world) same;
    })

gives_keeps : EndLaws → EachStepKeepsTheOrder → StoryLaws → {a b : Station} {programs : List Program} (m : Meeting) (side : Side) (packet : Option (List ℕ)) (n : Next (at m side).story) → Keeps a b programs m
    → option_to_list packet ++ n.conversation.packets.items ≡ (at m side).conversation.packets.items ++ made_on n.on.path → Keeps a b programs (went_on m m.world side n (at m side).deeds ((at m side).given ++ option_to_list packet))
gives_keeps laws keeps stories {a} {b} {programs} m side packet n k out =
    let p = at m side in
    let v : World = led m.world side n.on.path in
    let old : List (List ℕ) = p.conversation.packets.items in
    let is : (p.given ++ old) ++ made_on n.on.path ≡ (p.given ++ option_to_list packet) ++ n.conversation.packets.items =
    append_assoc p.given old (made_on n.on.path) ∙ ap (λ (bs : List (List ℕ)). p.given ++ bs) (sym out) ∙ sym (append_assoc p.given (option_to_list packet) n.conversation.packets.items) in
    went laws keeps m m.world side n p.deeds (p.given ++ option_to_list packet) k (record {
      told = act_told stories a b programs side p.conversation n.conversation p.deeds p.deeds p.story p.story n.story (k.told side) idling n.tells n.on;
      here = k.ends side;
      there = refl;
      holds = k.holds;
      bag = itself m.world;
      made = subst (All (HasMade v side)) is
          (All-append (HasMade v side) (p.given ++ old) (made_on n.on.path) (all_still m.world v side (p.given ++ old) (more_bag m.world m.world side n (k.ends side) (itself m.world)) (k.made side))
          (all_made v (sent_packets m.world) side (made_on n.on.path) (sym (led_bag m.world side n.on.path (k.ends side)))));
    })

arrives_keeps : EndLaws → EachStepKeepsTheOrder → StoryLaws → {a b : Station} {programs : List Program} (m : Meeting) (j : ℕ) (x : Emitted) → slice_get m.world.bag j ≡ Some x → has_passed m.world x ≡ false → (n : Next (heard_story (at m (other x.side)) x.bytes))
    → Keeps a b programs m → n.conversation.packets ≡ (at m (other x.side)).conversation.packets → Keeps a b programs (went_on m (with_arrival m.world j x) (other x.side) n (at m (other x.side)).deeds (at m (other x.side)).given)
arrives_keeps laws keeps stories {a} {b} {programs} m j x is lives n k same =
    let w : World = m.world in
    let side : Side = other x.side in
    let p = at m side in
    let marks : World = marked_delivered w j x in
    let after : State = after_receive (end_at marks side) x.bytes in
    let reply : List (List ℕ) = option_to_list (receive_answer (end_at marks side) x.bytes).reply in
    let u : World = with_arrival w j x in
    let lands : landing w j ≡ Some (side, u) = ap (landed w j) is ∙ ap (λ (b : Bool). if b then None else Some (side, u)) lives in
    let here : end_at u side ≡ after_receive p.story.state x.bytes = same_end marks side after reply ∙ ap (λ (s : State). after_receive s x.bytes) (same_marked w j x side ∙ k.ends side) in
    let bag : Begins (sent_packets w) (sent_packets u) = (map (by side) reply, ap (λ (l : Sent). l ++ map (by side) reply) (sym (set_same w.bag j x is)) ∙ sym (moved_bag marks side after reply)) in
    went laws keeps m u side n p.deeds p.given k (record {
      told = hear_told stories a b programs side p.conversation n.conversation p.deeds p.story n.story x.bytes (k.told side) n.tells n.on;
      here = here;
      there = same_other marks side after reply ∙ same_marked w j x (other side);
      holds = keeps.land w j (side, u) k.holds lands;
      bag = bag;
      made = waits_on m u side n k here bag same;
    })

strays_keeps : EndLaws → EachStepKeepsTheOrder → StoryLaws → {a b : Station} {programs : List Program} (m : Meeting) (side : Side) (bytes : List ℕ) → is_ours (at m side).story.state bytes ≡ false → (n : Next (heard_story (at m side) bytes))
    → Keeps a b programs m → n.conversation.packets ≡ (at m side).conversation.packets → Keeps a b programs (went_on m m.world side n (at m side).deeds (at m side).given)
strays_keeps laws keeps stories {a} {b} {programs} m side bytes foreign n k same =
    let p = at m side in
    let here : end_at m.world side ≡ after_receive p.story.state bytes = k.ends side ∙ sym (laws.foreign.after p.story.state bytes foreign) in
    went laws keeps m m.world side n p.deeds p.given k (record {
      told = hear_told stories a b programs side p.conversation n.conversation p.deeds p.story n.story bytes (k.told side) n.tells n.on;
      here = here;
      there = refl;
      holds = k.holds;
      bag = itself m.world;
      made = waits_on m m.world side n k here (itself m.world) same;
    })

-- ---- the start

pub new_holds : EndLaws → (a b : Station) → IsStation a → IsStation b → Holds (record { a = calling_end a b; b = called_end b a; bag = [] })
new_holds laws a b here there = record {
  ends = λ side. elim side as (λ s. StandsBesidePeer (end_at (record { a = calling_end a b; b = called_end b a; bag = [] }) s) (end_at (record { a = calling_end a b; b = called_end b a; bag = [] }) (other s))) [
    | A ↦ record {
      fits = laws.bounds.initiator a.address b.address a.id a.terms.window a.terms.backlog here.address there.address here.id_least here.id_most a.terms.window_fits.0 a.terms.window_fits.1 a.terms.backlog_fits.0 a.terms.backlog_fits.1;
      taken = ([], refl);
      went_out = omega arith;
      early = λ k x e. absurd (cc);
      acknowledged = omega arith;
      reached = omega arith;
    }
    | B ↦ record {
      fits = laws.bounds.responder b.address a.address b.id a.id b.terms.window b.terms.backlog there.address here.address there.id_least there.id_most here.id_least here.id_most b.terms.window_fits.0 b.terms.window_fits.1 b.terms.backlog_fits.0 b.terms.backlog_fits.1;
      taken = ([], refl);
      went_out = omega arith;
      early = λ k x e. absurd (cc);
      acknowledged = omega arith;
      reached = omega arith;
    }
  ];
  bag = All-nil _;
}

opens_keeps : EndLaws → StoryLaws → (a b : Station) (programs : List Program) (c d : Conversation) → IsStation a → IsStation b → Tells c (new_story None (calling_end a b)) → Tells d (new_story (Some programs) (called_end b a)) → c.packets.items ≡ [] → d.packets.items ≡ []
    → Keeps a b programs (new_meeting a b programs c d)
opens_keeps laws stories a b programs c d here there calls answers none empty =
    let m : Meeting = new_meeting a b programs c d in
    record {
      told = λ side. elim side as (λ s. IsToldAt a b programs s (at m s).conversation (at m s).deeds (at m s).story) [ A ↦ stories.opens None (calling_end a b) c calls | B ↦ stories.opens (Some programs) (called_end b a) d answers ];
      ends = λ side. elim side as (λ s. end_at m.world s ≡ (at m s).story.state) [ A ↦ refl | B ↦ refl ];
      holds = new_holds laws a b here there;
      made = λ side. elim side as (λ s. All (HasMade m.world s) ((at m s).given ++ (at m s).conversation.packets.items)) [
        | A ↦ subst (All (HasMade m.world A)) (sym none) (All-nil (HasMade m.world A))
        | B ↦ subst (All (HasMade m.world B)) (sym empty) (All-nil (HasMade m.world B))
      ];
    }

moves_keep : EndLaws → EachStepKeepsTheOrder → StoryLaws → {a b : Station} {programs : List Program} {m n : Meeting} → Keeps a b programs m → MeetingStep m n → Keeps a b programs n
moves_keep laws keeps stories {m = m} k (acts side act n same) = acts_keeps laws keeps stories m side n k act same
moves_keep laws keeps stories {m = m} k (gives side packet n out) = gives_keeps laws keeps stories m side packet n k out
moves_keep laws keeps stories {m = m} k (arrives j x is lives n same) = arrives_keeps laws keeps stories m j x is lives n k same
moves_keep laws keeps stories {m = m} k (strays side bytes foreign n same) = strays_keeps laws keeps stories m side bytes foreign n k same

pub kept : EndLaws → EachStepKeepsTheOrder → StoryLaws → (a b : Station) (programs : List Program) → IsStation a → IsStation b → {m : Meeting} → Meets a b programs m → Keeps a b programs m
kept laws keeps stories a b programs here there (opens c d calls answers none empty) = opens_keeps laws stories a b programs c d here there calls answers none empty
kept laws keeps stories a b programs here there (moves before step) = moves_keep laws keeps stories (kept laws keeps stories a b programs here there before) step

-- ---- the items that an end handed up

abbrev handed_of : State → List Item
handed_of s = take s.handed s.taken

handed_as : (s v p q : State) → s ≡ v → p ≡ q → Begins (handed_of s) p.accepted → Begins (handed_of v) q.accepted
handed_as s v p q one two b = subst (λ (x : State). Begins (handed_of x) q.accepted) one (subst (λ (x : State). Begins (handed_of s) x.accepted) two b)

pub is_met : EndLaws → EachStepKeepsTheOrder → StoryLaws → (a b : Station) (programs : List Program) (m : Meeting) → IsStation a → IsStation b → Meets a b programs m → IsMet programs m
is_met laws keeps stories a b programs m here there meets =
    let k : Keeps a b programs m = kept laws keeps stories a b programs here there meets in
    let peers : ArePeers m.a.story m.b.story = record {
      here = handed_as m.world.a m.a.story.state m.world.b m.b.story.state (k.ends A) (k.ends B) (keeps.order m.world A k.holds);
      there = handed_as m.world.b m.b.story.state m.world.a m.a.story.state (k.ends B) (k.ends A) (keeps.order m.world B k.holds);
    } in
    let calls : IsTold None (calling_end a b) m.a.conversation m.a.deeds m.a.story = k.told A in
    let answers : IsTold (Some programs) (called_end b a) m.b.conversation m.b.deeds m.b.story = k.told B in
    record {
      peers = peers;
      agree = stories.agree (calling_end a b) (called_end b a) m.a.conversation m.b.conversation m.a.deeds m.b.deeds programs calls.0 answers.0
          (subst (λ (g : Story). ArePeers calls.0.story g) (sym answers.1) (subst (λ (h : Story). ArePeers h m.b.story) (sym calls.1) peers));
      given = λ side.
          let p = at m side in
          subst (All (HasMade m.world side)) (take-append_seam p.given p.conversation.packets.items) (All-take (HasMade m.world side) (length p.given) (p.given ++ p.conversation.packets.items) (k.made side));
    }

-- ---- a packet that was given may come

pub made_there : (w : World) (side : Side) (bytes : List ℕ) → HasMade w side bytes → (k : ℕ) × (x : Emitted) × (slice_get w.bag k ≡ Some x) × (sender_and_bytes x ≡ (side, bytes))
made_there w side bytes made = there (slice_get w.bag made.0) refl (sym (slice_get-map sender_and_bytes w.bag made.0) ∙ made.1) where
  there : (o : Option Emitted) → slice_get w.bag made.0 ≡ o → option_map sender_and_bytes o ≡ Some (side, bytes) → (k : ℕ) × (x : Emitted) × (slice_get w.bag k ≡ Some x) × (sender_and_bytes x ≡ (side, bytes))
  there None is e = absurd (cc)
  there (Some x) is e = (made.0, x, is, cc)

still_lives : (n k : ℕ) → n ≤ lifetime → nat_lt lifetime (n - k) ≡ false
still_lives n k few = le-ltb lifetime (n - k) (omega arith)

not_passed : (w : World) (x : Emitted) → ((s : Side) → length (end_at w s).taken ≤ lifetime) → has_passed w x ≡ false
not_passed w x few = ap (λ (b : Bool). b || nat_lt lifetime (length (end_at w (other x.side)).taken - x.at.receiver)) (still_lives (length (end_at w x.side).taken) x.at.sender (few x.side)) ∙ still_lives (length (end_at w (other x.side)).taken) x.at.receiver (few (other x.side))

pub given_may_come : EndLaws → EachStepKeepsTheOrder → StoryLaws → (a b : Station) (programs : List Program) (m : Meeting) (side : Side) (bytes : List ℕ) → IsStation a → IsStation b → Meets a b programs m
    → ((s : Side) → length (at m s).story.state.taken ≤ lifetime) → Contains (at m side).given bytes → MayCome m (other side) bytes
given_may_come laws keeps stories a b programs m side bytes here there meets few given =
    let k : Keeps a b programs m = kept laws keeps stories a b programs here there meets in
    let met : IsMet programs m = is_met laws keeps stories a b programs m here there meets in
    let x = made_there m.world side bytes (All-contains (HasMade m.world side) (at m side).given bytes (met.given side) given) in
    comes x.0 x.1 x.2 (not_passed m.world x.1 (λ s. subst (λ (e : State). length e.taken ≤ lifetime) (sym (k.ends s)) (few s)))
    (ap (λ (y : Side × List ℕ). other y.0) x.3) (ap (λ (y : Side × List ℕ). y.1) x.3)

-- wherever it is kept it may come while it lives
comes_there : (side : Side) (bytes : List ℕ) (k : ℕ) (x : Emitted) (n : Meeting) → sender_and_bytes x ≡ (side, bytes) → (y : Emitted) × (slice_get n.world.bag k ≡ Some y) × (y ≡ record x { delivered = y.delivered })
    → has_passed n.world x ≡ false → MayCome n (other side) bytes
comes_there side bytes k x n is kept lives =
    let y = kept.0 in
    let same = kept.2 in
    comes k y kept.1 (ap (has_passed n.world) same ∙ lives) (ap (λ (z : Emitted). other z.side) same ∙ ap (λ (z : Side × List ℕ). other z.0) is)
    (ap (λ (z : Emitted). z.bytes) same ∙ ap (λ (z : Side × List ℕ). z.1) is)

pub was_made : EndLaws → EachStepKeepsTheOrder → StoryLaws → (a b : Station) (programs : List Program) (m : Meeting) (side : Side) (bytes : List ℕ) → IsStation a → IsStation b → Meets a b programs m
    → Contains (at m side).given bytes → WasMade m side bytes
was_made laws keeps stories a b programs m side bytes here there meets given =
    let met : IsMet programs m = is_met laws keeps stories a b programs m here there meets in
    let x = made_there m.world side bytes (All-contains (HasMade m.world side) (at m side).given bytes (met.given side) given) in
    record { place = x.0; packet = x.1; there = x.2; is = x.3; comes = λ n kept lives. comes_there side bytes x.0 x.1 n x.3 (kept.each x.0 x.1 x.2) lives }
