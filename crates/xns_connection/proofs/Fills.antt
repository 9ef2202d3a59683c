-- What the items that move do to the history of a side, from one history of its end to another.
use Rattle.std.proofs.Common.{◌≡◌, ◌∙◌, ap, sym, refl, subst, List, [], ◌∷◌, ◌++◌, append-nil, take, length-append, false, Result, Ok, Err, OnOk, IfErr, arith}
use Rattle.courier_sessions.specs.Answering.{Answering, after_reject, transaction_in, reject_message}
use Rattle.courier_sessions.specs.Answerings.{HasAnswered}
use Rattle.courier_sessions.specs.Pumping.{caller_side, server_side, Settles}
use Rattle.courier_sessions.specs.Talk.{Talk}
use Rattle.courier_sessions.specs.Talks.{HasDone}
use Rattle.courier_sessions.specs.declared.feed_refusal.FeedRefusal.{FeedRefusal}
use Rattle.courier_sessions.specs.declared.feed_refusal.FeedRefusal.TheVariants.{NoMemory}
use Rattle.xns_spp.specs.Laws.{TheNextItemIsHandedUp}
use Rattle.xns_spp.specs.Sending.{take_answer}
use Rattle.xns_spp.specs.State.{State}
use Rattle.xns_spp.specs.declared.item.Item.{Item}
use Rattle.xns_connection.specs.Moving.{Led, Pumps, Rejects, rejects, Rounds, once, again, Converses, calms, starves, refuses, refuses_on}
use Rattle.xns_connection.specs.Story.{Story, SideHas, CallerHas, ServerHas, ProgramDoesNothing, Runs, start, IsMoved, IsListed, IsNextRefused, IsHeldBack, refused, unrejected, is_called, is_stopped}
use Rattle.xns_connection.specs.declared.side.Side.{Side}
use Rattle.xns_connection.specs.declared.side.Side.TheVariants.{Calls, Answers}
use Rattle.xns_connection.proofs.Leading.{CallerDone, CallerGives, CallerFeeds, ServerGives, ServerFeeds, ServerRejects, caller_leads, quiet_leads, server_leads, leads_run, same_messages, goes_on, going, gone, stopped_at, server_going, server_gone, server_stopped_at, ends_at, short_at}
use Rattle.xns_connection.proofs.Rejecting.{all_answered, one_rejected}

-- the laws of the layers below
pub record Below : Type 0 where
  pub next : TheNextItemIsHandedUp
  pub caller_gives : CallerGives
  pub caller_feeds : CallerFeeds
  pub server_gives : ServerGives
  pub server_feeds : ServerFeeds
  pub server_rejects : ServerRejects

-- the story with this history of the end
abbrev pub at_end : State → Story → Story
at_end s h = record h { state = s }

-- behind these items the side has nothing to say: only one that calls has put out any
abbrev pub Behind : List Item → Side → Type 0
Behind [] side = Unit {0}
Behind (x ∷ xs) (Calls t) = t.out ≡ []
Behind (x ∷ xs) (Answers a) = ⊥

-- the side was fed all that its end handed up, and what its end accepted is the side's, with these items behind
pub record Fills (said : List Item) (side : Side) (s : State) (h : Story) : Type 0 where
  pub has : SideHas h side
  pub fed : h.fed ≡ take s.handed s.taken
  pub given : h.given ++ said ≡ s.accepted
  pub behind : Behind said side

-- where a pump stopped: the side is the last one, unless it refused an item
abbrev pub Stops : Result (Unit {0}) FeedRefusal → (last : Side) → State → (next : Side) → Type 0
Stops (Ok u) last v next = (next ≡ last) × IsMoved last v
Stops (Err e) last v next = IsNextRefused last v e × (e ≡ NoMemory → next ≡ last)

pub record HasPumped (said : List Item) (s v : State) (result : Result (Unit {0}) FeedRefusal) (next : Side) (h : Story) : Type 0 where
  pub last : Side
  pub story : Story
  pub before : Fills said last v story
  pub fills : Fills said next v story
  pub goes : ProgramDoesNothing (at_end s h) (at_end v story)
  pub still : is_stopped last ≡ false
  pub called : is_called last ≡ is_called next
  pub stops : Stops result last v next

-- where nothing is behind a side, it was fed all that came, and all that it had to say was accepted
pumped_all : (s v : State) (r : Result (Unit {0}) FeedRefusal) (last next : Side) (h : Story) → SideHas (record h { fed = take v.handed v.taken; given = v.accepted }) last
    → SideHas (record h { fed = take v.handed v.taken; given = v.accepted }) next → Runs s v → is_stopped last ≡ false → is_called last ≡ is_called next
    → Stops r last v next → HasPumped [] s v r next h
pumped_all s v r last next h before after runs still called stops =
    let m : Story = record h { fed = take v.handed v.taken; given = v.accepted } in
    record {
      last = last;
      story = m;
      before = record { has = before; fed = refl; given = append-nil v.accepted; behind = tt };
      fills = record { has = after; fed = refl; given = append-nil v.accepted; behind = tt };
      goes = same_messages (at_end s h) (at_end v m) runs refl refl refl refl refl;
      still = still;
      called = called;
      stops = stops;
    }

-- ---- the side that calls

caller_stops : (last : Talk) (v : State) (r : Result (Unit {0}) FeedRefusal) (n : Talk) → Settles caller_side (last, v) r n
    → Stops r (Calls last) v (Calls n)
caller_stops last v (Ok u) n s = (ap Calls s.0, s.1)
caller_stops last v (Err e) n s = ((n, s), λ short. ap Calls (short_at caller_side last (take_answer v) e n s.1 short))

caller_pumps : Below → (s v : State) (r : Result (Unit {0}) FeedRefusal) (t n : Talk) (h : Story) → t.failed ≡ false → Fills [] (Calls t) s h
    → Led caller_side (t, s) r n v → HasPumped [] s v r (Calls n) h
caller_pumps below s v r t n h free fills p =
    let given : h.given ≡ s.accepted = sym (append-nil h.given) ∙ fills.given in
    let m : Story = record h { fed = take v.handed v.taken; given = v.accepted } in
    let first : HasDone h.made (take s.handed s.taken) s.accepted h.handed t =
    subst (λ (xs : List Item). HasDone h.made xs s.accepted h.handed t) fills.fed
    (subst (λ (xs : List Item). HasDone h.made h.fed xs h.handed t) given (gone h t fills.has free)) in
    let after : HasDone m.made m.fed m.given m.handed p.last = caller_leads below.next below.caller_gives below.caller_feeds h.made h.handed p.leads first in
    pumped_all s v r (Calls p.last) (Calls n) h (going m p.last after fills.has.table)
    (ends_at (CallerHas m n) caller_side (p.last, v) r n p.settled
    (λ is. going m n (subst (λ (u : Talk). HasDone m.made m.fed m.given m.handed u) (sym is) after) fills.has.table)
    (λ is. stopped_at m p.last n after is fills.has.table))
    (leads_run caller_side p.leads) after.going refl (caller_stops p.last v r n p.settled)

-- where nothing of a caller is out, none of its items moves
caller_hears : Below → (x : Item) (xs : List Item) (s v : State) (r : Result (Unit {0}) FeedRefusal) (t n : Talk) (h : Story) → t.failed ≡ false
    → Fills (x ∷ xs) (Calls t) s h → Led caller_side (t, s) r n v → HasPumped (x ∷ xs) s v r (Calls n) h
caller_hears below x xs s v r t n h free fills p =
    let m : Story = record h { fed = take v.handed v.taken } in
    let first : CallerDone h.made h.handed h.given s.accepted (t, s) = record {
      done = subst (λ (fed : List Item). HasDone h.made fed h.given h.handed t) fills.fed (gone h t fills.has free);
      out = fills.behind;
      has = refl;
    } in
    let after = quiet_leads below.next below.caller_feeds h.made h.handed h.given s.accepted p.leads first in
    let given : h.given ++ x ∷ xs ≡ v.accepted = fills.given ∙ sym after.has in
    record {
      last = Calls p.last;
      story = m;
      before = record { has = going m p.last after.done fills.has.table; fed = refl; given = given; behind = after.out };
      fills = record {
        has = ends_at (CallerHas m n) caller_side (p.last, v) r n p.settled
            (λ is. going m n (subst (λ (u : Talk). HasDone m.made m.fed m.given m.handed u) (sym is) after.done) fills.has.table)
            (λ is. stopped_at m p.last n after.done is fills.has.table);
        fed = refl;
        given = given;
        behind = ends_at (n.out ≡ []) caller_side (p.last, v) r n p.settled (λ is. ap (λ (u : Talk). u.out) is ∙ after.out)
            (λ is. ap (λ (u : Talk). u.out) is ∙ after.out);
      };
      goes = same_messages (at_end s h) (at_end v m) (leads_run caller_side p.leads) refl refl refl refl refl;
      still = after.done.going;
      called = refl;
      stops = caller_stops p.last v r n p.settled;
    }

-- ---- the side that is called

server_stops : (last : Answering) (v : State) (r : Result (Unit {0}) FeedRefusal) (n : Answering) → Settles server_side (last, v) r n
    → Stops r (Answers last) v (Answers n)
server_stops last v (Ok u) n s = (ap Answers s.0, s.1)
server_stops last v (Err e) n s = ((n, s), λ short. ap Answers (short_at server_side last (take_answer v) e n s.1 short))

server_pumps : Below → (s v : State) (r : Result (Unit {0}) FeedRefusal) (a n : Answering) (h : Story) → a.failed ≡ false
    → Fills [] (Answers a) s h → Led server_side (a, s) r n v → HasPumped [] s v r (Answers n) h
server_pumps below s v r a n h free fills p =
    let given : h.given ≡ s.accepted = sym (append-nil h.given) ∙ fills.given in
    let m : Story = record h { fed = take v.handed v.taken; given = v.accepted } in
    let first : HasAnswered a.programs (take s.handed s.taken) s.accepted h.taken h.handed h.answers a =
    subst (λ (xs : List Item). HasAnswered a.programs xs s.accepted h.taken h.handed h.answers a) fills.fed
    (subst (λ (xs : List Item). HasAnswered a.programs h.fed xs h.taken h.handed h.answers a) given (server_gone h a fills.has free)) in
    let after : HasAnswered a.programs m.fed m.given m.taken m.handed m.answers p.last =
    server_leads below.next below.server_gives below.server_feeds a.programs h.taken h.handed h.answers p.leads first in
    pumped_all s v r (Answers p.last) (Answers n) h (server_going m a.programs p.last after fills.has.table fills.has.rejected)
    (ends_at (ServerHas m n) server_side (p.last, v) r n p.settled
    (λ is. server_going m a.programs n (subst (λ (u : Answering). HasAnswered a.programs m.fed m.given m.taken m.handed m.answers u) (sym is) after) fills.has.table fills.has.rejected)
    (λ is. server_stopped_at m a.programs p.last n after is fills.has.table fills.has.rejected))
    (leads_run server_side p.leads) after.going refl (server_stops p.last v r n p.settled)

has_pumped : Below → (said : List Item) (s v : State) (r : Result (Unit {0}) FeedRefusal) (side next : Side) (h : Story) → is_stopped side ≡ false
    → Fills said side s h → Pumps side s r next v → HasPumped said s v r next h
has_pumped below [] s v r (Calls t) (Calls n) h free fills p = caller_pumps below s v r t n h free fills p
has_pumped below (x ∷ xs) s v r (Calls t) (Calls n) h free fills p = caller_hears below x xs s v r t n h free fills p
has_pumped below said s v r (Calls t) (Answers b) h free fills p = absurd p
has_pumped below said s v r (Answers a) (Calls n) h free fills p = absurd p
has_pumped below [] s v r (Answers a) (Answers b) h free fills p = server_pumps below s v r a b h free fills p
has_pumped below (x ∷ xs) s v r (Answers a) (Answers b) h free fills p = absurd fills.behind

-- ---- a reject

record HasRejected (said : List Item) (s : State) (side : Side) (h : Story) : Type 0 where
  story : Story
  fills : Fills said side s story
  goes : ProgramDoesNothing (at_end s h) (at_end s story)
  still : is_stopped side ≡ false

-- what is behind does not tell one called side from another
behind_too : (said : List Item) (a b : Answering) → Behind said (Answers a) → Behind said (Answers b)
behind_too [] a b h = tt
behind_too (x ∷ xs) a b h = absurd h

has_rejected : Below → (said : List Item) (s : State) (side next : Side) (h : Story) → is_stopped side ≡ false → Fills said side s h → Rejects side next
    → HasRejected said s next h
has_rejected below said s side next h free fills (rejects a m u call unlisted) =
    let k : Story = record h { taken = h.taken ++ m ∷ []; answers = h.answers ++ reject_message (transaction_in m) u ∷ [] } in
    let has = fills.has in
    let done = below.server_rejects a.programs h.fed h.given h.taken h.handed h.answers (record a { failed = false; phase = has.phase }) m u has.done call unlisted in
    let rejected = one_rejected a.programs h.taken h.answers m u (all_answered m has.done call) unlisted has.rejected in
    let one = length-append h.taken (m ∷ []) in
    let other = length-append h.answers (reject_message (transaction_in m) u ∷ []) in
    record {
      story = k;
      fills = record {
        has = record { phase = has.phase; done = done; going = has.going; table = has.table; rejected = rejected };
        fed = fills.fed;
        given = fills.given;
        behind = behind_too said a (after_reject a m u) fills.behind;
      };
      goes = record {
        programs = refl;
        path = start;
        made = refl;
        handed = refl;
        taken = (m ∷ [], refl);
        answers = (reject_message (transaction_in m) u ∷ [], refl);
        even = omega (arith, one, other);
      };
      still = free;
    }

-- ---- as often as a call was rejected

record HasRounds (said : List Item) (s v : State) (next : Side) (h : Story) : Type 0 where
  story : Story
  fills : Fills said next v story
  goes : ProgramDoesNothing (at_end s h) (at_end v story)
  still : is_stopped next ≡ false
  moved : IsMoved next v

all_pumped : {said : List Item} {s v : State} {next : Side} {h : Story} (u : Unit {0}) → HasPumped said s v (Ok u) next h → HasRounds said s v next h
all_pumped {v = v} {next = next} u p = record {
  story = p.story;
  fills = p.fills;
  goes = p.goes;
  still = ap is_stopped p.stops.0 ∙ p.still;
  moved = subst (λ (x : Side). IsMoved x v) (sym p.stops.0) p.stops.1;
}

has_rounds : Below → (said : List Item) (side : Side) (s : State) (h : Story) {next : Side} {v : State} → is_stopped side ≡ false → Fills said side s h
    → Rounds side s next v → HasRounds said s v next h
has_rounds below said side s h {next} {v} free fills (once p) = all_pumped tt (has_pumped below said s v (Ok tt) side next h free fills p)
has_rounds below said side s h free fills (again {mid = mid} {free = other} {next = next} {v = v} {w = w} r still rejected p) =
    let x = has_rounds below said side s h free fills r in
    let y = has_rejected below said v mid other x.story x.still x.fills rejected in
    let z = all_pumped tt (has_pumped below said v w (Ok tt) other next y.story y.still y.fills p) in
    record {
      story = z.story;
      fills = z.fills;
      goes = goes_on (at_end s h) (at_end v y.story) (at_end w z.story) (goes_on (at_end s h) (at_end v x.story) (at_end v y.story) x.goes y.goes) z.goes;
      still = z.still;
      moved = z.moved;
    }

-- ---- up to where no more is moved

-- the side before it refused an item, and its story
pub record Until (said : List Item) (s : State) (h : Story) (e : FeedRefusal) (next : Side) (v : State) : Type 0 where
  pub last : Side
  pub story : Story
  pub fills : Fills said last v story
  pub goes : ProgramDoesNothing (at_end s h) (at_end v story)
  pub still : is_stopped last ≡ false
  pub called : is_called last ≡ is_called next
  pub held : IsHeldBack last v e

pub record HasConversed (said : List Item) (s v : State) (result : Result (Unit {0}) FeedRefusal) (next : Side) (h : Story) : Type 0 where
  pub story : Story
  pub fills : Fills said next v story
  pub goes : ProgramDoesNothing (at_end s h) (at_end v story)
  pub calm : OnOk result ((is_stopped next ≡ false) × IsMoved next v × IsListed next)
  pub until : IfErr result (λ e. Until said s h e next v)
  pub short : result ≡ Err NoMemory → is_stopped next ≡ false

has_refused : {said : List Item} {s v : State} {next : Side} {h : Story} (e : FeedRefusal) → HasPumped said s v (Err e) next h
    → HasConversed said s v (Err e) next h
has_refused {said} {s} {v} {next} {h} e p = record {
  story = p.story;
  fills = p.fills;
  goes = p.goes;
  calm = tt;
  until = record { last = p.last; story = p.story; fills = p.before; goes = p.goes; still = p.still; called = p.called; held = refused e p.stops.0 };
  short = λ is. let same : e ≡ NoMemory = cc in ap is_stopped (p.stops.1 same) ∙ p.still;
}

-- a conversation that goes on behind what went on before
after_all : {said : List Item} {s v w : State} {r : Result (Unit {0}) FeedRefusal} {next : Side} {h m : Story} → ProgramDoesNothing (at_end s h) (at_end v m)
    → HasConversed said v w r next m → HasConversed said s w r next h
after_all {s = s} {v = v} {w = w} {r = Ok u} {h = h} {m = m} g p = record {
  story = p.story;
  fills = p.fills;
  goes = goes_on (at_end s h) (at_end v m) (at_end w p.story) g p.goes;
  calm = p.calm;
  until = tt;
  short = p.short;
}
after_all {s = s} {v = v} {w = w} {r = Err e} {h = h} {m = m} g p =
    let x = p.until in
    record {
      story = p.story;
      fills = p.fills;
      goes = goes_on (at_end s h) (at_end v m) (at_end w p.story) g p.goes;
      calm = tt;
      until = record {
        last = x.last;
        story = x.story;
        fills = x.fills;
        goes = goes_on (at_end s h) (at_end v m) (at_end w x.story) g x.goes;
        still = x.still;
        called = x.called;
        held = x.held;
      };
      short = p.short;
    }

pub has_conversed : Below → (said : List Item) (side : Side) (s : State) (h : Story) {r : Result (Unit {0}) FeedRefusal} {next : Side} {v : State}
    → is_stopped side ≡ false → Fills said side s h → Converses side s r next v → HasConversed said s v r next h
has_conversed below said side s h free fills (calms rounds listed) =
    let x = has_rounds below said side s h free fills rounds in
    record {
      story = x.story;
      fills = x.fills;
      goes = x.goes;
      calm = (x.still, x.moved, listed x.still);
      until = tt;
      short = λ is. x.still;
    }
has_conversed below said side s h {next = next} free fills (starves rounds unlisted) =
    let x = has_rounds below said side s h free fills rounds in
    record {
      story = x.story;
      fills = x.fills;
      goes = x.goes;
      calm = tt;
      until = record { last = next; story = x.story; fills = x.fills; goes = x.goes; still = x.still; called = refl; held = unrejected unlisted };
      short = λ is. x.still;
    }
has_conversed below said side s h {next = next} {v = v} free fills (refuses e p) = has_refused e (has_pumped below said s v (Err e) side next h free fills p)
has_conversed below said side s h free fills (refuses_on {mid = mid} {free = other} {next = next} {v = v} {w = w} e rounds still rejected p) =
    let x = has_rounds below said side s h free fills rounds in
    let y = has_rejected below said v mid other x.story x.still x.fills rejected in
    after_all (goes_on (at_end s h) (at_end v x.story) (at_end v y.story) x.goes y.goes)
    (has_refused e (has_pumped below said v w (Err e) other next y.story y.still y.fills p))
