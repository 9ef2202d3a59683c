-- What all that can move does to what a scene says of a story.
use Rattle.std.proofs.Common.{[], ◌∷◌, ◌≡◌, ◌≢◌, ◌∙◌, ap, sym, refl, subst, List, ◌++◌, append-nil, take, drop, length, Bool, true, false, Result, Ok, Err, OnOk, IfErr}
use Rattle.std.specs.Prelude.{◌&&◌, ◌||◌}
use Rattle.std.proofs.Math.Seq.{drop-length}
use Rattle.courier_sessions.specs.declared.feed_refusal.FeedRefusal.{FeedRefusal}
use Rattle.courier_sessions.specs.declared.feed_refusal.FeedRefusal.TheVariants.{NoMemory}
use Rattle.xns_spp.specs.Laws.{ItemsAreAcceptedOrChangeNothing}
use Rattle.xns_spp.specs.State.{State, IsState}
use Rattle.xns_spp.specs.declared.item.Item.{Item}
use Rattle.xns_spp.specs.Datastreams.{end_reply_stream, end_stream}
use Rattle.xns_connection.specs.Closing.{closing_item, closing_items, drains, put_if, Knows}
use Rattle.xns_connection.specs.Deeds.{has_refused_item}
use Rattle.xns_connection.specs.Moving.{IsAt, ConversationScene, MovesAll, Moves, drains_only, converses, Pumps, Rejects, rejects, Rounds, once, again, Converses, calms, starves, refuses, refuses_on, closed_up, deafened}
use Rattle.xns_connection.specs.Story.{Story, ProgramDoesNothing, IsMoved, IsListed, IsHeldBack, Runs, is_called, is_stopped, out_of}
use Rattle.xns_connection.specs.Telling.{EndsLast, HasLastWord}
use Rattle.xns_connection.specs.declared.closing.Closing.{Closing}
use Rattle.xns_connection.specs.declared.conversation.Conversation.{Conversation}
use Rattle.xns_connection.specs.declared.side.Side.{Side}
use Rattle.xns_connection.specs.declared.side.Side.TheVariants.{Calls, Answers}
use Rattle.xns_connection.proofs.Fills.{Behind, Below, Fills, HasConversed, Until, at_end, has_conversed}
use Rattle.xns_connection.proofs.Leading.{goes_on, same_messages, stays}
use Rattle.xns_connection.proofs.Outcomes.{How, bad, good, how, refused_for, short, unrefused}
use Rattle.xns_connection.proofs.Saying.{IsSaid, closed_drained, closes_up, deaf_drained, drains_behind}
use Rattle.xns_connection.proofs.Says.{EndsSo, Says, deaf_follows, ends_so, ends_then}
use Rattle.xns_connection.proofs.Tellings.{ReadsOn, reads_by, reads_on, on_ok, if_err, deafened as deafens}

-- ---- the side of a scene

-- what was put out of closing by a side that is fed on is behind all that it says
behind : (side : Side) (c : Closing) → ReadsOn side c → EndsLast side c → Behind (closing_items c) side
behind side c reads last = by c.end_sent side refl reads.end last where
  items : (b : Bool) → c.end_sent ≡ b → put_if b end_stream ++ [] ≡ closing_items c
  items b is =
      ap (λ (a : Bool). put_if a end_stream ++ []) (sym is) ∙ ap (λ (r : Bool). put_if c.end_sent end_stream ++ put_if r end_reply_stream) (sym reads.reply)

  by : (b : Bool) (other : Side) → c.end_sent ≡ b → (c.end_sent && is_called other) ≡ false → EndsLast other c → Behind (closing_items c) other
  by false other is free last = subst (λ (xs : List Item). Behind xs other) (items false is) tt
  by true (Calls t) is free last = subst (λ (xs : List Item). Behind xs (Calls t)) (items true is) (last is).1
  by true (Answers a) is free last = let never = ap (λ (b : Bool). b && true) (sym is) ∙ free in absurd (cc)

fills_of : (x : ConversationScene) (h : Story) → drains x.side x.closing ≡ false → Says x h → Fills (closing_items x.closing) x.side x.state h
fills_of x h free s = record { has = s.has; fed = s.all free; given = s.given; behind = behind x.side x.closing (reads_on x.side x.closing free) s.last }

none_left : (s : State) (h : Story) → h.fed ≡ take s.handed s.taken → drop (length h.fed) (take s.handed s.taken) ≡ []
none_left s h fed = ap (λ (xs : List Item). drop (length h.fed) xs) (sym fed) ∙ drop-length h.fed

-- of a side that is fed on, End is the last
ends_last : (next : Side) (c : Closing) → c.wanted ≡ true → Behind (closing_items c) next → EndsLast next c
ends_last next c wanted f = λ sent. (
  wanted,
  by next (subst (λ (b : Bool). Behind (put_if b end_stream ++ put_if c.reply_sent end_reply_stream) next) sent f),
) where
  by : (side : Side) → Behind (closing_item end_stream ∷ put_if c.reply_sent end_reply_stream) side → out_of side ≡ []
  by (Calls t) k = k
  by (Answers a) k = absurd k

says_by : (x : ConversationScene) (h m : Story) (next : Side) (v : State) → drains x.side x.closing ≡ false → Says x h → Fills (closing_items x.closing) next v m
    → Says (record x { side = next; state = v }) m
says_by x h m next v free s f =
    let knows : Knows x.closing [] = subst (Knows x.closing) (none_left x.state h (s.all free)) s.knows in
    record {
      has = f.has;
      fed = ([], append-nil m.fed ∙ f.fed);
      all = λ z. f.fed;
      given = f.given;
      last = λ sent. ends_last next x.closing (s.last sent).0 f.behind sent;
      knows = subst (Knows x.closing) (sym (none_left v m f.fed)) knows;
    }

-- ---- an end's history is one

pumps_fits : (side next : Side) (s v : State) (r : Result (Unit {0}) FeedRefusal) → Pumps side s r next v → IsState v
pumps_fits (Calls t) (Calls n) s v r p = p.fits
pumps_fits (Calls t) (Answers b) s v r p = absurd p
pumps_fits (Answers a) (Calls n) s v r p = absurd p
pumps_fits (Answers a) (Answers b) s v r p = p.fits

rounds_fits : {side next : Side} {s v : State} → Rounds side s next v → IsState v
rounds_fits {side} {next} {s} {v} (once p) = pumps_fits side next s v (Ok tt) p
rounds_fits (again {free = other} {next = next} {v = v} {w = w} r still rejected p) = pumps_fits other next v w (Ok tt) p

conversed_fits : {side next : Side} {s v : State} {r : Result (Unit {0}) FeedRefusal} → Converses side s r next v → IsState v
conversed_fits (calms rounds listed) = rounds_fits rounds
conversed_fits (starves rounds unlisted) = rounds_fits rounds
conversed_fits {side} {next} {s} {v} (refuses e p) = pumps_fits side next s v (Err e) p
conversed_fits (refuses_on {free = other} {next = next} {v = v} {w = w} e rounds still rejected p) = pumps_fits other next v w (Err e) p

-- ---- a side that calls calls on, and one that is called is called on

pumps_called : (side next : Side) (s v : State) (r : Result (Unit {0}) FeedRefusal) → Pumps side s r next v → is_called next ≡ is_called side
pumps_called (Calls t) (Calls n) s v r p = refl
pumps_called (Calls t) (Answers b) s v r p = absurd p
pumps_called (Answers a) (Calls n) s v r p = absurd p
pumps_called (Answers a) (Answers b) s v r p = refl

rejects_called : {side next : Side} → Rejects side next → is_called next ≡ is_called side
rejects_called (rejects a m u call unlisted) = refl

rounds_called : {side : Side} {s : State} {next : Side} {v : State} → Rounds side s next v → is_called next ≡ is_called side
rounds_called {side} {s} {next} {v} (once p) = pumps_called side next s v (Ok tt) p
rounds_called (again {free = other} {next = next} {v = v} {w = w} r still rejected p) =
    pumps_called other next v w (Ok tt) p ∙ rejects_called rejected ∙ rounds_called r

conversed_called : {side : Side} {s : State} {next : Side} {v : State} {r : Result (Unit {0}) FeedRefusal} → Converses side s r next v → is_called next ≡ is_called side
conversed_called (calms rounds listed) = rounds_called rounds
conversed_called (starves rounds unlisted) = rounds_called rounds
conversed_called {side} {s} {next} {v} (refuses e p) = pumps_called side next s v (Err e) p
conversed_called (refuses_on {free = other} {next = next} {v = v} {w = w} e rounds still rejected p) =
    pumps_called other next v w (Err e) p ∙ rejects_called rejected ∙ rounds_called rounds

-- ---- items move

-- the scene before the side refused an item, and its story
pub record Refusal (x : ConversationScene) (h : Story) (e : FeedRefusal) : Type 0 where
  pub last : ConversationScene
  pub story : Story
  pub says : Says last story
  pub goes : ProgramDoesNothing (at_end x.state h) (at_end last.state story)
  pub still : drains last.side last.closing ≡ false
  pub held : IsHeldBack last.side last.state e
  pub fits : IsState last.state

record HasMoved (x : ConversationScene) (r : Result (Unit {0}) FeedRefusal) (y : ConversationScene) (h : Story) : Type 0 where
  story : Story
  says : Says y story
  goes : ProgramDoesNothing (at_end x.state h) (at_end y.state story)
  calm : OnOk r (drains y.side y.closing ≡ false → IsMoved y.side y.state × IsListed y.side)
  until : IfErr r (λ e. Refusal x h e)
  reads : has_refused_item r ≡ false → drains x.side x.closing ≡ false → drains y.side y.closing ≡ false

still_reads : (x : ConversationScene) (h : Story) (next : Side) (v : State) (r : Result (Unit {0}) FeedRefusal) → is_called next ≡ is_called x.side
    → drains x.side x.closing ≡ false → HasConversed (closing_items x.closing) x.state v r next h → has_refused_item r ≡ false → drains next x.closing ≡ false
still_reads x h next v (Ok u) called free k fine = reads_by x.side next x.closing called free k.calm.0
still_reads x h next v (Err e) called free k fine = reads_by x.side next x.closing called free (k.short (ap Err (unrefused e fine)))

has_moved : Below → {x y : ConversationScene} {r : Result (Unit {0}) FeedRefusal} (h : Story) → Says x h → Moves x r y → HasMoved x r y h
has_moved below {x} {y} {r} h s (drains_only drain) = record {
  story = h;
  says = s;
  goes = stays (at_end x.state h);
  calm = λ free. absurd (cc);
  until = tt;
  reads = λ fine free. free;
}
has_moved below {x} {y} {r} h s (converses {result = result} {next = next} {v = v} free c) =
    let k = has_conversed below (closing_items x.closing) x.side x.state h (reads_on x.side x.closing free).going (fills_of x h free s) c in
    let called = conversed_called c in
    record {
      story = k.story;
      says = says_by x h k.story next v free s k.fills;
      goes = k.goes;
      calm = on_ok _ _ result (λ p z. (p.1, p.2)) k.calm;
      until = if_err (λ e. Until (closing_items x.closing) x.state h e next v) (λ e. Refusal x h e) result (λ e p. record {
        last = record x { side = p.last; state = v };
        story = p.story;
        says = says_by x h p.story p.last v free s p.fills;
        goes = p.goes;
        still = reads_by x.side p.last x.closing (p.called ∙ called) free p.still;
        held = p.held;
        fits = conversed_fits c;
      }) k.until;
      reads = λ fine z. still_reads x h next v result called free k fine;
    }

moves_closing : {x y : ConversationScene} {r : Result (Unit {0}) FeedRefusal} → Moves x r y → y.closing ≡ x.closing
moves_closing (drains_only drain) = refl
moves_closing (converses free c) = refl

-- ---- what comes of it

pub record HasSettled (x : ConversationScene) (r : Result (Unit {0}) FeedRefusal) (to : ConversationScene) (h : Story) : Type 0 where
  pub story : Story
  pub says : Says to story
  pub goes : ProgramDoesNothing (at_end x.state h) (at_end to.state story)
  pub calm : r ≢ Err NoMemory → drains to.side to.closing ≡ false → IsMoved to.side to.state × IsListed to.side
  pub until : IfErr r (λ e. Refusal x h e)
  pub reads : drains to.side to.closing ≡ (drains x.side x.closing || (has_refused_item r || (to.closing.end_sent && is_called to.side)))

pub goes_follow : {v w : State} (s : State) (h m : Story) → Runs v w → ProgramDoesNothing (at_end s h) (at_end v m) → ProgramDoesNothing (at_end s h) (at_end w m)
goes_follow {v} {w} s h m runs g = goes_on (at_end s h) (at_end v m) (at_end w m) g (same_messages (at_end v m) (at_end w m) runs refl refl refl refl refl)

-- items that move without a refusal do not change whether what comes is read
moved_reads : {x y : ConversationScene} {r : Result (Unit {0}) FeedRefusal} → Moves x r y → (drains x.side x.closing ≡ false → drains y.side y.closing ≡ false)
    → drains y.side y.closing ≡ drains x.side x.closing
moved_reads (drains_only drain) reads = refl
moved_reads (converses free c) reads = reads free ∙ sym free

-- where memory was refused, nothing was put out, and what was read is read on
short_reads : {x y : ConversationScene} {r : Result (Unit {0}) FeedRefusal} → Moves x r y → (drains x.side x.closing ≡ false → drains y.side y.closing ≡ false) → r ≡ Err NoMemory
    → drains y.side y.closing ≡ drains_behind x y
short_reads (drains_only drain) reads is = absurd (cc)
short_reads {x} {y} (converses free c) reads is =
    let there = reads free in
    there ∙ sym (ap (λ (b : Bool). b || (y.closing.end_sent && is_called y.side)) free ∙ (reads_on y.side y.closing there).end)

last_or : (a b : Bool) → true ≡ (a || (true || b))
last_or true b = refl
last_or false b = refl

-- a side that reads no more does so for good
never : (mid to : ConversationScene) → EndsSo (deafened mid) to → drains to.side to.closing ≡ false → ⊥
never mid to f free = deafens (is_stopped mid.side) (mid.closing.end_sent && is_called mid.side) mid.closing.reply_sent (f.free free)

pub has_settled : Below → ItemsAreAcceptedOrChangeNothing → {x mid to : ConversationScene} {r : Result (Unit {0}) FeedRefusal} (h : Story) → Says x h
    → Moves x r mid → How r mid to → HasSettled x r to h
has_settled below law {x} h s moves (good u mid) =
    let k = has_moved below h s moves in
    let p = closes_up below.next law mid in
    let f = p.closes.follows in
    record {
      story = k.story;
      says = f.says k.story k.says;
      goes = goes_follow x.state h k.story f.runs k.goes;
      calm = λ some free.
          let calm = k.calm (f.free free) in
          (f.moved free calm.0, subst (λ (y : Side). IsListed y) (sym f.side) calm.1);
      until = tt;
      reads = p.reads ∙ ap (λ (b : Bool). b || ((closed_up mid).closing.end_sent && is_called (closed_up mid).side)) (moved_reads moves (k.reads refl));
    }
has_settled below law {x} h s moves (short mid) =
    let k = has_moved below h s moves in
    record { story = k.story; says = k.says; goes = k.goes; calm = λ some. absurd (some refl); until = k.until; reads = short_reads moves (k.reads refl) refl }
has_settled below law {x} h s moves (bad e mid other) =
    let k = has_moved below h s moves in
    let p = closes_up below.next law (deafened mid) in
    let f = ends_then (ends_so (deaf_follows mid)) p.closes.follows in
    record {
      story = k.story;
      says = f.says k.story k.says;
      goes = goes_follow x.state h k.story f.runs k.goes;
      calm = λ some free. absurd (never mid (closed_up (deafened mid)) p.closes.follows free);
      until = k.until;
      reads = closed_drained (deafened mid) (deaf_drained mid)
          ∙ last_or (drains x.side x.closing) ((closed_up (deafened mid)).closing.end_sent && is_called (closed_up (deafened mid)).side)
          ∙ ap (λ (b : Bool). drains x.side x.closing || (b || ((closed_up (deafened mid)).closing.end_sent && is_called (closed_up (deafened mid)).side)))
          (sym (refused_for e other));
    }

-- ---- what needs no story

pub record IsSettled (x : ConversationScene) (r : Result (Unit {0}) FeedRefusal) (to : ConversationScene) : Type 0 where
  pub said : r ≢ Err NoMemory → IsSaid to
  pub wanted : to.closing.wanted ≡ x.closing.wanted
  pub still : drains to.side to.closing ≡ false → drains x.side x.closing ≡ false
  pub ended : x.closing.end_sent ≡ false → to.closing.end_sent ≡ true → HasLastWord to.side to.closing

moves_unsent : {x y : ConversationScene} {r : Result (Unit {0}) FeedRefusal} → Moves x r y → x.closing.end_sent ≡ false → y.closing.end_sent ≡ false
moves_unsent moves unsent = ap (λ (c : Closing). c.end_sent) (moves_closing moves) ∙ unsent

moves_still : {x y : ConversationScene} {r : Result (Unit {0}) FeedRefusal} → Moves x r y → drains y.side y.closing ≡ false → drains x.side x.closing ≡ false
moves_still (drains_only drain) free = free
moves_still (converses free c) z = free

pub is_settled : Below → ItemsAreAcceptedOrChangeNothing → {x mid to : ConversationScene} {r : Result (Unit {0}) FeedRefusal} → Moves x r mid → How r mid to
    → IsSettled x r to
is_settled below law moves (good u mid) =
    let p = closes_up below.next law mid in
    record {
      said = λ some. p.said;
      wanted = p.closes.follows.wanted ∙ ap (λ (c : Closing). c.wanted) (moves_closing moves);
      still = λ free. moves_still moves (p.closes.follows.free free);
      ended = λ unsent sent. p.due (moves_unsent moves unsent) sent;
    }
is_settled below law moves (short mid) = record {
  said = λ some. absurd (some refl);
  wanted = ap (λ (c : Closing). c.wanted) (moves_closing moves);
  still = moves_still moves;
  ended = λ unsent sent. absurd (let none = moves_unsent moves unsent in cc);
}
is_settled below law moves (bad e mid other) =
    let p = closes_up below.next law (deafened mid) in
    record {
      said = λ some. p.said;
      wanted = p.closes.follows.wanted ∙ ap (λ (c : Closing). c.wanted) (moves_closing moves);
      still = λ free. absurd (never mid (closed_up (deafened mid)) p.closes.follows free);
      ended = λ unsent sent. p.due (moves_unsent moves unsent) sent;
    }

-- ---- one that reads no more does so for good

moves_drained : {x y : ConversationScene} {r : Result (Unit {0}) FeedRefusal} → Moves x r y → drains x.side x.closing ≡ true → drains y.side y.closing ≡ true
moves_drained (drains_only drain) d = d
moves_drained (converses free c) d = absurd (cc)

how_drained : {r : Result (Unit {0}) FeedRefusal} {mid to : ConversationScene} → How r mid to → drains mid.side mid.closing ≡ true → drains to.side to.closing ≡ true
how_drained (good u mid) d = closed_drained mid d
how_drained (short mid) d = d
how_drained (bad e mid other) d = closed_drained (deafened mid) (deaf_drained mid)

-- a conversation whose scene settled drains still
pub still_drained : (t : Conversation) (x to : ConversationScene) (r : Result (Unit {0}) FeedRefusal) → IsAt t to → MovesAll x r to → drains x.side x.closing ≡ true
    → drains t.side t.closing ≡ true
still_drained t x to r at k d =
    ap (λ (c : Closing). drains t.side c) at.closing ∙ ap (λ (y : Side). drains y to.closing) at.side
    ∙ how_drained (subst (λ (y : ConversationScene). How r k.mid y) (sym k.is) (how r k.mid)) (moves_drained k.moves d)
