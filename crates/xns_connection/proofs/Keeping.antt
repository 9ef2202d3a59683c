-- A step keeps its promises.
use Rattle.std.proofs.Common.{◌≡◌, ◌≢◌, ◌∙◌, ap, sym, refl, subst, ℕ, ◌<◌, Bool, true, false, ◌||◌, Option, Some, None, Result, Ok, Err, IfErr, arith}
use Rattle.std.specs.Prelude.{◌&&◌, ◌==◌, ◌-◌, nat_lt, is_ok}
use Rattle.std.proofs.Math.Logic.{∥∥₁_elim}
use Rattle.std.proofs.Props.{props}
use Rattle.std.proofs.lemmas.Bool.{lt-ltb, or_right}
use Rattle.courier_sessions.specs.declared.feed_refusal.FeedRefusal.{FeedRefusal}
use Rattle.courier_sessions.specs.declared.feed_refusal.FeedRefusal.TheVariants.{NoMemory}
use Rattle.xns_spp.specs.Acceptance.{send_fault_at}
use Rattle.xns_spp.specs.Held.{Held, StandsFor, held}
use Rattle.xns_spp.specs.Laws.{ItemsAreAcceptedOrChangeNothing}
use Rattle.xns_spp.specs.Sending.{refused, send_answer, waiting_count}
use Rattle.xns_spp.specs.State.{State}
use Rattle.xns_spp.specs.Telling.{unacknowledged_count}
use Rattle.xns_spp.specs.declared.item.Item.{Item}
use Rattle.xns_connection.specs.Closed.{drains_by, is_closed_now}
use Rattle.xns_spp.specs.Datastreams.{end_reply_stream, end_stream}
use Rattle.xns_connection.specs.Closing.{closing_item, drains}
use Rattle.xns_connection.specs.Connecting.{why_after}
use Rattle.xns_connection.specs.Deeds.{Deed, Moved, closed_moved, done, has_refused_item, is_starved, owed_by, shut, told_by, wait_after_deed, wanted_by}
use Rattle.xns_connection.specs.Moving.{IsAt, ConversationScene, may_end, may_reply, conversation_scene}
use Rattle.xns_connection.specs.Step.{AStepKeepsItsPromises, Promises, Step}
use Rattle.xns_connection.specs.Story.{ProgramDoesNothing, IsListed, IsMoved, Runs, Story, is_called}
use Rattle.xns_connection.specs.Telling.{GoesUntil, HasLastWord, Tells, is_over, owes_end, owes_reply}
use Rattle.xns_connection.specs.declared.closing.Closing.{Closing}
use Rattle.xns_connection.specs.declared.connection.Connection.{Connection}
use Rattle.xns_connection.specs.declared.conversation.Conversation.{Conversation}
use Rattle.xns_connection.specs.declared.side.Side.{Side}
use Rattle.xns_connection.specs.declared.why.Why.{Why}
use Rattle.xns_connection.proofs.Closes.{deaf_or_not}
use Rattle.xns_connection.proofs.Doing.{Underneath, did, done_drains, done_sent, done_waits, done_wanted, told_state}
use Rattle.xns_connection.proofs.Fills.{Below, at_end}
use Rattle.xns_connection.proofs.Says.{Follows, deaf_follows, follows_not, tells_by}
use Rattle.xns_connection.proofs.Saying.{deaf_drained}
use Rattle.xns_connection.proofs.Scenes.{scene_at}
use Rattle.xns_connection.proofs.Outcomes.{How, how, not_starved, starved}
use Rattle.xns_connection.proofs.Settled.{HasSettled, IsSettled, Refusal, goes_follow, has_settled, is_settled}
use Rattle.xns_connection.proofs.Tellings.{undrained}
use Rattle.xns_connection.proofs.Waits.{same_waiting}

-- ---- what an endpoint knows of its end's history

same_room : {e : Held} (s v : State) (x : Item) → StandsFor e s → StandsFor e v → is_ok (send_answer s x) ≡ is_ok (send_answer v x)
same_room s v x p q = ap (λ (h : Held). is_ok (refused (send_fault_at h.ends h.numbers x) x)) (sym p.holds ∙ q.holds)

same_unacknowledged : {e : Held} (s v : State) → StandsFor e s → StandsFor e v → unacknowledged_count s ≡ unacknowledged_count v
same_unacknowledged s v p q = ap (λ (h : Held). h.numbers.accepted - h.numbers.acknowledged) (sym p.holds ∙ q.holds)

-- ---- a connection that is closed by the step reads no more

shut_follows : (was closed : Option Why) (to : ConversationScene) → Follows to (shut was closed to)
shut_follows (Some w) closed to = follows_not to
shut_follows None None to = follows_not to
shut_follows None (Some w) to = deaf_follows to

shut_same : (was closed : Option Why) (to : ConversationScene) → closed ≡ was → shut was closed to ≡ to
shut_same (Some w) closed to same = refl
shut_same None None to same = refl
shut_same None (Some w) to same = absurd (cc)

shut_state : (was closed : Option Why) (to : ConversationScene) → (shut was closed to).state ≡ to.state
shut_state (Some w) closed to = refl
shut_state None None to = refl
shut_state None (Some w) to = refl

shut_sent : (was closed : Option Why) (to : ConversationScene) → (shut was closed to).closing.end_sent ≡ to.closing.end_sent
shut_sent (Some w) closed to = refl
shut_sent None None to = refl
shut_sent None (Some w) to = refl

shut_last : (was closed : Option Why) (to : ConversationScene) → HasLastWord to.side to.closing → HasLastWord (shut was closed to).side (shut was closed to).closing
shut_last (Some w) closed to last = last
shut_last None None to last = last
shut_last None (Some w) to last = record { wanted = last.wanted; answered = last.answered; out = last.out }

-- whether what comes is looked at for the closing exchange alone, as `drains_by` says it of a conversation
abbrev Reads : (before refused closed_now : Bool) → ConversationScene → Type 0
Reads before refused closed_now y =
    drains y.side y.closing ≡ (before || (refused || (closed_now || (y.closing.end_sent && is_called y.side))))

closed_reads : (before refused rest : Bool) → true ≡ (before || (refused || (true || rest)))
closed_reads true refused rest = refl
closed_reads false true rest = refl
closed_reads false false rest = refl

shut_reads : (was closed : Option Why) (to : ConversationScene) (before refused : Bool)
    → drains to.side to.closing ≡ (before || (refused || (to.closing.end_sent && is_called to.side)))
    → Reads before refused (is_closed_now was closed) (shut was closed to)
shut_reads (Some w) closed to before refused is = is
shut_reads None None to before refused is = is
shut_reads None (Some w) to before refused is = deaf_drained to ∙ closed_reads before refused (to.closing.end_sent && is_called to.side)

why_then : (was closed : Option Why) (moved : Result (Unit {0}) FeedRefusal) (to : ConversationScene) (s : State) (c : Closing) → was ≡ None
    → closed ≡ closed_moved was moved to → unacknowledged_count s ≡ unacknowledged_count to.state → c ≡ (shut was closed to).closing
    → closed ≡ why_after c (is_over c s) moved
why_then (Some w) closed moved to s c none is count same = absurd (cc)
why_then None closed moved to s c none is count same = is ∙ by closed same where
  over : (d : Closing) → why_after d (is_over d to.state) moved ≡ why_after d (is_over d s) moved
  over d = ap (λ (n : ℕ). why_after d (d.reply_sent && (d.reply_heard && (n == 0))) moved) (sym count)

  by : (o : Option Why) → c ≡ (shut None o to).closing → why_after to.closing (is_over to.closing to.state) moved ≡ why_after c (is_over c s) moved
  by None same = over to.closing ∙ ap (λ (d : Closing). why_after d (is_over d s) moved) (sym same)
  by (Some w) same = over to.closing ∙ sym (deaf_or_not to.closing true s moved) ∙ ap (λ (d : Closing). why_after d (is_over d s) moved) (sym same)

-- ---- a story

pub goes_from : (h m : Story) (s : State) → s ≡ h.state → ProgramDoesNothing (at_end s h) m → ProgramDoesNothing h m
goes_from h m s same g = record {
  programs = g.programs;
  path = subst (λ (v : State). Runs v m.state) same g.path;
  made = g.made;
  handed = g.handed;
  taken = g.taken;
  answers = g.answers;
  even = g.even;
}

module _ (below : Below) (under : Underneath) (law : ItemsAreAcceptedOrChangeNothing) (now : ℕ) (deed : Deed) (old new : Connection)
    (step : Step now deed old new) where
  abbrev t : Conversation
  t = old.conversation

  -- from a history of the end
  abbrev first : State → ConversationScene
  first s = done deed (conversation_scene t s)

  abbrev moves : (s : State) → StandsFor t.endpoint s → Moved now (first s) step.moved new.conversation (owed_by deed old.owed old.wait s now) new.owed old.closed new.closed (wait_after_deed deed old.wait s now) new.wait
  moves s stands = step.on s stands

  -- the scene of the connection after the step
  abbrev last : (s : State) → StandsFor t.endpoint s → ConversationScene
  last s stands = shut old.closed new.closed (moves s stands).to

  settles : (s : State) (stands : StandsFor t.endpoint s) → IsSettled (first s) step.moved (moves s stands).to
  settles s stands =
      let k = (moves s stands).settles in
      is_settled below law k.moves (subst (λ (y : ConversationScene). How step.moved k.mid y) (sym k.is) (how step.moved k.mid))

  story : (h : Story) (tells : Tells t h) → HasSettled (first h.state) step.moved (moves h.state tells.stands).to (told_by deed t.side h)
  story h tells =
      let k = (moves h.state tells.stands).settles in
      has_settled below law (told_by deed t.side h) (did under deed t h step.may tells) k.moves (subst (λ (y : ConversationScene). How step.moved k.mid y) (sym k.is) (how step.moved k.mid))

  -- a story of the connection goes on so
  tells_last : (h : Story) (tells : Tells t h) → Tells new.conversation (at_end (last h.state tells.stands).state (story h tells).story)
  tells_last h tells =
      let m = moves h.state tells.stands in
      let k = story h tells in
      tells_by m.at ((shut_follows old.closed new.closed m.to).says k.story k.says)

  goes_last : (h : Story) (tells : Tells t h) → ProgramDoesNothing (told_by deed t.side h) (at_end (last h.state tells.stands).state (story h tells).story)
  goes_last h tells =
      let m = moves h.state tells.stands in
      let k = story h tells in
      goes_from (told_by deed t.side h) (at_end (last h.state tells.stands).state k.story) (first h.state).state (told_state deed t h)
      (goes_follow (first h.state).state (told_by deed t.side h) k.story (shut_follows old.closed new.closed m.to).runs k.goes)

  starves : (s : State) → StandsFor t.endpoint s → new.owed.moving ≡ is_starved step.moved
  starves s stands = ap (λ o. o.moving) (moves s stands).owes

  well : (s : State) → StandsFor t.endpoint s → new.owed.moving ≡ false → step.moved ≢ Err NoMemory
  well s stands still = not_starved step.moved (sym (starves s stands) ∙ still)

  -- whether what comes is read is that of the scene
  same_drain : (s : State) (stands : StandsFor t.endpoint s) → drains (last s stands).side (last s stands).closing ≡ drains new.conversation.side new.conversation.closing
  same_drain s stands =
      let at = (moves s stands).at in
      sym (ap (λ (e : Closing). drains new.conversation.side e) at.closing ∙ ap (λ (y : Side). drains y (last s stands).closing) at.side)

  free_last : (s : State) (stands : StandsFor t.endpoint s) → drains new.conversation.side new.conversation.closing ≡ false → last s stands ≡ (moves s stands).to
  free_last s stands free = (shut_follows old.closed new.closed (moves s stands).to).still (same_drain s stands ∙ free)

  calm : new.owed.moving ≡ false → drains new.conversation.side new.conversation.closing ≡ false → (h : Story) → Tells t h
      → (m : Story) × Tells new.conversation m × ProgramDoesNothing (told_by deed t.side h) m × IsMoved new.conversation.side m.state × IsListed new.conversation.side
  calm still free h tells =
      let m = moves h.state tells.stands in
      let k = story h tells in
      let same = free_last h.state tells.stands free in
      let moved = k.calm (well h.state tells.stands still) (subst (λ (y : ConversationScene). drains y.side y.closing ≡ false) same (same_drain h.state tells.stands ∙ free)) in
      let there : IsMoved (last h.state tells.stands).side (last h.state tells.stands).state × IsListed (last h.state tells.stands).side =
      subst (λ (y : ConversationScene). IsMoved y.side y.state × IsListed y.side) (sym same) moved in (
        at_end (last h.state tells.stands).state k.story,
        tells_last h tells,
        goes_last h tells,
        subst (λ (y : Side). IsMoved y (last h.state tells.stands).state) (sym m.at.side) there.0,
        subst (λ (y : Side). IsListed y) (sym m.at.side) there.1,
      )

  read : new.owed.moving ≡ false → new.closed ≡ old.closed → (h : Story) → Tells t h → drains new.conversation.side new.conversation.closing ≡ true
      → (v : State) → StandsFor new.conversation.endpoint v → waiting_count v ≡ 0
  read still kept h tells drain v there =
      let m = moves h.state tells.stands in
      let same = shut_same old.closed new.closed m.to kept in
      let said = (settles h.state tells.stands).said (well h.state tells.stands still) in
      same_waiting v (last h.state tells.stands).state there m.at.stands ∙ ap (λ (y : ConversationScene). waiting_count y.state) same
      ∙ said.read (subst (λ (y : ConversationScene). drains y.side y.closing ≡ true) same (same_drain h.state tells.stands ∙ drain))

  may_last : (may : ConversationScene → Bool) (s : State) (stands : StandsFor t.endpoint s) → may (last s stands) ≡ may (conversation_scene new.conversation (last s stands).state)
  may_last may s stands = ap may (sym (scene_at (moves s stands).at))

  said : (s : State) → StandsFor t.endpoint s → new.owed.moving ≡ false → owes_end new.conversation ≡ true → (v : State)
      → StandsFor new.conversation.endpoint v → is_ok (send_answer v (closing_item end_stream)) ≡ false
  said s stands still owes v there =
      let m = moves s stands in
      let same = free_last s stands (undrained new.conversation owes) in
      same_room v (last s stands).state (closing_item end_stream) there m.at.stands
      ∙ ap (λ (y : ConversationScene). is_ok (send_answer y.state (closing_item end_stream))) same
      ∙ ((settles s stands).said (well s stands still)).end (ap may_end (sym same) ∙ may_last may_end s stands ∙ owes)

  replied : (s : State) → StandsFor t.endpoint s → new.owed.moving ≡ false → new.closed ≡ old.closed → owes_reply new.conversation ≡ true → (v : State)
      → StandsFor new.conversation.endpoint v → is_ok (send_answer v (closing_item end_reply_stream)) ≡ false
  replied s stands still kept owes v there =
      let m = moves s stands in
      let same = shut_same old.closed new.closed m.to kept in
      same_room v (last s stands).state (closing_item end_reply_stream) there m.at.stands
      ∙ ap (λ (y : ConversationScene). is_ok (send_answer y.state (closing_item end_reply_stream))) same
      ∙ ((settles s stands).said (well s stands still)).reply (ap may_reply (sym same) ∙ may_last may_reply s stands ∙ owes)

  -- up to where its side refused an item
  until_by : (e : FeedRefusal) → ((h : Story) → Tells t h → Refusal (first h.state) (told_by deed t.side h) e) → GoesUntil t (told_by deed t.side) e
  until_by e until = record {
    on = λ h tells.
        let k = until h tells in
        let u : Conversation = record t { side = k.last.side; closing = k.last.closing; endpoint = held k.last.state } in
        let at : IsAt u k.last = record { stands = record { holds = refl; fits = k.fits }; side = refl; closing = refl } in (
          u,
          at_end k.last.state k.story,
          tells_by at k.says,
          goes_from (told_by deed t.side h) (at_end k.last.state k.story) (first h.state).state (told_state deed t h) k.goes,
          k.still,
          k.held,
        );
  }

  until : (r : Result (Unit {0}) FeedRefusal) → ((h : Story) → Tells t h → IfErr r (λ e. Refusal (first h.state) (told_by deed t.side h) e)) → IfErr r (λ e. GoesUntil t (told_by deed t.side) e)
  until (Ok u) each = tt
  until (Err e) each = until_by e each

  reads : (h : Story) → Tells t h → drains new.conversation.side new.conversation.closing
      ≡ drains_by (drains t.side t.closing) step.moved (is_closed_now old.closed new.closed) new.conversation
  reads h tells =
      let m = moves h.state tells.stands in
      subst (λ (b : Bool). drains new.conversation.side new.conversation.closing ≡ drains_by b step.moved (is_closed_now old.closed new.closed) new.conversation)
      (done_drains deed (conversation_scene t h.state))
      (subst (λ (y : ConversationScene). Reads (drains (first h.state).side (first h.state).closing) (has_refused_item step.moved) (is_closed_now old.closed new.closed) y) (sym (scene_at m.at))
      (shut_reads old.closed new.closed m.to _ _ (story h tells).reads))

  ended : (s : State) → StandsFor t.endpoint s → t.closing.end_sent ≡ false → new.conversation.closing.end_sent ≡ true
      → HasLastWord new.conversation.side new.conversation.closing
  ended s stands unsent sent =
      let m = moves s stands in
      let there : m.to.closing.end_sent ≡ true = sym (shut_sent old.closed new.closed m.to) ∙ ap (λ (c : Closing). c.end_sent) (sym m.at.closing) ∙ sent in
      subst (λ (y : ConversationScene). HasLastWord y.side y.closing) (sym (scene_at m.at))
      (shut_last old.closed new.closed m.to ((settles s stands).ended (done_sent deed (conversation_scene t s) ∙ unsent) there))

  room : (s v : State) → StandsFor t.endpoint s → StandsFor new.conversation.endpoint v → waiting_count v < waiting_count s → new.owed.word ≡ true
  room s v stands there less =
      let m = moves s stands in
      let more = done_waits under deed t s stands in
      let same = same_waiting v (last s stands).state there m.at.stands ∙ ap waiting_count (shut_state old.closed new.closed m.to) in
      let fewer : waiting_count m.to.state < waiting_count (first s).state = omega (arith, less, more, same) in
      ap (λ o. o.word) m.owes ∙ or_right (owed_by deed old.owed old.wait s now).word (nat_lt (waiting_count m.to.state) (waiting_count (first s).state)) (lt-ltb (waiting_count m.to.state) (waiting_count (first s).state) fewer)

  wanted : (s : State) → StandsFor t.endpoint s → new.conversation.closing.wanted ≡ wanted_by deed old.conversation.closing.wanted
  wanted s stands =
      let m = moves s stands in
      ap (λ (c : Closing). c.wanted) m.at.closing ∙ (shut_follows old.closed new.closed m.to).wanted ∙ (settles s stands).wanted ∙ done_wanted deed (conversation_scene t s)

  why : (s : State) → StandsFor t.endpoint s → old.closed ≡ None → (v : State) → StandsFor new.conversation.endpoint v
      → new.closed ≡ why_after new.conversation.closing (is_over new.conversation.closing v) step.moved
  why s stands none v there =
      let m = moves s stands in
      why_then old.closed new.closed step.moved m.to v new.conversation.closing none m.why
      (same_unacknowledged v (last s stands).state there m.at.stands ∙ ap unacknowledged_count (shut_state old.closed new.closed m.to)) m.at.closing

  still : (s : State) → StandsFor t.endpoint s → drains new.conversation.side new.conversation.closing ≡ false → drains t.side t.closing ≡ false
  still s stands free =
      let there = subst (λ (y : ConversationScene). drains y.side y.closing ≡ false) (free_last s stands free) (same_drain s stands ∙ free) in
      sym (done_drains deed (conversation_scene t s)) ∙ (settles s stands).still there

  pub kept_by : Promises now deed old new
  kept_by = record {
    story = λ h tells. (at_end (last h.state tells.stands).state (story h tells).story, tells_last h tells, goes_last h tells);
    still = λ free. ∥∥₁_elim old.stands (Prim.hlevel props) (λ x. still x.0 x.1 free);
    wanted = ∥∥₁_elim old.stands (Prim.hlevel props) (λ x. wanted x.0 x.1);
    calm = λ still free. record { on = calm still free };
    read = λ still kept h tells yes. read still kept h tells yes;
    said = λ still owes v there. ∥∥₁_elim old.stands (Prim.hlevel props) (λ x. said x.0 x.1 still owes v there);
    ended = λ unsent sent. ∥∥₁_elim old.stands (Prim.hlevel props) (λ x. ended x.0 x.1 unsent sent);
    replied = λ still kept owes v there. ∥∥₁_elim old.stands (Prim.hlevel props) (λ x. replied x.0 x.1 still kept owes v there);
    closes = record {
      moved = step.moved;
      refused = until step.moved (λ h tells. (story h tells).until);
      reads = reads;
      why = λ none v there. ∥∥₁_elim old.stands (Prim.hlevel props) (λ x. why x.0 x.1 none v there);
      short = λ yes. starved step.moved (sym (∥∥₁_elim old.stands (Prim.hlevel props) (λ x. starves x.0 x.1)) ∙ yes);
      noted = λ is. ∥∥₁_elim old.stands (Prim.hlevel props) (λ x. starves x.0 x.1) ∙ ap is_starved is;
    };
    packets = step.packets;
    steps = step.steps;
    room = room;
  }

pub keeps : Below → Underneath → ItemsAreAcceptedOrChangeNothing → AStepKeepsItsPromises
keeps below under law now deed old new step = kept_by below under law now deed old new step
