-- A conversation at its scene, step after step.
use Rattle.std.proofs.Common.{◌≡◌, ◌≢◌, ◌∙◌, ap, refl, sym, subst, ℕ, suc, ◌+◌, Bool, true, false, Result, Ok, Err, arith}
use Rattle.std.specs.Prelude.{◌&&◌, if◌then◌else◌, is_ok}
use Rattle.courier_sessions.specs.declared.feed_refusal.FeedRefusal.{FeedRefusal}
use Rattle.courier_sessions.specs.declared.feed_refusal.FeedRefusal.TheVariants.{NoMemory}
use Rattle.xns_spp.specs.Held.{StandsFor}
use Rattle.xns_spp.specs.Sending.{send_answer, waiting_count}
use Rattle.xns_spp.specs.State.{State}
use Rattle.xns_spp.specs.Datastreams.{end_reply_stream, end_stream}
use Rattle.xns_connection.specs.Closing.{closing_item, drains}
use Rattle.xns_connection.specs.Moving.{ConversationScene, conversation_scene, IsAt, Moves, MovesAll, taken_one, taken_many, drained_out, may_end, may_reply, with_end_out, replied, closed_up, deafened, settled_by}
use Rattle.xns_connection.specs.declared.closing.Closing.{Closing}
use Rattle.xns_connection.specs.declared.conversation.Conversation.{Conversation}
use Rattle.xns_connection.specs.declared.side.Side.{Side}
use Rattle.xns_connection.proofs.Outcomes.{How, bad, good, how, short}

pub scene_at : {t : Conversation} {x : ConversationScene} → IsAt t x → conversation_scene t x.state ≡ x
scene_at {t} {x} at =
    let one : conversation_scene t x.state ≡ record { side = x.side; closing = t.closing; state = x.state } =
    ap (λ (b : Side). let y : ConversationScene = record { side = b; closing = t.closing; state = x.state } in y) at.side in
    one ∙ ap (λ (c : Closing). let y : ConversationScene = record { side = x.side; closing = c; state = x.state } in y) at.closing

-- from where it is it comes to where that leads
pub then_at : {t u : Conversation} {x : ConversationScene} (f : ConversationScene → ConversationScene) → IsAt t x → ((s : State) → StandsFor t.endpoint s → IsAt u (f (conversation_scene t s)))
    → IsAt u (f x)
then_at {t} {u} {x} f at next = subst (λ (y : ConversationScene). IsAt u (f y)) (scene_at at) (next x.state at.stands)

pub at_first : (t : Conversation) (s : State) → StandsFor t.endpoint s → IsAt t (conversation_scene t s)
at_first t s stands = record { stands = stands; side = refl; closing = refl }

pub many_more : (n : ℕ) (x : ConversationScene) → taken_many (n + 1) x ≡ taken_one (taken_many n x)
unfolding taken_many
many_more n x =
    let e : n + 1 ≡ suc n = omega arith in
    subst (λ (m : ℕ). taken_many m x ≡ taken_one (taken_many n x)) (sym e) refl

many_none : (x : ConversationScene) → taken_many 0 x ≡ x
unfolding taken_many
many_none x = refl

-- where no item waits, none is taken
pub none_drains : (t : Conversation) (s : State) → waiting_count s ≡ 0 → StandsFor t.endpoint s → IsAt t (drained_out (conversation_scene t s))
none_drains t s none stands = by (drains t.side t.closing) where
  by : (b : Bool) → IsAt t (if b then taken_many (waiting_count s) (conversation_scene t s) else conversation_scene t s)
  by true =
      let same : taken_many (waiting_count s) (conversation_scene t s) ≡ conversation_scene t s = ap (λ (n : ℕ). taken_many n (conversation_scene t s)) none ∙ many_none (conversation_scene t s) in
      subst (λ (x : ConversationScene). IsAt t x) (sym same) (at_first t s stands)
  by false = at_first t s stands

-- ---- what is not said

unless : (b : Bool) (u : Conversation) (x y : ConversationScene) → b ≡ false → IsAt u x → IsAt u (if b then y else x)
unless true u x y e at = absurd (cc)
unless false u x y e at = at

same_at : (t u : Conversation) (s : State) → u ≡ t → StandsFor t.endpoint s → IsAt u (conversation_scene t s)
same_at t u s same stands = subst (λ (w : Conversation). IsAt w (conversation_scene t s)) (sym same) (at_first t s stands)

pub not_ended : (t u : Conversation) (s : State) → u ≡ t → (may_end (conversation_scene t s) && is_ok (send_answer s (closing_item end_stream))) ≡ false
    → StandsFor t.endpoint s → IsAt u (with_end_out (conversation_scene t s))
not_ended t u s same none stands = unless _ u _ _ none (same_at t u s same stands)

pub not_replied : (t u : Conversation) (s : State) → u ≡ t
    → (may_reply (conversation_scene t s) && is_ok (send_answer s (closing_item end_reply_stream))) ≡ false → StandsFor t.endpoint s
    → IsAt u (replied (conversation_scene t s))
not_replied t u s same none stands = unless _ u _ _ none (same_at t u s same stands)

-- ---- all that can move

pub deaf_at : {t u : Conversation} {x : ConversationScene} → IsAt t x → u ≡ record t { closing = record t.closing { deaf = true } } → IsAt u (deafened x)
deaf_at {t} {u} {x} at same =
    let w : Conversation = record t { closing = record t.closing { deaf = true } } in
    let there : IsAt w (deafened x) = record { stands = at.stands; side = at.side; closing = ap (λ (c : Closing). record c { deaf = true }) at.closing } in
    subst (λ (z : Conversation). IsAt z (deafened x)) (sym same) there

settled_how : (t a b u : Conversation) (s : State) {r : Result (Unit {0}) FeedRefusal} {mid to : ConversationScene} → IsAt a mid → Moves (conversation_scene t s) r mid → to ≡ settled_by r mid → How r mid to
    → (r ≡ Ok tt → b ≡ a) → (r ≢ Ok tt → r ≢ Err NoMemory → b ≡ record a { closing = record a.closing { deaf = true } }) → r ≢ Err NoMemory
    → ((v : State) → StandsFor b.endpoint v → IsAt u (closed_up (conversation_scene b v))) → (x : ConversationScene) × IsAt u x × MovesAll (conversation_scene t s) r x
settled_how t a b u s at moves is (good v mid) same deaf fed next =
    (closed_up mid, then_at closed_up (subst (λ (w : Conversation). IsAt w mid) (sym (same refl)) at) next, record { mid = mid; moves = moves; is = is })
settled_how t a b u s at moves is (short mid) same deaf fed next = absurd (fed refl)
settled_how t a b u s at moves is (bad e mid other) same deaf fed next =
    (closed_up (deafened mid), then_at closed_up (deaf_at at (deaf (λ z. absurd (cc)) fed)) next, record { mid = mid; moves = moves; is = is })

pub settled_at : (t a b u : Conversation) (s : State) (r : Result (Unit {0}) FeedRefusal) → (x : ConversationScene) × IsAt a x × Moves (conversation_scene t s) r x
    → (r ≡ Ok tt → b ≡ a) → (r ≢ Ok tt → r ≢ Err NoMemory → b ≡ record a { closing = record a.closing { deaf = true } }) → r ≢ Err NoMemory
    → ((v : State) → StandsFor b.endpoint v → IsAt u (closed_up (conversation_scene b v))) → (x : ConversationScene) × IsAt u x × MovesAll (conversation_scene t s) r x
settled_at t a b u s r moved same deaf fed next = settled_how t a b u s moved.1 moved.2 refl (how r moved.0) same deaf fed next
