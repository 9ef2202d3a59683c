-- Nothing goes out of a dead connection, and one that counts as closed by the exchange has lost nothing.
use Rattle.std.proofs.Common.{◌≡◌, ◌≢◌, ◌∙◌, ap, refl, sym, subst, ℕ, List, zero, suc, Bool, true, false, ◌∷◌, [], ◌++◌, append_assoc, take, drop, ◌+◌, ◌-◌, ◌≤◌, arith, Option, Some, None, Result, Ok, Err, IfOk, OnErr}
use Rattle.std.proofs.Math.Logic.{∥∥₁_elim}
use Rattle.std.proofs.Math.Seq.{take-append-add}
use Rattle.std.proofs.Props.{props}
use Rattle.std.proofs.lemmas.Bool.{leb-true}
use Rattle.std.proofs.lemmas.List.{length-append, length-drop}
use Rattle.std.specs.Prelude.{length, nat_le, ◌&&◌, if◌then◌else◌, is_ok}
use Rattle.std.specs.declared.alloc.AllocError.{AllocError}
use Rattle.courier_sessions.specs.declared.feed_refusal.FeedRefusal.{FeedRefusal}
use Rattle.xns_spp.specs.Growth.{Begins}
use Rattle.xns_spp.specs.Held.{Held, StandsFor}
use Rattle.xns_spp.specs.Sending.{send_answer, take_answer, waiting_count}
use Rattle.xns_spp.specs.State.{State}
use Rattle.xns_spp.specs.declared.item.Item.{Item}
use Rattle.xns_connection.specs.Closed.{AGoodCloseLosesNothing}
use Rattle.xns_spp.specs.Datastreams.{end_reply_stream, end_stream}
use Rattle.xns_connection.specs.Closing.{closing_item, drains, put_if}
use Rattle.xns_connection.specs.Connecting.{is_dead, why_over}
use Rattle.xns_connection.specs.Deeds.{heard, shut}
use Rattle.xns_connection.specs.Giving.{Giving, GivesAs, giving, next_unless}
use Rattle.xns_connection.specs.Moving.{Moves, ConversationScene, closed_up, converses, drained_out, drains_only, with_end_out, may_end, may_reply, noting, replied, settled_by, taken_many}
use Rattle.xns_connection.specs.Step.{GivesNext, MovesOwed, Step, TheDeadAreSilent}
use Rattle.xns_connection.specs.declared.closing.Closing.{Closing}
use Rattle.xns_connection.specs.declared.connection.Connection.{Connection}
use Rattle.xns_connection.specs.declared.conversation.Conversation.{Conversation}
use Rattle.xns_connection.specs.declared.owed.Owed.{Owed}
use Rattle.xns_connection.specs.declared.owed.TheConstants.Owed.{SILENT}
use Rattle.xns_connection.specs.declared.why.Why.{Why}

pub dead_closed : (o : Option Why) → is_dead o ≡ true → o ≢ None
dead_closed None dead = absurd (cc)
dead_closed (Some w) dead = λ none. cc

still_closed : (b : Bool) (now : ℕ) (old mid : Connection) → is_dead old.closed ≡ true → MovesOwed b now old mid → mid.closed ≡ old.closed
still_closed true now old mid dead step = step.stays (dead_closed old.closed dead)
still_closed false now old mid dead same = ap (λ (c : Connection). c.closed) same

none_given : (dead : Bool) (x : Giving) (p : Option (List ℕ)) (t : Conversation) (o : Owed) → dead ≡ true → GivesAs (next_unless dead x) p t o
    → (p ≡ None) × (o ≡ SILENT)
none_given true x p t o is gave = (gave.0, gave.1.owed)
none_given false x p t o is gave = absurd (cc)

module _ (now : ℕ) (old mid new : Connection) (dead : is_dead mid.closed ≡ true) where
  abbrev GaveNothing : Result (Option (List ℕ)) AllocError → Type 0
  GaveNothing r = (r ≡ Ok None) × (new.owed ≡ SILENT)

  silent : (r : Result (Option (List ℕ)) AllocError)
      → IfOk r (λ p. (s : State) → StandsFor mid.conversation.endpoint s
      → GivesAs (next_unless (is_dead mid.closed) (giving mid.conversation mid.owed s)) p new.conversation new.owed)
      → OnErr r (is_dead mid.closed ≡ false) → GaveNothing r
  silent (Ok p) gave alive =
      let none : (p ≡ None) × (new.owed ≡ SILENT) = ∥∥₁_elim mid.stands (Prim.hlevel props) (λ x.
      none_given (is_dead mid.closed) (giving mid.conversation mid.owed x.0) p new.conversation new.owed dead (gave x.0 x.1)) in
      (ap Ok none.0, none.1)
  silent (Err e) gave alive = absurd (cc)

dead_gives : (now : ℕ) (r : Result (Option (List ℕ)) AllocError) (old new : Connection) → is_dead old.closed ≡ true → GivesNext now r old new
    → (r ≡ Ok None) × (new.closed ≡ old.closed) × (new.owed ≡ SILENT)
dead_gives now r old new dead g =
    let same : g.mid.closed ≡ old.closed = still_closed old.owed.moving now old g.mid dead g.moved in
    let is = silent now old g.mid new (ap is_dead same ∙ dead) r g.gave g.alive in
    (is.0, g.closed ∙ same, is.1)

-- ---- the side is as it was

put_side : (b : Bool) (x : ConversationScene) (c : Closing) (s : State) → (if b then record x { closing = c; state = s } else x).side ≡ x.side
put_side true x c s = refl
put_side false x c s = refl

ended_side : (x : ConversationScene) → (with_end_out x).side ≡ x.side
ended_side x = put_side (may_end x && is_ok (send_answer x.state (closing_item end_stream))) x _ _

replied_side : (x : ConversationScene) → (replied x).side ≡ x.side
replied_side x = put_side (may_reply x && is_ok (send_answer x.state (closing_item end_reply_stream))) x _ _

noting_side : (o : Option Item) (x : ConversationScene) → (noting o x).side ≡ x.side
noting_side None x = refl
noting_side (Some item) x = refl

taken_side : (n : ℕ) (x : ConversationScene) → (taken_many n x).side ≡ x.side
unfolding taken_many
taken_side zero x = refl
taken_side (suc n) x = let y : ConversationScene = taken_many n x in noting_side (take_answer y.state) y ∙ taken_side n x

drained_side : (x : ConversationScene) → (drained_out x).side ≡ x.side
drained_side x = by (drains x.side x.closing) where
  by : (b : Bool) → (if b then taken_many (waiting_count x.state) x else x).side ≡ x.side
  by true = taken_side (waiting_count x.state) x
  by false = refl

closed_side : (x : ConversationScene) → (closed_up x).side ≡ x.side
closed_side x = replied_side (drained_out (with_end_out x)) ∙ (drained_side (with_end_out x) ∙ ended_side x)

settled_side : {x mid to : ConversationScene} {r : Result (Unit {0}) FeedRefusal} → drains x.side x.closing ≡ true → Moves x r mid → to ≡ settled_by r mid
    → to.side ≡ x.side
settled_side {x} drain (drains_only d) is = ap (λ (y : ConversationScene). y.side) is ∙ closed_side x
settled_side drain (converses free c) is = absurd (cc)

shut_side : (was closed : Option Why) (x : ConversationScene) → (shut was closed x).side ≡ x.side
shut_side (Some w) closed x = refl
shut_side None None x = refl
shut_side None (Some w) x = refl

dead_hears : (now : ℕ) (bytes : List ℕ) (old new : Connection) → is_dead old.closed ≡ true → Step now (heard bytes) old new
    → (new.conversation.side ≡ old.conversation.side) × (new.told ≡ old.told)
dead_hears now bytes old new dead step =
    let drain : drains old.conversation.side old.conversation.closing ≡ true = old.fits.deaf (dead_closed old.closed dead) in
    let same : new.conversation.side ≡ old.conversation.side = ∥∥₁_elim old.stands (Prim.hlevel props) (λ x.
    let m = step.on x.0 x.1 in
    m.at.side ∙ (shut_side old.closed new.closed m.to ∙ settled_side drain m.settles.moves m.settles.is)) in
    (same, step.told)

pub dead_are_silent : TheDeadAreSilent
dead_are_silent = record {
  gives = dead_gives;
  hears = dead_hears;
  stays = λ now deed old new dead step. step.stays (dead_closed old.closed dead);
}

-- ---- what the peer has where only EndReply may be missing

over_parts : (b d : Bool) (w reason : Why) → (if b && d then w else reason) ≢ reason → (b ≡ true) × (d ≡ true)
over_parts true true w reason some = (refl, refl)
over_parts true false w reason some = absurd (some refl)
over_parts false d w reason some = absurd (some refl)

abbrev last_item : List Item
last_item = closing_item end_reply_stream ∷ []

-- of these items and one more at most one is left behind the first k
but_one : (xs : List Item) (x : Item) (k : ℕ) → length (drop k (xs ++ x ∷ [])) ≤ 1 → Begins xs (take k (xs ++ x ∷ []))
but_one xs x k few =
    let left = length-drop k (xs ++ x ∷ []) in
    let all = length-append xs (x ∷ []) in
    let m : ℕ = k - length xs in
    let is : length xs + m ≡ k = omega (arith, few, left, all) in
    (take m (x ∷ []), sym (take-append-add xs (x ∷ []) m) ∙ ap (λ (n : ℕ). take n (xs ++ x ∷ [])) is)

pub lost_nothing : AGoodCloseLosesNothing
lost_nothing t h reason tells some =
    let n : ℕ = length t.endpoint.unacknowledged in
    let both = over_parts t.closing.reply_sent (nat_le n 1) (why_over t.closing) reason some in
    let said : List Item = h.given ++ put_if t.closing.end_sent end_stream in
    let is : said ++ last_item ≡ h.state.accepted =
    append_assoc h.given (put_if t.closing.end_sent end_stream) last_item
    ∙ sym (ap (λ (b : Bool). h.given ++ (put_if t.closing.end_sent end_stream ++ put_if b end_reply_stream)) both.0) ∙ tells.given in
    let few : n ≤ 1 = leb-true n 1 both.1 in
    let left : n ≡ length (drop h.state.acknowledged h.state.accepted) = ap (λ (f : Held). length f.unacknowledged) tells.stands.holds in
    let rest : length (drop h.state.acknowledged (said ++ last_item)) ≤ 1 =
    subst (λ (xs : List Item). length (drop h.state.acknowledged xs) ≤ 1) (sym is) (subst (λ (m : ℕ). m ≤ 1) left few) in
    subst (λ (xs : List Item). Begins said (take h.state.acknowledged xs)) is (but_one said (closing_item end_reply_stream) h.state.acknowledged rest)
