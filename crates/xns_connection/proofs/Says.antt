-- What a scene says of a story, and what the closing exchange does to that.
use Rattle.std.proofs.Common.{◌≡◌, ◌∙◌, ap, sym, refl, subst, ℕ, zero, suc, ◌≤◌, ◌-◌, List, ◌++◌, take, drop, length, Bool, true, false, Option, Some, None, arith}
use Rattle.std.specs.Prelude.{◌&&◌, if◌then◌else◌}
use Rattle.xns_spp.specs.Fronts.{begins_then}
use Rattle.xns_spp.specs.Growth.{Begins}
use Rattle.xns_spp.specs.Laws.{TheNextItemIsHandedUp}
use Rattle.xns_spp.specs.Sending.{take_answer, after_take, waiting_count}
use Rattle.xns_spp.specs.State.{State}
use Rattle.xns_spp.specs.declared.item.Item.{Item}
use Rattle.xns_connection.specs.Closing.{drains, closing_items, after_end_words, Knows}
use Rattle.xns_connection.specs.Moving.{ConversationScene, conversation_scene, IsAt, noting, taken_many, drained_out, deafened}
use Rattle.xns_connection.specs.Story.{Story, SideHas, IsMoved, Runs, start, takes, is_called, is_stopped}
use Rattle.xns_connection.specs.Telling.{EndsLast, Tells}
use Rattle.xns_connection.specs.declared.closing.Closing.{Closing}
use Rattle.xns_connection.specs.declared.conversation.Conversation.{Conversation}
use Rattle.xns_connection.specs.declared.side.Side.{Side}
use Rattle.xns_connection.proofs.Leading.{runs_on}
use Rattle.xns_connection.proofs.Tellings.{has_at, after_taken, knows_taken, beside, same_closing, same_drains, same_last, deafened as deafens}
use Rattle.xns_connection.proofs.Waits.{one_fewer}

-- a story, but for the history of its end, is one of this scene
pub record Says (x : ConversationScene) (h : Story) : Type 0 where
  pub has : SideHas h x.side
  pub fed : Begins h.fed (take x.state.handed x.state.taken)
  pub all : drains x.side x.closing ≡ false → h.fed ≡ take x.state.handed x.state.taken
  pub given : h.given ++ closing_items x.closing ≡ x.state.accepted
  pub last : EndsLast x.side x.closing
  pub knows : Knows x.closing (drop (length h.fed) (take x.state.handed x.state.taken))

pub says_of : {t : Conversation} {h : Story} → Tells t h → Says (conversation_scene t h.state) h
says_of tells = record { has = tells.has; fed = tells.fed; all = tells.all; given = tells.given; last = tells.last; knows = tells.knows }

pub tells_by : {t : Conversation} {x : ConversationScene} {h : Story} → IsAt t x → Says x h → Tells t (record h { state = x.state })
tells_by {t} {x} {h} at s =
    let m : Story = record h { state = x.state } in
    record {
      stands = at.stands;
      has = subst (λ (y : Side). SideHas m y) (sym at.side) (has_at x.state h x.side s.has);
      fed = s.fed;
      all = λ z. s.all (ap (λ (e : Closing). drains x.side e) (sym at.closing) ∙ ap (λ (y : Side). drains y t.closing) (sym at.side) ∙ z);
      given = ap (λ (e : Closing). h.given ++ closing_items e) at.closing ∙ s.given;
      last = same_last x.side t.side x.closing t.closing at.side at.closing s.last;
      knows = subst (λ (e : Closing). Knows e (drop (length h.fed) (take x.state.handed x.state.taken))) (sym at.closing) s.knows;
    }

-- each story of the one is one of the other, whose end made its own steps; where that reads on, nothing was done
pub record Follows (x y : ConversationScene) : Type 0 where
  pub says : (h : Story) → Says x h → Says y h
  pub runs : Runs x.state y.state
  pub side : y.side ≡ x.side
  pub wanted : y.closing.wanted ≡ x.closing.wanted
  pub still : drains y.side y.closing ≡ false → y ≡ x

pub follows_not : (x : ConversationScene) → Follows x x
follows_not x = record { says = λ h s. s; runs = start; side = refl; wanted = refl; still = λ z. refl }

pub follows_then : {x y z : ConversationScene} → Follows x y → Follows y z → Follows x z
follows_then {x} {y} {z} p q = record {
  says = λ h s. q.says h (p.says h s);
  runs = runs_on p.runs q.runs;
  side = q.side ∙ p.side;
  wanted = q.wanted ∙ p.wanted;
  still = λ free. let same = q.still free in same ∙ p.still (subst (λ (w : ConversationScene). drains w.side w.closing ≡ false) same free);
}

-- what the one scene says, the other says; but where the second reads on, only an item was put out, at most, behind which nothing of the side
-- moves
pub record EndsSo (x y : ConversationScene) : Type 0 where
  pub says : (h : Story) → Says x h → Says y h
  pub runs : Runs x.state y.state
  pub side : y.side ≡ x.side
  pub wanted : y.closing.wanted ≡ x.closing.wanted
  pub free : drains y.side y.closing ≡ false → drains x.side x.closing ≡ false
  pub moved : drains y.side y.closing ≡ false → IsMoved x.side x.state → IsMoved y.side y.state

pub ends_so : {x y : ConversationScene} → Follows x y → EndsSo x y
ends_so {x} {y} f = record {
  says = f.says;
  runs = f.runs;
  side = f.side;
  wanted = f.wanted;
  free = λ z. subst (λ (w : ConversationScene). drains w.side w.closing ≡ false) (f.still z) z;
  moved = λ z m. subst (λ (w : ConversationScene). IsMoved w.side w.state) (sym (f.still z)) m;
}

pub ends_then : {x y z : ConversationScene} → EndsSo x y → EndsSo y z → EndsSo x z
ends_then p q = record {
  says = λ h s. q.says h (p.says h s);
  runs = runs_on p.runs q.runs;
  side = q.side ∙ p.side;
  wanted = q.wanted ∙ p.wanted;
  free = λ z. p.free (q.free z);
  moved = λ z m. q.moved z (p.moved (q.free z) m);
}

-- a scene that reads no more says what it said
pub deaf_follows : (x : ConversationScene) → Follows x (deafened x)
deaf_follows x = record {
  says = λ h w. record {
    has = w.has;
    fed = w.fed;
    all = λ z. absurd (deafens (is_stopped x.side) (x.closing.end_sent && is_called x.side) x.closing.reply_sent z);
    given = w.given;
    last = w.last;
    knows = record { wanted = w.knows.wanted; heard = w.knows.heard };
  };
  runs = start;
  side = refl;
  wanted = refl;
  still = λ z. absurd (deafens (is_stopped x.side) (x.closing.end_sent && is_called x.side) x.closing.reply_sent z);
}

-- ---- an item is taken

not_free : (x y : ConversationScene) → drains y.side y.closing ≡ true → drains y.side y.closing ≡ false → y ≡ x
not_free x y drain free = absurd (cc)

noted_follows : TheNextItemIsHandedUp → (x : ConversationScene) (o : Option Item) → take_answer x.state ≡ o → drains x.side x.closing ≡ true
    → Follows x (noting o x)
noted_follows next x None is drain = follows_not x
noted_follows next x (Some item) is drain =
    let s : State = x.state in
    let c : Closing = after_end_words x.closing item.stream in
    let b = beside x.closing c item.stream refl in
    let same = same_drains x.side x.closing c b.end b.reply b.deaf in
    let k = after_taken next s (Some item) is in
    let y : ConversationScene = record x { closing = c; state = after_take s } in
    record {
      says = λ h w. record {
        has = w.has;
        fed = begins_then h.fed (take s.handed s.taken) (take (after_take s).handed (after_take s).taken) w.fed k.1;
        all = λ z. absurd (cc);
        given = ap (λ (xs : List Item). h.given ++ xs) (same_closing x.closing c b.end b.reply) ∙ w.given ∙ sym k.0;
        last = λ sent. let m = w.last (sym b.end ∙ sent) in (b.wanted ∙ m.0, m.1);
        knows = knows_taken next s (Some item) x.closing c is refl h.fed w.fed w.knows;
      };
      runs = takes start;
      side = refl;
      wanted = b.wanted;
      still = λ z. not_free x y (same ∙ drain) z;
    }

pub noting_drains : (x : ConversationScene) (o : Option Item) → drains (noting o x).side (noting o x).closing ≡ drains x.side x.closing
noting_drains x None = refl
noting_drains x (Some item) =
    let b = beside x.closing (after_end_words x.closing item.stream) item.stream refl in
    same_drains x.side x.closing (after_end_words x.closing item.stream) b.end b.reply b.deaf

noting_deaf : (x : ConversationScene) (o : Option Item) → (noting o x).closing.deaf ≡ x.closing.deaf
noting_deaf x None = refl
noting_deaf x (Some item) = (beside x.closing (after_end_words x.closing item.stream) item.stream refl).deaf

noting_end : (x : ConversationScene) (o : Option Item) → (noting o x).closing.end_sent ≡ x.closing.end_sent
noting_end x None = refl
noting_end x (Some item) = (beside x.closing (after_end_words x.closing item.stream) item.stream refl).end

noting_fewer : TheNextItemIsHandedUp → (x : ConversationScene) (o : Option Item) → take_answer x.state ≡ o
    → waiting_count (noting o x).state ≤ waiting_count x.state - 1
noting_fewer next x None is =
    let few = one_fewer next x.state None is in
    subst (λ (s : State). waiting_count s ≤ waiting_count x.state - 1) (next.none x.state is) few
noting_fewer next x (Some item) is = one_fewer next x.state (Some item) is

-- of a scene that drains, so many items were taken
record Takes (n : ℕ) (x y : ConversationScene) : Type 0 where
  follows : Follows x y
  drain : drains y.side y.closing ≡ true
  deaf : y.closing.deaf ≡ x.closing.deaf
  end : y.closing.end_sent ≡ x.closing.end_sent
  fewer : waiting_count y.state ≤ waiting_count x.state - n

many_taken : TheNextItemIsHandedUp → (n : ℕ) (x : ConversationScene) → drains x.side x.closing ≡ true → Takes n x (taken_many n x)
unfolding taken_many
many_taken next zero x drain = record { follows = follows_not x; drain = drain; deaf = refl; end = refl; fewer = omega arith }
many_taken next (suc n) x drain =
    let p = many_taken next n x drain in
    let y : ConversationScene = taken_many n x in
    let o : Option Item = take_answer y.state in
    let one = noting_fewer next y o refl in
    let few = p.fewer in
    record {
      follows = follows_then p.follows (noted_follows next y o refl p.drain);
      drain = noting_drains y o ∙ p.drain;
      deaf = noting_deaf y o ∙ p.deaf;
      end = noting_end y o ∙ p.end;
      fewer = omega (arith, one, few);
    }

-- what the closing exchange does
pub record Closes (x y : ConversationScene) : Type 0 where
  pub follows : Follows x y
  pub deaf : y.closing.deaf ≡ x.closing.deaf
  pub end : y.closing.end_sent ≡ x.closing.end_sent

pub closes_not : (x : ConversationScene) → Closes x x
closes_not x = record { follows = follows_not x; deaf = refl; end = refl }

pub closes_then : {x y z : ConversationScene} → Closes x y → Closes y z → Closes x z
closes_then p q = record { follows = follows_then p.follows q.follows; deaf = q.deaf ∙ p.deaf; end = q.end ∙ p.end }

-- as `ClosesThen`, where the second scene may read on behind End
pub record ClosesSo (x y : ConversationScene) : Type 0 where
  pub follows : EndsSo x y
  pub deaf : y.closing.deaf ≡ x.closing.deaf

pub closes_so : {x y : ConversationScene} → Closes x y → ClosesSo x y
closes_so p = record { follows = ends_so p.follows; deaf = p.deaf }

pub so_then : {x y z : ConversationScene} → ClosesSo x y → ClosesSo y z → ClosesSo x z
so_then p q = record { follows = ends_then p.follows q.follows; deaf = q.deaf ∙ p.deaf }

pub record DrainsOut (x y : ConversationScene) : Type 0 where
  pub closes : Closes x y
  pub drain : drains y.side y.closing ≡ drains x.side x.closing
  pub none : drains x.side x.closing ≡ true → waiting_count y.state ≡ 0

drains_by : TheNextItemIsHandedUp → (x : ConversationScene) (b : Bool) → drains x.side x.closing ≡ b
    → DrainsOut x (if b then taken_many (waiting_count x.state) x else x)
drains_by next x true is =
    let p = many_taken next (waiting_count x.state) x is in
    let few = p.fewer in
    record { closes = record { follows = p.follows; deaf = p.deaf; end = p.end }; drain = p.drain ∙ sym is; none = λ z. omega (arith, few) }
drains_by next x false is = record { closes = closes_not x; drain = refl; none = λ z. absurd (cc) }

pub drains_out : TheNextItemIsHandedUp → (x : ConversationScene) → DrainsOut x (drained_out x)
drains_out next x = drains_by next x (drains x.side x.closing) refl
