-- What the closing exchange puts out, and what all of it does to what a scene says of a story.
use Rattle.std.proofs.Common.{◌≡◌, ◌∙◌, ap, sym, refl, subst, ℕ, zero, suc, List, [], ◌∷◌, ◌++◌, append-nil, append_assoc, take, Bool, true, false, Option, Some, None, Result, Ok, Err}
use Rattle.std.specs.Prelude.{◌&&◌, ◌||◌, if◌then◌else◌, is_ok, not}
use Rattle.std.proofs.Math.Bool.{or-false, or-true}
use Rattle.std.proofs.lemmas.Bool.{and_parts, false≢true, or_right}
use Rattle.courier_sessions.specs.Answering.{has_items}
use Rattle.courier_sessions.specs.Pumping.{Side as PumpSide, caller_side, feeding, feeds, moving}
use Rattle.courier_sessions.specs.Talk.{Talk}
use Rattle.courier_sessions.specs.declared.feed_refusal.FeedRefusal.{FeedRefusal}
use Rattle.courier_sessions.specs.declared.feed_refusal.FeedRefusal.TheVariants.{Stopped, Busy, TooLong, Attention, Fault, NoMemory}
use Rattle.xns_spp.specs.Growth.{Begins}
use Rattle.xns_spp.specs.Laws.{TheNextItemIsHandedUp, ItemsAreAcceptedOrChangeNothing}
use Rattle.xns_spp.specs.Sending.{send_answer, after_send, take_answer, after_take, waiting_count}
use Rattle.xns_spp.specs.State.{State}
use Rattle.xns_spp.specs.declared.item.Item.{Item}
use Rattle.xns_spp.specs.Datastreams.{end_reply_stream, end_stream}
use Rattle.xns_connection.specs.Closing.{drains, closing_items, closing_item, put_if}
use Rattle.xns_connection.specs.Moving.{ConversationScene, taken_many, drained_out, may_end, may_reply, with_end_out, replied, closed_up, deafened}
use Rattle.xns_connection.specs.Story.{Story, IsMoved, start, sends, is_called, is_stopped, out_of, owes_answer}
use Rattle.xns_connection.specs.Telling.{EndsLast, HasLastWord}
use Rattle.xns_connection.specs.declared.closing.Closing.{Closing}
use Rattle.xns_connection.specs.declared.side.Side.{Side}
use Rattle.xns_connection.specs.declared.side.Side.TheVariants.{Calls, Answers}
use Rattle.xns_connection.proofs.Tellings.{knows_still, KnowsToo, reads_on}
use Rattle.xns_connection.proofs.Still.{no_items}
use Rattle.xns_connection.proofs.Waits.{stays_true}
use Rattle.xns_connection.proofs.Says.{Closes, ClosesSo, Says, closes_not, closes_so, closes_then, drains_out, follows_then, noting_drains, so_then}

-- ---- an item is put out

said_says : ItemsAreAcceptedOrChangeNothing → (x : ConversationScene) (item : Item) (c : Closing) → is_ok (send_answer x.state item) ≡ true
    → (drains x.side c ≡ false → drains x.side x.closing ≡ false) → (EndsLast x.side x.closing → EndsLast x.side c)
    → ((g : List Item) → g ++ closing_items c ≡ (g ++ closing_items x.closing) ++ item ∷ []) → KnowsToo x.closing c
    → (h : Story) → Says x h → Says (record x { closing = c; state = after_send x.state item }) h
said_says law x item c ok free last more too h w =
    let s : State = x.state in
    let v : State = after_send s item in
    let e : v ≡ record s { accepted = s.accepted ++ item ∷ [] } = law.accepted s item ok in
    let front : take v.handed v.taken ≡ take s.handed s.taken = ap (λ (w : State). take w.handed w.taken) e in
    record {
      has = w.has;
      fed = subst (λ (xs : List Item). Begins h.fed xs) (sym front) w.fed;
      all = λ z. w.all (free z) ∙ sym front;
      given = more h.given ∙ ap (λ (xs : List Item). xs ++ item ∷ []) w.given ∙ sym (ap (λ (u : State). u.accepted) e);
      last = last w.last;
      knows = knows_still x.closing c s v too front h.fed w.knows;
    }

-- why End may be put out
record MayEnd (x : ConversationScene) : Type 0 where
  wanted : x.closing.wanted ≡ true
  free : drains x.side x.closing ≡ false
  unsent : x.closing.end_sent ≡ false
  answered : owes_answer x.side ≡ false
  out : has_items (out_of x.side) ≡ false

why_end : (x : ConversationScene) → may_end x ≡ true → MayEnd x
why_end x may = by x.closing.wanted (drains x.side x.closing) x.closing.end_sent (owes_answer x.side) (has_items (out_of x.side)) refl refl refl refl refl may where
  by : (a b c d e : Bool) → x.closing.wanted ≡ a → drains x.side x.closing ≡ b → x.closing.end_sent ≡ c → owes_answer x.side ≡ d → has_items (out_of x.side) ≡ e
      → (a && (not b && (not c && (not d && not e)))) ≡ true → MayEnd x
  by false b c d e p q r s t z = absurd (cc)
  by true true c d e p q r s t z = absurd (cc)
  by true false true d e p q r s t z = absurd (cc)
  by true false false true e p q r s t z = absurd (cc)
  by true false false false true p q r s t z = absurd (cc)
  by true false false false false p q r s t z = record { wanted = p; free = q; unsent = r; answered = s; out = t }

-- an item that is put out lets none move where nothing of the side is out
none_fed : {S : Type 0} (r : Result S FeedRefusal) (v w : State) → feeding r v ≡ None → feeding r w ≡ None
none_fed (Ok t) v w e = absurd (cc)
none_fed (Err Busy) v w e = refl
none_fed (Err Stopped) v w e = absurd (cc)
none_fed (Err TooLong) v w e = absurd (cc)
none_fed (Err Attention) v w e = absurd (cc)
none_fed (Err (Fault f)) v w e = absurd (cc)
none_fed (Err NoMemory) v w e = absurd (cc)

none_feeds : {S : Type 0} (side : PumpSide S) (t : S) (v w : State) (o : Option Item) → feeds side t v o ≡ None → feeds side t w o ≡ None
none_feeds side t v w None e = refl
none_feeds side t v w (Some x) e = none_fed (side.fed t x) (after_take v) (after_take w) e

caller_moved : (t : Talk) (s v : State) → t.out ≡ [] → take_answer v ≡ take_answer s → IsMoved (Calls t) s → IsMoved (Calls t) v
caller_moved t s v out same e =
    let fed : feeds caller_side t s (take_answer s) ≡ None = ap (λ (xs : List Item). moving caller_side t s xs) (sym out) ∙ e in
    ap (λ (xs : List Item). moving caller_side t v xs) out ∙ ap (λ (o : Option Item). feeds caller_side t v o) same ∙ none_feeds caller_side t s v (take_answer s) fed

ended_moved : (side : Side) (c : Closing) (s v : State) → out_of side ≡ [] → take_answer v ≡ take_answer s → drains side (record c { end_sent = true }) ≡ false
    → IsMoved side s → IsMoved side v
ended_moved (Calls t) c s v out same free e = caller_moved t s v out same e
ended_moved (Answers a) c s v out same free e = let r = reads_on (Answers a) (record c { end_sent = true }) free in let never = r.end in absurd (cc)

ended_free : (side : Side) (c : Closing) → c.end_sent ≡ false → drains side (record c { end_sent = true }) ≡ false → drains side c ≡ false
ended_free side c unsent free =
    let r = reads_on side (record c { end_sent = true }) free in
    ap (λ (b : Bool). b || ((c.end_sent && is_called side) || (c.reply_sent || c.deaf))) r.going
    ∙ ap (λ (b : Bool). (b && is_called side) || (c.reply_sent || c.deaf)) unsent ∙ ap (λ (b : Bool). b || c.deaf) r.reply ∙ r.heard

end_follows : ItemsAreAcceptedOrChangeNothing → (x : ConversationScene) → may_end x ≡ true → is_ok (send_answer x.state (closing_item end_stream)) ≡ true
    → ClosesSo x (record x { closing = record x.closing { end_sent = true }; state = after_send x.state (closing_item end_stream) })
end_follows law x may ok =
    let item : Item = closing_item end_stream in
    let c : Closing = record x.closing { end_sent = true } in
    let why = why_end x may in
    let free = ended_free x.side x.closing why.unsent in
    let reply = (reads_on x.side x.closing why.free).reply in
    let out = no_items (out_of x.side) why.out in
    let none : closing_items x.closing ≡ [] =
    ap (λ (b : Bool). put_if b end_stream ++ put_if x.closing.reply_sent end_reply_stream) why.unsent ∙ ap (λ (b : Bool). put_if b end_reply_stream) reply in
    record {
      follows = record {
        says = said_says law x item c ok free (λ last sent. (why.wanted, out))
            (λ g.
            ap (λ (b : Bool). g ++ (item ∷ [] ++ put_if b end_reply_stream)) reply
            ∙ ap (λ (xs : List Item). xs ++ item ∷ []) (sym (ap (λ (xs : List Item). g ++ xs) none ∙ append-nil g)))
            (λ items k. record { wanted = k.wanted; heard = k.heard });
        runs = sends start item;
        side = refl;
        wanted = refl;
        free = free;
        moved = λ z m. ended_moved x.side x.closing x.state (after_send x.state item) out (ap take_answer (law.accepted x.state item ok)) z m;
      };
      deaf = refl;
    }

drains_self : (a b c : Bool) → (a || (b || c)) ≡ ((a || (b || c)) || b)
drains_self true b c = refl
drains_self false true c = refl
drains_self false false true = refl
drains_self false false false = refl

-- behind End what comes is looked at for the closing exchange alone where the side is called
end_drains : (x : ConversationScene) → MayEnd x
    → drains x.side (record x.closing { end_sent = true }) ≡ (drains x.side x.closing || (true && is_called x.side))
end_drains x why =
    let r = reads_on x.side x.closing why.free in
    ap (λ (b : Bool). b || (is_called x.side || (x.closing.reply_sent || x.closing.deaf))) r.going
    ∙ ap (λ (b : Bool). is_called x.side || (b || x.closing.deaf)) r.reply ∙ ap (λ (b : Bool). is_called x.side || b) r.heard ∙ or-false (is_called x.side)
    ∙ sym (ap (λ (b : Bool). b || is_called x.side) why.free)

-- whether what comes is looked at for the closing exchange alone: as before, or End is put out at a side that is called
abbrev pub drains_behind : ConversationScene → ConversationScene → Bool
drains_behind x y = drains x.side x.closing || (y.closing.end_sent && is_called y.side)

-- End was put out, if it was
record PutsEnd (x y : ConversationScene) : Type 0 where
  closes : ClosesSo x y
  said : may_end y ≡ true → is_ok (send_answer y.state (closing_item end_stream)) ≡ false
  reads : drains y.side y.closing ≡ drains_behind x y
  due : x.closing.end_sent ≡ false → y.closing.end_sent ≡ true → HasLastWord y.side y.closing

still_reads : (x : ConversationScene) → drains x.side x.closing ≡ drains_behind x x
still_reads x = drains_self (is_stopped x.side) (x.closing.end_sent && is_called x.side) (x.closing.reply_sent || x.closing.deaf)

not_due : (x : ConversationScene) → x.closing.end_sent ≡ false → x.closing.end_sent ≡ true → HasLastWord x.side x.closing
not_due x unsent sent = absurd (cc)

ends_by : ItemsAreAcceptedOrChangeNothing → (x : ConversationScene) (m o : Bool) → may_end x ≡ m → is_ok (send_answer x.state (closing_item end_stream)) ≡ o
    → PutsEnd x (if m && o then record x { closing = record x.closing { end_sent = true }; state = after_send x.state (closing_item end_stream) } else x)
ends_by law x true true may ok = record {
  closes = end_follows law x may ok;
  said = λ again.
      let y : ConversationScene = record x { closing = record x.closing { end_sent = true }; state = after_send x.state (closing_item end_stream) } in
      let twice = (why_end y again).unsent in
      absurd (cc);
  reads = end_drains x (why_end x may);
  due = λ unsent sent. let why = why_end x may in record { wanted = why.wanted; answered = why.answered; out = no_items (out_of x.side) why.out };
}
ends_by law x true false may ok =
    record { closes = closes_so (closes_not x); said = λ again. ok; reads = still_reads x; due = not_due x }
ends_by law x false o may ok =
    record { closes = closes_so (closes_not x); said = λ again. absurd (cc); reads = still_reads x; due = not_due x }

ends : ItemsAreAcceptedOrChangeNothing → (x : ConversationScene) → PutsEnd x (with_end_out x)
ends law x = ends_by law x (may_end x) (is_ok (send_answer x.state (closing_item end_stream))) refl refl

-- EndReply was put out, if it was
record PutsReply (x y : ConversationScene) : Type 0 where
  closes : Closes x y
  said : may_reply y ≡ true → is_ok (send_answer y.state (closing_item end_reply_stream)) ≡ false

unsent : (a b c : Bool) → (a && (not b && c)) ≡ true → b ≡ false
unsent true true c e = absurd (cc)
unsent true false c e = refl
unsent false b c e = absurd (cc)

drains_then : (a b c d : Bool) → (a && (b && (c && d))) ≡ true → c ≡ true
drains_then true true true d e = refl
drains_then true true false d e = absurd (cc)
drains_then true false c d e = absurd (cc)
drains_then false b c d e = absurd (cc)

reply_follows : ItemsAreAcceptedOrChangeNothing → (x : ConversationScene) → may_reply x ≡ true → is_ok (send_answer x.state (closing_item end_reply_stream)) ≡ true
    → Closes x (record x { closing = record x.closing { reply_sent = true }; state = after_send x.state (closing_item end_reply_stream) })
reply_follows law x may ok =
    let item : Item = closing_item end_reply_stream in
    let unsaid = unsent x.closing.reply_wanted x.closing.reply_sent (drains x.side x.closing && not (has_items (out_of x.side))) may in
    let end : List Item = put_if x.closing.end_sent end_stream in
    record {
      follows = record {
        says = said_says law x item (record x.closing { reply_sent = true }) ok (λ z. absurd (let never = (reads_on x.side (record x.closing { reply_sent = true }) z).reply in cc))
            (λ last. last)
            (λ g.
            sym (append_assoc g end (item ∷ []))
            ∙ ap (λ (xs : List Item). xs ++ item ∷ []) (sym (ap (λ (b : Bool). g ++ (end ++ put_if b end_reply_stream)) unsaid ∙ ap (λ (xs : List Item). g ++ xs) (append-nil end))))
            (λ items k. record { wanted = k.wanted; heard = k.heard });
        runs = sends start item;
        side = refl;
        wanted = refl;
        still = λ z. absurd (let never = (reads_on x.side (record x.closing { reply_sent = true }) z).reply in cc);
      };
      deaf = refl;
      end = refl;
    }

replies_by : ItemsAreAcceptedOrChangeNothing → (x : ConversationScene) (m o : Bool) → may_reply x ≡ m → is_ok (send_answer x.state (closing_item end_reply_stream)) ≡ o
    → PutsReply x (if m && o then record x { closing = record x.closing { reply_sent = true }; state = after_send x.state (closing_item end_reply_stream) } else x)
replies_by law x true true may ok = record {
  closes = reply_follows law x may ok;
  said = λ again. absurd (false≢true (and_parts x.closing.reply_wanted false again).1);
}
replies_by law x true false may ok = record { closes = closes_not x; said = λ again. ok }
replies_by law x false o may ok = record { closes = closes_not x; said = λ again. absurd (cc) }

replies : ItemsAreAcceptedOrChangeNothing → (x : ConversationScene) → PutsReply x (replied x)
replies law x = replies_by law x (may_reply x) (is_ok (send_answer x.state (closing_item end_reply_stream))) refl refl

-- EndReply is put out only where what comes is looked at for the peer's EndReply alone
reply_drains : (x : ConversationScene) (m o : Bool) → may_reply x ≡ m
    → (let y : ConversationScene = if m && o then record x { closing = record x.closing { reply_sent = true }; state = after_send x.state (closing_item end_reply_stream) } else x in drains y.side y.closing)
    ≡ drains x.side x.closing
reply_drains x true true may =
    stays_true (is_stopped x.side) (x.closing.end_sent && is_called x.side) x.closing.deaf
    ∙ sym (drains_then x.closing.reply_wanted (not x.closing.reply_sent) (drains x.side x.closing) (not (has_items (out_of x.side))) may)
reply_drains x true false may = refl
reply_drains x false o may = refl

-- how many wait is the same
sent_same : ItemsAreAcceptedOrChangeNothing → (x : ConversationScene) (m o : Bool) (c : Closing) (item : Item) → is_ok (send_answer x.state item) ≡ o
    → waiting_count (if m && o then record x { closing = c; state = after_send x.state item } else x).state ≡ waiting_count x.state
sent_same law x true true c item ok = law.waiting x.state item ok
sent_same law x true false c item ok = refl
sent_same law x false o c item ok = refl

-- ---- all of it

-- what is said of closing is said
pub record IsSaid (y : ConversationScene) : Type 0 where
  pub read : drains y.side y.closing ≡ true → waiting_count y.state ≡ 0
  pub end : may_end y ≡ true → is_ok (send_answer y.state (closing_item end_stream)) ≡ false
  pub reply : may_reply y ≡ true → is_ok (send_answer y.state (closing_item end_reply_stream)) ≡ false

pub record ClosesUp (x y : ConversationScene) : Type 0 where
  pub closes : ClosesSo x y
  pub said : IsSaid y
  pub reads : drains y.side y.closing ≡ drains_behind x y
  pub due : x.closing.end_sent ≡ false → y.closing.end_sent ≡ true → HasLastWord y.side y.closing

same_last_word : {x y : ConversationScene} → Closes x y → HasLastWord x.side x.closing → HasLastWord y.side y.closing
same_last_word {x} {y} p w = record {
  wanted = p.follows.wanted ∙ w.wanted;
  answered = ap owes_answer p.follows.side ∙ w.answered;
  out = ap out_of p.follows.side ∙ w.out;
}

pub closes_up : TheNextItemIsHandedUp → ItemsAreAcceptedOrChangeNothing → (x : ConversationScene) → ClosesUp x (closed_up x)
closes_up next law x =
    let a : ConversationScene = with_end_out x in
    let b : ConversationScene = drained_out a in
    let y : ConversationScene = replied b in
    let p = ends law x in
    let q = drains_out next a in
    let r = replies law b in
    let behind = closes_then q.closes r.closes in
    let same : waiting_count y.state ≡ waiting_count b.state =
    sent_same law b (may_reply b) (is_ok (send_answer b.state (closing_item end_reply_stream))) (record b.closing { reply_sent = true }) (closing_item end_reply_stream) refl in
    record {
      closes = so_then p.closes (closes_so behind);
      said = record {
        read = λ yes. same ∙ q.none (sym q.drain ∙ sym (reply_drains b _ _ refl) ∙ yes);
        end = λ may.
            let is : y ≡ a = (follows_then q.closes.follows r.closes.follows).still (why_end y may).free in
            ap (λ (w : ConversationScene). is_ok (send_answer w.state (closing_item end_stream))) is ∙ p.said (sym (ap may_end is) ∙ may);
        reply = r.said;
      };
      reads = reply_drains b _ _ refl ∙ q.drain ∙ p.reads
          ∙ sym (ap (λ (e : Bool). drains x.side x.closing || (e && is_called y.side)) behind.end
          ∙ ap (λ (z : Side). drains x.side x.closing || (a.closing.end_sent && is_called z)) behind.follows.side);
      due = λ unsent sent. same_last_word behind (p.due unsent (sym behind.end ∙ sent));
    }

-- ---- one that reads no more does so for good

taken_drained : (n : ℕ) (x : ConversationScene) → drains x.side x.closing ≡ true → drains (taken_many n x).side (taken_many n x).closing ≡ true
unfolding taken_many
taken_drained zero x drain = drain
taken_drained (suc n) x drain = let y : ConversationScene = taken_many n x in noting_drains y (take_answer y.state) ∙ taken_drained n x drain

ended_too : (a b c d : Bool) → (a || ((b && c) || d)) ≡ true → (a || (c || d)) ≡ true
ended_too true b c d e = refl
ended_too false true c d e = e
ended_too false false true d e = refl
ended_too false false false d e = e

ended_drained : (x : ConversationScene) (b : Bool) → drains x.side x.closing ≡ true
    → (let y : ConversationScene = if b then record x { closing = record x.closing { end_sent = true }; state = after_send x.state (closing_item end_stream) } else x in drains y.side y.closing)
    ≡ true
ended_drained x true drain = ended_too (is_stopped x.side) x.closing.end_sent (is_called x.side) (x.closing.reply_sent || x.closing.deaf) drain
ended_drained x false drain = drain

out_drained : (x : ConversationScene) (b : Bool) → drains x.side x.closing ≡ true
    → (let y : ConversationScene = if b then taken_many (waiting_count x.state) x else x in drains y.side y.closing) ≡ true
out_drained x true drain = taken_drained (waiting_count x.state) x drain
out_drained x false drain = drain

pub closed_drained : (x : ConversationScene) → drains x.side x.closing ≡ true → drains (closed_up x).side (closed_up x).closing ≡ true
closed_drained x drain =
    let a : ConversationScene = with_end_out x in
    let b : ConversationScene = drained_out a in
    reply_drains b (may_reply b) (is_ok (send_answer b.state (closing_item end_reply_stream))) refl
    ∙ out_drained a (drains a.side a.closing) (ended_drained x (may_end x && is_ok (send_answer x.state (closing_item end_stream))) drain)

pub deaf_drained : (x : ConversationScene) → drains (deafened x).side (deafened x).closing ≡ true
deaf_drained x = or_right (is_stopped x.side) _ (or_right (x.closing.end_sent && is_called x.side) _ (or-true x.closing.reply_sent))
