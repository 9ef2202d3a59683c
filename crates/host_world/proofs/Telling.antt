-- What a connection has done is told on where no item moves: it is given up, a message is handed, a packet is made.
use Rattle.std.proofs.Common.{◌≡◌, ◌⊎◌, inl, inr, ◌∙◌, ap, refl, sym, subst, ℕ, Bool, true, false, List, [], ◌∷◌, ◌++◌, take, drop, length, Option, Some, None}
use Rattle.std.specs.Prelude.{◌&&◌, ◌||◌, slice_get}
use Rattle.courier_messages.specs.declared.message.Message.{Message}
use Rattle.courier_sessions.proofs.Answered.{hands as call_handed}
use Rattle.courier_sessions.proofs.Done.{hands as outcome_handed}
use Rattle.courier_sessions.specs.Answering.{Answering, transaction_in, why_unlisted}
use Rattle.courier_sessions.specs.Talk.{Talk}
use Rattle.courier_sessions.specs.declared.unlisted.Unlisted.{Unlisted}
use Rattle.xns_spp.specs.Growth.{Begins}
use Rattle.xns_spp.specs.Held.{StandsFor}
use Rattle.xns_spp.specs.State.{State}
use Rattle.xns_spp.specs.declared.item.Item.{Item}
use Rattle.xns_connection.specs.Closing.{Knows, closing_items, drains}
use Rattle.xns_connection.specs.Deeds.{given_up, handed_by, side_taken}
use Rattle.xns_connection.specs.Story.{is_called, is_stopped, out_of, CallerHas, ServerHas, SideHas, Story, listed_call, waiting_message, with_handed}
use Rattle.xns_connection.specs.Telling.{EndsLast, Tells}
use Rattle.xns_connection.specs.declared.closing.Closing.{Closing}
use Rattle.xns_connection.specs.declared.conversation.Conversation.{Conversation}
use Rattle.xns_connection.specs.declared.side.Side.{Side}
use Rattle.xns_connection.specs.declared.side.Side.TheVariants.{Calls, Answers}
use Rattle.xns_connection.proofs.Doing.{handed_keeps, is_listed_call}

-- ---- the end went on, and accepted and handed up nothing

pub record Quiet (s v : State) : Type 0 where
  pub accepted : v.accepted ≡ s.accepted
  pub handed : v.handed ≡ s.handed
  pub taken : v.taken ≡ s.taken

side_has : (h : Story) (v : State) (side : Side) → SideHas h side → SideHas (record h { state = v }) side
side_has h v (Calls t) has = record { phase = has.phase; done = has.done; going = has.going; table = has.table }
side_has h v (Answers a) has = record { phase = has.phase; done = has.done; going = has.going; table = has.table; rejected = has.rejected }

pub tells_so : (c d : Conversation) (h : Story) (v : State) → Tells c h → StandsFor d.endpoint v → d.side ≡ c.side → d.closing ≡ c.closing → Quiet h.state v → Tells d (record h { state = v })
tells_so c d h v t stands side closing q =
    let up : take v.handed v.taken ≡ take h.state.handed h.state.taken = ap (λ (n : ℕ). take n v.taken) q.handed ∙ ap (take h.state.handed) q.taken in
    record {
      stands = stands;
      has = subst (SideHas (record h { state = v })) (sym side) (side_has h v c.side t.has);
      fed = subst (Begins h.fed) (sym up) t.fed;
      all = λ z. t.all (ap (λ (b : Side). drains b c.closing) (sym side) ∙ (ap (drains d.side) (sym closing) ∙ z)) ∙ sym up;
      given = ap (λ (k : Closing). h.given ++ closing_items k) closing ∙ (t.given ∙ sym q.accepted);
      last = subst (λ (k : Closing). EndsLast d.side k) (sym closing) (subst (λ (b : Side). EndsLast b c.closing) (sym side) t.last);
      knows = subst (λ (k : Closing). Knows k (drop (length h.fed) (take v.handed v.taken))) (sym closing)
          (subst (λ (l : List Item). Knows c.closing (drop (length h.fed) l)) (sym up) t.knows);
    }

-- ---- a peer is given up

deaf_drains : (s e r : Bool) → (s || (e || (r || true))) ≡ true
deaf_drains true e r = refl
deaf_drains false true r = refl
deaf_drains false false true = refl
deaf_drains false false false = refl

pub tells_given_up : (c : Conversation) (h : Story) → Tells c h → Tells (given_up c) h
tells_given_up c h t = record {
  stands = t.stands;
  has = t.has;
  fed = t.fed;
  all = λ z. let deaf : drains c.side (record (c.closing) { deaf = true }) ≡ true = deaf_drains (is_stopped c.side) (c.closing.end_sent && is_called c.side) c.closing.reply_sent in absurd (cc);
  given = t.given;
  last = t.last;
  knows = record { wanted = t.knows.wanted; heard = t.knows.heard };
}

-- ---- a message is handed

caller_handed : (h : Story) (t : Talk) (m : Message) → t.outcome ≡ Some m → CallerHas h t → CallerHas (record h { handed = h.handed ++ m ∷ [] }) (record t { outcome = None })
caller_handed h t m is has =
    let done = outcome_handed h.made h.fed h.given h.handed (record t { failed = false; phase = has.phase }) m has.done is in
    record { phase = has.phase; done = done; going = has.going; table = has.table }

one_of : {X : Type 0} (xs : List X) (x y : X) (k : ℕ) → slice_get (xs ++ x ∷ []) k ≡ Some y → (slice_get xs k ≡ Some y) ⊎ (x ≡ y)
one_of [] x y ℕ.zero e = inr (cc)
one_of [] x y (ℕ.suc k) e = absurd (cc)
one_of (z ∷ zs) x y ℕ.zero e = inl e
one_of (z ∷ zs) x y (ℕ.suc k) e = one_of zs x y k e

server_handed : (h : Story) (a : Answering) (m : Message) → a.call ≡ Some m → why_unlisted a.programs m ≡ None → ServerHas h a
    → ServerHas (record h { taken = h.taken ++ m ∷ []; handed = h.handed ++ m ∷ [] }) (record a { call = None; asked = Some (transaction_in m) })
server_handed h a m is listed has =
    let done = call_handed a.programs h.fed h.given h.taken h.handed h.answers (record a { failed = false; phase = has.phase }) m has.done is listed in
    record {
      phase = has.phase;
      done = done;
      going = has.going;
      table = has.table;
      rejected = λ k n u at why. elim (one_of h.taken m n k at) [
        | inl there ↦ has.rejected k n u there why
        | inr same ↦ absurd (some_none (why_unlisted a.programs n) u (ap (why_unlisted a.programs) (sym same) ∙ listed) why)
      ];
    } where
      some_none : (w : Option Unlisted) (u : Unlisted) → w ≡ None → w ≡ Some u → ⊥
      some_none None u e f = absurd (cc)
      some_none (Some v) u e f = absurd (cc)

side_handed : (h : Story) (side : Side) (m : Message) → waiting_message side ≡ Some m → SideHas h side → SideHas (with_handed side h m) (side_taken side)
side_handed h (Calls t) m is has = caller_handed h t m is has
side_handed h (Answers a) m is has =
    let call = is_listed_call a.programs a.call m is in
    subst (λ (o : Option Message). SideHas (with_handed (Answers a) h m) (Answers (handed_by o a))) (sym is) (server_handed h a m call.0 call.1 has)

same_stopped : (side : Side) (k : Closing) → drains (side_taken side) k ≡ drains side k
same_stopped (Calls t) k = refl
same_stopped (Answers a) k = handed_keeps (λ (b : Answering). drains (Answers b) k) a (listed_call a.programs a.call) (λ m. refl)

handed_out : (a : Answering) → out_of (side_taken (Answers a)) ≡ out_of (Answers a)
handed_out a = handed_keeps (λ (b : Answering). b.out) a (listed_call a.programs a.call) (λ m. refl)

pub tells_handed : (c : Conversation) (h : Story) (m : Message) → waiting_message c.side ≡ Some m → Tells c h → Tells (record c { side = side_taken c.side }) (with_handed c.side h m)
tells_handed c h m is t = by c.side refl where
  by : (side : Side) → c.side ≡ side → Tells (record c { side = side_taken side }) (with_handed side h m)
  by (Calls k) e = record {
    stands = t.stands;
    has = side_handed h (Calls k) m (ap waiting_message (sym e) ∙ is) (subst (SideHas h) e t.has);
    fed = t.fed;
    all = λ z. t.all (ap (λ (b : Side). drains b c.closing) e ∙ z);
    given = t.given;
    last = λ sent. let k = t.last sent in (k.0, ap out_of (sym e) ∙ k.1);
    knows = t.knows;
  }
  by (Answers a) e = record {
    stands = t.stands;
    has = side_handed h (Answers a) m (ap waiting_message (sym e) ∙ is) (subst (SideHas h) e t.has);
    fed = t.fed;
    all = λ z. t.all (ap (λ (b : Side). drains b c.closing) e ∙ (sym (same_stopped (Answers a) c.closing) ∙ z));
    given = t.given;
    last = λ sent. let k = t.last sent in (k.0, handed_out a ∙ (ap out_of (sym e) ∙ k.1));
    knows = t.knows;
  }
