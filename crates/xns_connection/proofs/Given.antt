-- A connection gives what waited and what it made.
use Rattle.std.proofs.Common.{[], ◌≡◌, ◌∙◌, ap, refl, sym, subst, ℕ, List, ◌∷◌, ◌++◌, append-nil, append_assoc, Bool, true, false, Option, Some, None, Result, Ok, Err, OnErr, IfOk}
use Rattle.std.specs.Prelude.{◌||◌, if◌then◌else◌}
use Rattle.std.specs.Option.{option_to_list}
use Rattle.std.specs.declared.alloc.AllocError.{AllocError}
use Rattle.std.proofs.Math.Logic.{∥∥₁_elim}
use Rattle.std.proofs.Props.{props}
use Rattle.xns_spp.specs.Held.{StandsFor}
use Rattle.xns_spp.specs.Laws.{OtherStepsAcceptAndHandUpNothing, OtherStepsHearNothing}
use Rattle.xns_spp.specs.Sending.{flush_answer}
use Rattle.xns_spp.specs.State.{State}
use Rattle.xns_spp.specs.Telling.{resend_answer, told_answer}
use Rattle.xns_connection.specs.Closing.{drains}
use Rattle.xns_connection.specs.Connecting.{is_dead}
use Rattle.xns_connection.specs.Deeds.{nothing}
use Rattle.xns_connection.specs.Giving.{Giving, GivesAs, IsGiving, MayStopAt, at_first, at_flush, at_word, else_newer, flushed, giving, if_again, newer, newer_of, next_of, next_unless, older, older_of}
use Rattle.xns_connection.specs.Step.{AConnectionGivesWhatItMade, AStepKeepsItsPromises, GivesOn, MovesOwed}
use Rattle.xns_connection.specs.Story.{Runs, Story, flushes, made_on, resends, start, tells}
use Rattle.xns_connection.specs.Telling.{GivesNextPacket, Goes, Rested}
use Rattle.xns_connection.specs.declared.closing.Closing.{Closing}
use Rattle.xns_connection.specs.declared.connection.Connection.{Connection}
use Rattle.xns_connection.specs.declared.conversation.Conversation.{Conversation}
use Rattle.xns_connection.specs.declared.owed.Owed.{Owed}
use Rattle.xns_connection.specs.declared.side.Side.{Side}
use Rattle.xns_connection.proofs.Giving.{Packets, alone, gives_by, made_then, moves_and_gives, moves_and_none}
use Rattle.xns_connection.proofs.Leading.{goes_not, goes_then, runs_on, same_messages}
use Rattle.xns_connection.proofs.Tellings.{Carries, carried, flushed_out, rested_then, same_items, still_wanted}

-- steps of the end's own led to this packet, or none: the first of those that waited and of those that were made, in order
record Made (x : Giving) (packet : Option (List ℕ)) (y : Giving) : Type 0 where
  path : Runs x.state y.state
  made : option_to_list packet ++ y.packets ≡ x.packets ++ made_on path
  accepted : y.state.accepted ≡ x.state.accepted
  handed : y.state.handed ≡ x.state.handed
  taken : y.state.taken ≡ x.state.taken

made_not : (x : Giving) → Made x None x
made_not x = record { path = start; made = sym (append-nil x.packets); accepted = refl; handed = refl; taken = refl }

made_on_then : {x y z : Giving} {packet : Option (List ℕ)} → Made x None y → Made y packet z → Made x packet z
made_on_then {x} {y} {z} a b = record {
  path = runs_on a.path b.path;
  made = b.made ∙ ap (λ (bs : Packets). bs ++ made_on b.path) a.made ∙ append_assoc x.packets (made_on a.path) (made_on b.path)
      ∙ ap (λ (bs : Packets). x.packets ++ bs) (sym (made_then a.path b.path));
  accepted = b.accepted ∙ a.accepted;
  handed = b.handed ∙ a.handed;
  taken = b.taken ∙ a.taken;
}

-- ---- what waits, or goes out again

older_gone : (ps : Packets) (x : Giving) → x.packets ≡ ps → (older_of ps x).0 ≡ None → (older_of ps x).1.packets ≡ []
older_gone [] x is none = by x.owed.again where
  by : (b : Bool) → (if_again b x).1.packets ≡ []
  by true = is
  by false = is
older_gone (p ∷ ps) x is none = absurd (cc)

older_again : (ps : Packets) (x : Giving) → (older_of ps x).0 ≡ None → (older_of ps x).1.owed.again ≡ false
older_again [] x none = by x.owed.again refl where
  by : (b : Bool) → x.owed.again ≡ b → (if_again b x).1.owed.again ≡ false
  by true is = refl
  by false is = is
older_again (p ∷ ps) x none = absurd (cc)

module _ (stay : OtherStepsAcceptAndHandUpNothing) (hear : OtherStepsHearNothing) where
  again_made : (b : Bool) (x : Giving) → x.packets ≡ [] → Made x (if_again b x).0 (if_again b x).1
  again_made true x none = record {
    path = resends start;
    made = alone x.packets x.packets (option_to_list (resend_answer x.state)) (resend_answer x.state) none none refl;
    accepted = (stay.resend x.state).accepted;
    handed = (stay.resend x.state).handed;
    taken = (hear.resend x.state).taken;
  }
  again_made false x none = made_not x

  older_made_by : (ps : Packets) (x : Giving) → x.packets ≡ ps → Made x (older_of ps x).0 (older_of ps x).1
  older_made_by [] x is = again_made x.owed.again x is
  older_made_by (p ∷ ps) x is = record { path = start; made = sym is ∙ sym (append-nil x.packets); accepted = refl; handed = refl; taken = refl }

  -- ---- what goes out for the first time

  flush_made : (x : Giving) → x.packets ≡ [] → Made x None (flushed x)
  flush_made x none = record {
    path = flushes start;
    made = ap (λ (bs : Packets). bs ++ flush_answer x.state) (sym none);
    accepted = (stay.flush x.state).accepted;
    handed = (stay.flush x.state).handed;
    taken = (hear.flush x.state).taken;
  }

  word_made : (b : Bool) (y : Giving) (o : Owed) → y.packets ≡ []
      → Made y (if b then told_answer y.state y.owed.asks else None) (record { state = y.state; packets = []; owed = o })
  word_made true y o is = record {
    path = tells start y.owed.asks;
    made = alone y.packets [] (option_to_list (told_answer y.state y.owed.asks)) (told_answer y.state y.owed.asks) is refl refl;
    accepted = refl;
    handed = refl;
    taken = refl;
  }
  word_made false y o is = record { path = start; made = sym is ∙ sym (append-nil y.packets); accepted = refl; handed = refl; taken = refl }

  newer_made_by : (ps : Packets) (y : Giving) → y.packets ≡ ps → Made y (newer_of ps y).0 (newer_of ps y).1
  newer_made_by [] y is = word_made (y.owed.asks || y.owed.word) y (record y.owed { asks = false; word = false; fresh = y.owed.moving }) is
  newer_made_by (p ∷ ps) y is = record { path = start; made = sym is ∙ sym (append-nil y.packets); accepted = refl; handed = refl; taken = refl }

  newer_made : (x : Giving) → x.packets ≡ [] → Made x (newer x).0 (newer x).1
  newer_made x none = made_on_then (flush_made x none) (newer_made_by (flush_answer x.state) (flushed x) refl)

  -- ---- the next of both

  older_none : (x : Giving) → (older x).0 ≡ None → Made x None (older x).1
  older_none x is = subst (λ (o : Option (List ℕ)). Made x o (older x).1) is (older_made_by x.packets x refl)

  next_made_by : (x : Giving) (o : Option (List ℕ)) → (older x).0 ≡ o → Made x (else_newer o (older x).1).0 (else_newer o (older x).1).1
  next_made_by x None is = made_on_then (older_none x is) (newer_made (older x).1 (older_gone x.packets x refl is))
  next_made_by x (Some p) is = subst (λ (o : Option (List ℕ)). Made x o (older x).1) is (older_made_by x.packets x refl)

  next_made : (x : Giving) → Made x (next_of x).0 (next_of x).1
  next_made x = next_made_by x (older x).0 refl

  -- a dead connection gives none
  unless_made : (dead : Bool) (x : Giving) → Made x (next_unless dead x).0 (next_unless dead x).1
  unless_made true x = record { path = start; made = sym (append-nil x.packets); accepted = refl; handed = refl; taken = refl }
  unless_made false x = next_made x

  -- ---- up to where memory was refused

  short_made : {x y : Giving} → MayStopAt x y → Made x None y
  short_made {x} at_first = made_not x
  short_made {x} (at_flush is) = older_none x is
  short_made {x} (at_word is) = made_on_then (older_none x is) (flush_made (older x).1 (older_gone x.packets x refl is))

-- ---- where there is none

newer_left : (ps : Packets) (x : Giving) → flush_answer (newer_of ps (flushed x)).1.state ≡ []
newer_left [] x = flushed_out x.state
newer_left (p ∷ ps) x = flushed_out x.state

none_left : (x : Giving) (o : Option (List ℕ)) → (else_newer o x).0 ≡ None → flush_answer (else_newer o x).1.state ≡ []
none_left x None none = newer_left (flush_answer x.state) x
none_left x (Some p) none = absurd (cc)

newer_empty : (ps : Packets) (x : Giving) → (newer_of ps x).0 ≡ None → (newer_of ps x).1.packets ≡ []
newer_empty [] x none = refl
newer_empty (p ∷ ps) x none = absurd (cc)

none_empty : (x : Giving) (o : Option (List ℕ)) → (else_newer o x).0 ≡ None → (else_newer o x).1.packets ≡ []
none_empty x None none = newer_empty (flush_answer x.state) (flushed x) none
none_empty x (Some p) none = absurd (cc)

empty_unless : (dead : Bool) (x : Giving) → dead ≡ false → (next_unless dead x).0 ≡ None → (next_unless dead x).1.packets ≡ []
empty_unless true x alive none = absurd (cc)
empty_unless false x alive none = none_empty (older x).1 (older x).0 none

kept_unless : (dead : Bool) (x : Giving) → dead ≡ true → (next_unless dead x).1.packets ≡ x.packets
kept_unless true x is = refl
kept_unless false x is = absurd (cc)

-- nothing is owed
abbrev OwesNothing : Owed → Type 0
OwesNothing o = (o.again ≡ false) × (o.asks ≡ false) × (o.word ≡ false) × (o.fresh ≡ o.moving)

newer_owed : (ps : Packets) (x : Giving) → x.owed.again ≡ false → (newer_of ps (flushed x)).0 ≡ None → OwesNothing (newer_of ps (flushed x)).1.owed
newer_owed [] x again none = (again, refl, refl, refl)
newer_owed (p ∷ ps) x again none = absurd (cc)

none_owed : (x : Giving) (o : Option (List ℕ)) → (older x).0 ≡ o → (else_newer o (older x).1).0 ≡ None → OwesNothing (else_newer o (older x).1).1.owed
none_owed x None is none = newer_owed (flush_answer (older x).1.state) (older x).1 (older_again x.packets x is) none
none_owed x (Some p) is none = absurd (cc)

left_unless : (dead : Bool) (x : Giving) → dead ≡ false → (next_unless dead x).0 ≡ None → flush_answer (next_unless dead x).1.state ≡ []
left_unless true x alive none = absurd (cc)
left_unless false x alive none = none_left (older x).1 (older x).0 none

owed_unless : (dead : Bool) (x : Giving) → (next_unless dead x).0 ≡ None → OwesNothing (next_unless dead x).1.owed
owed_unless true x none = (refl, refl, refl, refl)
owed_unless false x none = none_owed x (older x).0 refl none

-- ---- of a conversation

still_free : (t u : Conversation) → u.side ≡ t.side → u.closing ≡ t.closing → drains u.side u.closing ≡ false → drains t.side t.closing ≡ false
still_free t u same closing z = ap (λ (e : Closing). drains t.side e) (sym closing) ∙ ap (λ (y : Side). drains y u.closing) (sym same) ∙ z

made_gives : (t u : Conversation) (o n : Owed) (packet : Option (List ℕ)) → u.side ≡ t.side → u.closing ≡ t.closing
    → ((s : State) → StandsFor t.endpoint s → (y : Giving) × Made (giving t o s) packet y × IsGiving u n y) → GivesNextPacket t u packet
made_gives t u o n packet same closing each = gives_by t u packet same closing (λ s stands.
    let k = each s stands in (
      k.0.state,
      same_items t u s k.0.state same closing k.1.accepted k.1.handed k.1.taken k.2.stands,
      k.1.path,
      ap (λ (bs : Packets). option_to_list packet ++ bs) k.2.packets ∙ k.1.made,
    ))

gives_goes : {t u : Conversation} {packet : Option (List ℕ)} → u.side ≡ t.side → u.closing ≡ t.closing → GivesNextPacket t u packet → Goes t u
gives_goes {t} {u} same closing gives = record {
  still = still_free t u same closing;
  wanted = still_wanted closing;
  on = λ h f. let k = gives.on h f in (k.0, k.1, k.2);
}

rests_by : (t u : Conversation) (o n : Owed) → u.side ≡ t.side → u.closing ≡ t.closing
    → ((s : State) → StandsFor t.endpoint s → (y : Giving) × Made (giving t o s) None y × IsGiving u n y × (flush_answer y.state ≡ [])) → Rested t u
rests_by t u o n same closing each = record {
  on = λ h f.
      let k = each h.state f.stands in
      let m : Story = record h { state = k.0.state } in
      let there : Carries t u h.state k.0.state = same_items t u h.state k.0.state same closing k.1.accepted k.1.handed k.1.taken k.2.stands in
      (m, carried t u h k.0.state same (still_free t u same closing) there f, same_messages h m k.1.path refl refl refl refl refl, k.3);
}

-- ---- of a connection

goes_any : {E : Type 0} {t u : Conversation} (r : Result (Option (List ℕ)) E) → u.side ≡ t.side → u.closing ≡ t.closing → IfOk r (λ o. GivesNextPacket t u o)
    → OnErr r (GivesNextPacket t u None) → Goes t u
goes_any (Ok o) same closing gives none = gives_goes same closing gives
goes_any (Err e) same closing gives none = gives_goes same closing none

moved_first : AStepKeepsItsPromises → (b : Bool) (now : ℕ) (old mid : Connection) → MovesOwed b now old mid
    → Goes old.conversation mid.conversation × (mid.conversation.packets ≡ old.conversation.packets)
moved_first law true now old mid step =
    let p = law now nothing old mid step in
    (record { still = p.still; wanted = λ z. p.wanted ∙ z; on = p.story }, step.packets)
moved_first law false now old mid same = (
  subst (λ (c : Connection). Goes old.conversation c.conversation) (sym same) (goes_not old.conversation),
  ap (λ (c : Connection). c.conversation.packets) same,
)

module _ (law : AStepKeepsItsPromises) (stay : OtherStepsAcceptAndHandUpNothing) (hear : OtherStepsHearNothing) (now : ℕ) (old mid new : Connection) where
  abbrev from : State → Giving
  from s = giving mid.conversation mid.owed s

  abbrev dead : Bool
  dead = is_dead mid.closed

  abbrev Beside : Type 0
  Beside = (new.conversation.side ≡ mid.conversation.side) × (new.conversation.closing ≡ mid.conversation.closing)

  -- a packet was given, or none
  abbrev Gave : Option (List ℕ) → Type 0
  Gave p = (s : State) → StandsFor mid.conversation.endpoint s → GivesAs (next_unless dead (from s)) p new.conversation new.owed

  gave_made : (p : Option (List ℕ)) → Gave p → (s : State) → StandsFor mid.conversation.endpoint s
      → (y : Giving) × Made (from s) p y × IsGiving new.conversation new.owed y
  gave_made p gave s stands =
      let g = gave s stands in
      let y = (next_unless dead (from s)).1 in
      (y, subst (λ (o : Option (List ℕ)). Made (from s) o y) (sym g.0) (unless_made stay hear dead (from s)), g.1)

  gives : (r : Result (Option (List ℕ)) AllocError) → Beside → IfOk r (λ p. Gave p) → IfOk r (λ p. GivesNextPacket mid.conversation new.conversation p)
  gives (Ok p) beside gave = made_gives mid.conversation new.conversation mid.owed new.owed p beside.0 beside.1 (gave_made p gave)
  gives (Err e) beside gave = tt

  given_none : (r : Result (Option (List ℕ)) AllocError) → Beside
      → OnErr r ((s : State) → StandsFor mid.conversation.endpoint s → (y : Giving) × MayStopAt (from s) y × IsGiving new.conversation new.owed y)
      → OnErr r (GivesNextPacket mid.conversation new.conversation None)
  given_none (Ok p) beside short = tt
  given_none (Err e) beside short = made_gives mid.conversation new.conversation mid.owed new.owed None beside.0 beside.1
      (λ s stands. let k = short s stands in (k.0, short_made stay hear k.1, k.2))

  rested : (r : Result (Option (List ℕ)) AllocError) → Beside → IfOk r (λ p. Gave p) → dead ≡ false → r ≡ Ok None
      → Rested mid.conversation new.conversation
  unfolding gave_made
  rested (Err e) beside gave alive none = absurd (cc)
  rested (Ok (Some p)) beside gave alive none = absurd (cc)
  rested (Ok None) beside gave alive none = rests_by mid.conversation new.conversation mid.owed new.owed beside.0 beside.1 (λ s stands.
      let k = gave_made None gave s stands in
      (k.0, k.1, k.2, left_unless dead (from s) alive (sym (gave s stands).0)))

  empty : (r : Result (Option (List ℕ)) AllocError) → IfOk r (λ p. Gave p) → dead ≡ false → r ≡ Ok None → new.conversation.packets.items ≡ []
  empty (Err e) gave alive none = absurd (cc)
  empty (Ok (Some p)) gave alive none = absurd (cc)
  empty (Ok None) gave alive none = ∥∥₁_elim mid.stands (Prim.hlevel props) (λ x.
      let g = gave x.0 x.1 in
      g.1.packets ∙ empty_unless dead (from x.0) alive (sym g.0))

  keeps : (r : Result (Option (List ℕ)) AllocError) → IfOk r (λ p. Gave p) → dead ≡ true → r ≡ Ok None
      → new.conversation.packets.items ≡ mid.conversation.packets.items
  keeps (Err e) gave is none = absurd (cc)
  keeps (Ok (Some p)) gave is none = absurd (cc)
  keeps (Ok None) gave is none = ∥∥₁_elim mid.stands (Prim.hlevel props) (λ x. (gave x.0 x.1).1.packets ∙ kept_unless dead (from x.0) is)

  owes : (r : Result (Option (List ℕ)) AllocError) → IfOk r (λ p. Gave p) → r ≡ Ok None → OwesNothing new.owed
  owes (Err e) gave none = absurd (cc)
  owes (Ok (Some p)) gave none = absurd (cc)
  owes (Ok None) gave none = ∥∥₁_elim mid.stands (Prim.hlevel props) (λ x.
      let g = gave x.0 x.1 in
      subst OwesNothing (sym g.1.owed) (owed_unless dead (from x.0) (sym g.0)))

  on : (r : Result (Option (List ℕ)) AllocError) → MovesOwed old.owed.moving now old mid → Beside → new.closed ≡ mid.closed
      → IfOk r (λ p. Gave p)
      → OnErr r ((s : State) → StandsFor mid.conversation.endpoint s → (y : Giving) × MayStopAt (from s) y × IsGiving new.conversation new.owed y)
      → GivesOn r old new
  on r moved beside closed gave short =
      let first = moved_first law old.owed.moving now old mid moved in
      let all = gives r beside gave in
      let none = given_none r beside short in
      record {
        goes = goes_then first.0 (goes_any r beside.0 beside.1 all none);
        gives = moves_and_gives new.conversation r first.0 first.1 all;
        given_none = moves_and_none new.conversation r first.0 first.1 none;
        rested = λ alive is. rested_then first.0 (rested r beside gave (ap is_dead (sym closed) ∙ alive) is);
        emptied = λ alive is. empty r gave (ap is_dead (sym closed) ∙ alive) is;
        kept = λ dead is. keeps r gave (ap is_dead (sym closed) ∙ dead) is ∙ ap (λ c. c.items) first.1;
        none = λ is. owes r gave is;
      }

pub gives_what_it_made : AStepKeepsItsPromises → OtherStepsAcceptAndHandUpNothing → OtherStepsHearNothing → AConnectionGivesWhatItMade
gives_what_it_made law stay hear now r old new g =
    on law stay hear now old g.mid new r g.moved g.beside g.closed g.gave g.short
