-- What a program sees of one connection, and how a connection that changed by itself is seen.
use Rattle.std.proofs.Common.{◌≡◌, ◌≢◌, ◌∙◌, ap, refl, sym, subst, ℕ, Bool, true, false, List, [], ◌∷◌, Option, Some, None}
use Rattle.std.specs.Option.{is_some, is_none}
use Rattle.xns_spp.specs.Held.{StandsFor}
use Rattle.xns_spp.specs.State.{State}
use Rattle.xns_connection.specs.Ends.{KeepsEnd, peer_that_opened}
use Rattle.xns_connection.specs.Story.{waiting_message}
use Rattle.xns_host.proofs.Ends.{same_id}
use Rattle.xns_host.specs.Went.{GuestTagged}
use Rattle.xns_host.specs.declared.guest.Guest.{Guest}
use Rattle.xns_connection.specs.declared.connection.Connection.{Connection}
use Rattle.xns_connection.specs.declared.side.Side.{Side}
use Rattle.xns_connection.specs.declared.why.Why.{Why}
use Rattle.host_world.specs.Dialogue.{Dialogue, IsUntold, View, free, held, Happening, closes}
use Rattle.host_world.specs.Dialogue.{ViewMove, closing, Course}
use Rattle.host_world.specs.Seen.{closed_since}
use Rattle.host_world.proofs.Happens.{Continues, closed_between, closed_same}
use Rattle.host_world.proofs.Sides.{Has}
use Rattle.host_world.proofs.Stepping.{Changes, unchanged}

-- ---- what is seen of a connection

pub record Shows (d : Dialogue) (g : Guest) : Type 0 where
  pub state : State
  pub stands : StandsFor g.connection.conversation.endpoint state
  pub side : Has d.ours d.calls d.answers g.connection.conversation.side
  pub ours : is_none (peer_that_opened g.connection) ≡ d.ours
  pub asked : d.asked ≡ true → g.connection.conversation.closing.wanted ≡ true
  pub closed : g.connection.closed ≡ d.closed
  pub told : g.connection.told ≡ d.told
  -- once the program was told that it is closed, it is, and nothing waits for the program
  pub over : d.told ≡ true → (is_some d.closed ≡ true) × (waiting_message g.connection.conversation.side ≡ None)
  pub unheard : g.heard_of ≡ false → d.ours ≡ false → d.calls ≡ []
  pub newly : g.opening_untold ≡ true → IsUntold d

-- what a view shows of a place: nobody, or a connection
abbrev pub ShowsIn : View → Option (Option Guest) → Type 0
ShowsIn free None = Unit {0}
ShowsIn free (Some None) = Unit {0}
ShowsIn free (Some (Some g)) = ⊥
ShowsIn (held d) None = ⊥
ShowsIn (held d) (Some None) = ⊥
ShowsIn (held d) (Some (Some g)) = Shows d g

-- happenings lead from this view to one that the place shows
pub record Passes (events : List Happening) (v : View) (place : Option (Option Guest)) : Type 0 where
  pub view : View
  pub shows : ShowsIn view place
  pub course : Course v events view

pub stays : (v : View) (place : Option (Option Guest)) → ShowsIn v place → Passes [] v place
unfolding Course
stays v place shows = record { view = v; shows = shows; course = refl }

-- one step more, first
pub first : (v u : View) (x : Happening) (events : List Happening) (place : Option (Option Guest)) → ViewMove v x u → Passes events u place → Passes (x ∷ events) v place
unfolding Course
first v u x events place move p = record { view = p.view; shows = p.shows; course = (u, move, p.course) }

-- a connection that is closed as it was
pub as_closed : (d : Dialogue) (g h : Guest) → Shows d h → h.connection.closed ≡ g.connection.closed → Passes (closed_between g h) (held d) (Some (Some h))
as_closed d g h s same = subst (λ (xs : List Happening). Passes xs (held d) (Some (Some h))) (sym (closed_same g h same)) (stays (held d) (Some (Some h)) s)

-- ---- a connection that may have been closed besides

-- what a dialogue shows of a connection, but for why it is closed: the connection may be closed where the dialogue is not
pub record Nearly (d : Dialogue) (g : Guest) : Type 0 where
  pub shows : Shows (record d { closed = g.connection.closed }) g
  pub stays : d.closed ≢ None → g.connection.closed ≡ d.closed

shown_so : (d : Dialogue) (g : Guest) → Nearly d g → (o : Option Why) → g.connection.closed ≡ o → Shows (record d { closed = o }) g
shown_so d g n o is = subst (λ (p : Option Why). Shows (record d { closed = p }) g) is n.shows

settled_by : (d : Dialogue) (g : Guest) → Nearly d g → (o p : Option Why) → d.closed ≡ o → g.connection.closed ≡ p → Passes (closed_since o p) (held d) (Some (Some g))
settled_by d g n (Some why) p was is = stays (held d) (Some (Some g)) (shown_so d g n d.closed (n.stays (λ none. let some = was in absurd (cc))))
settled_by d g n None None was is = stays (held d) (Some (Some g)) (shown_so d g n d.closed (is ∙ sym was))
settled_by d g n None (Some why) was is =
    let e : Dialogue = record d { closed = Some why } in
    first (held d) (held e) (closes why) [] (Some (Some g)) (closing d why was) (stays (held e) (Some (Some g)) (shown_so d g n (Some why) is))

pub settled : (d : Dialogue) (g h : Guest) → g.connection.closed ≡ d.closed → Nearly d h → Passes (closed_between g h) (held d) (Some (Some h))
settled d g h was n = settled_by d h n g.connection.closed h.connection.closed (sym was) refl

-- ---- by itself

pub some_not : {X : Type 0} (o : Option X) → is_some o ≡ true → o ≢ None
some_not None e z = absurd (cc)
some_not (Some x) e z = absurd (cc)

-- a connection changed as by a step, and a dialogue goes on from the one that showed it before, with the opener, the reason and whether that
-- was told as they were
pub nearly : (d e : Dialogue) (g h : Guest) (side : Side) (wanted : Bool) → Shows d g → Changes side wanted g.connection h.connection
    → peer_that_opened h.connection ≡ peer_that_opened g.connection → e.ours ≡ d.ours → e.closed ≡ d.closed → e.told ≡ d.told → Has e.ours e.calls e.answers side
    → (e.asked ≡ true → wanted ≡ true) → (d.told ≡ true → waiting_message h.connection.conversation.side ≡ None)
    → (h.heard_of ≡ false → e.ours ≡ false → e.calls ≡ []) → (h.opening_untold ≡ true → IsUntold e) → Nearly e h
nearly d e g h side wanted s c opener ours closed told has asked over unheard newly = record {
  shows = record {
    state = c.state;
    stands = c.stands;
    side = c.keeps e.ours e.calls e.answers has;
    ours = ap is_none opener ∙ (s.ours ∙ sym ours);
    asked = λ z. c.wanted ∙ asked z;
    closed = refl;
    told = c.told ∙ (s.told ∙ sym told);
    over = λ z.
        let was = sym told ∙ z in
        let some = (s.over was).0 in
        (ap is_some (still (some_not d.closed some)) ∙ some, over was);
    unheard = unheard;
    newly = newly;
  };
  stays = λ some. still (λ none. some (closed ∙ none)) ∙ sym closed;
} where
  still : d.closed ≢ None → h.connection.closed ≡ d.closed
  still some = c.stays (λ none. some (sym s.closed ∙ none)) ∙ s.closed

-- a connection changed by itself, and whether closing was asked for was noted
pub nearly_by : (d : Dialogue) (g h : Guest) (asked wanted : Bool) → Shows d g → peer_that_opened h.connection ≡ peer_that_opened g.connection → h.heard_of ≡ g.heard_of → h.opening_untold ≡ g.opening_untold
    → Changes g.connection.conversation.side wanted g.connection h.connection → (asked ≡ true → wanted ≡ true) → Nearly (record d { asked = asked }) h
nearly_by d g h asked wanted s opener heard opening c noted =
    nearly d (record d { asked = asked }) g h g.connection.conversation.side wanted s c opener refl refl refl s.side noted
    (λ z. let o = s.over z in ap waiting_message (c.drained (g.connection.fits.deaf (λ none. some_not d.closed o.0 (sym s.closed ∙ none)))) ∙ o.1)
    (λ z. s.unheard (sym heard ∙ z)) (λ z. s.newly (sym opening ∙ z))

-- the one connection became the other by itself, and a view of the one is led to a view of the other
pub record Alone (d : Dialogue) (g h : Guest) : Type 0 where
  pub continues : Continues g h
  pub passes : Passes (closed_between g h) (held d) (Some (Some h))

pub by_itself : (d : Dialogue) (g h : Guest) → Shows d g → KeepsEnd g.connection h.connection → h.heard_of ≡ g.heard_of → h.opening_untold ≡ g.opening_untold
    → Changes g.connection.conversation.side g.connection.conversation.closing.wanted g.connection h.connection → Alone d g h
by_itself d g h s keeps heard opening c = record {
  continues = record { id = same_id g h keeps; opener = keeps.opener; told = c.told; closed = c.stays };
  passes = settled d g h s.closed (nearly_by d g h d.asked g.connection.conversation.closing.wanted s keeps.opener heard opening c s.asked);
}

-- a connection of which all that concerns its close is as it was
pub unmoved : (d : Dialogue) (g h : Guest) → Shows d h → h.connection ≡ g.connection → Alone d g h
unmoved d g h s same = record {
  continues = record {
    id = ap (λ (c : Connection). c.conversation.endpoint.ends.id) same;
    opener = ap peer_that_opened same;
    told = ap (λ (c : Connection). c.told) same;
    closed = λ z. ap (λ (c : Connection). c.closed) same;
  };
  passes = as_closed d g h s (ap (λ (c : Connection). c.closed) same);
}

-- ---- the program gives the connection a tag

-- neither the tag of a connection nor whether the program was told that it is open changes what else is shown of it
pub shown_as : (tag : ℕ) (opened untold : Bool) (d : Dialogue) (g : Guest) → Shows d g → (untold ≡ true → IsUntold (record d { opened = opened }))
    → Shows (record d { opened = opened }) (record g { tag = tag; opening_untold = untold })
shown_as tag opened untold d g s newly =
    let e : Dialogue = record d { opened = opened } in
    let h : Guest = record g { tag = tag; opening_untold = untold } in
    shown_so e h (nearly d e g h g.connection.conversation.side g.connection.conversation.closing.wanted s (unchanged g.connection s.state s.stands)
    refl refl refl refl s.side s.asked (λ z. (s.over z).1) s.unheard newly) d.closed s.closed

pub tagging : (tag : ℕ) (d : Dialogue) (g h : Guest) → Shows d g → GuestTagged tag g h → Alone d g h
tagging tag d g h s is =
    unmoved d g h (subst (Shows d) (sym is) (shown_as tag d.opened g.opening_untold d g s s.newly)) (ap (λ (k : Guest). k.connection) is)
