-- What happens at a number, by the connections that have it before and behind.
use Rattle.std.proofs.Common.{◌≡◌, ◌≢◌, ◌∙◌, ap, refl, sym, ℕ, Bool, true, false, List, [], ◌∷◌, ◌++◌, append-nil, Option, Some, None}
use Rattle.std.specs.Prelude.{◌==◌, cond}
use Rattle.std.specs.List.{filter}
use Rattle.std.specs.Option.{is_some}
use Rattle.std.proofs.lemmas.Bool.{eqb-true, eq-eqb}
use Rattle.std.proofs.lemmas.List.Elements.{filter-append}
use Rattle.xns_idp.specs.declared.address.Address.{Address}
use Rattle.xns_connection.specs.Ends.{peer_that_opened}
use Rattle.xns_connection.specs.declared.why.Why.{Why}
use Rattle.xns_host.specs.Knowing.{id_of}
use Rattle.xns_host.specs.declared.event.Event.{Event}
use Rattle.xns_host.specs.declared.event.Event.TheVariants as events
use Rattle.xns_host.specs.declared.guest.Guest.{Guest}
use Rattle.host_world.specs.Dialogue.{Happening, goes, is_said, opens}
use Rattle.host_world.specs.Seen.{arriving, between, closed_since, leaving, news_of, said_at}

-- ---- a connection that is closed

abbrev pub closed_between : (g h : Guest) → List Happening
closed_between g h = closed_since g.connection.closed h.connection.closed

closed_not : (o : Option Why) → closed_since o o ≡ []
closed_not None = refl
closed_not (Some why) = refl

-- one that is as it was is not closed, and neither is one that was closed before
pub closed_same : (g h : Guest) → h.connection.closed ≡ g.connection.closed → closed_between g h ≡ []
closed_same g h same = ap (λ (o : Option Why). closed_since g.connection.closed o) same ∙ closed_not g.connection.closed

closed_once : (o p : Option Why) → is_some o ≡ true → closed_since o p ≡ []
closed_once None p e = absurd (cc)
closed_once (Some why) p e = refl

closed_then : (o p q : Option Why) → (o ≢ None → p ≡ o) → (p ≢ None → q ≡ p) → closed_since o p ++ closed_since p q ≡ closed_since o q
closed_then (Some why) p q one two = closed_once p q (ap is_some (one (λ none. absurd (cc))))
closed_then None None q one two = refl
closed_then None (Some why) q one two = ap (λ (o : Option Why). closed_since None o) (sym (two (λ none. absurd (cc))))

-- ---- the number of a connection

pub not_equal : (a b : ℕ) (c : Bool) → (a == b) ≡ c → a ≢ b → c ≡ false
not_equal a b true e other = absurd (other (eqb-true a b e))
not_equal a b false e other = refl

pub said_here : (number : ℕ) (x : Happening) → said_at number x number ≡ x ∷ []
said_here number x = ap (λ (b : Bool). cond b (x ∷ []) []) (eq-eqb number number refl)

pub said_there : (number : ℕ) (x : Happening) (k : ℕ) → k ≢ number → said_at number x k ≡ []
said_there number x k other = ap (λ (b : Bool). cond b (x ∷ []) []) (not_equal k number (k == number) refl other)

-- ---- the same connection, or another

pub between_same : (said : List Happening) (g h : Guest) → id_of h ≡ id_of g → between said (Some g) (Some h) ≡ said ++ closed_between g h
between_same said g h same = ap (λ (b : Bool). cond b (said ++ closed_between g h) (goes ∷ (said ++ arriving h))) (eq-eqb (id_of h) (id_of g) same)

pub between_other : (said : List Happening) (g h : Guest) → id_of h ≢ id_of g → between said (Some g) (Some h) ≡ goes ∷ (said ++ arriving h)
between_other said g h other =
    ap (λ (b : Bool). cond b (said ++ closed_between g h) (goes ∷ (said ++ arriving h))) (not_equal (id_of h) (id_of g) (id_of h == id_of g) refl other)

pub nothing_between : (o : Option Guest) → between [] o o ≡ []
nothing_between None = refl
nothing_between (Some g) = between_same [] g g refl ∙ closed_same g g refl

pub arriving_ours : (g : Guest) → peer_that_opened g.connection ≡ None → g.connection.closed ≡ None → arriving g ≡ []
arriving_ours g ours unclosed =
    ap (λ (o : Option (Address × ℕ)). cond (is_some o) (opens ∷ []) [] ++ closed_since None g.connection.closed) ours ∙ ap (λ (o : Option Why). closed_since None o) unclosed

pub arriving_theirs : (g : Guest) → is_some (peer_that_opened g.connection) ≡ true → arriving g ≡ opens ∷ closed_since None g.connection.closed
arriving_theirs g theirs = ap (λ (b : Bool). cond b (opens ∷ []) [] ++ closed_since None g.connection.closed) theirs

pub leaving_told : (event : Event) → leaving (news_of event ∷ []) ≡ goes ∷ []
leaving_told (events.Opened number tag) = refl
leaving_told (events.Call number tag program version procedure m) = refl
leaving_told (events.Answer number tag answer m) = refl
leaving_told (events.Closed number tag why) = refl

-- ---- a connection that goes on by itself

-- the one connection became the other, and the program was told of no close of it; one that is closed stays closed
pub record Continues (g h : Guest) : Type 0 where
  pub id : id_of h ≡ id_of g
  pub opener : peer_that_opened h.connection ≡ peer_that_opened g.connection
  pub told : h.connection.told ≡ g.connection.told
  pub closed : g.connection.closed ≢ None → h.connection.closed ≡ g.connection.closed

-- no connection came; one that was there went on, or left once the program was told of its close
abbrev pub Calm : (old new : Option Guest) → Type 0
Calm None None = Unit {0}
Calm None (Some h) = ⊥
Calm (Some g) None = g.connection.told ≡ true
Calm (Some g) (Some h) = Continues g h

pub calm_here : (o : Option Guest) → Calm o o
calm_here None = tt
calm_here (Some g) = record { id = refl; opener = refl; told = refl; closed = λ z. refl }

still_closed : (o p q : Option Why) → (o ≢ None → p ≡ o) → (p ≢ None → q ≡ p) → o ≢ None → q ≡ o
still_closed o p q one two some = two (λ none. some (sym (one some) ∙ none)) ∙ one some

pub calm_then : (a b c : Option Guest) → Calm a b → Calm b c → Calm a c
calm_then None None c p q = q
calm_then None (Some h) c p q = absurd p
calm_then (Some g) None None p q = p
calm_then (Some g) None (Some i) p q = absurd q
calm_then (Some g) (Some h) None p q = sym p.told ∙ q
calm_then (Some g) (Some h) (Some i) p q = record {
  id = q.id ∙ p.id;
  opener = q.opener ∙ p.opener;
  told = q.told ∙ p.told;
  closed = still_closed g.connection.closed h.connection.closed i.connection.closed p.closed q.closed;
}

-- a connection of whose close the program was told is closed
abbrev pub IsClosedWhereTold : Option Guest → Type 0
IsClosedWhereTold None = Unit {0}
IsClosedWhereTold (Some g) = g.connection.told ≡ true → is_some g.connection.closed ≡ true

-- what happened by two steps in which no connection came is what happened by both as one
pub calm_join : (a b c : Option Guest) → Calm a b → Calm b c → IsClosedWhereTold a → between [] a b ++ between [] b c ≡ between [] a c
calm_join None None c p q w = refl
calm_join None (Some h) c p q w = absurd p
calm_join (Some g) None None p q w = refl
calm_join (Some g) None (Some i) p q w = absurd q
calm_join (Some g) (Some h) None p q w =
    ap (λ (xs : List Happening). xs ++ goes ∷ []) (between_same [] g h p.id ∙ closed_once g.connection.closed h.connection.closed (w (sym p.told ∙ q)))
calm_join (Some g) (Some h) (Some i) p q w =
    ap (λ (xs : List Happening). xs ++ between [] (Some h) (Some i)) (between_same [] g h p.id) ∙ (ap (λ (ys : List Happening). closed_between g h ++ ys) (between_same [] h i q.id)
    ∙ (closed_then g.connection.closed h.connection.closed i.connection.closed p.closed q.closed ∙ sym (between_same [] g i (q.id ∙ p.id))))

-- ---- what is said of it

unseen_closed : (o p : Option Why) → filter is_said (closed_since o p) ≡ []
unseen_closed None None = refl
unseen_closed None (Some why) = refl
unseen_closed (Some first) p = refl

unseen_arriving : (g : Guest) → filter is_said (arriving g) ≡ []
unseen_arriving g = by (is_some (peer_that_opened g.connection)) where
  by : (b : Bool) → filter is_said (cond b (opens ∷ []) [] ++ closed_since None g.connection.closed) ≡ []
  by true = unseen_closed None g.connection.closed
  by false = unseen_closed None g.connection.closed

unseen_leaving : (b : Bool) → filter is_said (cond b [] (goes ∷ [])) ≡ []
unseen_leaving true = refl
unseen_leaving false = refl

said_first : (said unseen : List Happening) → filter is_said said ≡ said → filter is_said unseen ≡ [] → filter is_said (said ++ unseen) ≡ said
said_first said unseen all none =
    filter-append is_said said unseen ∙ (ap (λ (xs : List Happening). xs ++ filter is_said unseen) all ∙ (ap (λ (xs : List Happening). said ++ xs) none ∙ append-nil said))

-- what is said in what happens is what was said
pub said_between : (said : List Happening) (old new : Option Guest) → filter is_said said ≡ said → filter is_said (between said old new) ≡ said
said_between said None None all = all
said_between said None (Some h) all = said_first said (arriving h) all (unseen_arriving h)
said_between said (Some g) None all = said_first said (leaving said) all (unseen_leaving _)
said_between said (Some g) (Some h) all = by (id_of h == id_of g) where
  by : (b : Bool) → filter is_said (cond b (said ++ closed_between g h) (goes ∷ (said ++ arriving h))) ≡ said
  by true = said_first said (closed_between g h) all (unseen_closed g.connection.closed h.connection.closed)
  by false = said_first said (arriving h) all (unseen_arriving h)

-- one happening that is said
pub said_alone : (number : ℕ) (x : Happening) → is_said x ≡ true → (k : ℕ) → filter is_said (said_at number x k) ≡ said_at number x k
said_alone number x e k = by (k == number) where
  by : (b : Bool) → filter is_said (cond b (x ∷ []) []) ≡ cond b (x ∷ []) []
  by true = ap (λ (c : Bool). cond c (x ∷ []) []) e
  by false = refl
