-- Which packet a connection gives next.
use Rattle.std.proofs.Common.{◌≡◌, ◌≢◌, ◌⊎◌, ◌∙◌, inl, inr, ap, refl, sym, subst, ℕ, List, Bool, true, false, Option, Some, None, Result, Ok, Err, IfOk, OnErr}
use Rattle.std.proofs.Math.Logic.{∥∥₁_map}
use Rattle.std.specs.Option.{is_some}
use Rattle.std.specs.declared.alloc.AllocError.{AllocError}
use Rattle.xns_agenda.specs.Waiting.{Waiting, after_step}
use Rattle.xns_spp.specs.Held.{StandsFor}
use Rattle.xns_spp.specs.State.{State}
use Rattle.xns_connection.specs.Closing.{wants_word}
use Rattle.xns_connection.specs.Deeds.{wait_moved}
use Rattle.xns_connection.specs.Giving.{Giving, GivesAs, IsGiving, MayStopAt, at_flush, at_word, else_newer, flushed, giving, newer, next_of, next_unless, older}
use Rattle.xns_connection.specs.Moving.{HasHistory, ConversationScene, conversation_scene}
use Rattle.xns_connection.specs.Telling.{waits}
use Rattle.xns_connection.specs.declared.conversation.Conversation.{Conversation}
use Rattle.xns_connection.specs.declared.owed.Owed.{Owed}
use Rattle.xns_connection.specs.declared.owed.TheConstants.Owed.{SILENT}
use Rattle.xns_connection.specs.declared.why.Why.{Why}

giving_at : {t : Conversation} {o : Owed} {x : Giving} → IsGiving t o x → giving t o x.state ≡ x
giving_at {t} {o} {x} g =
    ap (λ (ps : List (List ℕ)). let y : Giving = record { state = x.state; packets = ps; owed = o } in y) g.packets
    ∙ ap (λ (w : Owed). let y : Giving = record { state = x.state; packets = x.packets; owed = w } in y) g.owed

-- no packet goes out again
pub none_older : (t0 t : Conversation) (o0 o : Owed) {q : Option (List ℕ)} → q ≡ None
    → ((s : State) → StandsFor t0.endpoint s → GivesAs (older (giving t0 o0 s)) q t o)
    → (s : State) → StandsFor t0.endpoint s → GivesAs (older (giving t0 o0 s)) None t o
none_older t0 t o0 o is first s stands = let g = first s stands in (sym is ∙ g.0, g.1)

-- no packet goes out again, and then this one goes out for the first time
pub next_at : (r : Result (Option (List ℕ)) AllocError) (t0 t u : Conversation) (o0 o v : Owed)
    → ((s : State) → StandsFor t0.endpoint s → GivesAs (older (giving t0 o0 s)) None t o)
    → IfOk r (λ p. (s : State) → StandsFor t.endpoint s → GivesAs (newer (giving t o s)) p u v)
    → IfOk r (λ p. (s : State) → StandsFor t0.endpoint s → GivesAs (next_of (giving t0 o0 s)) p u v)
next_at (Ok p) t0 t u o0 o v first then_new = λ s stands.
    let g = first s stands in
    let y = older (giving t0 o0 s) in
    subst (λ (a : Option (List ℕ)). GivesAs (else_newer a y.1) p u v) g.0
    (subst (λ (x : Giving). GivesAs (newer x) p u v) (giving_at g.1) (then_new y.1.state g.1.stands))
next_at (Err e) t0 t u o0 o v first then_new = tt

pub next_short : (r : Result (Option (List ℕ)) AllocError) (t0 t u : Conversation) (o0 o v : Owed)
    → ((s : State) → StandsFor t0.endpoint s → GivesAs (older (giving t0 o0 s)) None t o)
    → OnErr r ((s : State) → StandsFor t.endpoint s → IsGiving u v (giving t o s) ⊎ IsGiving u v (flushed (giving t o s)))
    → OnErr r ((s : State) → StandsFor t0.endpoint s → (y : Giving) × MayStopAt (giving t0 o0 s) y × IsGiving u v y)
next_short (Ok p) t0 t u o0 o v first short = tt
next_short (Err e) t0 t u o0 o v first short = λ s stands. by s (first s stands) where
  by : (s : State) → GivesAs (older (giving t0 o0 s)) None t o → (y : Giving) × MayStopAt (giving t0 o0 s) y × IsGiving u v y
  by s g = on (short (older (giving t0 o0 s)).1.state g.1.stands) where
    z : Giving
    z = (older (giving t0 o0 s)).1

    on : IsGiving u v (giving t o z.state) ⊎ IsGiving u v (flushed (giving t o z.state)) → (y : Giving) × MayStopAt (giving t0 o0 s) y × IsGiving u v y
    on (inl a) = (z, at_flush (sym g.0), subst (λ (x : Giving). IsGiving u v x) (giving_at g.1) a)
    on (inr b) = (flushed z, at_word (sym g.0), subst (λ (x : Giving). IsGiving u v (flushed x)) (giving_at g.1) b)

-- memory was refused where a packet was to be given
pub older_wanted : (o : Option (List ℕ)) (x : Giving) → is_some o ≡ true → is_some (else_newer o x).0 ≡ true
older_wanted None x is = absurd (cc)
older_wanted (Some p) x is = refl

pub next_wanted : (r : Result (Option (List ℕ)) AllocError) (t0 t : Conversation) (o0 o : Owed)
    → ((s : State) → StandsFor t0.endpoint s → GivesAs (older (giving t0 o0 s)) None t o)
    → OnErr r ((s : State) → StandsFor t.endpoint s → is_some (newer (giving t o s)).0 ≡ true)
    → OnErr r ((s : State) → StandsFor t0.endpoint s → is_some (next_of (giving t0 o0 s)).0 ≡ true)
next_wanted (Ok p) t0 t o0 o first wants = tt
next_wanted (Err e) t0 t o0 o first wants = λ s stands.
    let g = first s stands in
    let y = older (giving t0 o0 s) in
    subst (λ (a : Option (List ℕ)). is_some (else_newer a y.1).0 ≡ true) g.0
    (subst (λ (x : Giving). is_some (newer x).0 ≡ true) (giving_at g.1) (wants y.1.state g.1.stands))

-- what a living connection gave
pub next_alive : (r : Result (Option (List ℕ)) AllocError) (dead : Bool) (t u : Conversation) (o v : Owed) → dead ≡ false
    → IfOk r (λ p. (s : State) → StandsFor t.endpoint s → GivesAs (next_of (giving t o s)) p u v)
    → IfOk r (λ p. (s : State) → StandsFor t.endpoint s → GivesAs (next_unless dead (giving t o s)) p u v)
next_alive r true t u o v alive gave = absurd (cc)
next_alive r false t u o v alive gave = gave

-- a dead connection gives nothing
pub none_dead : (dead : Bool) (t : Conversation) (o : Owed) (s : State) → dead ≡ true → StandsFor t.endpoint s
    → GivesAs (next_unless dead (giving t o s)) None t SILENT
none_dead true t o s is stands = (refl, record { stands = stands; packets = refl; owed = refl })
none_dead false t o s is stands = absurd (cc)

pub so_on_err : (r : Result (Option (List ℕ)) AllocError) (b : Bool) → b ≡ false → OnErr r (b ≡ false)
so_on_err (Ok p) b is = tt
so_on_err (Err e) b is = is

pub waits_closed : (closed : Option Why) (w : Waiting) (x : ConversationScene) (now : ℕ) → closed ≢ None → w ≡ wait_moved closed closed w x now
waits_closed (Some y) w x now some = refl
waits_closed None w x now some = absurd (some refl)

pub unless_closed : (t : Conversation) (s : State) (closed : Option Why) (w v : Waiting) (now : ℕ) → StandsFor t.endpoint s
    → (closed ≡ None → (s : State) → StandsFor t.endpoint s → v ≡ after_step w (waits s) (wants_word t.side t.closing) now) → (closed ≢ None → v ≡ w)
    → v ≡ wait_moved closed closed w (conversation_scene t s) now
unless_closed t s (Some x) w v now stands going kept = kept (λ z. cc)
unless_closed t s None w v now stands going kept = going refl s stands

-- whichever it was, the end keeps a history
pub given_history : (r : Result (Option (List ℕ)) AllocError) (t u : Conversation) (o v : Owed) → HasHistory t.endpoint
    → IfOk r (λ p. (s : State) → StandsFor t.endpoint s → GivesAs (next_of (giving t o s)) p u v)
    → OnErr r ((s : State) → StandsFor t.endpoint s → (y : Giving) × MayStopAt (giving t o s) y × IsGiving u v y) → HasHistory u.endpoint
given_history (Ok p) t u o v has gave short = ∥∥₁_map has (λ x. let g = gave x.0 x.1 in ((next_of (giving t o x.0)).1.state, g.1.stands))
given_history (Err e) t u o v has gave short = ∥∥₁_map has (λ x. let y = short x.0 x.1 in (y.0.state, y.2.stands))
