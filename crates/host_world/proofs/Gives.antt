-- The packet that goes out next is the first of those that wait and of those that are made behind them.
use Rattle.std.proofs.Common.{◌≡◌, ◌∙◌, ap, refl, sym, subst, ℕ, ◌+◌, Bool, true, false, List, [], ◌∷◌, ◌++◌, append-nil, Option, Some, None, Result, Ok, Err}
use Rattle.std.specs.Prelude.{◌&&◌, ◌||◌, if◌then◌else◌, max, nat_lt, IfOk, OnErr}
use Rattle.std.specs.Option.{option_to_list}
use Rattle.std.specs.declared.alloc.AllocError.{AllocError}
use Rattle.xns_spp.specs.Ends.{is_open}
use Rattle.xns_spp.specs.Held.{StandsFor}
use Rattle.xns_spp.specs.Sending.{after_flush, flush_answer}
use Rattle.xns_spp.specs.State.{State, send_limit}
use Rattle.xns_spp.specs.Telling.{after_resend, resend_answer, told_answer}
use Rattle.xns_connection.specs.Giving.{Giving, GivesAs, IsGiving, MayStopAt, at_first, at_flush, at_word, else_newer, flushed, giving, if_again, newer, newer_of, next_of, next_unless, older, older_of, said_again}
use Rattle.xns_connection.specs.Story.{ProgramDoesNothing, Runs, Story, flushes, made_on, resends, start, tells}
use Rattle.xns_connection.specs.Telling.{GivesNextPacket, Tells}
use Rattle.xns_connection.specs.declared.conversation.Conversation.{Conversation}
use Rattle.xns_connection.specs.declared.owed.Owed.{Owed}
use Rattle.host_world.proofs.Telling.{Quiet, tells_so}

-- ---- the end

sent_alone : (b : Bool) (s : State) (n : ℕ) → Quiet s (if b then record s { sent = n } else s)
sent_alone true s n = record { accepted = refl; handed = refl; taken = refl }
sent_alone false s n = record { accepted = refl; handed = refl; taken = refl }

flush_quiet : (s : State) → Quiet s (after_flush s)
flush_quiet s = sent_alone (is_open s.ends) s (send_limit s)

resend_quiet : (s : State) → Quiet s (after_resend s)
resend_quiet s = sent_alone (is_open s.ends && nat_lt s.acknowledged (send_limit s)) s (max s.sent (s.acknowledged + 1))

quiet_then : (s v w : State) → Quiet s v → Quiet v w → Quiet s w
quiet_then s v w p q = record { accepted = q.accepted ∙ p.accepted; handed = q.handed ∙ p.handed; taken = q.taken ∙ p.taken }

-- ---- what is given, and what waits behind it

record GivesBy (s : State) (waiting : List (List ℕ)) (y : Option (List ℕ) × Giving) : Type 0 where
  path : Runs s y.1.state
  quiet : Quiet s y.1.state
  is : option_to_list y.0 ++ y.1.packets ≡ waiting ++ made_on path

-- steps led there that made no packet, and none waits
record IsDry (s : State) (z : Giving) : Type 0 where
  path : Runs s z.state
  quiet : Quiet s z.state
  made : made_on path ≡ []
  packets : z.packets ≡ []

word_by : (s : State) (z : Giving) (d : IsDry s z) (owed : Owed) (b : Bool) → flush_answer z.state ≡ []
    → GivesBy s [] (if b then told_answer (after_flush z.state) z.owed.asks else None, record (flushed z) { packets = []; owed = owed })
word_by s z d owed true none = record {
  path = tells (flushes d.path) z.owed.asks;
  quiet = quiet_then s z.state (after_flush z.state) d.quiet (flush_quiet z.state);
  is = append-nil (option_to_list (told_answer (after_flush z.state) z.owed.asks))
      ∙ ap (λ (l : List (List ℕ)). l ++ option_to_list (told_answer (after_flush z.state) z.owed.asks)) (sym (ap (λ (l : List (List ℕ)). l ++ flush_answer z.state) d.made ∙ none));
}
word_by s z d owed false none = record {
  path = flushes d.path;
  quiet = quiet_then s z.state (after_flush z.state) d.quiet (flush_quiet z.state);
  is = sym (ap (λ (l : List (List ℕ)). l ++ flush_answer z.state) d.made ∙ none);
}

newer_by : (s : State) (z : Giving) (d : IsDry s z) (fs : List (List ℕ)) → flush_answer z.state ≡ fs → GivesBy s [] (newer_of fs (flushed z))
newer_by s z d (p ∷ ps) is = record {
  path = flushes d.path;
  quiet = quiet_then s z.state (after_flush z.state) d.quiet (flush_quiet z.state);
  is = sym (ap (λ (l : List (List ℕ)). l ++ flush_answer z.state) d.made ∙ is);
}
newer_by s z d [] is = word_by s z d _ (z.owed.asks || z.owed.word) is

newer_gives : (s : State) (z : Giving) → IsDry s z → GivesBy s [] (newer z)
newer_gives s z d = newer_by s z d (flush_answer z.state) refl

-- ---- first what waits, or goes out again

-- a packet, or there is none
abbrev Older : (x : Giving) → Option (List ℕ) → Giving → Type 0
Older x (Some p) y = GivesBy x.state x.packets (Some p, y)
Older x None y = IsDry x.state y × (x.packets ≡ [])

again_by : (x : Giving) (o : Option (List ℕ)) → x.packets ≡ [] → resend_answer x.state ≡ o → Older x o (said_again o x).1
again_by x (Some p) none is = record {
  path = resends start;
  quiet = resend_quiet x.state;
  is = ap (λ (l : List (List ℕ)). p ∷ l) none ∙ (sym (ap option_to_list is) ∙ ap (λ (l : List (List ℕ)). l ++ option_to_list (resend_answer x.state)) (sym none));
}
again_by x None none is = (record { path = resends start; quiet = resend_quiet x.state; made = ap option_to_list is; packets = none }, none)

waits_by : (x : Giving) (b : Bool) → x.packets ≡ [] → Older x (if_again b x).0 (if_again b x).1
waits_by x true none = again_by x (resend_answer x.state) none refl
waits_by x false none = (record { path = start; quiet = record { accepted = refl; handed = refl; taken = refl }; made = refl; packets = none }, none)

older_by : (x : Giving) (ps : List (List ℕ)) → x.packets ≡ ps → Older x (older_of ps x).0 (older_of ps x).1
older_by x (p ∷ ps) is = record { path = start; quiet = record { accepted = refl; handed = refl; taken = refl }; is = sym (append-nil x.packets ∙ is) }
older_by x [] is = waits_by x x.owed.again is

older_is : (x : Giving) → Older x (older x).0 (older x).1
older_is x = older_by x x.packets refl

next_by : (x : Giving) (o : Option (List ℕ)) (y : Giving) → Older x o y → GivesBy x.state x.packets (else_newer o y)
next_by x (Some p) y older = older
next_by x None y older = subst (λ (l : List (List ℕ)). GivesBy x.state l (newer y)) (sym older.1) (newer_gives x.state y older.0)

next_gives : (x : Giving) → GivesBy x.state x.packets (next_of x)
next_gives x = next_by x (older x).0 (older x).1 (older_is x)

-- ---- where memory was refused no packet is given

dry : (x : Giving) (o : Option (List ℕ)) (y : Giving) → Older x o y → o ≡ None → IsDry x.state y × (x.packets ≡ [])
dry x (Some p) y older is = absurd (cc)
dry x None y older is = older

short_gives : (x : Giving) {y : Giving} → MayStopAt x y → GivesBy x.state x.packets (None, y)
short_gives x at_first = record { path = start; quiet = record { accepted = refl; handed = refl; taken = refl }; is = sym (append-nil x.packets) }
short_gives x (at_flush none) =
    let d = dry x (older x).0 (older x).1 (older_is x) none in
    record { path = d.0.path; quiet = d.0.quiet; is = d.0.packets ∙ (sym d.0.made ∙ ap (λ (l : List (List ℕ)). l ++ made_on d.0.path) (sym d.1)) }
short_gives x (at_word none) =
    let d = dry x (older x).0 (older x).1 (older_is x) none in
    let s = (older x).1.state in
    record {
      path = flushes d.0.path;
      quiet = quiet_then x.state s (after_flush s) d.0.quiet (flush_quiet s);
      is = ap (λ (l : List (List ℕ)). l ++ flush_answer s) (sym d.0.made) ∙ ap (λ (l : List (List ℕ)). l ++ (made_on d.0.path ++ flush_answer s)) (sym d.1);
    }

-- a dead connection gives nothing; another one gives what it is to give next
unless_gives : (dead : Bool) (x : Giving) → GivesBy x.state x.packets (next_unless dead x)
unless_gives true x = record { path = start; quiet = record { accepted = refl; handed = refl; taken = refl }; is = sym (append-nil x.packets) }
unless_gives false x = next_gives x

-- ---- the packet that a conversation gives

gives_by : (c d : Conversation) (owed now_owed : Owed) (h : Story) (p : Option (List ℕ)) (y : Option (List ℕ) × Giving) → Tells c h → d.side ≡ c.side → d.closing ≡ c.closing
    → GivesBy h.state c.packets.items y → p ≡ y.0 → IsGiving d now_owed y.1
    → (m : Story) × Tells d m × (on : ProgramDoesNothing h m) × (option_to_list p ++ d.packets.items ≡ c.packets.items ++ made_on on.path)
gives_by c d owed now_owed h p y t side closing g is at = (
  record h { state = y.1.state },
  tells_so c d h y.1.state t at.stands side closing g.quiet,
  record { programs = refl; path = g.path; made = refl; handed = refl; taken = ([], append-nil h.taken); answers = ([], append-nil h.answers); even = refl },
  ap (λ (o : Option (List ℕ)). option_to_list o ++ d.packets.items) is ∙ (ap (λ (l : List (List ℕ)). option_to_list y.0 ++ l) at.packets ∙ g.is),
)

-- what was answered is a packet, none, or that memory was refused
abbrev pub packet_of : Result (Option (List ℕ)) AllocError → Option (List ℕ)
packet_of (Ok p) = p
packet_of (Err e) = None

pub gives_on_from : (dead : Bool) (c d : Conversation) (owed now_owed : Owed) (answer : Result (Option (List ℕ)) AllocError) → d.side ≡ c.side → d.closing ≡ c.closing
    → IfOk answer (λ p. (s : State) → StandsFor c.endpoint s → GivesAs (next_unless dead (giving c owed s)) p d now_owed)
    → OnErr answer ((s : State) → StandsFor c.endpoint s → (y : Giving) × MayStopAt (giving c owed s) y × IsGiving d now_owed y)
    → GivesNextPacket c d (packet_of answer)
gives_on_from dead c d owed now_owed (Ok p) side closing gave short = record {
  on = λ h t.
      let g = gave h.state t.stands in
      gives_by c d owed now_owed h p (next_unless dead (giving c owed h.state)) t side closing (unless_gives dead (giving c owed h.state)) g.0 g.1;
}
gives_on_from dead c d owed now_owed (Err e) side closing gave short = record {
  on = λ h t.
      let g = short h.state t.stands in
      gives_by c d owed now_owed h None (None, g.0) t side closing (short_gives (giving c owed h.state) g.1) refl g.2;
}
