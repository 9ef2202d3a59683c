-- A packet that alone goes out for the first time.
use Rattle.std.proofs.Common.{[], ◌≡◌, ◌∙◌, ap, refl, sym, subst, ℕ, List, ◌∷◌, Bool, true, false, Some}
use Rattle.std.specs.Prelude.{◌||◌, if◌then◌else◌}
use Rattle.std.specs.Option.{is_some}
use Rattle.xns_spp.specs.Held.{StandsFor}
use Rattle.xns_spp.specs.Sending.{after_flush, flush_answer}
use Rattle.xns_spp.specs.State.{State}
use Rattle.xns_spp.specs.Telling.{after_single, alone, single_answer}
use Rattle.xns_connection.specs.Giving.{Giving, GivesAs, IsGiving, flushed, giving, has_packets, newer, newer_of}
use Rattle.xns_connection.specs.declared.conversation.Conversation.{Conversation}
use Rattle.xns_connection.specs.declared.owed.Owed.{Owed}
use Rattle.xns_connection.proofs.Giving.{Packets}

pub single_gives : (t u : Conversation) (o : Owed) (fresh : Bool) (s : State) (p : List ℕ) → u.packets.items ≡ [] → fresh ≡ (o.moving || (o.asks || has_packets u.packets.items)) → Some p ≡ single_answer s
    → StandsFor u.endpoint (after_single s) → GivesAs (newer (giving t o s)) (Some p) u (record o { word = false; fresh = fresh })
single_gives t u o fresh s p none more is stands = by (flush_answer s) refl is where
  owed_by : Bool → Owed
  owed_by b = record o { word = false; fresh = b }

  by : (ps : Packets) → flush_answer s ≡ ps → Some p ≡ alone ps → GivesAs (newer_of ps (flushed (giving t o s))) (Some p) u (owed_by fresh)
  by [] same h = absurd (cc)
  by (q ∷ []) same h = (
    h,
    record {
      stands = subst (λ (ps : Packets). StandsFor u.endpoint (if is_some (alone ps) then after_flush s else s)) same stands;
      packets = none;
      owed = ap owed_by (more ∙ ap (λ (ps : Packets). o.moving || (o.asks || has_packets ps)) none);
    },
  )
  by (q ∷ r ∷ ps) same h = absurd (cc)

pub single_wanted : (x : Giving) → is_some (single_answer x.state) ≡ true → is_some (newer x).0 ≡ true
single_wanted x is = by (flush_answer x.state) is where
  by : (ps : Packets) → is_some (alone ps) ≡ true → is_some (newer_of ps (flushed x)).0 ≡ true
  by [] h = absurd (cc)
  by (q ∷ ps) h = refl

-- nothing has changed
pub same_giving : (t u : Conversation) (o v : Owed) (s : State) → u ≡ t → v ≡ o → StandsFor t.endpoint s → IsGiving u v (giving t o s)
same_giving t u o v s same owed stands = record {
  stands = subst (λ (c : Conversation). StandsFor c.endpoint s) (sym same) stands;
  packets = ap (λ (c : Conversation). c.packets.items) same;
  owed = owed;
}

pub so_before : {t u : Conversation} {o v : Owed} (P : Conversation → Owed → Type 0) → (u ≡ t) × (v ≡ o) → P u v → P t o
so_before {t} {u} {o} {v} P same p = subst (λ (w : Owed). P t w) same.1 (subst (λ (c : Conversation). P c v) same.0 p)
