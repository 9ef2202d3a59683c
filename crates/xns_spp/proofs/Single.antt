-- One item alone goes out for the first time.
use Rattle.std.proofs.Common.{◌≡◌, ℕ, ◌+◌, ◌-◌, ◌≤◌, List, [], ◌∷◌, length, map, take, drop, arith, refl, sym, ◌∙◌, ap, subst}
use Rattle.std.specs.Prelude.{◌≢◌, Bool, true, false, if◌then◌else◌, Option, Some, None, is_some, slice_get}
use Rattle.circular_buffer.proofs.Places.{slice_get-drop, slice_get-some}
use Rattle.xns_spp.proofs.Steps.{count_from, flushes, open_is, reaching}
use Rattle.xns_spp.proofs.Telling.{IsPacketOf}
use Rattle.xns_spp.specs.Ends.{is_open}
use Rattle.xns_spp.specs.Held.{Held, StandsFor}
use Rattle.xns_spp.specs.Numbers.{send_limit_at}
use Rattle.xns_spp.specs.Outgoing.{data_packets_at, data_packet_at}
use Rattle.xns_spp.specs.Packet.{spp_packet_spelling}
use Rattle.xns_spp.specs.Sending.{data_packet, packets_from, flush_answer, after_flush}
use Rattle.xns_spp.specs.State.{State, numbers_of, send_limit}
use Rattle.xns_spp.specs.Telling.{alone, single_answer, after_single}
use Rattle.xns_spp.specs.declared.item.Item.{Item}

-- ---- where one goes out

first_alone : (xs : List Item) (x : Item) → slice_get xs 0 ≡ Some x → take 1 xs ≡ x ∷ []
first_alone [] x h = absurd (cc)
first_alone (y ∷ ys) x h = let at : y ≡ x = cc in ap (λ (z : Item). z ∷ []) at

packet_alone : (s : State) (k : ℕ) (x : Item) → slice_get s.accepted k ≡ Some x → k + 1 ≡ send_limit s → packets_from s k ≡ data_packet s k x ∷ []
packet_alone s k x h is =
    let one : send_limit s - k ≡ 1 = omega arith in
    ap (λ (xs : List Item). data_packets_at s.ends (numbers_of s) k xs)
    (ap (λ (j : ℕ). take j (drop k s.accepted)) one ∙ first_alone (drop k s.accepted) x (slice_get-drop k s.accepted 0 k (omega arith) ∙ h))

flush_alone : (s : State) (x : Item) → is_open s.ends ≡ true → slice_get s.accepted s.sent ≡ Some x → s.sent + 1 ≡ send_limit s
    → flush_answer s ≡ spp_packet_spelling (data_packet s s.sent x) ∷ []
flush_alone s x ready h is =
    ap (λ (q : Bool). map spp_packet_spelling (if q then packets_from s s.sent else [])) ready
    ∙ ap (λ (ps : List _). map spp_packet_spelling ps) (packet_alone s s.sent x h is)

pub record FlushesOne (e : Held) (s : State) (number reach : ℕ) : Type 0 where
  pub answer : (bytes : List ℕ) → IsPacketOf e number bytes → Some bytes ≡ single_answer s
  pub stands : StandsFor (reaching e reach) (after_single s)
  pub memory : is_some (single_answer s) ≡ true

pub flushes_one : (e : Held) (s : State) (number reach : ℕ) → StandsFor e s → is_open e.ends ≡ true → number ≡ e.numbers.sent → number + 1 ≡ reach → reach ≡ send_limit_at e.numbers
    → FlushesOne e s number reach
flushes_one e s number reach stands ready number_is next is =
    let k : ℕ = s.sent in
    let same : number ≡ k = number_is ∙ ap (λ (v : Held). v.numbers.sent) stands.holds in
    let limit : reach ≡ send_limit s = is ∙ ap (λ (v : Held). send_limit_at v.numbers) stands.holds in
    let here : k + 1 ≡ send_limit s = ap (λ (j : ℕ). j + 1) (sym same) ∙ (next ∙ limit) in
    let there = slice_get-some s.accepted k (omega arith) in
    let x : Item = there.0 in
    let acknowledged : s.acknowledged ≤ k = stands.fits.bounds.acknowledged_sent in
    let first : slice_get e.unacknowledged (number - e.numbers.acknowledged) ≡ Some x =
    ap (λ (j : ℕ). slice_get e.unacknowledged (j - e.numbers.acknowledged)) same
    ∙ (ap (λ (v : Held). slice_get v.unacknowledged (k - v.numbers.acknowledged)) stands.holds
    ∙ (slice_get-drop s.acknowledged s.accepted (k - s.acknowledged) k (omega arith) ∙ there.1)) in
    let answer : single_answer s ≡ Some (spp_packet_spelling (data_packet s k x)) = ap alone (flush_alone s x (sym (open_is e s stands) ∙ ready) there.1 here) in
    record {
      answer = λ bytes h.
          ap (λ (b : List ℕ). Some b)
          (h x first
          ∙ (ap (λ (j : ℕ). spp_packet_spelling (data_packet_at e.ends e.numbers j x)) same
          ∙ ap (λ (v : Held). spp_packet_spelling (data_packet_at v.ends v.numbers k x)) stands.holds))
          ∙ sym answer;
      stands = subst (λ (o : Option (List ℕ)). StandsFor (reaching e reach) (if is_some o then after_flush s else s)) (sym answer) (flushes e s reach stands ready is);
      memory = ap is_some answer;
    }

-- ---- where none or several go out

alone_not : (ps : List (List ℕ)) → length ps ≢ 1 → alone ps ≡ None
alone_not [] h = refl
alone_not (p ∷ []) h = absurd (h refl)
alone_not (p ∷ q ∷ ps) h = refl

pub record FlushesNone (e : Held) (s : State) : Type 0 where
  pub answer : None ≡ single_answer s
  pub stands : StandsFor e (after_single s)

none_by : (e : Held) (s : State) → StandsFor e s → length (flush_answer s) ≢ 1 → FlushesNone e s
none_by e s stands h =
    let none : single_answer s ≡ None = alone_not (flush_answer s) h in
    record { answer = sym none; stands = subst (λ (o : Option (List ℕ)). StandsFor e (if is_some o then after_flush s else s)) (sym none) stands }

count_by : (s : State) (b : Bool) → length (map spp_packet_spelling (if b then packets_from s s.sent else [])) ≡ 1 → (b ≡ true) × (s.sent + 1 ≡ send_limit s)
count_by s true h = (refl, omega (arith, count_from s s.sent))
count_by s false h = absurd (cc)

pub others_flush_none : (e : Held) (s : State) (reach : ℕ) → StandsFor e s → e.numbers.sent + 1 ≢ reach → reach ≡ send_limit_at e.numbers → FlushesNone e s
others_flush_none e s reach stands other is =
    none_by e s stands (λ h. other (subst (λ (v : Held). v.numbers.sent + 1 ≡ send_limit_at v.numbers) (sym stands.holds) (count_by s (is_open s.ends) h).1 ∙ sym is))
