-- A number that was given is never given again.
use Rattle.std.proofs.Common.{◌≡◌, ◌∙◌, ap, sym, refl, subst, arith, inl, inr, ℕ, ◌+◌, ◌<◌, ◌≤◌, ◌⊎◌, List, ◌++◌, length, Some}
use Rattle.std.specs.Prelude.{slice_get}
use Rattle.xns_dump.specs.declared.flows.flow.Flow.{Flow}
use Rattle.xns_calls.specs.Calls.{known_of, nothing_known}
use Rattle.xns_calls.specs.Capture.{Known, new_connection}
use Rattle.xns_calls.specs.Laws.{WasThere}
use Rattle.xns_calls.specs.Naming.{Programs}
use Rattle.xns_calls.specs.declared.connection.Connection.{Connection}
use Rattle.xns_calls.proofs.Behind.{known_from-append}
use Rattle.xns_calls.proofs.Inputs.{lines_hold}
use Rattle.xns_calls.proofs.Numbered.{Stays, more_cases, set_cases}

-- since these connections, of which so many had begun, a connection with a number that was given by then has its place and its flow
record IsSince (old : List Connection) (given : ℕ) (cs : List Connection) (count : ℕ) : Type 0 where
  grown : given ≤ count
  there : (i : ℕ) (c : Connection) → slice_get cs i ≡ Some c → c.number ≤ given → WasThere old i c

at_first : (old : List Connection) (given : ℕ) → IsSince old given old given
at_first old given = record { grown = omega arith; there = λ i c at le. (c, at, refl, refl) }

-- a connection that begins has a number of its own
not_new : (old : List Connection) (given count i : ℕ) (c : Connection) (flow : Flow) → given ≤ count → c ≡ new_connection (count + 1) flow → c.number ≤ given → WasThere old i c
not_new old given count i c flow grown is le =
    let number : c.number ≡ count + 1 = ap (λ (x : Connection). x.number) is in absurd (omega (arith, grown, number, le))

since_stays : (old : List Connection) (given : ℕ) → Stays (IsSince old given)
since_stays old given = record {
  set = λ cs n i c c' w there number flow. record {
    grown = w.grown;
    there = λ j d at le. changed cs i c c' j d (w.there i c there) (w.there j d) number flow le (set_cases cs i j c' d at);
  };
  anew = λ cs n i flow w. record {
    grown = let up = w.grown in omega (arith, up);
    there = λ j d at le. begun cs n i j d flow w.grown (w.there j d) le (set_cases cs i j (new_connection (n + 1) flow) d at);
  };
  more = λ cs n flow w. record {
    grown = let up = w.grown in omega (arith, up);
    there = λ j d at le. added cs n j d flow w.grown (w.there j d) le (more_cases cs j (new_connection (n + 1) flow) d at);
  };
}
  where
    changed : (cs : List Connection) (i : ℕ) (c c' : Connection) (j : ℕ) (d : Connection) → (c.number ≤ given → WasThere old i c) → (slice_get cs j ≡ Some d → d.number ≤ given → WasThere old j d)
        → c'.number ≡ c.number → c'.flow ≡ c.flow → d.number ≤ given → ((i ≡ j) × (d ≡ c')) ⊎ ((i ≡ j → ⊥) × (slice_get cs j ≡ Some d)) → WasThere old j d
    changed cs i c c' j d here there number flow le (inl (same, is)) =
        let w = here (subst (λ n. n ≤ given) (ap (λ (x : Connection). x.number) is ∙ number) le) in
        subst (λ x. WasThere old x d) same
        (w.0, w.1, w.2 ∙ sym (ap (λ (x : Connection). x.number) is ∙ number), w.3 ∙ sym (ap (λ (x : Connection). x.flow) is ∙ flow))
    changed cs i c c' j d here there number flow le (inr (other, at)) = there at le

    begun : (cs : List Connection) (n i j : ℕ) (d : Connection) (flow : Flow) → given ≤ n → (slice_get cs j ≡ Some d → d.number ≤ given → WasThere old j d) → d.number ≤ given
        → ((i ≡ j) × (d ≡ new_connection (n + 1) flow)) ⊎ ((i ≡ j → ⊥) × (slice_get cs j ≡ Some d)) → WasThere old j d
    begun cs n i j d flow grown there le (inl (same, is)) = not_new old given n j d flow grown is le
    begun cs n i j d flow grown there le (inr (other, at)) = there at le

    added : (cs : List Connection) (n j : ℕ) (d : Connection) (flow : Flow) → given ≤ n → (slice_get cs j ≡ Some d → d.number ≤ given → WasThere old j d) → d.number ≤ given
        → ((j ≡ length cs) × (d ≡ new_connection (n + 1) flow)) ⊎ ((j < length cs) × (slice_get cs j ≡ Some d)) → WasThere old j d
    added cs n j d flow grown there le (inl (same, is)) = not_new old given n j d flow grown is le
    added cs n j d flow grown there le (inr (lt, at)) = there at le

pub given_once : (programs : Programs) (lines more : List (List ℕ)) (i : ℕ) (c : Connection) → slice_get (known_of programs (lines ++ more)).connections i ≡ Some c
    → c.number ≤ (known_of programs lines).count → WasThere (known_of programs lines).connections i c
given_once programs lines more i c at le =
    let k = known_of programs lines in
    let joined = known_from-append programs 1 nothing_known lines more in
    (lines_hold programs (IsSince k.connections k.count) (since_stays k.connections k.count) (1 + length lines) k more (at_first k.connections k.count)).there i c
    (sym (ap (λ (x : Known). slice_get x.connections i) joined) ∙ at) le
