-- What holds while items move.
use Rattle.std.proofs.Common.{◌≡◌, ℕ, ◌+◌, ◌<◌, ◌≤◌, ◌≢◌, List, [], ◌∷◌, length, Option, Some, None, Result, Ok, Err, refl, sym, ◌∙◌, ap}
use Rattle.std.proofs.Common.{subst, arith}
use Rattle.std.proofs.lemmas.Option.{slice_get_past}
use Rattle.xns_spp.specs.Held.{Held, StandsFor}
use Rattle.xns_spp.specs.Sending.{send_fault, after_send, take_answer, handing, after_take}
use Rattle.xns_spp.specs.State.{State}
use Rattle.xns_spp.specs.declared.item.Item.{Item}
use Rattle.xns_spp.specs.declared.send_fault.SendFault.{SendFault}
use Rattle.courier_sessions.specs.Pumping.{Side, sending, feeds, moving, one_step, Leads, on, RefusesNext, Settles, Pumped}
use Rattle.courier_sessions.specs.declared.feed_refusal.FeedRefusal.{FeedRefusal}

-- steps led from the first side and end to these
pub record Going {S : Type 0} (side : Side S) (first : S × State) (session : S) (endpoint : Held) : Type 0 where
  pub end : State
  pub leads : Leads side first (session, end)
  pub stands : StandsFor endpoint end

-- steps led from the first side and end to these, and of all items that waited so many were fed
pub record Feeding {S : Type 0} (side : Side S) (first : S × State) (session : S) (endpoint : Held) (all fed : ℕ) : Type 0 where
  pub end : State
  pub leads : Leads side first (session, end)
  pub stands : StandsFor endpoint end
  pub left : length end.taken + fed ≡ end.handed + all

module _ {S : Type 0} (side : Side S) where
  -- the items stop moving at the side t and the end v, with this result
  rests : (first : S × State) (t n : S) (e f : Held) (r : Result (Unit {0}) FeedRefusal) (v : State) → f ≡ e → Leads side first (t, v) →
      StandsFor e v → Settles side (t, v) r n → Pumped side first r n f
  rests first t n e f r v still leads stands settled = record {
    last = (t, v);
    leads = leads;
    stands = subst (λ (d : Held). StandsFor d v) (sym still) stands;
    settled = settled;
  }

  -- ---- items that are sent

  sends : (t : S) (v : State) (x : Item) (xs : List Item) → side.out t ≡ x ∷ xs → send_fault v x ≡ None →
      one_step side (t, v) ≡ Some (Ok (side.with_out t xs, after_send v x))
  sends t v x xs is none =
      ap (λ (o : List Item). moving side t v o) is ∙ ap (λ (f : Option SendFault). sending f (side.with_out t xs) (after_send v x)) none

  sent_from : (first : S × State) (t n : S) (e f : Held) (now : List Item) → side.out t ≡ now → length (side.out n) < length now →
      n ≡ side.with_out t (side.out n)
      → ((s : State) (x : Item) (xs : List Item) → StandsFor e s → side.out t ≡ x ∷ xs → (send_fault s x ≡ None) × (side.out n ≡ xs)
      × StandsFor f (after_send s x))
      → Going side first t e → Going side first n f
  sent_from first t n e f [] is fewer beside h g = absurd (omega (arith, fewer))
  sent_from first t n e f (x ∷ xs) is fewer beside h g =
      let k = h g.end x xs g.stands is in
      let same : side.with_out t xs ≡ n = ap (λ (o : List Item). side.with_out t o) (sym k.1) ∙ sym beside in
      record {
        end = after_send g.end x;
        leads = on g.leads (sends t g.end x xs is k.0
            ∙ ap (λ (m : S). Some (Ok (m, after_send g.end x))) same);
        stands = k.2;
      }

  -- one more item was sent
  pub sent : (first : S × State) (t n : S) (e f : Held) → length (side.out n) < length (side.out t) → n ≡ side.with_out t (side.out n)
      → ((s : State) (x : Item) (xs : List Item) → StandsFor e s → side.out t ≡ x ∷ xs → (send_fault s x ≡ None) × (side.out n ≡ xs)
      × StandsFor f (after_send s x))
      → Going side first t e → Going side first n f
  sent first t n e f fewer beside h g = sent_from first t n e f (side.out t) refl fewer beside h g

  held_back : (t n : S) (v w : State) (o : Option SendFault) → o ≢ None → sending o n w ≡ None
  held_back t n v w None some = absurd (some refl)
  held_back t n v w (Some f) some = refl

  no_send : (t : S) (v : State) (now : List Item) → side.out t ≡ now → side.out t ≢ [] →
      ((x : Item) (xs : List Item) → side.out t ≡ x ∷ xs → send_fault v x ≢ None) → moving side t v now ≡ None
  no_send t v [] is some h = absurd (some is)
  no_send t v (x ∷ xs) is some h = held_back t (side.with_out t xs) v (after_send v x) (send_fault v x) (h x xs is)

  -- the first item that is out is refused
  pub full : (first : S × State) (t n : S) (e f : Held) → n ≡ t → f ≡ e → side.out t ≢ []
      → ((s : State) (x : Item) (xs : List Item) → StandsFor e s → side.out t ≡ x ∷ xs → send_fault s x ≢ None)
      → Going side first t e → Pumped side first (Ok tt) n f
  full first t n e f same still some h g = rests first t n e f (Ok tt) g.end still g.leads g.stands
      (same, no_send t g.end (side.out t) refl some (λ x xs is. h g.end x xs g.stands is))

  -- ---- items that are fed

  feeding_step : (t : S) (v : State) → side.out t ≡ [] → one_step side (t, v) ≡ feeds side t v (take_answer v)
  feeding_step t v none = ap (λ (o : List Item). moving side t v o) none

  -- a step that feeds the next item hands one up
  one_handed : (t : S) (v : State) (o : Option Item) (r : Result (S × State) FeedRefusal) → take_answer v ≡ o → feeds side t v o ≡ Some r →
      after_take v ≡ record v { handed = v.handed + 1 }
  one_handed t v None r is step = absurd cc
  one_handed t v (Some x) r is step = ap (λ (o : Option Item). handing o v) is

  -- one more item was fed
  pub fed : (first : S × State) (t n : S) (e f : Held) (all k : ℕ) → side.out t ≡ []
      → ((s : State) → StandsFor e s → (feeds side t s (take_answer s) ≡ Some (Ok (n, after_take s))) × StandsFor f (after_take s))
      → Feeding side first t e all k → Feeding side first n f all (k + 1)
  fed first t n e f all k none h g =
      let more = h g.end g.stands in
      let after = one_handed t g.end (take_answer g.end) (Ok (n, after_take g.end)) refl more.0 in
      let left : length (after_take g.end).taken + (k + 1) ≡ (after_take g.end).handed + all =
      subst (λ (s : State). length s.taken + (k + 1) ≡ s.handed + all) (sym after) (omega (arith, g.left)) in
      record { end = after_take g.end; leads = on g.leads (feeding_step t g.end none ∙ more.0); stands = more.1; left = left }

  -- the next item is refused
  pub refused : (first : S × State) (t n : S) (e f : Held) (all k : ℕ) (refusal : FeedRefusal) → side.out t ≡ [] → f ≡ e →
      ((s : State) → StandsFor e s → RefusesNext side t (take_answer s) refusal n)
      → Feeding side first t e all k → Pumped side first (Err refusal) n f
  refused first t n e f all k refusal none still h g =
      rests first t n e f (Err refusal) g.end still g.leads g.stands (none, h g.end g.stands)

  -- no step applies any more
  pub settles : (first : S × State) (t n : S) (e f : Held) (all k : ℕ) → n ≡ t → f ≡ e → side.out t ≡ [] →
      ((s : State) → StandsFor e s → feeds side t s (take_answer s) ≡ None)
      → Feeding side first t e all k → Pumped side first (Ok tt) n f
  settles first t n e f all k same still none h g = rests first t n e f (Ok tt) g.end still g.leads g.stands
      (same, feeding_step t g.end none ∙ h g.end g.stands)

  -- all that waited was fed
  pub all_fed : (first : S × State) (t : S) (e : Held) (all k : ℕ) → side.out t ≡ [] → all ≤ k → Feeding side first t e all k →
      Pumped side first (Ok tt) t e
  all_fed first t e all k none most g =
      let nothing : take_answer g.end ≡ None = slice_get_past g.end.taken g.end.handed (omega (arith, most, g.left)) in
      rests first t t e e (Ok tt) g.end refl g.leads g.stands
      (refl, feeding_step t g.end none ∙ ap (λ (o : Option Item). feeds side t g.end o) nothing)
