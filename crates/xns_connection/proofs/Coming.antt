-- A call comes only with an item that is taken in.
use Rattle.std.proofs.Common.{◌≡◌, ◌∙◌, ap, sym, refl, subst, ◌-◌, ◌≤◌, ◌++◌, List, [], ◌∷◌, Bool, true, false, Option, Some, None, Result, Ok, Err, OnOk, OnErr, arith}
use Rattle.std.specs.Option.{is_some}
use Rattle.std.specs.declared.alloc.AllocError.{AllocError}
use Rattle.courier_messages.specs.declared.message.Message.{Message}
use Rattle.xns_spp.specs.Held.{Held, StandsFor}
use Rattle.xns_spp.specs.Laws.{TheNextItemIsHandedUp}
use Rattle.xns_spp.specs.Sending.{send_fault, accepting, take_answer, after_take, waiting_count}
use Rattle.xns_spp.specs.State.{State}
use Rattle.xns_spp.specs.declared.item.Item.{Item}
use Rattle.xns_spp.specs.declared.send_fault.SendFault.{SendFault}
use Rattle.courier_sessions.specs.Answering.{Answering, after_reject, why_unlisted}
use Rattle.courier_sessions.specs.Pumping.{sending, feeding, feeds, moving, server_side, Leads, here, on, Pumped}
use Rattle.courier_sessions.specs.declared.feed_refusal.FeedRefusal.{FeedRefusal}
use Rattle.courier_sessions.specs.declared.feed_refusal.FeedRefusal.TheVariants.{Stopped, Busy, TooLong, Attention, Fault, NoMemory}
use Rattle.courier_sessions.specs.declared.unlisted.Unlisted.{Unlisted}
use Rattle.xns_connection.specs.Story.{IsListed, IsUnlisted}
use Rattle.xns_connection.specs.declared.side.Side.TheVariants.{Answers}

-- an item was taken in, or the call is the same
record Quiet (x y : Answering × State) : Type 0 where
  pub fewer : waiting_count y.1 ≤ waiting_count x.1
  pub same : waiting_count x.1 ≤ waiting_count y.1 → y.0.call ≡ x.0.call

module _ (next : TheNextItemIsHandedUp) where
  sent : (a : Answering) (s : State) (x : Item) (xs : List Item) (o : Option SendFault) (z : Answering × State) → sending o (record a { out = xs }) (accepting o s x) ≡ Some (Ok z) → Quiet (a, s) z
  sent a s x xs None z e =
      let same : (record a { out = xs }, record s { accepted = s.accepted ++ x ∷ [] }) ≡ z = cc in
      subst (λ (y : Answering × State). Quiet (a, s) y) same (record { fewer = omega arith; same = λ all. refl })
  sent a s x xs (Some f) z e = absurd (cc)

  heard : (a : Answering) (s : State) (x : Item) (r : Result Answering FeedRefusal) (z : Answering × State) → take_answer s ≡ Some x → feeding r (after_take s) ≡ Some (Ok z) → Quiet (a, s) z
  heard a s x (Ok n) z is e =
      let same : (n, after_take s) ≡ z = cc in
      let less = next.fewer s x is in
      subst (λ (y : Answering × State). Quiet (a, s) y) same (record { fewer = omega (arith, less); same = λ all. absurd (omega (arith, less, all)) })
  heard a s x (Err Stopped) z is e = absurd (cc)
  heard a s x (Err Busy) z is e = absurd (cc)
  heard a s x (Err TooLong) z is e = absurd (cc)
  heard a s x (Err Attention) z is e = absurd (cc)
  heard a s x (Err (Fault f)) z is e = absurd (cc)
  heard a s x (Err NoMemory) z is e = absurd (cc)

  fed : (a : Answering) (s : State) (o : Option Item) (z : Answering × State) → take_answer s ≡ o → feeds server_side a s o ≡ Some (Ok z) → Quiet (a, s) z
  fed a s None z is e = absurd (cc)
  fed a s (Some x) z is e = heard a s x (server_side.fed a x) z is e

  moved : (a : Answering) (s : State) (now : List Item) (z : Answering × State) → moving server_side a s now ≡ Some (Ok z) → Quiet (a, s) z
  moved a s [] z e = fed a s (take_answer s) z refl e
  moved a s (x ∷ xs) z e = sent a s x xs (send_fault s x) z e

  led : {x y : Answering × State} → Leads server_side x y → Quiet x y
  led here = record { fewer = omega arith; same = λ all. refl }
  led {x} (on {y = y} {z = z} l e) =
      let p = led l in
      let q = moved y.0 y.1 y.0.out z e in
      let before = p.fewer in
      let after = q.fewer in
      record { fewer = omega (arith, before, after); same = λ all. q.same (omega (arith, before, all)) ∙ p.same (omega (arith, after, all)) }

  -- where as many items wait as before, no call came
  pub no_call_comes : (a n : Answering) (e f : Held) (r : Result (Unit {0}) FeedRefusal) → ((s : State) → StandsFor e s → Pumped server_side (a, s) r n f) → is_some a.call ≡ false
      → OnOk r ((s v : State) → StandsFor e s → StandsFor f v → waiting_count s ≤ waiting_count v → IsListed (Answers n))
  no_call_comes a n e f (Err x) pumped free = tt
  no_call_comes a n e f (Ok u) pumped free = λ s v here_s there all m call.
      let p = pumped s here_s in
      let q = led p.leads in
      let as_many : waiting_count v ≡ waiting_count p.last.1 = ap (λ (h : Held). h.numbers.taken - h.numbers.handed) (sym there.holds ∙ p.stands.holds) in
      let none : n.call ≡ a.call = ap (λ (b : Answering). b.call) p.settled.0 ∙ q.same (omega (arith, as_many, all)) in
      let some : is_some n.call ≡ true = ap (λ (o : Option Message). is_some o) call in
      absurd (cc)

-- a call that was rejected waits no longer
pub gone : (a n : Answering) (r : Result Bool AllocError)
    → ((m : Message) (u : Unlisted) → a.call ≡ Some m → why_unlisted a.programs m ≡ Some u → r ≡ Ok true → n ≡ after_reject a m u)
    → ((m : Message) → a.call ≡ Some m → why_unlisted a.programs m ≡ None → r ≡ Ok false)
    → (a.call ≡ None → r ≡ Ok false)
    → r ≡ Ok true → is_some n.call ≡ false
gone a n r does listed none was = by_call a.call refl where
  by_why : (m : Message) (o : Option Unlisted) → a.call ≡ Some m → why_unlisted a.programs m ≡ o → is_some n.call ≡ false
  by_why m None c w = let z = listed m c w in absurd (cc)
  by_why m (Some u) c w = ap (λ (b : Answering). is_some b.call) (does m u c w was)

  by_call : (o : Option Message) → a.call ≡ o → is_some n.call ≡ false
  by_call None c = let z = none c in absurd (cc)
  by_call (Some m) c = by_why m (why_unlisted a.programs m) c refl

-- memory is refused only to the reject of a call that waits and is not listed
pub unlisted : (a : Answering) (r : Result Bool AllocError)
    → ((m : Message) → a.call ≡ Some m → why_unlisted a.programs m ≡ None → r ≡ Ok false)
    → (a.call ≡ None → r ≡ Ok false)
    → OnErr r (IsUnlisted (Answers a))
unlisted a (Ok b) listed none = tt
unlisted a (Err f) listed none = by_call a.call refl where
  by_why : (m : Message) (o : Option Unlisted) → a.call ≡ Some m → why_unlisted a.programs m ≡ o → IsUnlisted (Answers a)
  by_why m None c w = let z = listed m c w in absurd (cc)
  by_why m (Some u) c w = (m, u, c, w)

  by_call : (o : Option Message) → a.call ≡ o → IsUnlisted (Answers a)
  by_call None c = let z = none c in absurd (cc)
  by_call (Some m) c = by_why m (why_unlisted a.programs m) c refl
