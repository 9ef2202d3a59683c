-- How far items move between a side and its end, as often as a call is rejected.
use Rattle.std.proofs.Common.{◌≡◌, refl, sym, subst, Bool, true, false, Option, Some, None, Result, Ok, Err}
use Rattle.std.specs.declared.alloc.AllocError.{AllocError}
use Rattle.courier_messages.specs.declared.message.Message.{Message}
use Rattle.courier_sessions.specs.Answering.{Answering, why_unlisted, after_reject}
use Rattle.courier_sessions.specs.declared.feed_refusal.FeedRefusal.{FeedRefusal}
use Rattle.courier_sessions.specs.declared.unlisted.Unlisted.{Unlisted}
use Rattle.xns_spp.specs.Held.{Held, StandsFor}
use Rattle.xns_spp.specs.State.{State}
use Rattle.courier_sessions.specs.Pumping as pumping
use Rattle.xns_connection.specs.Moving.{Led, Pumps, Rejects, rejects, Rounds, again, Converses, refuses_on}
use Rattle.xns_connection.specs.Story.{is_stopped}
use Rattle.xns_connection.specs.declared.side.Side.{Side}
use Rattle.xns_connection.specs.declared.side.Side.TheVariants.{Answers}

pub rejects_one : (a n : Answering) (r : Result Bool AllocError)
    → ((m : Message) (u : Unlisted) → a.call ≡ Some m → why_unlisted a.programs m ≡ Some u → r ≡ Ok true → n ≡ after_reject a m u)
    → ((m : Message) → a.call ≡ Some m → why_unlisted a.programs m ≡ None → r ≡ Ok false)
    → (a.call ≡ None → r ≡ Ok false)
    → r ≡ Ok true → Rejects (Answers a) (Answers n)
rejects_one a n r does listed none was = by_call a.call refl where
  by_why : (m : Message) (o : Option Unlisted) → a.call ≡ Some m → why_unlisted a.programs m ≡ o → Rejects (Answers a) (Answers n)
  by_why m None c w = let z = listed m c w in absurd (cc)
  by_why m (Some u) c w = subst (λ (b : Answering). Rejects (Answers a) (Answers b)) (sym (does m u c w was)) (rejects a m u c w)

  by_call : (o : Option Message) → a.call ≡ o → Rejects (Answers a) (Answers n)
  by_call None c = let z = none c in absurd (cc)
  by_call (Some m) c = by_why m (why_unlisted a.programs m) c refl

-- a pump led to a history of the end
pub led : {S : Type 0} (kind : pumping.Side S) (first : S × State) (r : Result (Unit {0}) FeedRefusal) (next : S) (end : Held)
    → pumping.Pumped kind first r next end → (v : State) × StandsFor end v × Led kind first r next v
led kind first r next end p = (
  p.last.1,
  p.stands,
  record { last = p.last.0; leads = p.leads; settled = p.settled; fits = p.stands.fits },
)

-- some history of the end has the property
abbrev pub Reached : Held → (State → Type 0) → Type 0
Reached end P = (v : State) × StandsFor end v × P v

pub one_more : {side mid free next : Side} {s : State} {end after : Held} → Reached end (λ v. Rounds side s mid v) → is_stopped mid ≡ false
    → Rejects mid free → ((v : State) → StandsFor end v → Reached after (λ w. Pumps free v (Ok tt) next w)) → Reached after (λ w. Rounds side s next w)
one_more r still rejected p = let x = p r.0 r.1 in (x.0, x.1, again r.2 still rejected x.2)

pub refused_on : {side mid free next : Side} {s : State} {end after : Held} (e : FeedRefusal) → Reached end (λ v. Rounds side s mid v)
    → is_stopped mid ≡ false → Rejects mid free → ((v : State) → StandsFor end v → Reached after (λ w. Pumps free v (Err e) next w))
    → Reached after (λ w. Converses side s (Err e) next w)
refused_on e r still rejected p = let x = p r.0 r.1 in (x.0, x.1, refuses_on e r.2 still rejected x.2)
