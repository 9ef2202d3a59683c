-- What is done where items were moved as far as they go: one of three things.
use Rattle.std.proofs.Common.{◌≡◌, ◌≢◌, refl, true, false, Result, Ok, Err}
use Rattle.courier_sessions.specs.declared.feed_refusal.FeedRefusal.{FeedRefusal}
use Rattle.courier_sessions.specs.declared.feed_refusal.FeedRefusal.TheVariants.{Stopped, Busy, TooLong, Attention, Fault, NoMemory}
use Rattle.xns_connection.specs.Deeds.{has_refused_item, is_starved}
use Rattle.xns_connection.specs.Moving.{ConversationScene, closed_up, deafened, settled_by}

pub data How : Result (Unit {0}) FeedRefusal → ConversationScene → ConversationScene → Type 0 where
  good : (u : Unit {0}) (mid : ConversationScene) → How (Ok u) mid (closed_up mid)
  short : (mid : ConversationScene) → How (Err NoMemory) mid mid
  bad : (e : FeedRefusal) (mid : ConversationScene) → e ≢ NoMemory → How (Err e) mid (closed_up (deafened mid))

pub how : (r : Result (Unit {0}) FeedRefusal) (mid : ConversationScene) → How r mid (settled_by r mid)
how (Ok u) mid = good u mid
how (Err NoMemory) mid = short mid
how (Err Stopped) mid = bad Stopped mid (λ z. cc)
how (Err Busy) mid = bad Busy mid (λ z. cc)
how (Err TooLong) mid = bad TooLong mid (λ z. cc)
how (Err Attention) mid = bad Attention mid (λ z. cc)
how (Err (Fault f)) mid = bad (Fault f) mid (λ z. cc)

-- ---- memory

pub not_starved : (r : Result (Unit {0}) FeedRefusal) → is_starved r ≡ false → r ≢ Err NoMemory
not_starved (Ok u) e = λ z. cc
not_starved (Err NoMemory) e = absurd (cc)
not_starved (Err Stopped) e = λ z. cc
not_starved (Err Busy) e = λ z. cc
not_starved (Err TooLong) e = λ z. cc
not_starved (Err Attention) e = λ z. cc
not_starved (Err (Fault f)) e = λ z. cc

pub starved : (r : Result (Unit {0}) FeedRefusal) → is_starved r ≡ true → r ≡ Err NoMemory
starved (Ok u) e = absurd (cc)
starved (Err NoMemory) e = refl
starved (Err Stopped) e = absurd (cc)
starved (Err Busy) e = absurd (cc)
starved (Err TooLong) e = absurd (cc)
starved (Err Attention) e = absurd (cc)
starved (Err (Fault f)) e = absurd (cc)

-- where the side refused none, either nothing was refused, or memory was
pub unrefused : (e : FeedRefusal) → has_refused_item (Err e) ≡ false → e ≡ NoMemory
unrefused NoMemory is = refl
unrefused Stopped is = absurd (cc)
unrefused Busy is = absurd (cc)
unrefused TooLong is = absurd (cc)
unrefused Attention is = absurd (cc)
unrefused (Fault f) is = absurd (cc)

pub refused_for : (e : FeedRefusal) → e ≢ NoMemory → has_refused_item (Err e) ≡ true
refused_for NoMemory other = absurd (other refl)
refused_for Stopped other = refl
refused_for Busy other = refl
refused_for TooLong other = refl
refused_for Attention other = refl
refused_for (Fault f) other = refl
