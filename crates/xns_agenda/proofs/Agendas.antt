-- Where nobody has a turn, and where the earliest time stands.
use Rattle.std.proofs.Common.{◌≡◌, ◌∙◌, ◌⊎◌, inl, inr, ap, refl, subst, sym, ℕ, ◌<◌, ◌≤◌, Bool, true, false, List, length, get_or, slice_get, Option, Some, None, arith}
use Rattle.std.specs.Prelude.{IfSome, if◌then◌else◌, nat_le}
use Rattle.std.specs.Option.{is_some}
use Rattle.std.proofs.lemmas.Option.{slice_get-get_or, slice_get_within}
use Rattle.xns_agenda.specs.Times.{HasEarliest, IsBy, IsEarliest, sooner}
use Rattle.xns_agenda.specs.Agenda.{GivesWay, longest_closed, longest_silent, IsWake, IsWantedAt, asked_at, packet_waits, event_waits, is_due, number_in}
use Rattle.xns_agenda.specs.Turns.{HasNoTurn, Line, IsFirst, has_turn}
use Rattle.xns_agenda.proofs.Putting.{within}
use Rattle.xns_agenda.proofs.Tree.{left_by, right_by}
use Rattle.xns_agenda.specs.declared.way.Way.{Way}
use Rattle.xns_agenda.specs.declared.way.Way.TheVariants.{Lingers, Stranger, Nobody}

nobody_at : (xs : List (Option ℕ)) (k : ℕ) (o : Option ℕ) → HasEarliest xs None → get_or xs k None ≡ o → k < length xs → is_some o ≡ true → ⊥
nobody_at xs k None none is less has = absurd (cc)
nobody_at xs k (Some t) none is less has = none.least k t (slice_get-get_or xs k None less ∙ ap Some is)

no_turn_by : (b : Bool) (line : Line) (k : ℕ) → HasEarliest line.tickets None → has_turn line k ≡ b → has_turn line k ≡ false
no_turn_by true line k none has = absurd (nobody_at line.tickets k (get_or line.tickets k None) none refl (within line.tickets k has) has)
no_turn_by false line k none is = is

pub no_turn : (line : Line) → HasEarliest line.tickets None → HasNoTurn line
no_turn line none = λ k. no_turn_by (has_turn line k) line k none refl

pub nobody : (line : Line) (k : ℕ) → HasNoTurn line → has_turn line k ≡ true → ⊥
nobody line k none has = let no = none k in absurd (cc)

pub earliest_within : (times : List (Option ℕ)) (k t : ℕ) → IsEarliest times k t → k < length times
earliest_within times k t e = slice_get_within times k (Some t) e.there

pub giver_within : (closed strangers : List (Option ℕ)) (way : Way) → ((k t : ℕ) → way ≡ Lingers k t → IsEarliest closed k t)
    → ((k t : ℕ) → way ≡ Stranger k t → HasEarliest closed None × IsEarliest strangers k t) → length strangers ≡ length closed → IfSome (number_in way) (λ k. k < length closed)
giver_within closed strangers (Lingers k t) lingers silent same = earliest_within closed k t (lingers k t refl)
giver_within closed strangers (Stranger k t) lingers silent same = subst (λ (m : ℕ). k < m) same (earliest_within strangers k t (silent k t refl).1)
giver_within closed strangers Nobody lingers silent same = tt

pub giver_gives : (closed strangers : List (Option ℕ)) (way : Way) (k : ℕ) → ((n t : ℕ) → way ≡ Lingers n t → IsEarliest closed n t)
    → ((n t : ℕ) → way ≡ Stranger n t → HasEarliest closed None × IsEarliest strangers n t) → number_in way ≡ Some k → GivesWay closed strangers k
giver_gives closed strangers (Lingers n t) k lingers silent is =
    subst (λ (m : ℕ). GivesWay closed strangers m) (cc) (longest_closed n t (lingers n t refl))
giver_gives closed strangers (Stranger n t) k lingers silent is =
    let both : HasEarliest closed None × IsEarliest strangers n t = silent n t refl in
    subst (λ (m : ℕ). GivesWay closed strangers m) (cc) (longest_silent n t both.0 both.1)
giver_gives closed strangers Nobody k lingers silent is = absurd (cc)

pub no_giver : (closed strangers : List (Option ℕ)) (way : Way) → (way ≡ Nobody → HasEarliest closed None × HasEarliest strangers None)
    → number_in way ≡ None → HasEarliest closed None × HasEarliest strangers None
no_giver closed strangers (Lingers n t) nobody is = absurd (cc)
no_giver closed strangers (Stranger n t) nobody is = absurd (cc)
no_giver closed strangers Nobody nobody is = nobody refl

pub event_wanted : (packets events : Line) (dues : List (Option ℕ)) (short o : Option ℕ) → IfSome o (λ k. IsFirst events k) → is_some o ≡ true
    → IsWantedAt packets events dues short 0
event_wanted packets events dues short (Some k) first some = event_waits k first.has
event_wanted packets events dues short None first some = absurd (cc)

-- ---- when something is to be done at the latest

pub at_zero : (o : Option ℕ) (t : ℕ) → o ≡ Some 0 → IsBy o t
at_zero o t is = let least : 0 ≤ t = omega arith in subst (λ (p : Option ℕ). IsBy p t) (sym is) least

pub is_by_itself : (o : Option ℕ) (t : ℕ) → o ≡ Some t → IsBy o t
is_by_itself o t is = let least : t ≤ t = omega arith in subst (λ (p : Option ℕ). IsBy p t) (sym is) least

sooner_if : (b : Bool) (s u t : ℕ) → (if b then Some s else Some u) ≡ Some t → (Some s ≡ Some t) ⊎ (Some u ≡ Some t)
sooner_if true s u t is = inl is
sooner_if false s u t is = inr is

-- the sooner of two times is one of them
sooner_is : (a b : Option ℕ) (t : ℕ) → sooner a b ≡ Some t → (a ≡ Some t) ⊎ (b ≡ Some t)
sooner_is None b t is = inr is
sooner_is (Some s) None t is = inl is
sooner_is (Some s) (Some u) t is = sooner_if (nat_le s u) s u t is

of_either : (packets events : Line) (dues : List (Option ℕ)) (short a b : Option ℕ) (t : ℕ)
    → ((u : ℕ) → a ≡ Some u → (k : ℕ) × (has_turn packets k ≡ true)) → ((u : ℕ) → a ≡ Some u → u ≡ asked_at short)
    → ((u : ℕ) → b ≡ Some u → (k : ℕ) × (slice_get dues k ≡ Some (Some u))) → (a ≡ Some t) ⊎ (b ≡ Some t) → IsWantedAt packets events dues short t
of_either packets events dues short a b t turn time due (inl is) =
    let who = turn t is in
    subst (λ (n : ℕ). IsWantedAt packets events dues short n) (sym (time t is)) (packet_waits who.0 who.1)
of_either packets events dues short a b t turn time due (inr is) = let who = due t is in is_due who.0 t who.1

-- events there are none; packets are asked for at the first of these times, and the first of what is due is at the second
pub wakes_by : (packets events : Line) (dues : List (Option ℕ)) (short a b : Option ℕ) → HasNoTurn events
    → ((k : ℕ) → has_turn packets k ≡ true → a ≡ Some (asked_at short)) → ((u : ℕ) → a ≡ Some u → (k : ℕ) × (has_turn packets k ≡ true))
    → ((u : ℕ) → a ≡ Some u → u ≡ asked_at short) → HasEarliest dues b → ((u : ℕ) → b ≡ Some u → (k : ℕ) × (slice_get dues k ≡ Some (Some u)))
    → IsWake packets events dues short (sooner a b)
wakes_by packets events dues short a b none some turn time earliest due = record {
  packet = λ k has. left_by a b (asked_at short) (is_by_itself a (asked_at short) (some k has));
  event = λ k has. absurd (nobody events k none has);
  due = record { least = λ k t is. right_by a b t (earliest.least k t is) };
  wanted = λ t is. of_either packets events dues short a b t turn time due (sooner_is a b t is);
}

-- an event is there
pub wakes_now : (packets events : Line) (dues : List (Option ℕ)) (short o : Option ℕ) → IfSome o (λ k. IsFirst events k) → is_some o ≡ true
    → IsWake packets events dues short (Some 0)
wakes_now packets events dues short o first some = record {
  packet = λ k has. at_zero (Some 0) (asked_at short) refl;
  event = λ k has. refl;
  due = record { least = λ k t is. at_zero (Some 0) t refl };
  wanted = λ t is. let zero_is : 0 ≡ t = cc in
      subst (λ (n : ℕ). IsWantedAt packets events dues short n) zero_is (event_wanted packets events dues short o first some);
}
