-- Of which packets a host complains.
use Rattle.std.proofs.Common.{◌≡◌, ◌≢◌, ◌∙◌, inl, inr, None, ap, refl, subst, sym, ℕ, ◌<◌, Bool, true, false, List, length, Ok, get_or}
use Rattle.std.specs.Prelude.{IsTrue, ◌↔◌, ◌==◌, ◌||◌, slice_set}
use Rattle.std.proofs.lemmas.Bool.{eqb-false, eqb-true}
use Rattle.std.proofs.lemmas.Grind.{get_or-set_at}
use Rattle.std.proofs.lemmas.List.{get_or-set_other}
use Rattle.xns_idp.specs.Packet.{PacketModel, broadcast}
use Rattle.xns_idp.specs.Reading.{packet_of}
use Rattle.xns_small.specs.declared.error_number.TheConstants.{NO_SUCH_SOCKET}
use Rattle.xns_host.specs.Coming.{Arrives, Comes, echoes, foreign, hears, meant, opens, refuses, unheard, unmeant}
use Rattle.xns_host.specs.Following.{AHostKnowsWhereItCalledFrom, OfWhatNobodyHearsItComplains}
use Rattle.xns_host.specs.Hosting.{address_in}
use Rattle.xns_host.specs.Ours.{HasSocket, IsOurs, IsToSocket}
use Rattle.xns_host.specs.Ours as ours
use Rattle.xns_host.specs.Services.{has_called, programs_at}
use Rattle.xns_host.specs.Strays.{HasComplained}
use Rattle.xns_host.specs.Turn.{whole_of}
use Rattle.xns_host.specs.Whole.{Whole}
use Rattle.xns_host.specs.declared.services.Services.{Services}
use Rattle.xns_host.proofs.Echoes.{not_every}
use Rattle.xns_host.proofs.Hearing.{one_packet}

pub of_service : (s : Services) (socket : ℕ) → programs_at s.programs socket ≢ None → HasSocket s socket
of_service s socket served = inl served

pub of_caller : (s : Services) (socket : ℕ) (called : Bool) → called ≡ has_called s.callers.items socket → called ≡ true → HasSocket s socket
of_caller s socket called is on = inr (sym is ∙ on)

pub of_neither : (s : Services) (socket : ℕ) (called : Bool) → programs_at s.programs socket ≡ None → called ≡ has_called s.callers.items socket
    → called ≡ false → HasSocket s socket → ⊥
of_neither s socket called none is off (inl served) = served none
of_neither s socket called none is off (inr on) = absurd (cc)

pub to_socket : (w : Whole) (p : PacketModel) (every : Bool) → p.kind ≡ 5 → p.target.host ≡ w.host → every ≡ false
    → (IsTrue every ↔ (p.source.host ≡ broadcast)) → HasSocket w.services p.target.socket → IsToSocket w p
to_socket w p every kind here other test socket =
    record { kind = kind; here = here; one_host = λ is. not_every every (p.source.host ≡ broadcast) other test is; socket = socket }

pub of_every_host : (w : Whole) (p : PacketModel) (every : Bool) → every ≡ true → (IsTrue every ↔ (p.source.host ≡ broadcast)) → IsToSocket w p → ⊥
of_every_host w p every is test to = to.one_host (test.0 is)

-- ---- what follows

-- what came of bytes made them the host's
is_ours : (now way : ℕ) (b : List ℕ) (w v : Whole) (r : Bool) → r ≡ true → Comes now way b w r v → IsOurs w b
is_ours now way b w v r on (foreign never) = absurd (cc)
is_ours now way b w v r on (echoes p taken read asks waits) = ours.asks p taken read asks
is_ours now way b w v r on (refuses p taken read quotes turn) = ours.quotes p taken read quotes
is_ours now way b w v r on (hears p read names turn) = ours.names p read names
is_ours now way b w v r on (opens p read opener made) = ours.opens p read opener

complained : (now way : ℕ) (b : List ℕ) (w v : Whole) (r : Bool) (p : PacketModel) (taken : ℕ) → Arrives now way b w r v
    → packet_of b ≡ Ok (p, taken) → IsToSocket w p → (IsOurs w b → ⊥)
    → (r ≡ true) × HasComplained (address_in w.network w.host p.target.socket) NO_SUCH_SOCKET way b w.strays v.strays
complained now way b w v r p taken (meant comes) read to never = absurd (never (is_ours now way b w v true refl comes))
complained now way b w v r p taken (unheard q n {strays = strays} comes at other complaint) read to never =
    let same : q ≡ p = one_packet p q taken n (sym read) at in
    (refl, subst (λ (x : PacketModel). HasComplained (address_in w.network w.host x.target.socket) NO_SUCH_SOCKET way b w.strays strays) same complaint)
complained now way b w v r p taken (unmeant comes none) read to never = absurd (none p taken read to)

pub complains_of_it : OfWhatNobodyHearsItComplains
complains_of_it now way taken bytes result old new p takes read to never =
    complained _ way bytes (whole_of old) (whole_of new) result p taken takes.comes read to never

noted_at : (callers : List Bool) (socket other : ℕ) (t : Bool) → socket < length callers → (other == socket) ≡ t
    → get_or (slice_set callers socket true) other false ≡ t || get_or callers other false
noted_at callers socket other true within is = get_or-set_at callers socket other true false (eqb-true other socket is) within
noted_at callers socket other false within is = get_or-set_other callers socket other true false (eqb-false other socket is)

pub knows_where_from : AHostKnowsWhereItCalledFrom
knows_where_from now way socket number other peer old new small connects =
    ap (λ (xs : List Bool). has_called xs other) connects.caller.callers
    ∙ noted_at old.services.callers.items socket other (other == socket) (subst (λ (n : ℕ). socket < n) (sym old.services.room) small) refl
