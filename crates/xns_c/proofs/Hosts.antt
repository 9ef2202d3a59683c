-- What is fetched of a host is given, or stays.
use Rattle.std.proofs.Common.{◌≡◌, ◌≢◌, ◌<◌, ◌≤◌, ℕ, List, length, slice_get, Option, Result, Ok, Err, false, Some, None, inl, inr, refl, sym, ap, ◌∙◌, subst, arith}
use Rattle.std.proofs.lemmas.Bool.{cases_lt}
use Rattle.xns_connection.specs.Deeds.{Deed}
use Rattle.xns_host.specs.Hosting.{has_guest}
use Rattle.xns_host.specs.Refusing.{TellsRefusal}
use Rattle.xns_host.specs.Turn.{GivesOut, TellsNext, Turn, WakesAt}
use Rattle.xns_connection.specs.declared.conversation.Conversation.{Conversation}
use Rattle.xns_connection.specs.declared.refusal.Refusal.{Refusal}
use Rattle.xns_host.specs.declared.host_fault.HostFault.TheVariants.{NoConnection}
use Rattle.xns_c.specs.Faults.{host_told}
use Rattle.xns_host.specs.declared.host_fault.HostFault.{HostFault}
use Rattle.xns_host.specs.declared.guest.Guest.{Guest}
use Rattle.xns_host.specs.declared.event.Event.{Event}
use Rattle.xns_host.specs.declared.host.Host.{Host}
use Rattle.xns_host.specs.declared.outgoing.Outgoing.{Outgoing}
use Rattle.xns_c.specs.Events.{EventIsGiven}
use Rattle.xns_c.specs.Given.{IsPut}
use Rattle.xns_c.specs.Hosts.{DoesWithOne, FetchesEvent, FetchesPacket, GivesPacket, HostTurns, WakesHost, left_of, time_or_never}
use Rattle.xns_c.specs.Results.{ok, no_memory, short_buffer}
use Rattle.xns_c.specs.declared.event.XnsEvent.{XnsEvent}
use Rattle.xns_c.specs.declared.kept_host.KeptHost.{KeptHost}

-- an event that was fetched, or was kept, is given
pub event_fetched : (k n m : KeptHost) (found : Option Event) (e : Event) (before after : XnsEvent) (old new : List ℕ) (had count number : ℕ)
    → found ≡ Some e → ((x : Event) → k.event ≡ Some x → (found ≡ Some x) × (n.host ≡ k.host))
    → (k.event ≡ None → TellsNext found k.host n.host)
    → n.packet ≡ k.packet → EventIsGiven e after old new count number → m.host ≡ n.host → m.event ≡ left_of (Some e) number → m.packet ≡ n.packet → FetchesEvent k m before after old new had count number
event_fetched k n m found e before after old new had count number there kept tells packet given host left same = record {
  found = Some e;
  tells = λ no.
      subst (λ (h : Host). TellsNext (Some e) k.host h) (sym host) (subst (λ (x : Option Event). TellsNext x k.host n.host) there (tells no));
  kept = λ x is. (sym there ∙ (kept x is).0, host ∙ (kept x is).1);
  given = given;
  left = left;
  packet = same ∙ packet;
}

-- where there is a packet, it is not said that memory was refused
is_put : (p : Outgoing) (old new : List ℕ) (had written way via number : ℕ)
    → GivesPacket (Some p) old new had written way via number → number ≡ no_memory → ⊥
is_put p old new had written way via number given is = elim (cases_lt (length old) (length p.packet)) [
  | inl less ↦ absurd (omega (arith, is, (given.1 less).0))
  | inr fits ↦ absurd (omega (arith, is, (given.0 fits).0))
]

-- how a packet is fetched from a host, or was kept, and given
pub packet_fetched : (k n m : KeptHost) (now : ℕ) (made : Result (Option Outgoing) HostFault) (p : Outgoing) (old new : List ℕ) (had written way via number : ℕ)
    → made ≡ Ok (Some p) → ((x : Outgoing) → k.packet ≡ Some x → (made ≡ Ok (Some x)) × (n.host ≡ k.host)) → (k.packet ≡ None → GivesOut now made k.host n.host)
    → n.event ≡ k.event → GivesPacket (Some p) old new had written way via number
    → m.host ≡ n.host → m.packet ≡ left_of (Some p) number → m.event ≡ n.event → FetchesPacket k m now old new had written way via number
packet_fetched k n m now made p old new had written way via number there kept gives event given host left same = record {
  found = Some p;
  done = Ok tt;
  gives = λ no.
      subst (λ (h : Host). GivesOut now (Ok (Some p)) k.host h) (sym host)
      (subst (λ (x : Result (Option Outgoing) HostFault). GivesOut now x k.host n.host) there (gives no));
  starved = λ is. absurd (is_put p old new had written way via number given is);
  fetched = λ z. refl;
  kept = λ x is.
      let here = (kept x is).0 in
      let same : Some p ≡ Some x = cc in
      (same, host ∙ (kept x is).1);
  given = given;
  left = left;
  event = same ∙ event;
}

-- a packet was given to a buffer that had room for it
pub packet_put : (p : Outgoing) (b old new : List ℕ) (had written way number : ℕ) → b ≡ p.packet → number ≢ short_buffer
    → (length b ≤ length old → (number ≡ ok) × IsPut b old new written) → (length old < length b → (number ≡ short_buffer) × (written ≡ length b))
    → GivesPacket (Some p) old new had written way p.via number
packet_put p b old new had written way number is room put short = (
  λ fits. let y = subst (λ (x : List ℕ). length x ≤ length old → (number ≡ ok) × IsPut x old new written) is put fits in (y.0, y.1, refl),
  λ none. absurd (room (subst (λ (x : List ℕ). length old < length x → (number ≡ short_buffer) × (written ≡ length x)) is short none).0),
)

-- a packet was not given to a buffer that was too short
pub packet_short : (p : Outgoing) (b old new : List ℕ) (had written way number : ℕ) → b ≡ p.packet → number ≡ short_buffer
    → (length b ≤ length old → (number ≡ ok) × IsPut b old new written) → (length old < length b → (number ≡ short_buffer) × (written ≡ length b))
    → (length old < length b → new ≡ old) → GivesPacket (Some p) old new had written way way number
packet_short p b old new had written way number is room put short unchanged = (
  λ fits. let y = subst (λ (x : List ℕ). length x ≤ length old → (number ≡ ok) × IsPut x old new written) is put fits in absurd (omega (arith, room, y.0)),
  λ none. let y = subst (λ (x : List ℕ). length old < length x → (number ≡ short_buffer) × (written ≡ length x)) is short none in
      (y.0, y.1, subst (λ (x : List ℕ). length old < length x → new ≡ old) is unchanged none, refl),
)

-- what a host did at the connection that a function names, whatever became of the event that is kept
pub turned : (k n : KeptHost) (host : Host) (now number : ℕ) (deed : Deed) (reason : Conversation → Option Refusal) (answer : Result (Unit {0}) HostFault) (result : ℕ)
    → n.host ≡ host → n.packet ≡ k.packet → result ≡ host_told answer → Turn now number deed answer k.host host
    → (has_guest (slice_get k.host.guests.items number) ≡ false → answer ≡ Err (NoConnection number))
    → ((g : Guest) → slice_get k.host.guests.items number ≡ Some (Some g) → TellsRefusal (reason g.connection.conversation) answer)
    → HostTurns k n now number deed reason result
turned k n host now number deed reason answer result same packet told turn none refused = record {
  answer = answer;
  told = told;
  turn = subst (λ (h : Host). Turn now number deed answer k.host h) (sym same) turn;
  none = none;
  refused = refused;
  packet = packet;
}

-- what a host did with the connection that a function names, where this event is kept afterwards
pub done_with_one : (Deed : Result (Unit {0}) HostFault → Host → Host → Type 0) (k n : KeptHost) (host : Host) (kept : Option Event) (number result : ℕ) (answer : Result (Unit {0}) HostFault)
    → n ≡ record k { host = host; event = kept } → result ≡ host_told answer → Deed answer k.host host
    → (has_guest (slice_get k.host.guests.items number) ≡ false → answer ≡ Err (NoConnection number))
    → ((g : Guest) → slice_get k.host.guests.items number ≡ Some (Some g) → answer ≡ Ok tt)
    → DoesWithOne Deed kept k n number result
done_with_one Deed k n host kept number result answer is told done none some = record {
  answer = answer;
  told = told;
  done = subst (λ (m : KeptHost). Deed answer k.host m.host) (sym is) done;
  none = none;
  some = some;
  packet = ap (λ (m : KeptHost). m.packet) is;
  event = ap (λ (m : KeptHost). m.event) is;
}

-- a time that the host told, or never
pub wakes_host : (h : Host) (at : Option ℕ) (time : ℕ) → WakesAt h at → time ≡ time_or_never at → WakesHost h time
wakes_host h at time wakes is = record { at = at; wakes = wakes; is = is }
