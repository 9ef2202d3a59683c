-- What a host tells next.
use Rattle.std.proofs.Common.{◌≡◌, ◌∙◌, ap, refl, subst, sym, ℕ, ◌+◌, ◌<◌, true, false, Bool, List, length, Option, Some, None, slice_get, get_or, arith}
use Rattle.std.specs.Prelude.{slice_set, count_by, cond, ◌||◌, if◌then◌else◌}
use Rattle.std.specs.Option.{is_some}
use Rattle.std.proofs.lemmas.List.{length-set}
use Rattle.std.proofs.lemmas.List.Sums.{sum_by-set}
use Rattle.xns_agenda.specs.Agenda.{Plan}
use Rattle.xns_host.specs.Hosting.{HasNoEvent, HasNoPacket, IsAllNoted}
use Rattle.xns_agenda.specs.Turns.{HasNoTurn, Line, has_turn, with_turn}
use Rattle.xns_connection.specs.declared.connection.Connection.{Connection}
use Rattle.xns_host.specs.declared.guest.Guest.{Guest}
use Rattle.xns_connection.specs.declared.why.Why.{Why}
use Rattle.xns_agenda.proofs.Putting.{within}

abbrev Places : Type 0
Places = List (Option Guest)

abbrev counted : Option ℕ → ℕ
counted o = cond (is_some o) 1 0

-- one turn less
pub fewer : (line : Line) (n : ℕ) → has_turn line n ≡ true → count_by is_some (with_turn line n false).tickets < count_by is_some line.tickets
fewer line n has =
    let e : count_by is_some (slice_set line.tickets n None) + counted (get_or line.tickets n None) ≡ count_by is_some line.tickets + counted None
    = sum_by-set counted line.tickets n None None (within line.tickets n has) in
    let one : counted (get_or line.tickets n None) ≡ 1 = ap (λ (b : Bool). cond b 1 0) has in
    omega (arith, e, one)

-- where nobody has a turn, nobody has anything to tell
pub no_event : (a : Plan) (old gs : Places) → IsAllNoted a gs → ((k : ℕ) → slice_get gs k ≡ slice_get old k) → HasNoTurn a.events → HasNoEvent old
no_event a old gs all same none = λ k place there.
    (all.each k place (same k ∙ there)).event (none k)

-- ---- packets

pub packet_less : (line next : Line) (n : ℕ) → has_turn line n ≡ true → next ≡ with_turn (with_turn line n false) n false
    → count_by is_some next.tickets < count_by is_some line.tickets
packet_less line next n has is =
    let less : n < length (slice_set line.tickets n None) = omega (arith, length-set line.tickets n None, within line.tickets n has) in
    let e : count_by is_some (slice_set (slice_set line.tickets n None) n None) + counted (get_or (slice_set line.tickets n None) n None)
    ≡ count_by is_some (slice_set line.tickets n None) + counted None
    = sum_by-set counted (slice_set line.tickets n None) n None None less in
    let f : count_by is_some (with_turn line n false).tickets < count_by is_some line.tickets = fewer line n has in
    subst (λ (l : Line). count_by is_some l.tickets < count_by is_some line.tickets) (sym is) (omega (arith, e, f))

pub no_packet : (a : Plan) (gs : Places) → IsAllNoted a gs → HasNoTurn a.packets → HasNoPacket gs
no_packet a gs all none = λ k g there. sym (all.each k (Some g) there).facts.packet ∙ none k

-- ---- why it is closed

told_by : (b : Bool) (o : Option Why) → None ≡ (if b then None else o) → (b || is_some o) ≡ b
told_by true o none = refl
told_by false None none = refl
told_by false (Some w) none = absurd (cc)

-- where there is no reason to tell, none was taken
pub untold : (old new : Connection) → new ≡ record old { told = new.told } → new.told ≡ (old.told || is_some old.closed)
    → None ≡ (if old.told then None else old.closed) → new ≡ old
untold old new is told none = is ∙ ap (λ (b : Bool). record old { told = b }) (told ∙ told_by old.told old.closed none)
