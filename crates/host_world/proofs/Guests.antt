-- What a host does at a connection of a meeting is a step of the meeting.
use Rattle.std.proofs.Common.{◌≡◌, ◌≢◌, ◌∙◌, ap, refl, sym, subst, ℕ, Bool, true, false, List, [], ◌∷◌, ◌++◌, Option, Some, None, Result, Ok, Err}
use Rattle.std.specs.Prelude.{if◌then◌else◌}
use Rattle.std.specs.Option.{is_some, option_to_list}
use Rattle.std.specs.declared.alloc.AllocError.{AllocError}
use Rattle.courier_messages.specs.RawCalls.{RawCall}
use Rattle.courier_messages.specs.declared.message.Message.{Message}
use Rattle.courier_sessions.specs.Answering.{answer_message}
use Rattle.courier_sessions.specs.declared.answer.Answer.{Answer}
use Rattle.courier_sessions.specs.declared.program.Program.{Program}
use Rattle.item_world.specs.declared.side.Side.{Side}
use Rattle.xns_agenda.specs.Waiting.{act_at}
use Rattle.xns_agenda.specs.declared.act.Act.{Act}
use Rattle.xns_agenda.specs.declared.act.Act.TheVariants.{Nothing, Again, Ask, GiveUp, Forget}
use Rattle.xns_connection.specs.Acting.{Acts, idling, calling, handing, answering}
use Rattle.xns_connection.specs.Connecting.{is_dead}
use Rattle.xns_connection.specs.Deeds as deeds
use Rattle.xns_connection.specs.Deeds.{Parts, acted_by, given_up, side_taken, with_answer}
use Rattle.xns_connection.specs.Living.{Deeds}
use Rattle.xns_connection.specs.Step.{AStepKeepsItsPromises, Hands, MovesOwed, calmly, moving_on, none_waits, parts_of}
use Rattle.xns_connection.specs.Story.{ProgramDoesNothing as StoryGoesOn, Story, asked_of, waiting_message, with_handed}
use Rattle.xns_connection.specs.Telling.{GivesNextPacket, HearsBytes, Tells}
use Rattle.xns_connection.proofs.Leading.{stays}
use Rattle.xns_host.specs.Went.{GuestActs, GuestAnnounced, GuestGives, GuestHears, GuestStep, GuestTells, GuestUnserved, given_by, hears, lost}
use Rattle.xns_connection.specs.declared.connection.Connection.{Connection}
use Rattle.xns_connection.specs.declared.conversation.Conversation.{Conversation}
use Rattle.xns_host.specs.declared.guest.Guest.{Guest}
use Rattle.xns_host.specs.declared.host_fault.HostFault.{HostFault}
use Rattle.xns_host.specs.declared.outgoing.Outgoing.{Outgoing}
use Rattle.host_world.specs.Guests.{LeadsOn, HearsOn, LeadsTo, packet_returned}
use Rattle.host_world.specs.Meeting.{Meeting, at}
use Rattle.host_world.specs.Meets.{Meets}
use Rattle.host_world.specs.Pairing.{with_no_more, one_answer_more, one_call_more, one_message_more}
use Rattle.host_world.specs.declared.station.Station.{Station}
use Rattle.host_world.proofs.Gives.{gives_on_from, packet_of}
use Rattle.host_world.proofs.Paired.{Onward, acts_on, gives_on, hears_on, stays_so, then_on, told}
use Rattle.host_world.proofs.Telling.{tells_given_up, tells_handed}

-- ---- acts

leads : {a b : Station} {programs : List Program} {most : ℕ} {m : Meeting} {side : Side} (h : Guest) {did : Deeds → Deeds} {gave : List (List ℕ)} → Onward a b programs most m side h.connection.conversation did gave
    → LeadsTo a b programs most m side h did gave
leads h o = record { next = o.next; meets = o.meets; same = o.conversation; does = o.does }

-- the program did this, and the connection went on from where that leads
acts_so : (c d : Conversation) (base : Story → Story) (did : Deeds → Deeds) → d.packets ≡ c.packets → ((h : Story) (l : Deeds) → Acts c h l (base h) (did l))
    → ((h : Story) → Tells c h → (m : Story) × Tells d m × StoryGoesOn (base h) m)
    → (a b : Station) (programs : List Program) (m : Meeting) (side : Side) → Meets a b programs m → (at m side).conversation ≡ c → Onward a b programs 1 m side d did []
acts_so c d base did same act on a b programs m side meets here =
    let h = (at m side).story in
    let goes = on h (subst (λ (k : Conversation). Tells k h) here (told meets side)) in
    acts_on m meets side (base h) did d (subst (λ (k : Conversation). Acts k h (at m side).deeds (base h) (did (at m side).deeds)) (sym here) (act h (at m side).deeds))
    (same ∙ sym (ap (λ (k : Conversation). k.packets) here)) goes.0 goes.1 goes.2

-- the packets of a connection stay, and its story goes on with nothing of the program's
abbrev GoesIdly : (c d : Conversation) → Type 0
GoesIdly c d = (d.packets ≡ c.packets) × ((h : Story) → Tells c h → (m : Story) × Tells d m × StoryGoesOn h m)

idly : (g h : Guest) → GoesIdly g.connection.conversation h.connection.conversation → LeadsOn 1 g h with_no_more []
idly g h on a b programs m side meets here =
    leads h (acts_so g.connection.conversation h.connection.conversation (λ k. k) with_no_more on.0 (λ k l. idling) on.1 a b programs m side meets here)

-- a connection whose conversation is as it was leads the meeting nowhere
pub same_goes : (most : ℕ) (g h : Guest) → h.connection.conversation ≡ g.connection.conversation → LeadsOn most g h with_no_more []
same_goes most g h same a b programs m side meets here = record { next = m; meets = meets; same = here ∙ sym same; does = stays_so most m side }

-- ---- a connection that rests

-- the packets of a connection stay, and its story is as it was
abbrev pub Rests : (c d : Conversation) → Type 0
Rests c d = (d.packets ≡ c.packets) × ((h : Story) → Tells c h → Tells d h)

pub rests_on : (g h : Guest) → Rests g.connection.conversation h.connection.conversation → LeadsOn 1 g h with_no_more []
rests_on g h rests = idly g h (rests.0, λ k t. (k, rests.1 k t, stays k))

pub rests_then : (c d e : Conversation) → Rests c d → Rests d e → Rests c e
rests_then c d e one two = (two.0 ∙ one.0, λ h t. two.1 h (one.1 h t))

as_before : (c d : Conversation) → d ≡ c → Rests c d
as_before c d same = (ap (λ (k : Conversation). k.packets) same, λ h t. subst (λ (k : Conversation). Tells k h) (sym same) t)

as_given_up : (c d : Conversation) → d ≡ given_up c → Rests c d
as_given_up c d same = (ap (λ (k : Conversation). k.packets) same, λ h t. subst (λ (k : Conversation). Tells k h) (sym same) (tells_given_up c h t))

-- ---- the program's part

pub calls : (now : ℕ) (c : RawCall) (g h : Guest) → AStepKeepsItsPromises → GuestStep now (deeds.made c) g h → LeadsOn 1 g h (one_call_more c) []
calls now c g h law s a b programs m side meets here =
    leads h (acts_so g.connection.conversation h.connection.conversation (λ k. record k { made = k.made ++ c ∷ [] }) (one_call_more c) s.step.packets (λ k l. calling c)
    (λ k t. (law now (deeds.made c) g.connection h.connection s.step).story k t) a b programs m side meets here)

pub closes : (now : ℕ) (g h : Guest) → AStepKeepsItsPromises → GuestStep now deeds.asked g h → LeadsOn 1 g h with_no_more []
closes now g h law s = idly g h (s.step.packets, (law now deeds.asked g.connection h.connection s.step).story)

pub answers : (now : ℕ) (kind : Answer) (k : ℕ) (words : List ℕ) (g h : Guest) → AStepKeepsItsPromises → GuestStep now (deeds.gave kind words) g h → asked_of g.connection.conversation.side ≡ Some k
    → LeadsOn 1 g h (one_answer_more (answer_message kind k words)) []
answers now kind k words g h law s asked a b programs m side meets here =
    leads h (acts_so g.connection.conversation h.connection.conversation (λ n. record n { answers = n.answers ++ answer_message kind k words ∷ [] }) (one_answer_more (answer_message kind k words)) s.step.packets
    (λ n l. answering kind k words asked)
    (λ n t. subst (λ (o : Option ℕ). (v : Story) × Tells h.connection.conversation v × StoryGoesOn (with_answer o kind words n) v) asked
    ((law now (deeds.gave kind words) g.connection h.connection s.step).story n t)) a b programs m side meets here)

-- ---- what is told

some_waits : (o : Option Message) (m : Message) → o ≡ Some m → o ≢ None
some_waits None m e z = absurd (cc)
some_waits (Some n) m e z = absurd (cc)

by_hands : (now : ℕ) (c d : Connection) (m : Message) (h : Story) → AStepKeepsItsPromises → waiting_message c.conversation.side ≡ Some m → Tells c.conversation h → Hands now c d
    → (v : Story) × Tells d.conversation v × StoryGoesOn (with_handed c.conversation.side h m) v
by_hands now c d m h law is t (none_waits none alike) = absurd (some_waits (waiting_message c.conversation.side) m is none)
by_hands now c d m h law is t (calmly waits calm same) =
    let of : d.conversation ≡ record c.conversation { side = side_taken c.conversation.side } = ap (λ (p : Parts). p.conversation) same in
    (with_handed c.conversation.side h m, subst (λ (k : Conversation). Tells k (with_handed c.conversation.side h m)) (sym of) (tells_handed c.conversation h m is t), stays (with_handed c.conversation.side h m))
by_hands now c d m h law is t (moving_on waits busy step) =
    let on = (law now deeds.took c d step).story h t in
    subst (λ (o : Option Message). (v : Story) × Tells d.conversation v × StoryGoesOn (deeds.with_taken o c.conversation.side h) v) is on

packets_by : (now : ℕ) (c d : Connection) → Hands now c d → d.conversation.packets ≡ c.conversation.packets
packets_by now c d (none_waits none alike) = ap (λ (k : Connection). k.conversation.packets) alike
packets_by now c d (calmly waits calm same) = ap (λ (p : Parts). p.conversation.packets) same
packets_by now c d (moving_on waits busy step) = step.packets

pub hands : (now : ℕ) (m : Message) (g h : Guest) → AStepKeepsItsPromises → GuestTells now g h → waiting_message g.connection.conversation.side ≡ Some m → LeadsOn 1 g h (one_message_more m) []
hands now m g h law t is a b programs x side meets here =
    let c = g.connection in
    let some = some_waits (waiting_message c.conversation.side) m is in
    let hand = t.handed some in
    leads h (acts_so c.conversation h.connection.conversation (λ k. with_handed c.conversation.side k m) (one_message_more m)
    (packets_by now c h.connection hand)
    (λ k l. handing m is)
    (λ k told_it. by_hands now c h.connection m k law is told_it hand) a b programs x side meets here)

pub tells : (now : ℕ) (g h : Guest) → GuestTells now g h → waiting_message g.connection.conversation.side ≡ None → LeadsOn 0 g h with_no_more []
tells now g h t is = same_goes 0 g h (ap (λ (k : Connection). k.conversation) (t.closed is))

pub announced : (g h : Guest) → GuestAnnounced g h → LeadsOn 0 g h with_no_more []
announced g h is = same_goes 0 g h (ap (λ (k : Guest). k.connection.conversation) is)

-- ---- by itself

acts_by : (c d : Connection) (now : ℕ) (act : Act) → d.conversation ≡ (acted_by (parts_of c) act now).conversation → Rests c.conversation d.conversation
acts_by c d now Nothing is = as_before c.conversation d.conversation is
acts_by c d now Again is = as_before c.conversation d.conversation is
acts_by c d now Ask is = as_before c.conversation d.conversation is
acts_by c d now GiveUp is = as_given_up c.conversation d.conversation is
acts_by c d now Forget is = as_before c.conversation d.conversation is

pub acted_rests : (now : ℕ) (g h : Guest) → GuestActs now g h → Rests g.connection.conversation h.connection.conversation
acted_rests now g h s = acts_by g.connection h.connection now (act_at g.connection.wait now) (ap (λ (p : Parts). p.conversation) s.parts)

pub acts : (now : ℕ) (g h : Guest) → GuestActs now g h → LeadsOn 1 g h with_no_more []
acts now g h s = rests_on g h (acted_rests now g h s)

unserved_by : (closed : Bool) (c d : Conversation) (p q : Parts) → d ≡ (if closed then p else q).conversation → p.conversation ≡ c → q.conversation ≡ given_up c → Rests c d
unserved_by true c d p q is still left = as_before c d (is ∙ still)
unserved_by false c d p q is still left = as_given_up c d (is ∙ left)

pub not_served : (now error : ℕ) (g h : Guest) → GuestUnserved now error g h → LeadsOn 1 g h with_no_more []
not_served now error g h s =
    rests_on g h (unserved_by (is_some g.connection.closed) g.connection.conversation h.connection.conversation (parts_of g.connection) _
    (ap (λ (p : Parts). p.conversation) s.parts) refl refl)

-- ---- what goes out

owed_on : (b : Bool) (now : ℕ) (c d : Connection) → AStepKeepsItsPromises → MovesOwed b now c d → GoesIdly c.conversation d.conversation
owed_on true now c d law step = (step.packets, (law now deeds.nothing c d step).story)
owed_on false now c d law same =
    let rests = as_before c.conversation d.conversation (ap (λ (k : Connection). k.conversation) same) in
    (rests.0, λ h t. (h, rests.1 h t, stays h))

packets_given : (way : ℕ) (left : Bool) (answer : Result (Option (List ℕ)) AllocError) → packet_returned (given_by way left answer) ≡ option_to_list (packet_of answer)
packets_given way left (Ok (Some p)) = refl
packets_given way true (Ok None) = refl
packets_given way false (Ok None) = refl
packets_given way left (Err e) = refl

pub gives : (now : ℕ) (result : Result (Option Outgoing) HostFault) (g h : Guest) → AStepKeepsItsPromises → GuestGives now result g h → LeadsOn 2 g h with_no_more (packet_returned result)
gives now result g h law s a b programs m side meets here =
    let n = s.gave in
    let mid = n.mid in
    let owed = owed_on g.connection.owed.moving now g.connection mid law n.moved in
    let one = acts_so g.connection.conversation mid.conversation (λ k. k) with_no_more owed.0 (λ k l. idling) owed.1 a b programs m side meets here in
    let out = gives_on_from (is_dead mid.closed) mid.conversation h.connection.conversation mid.owed h.connection.owed s.answer n.beside.0 n.beside.1 n.gave n.short in
    let two = gives_on one.next one.meets side (packet_of s.answer) h.connection.conversation (subst (λ (k : Conversation). GivesNextPacket k h.connection.conversation (packet_of s.answer)) (sym one.conversation) out) in
    subst (LeadsTo a b programs 2 m side h with_no_more) (sym (ap packet_returned s.is ∙ packets_given g.via h.connection.owed.fresh s.answer)) (leads h (then_on one two))

-- ---- what comes

pub hears_it : (now : ℕ) (bytes : List ℕ) (confirming : Bool) (g h : Guest) → AStepKeepsItsPromises → GuestHears now bytes confirming g h → HearsOn g h with_no_more bytes
hears_it now bytes confirming g h law (hears {h = k} s) a b programs m side meets here may =
    let n = (at m side).story in
    let t = subst (λ (c : Conversation). Tells c n) here (told meets side) in
    let p = law now (deeds.heard bytes) g.connection k.connection s.step in
    let heard_so : HearsBytes g.connection.conversation k.connection.conversation bytes = record { wanted = λ z. p.wanted ∙ z; on = p.story } in
    leads k (hears_on m meets side bytes k.connection.conversation (subst (λ (c : Conversation). HearsBytes c k.connection.conversation bytes) (sym here) heard_so)
    (s.step.packets ∙ sym (ap (λ (c : Conversation). c.packets) here)) may)
hears_it now bytes confirming g h law (lost stores) a b programs m side meets here may =
    same_goes 1 g g refl a b programs m side meets here
