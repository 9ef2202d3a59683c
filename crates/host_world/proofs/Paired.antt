-- What a call on the pair comes to.
use Rattle.std.proofs.Common.{◌≡◌, ◌∙◌, ap, sym, refl, subst, ℕ, zero, suc, ◌+◌, ◌≤◌, arith, false, List, [], ◌∷◌, ◌++◌, append-nil, Bool, true, Option, Some, None, Result, Ok, Err, OnOk, OnErr, IfOk, IfSome}
use Rattle.std.specs.Prelude.{slice_get, if◌then◌else◌}
use Rattle.std.specs.Option.{option_to_list}
use Rattle.courier_messages.specs.RawCalls.{RawCall}
use Rattle.courier_messages.specs.declared.message.Message.{Message}
use Rattle.courier_sessions.specs.Answering.{answer_message}
use Rattle.courier_sessions.specs.declared.answer.Answer.{Answer}
use Rattle.courier_sessions.specs.declared.program.Program.{Program}
use Rattle.item_world.specs.Landing.{with_arrival}
use Rattle.item_world.specs.Side.{other}
use Rattle.item_world.specs.World.{World, end_at, marked_delivered}
use Rattle.item_world.specs.declared.emitted.Emitted.{Emitted}
use Rattle.xns_spp.specs.Ends.{is_ours_at}
use Rattle.xns_spp.specs.Held.{StandsFor}
use Rattle.xns_spp.specs.Laws.{ForeignBytesChangeNothing}
use Rattle.xns_spp.specs.Receiving.{after_receive, is_ours_in, receive_answer}
use Rattle.xns_spp.specs.State.{State}
use Rattle.item_world.specs.declared.side.Side.{Side}
use Rattle.item_world.specs.declared.side.Side.TheVariants.{A, B}
use Rattle.xns_spp.specs.Packet.{SppPacketModel, spp_packet_of}
use Rattle.xns_connection.specs.Deeds as deeds
use Rattle.xns_connection.specs.Deeds.{Deed, with_answer, with_taken}
use Rattle.xns_connection.specs.Step.{AMessageIsHandedAsByAStep, AStepKeepsItsPromises, Hands, Step, WaitsBy}
use Rattle.xns_connection.specs.Acting.{Acts, idling, calling, handing, answering}
use Rattle.xns_connection.specs.Closing.{drains}
use Rattle.xns_connection.specs.Living.{Deeds, GoesFrom}
use Rattle.xns_connection.specs.Reasons.{answer_fault_of}
use Rattle.xns_connection.specs.Refusing.{side_answer_fault, Answers as Refusals}
use Rattle.xns_connection.specs.Story.{Story, ProgramDoesNothing, asked_of, waiting_message, with_handed}
use Rattle.xns_connection.specs.Telling.{Tells, Goes, GivesNextPacket, MovesAndGives, HearsBytes}
use Rattle.xns_connection.proofs.Leading.{stays}
use Rattle.xns_agenda.specs.Waiting.{StepsAt, still}
use Rattle.xns_connection.specs.declared.connection.Connection.{Connection}
use Rattle.xns_connection.specs.declared.conversation.Conversation.{Conversation}
use Rattle.xns_connection.specs.declared.refusal.Refusal.{Refusal}
use Rattle.xns_connection.specs.declared.refusal.Refusal.TheVariants.{Closing}
use Rattle.xns_connection.specs.declared.side.Side.{Side as Kind}
use Rattle.xns_connection.specs.declared.side.Side.TheVariants.{Calls, Answers}
use Rattle.xns_host.proofs.Meant.{handed_none}
use Rattle.host_world.specs.Meeting.{Meeting, at, Next, led, went_on}
use Rattle.host_world.specs.Meets.{heard_story, IsWithinSteps, Meets, MeetingStep, acts, arrives, gives, moves, no_step, one_more, opens, strays}
use Rattle.host_world.specs.Pairing.{AreKept, connection_at, with_connection, DoesAt, Steps, StepsByBytes, MayCome, made, foreign, with_no_more, one_call_more, one_message_more, one_answer_more}
use Rattle.host_world.specs.declared.pair.Pair.{Pair}
use Rattle.host_world.specs.declared.station.Station.{Station}
use Rattle.host_world.proofs.Deeds.{unanswered}
use Rattle.host_world.proofs.Led.{kept_itself, kept_marked, kept_moved, kept_then, led_kept}

-- ---- each connection of a meeting has its story

abbrev AreTold : Meeting → Type 0
AreTold m = (side : Side) → Tells (at m side).conversation (at m side).story

went_told : (m : Meeting) (u : World) (side : Side) {base : Story} (n : Next base) (l : Deeds) (given : List (List ℕ)) → AreTold m → AreTold (went_on m u side n l given)
went_told m u A n l given k A = n.tells
went_told m u A n l given k B = k B
went_told m u B n l given k A = k A
went_told m u B n l given k B = n.tells

told_by : {m n : Meeting} → AreTold m → MeetingStep m n → AreTold n
told_by {m = m} before (acts side {l = l} act n same) = went_told m m.world side n l (at m side).given before
told_by {m = m} before (gives side packet n out) = went_told m m.world side n (at m side).deeds ((at m side).given ++ option_to_list packet) before
told_by {m = m} before (arrives k x is lives n same) = went_told m (with_arrival m.world k x) (other x.side) n (at m (other x.side)).deeds (at m (other x.side)).given before
told_by {m = m} before (strays side bytes strange n same) = went_told m m.world side n (at m side).deeds (at m side).given before

pub told : {a b : Station} {programs : List Program} {m : Meeting} → Meets a b programs m → AreTold m
told (opens c d calls answers none empty) A = calls
told (opens c d calls answers none empty) B = answers
told (moves before step) s = told_by (told before) step s

-- ---- how many steps

pub wider : {m n : Meeting} (few most : ℕ) → few ≤ most → IsWithinSteps few m n → IsWithinSteps most m n
wider few most less no_step = no_step
wider (suc few) (suc most) less (one_more before step) = one_more (wider few most (omega (arith, less)) before) step
wider (suc few) zero less (one_more before step) = absurd (omega (arith, less))

pub within_then : {m n o : Meeting} (few more most : ℕ) → few + more ≤ most → IsWithinSteps few m n → IsWithinSteps more n o → IsWithinSteps most m o
within_then few more most less first no_step = wider few most (omega (arith, less)) first
within_then few (suc more) (suc most) less first (one_more next step) = one_more (within_then few more most (omega (arith, less)) first next) step
within_then few (suc more) zero less first (one_more next step) = absurd (omega (arith, less))

-- ---- one step more

-- at most so many steps led on, to this conversation at this side
pub record Onward (a b : Station) (programs : List Program) (most : ℕ) (m : Meeting) (side : Side) (d : Conversation) (did : Deeds → Deeds) (gave : List (List ℕ)) : Type 0 where
  pub next : Meeting
  pub meets : Meets a b programs next
  pub conversation : (at next side).conversation ≡ d
  pub does : DoesAt most m next side did gave

went_there : (m : Meeting) (u : World) (side : Side) {base : Story} (n : Next base) (l : Deeds) (given : List (List ℕ)) → (at (went_on m u side n l given) side).conversation ≡ n.conversation
went_there m u A n l given = refl
went_there m u B n l given = refl

went_does : (m : Meeting) (u : World) (side : Side) {base : Story} (n : Next base) (did : Deeds → Deeds) (more : List (List ℕ)) → AreKept m.world.bag u.bag → MeetingStep m (went_on m u side n (did (at m side).deeds) ((at m side).given ++ more))
    → DoesAt 1 m (went_on m u side n (did (at m side).deeds) ((at m side).given ++ more)) side did more
went_does m u A n did more kept step = record { within = one_more no_step step; deeds = refl; given = refl; other = refl; kept = kept_then m.world.bag u.bag (led u A n.on.path).bag kept (led_kept u A n.on.path) }
went_does m u B n did more kept step = record { within = one_more no_step step; deeds = refl; given = refl; other = refl; kept = kept_then m.world.bag u.bag (led u B n.on.path).bag kept (led_kept u B n.on.path) }

went_idly : (m : Meeting) (u : World) (side : Side) {base : Story} (n : Next base) (did : Deeds → Deeds) → AreKept m.world.bag u.bag → MeetingStep m (went_on m u side n (did (at m side).deeds) (at m side).given)
    → DoesAt 1 m (went_on m u side n (did (at m side).deeds) (at m side).given) side did []
went_idly m u side n did kept step =
    let same : (at m side).given ++ [] ≡ (at m side).given = append-nil (at m side).given in
    subst (λ (given : List (List ℕ)). DoesAt 1 m (went_on m u side n (did (at m side).deeds) given) side did []) same
    (went_does m u side n did [] kept (subst (λ (given : List (List ℕ)). MeetingStep m (went_on m u side n (did (at m side).deeds) given)) (sym same) step))

pub acts_on : {a b : Station} {programs : List Program} (m : Meeting) → Meets a b programs m → (side : Side) (base : Story) (did : Deeds → Deeds) (d : Conversation) → Acts (at m side).conversation (at m side).story (at m side).deeds base (did (at m side).deeds)
    → d.packets ≡ (at m side).conversation.packets → (n : Story) → Tells d n → ProgramDoesNothing base n → Onward a b programs 1 m side d did []
acts_on m meets side base did d act same n tells on =
    let next : Next base = record { conversation = d; story = n; tells = tells; on = on } in
    let to : Meeting = went_on m m.world side next (did (at m side).deeds) (at m side).given in
    let step : MeetingStep m to = acts side act next same in
    record {
      next = to;
      meets = moves meets step;
      conversation = went_there m m.world side next (did (at m side).deeds) (at m side).given;
      does = went_idly m m.world side next did (kept_itself m.world.bag) step;
    }

pub gives_on : {a b : Station} {programs : List Program} (m : Meeting) → Meets a b programs m → (side : Side) (packet : Option (List ℕ)) (d : Conversation) → GivesNextPacket (at m side).conversation d packet → Onward a b programs 1 m side d with_no_more (option_to_list packet)
gives_on m meets side packet d gave =
    let on = gave.on (at m side).story (told meets side) in
    let next : Next (at m side).story = record { conversation = d; story = on.0; tells = on.1; on = on.2 } in
    let to : Meeting = went_on m m.world side next (at m side).deeds ((at m side).given ++ option_to_list packet) in
    let step : MeetingStep m to = gives side packet next on.3 in
    record {
      next = to;
      meets = moves meets step;
      conversation = went_there m m.world side next (at m side).deeds ((at m side).given ++ option_to_list packet);
      does = went_does m m.world side next with_no_more (option_to_list packet) (kept_itself m.world.bag) step;
    }

kept_answered : (w : World) (k : ℕ) (x : Emitted) → slice_get w.bag k ≡ Some x → AreKept w.bag (with_arrival w k x).bag
kept_answered w k x is =
    let u : World = marked_delivered w k x in
    let side : Side = other x.side in
    let bs = option_to_list (receive_answer (end_at u side) x.bytes).reply in
    kept_then w.bag u.bag (with_arrival w k x).bag (kept_marked w.bag k x is) (kept_moved u side (after_receive (end_at u side) x.bytes) bs)

pub hears_on : {a b : Station} {programs : List Program} (m : Meeting) → Meets a b programs m → (side : Side) (bytes : List ℕ) (d : Conversation) → HearsBytes (at m side).conversation d bytes → d.packets ≡ (at m side).conversation.packets → MayCome m side bytes
    → Onward a b programs 1 m side d with_no_more []
hears_on m meets side bytes d hears same (foreign strange) =
    let on = hears.on (at m side).story (told meets side) in
    let next : Next (heard_story (at m side) bytes) = record { conversation = d; story = on.0; tells = on.1; on = on.2 } in
    let to : Meeting = went_on m m.world side next (at m side).deeds (at m side).given in
    let step : MeetingStep m to = strays side bytes strange next same in
    record {
      next = to;
      meets = moves meets step;
      conversation = went_there m m.world side next (at m side).deeds (at m side).given;
      does = went_idly m m.world side next with_no_more (kept_itself m.world.bag) step;
    }
hears_on {a} {b} {programs} m meets side bytes d hears same (made k x here_it_is lives here alike) = subst (λ (s : Side). HearsBytes (at m s).conversation d bytes → d.packets ≡ (at m s).conversation.packets → Onward a b programs 1 m s d with_no_more []) here there hears same where
  there : HearsBytes (at m (other x.side)).conversation d bytes → d.packets ≡ (at m (other x.side)).conversation.packets → Onward a b programs 1 m (other x.side) d with_no_more []
  there hears same =
      let on = subst (λ (bs : List ℕ). HearsBytes (at m (other x.side)).conversation d bs) (sym alike) hears in
      let goes = on.on (at m (other x.side)).story (told meets (other x.side)) in
      let next : Next (heard_story (at m (other x.side)) x.bytes) = record { conversation = d; story = goes.0; tells = goes.1; on = goes.2 } in
      let to : Meeting = went_on m (with_arrival m.world k x) (other x.side) next (at m (other x.side)).deeds (at m (other x.side)).given in
      let step : MeetingStep m to = arrives k x here_it_is lives next same in
      record {
        next = to;
        meets = moves meets step;
        conversation = went_there m (with_arrival m.world k x) (other x.side) next (at m (other x.side)).deeds (at m (other x.side)).given;
        does = went_idly m (with_arrival m.world k x) (other x.side) next with_no_more (kept_answered m.world k x here_it_is) step;
      }

-- one step after the other
pub then_on : {a b : Station} {programs : List Program} {m : Meeting} {side : Side} {c d : Conversation} {given : List (List ℕ)} → (one : Onward a b programs 1 m side c with_no_more []) → Onward a b programs 1 one.next side d with_no_more given → Onward a b programs 2 m side d with_no_more given
then_on {m = m} {side = side} {given = given} one two = record {
  next = two.next;
  meets = two.meets;
  conversation = two.conversation;
  does = record {
    within = within_then 1 1 2 (omega arith) one.does.within two.does.within;
    deeds = two.does.deeds ∙ one.does.deeds;
    given = two.does.given ∙ ap (λ (l : List (List ℕ)). l ++ given) (one.does.given ∙ append-nil (at m side).given);
    other = two.does.other ∙ one.does.other;
    kept = kept_then m.world.bag one.next.world.bag two.next.world.bag one.does.kept two.does.kept;
  };
}

-- ---- the pair

same_after : (p : Pair) (d : Connection) (side : Side) (m n : Meeting) → ((s : Side) → (at m s).conversation ≡ (connection_at p s).conversation) → (at n side).conversation ≡ d.conversation → at n (other side) ≡ at m (other side)
    → (s : Side) → (at n s).conversation ≡ (connection_at (with_connection p side d) s).conversation
same_after p d A m n before here there A = here
same_after p d A m n before here there B = ap (λ (q : _). q.conversation) there ∙ before B
same_after p d B m n before here there A = ap (λ (q : _). q.conversation) there ∙ before A
same_after p d B m n before here there B = here

beside : (p : Pair) (side : Side) (d : Connection) → connection_at (with_connection p side d) (other side) ≡ connection_at p (other side)
beside p A d = refl
beside p B d = refl

-- where a connection goes on from each meeting, the pair steps
steps : (most : ℕ) (p : Pair) (c d : Connection) (side : Side) (did : Deeds → Deeds) (given : List (List ℕ)) → c ≡ connection_at p side
    → ((a b : Station) (programs : List Program) (m : Meeting) → Meets a b programs m → (at m side).conversation ≡ c.conversation → Onward a b programs most m side d.conversation did given)
    → Steps most p (with_connection p side d) side did given
steps most p c d side did given is onward = record {
  on = λ a b programs m stands.
      let on = onward a b programs m stands.meets (stands.same side ∙ ap (λ (k : Connection). k.conversation) (sym is)) in
      (on.next, record { calls = stands.calls; called = stands.called; meets = on.meets; same = same_after p d side m on.next stands.same on.conversation on.does.other }, on.does);
  beside = beside p side d;
}

pub pair_acts : (p : Pair) (c d : Connection) (side : Side) (did : Deeds → Deeds) (base : Story → Story) → c ≡ connection_at p side → d.conversation.packets ≡ c.conversation.packets
    → ((h : Story) (l : Deeds) → Acts c.conversation h l (base h) (did l)) → GoesFrom c.conversation d.conversation base → Steps 1 p (with_connection p side d) side did []
pair_acts p c d side did base is same act on = steps 1 p c d side did [] is
    (λ a b programs m meets here.
    let goes = subst (λ (k : Conversation). GoesFrom k d.conversation base) (sym here) on (at m side).story (told meets side) in
    acts_on m meets side (base (at m side).story) did d.conversation
    (subst (λ (k : Conversation). Acts k (at m side).story (at m side).deeds (base (at m side).story) (did (at m side).deeds)) (sym here) (act (at m side).story (at m side).deeds))
    (subst (λ (k : Conversation). d.conversation.packets ≡ k.packets) (sym here) same)
    goes.0 goes.1 goes.2)

pub pair_goes : (p : Pair) (c d : Connection) (side : Side) → c ≡ connection_at p side → d.conversation.packets ≡ c.conversation.packets → Goes c.conversation d.conversation → Steps 1 p (with_connection p side d) side with_no_more []
pair_goes p c d side is same goes = pair_acts p c d side with_no_more (λ h. h) is same (λ h l. idling) goes.on

pub pair_gives : (p : Pair) (c d : Connection) (side : Side) (packet : Option (List ℕ)) → c ≡ connection_at p side → MovesAndGives c.conversation d.conversation packet → Steps 2 p (with_connection p side d) side with_no_more (option_to_list packet)
pair_gives p c d side packet is moved = steps 2 p c d side with_no_more (option_to_list packet) is
    (λ a b programs m meets here.
    let goes = subst (λ (k : Conversation). Goes k moved.0) (sym here) moved.1 in
    let on = goes.on (at m side).story (told meets side) in
    let one = acts_on m meets side (at m side).story with_no_more moved.0 idling (subst (λ (k : Conversation). moved.0.packets ≡ k.packets) (sym here) moved.2) on.0 on.1 on.2 in
    then_on one (gives_on one.next one.meets side packet d.conversation (subst (λ (k : Conversation). GivesNextPacket k d.conversation packet) (sym one.conversation) moved.3)))

pub pair_hears : (p : Pair) (c d : Connection) (side : Side) (bytes : List ℕ) → c ≡ connection_at p side → d.conversation.packets ≡ c.conversation.packets → HearsBytes c.conversation d.conversation bytes → StepsByBytes p (with_connection p side d) side bytes
pair_hears p c d side bytes is same hears = record {
  on = λ a b programs m stands comes.
      let here = stands.same side ∙ ap (λ (k : Connection). k.conversation) (sym is) in
      let on = hears_on m stands.meets side bytes d.conversation (subst (λ (k : Conversation). HearsBytes k d.conversation bytes) (sym here) hears) (subst (λ (k : Conversation). d.conversation.packets ≡ k.packets) (sym here) same) comes in
      (on.next, record { calls = stands.calls; called = stands.called; meets = on.meets; same = same_after p d side m on.next stands.same on.conversation on.does.other }, on.does);
  beside = beside p side d;
}

-- where nothing is done, a meeting is as it was
pub stays_so : (most : ℕ) (m : Meeting) (side : Side) → DoesAt most m m side with_no_more []
stays_so most m side = record { within = no_step; deeds = refl; given = sym (append-nil (at m side).given); other = refl; kept = kept_itself m.world.bag }

-- ---- what the clauses of each function of a pair make of a step

-- what is there is what was put there
pub put : (p : Pair) (side : Side) (d : Connection) → connection_at (with_connection p side d) side ≡ d
put p A d = refl
put p B d = refl

pub put_back : (p : Pair) (side : Side) (d : Connection) → d ≡ connection_at p side → with_connection p side d ≡ p
put_back p A d e = ap (λ (k : Connection). record p { a = k }) e
put_back p B d e = ap (λ (k : Connection). record p { b = k }) e

pub pair_unchanged : {X E : Type 0} (p : Pair) (c d : Connection) (side : Side) (r : Result X E) → c ≡ connection_at p side → OnErr r (d ≡ c) → OnErr r (with_connection p side d ≡ p)
pair_unchanged p c d side (Ok x) is same = tt
pair_unchanged p c d side (Err e) is same = put_back p side d (same ∙ is)

pub pair_calls : AStepKeepsItsPromises → (p : Pair) (c d : Connection) (side : Side) (now : ℕ) (call : RawCall) (r : Result (Unit {0}) Refusal) → c ≡ connection_at p side
    → OnOk r (Step now (deeds.made call) c d) → OnOk r (Steps 1 p (with_connection p side d) side (one_call_more call) [])
pair_calls law p c d side now call (Ok u) is step =
    pair_acts p c d side (one_call_more call) (λ h. record h { made = h.made ++ call ∷ [] }) is step.packets (λ h l. calling call)
    (law now (deeds.made call) c d step).story
pair_calls law p c d side now call (Err e) is step = tt

pub pair_closes : AStepKeepsItsPromises → (p : Pair) (c d : Connection) (side : Side) (now : ℕ) → c ≡ connection_at p side → Step now deeds.asked c d
    → Steps 1 p (with_connection p side d) side with_no_more []
pair_closes law p c d side now is step =
    pair_acts p c d side with_no_more (λ h. h) is step.packets (λ h l. idling) (law now deeds.asked c d step).story

-- a connection's waits come by steps of the moment of a deed, or stay
pub waits_on : {E : Type 0} (now : ℕ) (deed : Deed) (c d : Connection) (r : Result (Unit {0}) E)
    → (WaitsBy deed now c.wait d.wait → StepsAt now c.wait d.wait) → OnOk r (Step now deed c d) → OnErr r (d ≡ c) → StepsAt now c.wait d.wait
waits_on now deed c d (Ok u) steps step same = steps step.steps
waits_on now deed c d (Err e) steps step same = subst (λ (x : Connection). StepsAt now c.wait x.wait) (sym same) still

waits_there : (x y z : Connection) (now : ℕ) → x ≡ y → StepsAt now x.wait z.wait → StepsAt now y.wait z.wait
waits_there x y z now same steps = subst (λ (k : Connection). StepsAt now k.wait z.wait) same steps

pub one_waits : (p : Pair) (c d : Connection) (side : Side) (now : ℕ) → c ≡ connection_at p side → StepsAt now c.wait d.wait
    → StepsAt now (connection_at p side).wait (connection_at (with_connection p side d) side).wait
one_waits p c d A now is steps = waits_there c (connection_at p A) d now is steps
one_waits p c d B now is steps = waits_there c (connection_at p B) d now is steps

side_asked : (s : Kind) (kind : Answer) (words : List ℕ) → side_answer_fault s kind words ≡ None → (k : ℕ) × (asked_of s ≡ Some k)
side_asked (Calls t) kind words e = absurd (cc)
side_asked (Answers a) kind words e = unanswered a.asked kind words e

asked : (c : Conversation) (kind : Answer) (words : List ℕ) → answer_fault_of c kind words ≡ None → (k : ℕ) × (asked_of c.side ≡ Some k)
asked c kind words e = by (drains c.side c.closing) e where
  by : (b : Bool) → (if b then Some Closing else side_answer_fault c.side kind words) ≡ None → (k : ℕ) × (asked_of c.side ≡ Some k)
  by true e = absurd (cc)
  by false e = side_asked c.side kind words e

pub pair_answers : AStepKeepsItsPromises → (p : Pair) (c d : Connection) (side : Side) (now : ℕ) (kind : Answer) (words : List ℕ) (r : Result (Unit {0}) Refusal) → c ≡ connection_at p side
    → Refusals (answer_fault_of c.conversation kind words) r → OnOk r (Step now (deeds.gave kind words) c d)
    → OnOk r ((k : ℕ) × (asked_of (connection_at p side).conversation.side ≡ Some k) × Steps 1 p (with_connection p side d) side (one_answer_more (answer_message kind k words)) [])
pair_answers law p c d side now kind words (Ok u) is none step =
    let some = asked c.conversation kind words none in (
      some.0,
      subst (λ (k : Connection). asked_of k.conversation.side ≡ Some some.0) is some.1,
      pair_acts p c d side (one_answer_more (answer_message kind some.0 words)) (λ h. record h { answers = h.answers ++ answer_message kind some.0 words ∷ [] }) is step.packets
          (λ h l. answering kind some.0 words some.1)
          (λ h tells. subst (λ (o : Option ℕ). (m : Story) × Tells d.conversation m × ProgramDoesNothing (with_answer o kind words h) m) some.1 ((law now (deeds.gave kind words) c d step).story h tells)),
    )
pair_answers law p c d side now kind words (Err e) is none step = tt

pub pair_hands : AMessageIsHandedAsByAStep → (p : Pair) (c d : Connection) (side : Side) (now : ℕ) (r : Option Message) → c ≡ connection_at p side
    → r ≡ waiting_message c.conversation.side → Hands now c d → IfSome r (λ m. Steps 1 p (with_connection p side d) side (one_message_more m) [])
pair_hands law p c d side now None is waits hands = tt
pair_hands law p c d side now (Some m) is waits hands =
    let k = law now c d (λ none. cc) hands in
    pair_acts p c d side (one_message_more m) (λ h. with_handed c.conversation.side h m) is k.packets (λ h l. handing m (sym waits))
    (λ h tells. subst (λ (o : Option Message). (n : Story) × Tells d.conversation n × ProgramDoesNothing (with_taken o c.conversation.side h) n) (sym waits) (k.story h tells))

pub pair_hands_none : (p : Pair) (c d : Connection) (side : Side) (now : ℕ) (r : Option Message) → c ≡ connection_at p side
    → r ≡ waiting_message c.conversation.side → Hands now c d → r ≡ None → with_connection p side d ≡ p
pair_hands_none p c d side now r is waits hands none = put_back p side d (handed_none now c d hands (sym waits ∙ none) ∙ is)

-- of what became of the one at a side
pub at_side : (P : Connection → Connection → Type 0) (p : Pair) (c d : Connection) (side : Side) → c ≡ connection_at p side → P c d
    → P (connection_at p side) (connection_at (with_connection p side d) side)
at_side P p c d side is here = subst (λ (x : Connection). P (connection_at p side) x) (sym (put p side d)) (subst (λ (x : Connection). P x d) is here)

pub pair_gives_ok : {E : Type 0} (p : Pair) (c d : Connection) (side : Side) (r : Result (Option (List ℕ)) E) → c ≡ connection_at p side → IfOk r (λ o. MovesAndGives c.conversation d.conversation o) → IfOk r (λ o. Steps 2 p (with_connection p side d) side with_no_more (option_to_list o))
pair_gives_ok p c d side (Ok o) is gave = pair_gives p c d side o is gave
pair_gives_ok p c d side (Err e) is gave = tt

pub pair_gives_none : {X E : Type 0} (p : Pair) (c d : Connection) (side : Side) (r : Result X E) → c ≡ connection_at p side → OnErr r (MovesAndGives c.conversation d.conversation None) → OnErr r (Steps 2 p (with_connection p side d) side with_no_more [])
pair_gives_none p c d side (Ok x) is gave = tt
pair_gives_none p c d side (Err e) is gave = pair_gives p c d side None is gave

-- bytes came
pub heard_there : AStepKeepsItsPromises → (now : ℕ) (bytes : List ℕ) (c d : Connection) → Step now (deeds.heard bytes) c d
    → HearsBytes c.conversation d.conversation bytes
heard_there law now bytes c d step = let k = law now (deeds.heard bytes) c d step in record { wanted = λ z. k.wanted ∙ z; on = k.story }

pub pair_rests : (most : ℕ) (p : Pair) (c d : Connection) (side : Side) → c ≡ connection_at p side → d.conversation ≡ c.conversation → Steps most p (with_connection p side d) side with_no_more []
pair_rests most p c d side is same = record {
  on = λ a b programs m stands.
      let here : (at m side).conversation ≡ d.conversation = stands.same side ∙ ap (λ (k : Connection). k.conversation) (sym is) ∙ sym same in
      (m, record { calls = stands.calls; called = stands.called; meets = stands.meets; same = same_after p d side m m stands.same here refl }, stays_so most m side);
  beside = beside p side d;
}

-- where bytes change nothing, the pair stands for what it stood for
pub pair_stays : (p : Pair) (side : Side) (bytes : List ℕ) → StepsByBytes p p side bytes
pair_stays p side bytes = record { on = λ a b programs m stands comes. (m, stands, stays_so 1 m side); beside = refl }

-- bytes that are no packet of the connection leave its conversation as it was
pub hears_none : ForeignBytesChangeNothing → (c : Conversation) (bytes : List ℕ) (packet : SppPacketModel) → spp_packet_of bytes ≡ Ok packet
    → ((s : State) → StandsFor c.endpoint s → is_ours_at s.ends packet ≡ false) → HearsBytes c c bytes
hears_none law c bytes packet reads other = record {
  wanted = λ z. z;
  on = λ h tells.
      let same = law.after h.state bytes (ap (is_ours_in h.state) reads ∙ other h.state tells.stands) in
      (h, tells, subst (λ (s : State). ProgramDoesNothing (record h { state = s }) h) (sym same) (stays h));
}

pub pair_takes_in : {E : Type 0} → AStepKeepsItsPromises → (p : Pair) (c d : Connection) (side : Side) (now : ℕ) (bytes : List ℕ) (packet : SppPacketModel) (r : Result Bool E)
    → c ≡ connection_at p side → spp_packet_of bytes ≡ Ok packet → (r ≡ Ok true → (b : List ℕ) → spp_packet_of b ≡ Ok packet → Step now (deeds.heard b) c d)
    → (r ≡ Ok false → d ≡ c) → OnOk r (StepsByBytes p (with_connection p side d) side bytes)
pair_takes_in law p c d side now bytes packet (Ok true) is reads step same =
    pair_hears p c d side bytes is (step refl bytes reads).packets (heard_there law now bytes c d (step refl bytes reads))
pair_takes_in law p c d side now bytes packet (Ok false) is reads step same =
    let rests = pair_rests 1 p c d side is (ap (λ (k : Connection). k.conversation) (same refl)) in
    record { on = λ a b programs m stands comes. rests.on a b programs m stands; beside = rests.beside }
pair_takes_in law p c d side now bytes packet (Err e) is reads step same = tt

-- where bytes that are a packet come to a side, what follows of the step of the connection there, or of none, holds of the pair
pub pair_heard : {E : Type 0} (P : Connection → Connection → Type 0) (p : Pair) (c d : Connection) (side : Side) (now : ℕ) (bytes : List ℕ) (packet : SppPacketModel)
    (r : Result Bool E) → c ≡ connection_at p side → spp_packet_of bytes ≡ Ok packet → (Step now (deeds.heard bytes) c d → P c d)
    → (r ≡ Ok true → (b : List ℕ) → spp_packet_of b ≡ Ok packet → Step now (deeds.heard b) c d) → (r ≡ Ok false → P c d)
    → OnOk r ((q : SppPacketModel) → spp_packet_of bytes ≡ Ok q → P (connection_at p side) (connection_at (with_connection p side d) side))
pair_heard P p c d side now bytes packet (Ok true) is reads next step none = λ q read. at_side P p c d side is (next (step refl bytes reads))
pair_heard P p c d side now bytes packet (Ok false) is reads next step none = λ q read. at_side P p c d side is (none refl)
pair_heard P p c d side now bytes packet (Err e) is reads next step none = tt
