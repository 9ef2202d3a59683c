-- What is done at a connection, in what its scene says of a story.
use Rattle.std.proofs.Common.{◌≡◌, ◌∙◌, ap, sym, refl, subst, ℕ, ◌≤◌, ◌+◌, List, [], ◌∷◌, ◌++◌, length-append, take, drop, length, Bool, true, false, Option, Some, None, arith}
use Rattle.std.specs.Prelude.{◌&&◌, ◌||◌, if◌then◌else◌}
use Rattle.std.specs.Option.{is_some, option_map}
use Rattle.courier_messages.specs.RawCalls.{RawCall}
use Rattle.courier_messages.specs.declared.message.Message.{Message}
use Rattle.courier_sessions.specs.Answering as answering
use Rattle.courier_sessions.specs.Answering.{Answering, after_call, answer_message, answer_refusal, why_unlisted}
use Rattle.courier_sessions.specs.Talk as talk
use Rattle.courier_sessions.specs.Talk.{Talk, call_refusal}
use Rattle.courier_sessions.specs.Talks.{HasDone}
use Rattle.courier_sessions.specs.declared.answer.Answer.{Answer}
use Rattle.courier_sessions.specs.declared.program.Program.{Program}
use Rattle.courier_sessions.specs.declared.unlisted.Unlisted.{Unlisted}
use Rattle.xns_spp.specs.Held.{StandsFor}
use Rattle.xns_spp.specs.Laws.{AnEndOnlyGrows, OtherStepsAcceptAndHandUpNothing}
use Rattle.xns_spp.specs.Receiving.{after_receive}
use Rattle.xns_spp.specs.Sending.{waiting_count}
use Rattle.xns_spp.specs.State.{State}
use Rattle.xns_spp.specs.declared.item.Item.{Item}
use Rattle.xns_connection.specs.Closing.{drains, closing_items, Knows}
use Rattle.xns_connection.specs.Deeds.{Deed, nothing, asked, made, gave, took, heard, answered_for, done, handed_by, side_answered, side_called, side_taken, told_by, wanted_by, with_answer, with_taken}
use Rattle.xns_connection.specs.Moving.{ConversationScene, conversation_scene}
use Rattle.xns_connection.specs.Refusing.{refused_answer, refused_call, side_answer_fault, side_call_fault}
use Rattle.xns_connection.specs.Step.{May}
use Rattle.xns_connection.specs.Story.{Story, SideHas, CallerHas, ServerHas, asked_of, is_called, is_stopped, listed_call, out_of, waiting_message, with_handed}
use Rattle.xns_connection.specs.Telling.{Tells}
use Rattle.xns_connection.specs.declared.closing.Closing.{Closing}
use Rattle.xns_connection.specs.declared.conversation.Conversation.{Conversation}
use Rattle.xns_connection.specs.declared.refusal.Refusal.{Refusal}
use Rattle.xns_connection.specs.declared.refusal.Refusal.TheVariants as faults
use Rattle.xns_connection.specs.declared.side.Side.{Side}
use Rattle.xns_connection.specs.declared.side.Side.TheVariants.{Calls, Answers}
use Rattle.xns_connection.proofs.Handing.{ServerAnswers, ServerHands, answers, hands}
use Rattle.xns_connection.proofs.Leading.{going, gone}
use Rattle.xns_connection.proofs.Says.{Says, says_of}
use Rattle.xns_connection.proofs.Tellings.{has_at, reads_on, same_front}

-- the laws of the layers below
abbrev pub CallerMakes : Type 0
CallerMakes = (made : List RawCall) (fed given : List Item) (handed : List Message) (t : Talk) (c : RawCall) → HasDone made fed given handed t
    → call_refusal t c ≡ None → HasDone (made ++ c ∷ []) fed given handed (talk.called t c)

abbrev pub CallerHands : Type 0
CallerHands = (made : List RawCall) (fed given : List Item) (handed : List Message) (t : Talk) (m : Message) → HasDone made fed given handed t
    → t.outcome ≡ Some m → HasDone made fed given (handed ++ m ∷ []) (record t { outcome = None })

pub record Underneath : Type 0 where
  pub makes : CallerMakes
  pub hands_up : CallerHands
  pub hands_call : ServerHands
  pub gives : ServerAnswers
  pub grows : AnEndOnlyGrows
  pub stays : OtherStepsAcceptAndHandUpNothing

-- the side is another, and the story too, but for what its end did
says_other : (x : ConversationScene) (h m : Story) (side : Side) → Says x h → SideHas m side → m.fed ≡ h.fed → m.given ≡ h.given
    → (x.closing.end_sent ≡ true → x.closing.wanted ≡ true → out_of side ≡ out_of x.side)
    → (drains side x.closing ≡ false → drains x.side x.closing ≡ false) → Says (record x { side = side }) m
says_other x h m side s has fed given out still =
    let front : List Item = take x.state.handed x.state.taken in
    record {
      has = has;
      fed = subst (λ (xs : List Item). (rest : List Item) × (xs ++ rest ≡ front)) (sym fed) s.fed;
      all = λ z. fed ∙ s.all (still z);
      given = ap (λ (xs : List Item). xs ++ closing_items x.closing) given ∙ s.given;
      last = λ sent. let k = s.last sent in (k.0, out sent k.0 ∙ k.1);
      knows = subst (λ (xs : List Item). Knows x.closing (drop (length xs) front)) (sym fed) s.knows;
    }

-- ---- a call

-- where the program is told of no refusal there is none
no_refusal : {R : Type 0} (told : R → Refusal) (o : Option R) → option_map told o ≡ None → o ≡ None
no_refusal told None e = refl
no_refusal told (Some r) e = absurd (cc)

may_call : (a b : Bool) (o : Option Refusal) → (if a || b then Some faults.Closing else o) ≡ None → (a ≡ false) × (b ≡ false) × (o ≡ None)
may_call true b o e = absurd (cc)
may_call false true o e = absurd (cc)
may_call false false o e = (refl, refl, e)

called : Underneath → (side : Side) (h : Story) (call : RawCall) → is_stopped side ≡ false → side_call_fault side call ≡ None → SideHas h side
    → SideHas (record h { made = h.made ++ call ∷ [] }) (side_called side call)
called laws (Calls t) h call free may has =
    going (record h { made = h.made ++ call ∷ [] }) (talk.called t call)
    (laws.makes h.made h.fed h.given h.handed t call (gone h t has free) (no_refusal refused_call (call_refusal t call) may)) has.table
called laws (Answers a) h call free may has = absurd (cc)

-- ---- an answer

may_answer : (a : Bool) (o : Option Refusal) → (if a then Some faults.Closing else o) ≡ None → (a ≡ false) × (o ≡ None)
may_answer true o e = absurd (cc)
may_answer false o e = (refl, e)

record Gives (side : Side) (h m : Story) : Type 0 where
  has : SideHas m side
  fed : m.fed ≡ h.fed
  given : m.given ≡ h.given

given_to : Underneath → (a : Answering) (o : Option ℕ) (h : Story) (kind : Answer) (words : List ℕ) → a.asked ≡ o
    → option_map refused_answer (answer_refusal o kind words) ≡ None → ServerHas h a
    → Gives (Answers (answered_for o a kind words)) h (with_answer o kind words h)
given_to laws a None h kind words is may has = absurd (cc)
given_to laws a (Some k) h kind words is may has =
    let none = no_refusal refused_answer (answer_refusal (Some k) kind words) may in
    let right : answer_refusal a.asked kind words ≡ None = ap (λ (o : Option ℕ). answer_refusal o kind words) is ∙ none in
    record { has = answers laws.gives h a (answering.with_answer_out a (answer_message kind k words)) kind k words is right refl has; fed = refl; given = refl }

given : Underneath → (side : Side) (h : Story) (kind : Answer) (words : List ℕ) → side_answer_fault side kind words ≡ None → SideHas h side
    → Gives (side_answered side kind words) h (with_answer (asked_of side) kind words h)
given laws (Calls t) h kind words may has = absurd (cc)
given laws (Answers a) h kind words may has = given_to laws a a.asked h kind words refl may has

-- ---- a message

taken_from : CallerHands → (t : Talk) (o : Option Message) (h : Story) → t.outcome ≡ o → CallerHas h t
    → Gives (Calls (record t { outcome = None })) h (with_taken o (Calls t) h)
taken_from law t None h is has =
    let same : t ≡ record t { outcome = None } = ap (λ (o : Option Message). record t { outcome = o }) is in
    record { has = subst (λ (u : Talk). CallerHas h u) same has; fed = refl; given = refl }
taken_from law t (Some m) h is has =
    let done = law h.made h.fed h.given h.handed (record t { failed = false; phase = has.phase }) m has.done is in
    record { has = record { phase = has.phase; done = done; going = has.going; table = has.table }; fed = refl; given = refl }

-- the call that is handed waits, and is listed
pub is_listed_call : (programs : List Program) (o : Option Message) (m : Message) → listed_call programs o ≡ Some m
    → (o ≡ Some m) × (why_unlisted programs m ≡ None)
is_listed_call programs None m e = absurd (cc)
is_listed_call programs (Some k) m e = by (why_unlisted programs k) refl e where
  by : (w : Option Unlisted) → why_unlisted programs k ≡ w → (if is_some w then None else Some k) ≡ Some m
      → (Some k ≡ Some m) × (why_unlisted programs m ≡ None)
  by None is f =
      let same : k ≡ m = cc in
      (f, ap (λ (x : Message). why_unlisted programs x) (sym same) ∙ is)
  by (Some w) is f = absurd (cc)

call_from : ServerHands → (a : Answering) (o : Option Message) (h : Story) → listed_call a.programs a.call ≡ o → ServerHas h a
    → Gives (Answers (handed_by o a)) h (with_taken o (Answers a) h)
call_from law a None h is has = record { has = has; fed = refl; given = refl }
call_from law a (Some m) h is has =
    let listed = is_listed_call a.programs a.call m is in
    record { has = hands law h a (after_call a m) m listed.0 listed.1 refl has; fed = refl; given = refl }

taken : CallerHands → ServerHands → (side : Side) (h : Story) → SideHas h side → Gives (side_taken side) h (with_taken (waiting_message side) side h)
taken outcome call (Calls t) h has = taken_from outcome t t.outcome h refl has
taken outcome call (Answers a) h has = call_from call a (listed_call a.programs a.call) h refl has

-- where handing any call leaves something as it was, handing none does too
pub handed_keeps : {X : Type 0} (f : Answering → X) (a : Answering) (o : Option Message) → ((m : Message) → f (after_call a m) ≡ f a) → f (handed_by o a) ≡ f a
handed_keeps f a None same = refl
handed_keeps f a (Some m) same = same m

taken_stops : (side : Side) → is_stopped (side_taken side) ≡ is_stopped side
taken_stops (Calls t) = refl
taken_stops (Answers a) = handed_keeps (λ (b : Answering). b.failed) a (listed_call a.programs a.call) (λ m. refl)

called_stops : (side : Side) (call : RawCall) → is_stopped (side_called side call) ≡ is_stopped side
called_stops (Calls t) call = refl
called_stops (Answers a) call = refl

answered_stops : (side : Side) (kind : Answer) (words : List ℕ) → is_stopped (side_answered side kind words) ≡ is_stopped side
answered_stops (Calls t) kind words = refl
answered_stops (Answers a) kind words = by a.asked where
  by : (o : Option ℕ) → (answered_for o a kind words).failed ≡ a.failed
  by None = refl
  by (Some k) = refl

-- ---- what is out, and who calls

taken_out : (side : Side) → out_of (side_taken side) ≡ out_of side
taken_out (Calls t) = refl
taken_out (Answers a) = handed_keeps (λ (b : Answering). b.out) a (listed_call a.programs a.call) (λ m. refl)

taken_calls : (side : Side) → is_called (side_taken side) ≡ is_called side
taken_calls (Calls t) = refl
taken_calls (Answers a) = refl

called_calls : (side : Side) (call : RawCall) → is_called (side_called side call) ≡ is_called side
called_calls (Calls t) call = refl
called_calls (Answers a) call = refl

answered_calls : (side : Side) (kind : Answer) (words : List ℕ) → is_called (side_answered side kind words) ≡ is_called side
answered_calls (Calls t) kind words = refl
answered_calls (Answers a) kind words = refl

-- no answer is given behind End
answered_out : (side : Side) (c : Closing) (kind : Answer) (words : List ℕ) → drains side c ≡ false → c.end_sent ≡ true
    → out_of (side_answered side kind words) ≡ out_of side
answered_out (Calls t) c kind words free sent = refl
answered_out (Answers a) c kind words free sent =
    let end = (reads_on (Answers a) c free).end in
    let never = ap (λ (b : Bool). b && true) (sym sent) ∙ end in
    absurd (cc)

-- ---- whatever it is

-- a side in the place of another, of which the same is so
same_reads : (side other : Side) (c : Closing) → is_stopped other ≡ is_stopped side → is_called other ≡ is_called side → drains other c ≡ drains side c
same_reads side other c stops calls =
    ap (λ (b : Bool). b || ((c.end_sent && is_called other) || (c.reply_sent || c.deaf))) stops
    ∙ ap (λ (b : Bool). is_stopped side || ((c.end_sent && b) || (c.reply_sent || c.deaf))) calls

-- a deed does not change whether what comes is read
pub done_drains : (deed : Deed) (x : ConversationScene) → drains (done deed x).side (done deed x).closing ≡ drains x.side x.closing
done_drains nothing x = refl
done_drains asked x = refl
done_drains (made call) x = same_reads x.side (side_called x.side call) x.closing (called_stops x.side call) (called_calls x.side call)
done_drains (gave kind words) x =
    same_reads x.side (side_answered x.side kind words) x.closing (answered_stops x.side kind words) (answered_calls x.side kind words)
done_drains took x = same_reads x.side (side_taken x.side) x.closing (taken_stops x.side) (taken_calls x.side)
done_drains (heard bytes) x = refl

pub done_sent : (deed : Deed) (x : ConversationScene) → (done deed x).closing.end_sent ≡ x.closing.end_sent
done_sent asked x = refl
done_sent other x = refl

pub done_wanted : (deed : Deed) (x : ConversationScene) → (done deed x).closing.wanted ≡ wanted_by deed x.closing.wanted
done_wanted asked x = refl
done_wanted other x = refl

answer_state : (o : Option ℕ) (kind : Answer) (words : List ℕ) (h : Story) → (with_answer o kind words h).state ≡ h.state
answer_state None kind words h = refl
answer_state (Some k) kind words h = refl

handed_state : (side : Side) (h : Story) (m : Message) → (with_handed side h m).state ≡ h.state
handed_state (Calls t) h m = refl
handed_state (Answers a) h m = refl

taken_state : (o : Option Message) (side : Side) (h : Story) → (with_taken o side h).state ≡ h.state
taken_state None side h = refl
taken_state (Some m) side h = handed_state side h m

pub told_state : (deed : Deed) (t : Conversation) (h : Story) → (done deed (conversation_scene t h.state)).state ≡ (told_by deed t.side h).state
told_state nothing t h = refl
told_state asked t h = refl
told_state (made call) t h = refl
told_state (gave kind words) t h = sym (answer_state (asked_of t.side) kind words h)
told_state took t h = sym (taken_state (waiting_message t.side) t.side h)
told_state (heard bytes) t h = refl

-- as many items wait to be read, or more
pub done_waits : Underneath → (deed : Deed) (t : Conversation) (s : State) → StandsFor t.endpoint s
    → waiting_count s ≤ waiting_count (done deed (conversation_scene t s)).state
done_waits laws (heard bytes) t s stands =
    let g = (laws.grows.receive s bytes).taken in
    let size : length s.taken + length g.0 ≡ length (after_receive s bytes).taken = sym (length-append s.taken g.0) ∙ ap length g.1 in
    let same = (laws.stays.receive s bytes).handed in
    omega (arith, size, same)
done_waits laws other t s stands = omega arith

pub took_says : CallerHands → ServerHands → (t : Conversation) (h : Story) → Tells t h → Says (done took (conversation_scene t h.state)) (told_by took t.side h)
took_says outcome call t h tells =
    let g = taken outcome call t.side h tells.has in
    says_other (conversation_scene t h.state) h (with_taken (waiting_message t.side) t.side h) (side_taken t.side) (says_of tells) g.has g.fed g.given (λ sent wanted. taken_out t.side)
    (λ z. sym (done_drains took (conversation_scene t h.state)) ∙ z)

pub did : Underneath → (deed : Deed) (t : Conversation) (h : Story) → May t deed → Tells t h → Says (done deed (conversation_scene t h.state)) (told_by deed t.side h)
did laws nothing t h may tells = says_of tells
did laws asked t h may tells = record {
  has = tells.has;
  fed = tells.fed;
  all = tells.all;
  given = tells.given;
  last = λ sent. (refl, (tells.last sent).1);
  knows = record { wanted = tells.knows.wanted; heard = tells.knows.heard };
}
did laws (made call) t h may tells =
    let k = may_call (drains t.side t.closing) t.closing.wanted (side_call_fault t.side call) may in
    says_other (conversation_scene t h.state) h (record h { made = h.made ++ call ∷ [] }) (side_called t.side call) (says_of tells)
    (called laws t.side h call (reads_on t.side t.closing k.0).going k.2 tells.has) refl refl (λ sent wanted. let never = k.1 in absurd (cc)) (λ z. k.0)
did laws (gave kind words) t h may tells =
    let k = may_answer (drains t.side t.closing) (side_answer_fault t.side kind words) may in
    let g = given laws t.side h kind words k.1 tells.has in
    says_other (conversation_scene t h.state) h (with_answer (asked_of t.side) kind words h) (side_answered t.side kind words) (says_of tells) g.has g.fed g.given
    (λ sent wanted. answered_out t.side t.closing kind words k.0 sent) (λ z. k.0)
did laws took t h may tells = took_says laws.hands_up laws.hands_call t h tells
did laws (heard bytes) t h may tells =
    let s : State = h.state in
    let v : State = after_receive s bytes in
    let g = laws.grows.receive s bytes in
    let k = laws.stays.receive s bytes in
    let few = tells.stands.fits.bounds.handed_taken in
    let front : take v.handed v.taken ≡ take s.handed s.taken = ap (λ (n : ℕ). take n v.taken) k.handed ∙ same_front s.handed s.taken v.taken few g.taken in
    record {
      has = has_at v h t.side tells.has;
      fed = subst (λ (xs : List Item). (rest : List Item) × (h.fed ++ rest ≡ xs)) (sym front) tells.fed;
      all = λ z. tells.all z ∙ sym front;
      given = tells.given ∙ sym k.accepted;
      last = tells.last;
      knows = subst (λ (xs : List Item). Knows t.closing (drop (length h.fed) xs)) (sym front) tells.knows;
    }
