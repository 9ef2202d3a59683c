-- What connections have done in the words of the standard, and what two that are peers come to.
use Rattle.std.proofs.Common.{◌≡◌, ◌∙◌, ap, sym, refl, subst, ℕ, zero, suc, ◌+◌, ◌≤◌, List, [], ◌∷◌, ◌++◌, length, length-append, map, Bool, true, false, Option, Some, None, Result, Ok, Err, arith, ◌⊎◌, inl, inr}
use Rattle.std.specs.Prelude.{slice_get, if◌then◌else◌}
use Rattle.std.specs.List.{filter}
use Rattle.std.specs.Option.{option_to_list}
use Rattle.std.proofs.lemmas.List.Elements.{filter-append}
use Rattle.courier_messages.specs.Called.{all_calls}
use Rattle.courier_messages.specs.Conversation.{Phase, opening, fresh, inside, conversation, ending}
use Rattle.courier_messages.specs.Laws.{IsFaultless, OneItemMore, AConversationOnlyGrows, MessageItemsCanBeSent}
use Rattle.courier_messages.specs.Phases.{run, ◌then◌}
use Rattle.courier_messages.specs.RawCalls.{RawCall}
use Rattle.courier_messages.specs.Text.{Sign, foreign, signs}
use Rattle.courier_messages.specs.declared.fault.SessionFault.{SessionFault}
use Rattle.courier_messages.specs.declared.fault.SessionFault.TheVariants.{BadReply}
use Rattle.courier_messages.specs.declared.message.Message.{Message}
use Rattle.courier_sessions.specs.Answering as answering
use Rattle.courier_sessions.specs.Answering.{Answering, is_busy, transaction_in, after_item as after_heard}
use Rattle.courier_sessions.specs.Answerings.{HasAnswered, is_answerable}
use Rattle.courier_sessions.specs.Talk as talk
use Rattle.courier_sessions.specs.Talk.{Talk, after_item}
use Rattle.courier_sessions.specs.Talks.{HasDone, AreAnswers, made_messages, count_if}
use Rattle.courier_sessions.specs.declared.program.Program.{Program}
use Rattle.xns_spp.specs.Fronts.{begins_then, begins_length}
use Rattle.xns_spp.specs.Growth.{Begins}
use Rattle.xns_spp.specs.declared.item.Item.{Item}
use Rattle.xns_connection.specs.Agreeing.{handed_up, HasCalled, HasServed, ArePeers, IsClosing, Agree}
use Rattle.xns_spp.specs.Datastreams.{end_reply_stream, end_stream}
use Rattle.xns_connection.specs.Closing.{drains, closing_items, put_if}
use Rattle.xns_connection.specs.Story.{Story, SideHas, CallerHas, ServerHas, is_stopped}
use Rattle.xns_connection.specs.Telling.{Tells}
use Rattle.xns_connection.specs.declared.conversation.Conversation.{Conversation}
use Rattle.xns_connection.specs.declared.side.Side.TheVariants.{Calls, Answers}
use Rattle.xns_connection.proofs.Leading.{gone, server_gone}
use Rattle.xns_connection.proofs.Readable.{answer_readable, call_readable, caller_reads, server_reads}
use Rattle.xns_connection.proofs.Rejecting.{front_get, count_of}
use Rattle.xns_connection.proofs.Tellings.{reads_on}

-- ---- lists that begin others

pub begins_get : {X : Type 0} (xs ys : List X) (k : ℕ) (x : X) → Begins xs ys → slice_get xs k ≡ Some x → slice_get ys k ≡ Some x
begins_get {X} xs ys k x b h = subst (λ (l : List X). slice_get l k ≡ Some x) b.1 (front_get xs b.0 k x h)

begins_filter : {X : Type 0} (p : X → Bool) (xs ys : List X) → Begins xs ys → Begins (filter p xs) (filter p ys)
begins_filter p xs ys b = (filter p b.0, sym (filter-append p xs b.0) ∙ ap (filter p) b.1)

-- a list that begins another begins its front, or has the first element behind that
front_or_more : {X : Type 0} (xs ys zs : List X) → Begins xs (ys ++ zs) → (Begins xs ys) ⊎ ((z : X) × (more : List X) × (zs ≡ z ∷ more) × Begins (ys ++ z ∷ []) xs)
front_or_more [] ys zs b = inl (ys, refl)
front_or_more (x ∷ xs) [] zs b = inr (x, xs ++ b.0, sym b.1, (xs, refl))
front_or_more {X} (x ∷ xs) (y ∷ ys) zs b =
    let e = b.1 in
    let first : y ≡ x = cc in
    let rest : xs ++ b.0 ≡ ys ++ zs = cc in
    elim (front_or_more xs ys zs (b.0, rest)) [
      | inl q ↦ inl (q.0, let f = q.1 in cc)
      | inr q ↦ inr (q.0, q.1, q.2, (q.3.0, let f = q.3.1 in cc))
    ]

-- ---- what was fed has no closing item

is_closing : (z : Item) (more : List Item) (a b : Bool) → put_if a end_stream ++ put_if b end_reply_stream ≡ z ∷ more → IsClosing z
is_closing z more true b e = inl cc
is_closing z more false true e = inr cc
is_closing z more false false e = absurd (cc)

is_foreign : (z : Item) → IsClosing z → (kind : ℕ) × (signs z ≡ foreign kind ∷ [])
is_foreign z (inl same) = (end_stream, ap signs same)
is_foreign z (inr same) = (end_reply_stream, ap signs same)

stops : (r : Result Phase SessionFault) (kind : ℕ) → IsFaultless (r then λ p. run p (foreign kind ∷ [])) → ⊥
unfolding run
stops (Ok (opening bytes)) kind f = f
stops (Ok fresh) kind f = f
stops (Ok (inside bytes)) kind f = f
stops (Err e) kind f = f

no_closing : OneItemMore → AConversationOnlyGrows → (fed given : List Item) (z : Item) → IsFaultless (ending fed) → Begins (given ++ z ∷ []) fed → IsClosing z → ⊥
no_closing more grows fed given z well b closing =
    let k = is_foreign z closing in
    let front = grows.fault (given ++ z ∷ []) fed b well in
    let here : IsFaultless (ending given then λ p. run p (signs z)) = subst IsFaultless (more.kept given z) front in
    stops (ending given) k.0 (subst (λ (ss : List Sign). IsFaultless (ending given then λ p. run p ss)) k.1 here)

-- what was fed begins what the other side put out, also where closing items were put out behind
pub without_closing : OneItemMore → AConversationOnlyGrows → (d : Conversation) (fed given : List Item) → IsFaultless (ending fed) → Begins fed (given ++ closing_items d.closing) → Begins fed given
without_closing more grows d fed given well b = elim (front_or_more fed given (closing_items d.closing) b) [
  | inl q ↦ q
  | inr q ↦ absurd (no_closing more grows fed given q.0 well q.3 (is_closing q.0 q.1 d.closing.end_sent d.closing.reply_sent q.2))
]

not_empty : {X : Type 0} (ys : List X) (y : X) (rest : List X) → (ys ++ y ∷ []) ++ rest ≡ [] → ⊥
not_empty [] y rest e = cc
not_empty (z ∷ ys) y rest e = cc

-- the last of one that is no longer than a front of it
same_last : {X : Type 0} (xs ys : List X) (x y : X) → Begins (ys ++ y ∷ []) (xs ++ x ∷ []) → length xs ≤ length ys → x ≡ y
same_last [] [] x y b few = let e = b.1 in cc
same_last [] (z ∷ ys) x y b few = let e = b.1 in let rest : (ys ++ y ∷ []) ++ b.0 ≡ [] = cc in absurd (not_empty ys y b.0 rest)
same_last (w ∷ xs) [] x y b few = absurd (omega (arith, few))
same_last (w ∷ xs) (z ∷ ys) x y b few = let e = b.1 in let rest : (ys ++ y ∷ []) ++ b.0 ≡ xs ++ x ∷ [] = cc in same_last xs ys x y (b.0, rest) (omega (arith, few))

-- the next item is of the closing exchange, or one that the other side put out
next_item : OneItemMore → AConversationOnlyGrows → (d : Conversation) (fed given : List Item) (x : Item) → IsFaultless (ending fed) → Begins (fed ++ x ∷ []) (given ++ closing_items d.closing) → IsClosing x ⊎ Begins (fed ++ x ∷ []) given
next_item more grows d fed given x well b = elim (front_or_more (fed ++ x ∷ []) given (closing_items d.closing) b) [
  | inl q ↦ inr q
  | inr q ↦
      let closing = is_closing q.0 q.1 d.closing.end_sent d.closing.reply_sent q.2 in
      elim (front_or_more (given ++ q.0 ∷ []) fed (x ∷ []) q.3) [
        | inl p ↦ absurd (no_closing more grows fed given q.0 well p closing)
        | inr p ↦
            let size = begins_length (fed ++ p.0 ∷ []) (given ++ q.0 ∷ []) p.3 in
            let one = length-append fed (p.0 ∷ []) in
            let other = length-append given (q.0 ∷ []) in
            let same : x ≡ q.0 = same_last fed given x q.0 q.3 (omega (arith, size, one, other)) in
            inl (subst IsClosing (sym same) closing)
      ]
]

caller_well : (h : Story) (t : Talk) → CallerHas h t → IsFaultless (ending h.fed)
caller_well h t has = subst IsFaultless (sym has.done.ending) tt

server_well : (h : Story) (a : Answering) → ServerHas h a → IsFaultless (ending h.fed)
server_well h a has = by (all_calls (conversation h.fed)) (ending h.fed) has.done.ending where
  by : (b : Bool) (r : Result Phase SessionFault) → (if b then r else Err BadReply) ≡ Ok has.phase → IsFaultless r
  by true r e = subst IsFaultless (sym e) tt
  by false r e = absurd (cc)

-- ---- one connection

answers_front : (k : ℕ) (xs ys : List Message) → AreAnswers k (xs ++ ys) → AreAnswers k xs
unfolding AreAnswers
answers_front k [] ys a = tt
answers_front k (x ∷ xs) ys a = (a.0, answers_front (k + 1) xs ys a.1)

-- a call waits, or its answer, or neither
at_most_one : (waits : Bool) (o : Option Message) (made handed heard : ℕ) → heard ≡ handed + length (option_to_list o) → made ≡ heard + count_if waits → (waits ≡ true → o ≡ None) → (handed ≤ made) × (made ≤ handed + 1)
at_most_one true None made handed heard e f one = (omega (arith, e, f), omega (arith, e, f))
at_most_one true (Some m) made handed heard e f one = let z = one refl in absurd (cc)
at_most_one false None made handed heard e f one = (omega (arith, e, f), omega (arith, e, f))
at_most_one false (Some m) made handed heard e f one = (omega (arith, e, f), omega (arith, e, f))

pub called : AConversationOnlyGrows → (c : Conversation) (h : Story) (t : Talk) → Tells c h → c.side ≡ Calls t → HasCalled c.closing h
called grows c h t tells is =
    let has : CallerHas h t = subst (SideHas h) is tells.has in
    let done = has.done in
    let size : length (conversation h.fed) ≡ length h.handed + length (option_to_list t.outcome) = sym (ap length done.messages) ∙ length-append h.handed (option_to_list t.outcome) in
    let counts = at_most_one t.waiting t.outcome (length h.made) (length h.handed) (length (conversation h.fed)) size done.count done.single in
    record {
      accepted = tells.given;
      given = (t.out, done.items);
      handed = begins_then h.handed (conversation h.fed) (conversation (handed_up h)) (option_to_list t.outcome, done.messages) (grows.messages h.fed (handed_up h) tells.fed);
      answers = answers_front 1 h.handed (option_to_list t.outcome) (subst (AreAnswers 1) (sym done.messages) done.answers);
      few = counts.0;
      most = counts.1;
    }

pub one_at_most : (o : Option ℕ) → length (option_to_list o) ≤ 1
one_at_most None = omega arith
one_at_most (Some k) = omega arith

pub served : AConversationOnlyGrows → (c : Conversation) (h : Story) (a : Answering) → Tells c h → c.side ≡ Answers a → HasServed a.programs c.closing h
served grows c h a tells is =
    let has : ServerHas h a = subst (SideHas h) is tells.has in
    let done = has.done in
    let size = count_of done in
    let one = one_at_most a.asked in
    record {
      accepted = tells.given;
      given = (a.out, done.items);
      taken = begins_then h.taken (conversation h.fed) (conversation (handed_up h)) (option_to_list a.call, done.calls) (grows.messages h.fed (handed_up h) tells.fed);
      handed = done.listed;
      answers = (option_to_list a.asked, sym done.numbers);
      most = omega (arith, size, one);
      rejected = has.rejected;
    }

-- ---- two of them

abbrev pub CallsAgree : Type 0
CallsAgree = (made : List RawCall) (back given : List Item) (got : List Message) (t : Talk) (programs : List Program) (fed sent : List Item) (taken handed answers : List Message) (a : Answering) → HasDone made back given got t → HasAnswered programs fed sent taken handed answers a → Begins fed given → Begins (taken ++ option_to_list a.call) (made_messages 1 made)

abbrev pub AnswersAgree : Type 0
AnswersAgree = (made : List RawCall) (back given : List Item) (got : List Message) (t : Talk) (programs : List Program) (fed sent : List Item) (taken handed answers : List Message) (a : Answering) → HasDone made back given got t → HasAnswered programs fed sent taken handed answers a → Begins back sent → Begins (got ++ option_to_list t.outcome) answers

-- an element of a list that a map makes of one that begins the other's has its fellow there
fellow : (xs ys : List Message) (k : ℕ) (x : Message) → Begins (map transaction_in xs) (map transaction_in ys) → slice_get xs k ≡ Some x → (y : Message) × (slice_get ys k ≡ Some y) × (transaction_in x ≡ transaction_in y)
fellow [] ys k x b e = absurd (cc)
fellow (z ∷ xs) [] k x b e = absurd (let f = b.1 in cc)
fellow (z ∷ xs) (y ∷ ys) zero x b e = let f = b.1 in (y, refl, let is : z ≡ x = cc in sym (ap transaction_in is) ∙ (let g : transaction_in z ≡ transaction_in y = cc in g))
fellow (z ∷ xs) (y ∷ ys) (suc k) x b e = let f = b.1 in fellow xs ys k x (b.0, let g : map transaction_in xs ++ b.0 ≡ map transaction_in ys = cc in g) e

pub agree : OneItemMore → AConversationOnlyGrows → CallsAgree → AnswersAgree → (c d : Conversation) (h g : Story) (t : Talk) (a : Answering) → Tells c h → Tells d g → c.side ≡ Calls t → d.side ≡ Answers a → ArePeers h g → Agree a.programs h g
agree more grows of_calls of_answers c d h g t a here there calls answers peers =
    let has : CallerHas h t = subst (SideHas h) calls here.has in
    let serves : ServerHas g a = subst (SideHas g) answers there.has in
    let back : Begins h.fed g.given = without_closing more grows d h.fed g.given (caller_well h t has) (subst (λ (l : List Item). Begins h.fed l) (sym there.given) (begins_then h.fed (handed_up h) g.state.accepted here.fed peers.here)) in
    let forth : Begins g.fed h.given = without_closing more grows c g.fed h.given (server_well g a serves) (subst (λ (l : List Item). Begins g.fed l) (sym here.given) (begins_then g.fed (handed_up g) h.state.accepted there.fed peers.there)) in
    let made = of_calls h.made h.fed h.given h.handed (record t { failed = false; phase = has.phase }) a.programs g.fed g.given g.taken g.handed g.answers (record a { failed = false; phase = serves.phase }) has.done serves.done forth in
    let got = of_answers h.made h.fed h.given h.handed (record t { failed = false; phase = has.phase }) a.programs g.fed g.given g.taken g.handed g.answers (record a { failed = false; phase = serves.phase }) has.done serves.done back in
    let taken : Begins g.taken (made_messages 1 h.made) = begins_then g.taken (g.taken ++ option_to_list a.call) (made_messages 1 h.made) (option_to_list a.call, refl) made in
    let handed : Begins h.handed g.answers = begins_then h.handed (h.handed ++ option_to_list t.outcome) g.answers (option_to_list t.outcome, refl) got in
    record {
      calls = taken;
      handed = subst (λ (l : List Message). Begins l (filter (is_answerable a.programs) (made_messages 1 h.made))) (sym serves.done.listed) (begins_filter (is_answerable a.programs) g.taken (made_messages 1 h.made) taken);
      answers = handed;
      each = λ k m is.
          let put = begins_get h.handed g.answers k m handed is in
          let f = fellow g.answers g.taken k m (option_to_list a.asked, sym serves.done.numbers) put in
          record { call = f.0; made = begins_get g.taken (made_messages 1 h.made) k f.0 taken f.1; taken = f.1; answered = put; number = f.2 };
    }

-- ---- the next item

abbrev pub CallerGoes : Type 0
CallerGoes = (made : List RawCall) (back given : List Item) (got : List Message) (t : Talk) (programs : List Program) (fed sent : List Item) (taken handed answers : List Message) (a : Answering) (x : Item) → HasDone made back given got t → HasAnswered programs fed sent taken handed answers a → Begins fed given
    → Begins (back ++ x ∷ []) sent → (n : Talk) × (after_item t x ≡ Ok n)

abbrev pub ServerGoes : Type 0
ServerGoes = (made : List RawCall) (back given : List Item) (got : List Message) (t : Talk) (programs : List Program) (fed sent : List Item) (taken handed answers : List Message) (a : Answering) (x : Item) → HasDone made back given got t → HasAnswered programs fed sent taken handed answers a
    → Begins (fed ++ x ∷ []) given → (n : Answering) × (after_heard a x ≡ Ok n)

pub caller_goes : OneItemMore → AConversationOnlyGrows → MessageItemsCanBeSent → CallerGoes → (c d : Conversation) (h g : Story) (t : Talk) (a : Answering) (x : Item) → Tells c h → Tells d g → c.side ≡ Calls t → d.side ≡ Answers a → ArePeers h g → drains c.side c.closing ≡ false → Begins (handed_up h ++ x ∷ []) g.state.accepted
    → IsClosing x ⊎ ((n : Talk) × (talk.fed t x ≡ Ok n))
caller_goes more grows sendable goes c d h g t a x here there calls answers peers reads next =
    let has : CallerHas h t = subst (SideHas h) calls here.has in
    let serves : ServerHas g a = subst (SideHas g) answers there.has in
    let free : t.failed ≡ false = ap is_stopped (sym calls) ∙ (reads_on c.side c.closing reads).going in
    let forth : Begins g.fed h.given = without_closing more grows c g.fed h.given (server_well g a serves) (subst (λ (l : List Item). Begins g.fed l) (sym here.given) (begins_then g.fed (handed_up g) h.state.accepted there.fed peers.there)) in
    let back : Begins (h.fed ++ x ∷ []) (g.given ++ closing_items d.closing) = subst (λ (l : List Item). Begins (l ++ x ∷ []) (g.given ++ closing_items d.closing)) (sym (here.all reads)) (subst (λ (l : List Item). Begins (handed_up h ++ x ∷ []) l) (sym there.given) next) in
    elim (next_item more grows d h.fed g.given x (caller_well h t has) back) [
      | inl closing ↦ inl closing
      | inr more_back ↦
          let n = goes h.made h.fed h.given h.handed t a.programs g.fed g.given g.taken g.handed g.answers (record a { failed = false; phase = serves.phase }) x (gone h t has free) serves.done forth more_back in
          inr (n.0, caller_reads t n.0 x (answer_readable sendable h.fed g.given a.out g.answers x serves.done.good serves.done.items more_back) free n.1)
    ]

pub server_goes : OneItemMore → AConversationOnlyGrows → MessageItemsCanBeSent → ServerGoes → (c d : Conversation) (h g : Story) (t : Talk) (a : Answering) (x : Item) → Tells c h → Tells d g → c.side ≡ Calls t → d.side ≡ Answers a → drains d.side d.closing ≡ false → is_busy a ≡ false → Begins (handed_up g ++ x ∷ []) h.state.accepted
    → IsClosing x ⊎ ((n : Answering) × (answering.fed a x ≡ Ok n))
server_goes more grows sendable goes c d h g t a x here there calls answers reads idle next =
    let has : CallerHas h t = subst (SideHas h) calls here.has in
    let serves : ServerHas g a = subst (SideHas g) answers there.has in
    let free : a.failed ≡ false = ap is_stopped (sym answers) ∙ (reads_on d.side d.closing reads).going in
    let forth : Begins (g.fed ++ x ∷ []) (h.given ++ closing_items c.closing) = subst (λ (l : List Item). Begins (l ++ x ∷ []) (h.given ++ closing_items c.closing)) (sym (there.all reads)) (subst (λ (l : List Item). Begins (handed_up g ++ x ∷ []) l) (sym here.given) next) in
    elim (next_item more grows c g.fed h.given x (server_well g a serves) forth) [
      | inl closing ↦ inl closing
      | inr more_forth ↦
          let n = goes h.made h.fed h.given h.handed (record t { failed = false; phase = has.phase }) a.programs g.fed g.given g.taken g.handed g.answers a x has.done (server_gone g a serves free) more_forth in
          inr (n.0, server_reads a n.0 x (call_readable sendable g.fed h.given t.out h.made x has.done.short has.done.items more_forth) free idle n.1)
    ]
