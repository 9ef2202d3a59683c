-- A connection has a story at every moment, and what two programs come to whose connections are peers.
use Rattle.std.proofs.Common.{◌≡◌, ◌∙◌, ap, sym, refl, subst, ℕ, ◌+◌, ◌≤◌, List, [], ◌∷◌, ◌++◌, length, length-append, Option, Some, None, arith}
use Rattle.std.specs.Prelude.{slice_get}
use Rattle.std.specs.List.{filter}
use Rattle.std.specs.Option.{option_to_list}
use Rattle.std.proofs.lemmas.List.Elements.{filter-append}
use Rattle.courier_messages.specs.Laws.{OneItemMore, AConversationOnlyGrows}
use Rattle.courier_messages.specs.RawCalls.{RawCall}
use Rattle.courier_messages.specs.declared.message.Message.{Message}
use Rattle.courier_sessions.specs.Answering.{Answering, transaction_in, reject_message, answer_message}
use Rattle.courier_sessions.specs.Answerings.{is_answerable}
use Rattle.courier_sessions.specs.Talk.{Talk}
use Rattle.courier_sessions.specs.Talks.{made_messages}
use Rattle.courier_sessions.specs.declared.program.Program.{Program}
use Rattle.xns_spp.specs.Fronts.{begins_length}
use Rattle.xns_spp.specs.Growth.{Begins}
use Rattle.xns_spp.specs.Receiving.{after_receive}
use Rattle.xns_spp.specs.State.{State}
use Rattle.xns_connection.specs.Acting.{Acts, idling, calling, handing, answering, IsTold}
use Rattle.xns_connection.specs.Agreeing.{ArePeers, Agree}
use Rattle.xns_connection.specs.Living.{Deeds, no_deeds, Lives, opens, goes, hears, calls, takes, gives, Reaches, stays, runs, receives, IsLived, ProgramsAgree, to_listed}
use Rattle.xns_connection.specs.Story.{Story, SideHas, ServerHas, AreRejected, ProgramDoesNothing, new_story, asked_of, waiting_message, with_handed}
use Rattle.xns_connection.specs.Telling.{Tells}
use Rattle.xns_connection.specs.declared.conversation.Conversation.{Conversation}
use Rattle.xns_connection.specs.declared.side.Side.{Side}
use Rattle.xns_connection.specs.declared.side.Side.TheVariants.{Calls, Answers}
use Rattle.xns_connection.proofs.Doing.{is_listed_call}
use Rattle.xns_connection.proofs.Peers.{CallsAgree, AnswersAgree, agree, one_at_most}
use Rattle.xns_connection.proofs.Listing.{is_listed_where, no_calls, filter_takes, unanswered_behind, more_answers, one_given, nothing_given}
use Rattle.xns_connection.proofs.Rejecting.{count_of, all_answered}

-- ---- which side it is

pub record IsServer (programs : List Program) (h : Story) (side : Side) : Type 0 where
  pub server : Answering
  pub is : side ≡ Answers server
  pub has : ServerHas h server
  pub table : server.programs ≡ programs

server_of : (programs : List Program) (h : Story) (side : Side) → SideHas h side → h.programs ≡ Some programs → IsServer programs h side
server_of programs h (Calls t) has is = let none = has.table in absurd (cc)
server_of programs h (Answers a) has is = let some = has.table in record { server = a; is = refl; has = has; table = cc }

caller_of : (h : Story) (side : Side) → SideHas h side → h.programs ≡ None → (t : Talk) × (side ≡ Calls t)
caller_of h (Calls t) has is = (t, refl)
caller_of h (Answers a) has is = let some = has.table in absurd (cc)

-- ---- from where it goes on

-- the calls that were handed are the listed ones, and all that were taken are answered but maybe the last
record Fits (programs : List Program) (h : Story) : Type 0 where
  pub handed : h.handed ≡ filter (is_answerable programs) h.taken
  pub few : length h.answers ≤ length h.taken
  pub most : length h.taken ≤ length h.answers + 1

fits : (programs : List Program) (h : Story) (side : Side) → IsServer programs h side → Fits programs h
fits programs h side s =
    let count = count_of s.has.done in
    let one = one_at_most s.server.asked in
    record {
      handed = s.has.done.listed ∙ ap (λ (ps : List Program). filter (is_answerable ps) h.taken) s.table;
      few = omega (arith, count);
      most = omega (arith, count, one);
    }

-- the program did all that, and nothing has moved since
record IsBase (programs : Option (List Program)) (start : State) (l : Deeds) (h : Story) : Type 0 where
  pub path : Reaches start h.state
  pub table : h.programs ≡ programs
  pub made : h.made ≡ l.made
  pub handed : h.handed ≡ l.handed
  pub gave : (ps : List Program) → programs ≡ Some ps → Fits ps h × (l.gave ≡ to_listed ps h.taken h.answers)

step : (programs : List Program) (d : Conversation) (h m : Story) → Fits programs h → ProgramDoesNothing h m → Tells d m → m.programs ≡ Some programs → to_listed programs m.taken m.answers ≡ to_listed programs h.taken h.answers
step programs d h m fit on tells is =
    let s = server_of programs m d.side tells.has is in
    let after = fits programs m d.side s in
    let same : filter (is_answerable programs) m.taken ≡ filter (is_answerable programs) h.taken = sym after.handed ∙ on.handed ∙ fit.handed in
    let rejected : AreRejected programs m.taken m.answers = subst (λ (ps : List Program). AreRejected ps m.taken m.answers) s.table s.has.rejected in
    let cs = on.taken.0 in
    let rs = on.answers.0 in
    let is_taken : h.taken ++ cs ≡ m.taken = on.taken.1 in
    let is_answers : h.answers ++ rs ≡ m.answers = on.answers.1 in
    let e : to_listed programs (h.taken ++ cs) (h.answers ++ rs) ≡ to_listed programs h.taken h.answers = nothing_given programs h.taken cs h.answers rs (ap (filter (is_answerable programs)) is_taken ∙ same)
    (ap (λ (l : List Message). length l + length h.answers) is_taken ∙ on.even ∙ ap (λ (l : List Message). length h.taken + length l) (sym is_answers)) fit.few fit.most
    (subst (λ (l : List Message). AreRejected programs l (h.answers ++ rs)) (sym is_taken) (subst (λ (l : List Message). AreRejected programs m.taken l) (sym is_answers) rejected)) in
    ap (λ (l : List Message). to_listed programs l m.answers) (sym is_taken) ∙ ap (to_listed programs (h.taken ++ cs)) (sym is_answers) ∙ e

lives_on : {programs : Option (List Program)} {d : Conversation} {start : State} {l : Deeds} {h : Story} → IsBase programs start l h → (m : Story) × Tells d m × ProgramDoesNothing h m → IsLived programs start d l
lives_on {d = d} {h = h} base x = record {
  story = x.0;
  tells = x.1;
  path = runs base.path x.2.path;
  table = x.2.programs ∙ base.table;
  made = x.2.made ∙ base.made;
  handed = x.2.handed ∙ base.handed;
  gave = λ ps e. let g = base.gave ps e in g.1 ∙ sym (step ps d h x.0 g.0 x.2 x.1 (x.2.programs ∙ base.table ∙ e));
}

-- ---- one step

fits_now : {programs : Option (List Program)} {start : State} {c : Conversation} {l : Deeds} → (p : IsLived programs start c l) → (ps : List Program) → programs ≡ Some ps → Fits ps p.story
fits_now {c = c} p ps e = fits ps p.story c.side (server_of ps p.story c.side p.tells.has (p.table ∙ e))

same_base : {programs : Option (List Program)} {start : State} {c : Conversation} {l : Deeds} → (p : IsLived programs start c l) → IsBase programs start l p.story
same_base p = record { path = p.path; table = p.table; made = p.made; handed = p.handed; gave = λ ps e. (fits_now p ps e, p.gave ps e) }

heard_base : {programs : Option (List Program)} {start : State} {l : Deeds} {h : Story} (bytes : List ℕ) → IsBase programs start l h → IsBase programs start l (record h { state = after_receive h.state bytes })
heard_base bytes b = record {
  path = receives b.path bytes;
  table = b.table;
  made = b.made;
  handed = b.handed;
  gave = λ ps e. let g = b.gave ps e in (record { handed = g.0.handed; few = g.0.few; most = g.0.most }, g.1);
}

called_base : {programs : Option (List Program)} {start : State} {l : Deeds} {h : Story} (call : RawCall) → IsBase programs start l h → IsBase programs start (record l { made = l.made ++ call ∷ [] }) (record h { made = h.made ++ call ∷ [] })
called_base call b = record {
  path = b.path;
  table = b.table;
  made = ap (λ (cs : List RawCall). cs ++ call ∷ []) b.made;
  handed = b.handed;
  gave = λ ps e. let g = b.gave ps e in (record { handed = g.0.handed; few = g.0.few; most = g.0.most }, g.1);
}

taken_base : {programs : Option (List Program)} {start : State} {l : Deeds} {h : Story} (side : Side) (m : Message) → SideHas h side → waiting_message side ≡ Some m → IsBase programs start l h → IsBase programs start (record l { handed = l.handed ++ m ∷ [] }) (with_handed side h m)
taken_base (Calls t) m has is b = record {
  path = b.path;
  table = b.table;
  made = b.made;
  handed = ap (λ (ms : List Message). ms ++ m ∷ []) b.handed;
  gave = λ ps e. let none = has.table in let some = b.table ∙ e in absurd (cc);
}
taken_base {h = h} (Answers a) m has is b =
    let w = is_listed_call a.programs a.call m is in
    let even = all_answered m has.done w.0 in
    let one = length-append h.taken (m ∷ []) in
    let added : filter (is_answerable a.programs) (h.taken ++ m ∷ []) ≡ filter (is_answerable a.programs) h.taken ++ m ∷ [] =
    filter-append (is_answerable a.programs) h.taken (m ∷ []) ∙ ap (λ (ms : List Message). filter (is_answerable a.programs) h.taken ++ ms) (filter_takes a.programs m [] (is_listed_where a.programs m w.1)) in
    let fit : Fits a.programs (with_handed (Answers a) h m) = record {
      handed = ap (λ (ms : List Message). ms ++ m ∷ []) has.done.listed ∙ sym added;
      few = omega (arith, even, one);
      most = omega (arith, even, one);
    } in
    record {
      path = b.path;
      table = b.table;
      made = b.made;
      handed = ap (λ (ms : List Message). ms ++ m ∷ []) b.handed;
      gave = λ ps e.
          let g = b.gave ps e in
          let same : a.programs ≡ ps = (let some = has.table in let other = b.table ∙ e in cc) in
          (subst (λ (qs : List Program). Fits qs (with_handed (Answers a) h m)) same fit, g.1 ∙ sym (unanswered_behind ps h.taken (m ∷ []) h.answers g.0.few));
    }

gave_base : {programs : Option (List Program)} {start : State} {l : Deeds} {h : Story} (side : Side) (k : ℕ) (m : Message) → SideHas h side → asked_of side ≡ Some k → IsBase programs start l h
    → IsBase programs start (record l { gave = l.gave ++ m ∷ [] }) (record h { answers = h.answers ++ m ∷ [] })
gave_base (Calls t) k m has asked b = absurd (cc)
gave_base {h = h} (Answers a) k m has asked b =
    let count = count_of has.done ∙ ap (λ (o : Option ℕ). length h.answers + length (option_to_list o)) asked in
    let one = length-append h.answers (m ∷ []) in
    record {
      path = b.path;
      table = b.table;
      made = b.made;
      handed = b.handed;
      gave = λ ps e.
          let g = b.gave ps e in
          let same : a.programs ≡ ps = (let some = has.table in let other = b.table ∙ e in cc) in
          let rejected = subst (λ (qs : List Program). AreRejected qs h.taken h.answers) same has.rejected in
          let waits : length h.taken ≡ length h.answers + 1 = omega (arith, count) in (
            record { handed = g.0.handed; few = omega (arith, count, one); most = omega (arith, count, one) },
            ap (λ (ms : List Message). ms ++ m ∷ []) g.1 ∙ sym (one_given ps h.taken h.answers m waits rejected),
          );
    }

-- ---- at every moment

pub lived : (programs : Option (List Program)) (s : State) {c : Conversation} {l : Deeds} → Lives programs s c l → IsLived programs s c l
lived programs s (opens tells) = record { story = new_story programs s; tells = tells; path = stays; table = refl; made = refl; handed = refl; gave = λ ps e. sym (no_calls ps []) }
lived programs s (goes before step) =
    let p = lived programs s before in
    lives_on (same_base p) (step.on p.story p.tells)
lived programs s (hears before bytes step) =
    let p = lived programs s before in
    lives_on (heard_base bytes (same_base p)) (step.on p.story p.tells)
lived programs s (calls before call step) =
    let p = lived programs s before in
    lives_on (called_base call (same_base p)) (step p.story p.tells)
lived programs s (takes {c = c} before m is step) =
    let p = lived programs s before in
    lives_on (taken_base c.side m p.tells.has is (same_base p)) (step p.story p.tells)
lived programs s (gives {c = c} before kind k words asked step) =
    let p = lived programs s before in
    lives_on (gave_base c.side k (answer_message kind k words) p.tells.has asked (same_base p)) (step p.story p.tells)

-- ---- one story, step after step

pub told_at_first : (programs : Option (List Program)) (s : State) (c : Conversation) → Tells c (new_story programs s) → IsTold programs s c no_deeds (new_story programs s)
unfolding lived
told_at_first programs s c tells = (lived programs s (opens tells), refl)

base_of : {programs : Option (List Program)} {start : State} {c : Conversation} {l r : Deeds} {b : Story} → (p : IsLived programs start c l) → Acts c p.story l b r → IsBase programs start r b
base_of p idling = same_base p
base_of p (calling call) = called_base call (same_base p)
base_of {c = c} p (handing m is) = taken_base c.side m p.tells.has is (same_base p)
base_of {c = c} p (answering kind k words asked) = gave_base c.side k (answer_message kind k words) p.tells.has asked (same_base p)

pub acts_on : (programs : Option (List Program)) (start : State) (c d : Conversation) (l r : Deeds) (h b m : Story) → IsTold programs start c l h → Acts c h l b r → Tells d m → ProgramDoesNothing b m → IsTold programs start d r m
unfolding lives_on
acts_on programs start c d l r h b m told act tells on =
    (lives_on (base_of told.0 (subst (λ (x : Story). Acts c x l b r) (sym told.1) act)) (m, tells, on), refl)

pub hears_on : (programs : Option (List Program)) (start : State) (c d : Conversation) (l : Deeds) (h m : Story) (bytes : List ℕ) → IsTold programs start c l h → Tells d m → ProgramDoesNothing (record h { state = after_receive h.state bytes }) m → IsTold programs start d l m
unfolding lives_on
hears_on programs start c d l h m bytes told tells on =
    let base = subst (λ (x : Story). IsBase programs start l (record x { state = after_receive x.state bytes })) told.1 (heard_base bytes (same_base told.0)) in
    (lives_on base (m, tells, on), refl)

-- ---- two programs

pub programs_agree : OneItemMore → AConversationOnlyGrows → CallsAgree → AnswersAgree → (s v : State) (c d : Conversation) (l r : Deeds) (programs : List Program) (here : IsLived None s c l) (there : IsLived (Some programs) v d r) → ArePeers here.story there.story → ProgramsAgree programs l r
programs_agree more grows of_calls of_answers s v c d l r programs here there peers =
    let h = here.story in
    let g = there.story in
    let t = caller_of h c.side here.tells.has here.table in
    let called = server_of programs g d.side there.tells.has there.table in
    let both : Agree programs h g = subst (λ (ps : List Program). Agree ps h g) called.table (agree more grows of_calls of_answers c d h g t.0 called.server here.tells there.tells t.1 called.is peers) in
    let fit = fits programs g d.side called in
    let all_made : List Message = made_messages 1 h.made in
    let same : all_made ≡ made_messages 1 l.made = ap (made_messages 1) here.made in
    let few = begins_length h.handed g.answers both.answers in
    let enough = fit.few in
    let front : to_listed programs all_made h.handed ≡ to_listed programs g.taken h.handed =
    ap (λ (cs : List Message). to_listed programs cs h.handed) (sym both.calls.1) ∙ unanswered_behind programs g.taken both.calls.0 h.handed (omega (arith, few, enough)) in
    let some : Begins (to_listed programs g.taken h.handed) (to_listed programs g.taken g.answers) =
    subst (λ (ms : List Message). Begins (to_listed programs g.taken h.handed) (to_listed programs g.taken ms)) both.answers.1 (more_answers programs g.taken h.handed both.answers.0) in
    let answers : Begins (to_listed programs all_made h.handed) r.gave =
    subst (λ (ms : List Message). Begins ms r.gave) (sym front) (subst (Begins (to_listed programs g.taken h.handed)) (sym (there.gave programs refl)) some) in
    record {
      calls = subst (λ (ms : List Message). Begins ms (filter (is_answerable programs) (made_messages 1 l.made))) there.handed (subst (λ (ms : List Message). Begins g.handed (filter (is_answerable programs) ms)) same both.handed);
      answers = subst (λ (ms : List Message). Begins (to_listed programs (made_messages 1 l.made) ms) r.gave) here.handed (subst (λ (ms : List Message). Begins (to_listed programs ms h.handed) r.gave) same answers);
      rejects = λ k call u m at why got.
          let is = both.each k m (ap (λ (ms : List Message). slice_get ms k) here.handed ∙ got) in
          let made : Some is.call ≡ Some call = sym is.made ∙ ap (λ (ms : List Message). slice_get ms k) same ∙ at in
          let rejected : slice_get g.answers k ≡ Some (reject_message (transaction_in call) u) = subst (λ (ps : List Program). AreRejected ps g.taken g.answers) called.table called.has.rejected k call u (is.taken ∙ made) why in
          let both_are : Some m ≡ Some (reject_message (transaction_in call) u) = sym is.answered ∙ rejected in
          cc;
    }
