-- What the steps of a pump do to the history of a side and its end.
use Rattle.std.proofs.Common.{◌≡◌, ◌∙◌, ap, sym, refl, subst, ◌+◌, List, [], ◌∷◌, ◌++◌, append-nil, take, length, Bool, true, false}
use Rattle.std.proofs.Common.{Option, Some, None, Result, Ok, Err, arith}
use Rattle.std.specs.Prelude.{nat_lt, if◌then◌else◌}
use Rattle.courier_messages.specs.declared.fault.SessionFault.{SessionFault}
use Rattle.courier_messages.specs.declared.fault.SessionFault.TheVariants as faults
use Rattle.courier_messages.specs.declared.fault.SessionFault.TheVariants.{NoCommonVersion, BadVersions, BadMessage, WrongTransaction, BadReply, Stream, Failed}
use Rattle.courier_messages.specs.declared.message.Message.{Message}
use Rattle.courier_messages.specs.Conversation.{Phase}
use Rattle.courier_messages.specs.RawCalls.{RawCall}
use Rattle.courier_messages.specs.Phases.{run, said, ◌then◌}
use Rattle.courier_messages.specs.Refusal.{Stops}
use Rattle.courier_messages.specs.Text.{signs}
use Rattle.xns_spp.specs.Fronts.{begins_then}
use Rattle.xns_spp.specs.Laws.{TheNextItemIsHandedUp}
use Rattle.xns_spp.specs.Sending.{send_fault, accepting, after_send, take_answer, after_take}
use Rattle.xns_spp.specs.State.{State}
use Rattle.xns_spp.specs.declared.item.Item.{Item}
use Rattle.xns_spp.specs.declared.send_fault.SendFault.{SendFault}
use Rattle.courier_sessions.specs.Answering as answering
use Rattle.courier_sessions.specs.Answering.{Answering, is_busy, transaction_in, why_unlisted, reject_message, after_reject}
use Rattle.courier_sessions.specs.Answerings.{HasAnswered}
use Rattle.courier_sessions.specs.Feeding.{feed_result, most_item}
use Rattle.courier_sessions.specs.Pumping.{Side as PumpSide, sending, feeding, feeds, moving, caller_side, server_side, Leads, here, on, RefusesNext, Settles}
use Rattle.courier_sessions.specs.Talk as talk
use Rattle.courier_sessions.specs.Talk.{Talk}
use Rattle.courier_sessions.specs.Talks.{HasDone}
use Rattle.courier_sessions.specs.declared.feed_refusal.FeedRefusal.{FeedRefusal}
use Rattle.courier_sessions.specs.declared.feed_refusal.FeedRefusal.TheVariants.{Stopped, Busy, TooLong, Attention, Fault, NoMemory}
use Rattle.courier_sessions.specs.declared.program.Program.{Program}
use Rattle.courier_sessions.specs.declared.unlisted.Unlisted.{Unlisted}
use Rattle.xns_connection.specs.Story.{Story, CallerHas, ServerHas, AreRejected, Runs, start, sends, takes, flushes, resends, tells, ProgramDoesNothing}
use Rattle.xns_connection.specs.Telling.{Goes}
use Rattle.xns_connection.specs.declared.conversation.Conversation.{Conversation}

-- ---- an end's own steps

unfoldable pub runs_on : {s t u : State} → Runs s t → Runs t u → Runs s u
runs_on p start = p
runs_on p (sends q x) = sends (runs_on p q) x
runs_on p (takes q) = takes (runs_on p q)
runs_on p (flushes q) = flushes (runs_on p q)
runs_on p (resends q) = resends (runs_on p q)
runs_on p (tells q asks) = tells (runs_on p q) asks

sent_runs : {S : Type 0} {s : State} (t : S) (v : State) (x : Item) (o : Option SendFault) (z : S × State) → Runs s v → sending o t (after_send v x) ≡ Some (Ok z) → Runs s z.1
sent_runs {S} {s} t v x None z p e =
    let same : (t, after_send v x) ≡ z = cc in
    subst (λ (y : S × State). Runs s y.1) same (sends p x)
sent_runs t v x (Some f) z p e = absurd (cc)

fed_runs : {S : Type 0} {s : State} (v : State) (r : Result S FeedRefusal) (z : S × State) → Runs s v → feeding r (after_take v) ≡ Some (Ok z) → Runs s z.1
fed_runs {S} {s} v (Ok n) z p e =
    let same : (n, after_take v) ≡ z = cc in
    subst (λ (y : S × State). Runs s y.1) same (takes p)
fed_runs v (Err Stopped) z p e = absurd (cc)
fed_runs v (Err Busy) z p e = absurd (cc)
fed_runs v (Err TooLong) z p e = absurd (cc)
fed_runs v (Err Attention) z p e = absurd (cc)
fed_runs v (Err (Fault f)) z p e = absurd (cc)
fed_runs v (Err NoMemory) z p e = absurd (cc)

next_runs : {S : Type 0} {s : State} (side : PumpSide S) (t : S) (v : State) (o : Option Item) (z : S × State) → Runs s v → feeds side t v o ≡ Some (Ok z) → Runs s z.1
next_runs side t v None z p e = absurd (cc)
next_runs side t v (Some x) z p e = fed_runs v (side.fed t x) z p e

step_runs : {S : Type 0} {s : State} (side : PumpSide S) (t : S) (v : State) (now : List Item) (z : S × State) → Runs s v → moving side t v now ≡ Some (Ok z) → Runs s z.1
step_runs side t v [] z p e = next_runs side t v (take_answer v) z p e
step_runs side t v (x ∷ xs) z p e = sent_runs (side.with_out t xs) v x (send_fault v x) z p e

pub leads_run : {S : Type 0} (side : PumpSide S) {x y : S × State} → Leads side x y → Runs x.1 y.1
leads_run side here = start
leads_run side (on {y = y} {z = z} l e) = step_runs side y.0 y.1 (side.out y.0) z (leads_run side l) e

-- ---- laws of the layers below

abbrev pub CallerGives : Type 0
CallerGives = (made : List RawCall) (fed given : List Item) (handed : List Message) (t : Talk) (x : Item) (xs : List Item) → HasDone made fed given handed t → t.out ≡ x ∷ xs → HasDone made fed (given ++ x ∷ []) handed (record t { out = xs })

abbrev pub CallerFeeds : Type 0
CallerFeeds = (made : List RawCall) (fed given : List Item) (handed : List Message) (t n : Talk) (x : Item) → HasDone made fed given handed t → talk.after_item t x ≡ Ok n → HasDone made (fed ++ x ∷ []) given handed n

abbrev pub ServerGives : Type 0
ServerGives = (programs : List Program) (fed given : List Item) (taken handed answers : List Message) (a : Answering) (x : Item) (xs : List Item) → HasAnswered programs fed given taken handed answers a → a.out ≡ x ∷ xs → HasAnswered programs fed (given ++ x ∷ []) taken handed answers (record a { out = xs })

abbrev pub ServerFeeds : Type 0
ServerFeeds = (programs : List Program) (fed given : List Item) (taken handed answers : List Message) (a n : Answering) (x : Item) → HasAnswered programs fed given taken handed answers a → is_busy a ≡ false → answering.after_item a x ≡ Ok n → HasAnswered programs (fed ++ x ∷ []) given taken handed answers n

-- ---- the side that calls

abbrev pub CallerOver : List RawCall → List Message → Talk × State → Type 0
CallerOver made handed y = HasDone made (take y.1.handed y.1.taken) y.1.accepted handed y.0

module _ (next : TheNextItemIsHandedUp) (gives : CallerGives) (feeds_one : CallerFeeds) (made : List RawCall) (handed : List Message) where
  caller_sends : (t : Talk) (s : State) (x : Item) (xs : List Item) (o : Option SendFault) (z : Talk × State) → t.out ≡ x ∷ xs → CallerOver made handed (t, s)
      → sending o (record t { out = xs }) (accepting o s x) ≡ Some (Ok z) → CallerOver made handed z
  caller_sends t s x xs None z is h e =
      let same : (record t { out = xs }, record s { accepted = s.accepted ++ x ∷ [] }) ≡ z = cc in
      subst (λ (y : Talk × State). CallerOver made handed y) same (gives made (take s.handed s.taken) s.accepted handed t x xs h is)
  caller_sends t s x xs (Some f) z is h e = absurd (cc)

  caller_hears : (t : Talk) (s : State) (x : Item) (r : Result Talk SessionFault) (z : Talk × State) → take_answer s ≡ Some x → talk.after_item t x ≡ r → CallerOver made handed (t, s)
      → feeding (feed_result r) (after_take s) ≡ Some (Ok z) → CallerOver made handed z
  caller_hears t s x (Ok n) z is after h e =
      let same : (n, after_take s) ≡ z = cc in
      let fed = feeds_one made (take s.handed s.taken) s.accepted handed t n x h after in
      let fed_more : HasDone made (take (s.handed + 1) s.taken) s.accepted handed n = subst (λ (xs : List Item). HasDone made xs s.accepted handed n) (sym (next.more s x is)) fed in
      let there : CallerOver made handed (n, after_take s) = subst (λ (v : State). HasDone made (take v.handed v.taken) v.accepted handed n) (sym (next.some s x is)) fed_more in
      subst (λ (y : Talk × State). CallerOver made handed y) same there
  caller_hears t s x (Err f) z is after h e = absurd (cc)

  caller_goes : (t : Talk) (s : State) (x : Item) (stopped calls long : Bool) (z : Talk × State) → take_answer s ≡ Some x → CallerOver made handed (t, s)
      → feeding (if stopped then Err Stopped else if calls then Err Attention else if long then Err TooLong else feed_result (talk.after_item t x)) (after_take s) ≡ Some (Ok z) → CallerOver made handed z
  caller_goes t s x true calls long z is h e = absurd (cc)
  caller_goes t s x false true long z is h e = absurd (cc)
  caller_goes t s x false false true z is h e = absurd (cc)
  caller_goes t s x false false false z is h e = caller_hears t s x (talk.after_item t x) z is refl h e

  caller_fed : (t : Talk) (s : State) (o : Option Item) (z : Talk × State) → take_answer s ≡ o → CallerOver made handed (t, s)
      → feeds caller_side t s o ≡ Some (Ok z) → CallerOver made handed z
  caller_fed t s None z is h e = absurd (cc)
  caller_fed t s (Some x) z is h e = caller_goes t s x t.failed x.attention (nat_lt most_item (length x.body)) z is h e

  caller_moves : (t : Talk) (s : State) (now : List Item) (z : Talk × State) → t.out ≡ now → CallerOver made handed (t, s) → moving caller_side t s now ≡ Some (Ok z) → CallerOver made handed z
  caller_moves t s [] z is h e = caller_fed t s (take_answer s) z refl h e
  caller_moves t s (x ∷ xs) z is h e = caller_sends t s x xs (send_fault s x) z is h e

  pub caller_leads : {x y : Talk × State} → Leads caller_side x y → CallerOver made handed x → CallerOver made handed y
  caller_leads here h = h
  caller_leads (on {y = y} {z = z} l e) h = caller_moves y.0 y.1 y.0.out z refl (caller_leads l h) e

-- ---- the side that calls, where nothing of it is out

-- a side that calls put out all that it was given and no more, and its end accepted these items
pub record CallerDone (made : List RawCall) (handed : List Message) (given accepted : List Item) (y : Talk × State) : Type 0 where
  pub done : HasDone made (take y.1.handed y.1.taken) given handed y.0
  pub out : y.0.out ≡ []
  pub has : y.1.accepted ≡ accepted

-- what is out stays
same_out : (t n : Talk) (o : Option SessionFault) (m : Message) → talk.answered_unless o t m ≡ Ok n → n.out ≡ t.out
same_out t n None m e =
    let same : record t { waiting = false; outcome = Some m } ≡ n = cc in
    sym (ap (λ (u : Talk). u.out) same)
same_out t n (Some f) m e = absurd (cc)

said_out : (t n : Talk) (ms : List Message) → talk.with_ended_messages t ms ≡ Ok n → n.out ≡ t.out
said_out t n [] e =
    let same : t ≡ n = cc in
    sym (ap (λ (u : Talk). u.out) same)
said_out t n (m ∷ ms) e = same_out t n (talk.reply_fault t.waiting t.transaction m) m e

item_out : (t n : Talk) (x : Item) → talk.after_item t x ≡ Ok n → n.out ≡ t.out
item_out t n x e = by (run t.phase (signs x)) e where
  by : (r : Result Phase SessionFault)
      → (r then λ p. talk.with_ended_messages (record t { phase = p }) (said t.phase (signs x))) ≡ Ok n → n.out ≡ t.out
  by (Ok p) is = said_out (record t { phase = p }) n (said t.phase (signs x)) is
  by (Err f) is = absurd (cc)

module _ (next : TheNextItemIsHandedUp) (feeds_one : CallerFeeds) (made : List RawCall) (handed : List Message) (given accepted : List Item) where
  quiet_hears : (t : Talk) (s : State) (x : Item) (r : Result Talk SessionFault) (z : Talk × State) → take_answer s ≡ Some x → talk.after_item t x ≡ r
      → CallerDone made handed given accepted (t, s) → feeding (feed_result r) (after_take s) ≡ Some (Ok z) → CallerDone made handed given accepted z
  quiet_hears t s x (Ok n) z is after h e =
      let same : (n, after_take s) ≡ z = cc in
      let more = next.some s x is in
      let fed = feeds_one made (take s.handed s.taken) given handed t n x h.done after in
      let fed_more : HasDone made (take (s.handed + 1) s.taken) given handed n = subst (λ (xs : List Item). HasDone made xs given handed n) (sym (next.more s x is)) fed in
      let there : CallerDone made handed given accepted (n, after_take s) = record {
        done = subst (λ (v : State). HasDone made (take v.handed v.taken) given handed n) (sym more) fed_more;
        out = item_out t n x after ∙ h.out;
        has = ap (λ (v : State). v.accepted) more ∙ h.has;
      } in
      subst (λ (y : Talk × State). CallerDone made handed given accepted y) same there
  quiet_hears t s x (Err f) z is after h e = absurd (cc)

  quiet_goes : (t : Talk) (s : State) (x : Item) (stopped calls long : Bool) (z : Talk × State) → take_answer s ≡ Some x → CallerDone made handed given accepted (t, s)
      → feeding (if stopped then Err Stopped else if calls then Err Attention else if long then Err TooLong else feed_result (talk.after_item t x)) (after_take s) ≡ Some (Ok z)
      → CallerDone made handed given accepted z
  quiet_goes t s x true calls long z is h e = absurd (cc)
  quiet_goes t s x false true long z is h e = absurd (cc)
  quiet_goes t s x false false true z is h e = absurd (cc)
  quiet_goes t s x false false false z is h e = quiet_hears t s x (talk.after_item t x) z is refl h e

  quiet_fed : (t : Talk) (s : State) (o : Option Item) (z : Talk × State) → take_answer s ≡ o → CallerDone made handed given accepted (t, s)
      → feeds caller_side t s o ≡ Some (Ok z) → CallerDone made handed given accepted z
  quiet_fed t s None z is h e = absurd (cc)
  quiet_fed t s (Some x) z is h e = quiet_goes t s x t.failed x.attention (nat_lt most_item (length x.body)) z is h e

  quiet_moves : (t : Talk) (s : State) (now : List Item) (z : Talk × State) → t.out ≡ now → CallerDone made handed given accepted (t, s)
      → moving caller_side t s now ≡ Some (Ok z) → CallerDone made handed given accepted z
  quiet_moves t s [] z is h e = quiet_fed t s (take_answer s) z refl h e
  quiet_moves t s (x ∷ xs) z is h e = let none = h.out in absurd (cc)

  pub quiet_leads : {x y : Talk × State} → Leads caller_side x y → CallerDone made handed given accepted x → CallerDone made handed given accepted y
  quiet_leads here h = h
  quiet_leads (on {y = y} {z = z} l e) h = quiet_moves y.0 y.1 y.0.out z refl (quiet_leads l h) e

-- ---- the side that is called

abbrev pub ServerOver : List Program → List Message → List Message → List Message → Answering × State → Type 0
ServerOver programs taken handed answers y = HasAnswered programs (take y.1.handed y.1.taken) y.1.accepted taken handed answers y.0

module _ (next : TheNextItemIsHandedUp) (gives : ServerGives) (feeds_one : ServerFeeds) (programs : List Program) (taken handed answers : List Message) where
  server_sends : (a : Answering) (s : State) (x : Item) (xs : List Item) (o : Option SendFault) (z : Answering × State) → a.out ≡ x ∷ xs → ServerOver programs taken handed answers (a, s)
      → sending o (record a { out = xs }) (accepting o s x) ≡ Some (Ok z) → ServerOver programs taken handed answers z
  server_sends a s x xs None z is h e =
      let same : (record a { out = xs }, record s { accepted = s.accepted ++ x ∷ [] }) ≡ z = cc in
      subst (λ (y : Answering × State). ServerOver programs taken handed answers y) same (gives programs (take s.handed s.taken) s.accepted taken handed answers a x xs h is)
  server_sends a s x xs (Some f) z is h e = absurd (cc)

  server_hears : (a : Answering) (s : State) (x : Item) (r : Result Answering SessionFault) (z : Answering × State) → take_answer s ≡ Some x → answering.after_item a x ≡ r → is_busy a ≡ false → ServerOver programs taken handed answers (a, s)
      → feeding (feed_result r) (after_take s) ≡ Some (Ok z) → ServerOver programs taken handed answers z
  server_hears a s x (Ok n) z is after free h e =
      let same : (n, after_take s) ≡ z = cc in
      let fed = feeds_one programs (take s.handed s.taken) s.accepted taken handed answers a n x h free after in
      let fed_more : HasAnswered programs (take (s.handed + 1) s.taken) s.accepted taken handed answers n = subst (λ (xs : List Item). HasAnswered programs xs s.accepted taken handed answers n) (sym (next.more s x is)) fed in
      let there : ServerOver programs taken handed answers (n, after_take s) = subst (λ (v : State). HasAnswered programs (take v.handed v.taken) v.accepted taken handed answers n) (sym (next.some s x is)) fed_more in
      subst (λ (y : Answering × State). ServerOver programs taken handed answers y) same there
  server_hears a s x (Err f) z is after free h e = absurd (cc)

  server_goes : (a : Answering) (s : State) (x : Item) (stopped busy calls long : Bool) (z : Answering × State) → take_answer s ≡ Some x → is_busy a ≡ busy → ServerOver programs taken handed answers (a, s)
      → feeding (if stopped then Err Stopped else if busy then Err Busy else if calls then Err Attention else if long then Err TooLong else feed_result (answering.after_item a x)) (after_take s) ≡ Some (Ok z) → ServerOver programs taken handed answers z
  server_goes a s x true busy calls long z is free h e = absurd (cc)
  server_goes a s x false true calls long z is free h e = absurd (cc)
  server_goes a s x false false true long z is free h e = absurd (cc)
  server_goes a s x false false false true z is free h e = absurd (cc)
  server_goes a s x false false false false z is free h e = server_hears a s x (answering.after_item a x) z is refl free h e

  server_fed : (a : Answering) (s : State) (o : Option Item) (z : Answering × State) → take_answer s ≡ o → ServerOver programs taken handed answers (a, s)
      → feeds server_side a s o ≡ Some (Ok z) → ServerOver programs taken handed answers z
  server_fed a s None z is h e = absurd (cc)
  server_fed a s (Some x) z is h e = server_goes a s x a.failed (is_busy a) x.attention (nat_lt most_item (length x.body)) z is refl h e

  server_moves : (a : Answering) (s : State) (now : List Item) (z : Answering × State) → a.out ≡ now → ServerOver programs taken handed answers (a, s) → moving server_side a s now ≡ Some (Ok z) → ServerOver programs taken handed answers z
  server_moves a s [] z is h e = server_fed a s (take_answer s) z refl h e
  server_moves a s (x ∷ xs) z is h e = server_sends a s x xs (send_fault s x) z is h e

  pub server_leads : {x y : Answering × State} → Leads server_side x y → ServerOver programs taken handed answers x → ServerOver programs taken handed answers y
  server_leads here h = h
  server_leads (on {y = y} {z = z} l e) h = server_moves y.0 y.1 y.0.out z refl (server_leads l h) e

-- ---- a pump: the side is the last one, or it has stopped

pub stopped_by : (P Q : Type 0) (f : SessionFault) → Stops f ⊥ Q → (Q → P) → P
stopped_by P Q NoCommonVersion s k = k s
stopped_by P Q BadVersions s k = k s
stopped_by P Q (BadMessage m) s k = k s
stopped_by P Q WrongTransaction s k = k s
stopped_by P Q BadReply s k = k s
stopped_by P Q (Stream kind) s k = k s
stopped_by P Q faults.NoMemory s k = absurd s
stopped_by P Q Failed s k = absurd s

refused_at : {S : Type 0} (P : Type 0) (side : PumpSide S) (t : S) (o : Option Item) (e : FeedRefusal) (n : S) → RefusesNext side t o e n → (n ≡ t → P) → (side.stops t n → P) → P
refused_at P side t None e n r same stop = absurd r
refused_at P side t (Some x) Busy n r same stop = absurd r
refused_at P side t (Some x) NoMemory n r same stop = same r.0
refused_at P side t (Some x) Stopped n r same stop = same r.0
refused_at P side t (Some x) TooLong n r same stop = same r.0
refused_at P side t (Some x) Attention n r same stop = stop r.0
refused_at P side t (Some x) (Fault f) n r same stop = stopped_by P (side.stops t n × (side.fed t x ≡ Err (Fault f))) f r (λ z. stop z.0)

pub ends_at : {S : Type 0} (P : Type 0) (side : PumpSide S) (last : S × State) (r : Result (Unit {0}) FeedRefusal) (n : S) → Settles side last r n → (n ≡ last.0 → P) → (side.stops last.0 n → P) → P
ends_at P side last (Ok u) n s same stop = same s.0
ends_at P side last (Err e) n s same stop = refused_at P side last.0 (take_answer last.1) e n s.1 same stop

-- ---- what goes on

-- only the end's own steps were made
unfoldable pub same_messages : (h m : Story) → Runs h.state m.state → m.programs ≡ h.programs → m.made ≡ h.made → m.handed ≡ h.handed → m.taken ≡ h.taken → m.answers ≡ h.answers → ProgramDoesNothing h m
same_messages h m path programs made handed taken answers = record {
  programs = programs;
  path = path;
  made = made;
  handed = handed;
  taken = ([], append-nil h.taken ∙ sym taken);
  answers = ([], append-nil h.answers ∙ sym answers);
  even = ap (λ (l : List Message). length l + length h.answers) taken ∙ ap (λ (l : List Message). length h.taken + length l) (sym answers);
}

unfoldable pub goes_on : (h m n : Story) → ProgramDoesNothing h m → ProgramDoesNothing m n → ProgramDoesNothing h n
goes_on h m n p q = record {
  programs = q.programs ∙ p.programs;
  path = runs_on p.path q.path;
  made = q.made ∙ p.made;
  handed = q.handed ∙ p.handed;
  taken = begins_then h.taken m.taken n.taken p.taken q.taken;
  answers = begins_then h.answers m.answers n.answers p.answers q.answers;
  even = let a = p.even in let b = q.even in omega (arith, a, b);
}

pub stays : (h : Story) → ProgramDoesNothing h h
stays h = same_messages h h start refl refl refl refl refl

-- ---- the side that calls

goes : (t : Talk) → t.failed ≡ false → record t { failed = false; phase = t.phase } ≡ t
goes t e = ap (λ (b : Bool). record t { failed = b }) (sym e)

pub going : (h : Story) (t : Talk) → HasDone h.made h.fed h.given h.handed t → h.programs ≡ None → CallerHas h t
going h t d table = record { phase = t.phase; done = subst (λ (u : Talk). HasDone h.made h.fed h.given h.handed u) (sym (goes t d.going)) d; going = λ z. refl; table = table }

pub gone : (h : Story) (t : Talk) → CallerHas h t → t.failed ≡ false → HasDone h.made h.fed h.given h.handed t
gone h t c e =
    let same : record t { failed = false; phase = c.phase } ≡ t = ap (λ (p : Phase). record t { failed = false; phase = p }) (sym (c.going e)) ∙ goes t e in
    subst (λ (u : Talk). HasDone h.made h.fed h.given h.handed u) same c.done

pub stopped_at : (h : Story) (t n : Talk) → HasDone h.made h.fed h.given h.handed t → talk.IsStopped t n → h.programs ≡ None → CallerHas h n
stopped_at h t n d is table =
    let same : t ≡ record n { failed = false; phase = t.phase } = sym (goes t d.going) ∙ ap (λ (u : Talk). record u { failed = false; phase = t.phase }) (sym is) in
    let fails : n.failed ≡ true = ap (λ (u : Talk). u.failed) is in
    record { phase = t.phase; done = subst (λ (u : Talk). HasDone h.made h.fed h.given h.handed u) same d; going = λ z. absurd (cc); table = table }

-- ---- the side that is called

server_is : (a : Answering) → a.failed ≡ false → record a { failed = false; phase = a.phase } ≡ a
server_is a e = ap (λ (b : Bool). record a { failed = b }) (sym e)

pub server_going : (h : Story) (programs : List Program) (a : Answering) → HasAnswered programs h.fed h.given h.taken h.handed h.answers a → h.programs ≡ Some programs → AreRejected programs h.taken h.answers → ServerHas h a
server_going h programs a d table rejected =
    record {
      phase = a.phase;
      done = subst (λ (u : Answering). HasAnswered a.programs h.fed h.given h.taken h.handed h.answers u) (sym (server_is a d.going)) (subst (λ (ps : List Program). HasAnswered ps h.fed h.given h.taken h.handed h.answers a) (sym d.table) d);
      going = λ z. refl;
      table = subst (λ (ps : List Program). h.programs ≡ Some ps) (sym d.table) table;
      rejected = subst (λ (ps : List Program). AreRejected ps h.taken h.answers) (sym d.table) rejected;
    }

pub server_gone : (h : Story) (a : Answering) → ServerHas h a → a.failed ≡ false → HasAnswered a.programs h.fed h.given h.taken h.handed h.answers a
server_gone h a c e =
    let same : record a { failed = false; phase = c.phase } ≡ a = ap (λ (p : Phase). record a { failed = false; phase = p }) (sym (c.going e)) ∙ server_is a e in
    subst (λ (u : Answering). HasAnswered a.programs h.fed h.given h.taken h.handed h.answers u) same c.done

pub server_stopped_at : (h : Story) (programs : List Program) (a n : Answering) → HasAnswered programs h.fed h.given h.taken h.handed h.answers a → answering.IsStopped a n → h.programs ≡ Some programs → AreRejected programs h.taken h.answers → ServerHas h n
server_stopped_at h programs a n d is listed rejected =
    let same : a ≡ record n { failed = false; phase = a.phase } = sym (server_is a d.going) ∙ ap (λ (u : Answering). record u { failed = false; phase = a.phase }) (sym is) in
    let fails : n.failed ≡ true = ap (λ (u : Answering). u.failed) is in
    let table : programs ≡ n.programs = sym d.table ∙ sym (ap (λ (u : Answering). u.programs) is) in
    record {
      phase = a.phase;
      done = subst (λ (ps : List Program). HasAnswered ps h.fed h.given h.taken h.handed h.answers (record n { failed = false; phase = a.phase })) table (subst (λ (u : Answering). HasAnswered programs h.fed h.given h.taken h.handed h.answers u) same d);
      going = λ z. absurd (cc);
      table = subst (λ (ps : List Program). h.programs ≡ Some ps) table listed;
      rejected = subst (λ (ps : List Program). AreRejected ps h.taken h.answers) table rejected;
    }

-- ---- a reject

abbrev pub ServerRejects : Type 0
ServerRejects = (programs : List Program) (fed given : List Item) (taken handed answers : List Message) (a : Answering) (m : Message) (u : Unlisted) → HasAnswered programs fed given taken handed answers a → a.call ≡ Some m → why_unlisted a.programs m ≡ Some u
    → HasAnswered programs fed given (taken ++ m ∷ []) handed (answers ++ reject_message (transaction_in m) u ∷ []) (after_reject a m u)

-- ---- moves, one after the other

pub goes_not : (t : Conversation) → Goes t t
goes_not t = record { still = λ z. z; wanted = λ z. z; on = λ h f. (h, f, stays h) }

pub goes_then : {s t u : Conversation} → Goes s t → Goes t u → Goes s u
goes_then p q = record { still = λ z. p.still (q.still z); wanted = λ z. q.wanted (p.wanted z); on = λ h f. let x = p.on h f in let y = q.on x.0 x.1 in (y.0, y.1, goes_on h x.0 y.0 x.2 y.2) }

-- ---- up to where an item is refused

-- want of memory leaves the side as it was
pub short_at : {S : Type 0} (side : PumpSide S) (t : S) (o : Option Item) (e : FeedRefusal) (n : S) → RefusesNext side t o e n → e ≡ NoMemory → n ≡ t
short_at side t None e n r short = absurd r
short_at side t (Some x) Busy n r short = absurd r
short_at side t (Some x) NoMemory n r short = r.0
short_at side t (Some x) Stopped n r short = r.0
short_at side t (Some x) TooLong n r short = r.0
short_at side t (Some x) Attention n r short = absurd (cc)
short_at side t (Some x) (Fault f) n r short = absurd (cc)
