-- What a server's end stands for after each step, and what it sent after each packet.
use Rattle.std.proofs.Common.{◌≡◌, ℕ, zero, suc, ◌+◌, Bool, true, false, List, [], ◌∷◌, ◌++◌, length, map, take, Option, Some, None, Result, Ok, Err, refl, sym, ◌∙◌, ap, subst, arith}
use Rattle.std.specs.Prelude.{slice_get, nat_lt, if◌then◌else◌, All}
use Rattle.std.specs.Option.{option_to_list}
use Rattle.std.proofs.lemmas.List.{length-take-le}
use Rattle.courier_messages.specs.RawCalls.{RawCall}
use Rattle.courier_calls.specs.Calls.{raw_call, Serving, last_state}
use Rattle.courier_calls.specs.declared.call.Call.{Call}
use Rattle.xns_spp.specs.Held.{Held, StandsFor}
use Rattle.xns_spp.specs.Sending.{is_full, waiting_count, after_send, take_answer, after_take, flush_answer, after_flush}
use Rattle.xns_spp.specs.State.{State, IsState}
use Rattle.xns_spp.specs.declared.item.Item.{Item}
use Rattle.xns_world.proofs.CallCarries.{not_refused, at_place}
use Rattle.item_world.specs.declared.side.Side.TheVariants.{B}
use Rattle.xns_world.specs.CallLaws.{ServerLaws}
use Rattle.xns_world.specs.CallPlay.{IsServing}
use Rattle.xns_world.specs.CallWorld.{Parties, CallWorld, or_caller, step}
use Rattle.xns_world.specs.Settling.{Stepped, handed_up_by, end_step_with, serve_step, onward, most_steps, after_steps, stepped_out}
use Rattle.item_world.specs.EndLaws.{EndLaws}
use Rattle.std.proofs.lemmas.List.Elements.{All-nil, All-push}
use Rattle.courier_messages.specs.Conversation.{Phase, conversation, conversation_fault, ending}
use Rattle.courier_calls.specs.Laws.{FirstFaultStays}
use Rattle.courier_messages.specs.Laws.{IsSendableItem}
use Rattle.courier_calls.specs.Server as server
use Rattle.courier_calls.specs.Server.{decided_calls, server_items, ServerFeeds, call_of}
use Rattle.courier_messages.specs.declared.fault.SessionFault.{SessionFault}
use Rattle.courier_messages.specs.declared.fault.SessionFault.TheVariants.{NoCommonVersion, BadVersions, BadMessage, WrongTransaction, BadReply, Stream, NoMemory, Failed}
use Rattle.courier_messages.specs.Called.{server_ending, calls_of, all_calls}
use Rattle.xns_spp.specs.Item.{IsItem}
use Rattle.xns_world.specs.Serve.{first_fault, fault_of_ending, Served, settles_from, serve_receives, IsServeTrace, IsOfConversation}
use Rattle.xns_world.specs.ServeEnd.{next_item_out, server_history, IsHearing, IsServed, fault_noted, IsServePlaying, HasBoundedEnd}
use Rattle.xns_world.specs.declared.serving.ServingEnd.{ServingEnd}
use Rattle.std.specs.declared.alloc.Global.{Global}
use Rattle.std.specs.declared.vec.Vec.{Vec}
use Rattle.xns_spp.specs.Receiving.{receive_answer, after_receive}
use Rattle.xns_world.specs.declared.serve.ServePlay.{ServePlay}
use Rattle.xns_world.specs.declared.serve_trace.ServeTrace.{ServeTrace}
use Rattle.item_world.specs.Laws.{NetworkLaws}
use Rattle.xns_world.proofs.CallingEnds.{out_first, waits}

-- ---- an end that accepts and hands up nothing

pub served_on : {S : Type 0} (serving : Serving S) (s : S) (e : ServingEnd S) (v u : State) (endpoint : Held) → IsServed serving s e v → StandsFor endpoint u → u.accepted ≡ v.accepted → handed_up_by u ≡ handed_up_by v
    → IsServed serving s (record e { endpoint = endpoint }) u
served_on {S = S} serving s e v u endpoint h stands accepted handed =
    let f : ServingEnd S = record e { endpoint = endpoint } in
    let kept : IsHearing serving s f (handed_up_by v) v.accepted = record { session = h.hearing.session; carried = h.hearing.carried; fault = h.hearing.fault } in
    record {
      stands = stands;
      hearing = subst (λ (l : List Item). IsHearing serving s f l u.accepted) (sym handed) (subst (λ (l : List Item). IsHearing serving s f (handed_up_by v) l) (sym accepted) kept);
      listed = h.listed ∙ sym handed;
      items = subst (All IsItem) (sym handed) h.items;
    }

-- ---- a new end

none_decided : decided_calls [] ≡ []
unfolding conversation calls_of
none_decided = refl

none_wrong : first_fault [] ≡ None
unfolding conversation conversation_fault ending all_calls
none_wrong = refl

pub served_first : {S : Type 0} (serving : Serving S) (s : S) (e : ServingEnd S) (v : State) → StandsFor e.endpoint v → server.ServerStandsFor serving e.server (server.empty_server_history s) → e.carried.items ≡ [] → e.fault ≡ None → e.handed ≡ []
    → handed_up_by v ≡ [] → v.accepted ≡ [] → IsServed serving s e v
served_first serving s e v stands session carried fault listed handed accepted =
    let first : IsHearing serving s e [] [] = record { session = session; carried = carried ∙ sym (ap (map call_of) none_decided); fault = fault ∙ sym none_wrong } in
    record {
      stands = stands;
      hearing = subst (λ (l : List Item). IsHearing serving s e l v.accepted) (sym handed) (subst (λ (l : List Item). IsHearing serving s e [] l) (sym accepted) first);
      listed = listed ∙ sym handed;
      items = subst (All IsItem) (sym handed) (All-nil IsItem);
    }

pub served_of : {S : Type 0} (serving t : Serving S) (service s : S) (e : ServingEnd S) (v : State) → t ≡ serving → s ≡ service → IsServed serving service e v → IsServed t s e v
served_of {S = S} serving t service s e v is same h = subst (λ (u : Serving S). IsServed u s e v) (sym is) (subst (λ (u : S). IsServed serving u e v) (sym same) h)

-- ---- an item is sent

pub serving_next : {S : Type 0} (serving : Serving S) (s : S) (e : ServingEnd S) (v : State) → IsServed serving s e v → next_item_out serving s v ≡ slice_get e.server.out 0
serving_next serving s e v h =
    ap (λ (l : List Item). slice_get l (length v.accepted)) (sym h.hearing.session.items)
    ∙ out_first v.accepted e.server.out

pub serving_sends : {S : Type 0} (serving : Serving S) (s : S) (e : ServingEnd S) (v : State) (x : Item) (endpoint : Held) (new : server.ServerState S) → ServerLaws serving s → IsServed serving s e v → next_item_out serving s v ≡ Some x → is_full v ≡ false
    → StandsFor endpoint (after_send v x) → server.ServerStandsFor serving new (server_history s (handed_up_by v) (v.accepted ++ x ∷ [])) → IsServed serving s (record e { endpoint = endpoint; server = new }) (after_send v x)
serving_sends {S = S} serving s e v x endpoint new a h is full stands session =
    let piece : IsSendableItem x = at_place (server_items serving s (handed_up_by v)) (length v.accepted) x is (a.pieces.server (handed_up_by v) h.items) in
    let one = a.ends.accepts.accepted v x (not_refused a.ends v x piece full) in
    let f : ServingEnd S = record e { endpoint = endpoint; server = new } in
    let here : IsServed serving s f (record v { accepted = v.accepted ++ x ∷ [] }) = record {
      stands = subst (λ (u : State). StandsFor endpoint u) one stands;
      hearing = record { session = session; carried = h.hearing.carried; fault = h.hearing.fault };
      listed = h.listed;
      items = h.items;
    } in
    subst (λ (u : State). IsServed serving s f u) (sym one) here

-- ---- an item is fed

-- where no fault came, none was there
fault_none : (F : List Item) (x : Item) (p : Phase) (r : Result Phase SessionFault) → FirstFaultStays → server_ending F ≡ r → server_ending (F ++ x ∷ []) ≡ Ok p → fault_of_ending r ≡ first_fault (F ++ x ∷ [])
fault_none F x p (Ok q) f was is = sym (ap fault_of_ending is)
fault_none F x p (Err e) f was is = absurd (let stays = f.stays F x e was in cc)

pub hears_well : {S : Type 0} (serving : Serving S) (s : S) (e f : ServingEnd S) (F P : List Item) (x : Item) (o : Option Call) → FirstFaultStays → IsHearing serving s e F P → ServerFeeds serving f.server (server_history s F P) x (Ok o)
    → map call_of (decided_calls (F ++ x ∷ [])) ≡ map call_of (decided_calls F) ++ option_to_list o → f.carried.items ≡ e.carried.items ++ option_to_list o → f.fault ≡ e.fault → IsHearing serving s f (F ++ x ∷ []) P
hears_well serving s e f F P x o faults h fed more carried fault = record {
  session = fed.0;
  carried = carried ∙ (ap (λ (l : List Call). l ++ option_to_list o) h.carried ∙ sym more);
  fault = fault ∙ (h.fault ∙ fault_none F x fed.2.0 (server_ending F) faults refl fed.2.1);
}

record Refused {S : Type 0} (serving : Serving S) (s : S) (f : ServingEnd S) (F P : List Item) (x : Item) (e : SessionFault) : Type 0 where
  session : server.ServerStandsFor serving f.server (server_history s (F ++ x ∷ []) P)
  ends : server_ending (F ++ x ∷ []) ≡ Err e
  fault : f.fault ≡ Some e

refused : {S : Type 0} (serving : Serving S) (s : S) (e f : ServingEnd S) (F P : List Item) (x : Item) (fault : SessionFault) → FirstFaultStays → IsHearing serving s e F P → f.carried.items ≡ e.carried.items → Refused serving s f F P x fault
    → IsHearing serving s f (F ++ x ∷ []) P
refused serving s e f F P x fault faults h carried r = record {
  session = r.session;
  carried = carried ∙ (h.carried ∙ ap (map call_of) (sym (faults.calls F x fault r.ends)));
  fault = r.fault ∙ sym (ap fault_of_ending r.ends);
}

pub hears_badly : {S : Type 0} (serving : Serving S) (s : S) (e f : ServingEnd S) (F P : List Item) (x : Item) (fault : SessionFault) → FirstFaultStays → IsHearing serving s e F P → ServerFeeds serving f.server (server_history s F P) x (Err fault)
    → f.carried.items ≡ e.carried.items → fault_noted fault e.fault f.fault → IsHearing serving s f (F ++ x ∷ []) P
hears_badly serving s e f F P x NoMemory faults h fed carried n = absurd n
hears_badly serving s e f F P x Failed faults h fed carried n =
    refused serving s e f F P x fed.1.0 faults h carried (record { session = fed.0; ends = faults.stays F x fed.1.0 fed.1.1; fault = n ∙ (h.fault ∙ ap fault_of_ending fed.1.1) })
hears_badly serving s e f F P x NoCommonVersion faults h fed carried n = refused serving s e f F P x NoCommonVersion faults h carried (record { session = fed.0; ends = fed.1; fault = n })
hears_badly serving s e f F P x BadVersions faults h fed carried n = refused serving s e f F P x BadVersions faults h carried (record { session = fed.0; ends = fed.1; fault = n })
hears_badly serving s e f F P x (BadMessage m) faults h fed carried n = refused serving s e f F P x (BadMessage m) faults h carried (record { session = fed.0; ends = fed.1; fault = n })
hears_badly serving s e f F P x WrongTransaction faults h fed carried n = refused serving s e f F P x WrongTransaction faults h carried (record { session = fed.0; ends = fed.1; fault = n })
hears_badly serving s e f F P x BadReply faults h fed carried n = refused serving s e f F P x BadReply faults h carried (record { session = fed.0; ends = fed.1; fault = n })
hears_badly serving s e f F P x (Stream kind) faults h fed carried n = refused serving s e f F P x (Stream kind) faults h carried (record { session = fed.0; ends = fed.1; fault = n })

pub serving_none : {S : Type 0} (serving : Serving S) (s : S) (e : ServingEnd S) (v : State) (endpoint : Held) → EndLaws → IsServed serving s e v → None ≡ take_answer v → StandsFor endpoint (after_take v)
    → (false ≡ nat_lt 0 (waiting_count v)) × IsServed serving s (record e { endpoint = endpoint }) v
serving_none serving s e v endpoint laws h is stands =
    (sym (waits laws v None is), served_on serving s e v v endpoint h (subst (λ (u : State). StandsFor endpoint u) (laws.hands_up.none v (sym is)) stands) refl refl)

pub serving_feeds : {S : Type 0} (serving : Serving S) (s : S) (e f : ServingEnd S) (v : State) (x : Item) → EndLaws → IsServed serving s e v → Some x ≡ take_answer v → IsItem x → StandsFor f.endpoint (after_take v)
    → IsHearing serving s f (handed_up_by v ++ x ∷ []) v.accepted → f.handed ≡ handed_up_by v ++ x ∷ []
    → (true ≡ nat_lt 0 (waiting_count v)) × IsServed serving s f (after_take v)
serving_feeds serving s e f v x laws h is item stands hearing listed =
    let one = laws.hands_up.some v x (sym is) in
    let up = laws.hands_up.more v x (sym is) in
    let here : IsServed serving s f (record v { handed = v.handed + 1 }) = record {
      stands = subst (λ (u : State). StandsFor f.endpoint u) one stands;
      hearing = subst (λ (l : List Item). IsHearing serving s f l v.accepted) (sym up) hearing;
      listed = listed ∙ sym up;
      items = subst (All IsItem) (sym up) (All-push IsItem (handed_up_by v) x h.items item);
    } in
    (sym (waits laws v (Some x) is), subst (λ (u : State). IsServed serving s f u) (sym one) here)

-- ---- one step

taken_or_not : (v : State) (P : State → Type 0) (b : Bool) → P (if b then after_take v else v) → Stepped b v (if b then Some (after_take v) else None) P
taken_or_not v P true h = h
taken_or_not v P false h = h

pub served_none : {S : Type 0} (serving : Serving S) (s : S) (v : State) (b : Bool) (P : State → Type 0) → next_item_out serving s v ≡ None → b ≡ nat_lt 0 (waiting_count v) → P (if b then after_take v else v) → Stepped b v (serve_step serving s v) P
served_none serving s v b P is waits h =
    subst (λ (o : Option Item). Stepped b v (end_step_with v o) P) (sym is)
    (subst (λ (c : Bool). Stepped b v (if c then Some (after_take v) else None) P) waits (taken_or_not v P b h))

pub served_full : {S : Type 0} (serving : Serving S) (s : S) (v : State) (x : Item) (P : State → Type 0) → next_item_out serving s v ≡ Some x → is_full v ≡ true → P v → Stepped false v (serve_step serving s v) P
served_full serving s v x P is full h =
    subst (λ (o : Option Item). Stepped false v (end_step_with v o) P) (sym is)
    (subst (λ (c : Bool). Stepped false v (if c then None else Some (after_send v x)) P) (sym full) h)

pub served_send : {S : Type 0} (serving : Serving S) (s : S) (v : State) (x : Item) (P : State → Type 0) → next_item_out serving s v ≡ Some x → is_full v ≡ false → P (after_send v x) → Stepped true v (serve_step serving s v) P
served_send serving s v x P is full h =
    subst (λ (o : Option Item). Stepped true v (end_step_with v o) P) (sym is)
    (subst (λ (c : Bool). Stepped true v (if c then None else Some (after_send v x)) P) (sym full) h)

-- ---- in a world of calls

onward_end : {S : Type 0} (p : Parties S) (w : CallWorld) (o : Option State) → (onward w (or_caller p w B o)).world.b ≡ onward w.world.b o
onward_end p w None = refl
onward_end p w (Some v) = refl

-- the server's side of a world takes the steps of a server's end
pub server_side : {S : Type 0} (p : Parties S) (w : CallWorld) (n : ℕ) → (after_steps (step p B) w n).world.b ≡ after_steps (serve_step p.serving p.service) w.world.b n
server_side p w zero = refl
server_side p w (suc n) =
    let x = after_steps (step p B) w n in
    onward_end p x (serve_step p.serving p.service x.world.b)
    ∙ ap (λ (v : State). onward v (serve_step p.serving p.service v)) (server_side p w n)

pub stepped_world : {S : Type 0} (p : Parties S) (e : ServingEnd S) (w : CallWorld) → IsServed p.serving p.service e (stepped_out (serve_step p.serving p.service) w.world.b) → IsServing p e (stepped_out (step p B) w)
stepped_world p e w h = subst (λ (v : State). IsServed p.serving p.service e v) (sym (server_side p w most_steps)) h

-- ---- after each packet

pub flushed : {S : Type 0} → NetworkLaws → (serving : Serving S) (s : S) (play : ServePlay S) (w : Served) (v : State) (e : ServingEnd S) (endpoint : Held) (packets replies : Vec (List ℕ) Global) → IsServePlaying serving s play w → IsServed serving s e v
    → StandsFor endpoint (after_flush v) → packets.items ≡ flush_answer v → replies.items ≡ play.replies.items ++ packets.items
    → IsServePlaying serving s (record play { b = record e { endpoint = endpoint }; replies = replies }) (settles_from w v)
flushed laws serving s play w v e endpoint packets replies h i stands sent more =
    let on = laws.stays.flush v in
    record {
      b = served_on serving s e v (after_flush v) endpoint i stands on.accepted (laws.stays.handed v (after_flush v) on i.stands.fits.bounds.handed_taken);
      replies = more ∙ (ap (λ (l : List (List ℕ)). l ++ packets.items) h.replies ∙ ap (λ (l : List (List ℕ)). w.replies ++ l) sent);
    }

pub heard : {S : Type 0} → NetworkLaws → (serving : Serving S) (s : S) (play : ServePlay S) (w : Served) (b : List ℕ) (endpoint : Held) (reply : Option (List ℕ)) (replies : Vec (List ℕ) Global) → IsServePlaying serving s play w
    → StandsFor endpoint (after_receive w.end b) → reply ≡ (receive_answer w.end b).reply → replies.items ≡ play.replies.items ++ option_to_list reply
    → IsServePlaying serving s (record play { b = record (play.b) { endpoint = endpoint }; replies = replies }) (serve_receives w b)
heard laws serving s play w b endpoint reply replies h stands answer more =
    let on = laws.stays.receive w.end b in
    record {
      b = served_on serving s play.b w.end (after_receive w.end b) endpoint h.b stands on.accepted (laws.stays.handed w.end (after_receive w.end b) on h.b.stands.fits.bounds.handed_taken);
      replies = more ∙ (ap (λ (l : List (List ℕ)). l ++ option_to_list reply) h.replies ∙ ap (λ (o : Option (List ℕ)). w.replies ++ option_to_list o) answer);
    }

pub raw_again : (cs : List RawCall) → map raw_call (map call_of cs) ≡ cs
raw_again [] = refl
raw_again (c ∷ cs) = ap (λ (l : List RawCall). c ∷ l) (raw_again cs)

pub heard_along : {S : Type 0} (serving : Serving S) (s : S) (t : ServeTrace S) (w : Served) → IsServeTrace serving s t w → IsOfConversation serving s t
heard_along serving s t w h = record {
  carried = h.carried ∙ ap (λ l. map call_of (decided_calls l)) (sym h.handed);
  service = h.service ∙ ap (λ (l : List RawCall). last_state serving s l) (sym (ap (map raw_call) h.carried ∙ raw_again (decided_calls (take w.end.handed w.end.taken))));
  fault = h.fault ∙ ap (λ l. first_fault l) (sym h.handed);
}

pub within : {S : Type 0} (serving : Serving S) (s : S) (t : ServeTrace S) (w : Served) → IsServeTrace serving s t w → IsState w.end → HasBoundedEnd t w
within serving s t w h fits = record {
  end = fits;
  handed = omega (arith, ap length h.handed, length-take-le w.end.handed w.end.taken fits.bounds.handed_taken, fits.bounds.handed_taken, fits.bounds.taken_most);
}
