-- What the side that is called makes of one item more.
use Rattle.std.proofs.Common.{◌≡◌, ◌∙◌, ap, sym, refl, subst, ℕ, List, [], ◌∷◌, ◌++◌, Bool, true, false, cond, append-nil, length, ◌≤◌, arith, Ok, Err}
use Rattle.std.specs.Prelude.{Result, if◌then◌else◌}
use Rattle.xns_spp.specs.declared.item.Item.{Item}
use Rattle.courier_messages.specs.declared.fault.SessionFault.{SessionFault}
use Rattle.courier_messages.specs.declared.fault.SessionFault.TheVariants.{BadReply}
use Rattle.courier_messages.specs.declared.message.Message.{Message}
use Rattle.courier_messages.specs.declared.message.Message.TheVariants.{Call, Reject, Return, Abort}
use Rattle.courier_messages.specs.Text.{signs}
use Rattle.courier_messages.specs.Conversation.{Phase, conversation, ending}
use Rattle.courier_messages.specs.Phases.{run, said, onwards, ◌then◌}
use Rattle.courier_messages.specs.RawCalls.{RawCall}
use Rattle.courier_messages.specs.Called.{calls_of, all_calls, called_ending, server_ending}
use Rattle.courier_messages.specs.Laws.{IsFaultless, GoesOnWithItem, StaysFailed}
use Rattle.courier_messages.proofs.More.{conversation_more, ending_more, item_one, unsaid}

-- calls go on

all_split : (ms ns : List Message) → all_calls (ms ++ ns) ≡ (if all_calls ms then all_calls ns else false)
unfolding all_calls
all_split [] ns = refl
all_split (Call t p v q w ∷ ms) ns = all_split ms ns
all_split (Reject t r w ∷ ms) ns = refl
all_split (Return t w ∷ ms) ns = refl
all_split (Abort t e w ∷ ms) ns = refl

all_append : (b : Bool) (ms ns : List Message) → all_calls ms ≡ b → all_calls (ms ++ ns) ≡ (if b then all_calls ns else false)
all_append b ms ns h = all_split ms ns ∙ ap (λ (c : Bool). if c then all_calls ns else false) h

-- the calls of messages behind others, whose calls are all their messages or not
abbrev calls_behind : Bool → List Message → List (ℕ × RawCall)
calls_behind true ns = calls_of ns
calls_behind false ns = []

calls_split : (ms ns : List Message) → calls_of (ms ++ ns) ≡ calls_of ms ++ calls_behind (all_calls ms) ns
unfolding all_calls calls_of
calls_split [] ns = refl
calls_split (Call t p v q w ∷ ms) ns = ap (λ (cs : List (ℕ × RawCall)). (t, record { program = p; version = v; procedure = q; words = w }) ∷ cs) (calls_split ms ns)
calls_split (Reject t r w ∷ ms) ns = refl
calls_split (Return t w ∷ ms) ns = refl
calls_split (Abort t e w ∷ ms) ns = refl

calls_append : (ms ns : List Message) → all_calls ms ≡ true → calls_of (ms ++ ns) ≡ calls_of ms ++ calls_of ns
calls_append ms ns h = calls_split ms ns ∙ ap (λ (b : Bool). calls_of ms ++ calls_behind b ns) h

calls_stay : (ms ns : List Message) → all_calls ms ≡ false → calls_of (ms ++ ns) ≡ calls_of ms
calls_stay ms ns h = calls_split ms ns ∙ ap (λ (b : Bool). calls_of ms ++ calls_behind b ns) h ∙ append-nil (calls_of ms)

-- what is heard

heard_by : (b : Bool) (q : Result Phase SessionFault) (p : Phase) → (if b then q else Err BadReply) ≡ Ok p → (b ≡ true) × (q ≡ Ok p)
heard_by true q p h = (refl, h)
heard_by false q p h = cc

-- a server that is fed one more item

pub goes : (F : List Item) (p : Phase) (x : Item) → server_ending F ≡ Ok p → GoesOnWithItem F p x
goes F p x h =
    let was = heard_by (all_calls (conversation F)) (ending F) p h in
    let c : conversation (F ++ x ∷ []) ≡ conversation F ++ said p (signs x) =
    conversation_more F x ∙ ap (λ (r : Result Phase SessionFault). conversation F ++ onwards r (λ t. said t (signs x))) was.1 in
    let e : ending (F ++ x ∷ []) ≡ run p (signs x) =
    ending_more F x ∙ ap (λ (r : Result Phase SessionFault). r then λ t. run t (signs x)) was.1 in
    record {
      said_then = c;
      ends = ap (λ (ms : List Message). called_ending ms (ending (F ++ x ∷ []))) c
          ∙ (ap (λ (b : Bool). if b then ending (F ++ x ∷ []) else Err BadReply) (all_append true (conversation F) (said p (signs x)) was.0)
          ∙ ap (λ (r : Result Phase SessionFault). called_ending (said p (signs x)) r) e);
      calls_then = ap (λ (ms : List Message). calls_of ms) c ∙ calls_append (conversation F) (said p (signs x)) was.0;
    }

-- behind a fault

stays_by : (F : List Item) (x : Item) (e : SessionFault) (b : Bool) → all_calls (conversation F) ≡ b → server_ending F ≡ Err e → StaysFailed F x e
stays_by F x e true a h =
    let r : ending F ≡ Err e = sym (ap (λ (b : Bool). if b then ending F else Err BadReply) a) ∙ h in
    let c : conversation (F ++ x ∷ []) ≡ conversation F =
    conversation_more F x ∙ (ap (λ (q : Result Phase SessionFault). conversation F ++ onwards q (λ t. said t (signs x))) r ∙ append-nil (conversation F)) in
    let n : ending (F ++ x ∷ []) ≡ Err e = ending_more F x ∙ ap (λ (q : Result Phase SessionFault). q then λ t. run t (signs x)) r in
    record {
      calls = ap (λ (ms : List Message). calls_of ms) c;
      ending = ap (λ (ms : List Message). called_ending ms (ending (F ++ x ∷ []))) c ∙ (ap (λ (b : Bool). if b then ending (F ++ x ∷ []) else Err BadReply) a ∙ n);
    }
stays_by F x e false a h =
    let more = onwards (ending F) (λ t. said t (signs x)) in
    record {
      calls = ap (λ (ms : List Message). calls_of ms) (conversation_more F x) ∙ calls_stay (conversation F) more a;
      ending = ap (λ (b : Bool). if b then ending (F ++ x ∷ []) else Err BadReply) (ap (λ (ms : List Message). all_calls ms) (conversation_more F x) ∙ all_append false (conversation F) more a)
          ∙ (sym (ap (λ (b : Bool). if b then ending F else Err BadReply) a) ∙ h);
    }

pub stays_failed : (F : List Item) (x : Item) (e : SessionFault) → server_ending F ≡ Err e → StaysFailed F x e
stays_failed F x e h = stays_by F x e (all_calls (conversation F)) refl h

-- an item that brings a fault ends no call

uncalled : (ms : List Message) (q : Result Phase SessionFault) (e : SessionFault) → length ms ≤ 1 → ((d : SessionFault) → q ≡ Err d → ms ≡ []) → called_ending ms q ≡ Err e → calls_of ms ≡ []
unfolding all_calls calls_of
uncalled [] q e few quiet h = refl
uncalled (Call t p v c w ∷ []) q e few quiet h = absurd (let k = quiet e h in cc)
uncalled (Reject t r w ∷ []) q e few quiet h = refl
uncalled (Return t w ∷ []) q e few quiet h = refl
uncalled (Abort t n w ∷ []) q e few quiet h = refl
uncalled (m ∷ n ∷ ms) q e few quiet h = absurd (omega (arith, few))

pub silent : (F : List Item) (x : Item) (e : SessionFault) → server_ending (F ++ x ∷ []) ≡ Err e → calls_of (conversation (F ++ x ∷ [])) ≡ calls_of (conversation F)
silent F x e h = by_front (server_ending F) refl where
  by_front : (r : Result Phase SessionFault) → server_ending F ≡ r → calls_of (conversation (F ++ x ∷ [])) ≡ calls_of (conversation F)
  by_front (Err d) k = (stays_failed F x d k).calls
  by_front (Ok p) k =
      let g = goes F p x k in
      let none = uncalled (said p (signs x)) (run p (signs x)) e (item_one x p) (λ d j. unsaid x p d j) (sym g.ends ∙ h) in
      g.calls_then ∙ ap (λ (cs : List (ℕ × RawCall)). calls_of (conversation F) ++ cs) none ∙ append-nil (calls_of (conversation F))

-- no fault

pub well_server : (f : List Item) → all_calls (conversation f) ≡ true → IsFaultless (ending f) → IsFaultless (server_ending f)
well_server f h w = subst (λ (b : Bool). IsFaultless (cond b (ending f) (Err BadReply))) (sym h) w
