-- What the program does to the calls and answers that a side has.
use Rattle.std.proofs.Common.{◌≡◌, ◌∙◌, ap, refl, sym, ℕ, zero, suc, ◌+◌, Bool, true, false, List, [], ◌∷◌, ◌++◌, length, length-append, Option, Some, None, arith}
use Rattle.std.specs.Prelude.{◌%◌, ◌||◌, if◌then◌else◌, nat_lt, slice_get}
use Rattle.std.specs.Option.{is_some, option_map}
use Rattle.courier_messages.specs.RawCalls.{RawCall, call_message, transaction_of, most_call_words}
use Rattle.courier_messages.specs.declared.message.Message.{Message}
use Rattle.courier_sessions.specs.Answering.{Answering, answer_message, answer_refusal, transaction_in}
use Rattle.courier_sessions.specs.Talk.{call_refusal, next_transaction}
use Rattle.courier_sessions.specs.declared.answer.Answer.{Answer}
use Rattle.courier_sessions.specs.declared.call_refusal.CallRefusal.{CallRefusal}
use Rattle.courier_sessions.specs.declared.call_refusal.CallRefusal.TheVariants as uncalled
use Rattle.xns_connection.specs.Deeds.{answered_for, handed_by, side_answered, side_called, side_taken}
use Rattle.xns_connection.specs.Refusing.{refused_answer, refused_call, side_answer_fault, side_call_fault}
use Rattle.xns_connection.specs.Story.{listed_call, waiting_message}
use Rattle.xns_connection.specs.declared.side.Side.{Side}
use Rattle.xns_connection.specs.declared.side.Side.TheVariants.{Calls, Answers}
use Rattle.xns_connection.proofs.Doing.{is_listed_call}
use Rattle.host_world.proofs.Sides.{HasAnswers, Has}

at_end : {X : Type 0} (xs : List X) (x : X) (k : ℕ) → k ≡ length xs → slice_get (xs ++ x ∷ []) k ≡ Some x
at_end [] x zero e = refl
at_end [] x (suc k) e = absurd (omega (arith, e))
at_end (y ∷ xs) x zero e = absurd (omega (arith, e))
at_end (y ∷ xs) x (suc k) e = at_end xs x k (omega (arith, e))

-- ---- a call

unrefused : (o : Option CallRefusal) → option_map refused_call o ≡ None → o ≡ None
unrefused None e = refl
unrefused (Some uncalled.Stopped) e = absurd (cc)
unrefused (Some uncalled.Busy) e = absurd (cc)
unrefused (Some uncalled.TooLong) e = absurd (cc)
unrefused (Some uncalled.NoMemory) e = absurd (cc)

may_call : (a b : Bool) (o : Option Message) (c : Bool)
    → (if a then Some uncalled.Stopped else if b || is_some o then Some uncalled.Busy else if c then Some uncalled.TooLong else None) ≡ None
    → (b ≡ false) × (o ≡ None)
may_call true b o c e = absurd (cc)
may_call false true o c e = absurd (cc)
may_call false false (Some m) c e = absurd (cc)
may_call false false None c e = (refl, refl)

next_number : (k n : ℕ) → k ≡ n % 65536 → (k + 1) % 65536 ≡ (n + 1) % 65536
next_number k n e = omega (arith, e)

-- a call that may be made is one more, behind all that are answered
pub record MakesCall (ours : Bool) (cs rs : List Message) (side : Side) (c : RawCall) : Type 0 where
  pub is_ours : ours ≡ true
  pub even : length cs ≡ length rs
  pub has : Has ours (cs ++ call_message (transaction_of (length cs + 1)) c ∷ []) rs (side_called side c)

pub makes : (ours : Bool) (cs rs : List Message) (side : Side) (c : RawCall) → side_call_fault side c ≡ None → Has ours cs rs side → MakesCall ours cs rs side c
makes ours cs rs (Answers a) c may h = absurd (cc)
makes false cs rs (Calls t) c may h = absurd h
makes true cs rs (Calls t) c may h =
    let free = may_call t.failed t.waiting t.outcome (nat_lt most_call_words (length c.words)) (unrefused (call_refusal t c) may) in
    let even = h.even free.0 free.1 in
    let call = call_message (transaction_of (length cs + 1)) c in
    let one = length-append cs (call ∷ []) in
    let number : next_transaction t ≡ (length cs + 1) % 65536 = next_number t.transaction (length cs) h.number in
    record {
      is_ours = refl;
      even = even;
      has = record {
        number = number ∙ ap (λ (n : ℕ). n % 65536) (sym one);
        waits = λ z. record { call = call; there = at_end cs call (length rs) (sym even); last = omega (arith, one, even); is = sym number };
        has = λ m is. let none = free.1 in absurd (cc);
        even = λ z. absurd (cc);
      };
    }

-- ---- an answer

pub unanswered : (o : Option ℕ) (kind : Answer) (words : List ℕ) → option_map refused_answer (answer_refusal o kind words) ≡ None → (k : ℕ) × (o ≡ Some k)
unanswered None kind words e = absurd (cc)
unanswered (Some k) kind words e = (k, refl)

-- an answer that may be given is to the last call
pub record GivesAnswer (ours : Bool) (cs rs : List Message) (side : Side) (kind : Answer) (words : List ℕ) : Type 0 where
  pub is_theirs : ours ≡ false
  pub call : Message
  pub is_open_call : slice_get cs (length rs) ≡ Some call
  pub has : Has ours cs (rs ++ answer_message kind (transaction_in call) words ∷ []) (side_answered side kind words)

answered_has : (cs rs : List Message) (a : Answering) (m : Message) (o : Option ℕ) (k : ℕ) (kind : Answer) (words : List ℕ) → o ≡ Some k → length cs ≡ length rs + 1
    → HasAnswers cs (rs ++ m ∷ []) (answered_for o a kind words)
answered_has cs rs a m None k kind words e last = absurd (cc)
answered_has cs rs a m (Some j) k kind words e last =
    let one = length-append rs (m ∷ []) in
    record { asked = λ n z. absurd (cc); even = λ z. omega (arith, one, last); single = λ n z. absurd (cc) }

pub gives : (ours : Bool) (cs rs : List Message) (side : Side) (kind : Answer) (words : List ℕ) → side_answer_fault side kind words ≡ None → Has ours cs rs side
    → GivesAnswer ours cs rs side kind words
gives ours cs rs (Calls t) kind words may h = absurd (cc)
gives true cs rs (Answers a) kind words may h = absurd h
gives false cs rs (Answers a) kind words may h =
    let k = unanswered a.asked kind words may in
    let is_open_call = h.asked k.0 k.1 in
    record {
      is_theirs = refl;
      call = is_open_call.call;
      is_open_call = is_open_call.there;
      has = answered_has cs rs a (answer_message kind (transaction_in is_open_call.call) words) a.asked k.0 kind words k.1 is_open_call.last;
    }

-- ---- a message that is handed

-- an answer to the last call
pub record HandsAnswer (cs rs : List Message) (side : Side) (m : Message) : Type 0 where
  pub call : Message
  pub is_open_call : slice_get cs (length rs) ≡ Some call
  pub number : transaction_in m ≡ transaction_in call
  pub has : Has true cs (rs ++ m ∷ []) (side_taken side)

pub answer_handed : (cs rs : List Message) (side : Side) (m : Message) → waiting_message side ≡ Some m → Has true cs rs side → HandsAnswer cs rs side m
answer_handed cs rs (Answers a) m is h = absurd h
answer_handed cs rs (Calls t) m is h =
    let x = h.has m is in
    let one = length-append rs (m ∷ []) in
    let last = x.0.last in
    record {
      call = x.0.call;
      is_open_call = x.0.there;
      number = x.1 ∙ sym x.0.is;
      has = record {
        number = h.number;
        waits = λ z. let waits_not = x.2 in absurd (cc);
        has = λ n z. absurd (cc);
        even = λ y z. omega (arith, one, last);
      };
    }

-- a call, behind all that are answered
pub record HandsCall (cs rs : List Message) (side : Side) (m : Message) : Type 0 where
  pub even : length cs ≡ length rs
  pub has : Has false (cs ++ m ∷ []) rs (side_taken side)

handed_has : (cs rs : List Message) (a : Answering) (o : Option Message) (m : Message) → o ≡ Some m → length cs ≡ length rs → HasAnswers (cs ++ m ∷ []) rs (handed_by o a)
handed_has cs rs a None m e even = absurd (cc)
handed_has cs rs a (Some n) m e even =
    let one = length-append cs (m ∷ []) in
    let same : n ≡ m = cc in
    record {
      asked = λ k z. record {
        call = m;
        there = at_end cs m (length rs) (sym even);
        last = omega (arith, one, even);
        is = (let number : transaction_in n ≡ k = cc in ap transaction_in (sym same) ∙ number);
      };
      even = λ z. absurd (cc);
      single = λ k z. absurd (cc);
    }

pub call_handed : (cs rs : List Message) (side : Side) (m : Message) → waiting_message side ≡ Some m → Has false cs rs side → HandsCall cs rs side m
call_handed cs rs (Calls t) m is h = absurd h
call_handed cs rs (Answers a) m is h =
    let none = h.single m (is_listed_call a.programs a.call m is).0 in
    let even = h.even none in
    record { even = even; has = handed_has cs rs a (listed_call a.programs a.call) m is even }
