-- How a conversation goes on.
use Rattle.std.proofs.Common.{◌≡◌, ◌≢◌, ◌∙◌, ap, sym, refl, ℕ, List, [], ◌∷◌, ◌++◌, map, Bool, false, append_assoc, append-nil, arith, Ok, Err}
use Rattle.std.specs.Prelude.{Result, if◌then◌else◌}
use Rattle.xns_spp.specs.declared.item.Item.{Item}
use Rattle.courier_messages.specs.declared.fault.MessageFault.TheVariants.{TooLong}
use Rattle.courier_messages.specs.declared.fault.SessionFault.{SessionFault}
use Rattle.courier_messages.specs.declared.fault.SessionFault.TheVariants as faults
use Rattle.courier_messages.specs.Refusal.{Stops}
use Rattle.courier_messages.specs.declared.message.Message.{Message}
use Rattle.courier_messages.specs.Text.{Sign, byte, mark, foreign, signs, end_of}
use Rattle.courier_messages.specs.Conversation.{Phase, opening, fresh, inside}
use Rattle.courier_messages.specs.Phases.{after_sign, ended, run, said, onwards, ◌then◌}

-- a message takes one more byte, unless it is full
abbrev pub byte_step : List ℕ → ℕ → Bool → Result Phase SessionFault
byte_step bytes b full = if full then Err (faults.BadMessage TooLong) else Ok (inside (bytes ++ b ∷ []))

onwards_run : (r : Result Phase SessionFault) (xs ys : List Sign) → ((q : Phase) → run q (xs ++ ys) ≡ (run q xs then λ t. run t ys)) → (r then λ q. run q (xs ++ ys)) ≡ ((r then λ q. run q xs) then λ q. run q ys)
onwards_run (Ok q) xs ys h = h q
onwards_run (Err e) xs ys h = refl

pub run_append : (p : Phase) (xs ys : List Sign) → run p (xs ++ ys) ≡ (run p xs then λ q. run q ys)
unfolding run
run_append p [] ys = refl
run_append p (x ∷ xs) ys = onwards_run (after_sign p x) xs ys (λ q. run_append q xs ys)

-- where nothing is said onwards, whatever the phase, nothing is said
pub no_more : (r : Result Phase SessionFault) (f : Phase → List Message) → ((q : Phase) → f q ≡ []) → onwards r f ≡ []
no_more (Ok q) f h = h q
no_more (Err e) f h = refl

onwards_said : (r : Result Phase SessionFault) (xs ys : List Sign) → ((q : Phase) → said q (xs ++ ys) ≡ said q xs ++ onwards (run q xs) (λ t. said t ys)) → onwards r (λ q. said q (xs ++ ys)) ≡ onwards r (λ q. said q xs) ++ onwards (r then λ q. run q xs) (λ q. said q ys)
onwards_said (Ok q) xs ys h = h q
onwards_said (Err e) xs ys h = refl

pub said_append : (p : Phase) (xs ys : List Sign) → said p (xs ++ ys) ≡ said p xs ++ onwards (run p xs) (λ q. said q ys)
unfolding run said
said_append p [] ys = refl
said_append p (x ∷ xs) ys = ap (λ (ms : List Message). ended p x ++ ms) (onwards_said (after_sign p x) xs ys (λ q. said_append q xs ys)) ∙ sym (append_assoc (ended p x) (onwards (after_sign p x) (λ q. said q xs)) (onwards (run p (x ∷ xs)) (λ q. said q ys)))

quiet : (p : Phase) (b : ℕ) → ended p (byte b) ≡ []
quiet (opening bytes) b = refl
quiet fresh b = refl
quiet (inside bytes) b = refl

pub said_bytes : (p : Phase) (bs : List ℕ) → said p (map byte bs) ≡ []
unfolding said
said_bytes p [] = refl
said_bytes p (b ∷ bs) = ap (λ (ms : List Message). ms ++ onwards (after_sign p (byte b)) (λ q. said q (map byte bs))) (quiet p b) ∙ no_more (after_sign p (byte b)) (λ q. said q (map byte bs)) (λ q. said_bytes q bs)

then_ok : (r : Result Phase SessionFault) → (r then λ q. Ok q) ≡ r
then_ok (Ok p) = refl
then_ok (Err e) = refl

pub run_mark : (p : Phase) → run p (mark ∷ []) ≡ after_sign p mark
unfolding run
run_mark p = then_ok (after_sign p mark)

pub said_mark : (p : Phase) → said p (mark ∷ []) ≡ ended p mark
unfolding said
said_mark p = ap (λ (ms : List Message). ended p mark ++ ms) (no_more (after_sign p mark) (λ q. []) (λ q. refl)) ∙ append-nil (ended p mark)

pub signs_open : (x : Item) → x.stream ≡ 0 → signs x ≡ map byte x.body ++ end_of x.last
signs_open x h = rw h refl

signs_other : (x : Item) → x.stream ≢ 0 → signs x ≡ foreign x.stream ∷ []
signs_other x h = grind arith

pub said_stream : (p : Phase) (k : ℕ) → said p (foreign k ∷ []) ≡ []
unfolding said
said_stream (opening bytes) k = refl
said_stream fresh k = refl
said_stream (inside bytes) k = refl

run_stream : (p : Phase) (k : ℕ) → run p (foreign k ∷ []) ≡ Err (faults.Stream k)
unfolding run
run_stream p k = refl

pub other_stream : (p : Phase) (x : Item) → x.stream ≢ 0 → (run p (signs x) ≡ Err (faults.Stream x.stream)) × (said p (signs x) ≡ [])
other_stream p x h =
    (ap (λ (ss : List Sign). run p ss) (signs_other x h) ∙ run_stream p x.stream, ap (λ (ss : List Sign). said p ss) (signs_other x h) ∙ said_stream p x.stream)

pub without_mark : (p q : Phase) (x : Item) → x.stream ≡ 0 → x.last ≡ false → run p (map byte x.body) ≡ Ok q → (run p (signs x) ≡ Ok q) × (said p (signs x) ≡ [])
without_mark p q x h l r =
    let e : signs x ≡ map byte x.body = signs_open x h ∙ (ap (λ (b : Bool). map byte x.body ++ end_of b) l ∙ append-nil (map byte x.body)) in
    (ap (λ (ss : List Sign). run p ss) e ∙ r, ap (λ (ss : List Sign). said p ss) e ∙ said_bytes p x.body)

-- what follows from a fault, and from a want of memory
pub weaker : {M N P Q : Type 0} (e : SessionFault) → (M → N) → (P → Q) → Stops e M P → Stops e N Q
weaker faults.NoCommonVersion g f h = f h
weaker faults.BadVersions g f h = f h
weaker (faults.BadMessage m) g f h = f h
weaker faults.WrongTransaction g f h = f h
weaker faults.BadReply g f h = f h
weaker (faults.Stream kind) g f h = f h
weaker faults.NoMemory g f h = g h
weaker faults.Failed g f h = h
