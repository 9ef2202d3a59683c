-- What every history of a number comes to, by induction over its steps.
use Rattle.std.proofs.Common.{◌≡◌, ◌⊎◌, inl, inr, ap, refl, sym, subst, ◌∙◌, ℕ, zero, suc, ◌+◌, Bool, true, false, List, [], ◌∷◌, ◌++◌, length, Some, None, arith, length-append}
use Rattle.std.specs.Prelude.{Contains, cond, slice_get, ◌||◌}
use Rattle.std.specs.List.{filter}
use Rattle.std.proofs.lemmas.Option.{slice_get_within}
use Rattle.courier_messages.specs.RawCalls.{call_message, transaction_of}
use Rattle.courier_messages.specs.declared.message.Message.{Message}
use Rattle.courier_sessions.specs.Answering.{answer_message, transaction_in}
use Rattle.courier_sessions.specs.declared.answer.Answer.{Answer}
use Rattle.courier_sessions.specs.declared.answer.Answer.TheVariants as kinds
use Rattle.xns_connection.specs.declared.why.Why.{Why}
use Rattle.item_world.proofs.Fronts.{front_get}
use Rattle.host_world.specs.Dialogue.{Dialogue, new_dialogue, View, free, held, IsEven, IsOpen, IsUntold, MayGo, Happening, announces, connects, tells, opens, closes, goes}
use Rattle.host_world.specs.Dialogue.{ViewMove, connecting, opening, announcing, calling, handing_answer, handing_call, answering, asking, closing, telling, freeing, abandoning, Course}
use Rattle.host_world.specs.Dialogue.{IsAnsweredInOrder, IsOpening, is_news, is_going, Happened, WasTold, IsUnheard, IsNewlyConnected}

-- ---- lists

-- an element of a list that is one longer is one of the list, or the last
one_of : {X : Type 0} (xs : List X) (x y : X) (k : ℕ) → slice_get (xs ++ x ∷ []) k ≡ Some y → (slice_get xs k ≡ Some y) ⊎ ((k ≡ length xs) × (x ≡ y))
one_of [] x y zero e = inr (refl, cc)
one_of [] x y (suc k) e = absurd (cc)
one_of (z ∷ zs) x y zero e = inl e
one_of (z ∷ zs) x y (suc k) e = further (one_of zs x y k e) where
  further : (slice_get zs k ≡ Some y) ⊎ ((k ≡ length zs) × (x ≡ y)) → (slice_get (z ∷ zs) (suc k) ≡ Some y) ⊎ ((suc k ≡ length (z ∷ zs)) × (x ≡ y))
  further (inl there) = inl there
  further (inr last) = inr (omega (arith, last.0), last.1)

not_empty : {X : Type 0} (xs : List X) (x : X) → xs ++ x ∷ [] ≡ [] → ⊥
not_empty xs x e = let one = length-append xs (x ∷ []) in let none = ap length e in omega (arith, one, none)

left_out : {X : Type 0} (kind : X → Bool) (x : X) (xs : List X) → kind x ≡ false → filter kind xs ≡ [] → filter kind (x ∷ xs) ≡ []
left_out {X} kind x xs other none = ap (λ (b : Bool). cond b (x ∷ filter kind xs) (filter kind xs)) other ∙ none

-- ---- steps one after another

pub course_on : (v : View) (xs : List Happening) (u : View) (ys : List Happening) (w : View) → Course v xs u → Course u ys w → Course v (xs ++ ys) w
unfolding Course
course_on v [] u ys w p q = subst (λ (t : View). Course t ys w) (sym p) q
course_on v (x ∷ xs) u ys w p q = (p.0, p.1, course_on p.0 xs u ys w p.2 q)

-- the step at a place of a history
record At (v : View) (xs : List Happening) (x : Happening) (ys : List Happening) (w : View) : Type 0 where
  before : View
  behind : View
  reaches : Course v xs before
  step : ViewMove before x behind
  on : Course behind ys w

at : (v : View) (xs : List Happening) (x : Happening) (ys : List Happening) (w : View) → Course v (xs ++ x ∷ ys) w → At v xs x ys w
unfolding Course
at v [] x ys w p = record { before = v; behind = p.0; reaches = refl; step = p.1; on = p.2 }
at v (y ∷ xs) x ys w p =
    let s = at p.0 xs x ys w p.2 in
    record { before = s.before; behind = s.behind; reaches = (p.0, p.1, s.reaches); step = s.step; on = s.on }

-- ---- order

answer_number : (kind : Answer) (k : ℕ) (words : List ℕ) → transaction_in (answer_message kind k words) ≡ k
answer_number (kinds.Reject reason) k words = refl
answer_number kinds.Return k words = refl
answer_number (kinds.Abort error) k words = refl

abbrev InOrder : View → Type 0
InOrder free = Unit {0}
InOrder (held d) = IsAnsweredInOrder d

new_in_order : (ours : Bool) → IsAnsweredInOrder (new_dialogue ours)
new_in_order ours = record { each = λ k m e. absurd (cc); few = omega arith; most = omega arith }

one_call_more : (d : Dialogue) (c : Message) → IsEven d → IsAnsweredInOrder d → IsAnsweredInOrder (record d { calls = d.calls ++ c ∷ [] })
one_call_more d c even h =
    let one = length-append d.calls (c ∷ []) in
    record {
      each = λ k m e. let x = h.each k m e in (x.0, front_get d.calls (c ∷ []) k x.0 x.1, x.2);
      few = omega (arith, one, even);
      most = omega (arith, one, even);
    }

one_answer_more : (d : Dialogue) (call m : Message) → IsOpen d call → transaction_in m ≡ transaction_in call → IsAnsweredInOrder d → IsAnsweredInOrder (record d { answers = d.answers ++ m ∷ [] })
one_answer_more d call m unanswered number h =
    let one = length-append d.answers (m ∷ []) in
    let less = slice_get_within d.calls (length d.answers) call unanswered in
    let most = h.most in
    record {
      each = λ k n e. elim (one_of d.answers m n k e) [
        | inl there ↦ h.each k n there
        | inr last ↦ (call, ap (slice_get d.calls) last.0 ∙ unanswered, ap transaction_in (sym last.1) ∙ number)
      ];
      few = omega (arith, one, less);
      most = omega (arith, one, most);
    }

stays_in_order : {v w : View} {x : Happening} → ViewMove v x w → InOrder v → InOrder w
stays_in_order connecting h = new_in_order true
stays_in_order opening h = new_in_order false
stays_in_order (announcing d untold) h = record { each = h.each; few = h.few; most = h.most }
stays_in_order (calling d c ours even unasked unanswered) h = one_call_more d (call_message (transaction_of (length d.calls + 1)) c) even h
stays_in_order (handing_answer d call m ours unanswered number untold) h = one_answer_more d call m unanswered number h
stays_in_order (handing_call d m theirs even untold) h = one_call_more d m even h
stays_in_order (answering d call kind words theirs unanswered unclosed) h =
    one_answer_more d call (answer_message kind (transaction_in call) words) unanswered (answer_number kind (transaction_in call) words) h
stays_in_order (asking d) h = record { each = h.each; few = h.few; most = h.most }
stays_in_order (closing d why unanswered) h = record { each = h.each; few = h.few; most = h.most }
stays_in_order (telling d why is untold) h = record { each = h.each; few = h.few; most = h.most }
stays_in_order (freeing d may) h = tt
stays_in_order (abandoning d) h = tt

in_order_on : (v : View) (xs : List Happening) (w : View) → Course v xs w → InOrder v → InOrder w
unfolding Course
in_order_on v [] w p h = subst InOrder p h
in_order_on v (x ∷ xs) w p h = in_order_on p.0 xs w p.2 (stays_in_order p.1 h)

pub in_order : (xs : List Happening) (d : Dialogue) → Course free xs (held d) → IsAnsweredInOrder d
in_order xs d p = in_order_on free xs (held d) p tt

-- ---- what came to be since a number had its connection

-- a step into a connection of which this is so is one by which it came to be, or it was so before, and the step is not of that kind
abbrev ComesBy : (Q : Dialogue → Type 0) (kind : Happening → Bool) (Mark : Happening → Type 0) → Type 0
ComesBy Q kind Mark = (v : View) (x : Happening) (d : Dialogue) → ViewMove v x (held d) → Q d
    → Mark x ⊎ ((e : Dialogue) × (v ≡ held e) × Q e × (kind x ≡ false))

-- what Q says came to be in this history, or was so at first
abbrev Came : (Q : Dialogue → Type 0) (kind : Happening → Bool) (Mark : Happening → Type 0) (v : View) (xs : List Happening) → Type 0
Came Q kind Mark v xs = ((x : Happening) × Mark x × Happened x kind xs) ⊎ ((e : Dialogue) × (v ≡ held e) × Q e × (filter kind xs ≡ []))

earlier : (kind : Happening → Bool) (y x : Happening) (ys : List Happening) → Happened x kind ys → Happened x kind (y ∷ ys)
earlier kind y x ys h = record { before = y ∷ h.before; since = h.since; is = ap (λ (zs : List Happening). y ∷ zs) h.is; none = h.none }

came : (Q : Dialogue → Type 0) (kind : Happening → Bool) (Mark : Happening → Type 0) → ComesBy Q kind Mark
    → (v : View) (xs : List Happening) (d : Dialogue) → Course v xs (held d) → Q d → Came Q kind Mark v xs
unfolding Course
came Q kind Mark comes v [] d p q = inr (d, p, q, refl)
came Q kind Mark comes v (y ∷ ys) d p q = by (came Q kind Mark comes p.0 ys d p.2 q) where
  here : filter kind ys ≡ [] → Mark y ⊎ ((e : Dialogue) × (v ≡ held e) × Q e × (kind y ≡ false)) → Came Q kind Mark v (y ∷ ys)
  here none (inl mark) = inl (y, mark, record { before = []; since = ys; is = refl; none = none })
  here none (inr was) = inr (was.0, was.1, was.2, left_out kind y ys was.3 none)

  by : Came Q kind Mark p.0 ys → Came Q kind Mark v (y ∷ ys)
  by (inl marked) = inl (marked.0, marked.1, earlier kind y marked.0 ys marked.2)
  by (inr since) = here since.3 (comes v y since.0 (subst (λ (u : View). ViewMove v y u) since.1 p.1) since.2)

-- from a free number on it came to be
came_to_be : (Q : Dialogue → Type 0) (kind : Happening → Bool) (Mark : Happening → Type 0) → ComesBy Q kind Mark
    → (xs : List Happening) (d : Dialogue) → Course free xs (held d) → Q d → (x : Happening) × Mark x × Happened x kind xs
came_to_be Q kind Mark comes xs d p q = by (came Q kind Mark comes free xs d p q) where
  by : Came Q kind Mark free xs → (x : Happening) × Mark x × Happened x kind xs
  by (inl marked) = marked
  by (inr was) = let never = was.1 in absurd (cc)

-- ---- why it is closed

closed_by : (why : Why) {v : View} {x : Happening} {d : Dialogue} → ViewMove v x (held d) → d.closed ≡ Some why
    → (x ≡ closes why) ⊎ ((e : Dialogue) × (v ≡ held e) × (e.closed ≡ Some why) × (is_going x ≡ false))
closed_by why connecting q = absurd (cc)
closed_by why opening q = absurd (cc)
closed_by why (announcing d untold) q = inr (d, refl, q, refl)
closed_by why (calling d c ours even unasked unanswered) q = inr (d, refl, q, refl)
closed_by why (handing_answer d call m ours unanswered number untold) q = inr (d, refl, q, refl)
closed_by why (handing_call d m theirs even untold) q = inr (d, refl, q, refl)
closed_by why (answering d call kind words theirs unanswered unclosed) q = inr (d, refl, q, refl)
closed_by why (asking d) q = inr (d, refl, q, refl)
closed_by why (closing d other unanswered) q = inl (let same : other ≡ why = cc in ap closes same)
closed_by why (telling d other is untold) q = inr (d, refl, q, refl)

told_by : {v : View} {x : Happening} {d : Dialogue} → ViewMove v x (held d) → d.told ≡ true
    → ((why : Why) × (x ≡ tells why)) ⊎ ((e : Dialogue) × (v ≡ held e) × (e.told ≡ true) × (is_going x ≡ false))
told_by connecting q = absurd (cc)
told_by opening q = absurd (cc)
told_by (announcing d untold) q = inr (d, refl, q, refl)
told_by (calling d c ours even unasked unanswered) q = inr (d, refl, q, refl)
told_by (handing_answer d call m ours unanswered number untold) q = inr (d, refl, q, refl)
told_by (handing_call d m theirs even untold) q = inr (d, refl, q, refl)
told_by (answering d call kind words theirs unanswered unclosed) q = inr (d, refl, q, refl)
told_by (asking d) q = inr (d, refl, q, refl)
told_by (closing d other unanswered) q = inr (d, refl, q, refl)
told_by (telling d why is untold) q = inl (why, refl)

opened_by : {v : View} {x : Happening} {d : Dialogue} → ViewMove v x (held d) → (d.ours ≡ false) × (d.calls ≡ []) × (d.closed ≡ None)
    → (x ≡ opens) ⊎ ((e : Dialogue) × (v ≡ held e) × ((e.ours ≡ false) × (e.calls ≡ []) × (e.closed ≡ None)) × ((is_news x || is_going x) ≡ false))
opened_by connecting q = let theirs = q.0 in absurd (cc)
opened_by opening q = inl refl
opened_by (announcing d untold) q = let theirs = q.0 in let ours = untold.0 in absurd (cc)
opened_by (calling d c ours even unasked unanswered) q = inr (d, refl, absurd (not_empty d.calls (call_message (transaction_of (length d.calls + 1)) c) q.1), refl)
opened_by (handing_answer d call m ours unanswered number untold) q = let theirs = q.0 in absurd (cc)
opened_by (handing_call d m theirs even untold) q = absurd (not_empty d.calls m q.1)
opened_by (answering d call kind words theirs unanswered unclosed) q = inr (d, refl, q, refl)
opened_by (asking d) q = inr (d, refl, q, refl)
opened_by (closing d other unanswered) q = let none = q.2 in absurd (cc)
opened_by (telling d why is untold) q = let unanswered = q.2 in absurd (cc)

connected_by : {v : View} {x : Happening} {d : Dialogue} → ViewMove v x (held d) → IsUntold d
    → (x ≡ connects) ⊎ ((e : Dialogue) × (v ≡ held e) × IsUntold e × ((is_news x || is_going x) ≡ false))
connected_by connecting q = inl refl
connected_by opening q = let ours = q.0 in absurd (cc)
connected_by (announcing d untold) q = let unopened = q.1 in absurd (cc)
connected_by (calling d c ours even unasked unanswered) q = inr (d, refl, q, refl)
connected_by (handing_answer d call m ours unanswered number untold) q = absurd (not_empty d.answers m q.2)
connected_by (handing_call d m theirs even untold) q = let ours = q.0 in absurd (cc)
connected_by (answering d call kind words theirs unanswered unclosed) q = let ours = q.0 in absurd (cc)
connected_by (asking d) q = inr (d, refl, q, refl)
connected_by (closing d why unanswered) q = inr (d, refl, q, refl)
connected_by (telling d why is untold) q = let unheard = q.3 in absurd (cc)

-- ---- what the last step says

is_announcing : {v w : View} → ViewMove v announces w → (d : Dialogue) × (v ≡ held d) × IsUntold d
is_announcing (announcing d untold) = (d, refl, untold)

is_telling : {v w : View} {why : Why} → ViewMove v (tells why) w → (d : Dialogue) × (v ≡ held d) × (d.closed ≡ Some why) × (w ≡ held (record d { told = true }))
is_telling (telling d why is untold) = (d, refl, is, refl)

is_freeing : {v w : View} → ViewMove v goes w → (d : Dialogue) × (v ≡ held d) × MayGo d × (w ≡ free)
is_freeing (freeing d may) = (d, refl, may, refl)

pub reason : (xs : List Happening) (why : Why) (ys : List Happening) (v : View) → Course free (xs ++ tells why ∷ ys) v → Happened (closes why) is_going xs
reason xs why ys v p =
    let s = at free xs (tells why) ys v p in
    let t = is_telling s.step in
    let c = came_to_be (λ d. d.closed ≡ Some why) is_going (λ x. x ≡ closes why) (λ v x d m q. closed_by why m q) xs t.0 (subst (Course free xs) t.1 s.reaches) t.2 in
    subst (λ (x : Happening). Happened x is_going xs) c.1 c.2

pub gone : (xs ys : List Happening) (v : View) → Course free (xs ++ goes ∷ ys) v → WasTold xs ⊎ IsUnheard xs
gone xs ys v p = by (is_freeing s.step) where
  s : At free xs goes ys v
  s = at free xs goes ys v p

  by : (d : Dialogue) × (s.before ≡ held d) × MayGo d × (s.behind ≡ free) → WasTold xs ⊎ IsUnheard xs
  by x = elim x.2 [
    | inl is ↦ (let c = came_to_be (λ d. d.told ≡ true) is_going (λ x. (why : Why) × (x ≡ tells why)) (λ v x d m q. told_by m q) xs x.0 (subst (Course free xs) x.1 s.reaches) is in
        inl (c.1.0, subst (λ (y : Happening). Happened y is_going xs) c.1.1 c.2))
    | inr un ↦ (let c = came_to_be (λ d. (d.ours ≡ false) × (d.calls ≡ []) × (d.closed ≡ None)) (λ y. is_news y || is_going y) (λ y. y ≡ opens) (λ v x d m q. opened_by m q) xs x.0 (subst (Course free xs) x.1 s.reaches) un in
        inr (subst (λ (y : Happening). Happened y (λ z. is_news z || is_going z) xs) c.1 c.2))
  ]

pub newly : (xs ys : List Happening) (v : View) → Course free (xs ++ announces ∷ ys) v → IsNewlyConnected xs
newly xs ys v p =
    let s = at free xs announces ys v p in
    let t = is_announcing s.step in
    let c = came_to_be IsUntold (λ y. is_news y || is_going y) (λ y. y ≡ connects) (λ v x d m q. connected_by m q) xs t.0 (subst (Course free xs) t.1 s.reaches) t.2 in
    subst (λ (y : Happening). Happened y (λ z. is_news z || is_going z) xs) c.1 c.2

-- ---- nothing is told behind the close

told_on : {d : Dialogue} {x : Happening} {w : View} → ViewMove (held d) x w → d.told ≡ true → (is_going x ≡ true) ⊎ ((e : Dialogue) × (w ≡ held e) × (e.told ≡ true))
told_on (announcing d untold) t = let untold_yet = untold.3 in absurd (cc)
told_on (calling d c ours even unasked unanswered) t = inr (record d { calls = d.calls ++ call_message (transaction_of (length d.calls + 1)) c ∷ [] }, refl, t)
told_on (handing_answer d call m ours unanswered number untold) t = absurd (cc)
told_on (handing_call d m theirs even untold) t = absurd (cc)
told_on (answering d call kind words theirs unanswered unclosed) t = inr (record d { answers = d.answers ++ answer_message kind (transaction_in call) words ∷ [] }, refl, t)
told_on (asking d) t = inr (record d { asked = true }, refl, t)
told_on (closing d why unanswered) t = inr (record d { closed = Some why }, refl, t)
told_on (telling d why is untold) t = absurd (cc)
told_on (freeing d may) t = inl refl
told_on (abandoning d) t = inl refl

no_news : {d : Dialogue} {x : Happening} {w : View} → ViewMove (held d) x w → d.told ≡ true → is_news x ≡ true → ⊥
no_news (announcing d untold) t n = let untold_yet = untold.3 in cc
no_news (calling d c ours even unasked unanswered) t n = cc
no_news (handing_answer d call m ours unanswered number untold) t n = cc
no_news (handing_call d m theirs even untold) t n = cc
no_news (answering d call kind words theirs unanswered unclosed) t n = cc
no_news (asking d) t n = cc
no_news (closing d why unanswered) t n = cc
no_news (telling d why is untold) t n = cc
no_news (freeing d may) t n = cc
no_news (abandoning d) t n = cc

-- a history in which the number becomes free
abbrev Frees : List Happening → Type 0
Frees xs = (g : Happening) × Contains xs g × (is_going g ≡ true)

told_till : (d : Dialogue) (xs : List Happening) (w : View) → d.told ≡ true → Course (held d) xs w → Frees xs ⊎ ((e : Dialogue) × (w ≡ held e) × (e.told ≡ true))
unfolding Course
told_till d [] w t p = inr (d, sym p, t)
told_till d (x ∷ xs) w t p = elim (told_on p.1 t) [
  | inl is ↦ inl (x, (zero, omega arith, refl), is)
  | inr still ↦ behind (told_till still.0 xs w still.2 (subst (λ (u : View). Course u xs w) still.1 p.2))
] where
  behind : Frees xs ⊎ ((e : Dialogue) × (w ≡ held e) × (e.told ≡ true)) → Frees (x ∷ xs) ⊎ ((e : Dialogue) × (w ≡ held e) × (e.told ≡ true))
  behind (inl c) = inl (c.0, (suc c.1.0, omega (arith, c.1.1), c.1.2), c.2)
  behind (inr still) = inr still

pub last : (xs : List Happening) (why : Why) (ys : List Happening) (x : Happening) (zs : List Happening) (v : View)
    → Course free (xs ++ tells why ∷ (ys ++ x ∷ zs)) v → is_news x ≡ true → Frees ys
last xs why ys x zs v p news =
    let s = at free xs (tells why) (ys ++ x ∷ zs) v p in
    let t = is_telling s.step in
    let d : Dialogue = record (t.0) { told = true } in
    let n = at (held d) ys x zs v (subst (λ (u : View). Course u (ys ++ x ∷ zs) v) t.3 s.on) in
    by d n (told_till d ys n.before refl n.reaches) where
      by : (d : Dialogue) (n : At (held d) ys x zs v) → Frees ys ⊎ ((e : Dialogue) × (n.before ≡ held e) × (e.told ≡ true)) → Frees ys
      by d n (inl c) = c
      by d n (inr still) = absurd (no_news (subst (λ (u : View). ViewMove u x n.behind) still.1 n.step) still.2 news)

-- ---- a number that is free

is_opening : {x : Happening} {w : View} → ViewMove free x w → IsOpening x
is_opening connecting = inl refl
is_opening opening = inr refl

pub first : (x : Happening) (xs : List Happening) (v : View) → Course free (x ∷ xs) v → IsOpening x
unfolding Course
first x xs v p = is_opening p.1

-- each step by which the number becomes free leads there
freed : {v w : View} {g : Happening} → ViewMove v g w → is_going g ≡ true → w ≡ free
freed (freeing d may) e = refl
freed (abandoning d) e = refl
freed connecting e = absurd (cc)
freed opening e = absurd (cc)
freed (announcing d untold) e = absurd (cc)
freed (calling d c ours even unasked unanswered) e = absurd (cc)
freed (handing_answer d call m ours unanswered number untold) e = absurd (cc)
freed (handing_call d m theirs even untold) e = absurd (cc)
freed (answering d call kind words theirs unanswered unclosed) e = absurd (cc)
freed (asking d) e = absurd (cc)
freed (closing d why unanswered) e = absurd (cc)
freed (telling d why is untold) e = absurd (cc)

pub first_again : (v : View) (xs : List Happening) (g x : Happening) (ys : List Happening) (w : View) → Course v (xs ++ g ∷ (x ∷ ys)) w → is_going g ≡ true → IsOpening x
first_again v xs g x ys w p going =
    let s = at v xs g (x ∷ ys) w p in
    first x ys w (subst (λ (u : View). Course u (x ∷ ys) w) (freed s.step going) s.on)
