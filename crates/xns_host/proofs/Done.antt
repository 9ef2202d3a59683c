-- What is due is done, once: it is then due later.
use Rattle.std.proofs.Common.{◌≡◌, ◌≢◌, ◌∙◌, ◌⊎◌, inl, inr, ap, refl, subst, sym, ℕ, zero, suc, ◌+◌, ◌<◌, ◌≤◌, Bool, true, false, List, [], ◌∷◌, length, Option, Some, None, slice_get, arith}
use Rattle.std.specs.Prelude.{nat_le, if◌then◌else◌}
use Rattle.std.proofs.lemmas.Bool.{le-leb, leb-false, lt-leb}
use Rattle.xns_agenda.specs.Agenda.{Plan}
use Rattle.xns_connection.specs.Deeds.{Parts, acted_by}
use Rattle.xns_connection.specs.Deeds as deeds
use Rattle.xns_connection.specs.Step.{parts_of}
use Rattle.xns_host.specs.Hosting.{ActsIn, EachActs, HasActed, HasNoneDone, IsAllNoted, IsApart, StaysIn, facts_in, forgotten, may_go, stays}
use Rattle.xns_agenda.specs.Times.{HasNoneBy, IsFirstBy}
use Rattle.xns_agenda.specs.Waiting.{Waiting, IsDueAfter, act_by, due_time, unless_silent}
use Rattle.xns_agenda.specs.declared.act.Act.{Act}
use Rattle.xns_agenda.specs.declared.act.Act.TheVariants.{Nothing, Again, Ask, Forget}
use Rattle.xns_connection.specs.declared.connection.Connection.{Connection}
use Rattle.xns_agenda.specs.declared.due.Due.{Due}
use Rattle.xns_agenda.specs.declared.due.Due.TheVariants.{Never, AgainAt, AskAt, ForgetAt}
use Rattle.xns_host.specs.declared.guest.Guest.{Guest}
use Rattle.xns_agenda.proofs.Putting.{same_or_other}
use Rattle.xns_host.proofs.Undone.{not_gone_yet}
use Rattle.xns_host.proofs.Waking.{HasTime, has_time}

-- ---- one place

abbrev Places : Type 0
Places = List (Option Guest)

-- the connection in a place is forgotten, if it is done
settled : (a b : Places) (n : ℕ) (g : Guest) (done : Bool) → slice_get a n ≡ Some (Some g) → done ≡ may_go g.connection
    → (done ≡ true → slice_get b n ≡ Some None) → (done ≡ false → b ≡ a) → StaysIn g.connection (slice_get b n)
settled a b n g true there is gone kept = subst (λ (q : Option (Option Guest)). StaysIn g.connection q) (sym (gone refl)) (forgotten (sym is))
settled a b n g false there is gone kept =
    subst (λ (q : Option (Option Guest)). StaysIn g.connection q) (sym (ap (λ (xs : Places). slice_get xs n) (kept refl) ∙ there)) (stays g refl)

-- the connection in a place acted, and is forgotten, if it is done
pub act_settled : (a b : Places) (n now : ℕ) (g h : Guest) (done : Bool) → slice_get a n ≡ Some (Some h) → HasActed now g.connection h.connection
    → done ≡ may_go h.connection → (done ≡ true → slice_get b n ≡ Some None) → (done ≡ false → b ≡ a) → ActsIn now g.connection (slice_get b n)
act_settled a b n now g h done there acted is gone kept = record {
  next = h.connection;
  acts = acted;
  stays = settled a b n h done there is gone kept;
  gone = λ go. gone (is ∙ go);
}

-- ---- doing what is due again does nothing

not_by : (b : Bool) (a : Act) → b ≡ false → (if b then a else Nothing) ≡ Nothing
not_by true a is = absurd (cc)
not_by false a is = refl

no_act : (w : Waiting) (d : Due) (now : ℕ) → IsDueAfter now d → act_by w d now ≡ Nothing
no_act w Never now after = refl
no_act w (AgainAt t) now after = not_by (nat_le t now) (unless_silent w Again) (lt-leb t now (after t refl))
no_act w (AskAt t) now after = not_by (nat_le t now) (unless_silent w Ask) (lt-leb t now (after t refl))
no_act w (ForgetAt t) now after = not_by (nat_le t now) Forget (lt-leb t now (after t refl))

nothing_more : (p : Parts) (now : ℕ) → IsDueAfter now p.wait.due → deeds.acted p now ≡ p
nothing_more p now after = ap (λ (a : Act). acted_by p a now) (no_act p.wait p.wait.due now after)

-- ---- in how many places something is due

abbrev pub is_by : ℕ → Option ℕ → Bool
is_by now None = false
is_by now (Some t) = nat_le t now

abbrev pub is_due_in : ℕ → Option Guest → Bool
is_due_in now None = false
is_due_in now (Some g) = is_by now (due_time g.connection.wait.due)

due_by : (now t : ℕ) (o : Option ℕ) → o ≡ Some t → t ≤ now → is_by now o ≡ true
due_by now t None is by = absurd (cc)
due_by now t (Some u) is by = let same : t ≡ u = cc in le-leb u now (subst (λ (n : ℕ). n ≤ now) same by)

due_not : (now : ℕ) (o : Option ℕ) → ((t : ℕ) → o ≡ Some t → now < t) → is_by now o ≡ false
due_not now None after = refl
due_not now (Some t) after = lt-leb t now (after t refl)

not_due : (now : ℕ) (o : Option ℕ) → is_by now o ≡ false → (t : ℕ) → o ≡ Some t → now < t
not_due now None late t is = absurd (cc)
not_due now (Some u) late t is = let same : u ≡ t = cc in subst (λ (n : ℕ). now < n) same (leb-false u now late)

abbrev pub one : Bool → ℕ
one true = 1
one false = 0

abbrev pub dues_in : ℕ → Places → ℕ
dues_in now [] = 0
dues_in now (p ∷ ps) = one (is_due_in now p) + dues_in now ps

pub dues_few : (now : ℕ) (gs : Places) → dues_in now gs ≤ length gs
dues_few now [] = omega arith
dues_few now (p ∷ ps) = let rest = dues_few now ps in let most = at_most (is_due_in now p) in omega (arith, rest, most) where
  at_most : (b : Bool) → one b ≤ 1
  at_most true = omega arith
  at_most false = omega arith

same_dues : (now : ℕ) (gs hs : Places) → ((k : ℕ) → slice_get hs k ≡ slice_get gs k) → dues_in now hs ≡ dues_in now gs
same_dues now [] [] same = refl
same_dues now [] (h ∷ hs) same = let none : Some h ≡ None = same 0 in absurd (cc)
same_dues now (g ∷ gs) [] same = let none : None ≡ Some g = same 0 in absurd (cc)
same_dues now (g ∷ gs) (h ∷ hs) same =
    let first : Some h ≡ Some g = same 0 in
    let here : h ≡ g = cc in
    ap (λ (p : Option Guest). one (is_due_in now p) + dues_in now hs) here
    ∙ ap (λ (n : ℕ). one (is_due_in now g) + n) (same_dues now gs hs (λ k. same (suc k)))

suc_same : (a b : ℕ) → suc a ≡ suc b → a ≡ b
suc_same a b e = cc

sums : (a b m n : ℕ) → a ≡ 1 → b ≡ 0 → n ≡ m → b + n + 1 ≡ a + m
sums a b m n some none rest = omega (arith, some, none, rest)

more : (a b m n : ℕ) → b ≡ a → n + 1 ≡ m → b + n + 1 ≡ a + m
more a b m n same rest = omega (arith, same, rest)

one_fewer : (now : ℕ) (gs hs : Places) (n : ℕ) (p q : Option Guest) → ((k : ℕ) → k ≢ n → slice_get hs k ≡ slice_get gs k)
    → slice_get gs n ≡ Some p → slice_get hs n ≡ Some q → is_due_in now p ≡ true → is_due_in now q ≡ false → dues_in now hs + 1 ≡ dues_in now gs
one_fewer now [] hs n p q others was is due late = absurd (cc)
one_fewer now (g ∷ gs) [] zero p q others was is due late = absurd (cc)
one_fewer now (g ∷ gs) [] (suc n) p q others was is due late = let none : None ≡ Some g = others 0 (λ e. cc) in absurd (cc)
one_fewer now (g ∷ gs) (h ∷ hs) zero p q others was is due late =
    let before : g ≡ p = cc in
    let after : h ≡ q = cc in
    let counted : one (is_due_in now g) ≡ 1 = ap (λ (x : Option Guest). one (is_due_in now x)) before ∙ ap one due in
    let none : one (is_due_in now h) ≡ 0 = ap (λ (x : Option Guest). one (is_due_in now x)) after ∙ ap one late in
    let rest : dues_in now hs ≡ dues_in now gs = same_dues now gs hs (λ k. others (suc k) (λ e. cc)) in
    sums (one (is_due_in now g)) (one (is_due_in now h)) (dues_in now gs) (dues_in now hs) counted none rest
one_fewer now (g ∷ gs) (h ∷ hs) (suc n) p q others was is due late =
    let first : Some h ≡ Some g = others 0 (λ e. cc) in
    let here : h ≡ g = cc in
    let flag : one (is_due_in now h) ≡ one (is_due_in now g) = ap (λ (x : Option Guest). one (is_due_in now x)) here in
    let rest : dues_in now hs + 1 ≡ dues_in now gs
    = one_fewer now gs hs n p q (λ k other. others (suc k) (λ e. other (suc_same k n e))) was is due late in
    more (one (is_due_in now g)) (one (is_due_in now h)) (dues_in now gs) (dues_in now hs) flag rest

no_one : (b : Bool) (n : ℕ) → one b + n ≡ 0 → b ≡ false
no_one true n none = let some : 1 + n ≡ 0 = none in absurd (omega (arith, some))
no_one false n none = refl

none_due : (now : ℕ) (gs : Places) → dues_in now gs ≡ 0 → (k : ℕ) (p : Option Guest) → slice_get gs k ≡ Some p → is_due_in now p ≡ false
none_due now [] none k p there = absurd (cc)
none_due now (g ∷ gs) none zero p there =
    let here : g ≡ p = cc in
    ap (is_due_in now) (sym here) ∙ no_one (is_due_in now g) (dues_in now gs) none
none_due now (g ∷ gs) none (suc k) p there = none_due now gs (omega (arith, none)) k p there

-- ---- round after round

-- what is due of the one connection now leads to what it leads to of the other
abbrev Leads : ℕ → (c d : Connection) → Type 0
Leads now c d = deeds.acted (parts_of d) now ≡ deeds.acted (parts_of c) now

-- what is due of the connection in this place now leads to what it led to at first
record WillAct (now : ℕ) (c : Connection) (place : Option (Option Guest)) : Type 0 where
  next : Connection
  will : Leads now c next
  stays : StaysIn next place
  gone : may_go next ≡ true → place ≡ Some None
  -- a connection that was forgotten had acted
  later : place ≡ Some None → IsDueAfter now next.wait.due

-- after so many rounds: what will be done at each connection, and each round left one place fewer in which something is due
pub record SoFar (now : ℕ) (first gs : Places) (rounds : ℕ) : Type 0 where
  will : (k : ℕ) (g : Guest) → slice_get first k ≡ Some (Some g) → WillAct now g.connection (slice_get gs k)
  few : dues_in now gs + rounds ≤ length first

not_both : {X : Type 0} (o : Option (Option X)) (a : X) → o ≡ Some (Some a) → o ≡ Some None → ⊥
not_both o a left right = cc

pub at_first : (now : ℕ) (first : Places) → HasNoneDone first → SoFar now first first 0
at_first now first all = record {
  will = λ k g there. record {
    next = g.connection;
    will = refl;
    stays = subst (λ (q : Option (Option Guest)). StaysIn g.connection q) (sym there) (stays g refl);
    gone = λ go. absurd (not_gone_yet g.connection (all.each k g there) go);
    later = λ none. absurd (not_both (slice_get first k) g there none);
  };
  few = let most = dues_few now first in omega (arith, most);
}

stays_due : (now : ℕ) (c : Connection) (p : Option Guest) → StaysIn c (Some p) → IsDueAfter now c.wait.due → is_due_in now p ≡ false
stays_due now c (Some g) (stays h same) after =
    due_not now (due_time g.connection.wait.due) (subst (λ (d : Connection). IsDueAfter now d.wait.due) (sym same) after)
stays_due now c None (forgotten gone) after = refl

-- the place of who stays
record HasStayed (now : ℕ) (c : Connection) (place : Option (Option Guest)) : Type 0 where
  at : Option Guest
  there : place ≡ Some at
  late : is_due_in now at ≡ false

has_stayed : {place : Option (Option Guest)} (now : ℕ) (c : Connection) → StaysIn c place → IsDueAfter now c.wait.due → HasStayed now c place
has_stayed now c (stays g same) after = record { at = Some g; there = refl; late = stays_due now c (Some g) (stays g same) after }
has_stayed now c (forgotten gone) after = record { at = None; there = refl; late = refl }

one_at : {X : Type 0} (o : Option (Option X)) (a b : X) → o ≡ Some (Some a) → o ≡ Some (Some b) → a ≡ b
one_at o a b left right = cc

then_will : (now : ℕ) (c : Connection) (g : Guest) (place next_place : Option (Option Guest)) → WillAct now c place → place ≡ Some (Some g)
    → ActsIn now g.connection next_place → WillAct now c next_place
then_will now c g place next_place will there acted =
    by will.next place will.will refl will.stays where
      after : (d : Connection) → g.connection ≡ d → Leads now c d → WillAct now c next_place
      after d here leads =
          let next_parts : deeds.acted (parts_of acted.next) now ≡ deeds.acted (parts_of c) now
          = nothing_more (parts_of acted.next) now acted.acts.later ∙ acted.acts.parts ∙ ap (λ (x : Connection). deeds.acted (parts_of x) now) here ∙ leads in
          record {
            next = acted.next;
            will = next_parts;
            stays = acted.stays;
            gone = acted.gone;
            later = λ none. acted.acts.later;
          }

      by : (d : Connection) (q : Option (Option Guest)) → Leads now c d → place ≡ q → StaysIn d q → WillAct now c next_place
      by d (Some (Some _)) leads is (stays h same) = after d (ap (λ (x : Guest). x.connection) (one_at place g h there is) ∙ same) leads
      by d (Some None) leads is (forgotten gone) = absurd (not_both place g there is)
      by d None leads is at = elim at [ ]

pub one_more : (now : ℕ) (first gs hs : Places) (a : Plan) (n rounds : ℕ) → SoFar now first gs rounds → IsAllNoted a gs → length gs ≡ length a.dues
    → IsFirstBy a.dues now n → ((g : Guest) → slice_get gs n ≡ Some (Some g) → ActsIn now g.connection (slice_get hs n)) → IsApart gs hs n
    → SoFar now first hs (rounds + 1)
one_more now first gs hs a n rounds before all sized due acts apart =
    let here : HasTime gs n due.time (λ g. due_time g.connection.wait.due)
    = has_time a gs n due.time a.dues (λ f. f.due) (sym sized) refl (λ p there. (all.each n p there).facts.due) due.first.there in
    let acted = acts here.guest here.there in
    let place = has_stayed now acted.next acted.stays acted.acts.later in
    let less = one_fewer now gs hs n (Some here.guest) place.at apart.others here.there place.there
    (due_by now due.time (due_time here.guest.connection.wait.due) here.is due.by) place.late in
    let few = before.few in
    record {
      will = λ k g there. by here.guest here.there acted k g there (same_or_other k n);
      few = omega (arith, less, few);
    } where
      by : (h : Guest) → slice_get gs n ≡ Some (Some h) → ActsIn now h.connection (slice_get hs n) → (k : ℕ) (g : Guest)
          → slice_get first k ≡ Some (Some g) → (k ≡ n) ⊎ (k ≢ n) → WillAct now g.connection (slice_get hs k)
      by h at acted k g there (inl e) =
          subst (λ (m : ℕ). WillAct now g.connection (slice_get hs m)) (sym e)
          (then_will now g.connection h (slice_get gs n) (slice_get hs n)
          (before.will n g (subst (λ (m : ℕ). slice_get first m ≡ Some (Some g)) e there)) at acted)
      by h at acted k g there (inr other) =
          subst (λ (q : Option (Option Guest)). WillAct now g.connection q) (sym (apart.others k other)) (before.will k g there)

at_last : (now : ℕ) (first gs : Places) (rounds : ℕ) → SoFar now first gs rounds
    → ((k : ℕ) (p : Option Guest) → slice_get gs k ≡ Some p → is_due_in now p ≡ false) → EachActs now first gs
at_last now first gs rounds before none = λ k g there. let w = before.will k g there in by k g w.next w.will _ refl w.stays w.gone w.later where
  acted : (c d : Connection) → Leads now c d → IsDueAfter now d.wait.due → HasActed now c d
  acted c d leads after = record {
    parts = sym (nothing_more (parts_of d) now after) ∙ leads;
    later = after;
  }

  by : (k : ℕ) (g : Guest) (d : Connection) → Leads now g.connection d → (q : Option (Option Guest))
      → slice_get gs k ≡ q → StaysIn d q → (may_go d ≡ true → slice_get gs k ≡ Some None)
      → (slice_get gs k ≡ Some None → IsDueAfter now d.wait.due) → ActsIn now g.connection (slice_get gs k)
  by k g d leads (Some (Some _)) is (stays h same) left later =
      let after : IsDueAfter now h.connection.wait.due = not_due now (due_time h.connection.wait.due) (none k (Some h) is) in
      record {
        next = d;
        acts = acted g.connection d leads (subst (λ (x : Connection). IsDueAfter now x.wait.due) same after);
        stays = subst (λ (r : Option (Option Guest)). StaysIn d r) (sym is) (stays h same);
        gone = left;
      }
  by k g d leads (Some None) is (forgotten gone) left later = record {
    next = d;
    acts = acted g.connection d leads (later is);
    stays = subst (λ (r : Option (Option Guest)). StaysIn d r) (sym is) (forgotten gone);
    gone = left;
  }
  by k g d leads None is at left later = elim at [ ]

-- nothing is due any longer
pub done_early : (now : ℕ) (first gs : Places) (a : Plan) (rounds : ℕ) → SoFar now first gs rounds → IsAllNoted a gs → HasNoneBy a.dues now
    → EachActs now first gs
done_early now first gs a rounds before all none = at_last now first gs rounds before (λ k p there. by k p (all.each k p there).facts.due) where
  by : (k : ℕ) (p : Option Guest) → slice_get a.dues k ≡ Some (facts_in p).due → is_due_in now p ≡ false
  by k None noted = refl
  by k (Some g) noted = due_not now (due_time g.connection.wait.due) (λ t is. none.after k t (noted ∙ ap Some is))

-- nothing is due where as many rounds were made as there are places
pub done_last : (now : ℕ) (first gs : Places) (rounds : ℕ) → SoFar now first gs rounds → length first ≤ rounds → EachActs now first gs
done_last now first gs rounds before most =
    let few = before.few in
    at_last now first gs rounds before (none_due now gs (omega (arith, few, most)))
