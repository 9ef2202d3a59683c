-- A script that reads one more line.
use Rattle.std.proofs.Common.{◌≡◌, ◌∙◌, ap, sym, refl, subst, arith, ℕ, ◌+◌, true, false, List, [], ◌∷◌, ◌++◌, length, add-zero, append-nil, Option, Some, None}
use Rattle.std.specs.Prelude.{IfNone, is_some}
use Rattle.std.specs.List.{flat_map}
use Rattle.std.proofs.lemmas.Grind.{flat_map-append}
use Rattle.courier_calls.specs.Calls.{CallModel}
use Rattle.item_world.specs.declared.event.Event.{Event}
use Rattle.xns_script.specs.Command.{CommandModel, calls, command_of, happens, skips}
use Rattle.xns_script.specs.Script.{command_call, script_calls, command_event, script_events, first_refused, refused_from, refused_or}

abbrev or_later : Option ℕ → Option ℕ → Option ℕ
or_later None later = later
or_later (Some n) later = Some n

or_more : (n : ℕ) (o : Option CommandModel) (r s later : Option ℕ) → r ≡ or_later s later → refused_or n o r ≡ or_later (refused_or n o s) later
or_more n None r s later h = refl
or_more n (Some c) r s later h = h

refused_from-append : (n : ℕ) (lines : List (List ℕ)) (line : List ℕ) → refused_from n (lines ++ line ∷ []) ≡ or_later (refused_from n lines) (refused_or (n + length lines) (command_of line) None)
refused_from-append n [] line = ap (λ m. refused_or m (command_of line) None) (sym (add-zero n))
refused_from-append n (x ∷ lines) line =
    let e : (n + 1) + length lines ≡ n + length (x ∷ lines) = omega arith in
    or_more n (command_of x) (refused_from (n + 1) (lines ++ line ∷ [])) (refused_from (n + 1) lines) (refused_or (n + length (x ∷ lines)) (command_of line) None)
    (refused_from-append (n + 1) lines line ∙ ap (λ m. or_later (refused_from (n + 1) lines) (refused_or m (command_of line) None)) e)

-- what a script stands for
abbrev pub Read : Option ℕ → List CallModel → List Event → List (List ℕ) → Type 0
Read refused made events lines = (refused ≡ first_refused lines) × IfNone refused ((made ≡ script_calls lines) × (events ≡ script_events lines))

-- after a refused line nothing is read
pub stays : (refused : Option ℕ) (made : List CallModel) (events : List Event) (lines : List (List ℕ)) (line : List ℕ) → true ≡ is_some refused → Read refused made events lines → Read refused made events (lines ++ line ∷ [])
stays None made events lines line e h = absurd cc
stays (Some n) made events lines line e h = (ap (λ r. or_later r (refused_or (1 + length lines) (command_of line) None)) h.0 ∙ sym (refused_from-append 1 lines line), tt)

pub refuses : (refused : Option ℕ) (made : List CallModel) (events : List Event) (lines : List (List ℕ)) (line : List ℕ) (number : ℕ) → false ≡ is_some refused → None ≡ command_of line → number ≡ length lines + 1
    → Read refused made events lines → Read (Some number) made events (lines ++ line ∷ [])
refuses (Some n) made events lines line number e c at h = absurd cc
refuses None made events lines line number e c at h =
    let same : number ≡ 1 + length lines = omega arith in (
      ap Some same ∙ ap (λ o. refused_or (1 + length lines) o None) c ∙ ap (λ r. or_later r (refused_or (1 + length lines) (command_of line) None)) h.0 ∙ sym (refused_from-append 1 lines line),
      tt,
    )

one_call : (line : List ℕ) (o : Option CommandModel) → o ≡ command_of line → flat_map (λ l. command_call (command_of l)) (line ∷ []) ≡ command_call o
one_call line o c = append-nil (command_call (command_of line)) ∙ ap command_call (sym c)

one_event : (line : List ℕ) (o : Option CommandModel) → o ≡ command_of line → flat_map (λ l. command_event (command_of l)) (line ∷ []) ≡ command_event o
one_event line o c = append-nil (command_event (command_of line)) ∙ ap command_event (sym c)

pub reads : (refused : Option ℕ) (made : List CallModel) (events : List Event) (lines : List (List ℕ)) (line : List ℕ) (command : CommandModel) → false ≡ is_some refused → Some command ≡ command_of line
    → Read refused made events lines → Read refused (made ++ command_call (Some command)) (events ++ command_event (Some command)) (lines ++ line ∷ [])
reads (Some n) made events lines line command e c h = absurd cc
reads None made events lines line command e c h = (
  ap (λ o. refused_or (1 + length lines) o None) c ∙ ap (λ r. or_later r (refused_or (1 + length lines) (command_of line) None)) h.0 ∙ sym (refused_from-append 1 lines line),
  (
    ap (λ cs. cs ++ command_call (Some command)) h.1.0 ∙ ap (λ cs. script_calls lines ++ cs) (sym (one_call line (Some command) c)) ∙ sym (flat_map-append (λ l. command_call (command_of l)) lines (line ∷ [])),
    ap (λ es. es ++ command_event (Some command)) h.1.1 ∙ ap (λ es. script_events lines ++ es) (sym (one_event line (Some command) c)) ∙ sym (flat_map-append (λ l. command_event (command_of l)) lines (line ∷ [])),
  ),
)

pub skips_line : (refused : Option ℕ) (made : List CallModel) (events : List Event) (lines : List (List ℕ)) (line : List ℕ) → false ≡ is_some refused → Some skips ≡ command_of line
    → Read refused made events lines → Read refused made events (lines ++ line ∷ [])
skips_line refused made events lines line e c h =
    subst (λ es. Read refused made es (lines ++ line ∷ [])) (append-nil events)
    (subst (λ cs. Read refused cs (events ++ []) (lines ++ line ∷ [])) (append-nil made) (reads refused made events lines line skips e c h))

pub calls_line : (refused : Option ℕ) (old new : List CallModel) (events : List Event) (lines : List (List ℕ)) (line : List ℕ) (x : CallModel) → false ≡ is_some refused → Some (calls x) ≡ command_of line
    → new ≡ old ++ x ∷ [] → Read refused old events lines → Read refused new events (lines ++ line ∷ [])
calls_line refused old new events lines line x e c more h =
    subst (λ es. Read refused new es (lines ++ line ∷ [])) (append-nil events)
    (subst (λ cs. Read refused cs (events ++ []) (lines ++ line ∷ [])) (sym more) (reads refused old events lines line (calls x) e c h))

pub happens_line : (refused : Option ℕ) (cs : List CallModel) (old new : List Event) (lines : List (List ℕ)) (line : List ℕ) (x : Event) → false ≡ is_some refused → Some (happens x) ≡ command_of line
    → new ≡ old ++ x ∷ [] → Read refused cs old lines → Read refused cs new (lines ++ line ∷ [])
happens_line refused cs old new lines line x e c more h =
    subst (λ es. Read refused cs es (lines ++ line ∷ [])) (sym more)
    (subst (λ ds. Read refused ds (old ++ x ∷ []) (lines ++ line ∷ [])) (append-nil cs) (reads refused cs old lines line (happens x) e c h))
