-- The text of a script, and of the play of its calls and events.
use Rattle.std.proofs.Common.{◌≡◌, ◌∙◌, ap, sym, refl, subst, ℕ, List, [], ◌∷◌, ◌++◌, codes, length, map, Option, Some, None, Result, Ok, Err}
use Rattle.std.specs.Prelude.{IfNone, OnOk}
use Rattle.std.specs.Fmt.{decimal}
use Rattle.std.proofs.lemmas.List.{length-map}
use Rattle.courier_calls.specs.Calls.{CallModel, call_model, raw, raw_call, seen_model}
use Rattle.courier_messages.specs.RawCalls.{RawCall}
use Rattle.courier_calls.specs.Server.{call_of}
use Rattle.courier_calls.specs.Tally.{tally}
use Rattle.courier_calls.specs.declared.call.Call.{Call}
use Rattle.courier_calls.specs.declared.call.Seen.{Seen}
use Rattle.xns_lines.specs.Report.{ReportModel, whole}
use Rattle.xns_script.specs.Reading.{HasReadLines}
use Rattle.xns_script.specs.Script.{script_calls, script_events}
use Rattle.xns_script.specs.declared.script.Script.{Script}
use Rattle.xns_world.specs.CallPlay.{IsCallTrace, parties}
use Rattle.xns_world.specs.CallWorld.{CallWorld, Parties, carried_at, run_calls, seen_at, service_at}
use Rattle.xns_world.specs.declared.call_trace.CallTrace.{CallTrace}
use Rattle.item_world.specs.declared.event.Event.{Event}
use Rattle.item_world.specs.declared.setup.Setup.{Setup}
use Rattle.xns_sim.specs.Sim.{refusal_or_play, script_text}
use Rattle.xns_sim.specs.Sim.Play.{play_text, script_parties, script_setup, world_text}
use Rattle.xns_sim.specs.Sim.Trace.{trace_text}

raw_calls : (calls : List Call) → map raw (map call_model calls) ≡ map raw_call calls
raw_calls [] = refl
raw_calls (c ∷ calls) = ap (λ cs. raw_call c ∷ cs) (raw_calls calls)

same_parties : (calls : List Call) → parties tally 0 calls ≡ script_parties (map call_model calls)
same_parties calls = ap (λ (cs : List RawCall). record { serving = tally; service = 0; calls = cs }) (sym (raw_calls calls))

-- the text of what a play hands over
abbrev pub handed_text : List Call → CallTrace ℕ → List ℕ
handed_text calls t = trace_text (length calls) (length t.carried.items) (map seen_model t.seen.items) t.service (length t.bag)

of_world : (p : Parties ℕ) (w : CallWorld) (calls : List Call) (t : CallTrace ℕ) → length calls ≡ length p.calls → IsCallTrace p t w → handed_text calls t ≡ world_text p w
of_world p w calls t count h =
    let carried : length t.carried.items ≡ length (carried_at w) = ap length h.carried ∙ length-map (carried_at w) call_of in
    ap (λ n. trace_text n (length t.carried.items) (map seen_model t.seen.items) t.service (length t.bag)) count
    ∙ ap (λ n. trace_text (length p.calls) n (map seen_model t.seen.items) t.service (length t.bag)) carried
    ∙ ap (λ seen. trace_text (length p.calls) (length (carried_at w)) seen t.service (length t.bag)) h.seen
    ∙ ap (λ total. trace_text (length p.calls) (length (carried_at w)) (seen_at p w) total (length t.bag)) h.service
    ∙ ap (λ bag. trace_text (length p.calls) (length (carried_at w)) (seen_at p w) (service_at p w) (length bag)) h.bag

pub played : (setup : Setup) (service : ℕ) (calls : List Call) (events : List Event) (t : CallTrace ℕ) → setup ≡ script_setup → service ≡ 0 → IsCallTrace (parties tally service calls) t (run_calls (parties tally service calls) setup events)
    → handed_text calls t ≡ play_text (map call_model calls) events
unfolding play_text
played setup service calls events t is new h =
    let p = parties tally service calls in
    of_world p (run_calls p setup events) calls t (sym (length-map calls raw_call)) h
    ∙ ap (λ (s : Setup). world_text p (run_calls p s events)) is
    ∙ ap (λ (n : ℕ). world_text (parties tally n calls) (run_calls (parties tally n calls) script_setup events)) new
    ∙ ap (λ (q : Parties ℕ). world_text q (run_calls q script_setup events)) (same_parties calls)

pub handed : {T E : Type 0} (setup : Setup) (service : ℕ) (calls : List Call) (events : List Event) (t : CallTrace ℕ) (old new : List ℕ) (n carried total packets : ℕ) (seen : List Seen) (r : Result T E)
    → OnOk r (new ≡ old ++ trace_text n carried (map seen_model seen) total packets) → setup ≡ script_setup → service ≡ 0
    → IsCallTrace (parties tally service calls) t (run_calls (parties tally service calls) setup events)
    → n ≡ length calls → carried ≡ length t.carried.items → seen ≡ t.seen.items → total ≡ t.service → packets ≡ length t.bag
    → OnOk r (new ≡ old ++ play_text (map call_model calls) events)
handed setup service calls events t old new n carried total packets seen (Err e) said is zero h a b c d f = tt
handed setup service calls events t old new n carried total packets seen (Ok x) said is zero h a b c d f =
    said ∙ ap (λ text. old ++ text)
    (ap (λ k. trace_text k carried (map seen_model seen) total packets) a
    ∙ ap (λ k. trace_text (length calls) k (map seen_model seen) total packets) b
    ∙ ap (λ (o : List Seen). trace_text (length calls) (length t.carried.items) (map seen_model o) total packets) c
    ∙ ap (λ k. trace_text (length calls) (length t.carried.items) (map seen_model t.seen.items) k packets) d
    ∙ ap (λ k. trace_text (length calls) (length t.carried.items) (map seen_model t.seen.items) t.service k) f
    ∙ played setup service calls events t is zero h)

-- ---- the text of a script

-- what is added to a report with no text is all of it
pub said_alone : (report empty : ReportModel) (text : List ℕ) → empty.front ≡ [] → report.front ≡ empty.front → report.line ≡ empty.line ++ text → whole report ≡ empty.line ++ text
said_alone report empty text none front line = ap (λ before. before ++ report.line) (front ∙ none) ∙ line

pub refusal_said : (s : Script) (lines : List (List ℕ)) (o : Option ℕ) (n : ℕ) (text before : List ℕ) → o ≡ s.refused → o ≡ Some n → before ≡ [] → text ≡ before ++ (decimal n ++ codes " refused\n") → HasReadLines s lines
    → text ≡ script_text lines
unfolding script_text
refusal_said s lines o n text before is some empty said h =
    said ∙ ap (λ t. t ++ (decimal n ++ codes " refused\n")) empty
    ∙ sym (ap (λ (r : Option ℕ). refusal_or_play r (script_calls lines) (script_events lines)) (sym h.refused ∙ sym is ∙ some))

abbrev Kept : Script → List (List ℕ) → Option ℕ → Type 0
Kept s lines o = IfNone o ((map call_model s.calls.items ≡ script_calls lines) × (s.events.items ≡ script_events lines))

pub play_said : (s : Script) (lines : List (List ℕ)) (o : Option ℕ) (calls : List Call) (events : List Event) (text before : List ℕ) → o ≡ s.refused → o ≡ None → before ≡ [] → calls ≡ s.calls.items → events ≡ s.events.items
    → text ≡ before ++ play_text (map call_model calls) events → HasReadLines s lines → text ≡ script_text lines
unfolding script_text
play_said s lines o calls events text before is none empty calls_are events_are said h =
    let fine : s.refused ≡ None = sym is ∙ none in
    let kept : Kept s lines None = subst (Kept s lines) fine h.kept in
    said ∙ ap (λ t. t ++ play_text (map call_model calls) events) empty
    ∙ ap (λ (cs : List CallModel). play_text cs events) (ap (map call_model) calls_are ∙ kept.0)
    ∙ ap (λ (es : List Event). play_text (script_calls lines) es) (events_are ∙ kept.1)
    ∙ sym (ap (λ (r : Option ℕ). refusal_or_play r (script_calls lines) (script_events lines)) (sym h.refused ∙ fine))
