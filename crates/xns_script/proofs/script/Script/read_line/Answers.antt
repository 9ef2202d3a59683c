use Rattle.std.proofs.Common.{◌∙◌, ap, sym, map, Some, ◌∷◌, []}
use Rattle.std.specs.Prelude.{option_map}
use Rattle.std.proofs.lemmas.List.{map-append}
use Rattle.courier_calls.specs.Calls.{call_model}
use Rattle.xns_script.specs.Command.{command_model}
use Rattle.xns_script.proofs.Said.{is_said_command, line_said, pushed_said}
use Rattle.xns_script.proofs.Scripts.{calls_line, happens_line, refuses, skips_line, stays}
use Rattle.xns_script.proofs.script.Script.read_line.Goals as goal

pub returns-then-is_some-clause-ok : goal.returns-then-is_some-clause-ok
returns-then-is_some-clause-ok c = λ lines at h.
    let s = c.args.self.now in
    let r = stays s.refused (map call_model s.calls.items) s.events.items lines c.args.line.now c.if-is_some.ensures (h.refused, h.kept) in
    record { refused = r.0; kept = r.1 }

pub invariant_of-self-in-Some-Call : goal.invariant_of-self-in-Some-Call
invariant_of-self-in-Some-Call c =
    let was = sym c.in_ok-read_command.ensures ∙ (ap (option_map command_model) c.in-Some-Call.is ∙ ap (λ m. Some (command_model m)) c.in-Some-Call.field-0-is) in
    record { said = pushed_said _ c.args.self.now.calls.items c.push.new.self.items c.in-Some-Call.call c.push.ensures.items c.args.self.now.said (ap is_said_command (sym was) ∙ line_said c.args.line.now c.requires.short) }

pub returns-in-None-clause-ok : goal.returns-in-None-clause-ok
returns-in-None-clause-ok c = λ lines at h.
    let s = c.args.self.now in
    let r = refuses s.refused (map call_model s.calls.items) s.events.items lines c.args.line.now c.args.number c.if-is_some.ensures (sym (ap (option_map command_model) c.in-None.is) ∙ c.in_ok-read_command.ensures) at (h.refused, h.kept) in
    record { refused = r.0; kept = r.1 }

pub returns-in-Some-Skip-clause-ok : goal.returns-in-Some-Skip-clause-ok
returns-in-Some-Skip-clause-ok c = λ lines at h.
    let s = c.args.self.now in
    let said = sym (ap (option_map command_model) c.in-Some-Skip.is ∙ ap (λ m. Some (command_model m)) c.in-Some-Skip.field-0-is) ∙ c.in_ok-read_command.ensures in
    let r = skips_line s.refused (map call_model s.calls.items) s.events.items lines c.args.line.now c.if-is_some.ensures said (h.refused, h.kept) in
    record { refused = r.0; kept = r.1 }

pub returns-in_ok-push-in-Some-Call-clause-ok : goal.returns-in_ok-push-in-Some-Call-clause-ok
returns-in_ok-push-in-Some-Call-clause-ok c = λ lines at h.
    let s = c.args.self.now in
    let said = sym (ap (option_map command_model) c.in-Some-Call.is ∙ ap (λ m. Some (command_model m)) c.in-Some-Call.field-0-is) ∙ c.in_ok-read_command.ensures in
    let more = ap (map call_model) c.in_ok-push-in-Some-Call.ensures.items ∙ map-append call_model s.calls.items (c.in-Some-Call.call ∷ []) in
    let r = calls_line s.refused (map call_model s.calls.items) (map call_model c.push.new.self.items) s.events.items lines c.args.line.now (call_model c.in-Some-Call.call) c.if-is_some.ensures said more (h.refused, h.kept) in
    record { refused = r.0; kept = r.1 }

pub returns-in_ok-push-in-Some-Happen-clause-ok : goal.returns-in_ok-push-in-Some-Happen-clause-ok
returns-in_ok-push-in-Some-Happen-clause-ok c = λ lines at h.
    let s = c.args.self.now in
    let said = sym (ap (option_map command_model) c.in-Some-Happen.is ∙ ap (λ m. Some (command_model m)) c.in-Some-Happen.field-0-is) ∙ c.in_ok-read_command.ensures in
    let r = happens_line s.refused (map call_model s.calls.items) s.events.items c.push-in-Some-Happen.new.self.items lines c.args.line.now c.in-Some-Happen.event c.if-is_some.ensures said c.in_ok-push-in-Some-Happen.ensures.items (h.refused, h.kept) in
    record { refused = r.0; kept = r.1 }
