use Rattle.std.proofs.Common.{rules}
use Rattle.courier_sessions.proofs.unlisted.refusal.Goals as goal

pub returns-then-version-entry : goal.returns-then-version-entry
returns-then-version-entry c = search rules

pub returns-in_default-entry_for : goal.returns-in_default-entry_for
returns-in_default-entry_for c = search rules
