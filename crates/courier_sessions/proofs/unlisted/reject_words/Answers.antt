use Rattle.std.proofs.Common.{rules}
use Rattle.courier_sessions.proofs.unlisted.reject_words.Goals as goal

pub returns-in-Version : goal.returns-in-Version
returns-in-Version c = search rules
