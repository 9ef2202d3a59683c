use Rattle.std.proofs.Common.{◌≡◌, ◌∙◌, ap, sym, subst, refl, OnErr}
use Rattle.xns_connection.specs.Story.{is_stopped, IsListed, IsUnlisted}
use Rattle.xns_connection.specs.declared.side.Side.{Side}
use Rattle.xns_connection.specs.declared.side.Side.TheVariants.{Answers}
use Rattle.xns_connection.proofs.Coming.{gone, unlisted}
use Rattle.xns_connection.proofs.Handing.{rejected}
use Rattle.xns_connection.specs.Moving.{Rejects}
use Rattle.xns_connection.proofs.Rounds.{rejects_one}
use Rattle.xns_connection.proofs.side.Side.reject_unlisted.Goals as goal

pub returns-in-Answers-clause-stopped : goal.returns-in-Answers-clause-stopped
returns-in-Answers-clause-stopped c =
    let r = c.reject_unlisted.ensures in
    let n = c.reject_unlisted.new.self in
    rejected (n.failed ≡ c.in-Answers.server.failed) c.in-Answers.server n c.reject_unlisted.result r.rejected r.listed r.none r.stays (λ m u call unlisted is. cc) (λ same. cc)
    ∙ ap is_stopped (sym c.in-Answers.is)

pub returns-in-Calls-clause-listed : goal.returns-in-Calls-clause-listed
returns-in-Calls-clause-listed c = λ is. (refl, subst (λ (x : Side). IsListed x) (sym c.in-Calls.is) tt)

pub returns-in-Answers-clause-listed : goal.returns-in-Answers-clause-listed
returns-in-Answers-clause-listed c = λ is.
    let r = c.reject_unlisted.ensures in
    (ap Answers (r.stays (λ z. cc)) ∙ sym c.in-Answers.is, subst (λ (x : Side). IsListed x) (sym c.in-Answers.is) (λ m call. r.unlisted m call is))

pub returns-in-Answers-clause-gone : goal.returns-in-Answers-clause-gone
returns-in-Answers-clause-gone c =
    let r = c.reject_unlisted.ensures in
    gone c.in-Answers.server c.reject_unlisted.new.self c.reject_unlisted.result r.rejected r.listed r.none

pub returns-in-Answers-clause-memory : goal.returns-in-Answers-clause-memory
returns-in-Answers-clause-memory c =
    let r = c.reject_unlisted.ensures in
    subst (λ (x : Side). OnErr c.reject_unlisted.result (IsUnlisted x)) (sym c.in-Answers.is) (unlisted c.in-Answers.server c.reject_unlisted.result r.listed r.none)

pub returns-in-Answers-clause-rejects : goal.returns-in-Answers-clause-rejects
returns-in-Answers-clause-rejects c = λ was.
    let r = c.reject_unlisted.ensures in
    subst (λ (x : Side). Rejects x (Answers c.reject_unlisted.new.self)) (sym c.in-Answers.is)
    (rejects_one c.in-Answers.server c.reject_unlisted.new.self c.reject_unlisted.result r.rejected r.listed r.none was)
