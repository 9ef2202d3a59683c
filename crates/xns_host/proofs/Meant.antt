-- What is said of a connection means this for what it has done.
use Rattle.std.proofs.Common.{◌≡◌, ◌≢◌, ◌∙◌, ap, refl, subst, sym, ℕ, List, Bool, true, false, Option, Some, None, Result}
use Rattle.std.specs.declared.alloc.AllocError.{AllocError}
use Rattle.courier_messages.specs.declared.message.Message.{Message}
use Rattle.xns_agenda.specs.Waiting.{StepsAt, act_at, after_by, still}
use Rattle.xns_agenda.specs.declared.act.Act.{Act}
use Rattle.xns_agenda.specs.declared.act.Act.TheVariants.{Nothing, Again, Ask, GiveUp, Forget}
use Rattle.xns_connection.specs.Deeds.{Parts, acted, acted_by, heard, with_taken}
use Rattle.xns_connection.specs.Step.{AMessageIsHandedAsByAStep, AStepKeepsItsPromises, GivesNext, Hands, MovesOwed, Step, calmly, moving_on, none_waits, parts_of}
use Rattle.xns_connection.specs.Story.{ProgramDoesNothing, Story, waiting_message, with_handed}
use Rattle.xns_connection.specs.Telling.{HearsBytes, Tells}
use Rattle.xns_connection.specs.declared.connection.Connection.{Connection}

-- ---- bytes came

pub heard_hears : AStepKeepsItsPromises → (now : ℕ) (bytes : List ℕ) (c d : Connection) → Step now (heard bytes) c d
    → HearsBytes c.conversation d.conversation bytes
heard_hears law now bytes c d step =
    let p = law now (heard bytes) c d step in
    record { wanted = λ z. p.wanted ∙ z; on = p.story }

-- ---- what was due was done

pub record Acted (p q : Parts) (act : Act) (now : ℕ) : Type 0 where
  pub told : q.told ≡ p.told
  pub wait : q.wait ≡ after_by p.wait act now
  pub closed : act ≢ GiveUp → q.closed ≡ p.closed

acted_so : (p : Parts) (act : Act) (now : ℕ) → Acted p (acted_by p act now) act now
acted_so p Nothing now = record { told = refl; wait = refl; closed = λ z. refl }
acted_so p Again now = record { told = refl; wait = refl; closed = λ z. refl }
acted_so p Ask now = record { told = refl; wait = refl; closed = λ z. refl }
acted_so p GiveUp now = record { told = refl; wait = refl; closed = λ z. absurd (z refl) }
acted_so p Forget now = record { told = refl; wait = refl; closed = λ z. refl }

pub acts_so : (now : ℕ) (c d : Connection) → parts_of d ≡ acted (parts_of c) now → Acted (parts_of c) (parts_of d) (act_at c.wait now) now
acts_so now c d is =
    subst (λ (q : Parts). Acted (parts_of c) q (act_at c.wait now) now) (sym is) (acted_so (parts_of c) (act_at c.wait now) now)

-- ---- a message was handed

-- what is beside its story
pub record Handing (c d : Connection) : Type 0 where
  pub told : d.told ≡ c.told
  pub closed : c.closed ≢ None → d.closed ≡ c.closed

pub handing : (now : ℕ) (c d : Connection) → Hands now c d → Handing c d
handing now c d (none_waits none same) = subst (λ (e : Connection). Handing c e) (sym same) (record { told = refl; closed = λ z. refl })
handing now c d (calmly some calm is) = record { told = ap (λ (p : Parts). p.told) is; closed = λ z. ap (λ (p : Parts). p.closed) is }
handing now c d (moving_on some busy step) = record { told = step.told; closed = step.stays }

pub handed_none : (now : ℕ) (c d : Connection) → Hands now c d → waiting_message c.conversation.side ≡ None → d ≡ c
handed_none now c d (none_waits none same) waits = same
handed_none now c d (calmly some calm is) waits = absurd (some waits)
handed_none now c d (moving_on some busy step) waits = absurd (some waits)

pub handing_steps : AMessageIsHandedAsByAStep → (now : ℕ) (c d : Connection) → Hands now c d → StepsAt now c.wait d.wait
handing_steps law now c d (none_waits none same) = subst (λ (e : Connection). StepsAt now c.wait e.wait) (sym same) still
handing_steps law now c d (calmly some calm is) = (law now c d some (calmly some calm is)).steps
handing_steps law now c d (moving_on some busy step) = step.steps

pub handed_story : AMessageIsHandedAsByAStep → (now : ℕ) (c d : Connection) (m : Message) → waiting_message c.conversation.side ≡ Some m → Hands now c d
    → (h : Story) → Tells c.conversation h → (n : Story) × Tells d.conversation n × ProgramDoesNothing (with_handed c.conversation.side h m) n
handed_story law now c d m waits hands h tells =
    subst (λ (o : Option Message). (n : Story) × Tells d.conversation n × ProgramDoesNothing (with_taken o c.conversation.side h) n) waits
    ((law now c d (λ none. cc) hands).story h tells)

-- ---- a packet was asked for

given_beside : (now : ℕ) (b : Bool) (c mid d : Connection) → MovesOwed b now c mid → d.told ≡ mid.told → d.closed ≡ mid.closed
    → (d.told ≡ c.told) × (c.closed ≢ None → d.closed ≡ c.closed)
given_beside now true c mid d step told closed = (told ∙ step.told, λ z. closed ∙ step.stays z)
given_beside now false c mid d same told closed = (told ∙ ap (λ (e : Connection). e.told) same, λ z. closed ∙ ap (λ (e : Connection). e.closed) same)

pub given_so : (now : ℕ) (r : Result (Option (List ℕ)) AllocError) (c d : Connection) → GivesNext now r c d
    → (d.told ≡ c.told) × (c.closed ≢ None → d.closed ≡ c.closed)
given_so now r c d g = given_beside now c.owed.moving c g.mid d g.moved g.told g.closed
