-- What goes on with the same two flows, step after step.
use Rattle.std.proofs.Common.{◌≡◌, ◌∙◌, ap}
use Rattle.xns_calls.specs.declared.both_flows.BothFlows.{BothFlows}
use Rattle.xns_calls.specs.declared.heading.Heading.{Heading}
use Rattle.xns_calls.specs.Exchange.{Continues, Scene, scene_of}

pub continued : (a b c : BothFlows) → Continues a b → Continues b c → Continues a c
continued a b c one two =
    (two.0 ∙ one.0, two.1 ∙ one.1, two.2 ∙ one.2, two.3 ∙ one.3, two.4 ∙ one.4, two.5 ∙ one.5)

-- a loop over two flows goes on: the flows are the same two, and the rest of the loop leads from here where all of it leads from the start
abbrev pub GoesOn : (Scene → Scene) → BothFlows → BothFlows → Type 0
GoesOn all start now = Continues start now × (all (scene_of now) ≡ all (scene_of start))

-- one more step of the loop, with which its rest begins
pub step_done : (all : Scene → Scene) (step : Heading → Scene → Scene) (start now next : BothFlows) → GoesOn all start now → Continues now next
    → scene_of next ≡ step now.heading (scene_of now) → all (step start.heading (scene_of now)) ≡ all (scene_of now) → GoesOn all start next
step_done all step start now next before same done first =
    (continued start now next before.0 same, ap all (done ∙ ap (λ h. step h (scene_of now)) before.0.0) ∙ first ∙ before.1)
