-- The laws of ends and of conversations that the proofs stand on, as the crates below state them.
use Rattle.std.specs.Prelude.{ℕ, List, Option, Some, None}
use Rattle.courier_sessions.specs.declared.program.Program.{Program}
use Rattle.xns_spp.specs.Receiving.{after_receive}
use Rattle.xns_spp.specs.State.{State}
use Rattle.item_world.specs.EndLaws.{EndLaws}
use Rattle.item_world.specs.Laws.{EachStepKeepsTheOrder, NoWorldIsStuck}
use Rattle.xns_connection.specs.Acting.{Acts, IsTold}
use Rattle.xns_connection.specs.Agreeing.{ArePeers}
use Rattle.xns_connection.specs.Living.{Deeds, no_deeds, IsLived, ProgramsAgree}
use Rattle.xns_connection.specs.Story.{Story, ProgramDoesNothing, new_story}
use Rattle.xns_connection.specs.Telling.{Tells}
use Rattle.xns_connection.specs.declared.conversation.Conversation.{Conversation}

-- what was told of a connection goes on with it, and the programs of two peers agree
pub record StoryLaws : Type 0 where
  pub opens : (programs : Option (List Program)) (start : State) (c : Conversation) → Tells c (new_story programs start)
      → IsTold programs start c no_deeds (new_story programs start)
  pub acts : (programs : Option (List Program)) (start : State) (c d : Conversation) (l r : Deeds) (h b m : Story)
      → IsTold programs start c l h → Acts c h l b r → Tells d m → ProgramDoesNothing b m → IsTold programs start d r m
  pub hears : (programs : Option (List Program)) (start : State) (c d : Conversation) (l : Deeds) (h m : Story) (bytes : List ℕ)
      → IsTold programs start c l h → Tells d m → ProgramDoesNothing (record h { state = after_receive h.state bytes }) m
      → IsTold programs start d l m
  pub agree : (s v : State) (c d : Conversation) (l r : Deeds) (programs : List Program) (here : IsLived None s c l)
      (there : IsLived (Some programs) v d r) → ArePeers here.story there.story → ProgramsAgree programs l r

pub record MeetingLaws : Type 0 where
  pub ends : EndLaws
  pub order : EachStepKeepsTheOrder
  pub onward : NoWorldIsStuck
  pub stories : StoryLaws
