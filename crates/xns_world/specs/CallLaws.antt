-- The laws that the proofs stand on, as the layers below state them.
use Rattle.std.specs.Prelude.{All}
use Rattle.courier_calls.specs.Calls.{Serving, IsFitting}
use Rattle.courier_calls.specs.Laws.{WhatIsHeardStays, BothSidesAgree, CallerItemsCanBeSent, SessionItemsCanBeSent, FirstFaultStays}
use Rattle.courier_calls.specs.Laws.{AnItemBringsAtMostOneAnswer}
use Rattle.xns_world.specs.CallPromises.{AreParties}
use Rattle.xns_world.specs.CallWorld.{Parties}
use Rattle.item_world.specs.EndLaws.{EndLaws}
use Rattle.item_world.specs.Laws.{EachStepKeepsTheOrder, ForeignBytesChangeNothing, NetworkLaws}

-- the laws of an end, of its network, and of a server's session that began in the state s
pub record ServerLaws {S : Type 0} (serving : Serving S) (s : S) : Type 0 where
  pub ends : EndLaws
  pub network : NetworkLaws
  pub pieces : SessionItemsCanBeSent serving s
  pub faults : FirstFaultStays

-- the laws of the network and of these parties' sessions, at each moment
pub record PartiesLaws {S : Type 0} (p : Parties S) : Type 0 where
  pub world : EachStepKeepsTheOrder
  pub foreign : ForeignBytesChangeNothing
  pub heard : WhatIsHeardStays p.serving
  pub agree : BothSidesAgree p.serving p.service
  pub brings : AnItemBringsAtMostOneAnswer p.serving p.service
  pub pieces : CallerItemsCanBeSent
  pub answering : ServerLaws p.serving p.service
  pub fitting : All IsFitting p.calls

-- the laws hold of a server's session in each state that its service can be in, and of all parties with that service
abbrev pub ServerLawsAreGiven : {S : Type 0} → Serving S → (S → Type 0) → Type 0
ServerLawsAreGiven {S} serving IsServiceState = (s : S) → IsServiceState s → ServerLaws serving s

abbrev pub LawsAreGiven : {S : Type 0} → Serving S → (S → Type 0) → Type 0
LawsAreGiven {S} serving IsServiceState = (p : Parties S) → AreParties serving IsServiceState p → PartiesLaws p
