-- A service that counts down.
use Rattle.std.specs.Prelude.{ℕ, zero, suc, ◌≤◌, List, [], ◌∷◌}
use Rattle.courier_types.specs.Shape.{ShapeModel}
use Rattle.courier_types.specs.Value.{ValueModel, values_from}
use Rattle.courier_calls.specs.Table.{EntryModel}
use Rattle.courier_calls.specs.Calls.{OutcomeModel, Serving}
use Rattle.bench.specs.declared.calls.lists.Lists.{Lists}

-- a list of at most 60,000 cardinals
abbrev pub list_shape : ShapeModel
list_shape = ShapeModel.sequence 60000 ShapeModel.cardinal

abbrev pub lists_entry : EntryModel
lists_entry = record {
  program = 8;
  low = 1;
  high = 1;
  procedures = record { number = 1; arguments = list_shape; results = list_shape } ∷ [];
  errors = [];
}

-- the numbers below n, the greatest first
unfoldable pub counted : ℕ → List ValueModel
counted zero = []
counted (suc n) = ValueModel.cardinal n ∷ counted n

-- how many numbers the service may have
abbrev pub IsCount : Lists → Type 0
IsCount s = s.count ≤ 60000

abbrev pub lists : Serving Lists
lists = record {
  table = lists_entry ∷ [];
  outcome = λ s q. OutcomeModel.returned (ValueModel.sequence (values_from (counted s.count)));
  after = λ s q. s;
}
