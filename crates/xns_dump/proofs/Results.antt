-- What holds of a result without a fault.
use Rattle.std.proofs.Common.{◌≡◌, ◌∙◌, ap, append_assoc, ℕ, List, ◌++◌, Result}
use Rattle.std.proofs.lemmas.Result.{on_ok_weaker}
use Rattle.xns_lines.specs.Report.{Adds, ReportModel}

-- a text is appended behind another
pub adds_more : {T E : Type 0} (r : Result T E) (old mid new : ReportModel) (xs ys : List ℕ) → mid.front ≡ old.front → mid.line ≡ old.line ++ xs → Adds r mid new ys → Adds r old new (xs ++ ys)
adds_more r old mid new xs ys front line h = record {
  front = h.front ∙ front;
  line = on_ok_weaker r (λ e. e ∙ ap (λ t. t ++ ys) line ∙ append_assoc old.line xs ys) h.line;
}
