-- What is found of the labels of a recording rule, one after the other.
use Rattle.std.proofs.Common.{◌≡◌, inl, inr, false, List}
use Rattle.lf_laws.specs.Gaining.{OfSome}
use Rattle.lf_ast.specs.Rules.{RuleTree}
use Rattle.lf_ast.specs.declared.verdict.Finding.{Finding as Row}
use Rattle.lf_semantics.specs.ClassRows.{Sets}
use Rattle.lf_semantics.specs.Listing.{Listing}
use Rattle.lf_checks.specs.Finding.{Finding}
use Rattle.lf_checks.specs.RuleLabel.{IsFound}
use Rattle.lf_checks.specs.views.LabelCases.{IsOfLabel}
use Rattle.lf_checks.specs.views.Shown.{ListsAlone}
use Rattle.lf_checks.proofs.Lists.{alone_same}

module _ (u : Listing) (row : Sets) (r : RuleTree) (records : r.alert ≡ false) where
  to : (f : Finding) → OfSome (IsOfLabel u row) r.labels f → IsFound u row r f
  to f (l, c, inl h) = inl (l, (records, c), h.0, h.1, h.2)
  to f (l, c, inr h) = inr (l, (records, c), h.0, h.1, h.2)

  from : (f : Finding) → IsFound u row r f → OfSome (IsOfLabel u row) r.labels f
  from f (inl h) = (h.0, h.1.1, inl (h.2, h.3, h.4))
  from f (inr h) = (h.0, h.1.1, inr (h.2, h.3, h.4))

  pub of_labels : (found : List Row) → ListsAlone (OfSome (IsOfLabel u row) r.labels) found → ListsAlone (IsFound u row r) found
  of_labels found h = alone_same _ _ found to from h
