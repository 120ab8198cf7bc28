-- Where nothing stands open for a rule, no label of it stays unresolved.
use Rattle.std.proofs.Common.{◌≡◌, inl, inr, ℕ, List, [], ◌∷◌, Some, subst, slice_get, arith}
use Rattle.std.specs.List.{Contains}
use Rattle.lf_laws.proofs.Members.{behind, first_or_behind, here, none_in}
use Rattle.lf_laws.proofs.Slices.{member_at}
use Rattle.lf_ast.specs.Labels.{Bytes}
use Rattle.lf_ast.specs.Rules.{RuleTree}
use Rattle.lf_classes.specs.Limits.{IsWithin}
use Rattle.lf_semantics.specs.ClassRows.{Sets}
use Rattle.lf_semantics.specs.Environments.{CoversRules, IsLeast, rule_row}
use Rattle.lf_semantics.specs.Laws.{SetNoNames}
use Rattle.lf_semantics.specs.Listing.{Listing}
use Rattle.lf_semantics.specs.RowTable.{Environment}
use Rattle.lf_trials.specs.Candidates.{labels_in}
use Rattle.lf_trials.specs.Verdicts.{AreLabelVerdicts, Empty, IsLabelVerdict, IsRuleVerdict, LabelVerdict, Labels, RuleVerdict, Unresolved}
use Rattle.lf_open.specs.OpenList.{AreOpen}
use Rattle.lf_open.proofs.Settled.{settled}
use Rattle.lf_shown.proofs.Resolved.{small_by_count}
use Rattle.lf_shown.proofs.Settled.{none_open}
use Rattle.lf_shown.proofs.Showing.{never_unresolved}
use Rattle.lf_worlds.specs.Unresolved.{AreTyped, IsOpenIfUnresolved}

module _ (u : Listing) (env : Environment) (rules : List RuleTree) (i : ℕ) where
  -- the label of a verdict that nothing is known
  unresolved_label : (row : Sets) (labels : List Bytes) (verdicts : List LabelVerdict) → AreLabelVerdicts u env rules i row labels verdicts → Contains verdicts Unresolved
      → (label : Bytes) × Contains labels label × IsLabelVerdict u env rules i row label Unresolved
  unresolved_label row [] [] are c = absurd (none_in Unresolved c)
  unresolved_label row [] (v ∷ verdicts) are c = absurd are
  unresolved_label row (l ∷ labels) [] are c = absurd are
  unresolved_label row (l ∷ labels) (v ∷ verdicts) are c = elim (first_or_behind v verdicts Unresolved c) [
    | inl e ↦ (l, here l labels, subst (IsLabelVerdict u env rules i row l) e are.0)
    | inr d ↦ let w = unresolved_label row labels verdicts are.1 d in (w.0, behind l labels w.0 w.1, w.2)
  ]

  module _ (within : IsWithin u) (covers : CoversRules u rules) (least : IsLeast u rules env) (r : RuleTree) (at : slice_get rules i ≡ Some r) where
    pub open_if_unresolved : (v : RuleVerdict) → IsRuleVerdict u env rules i r v → AreTyped rules → SetNoNames rules → IsOpenIfUnresolved rules i v
    open_if_unresolved Empty is typed unnamed = tt
    open_if_unresolved (Labels verdicts) is typed unnamed = λ c found open_of empty.
        let w = unresolved_label (rule_row u env r) (labels_in u) verdicts is.1 c in
        let t = typed r (member_at rules i r at) in
        let none = none_open rules typed r.expr t.0 t.1 (settled rules i r at (subst (AreOpen rules i) empty open_of)) in
        never_unresolved u within.listing (small_by_count u (omega (arith, within.classes))) rules covers unnamed env least i r at none is.0 w.0 w.1 w.2
