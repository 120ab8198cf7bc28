-- Verdicts on labels, one behind another.
use Rattle.std.proofs.Common.{◌≡◌, ◌<◌, ℕ, ◌+◌, List, [], ◌∷◌, ◌++◌, length, take, map, sym, ap, ◌∙◌, subst, arith}
use Rattle.std.proofs.lemmas.List.{map-append, take_more}
use Rattle.std.proofs.Math.Seq.{take-length}
use Rattle.lf_ast.specs.Labels.{Bytes}
use Rattle.lf_ast.specs.Rules.{RuleTree}
use Rattle.lf_semantics.specs.ClassRows.{Sets}
use Rattle.lf_semantics.specs.Listing.{Listing}
use Rattle.lf_semantics.specs.RowTable.{Environment}
use Rattle.lf_classes.specs.Limits.{IsWithin}
use Rattle.lf_trials.specs.Candidates.{labels_in}
use Rattle.lf_trials.specs.Verdicts.{AreLabelVerdicts, IsLabelVerdict, LabelVerdict}
use Rattle.lf_candidates.specs.views.ClassTexts.{name_at}
use Rattle.lf_candidates.proofs.Standing.{label_count}
use Rattle.lf_worlds.specs.declared.verdict.LabelKnowledge.{LabelKnowledge}
use Rattle.lf_worlds.specs.views.Told.{label_verdict}

module _ (u : Listing) (env : Environment) (rules : List RuleTree) (i : ℕ) (row : Sets) where
  behind : (labels : List Bytes) (verdicts : List LabelVerdict) (label : Bytes) (v : LabelVerdict) → AreLabelVerdicts u env rules i row labels verdicts → IsLabelVerdict u env rules i row label v
      → AreLabelVerdicts u env rules i row (labels ++ label ∷ []) (verdicts ++ v ∷ [])
  behind [] [] label v are is = (is, tt)
  behind [] (w ∷ verdicts) label v are is = absurd are
  behind (l ∷ labels) [] label v are is = absurd are
  behind (l ∷ labels) (w ∷ verdicts) label v are is = (are.0, behind labels verdicts label v are.1 is)

  -- the verdicts that are told on the labels before one
  abbrev pub AreTold : ℕ → List LabelKnowledge → Type 0
  AreTold label told = AreLabelVerdicts u env rules i row (take label (labels_in u)) (map label_verdict told)

  module _ (within : IsWithin u) where
    pub one_told : (label : ℕ) (told : List LabelKnowledge) (v : LabelKnowledge) → label < length u.named → AreTold label told → IsLabelVerdict u env rules i row (name_at u label) (label_verdict v) → AreTold (label + 1) (told ++ v ∷ [])
    one_told label told v less are is =
        let count = label_count u within in
        let inside : label < length (labels_in u) = omega (arith, count, less) in
        subst (λ (l : List Bytes). AreLabelVerdicts u env rules i row l (map label_verdict (told ++ v ∷ []))) (sym (take_more (labels_in u) label [] inside))
        (subst (AreLabelVerdicts u env rules i row (take label (labels_in u) ++ name_at u label ∷ [])) (sym (map-append label_verdict told (v ∷ [])))
        (behind (take label (labels_in u)) (map label_verdict told) (name_at u label) (label_verdict v) are is))

    pub all_told : (label : ℕ) (told : List LabelKnowledge) → label ≡ length u.named → AreTold label told → AreLabelVerdicts u env rules i row (labels_in u) (map label_verdict told)
    all_told label told end are =
        subst (λ (l : List Bytes). AreLabelVerdicts u env rules i row l (map label_verdict told)) (ap (λ (n : ℕ). take n (labels_in u)) (end ∙ sym (label_count u within)) ∙ take-length (labels_in u)) are
