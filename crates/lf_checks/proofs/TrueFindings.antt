-- What findings claim of samples is so in every world of the rules.
use Rattle.std.proofs.Common.{◌≡◌, inl, inr, ℕ, Bool, false, cond, List, [], ◌∷◌, ◌++◌, Some, codes, refl, sym, ap, ◌∙◌, subst, arith}
use Rattle.std.specs.Prelude.{slice_get, slice_index_or}
use Rattle.std.specs.List.{Contains}
use Rattle.std.proofs.lemmas.List.{append_cancel_left, append_cancel_right}
use Rattle.std.proofs.lemmas.Option.{get_or_from_slice_get, slice_get_within}
use Rattle.lf_laws.proofs.Members.{all_front}
use Rattle.lf_ast.specs.Labels.{Bytes, Labels}
use Rattle.lf_ast.specs.Rules.{RuleTree}
use Rattle.lf_semantics.specs.ClassRows.{Represents, Sets, bottom, is_live}
use Rattle.lf_ast.specs.Tree.{Tree}
use Rattle.lf_semantics.specs.Environments.{Covers, CoversRules, IsKnown, IsLeast, rule_row}
use Rattle.lf_semantics.specs.Mentions.{mentions}
use Rattle.lf_semantics.specs.Laws.{SetNoNames}
use Rattle.lf_semantics.specs.Listing.{IsListing, Listing, universe_of}
use Rattle.lf_semantics.specs.Parts.{is_evaluated, type_by_form}
use Rattle.lf_semantics.specs.RowTable.{Environment, row_of}
use Rattle.lf_semantics.specs.Worlds.{IsSample, World}
use Rattle.lf_semantics.proofs.LeqLaws.{bottom_dead}
use Rattle.lf_semantics.proofs.ListingLaws.{universe_covers, universe_is_listing}
use Rattle.lf_semantics.proofs.SamplesRepresented.{sample_represented}
use Rattle.lf_semantics.proofs.Soundness.{sound}
use Rattle.lf_semantics.proofs.Told.{is_absent, is_present, not_empty}
use Rattle.lf_checks.specs.AlertTemplate as alert_template
use Rattle.lf_checks.specs.Files.{File}
use Rattle.lf_checks.specs.Finding.{Check, AlertComparison, AlertTemplate, RuleDuplicate, RuleDependency, PromqlRegexp, MatchLabel, ExprEmpty, ExprType, RuleLabel, Finding}
use Rattle.lf_checks.specs.Findings.{FindsIn, IsFindingIn}
use Rattle.lf_checks.specs.Judged.{IsGuaranteed, IsImpossible}
use Rattle.lf_checks.specs.MatchLabel as match_label
use Rattle.lf_checks.specs.RuleLabel as rule_label
use Rattle.lf_checks.specs.Truths.{HasNoSample, IsNeverGiven, IsOnEach, IsOnNone, IsTrueFinding, recorded}
use Rattle.lf_semantics.proofs.PartsCovered.{part_covered}
use Rattle.lf_checks.proofs.SoughtCovered.{sought_covered}
use Rattle.lf_checks.proofs.RunsAdmitted.{world_admitted}

-- ---- texts

-- one label is named by a text that ends in the same words
pub same_label : (back label other : Bytes) → codes "label " ++ (label ++ back) ≡ codes "label " ++ (other ++ back) → label ≡ other
same_label back label other e = append_cancel_right label other back (append_cancel_left (codes "label ") (label ++ back) (other ++ back) e)

-- the last byte of a text behind another
abbrev pub last_of : ℕ → Bytes → ℕ
last_of before [] = before
last_of before (b ∷ bs) = last_of b bs

pub last_behind : (before b : ℕ) (front bs : Bytes) → last_of before (front ++ b ∷ bs) ≡ last_of b bs
last_behind before b [] bs = refl
last_behind before b (c ∷ front) bs = last_behind c b front bs

-- texts that end otherwise differ
end_of_replaced : (label : Bytes) → last_of 0 (rule_label.says_replaced label) ≡ 115
end_of_replaced label = last_behind 32 32 label (codes "replaces one that each sample has")

end_of_removed : (label : Bytes) → last_of 0 (rule_label.says_removed label) ≡ 101
end_of_removed label = last_behind 32 32 label (codes "is removed but on no sample")

pub replaced_is_not_removed : (label other : Bytes) → rule_label.says_replaced label ≡ rule_label.says_removed other → ⊥
replaced_is_not_removed label other e = let clash : 115 ≡ 101 = sym (end_of_replaced label) ∙ ap (last_of 0) e ∙ end_of_removed other in omega (arith, clash)

pub unreadable_names_none : (label : Bytes) → alert_template.says_unreadable ≡ alert_template.says_never label → ⊥
unreadable_names_none label e = let clash : 116 ≡ 108 = ap (λ (t : Bytes). slice_index_or t 0 0) e in omega (arith, clash)

-- ---- samples

module _ (u : Listing) (listing : IsListing u) (rules : List RuleTree) (covers : CoversRules u rules) (named : SetNoNames rules) (env : Environment) (least : IsLeast u rules env) where
  abbrev row : RuleTree → Sets
  row = rule_row u env

  represents : (r : RuleTree) (world : World rules) (s : Labels) → IsSample world r s → Represents u (row r) s
  represents r world s sample = sample_represented u listing rules covers named env least.of_rules least.closed world r s sample

  -- an impossible label is on no sample, and a guaranteed one on each
  pub on_none : (r : RuleTree) (label : Bytes) → IsImpossible u (row r) label → IsOnNone rules r label
  on_none r label impossible world s sample has = has (is_absent u (row r) s (represents r world s sample) label impossible.1)

  pub on_each : (r : RuleTree) (label : Bytes) → IsGuaranteed u (row r) label → IsOnEach rules r label
  on_each r label guaranteed world s sample = is_present u (row r) s (represents r world s sample) label guaranteed.1

  -- a rule with the empty row has no sample; and it is that of a string and of a range vector
  pub no_sample : (r : RuleTree) → is_live (row r) ≡ false → HasNoSample rules r
  no_sample r empty world s sample = not_empty u (row r) s (represents r world s sample) empty

  empty_by_type : (r : RuleTree) → is_evaluated (type_by_form r.expr) ≡ false → is_live (row r) ≡ false
  empty_by_type r e = ap (λ (b : Bool). is_live (cond b (row_of u env r.expr) (bottom u))) e ∙ bottom_dead u listing

  template_is_true : (r : RuleTree) (f : Finding) → alert_template.IsFound u (row r) r f → IsTrueFinding rules r f
  template_is_true r f (inl (t, reference, has, refers, impossible, e)) =
      subst (IsTrueFinding rules r) (sym e)
      (λ label text. subst (IsOnNone rules r) (same_label (codes " is never on the alert's sample") reference.label label text) (on_none r reference.label impossible))
  template_is_true r f (inr (t, breach, has, breaks, e)) = subst (IsTrueFinding rules r) (sym e) (λ label text. absurd (unreadable_names_none label text))

  label_is_true : (r : RuleTree) (f : Finding) → rule_label.IsFound u (row r) r f → IsTrueFinding rules r f
  label_is_true r f (inl (l, has, some, guaranteed, e)) =
      subst (IsTrueFinding rules r) (sym e) (
        λ label text. subst (IsOnEach rules r) (same_label (codes " replaces one that each sample has") l.key label text) (on_each r l.key guaranteed),
        λ label text. absurd (replaced_is_not_removed l.key label text),
      )
  label_is_true r f (inr (l, has, none, impossible, e)) =
      subst (IsTrueFinding rules r) (sym e) (
        λ label text. absurd (replaced_is_not_removed label l.key (sym text)),
        λ label text. subst (IsOnNone rules r) (same_label (codes " is removed but on no sample") l.key label text) (on_none r l.key impossible),
      )

  -- ---- operands

  never_given : (e : Tree) (label : Bytes) → Covers u e → IsImpossible u (row_of u env e) label → IsNeverGiven rules e label
  never_given e label known impossible world before after split R s w inside has =
      let admitted = world_admitted u listing rules covers named env least world before after split in
      let represented = sound u listing env least.of_rules.environment world.series (recorded before) admitted e known R s w inside in
      has (is_absent u (row_of u env e) s represented label impossible.1)

  match_is_true : (r : RuleTree) (f : Finding) → Contains rules r → match_label.IsFound u env r f → IsTrueFinding rules r f
  match_is_true r f c (e, sought, operand, within, seeks, impossible, is) =
      let whole : Covers u r.expr = all_front (IsKnown u) (mentions r.expr) _ (covers r c) in
      let known : Covers u operand = sought_covered u e sought operand (part_covered u r.expr e whole within) seeks in
      subst (IsTrueFinding rules r) (sym is) (
      λ label text.
      let same : sought.text ≡ label = same_label (codes " is never on the operand") sought.text label text in (
        e,
        sought,
        operand,
        within,
        seeks,
        same,
        subst (IsNeverGiven rules operand) same (never_given operand sought.text known impossible),
      )
      )

  -- ---- all checks

  -- what a check finds of a rule is true
  pub found_is_true : (files : List File) (check : Check) (i : ℕ) (r : RuleTree) (f : Finding) → Contains rules r → FindsIn files u rules env check i r f → IsTrueFinding rules r f
  found_is_true files AlertComparison i r f c h = subst (IsTrueFinding rules r) (sym h.2) tt
  found_is_true files AlertTemplate i r f c h = template_is_true r f h
  found_is_true files RuleDuplicate i r f c (s, place, first, at, e) = subst (IsTrueFinding rules r) (sym e) tt
  found_is_true files RuleDependency i r f c (inl (name, span, at, colon, none, e)) = subst (IsTrueFinding rules r) (sym e) tt
  found_is_true files RuleDependency i r f c (inr (name, span, at, cyclic, e)) = subst (IsTrueFinding rules r) (sym e) tt
  found_is_true files PromqlRegexp i r f c (inl (m, by, one, e)) = subst (IsTrueFinding rules r) (sym e) tt
  found_is_true files PromqlRegexp i r f c (inr (m, by, anchored, e)) = subst (IsTrueFinding rules r) (sym e) tt
  found_is_true files MatchLabel i r f c h = match_is_true r f c h
  found_is_true files ExprEmpty i r f c h = subst (IsTrueFinding rules r) (sym h.2) (no_sample r h.1)
  found_is_true files ExprType i r f c h = subst (IsTrueFinding rules r) (sym h.1) (no_sample r (empty_by_type r h.0))
  found_is_true files RuleLabel i r f c h = label_is_true r f h

  -- so is each of its findings
  pub finding_is_true_in : (files : List File) (i : ℕ) (f : Finding) → IsFindingIn files u rules env i f → (r : RuleTree) × (slice_get rules i ≡ Some r) × IsTrueFinding rules r f
  finding_is_true_in files i f (r, at, check, found) = (r, at, found_is_true files check i r f (i, slice_get_within rules i r at, get_or_from_slice_get rules i r r at) found)

-- in the universe of exactly these rules
pub finding_is_true : (rules : List RuleTree) → SetNoNames rules → (env : Environment) → IsLeast (universe_of rules) rules env → (files : List File) (i : ℕ) (f : Finding) → IsFindingIn files (universe_of rules) rules env i f
    → (r : RuleTree) × (slice_get rules i ≡ Some r) × IsTrueFinding rules r f
finding_is_true rules = finding_is_true_in (universe_of rules) (universe_is_listing rules) rules (universe_covers rules)
