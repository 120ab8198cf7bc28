-- What a report says of rules is true, and so is what its findings claim.
use Rattle.std.proofs.Common.{◌≡◌, inl, inr, ℕ, zero, suc, ◌+◌, ◌<◌, ◌≤◌, ◌^◌, Bool, true, false, not, eqb, List, [], ◌∷◌, map, length, get_or, length-append, Option, Some, None, if◌then◌else◌, refl, sym, ◌∙◌, ap, subst, arith, codes}
use Rattle.std.specs.Prelude.{slice_get, slice_index_or}
use Rattle.std.specs.List.{Contains}
use Rattle.std.proofs.lemmas.List.{length-map}
use Rattle.std.proofs.lemmas.List.Elements.{Contains-append_right, Contains-get_or}
use Rattle.lf_laws.proofs.Options.{same_option}
use Rattle.lf_laws.proofs.Slices.{member_at, of_map_at, to_map_at}
use Rattle.lf_ast.specs.Labels.{Bytes, Labels as LabelTexts}
use Rattle.lf_ast.specs.Rules.{RuleTree}
use Rattle.lf_semantics.specs.ClassRows.{HasShape, Represents, Sets, holds, is_live}
use Rattle.lf_semantics.specs.Environments.{IsLeast, rule_row}
use Rattle.lf_semantics.specs.Listing.{Listing, class_count, label_count, label_of, universe_of}
use Rattle.lf_semantics.specs.RowTable.{Environment, has_class, may_be_absent, may_be_present, set_at}
use Rattle.lf_semantics.specs.Texts.{value_of}
use Rattle.lf_semantics.specs.Worlds.{AreScraped, World, IsSample, SetsNoName, Step}
use Rattle.lf_semantics.proofs.ListingLaws.{universe_covers, universe_is_listing}
use Rattle.lf_semantics.proofs.Places.{place_le}
use Rattle.lf_semantics.proofs.SamplesRepresented.{sample_represented}
use Rattle.lf_semantics.proofs.Told.{is_absent, is_present, not_empty}
use Rattle.lf_classes.specs.Limits.{most_classes, most_labels}
use Rattle.lf_checks.specs.Files.{File}
use Rattle.lf_checks.specs.Finding.{Finding}
use Rattle.lf_checks.specs.Findings.{AreFindings}
use Rattle.lf_checks.specs.Truths.{IsTrueFinding}
use Rattle.lf_checks.proofs.TrueFindings.{finding_is_true}
use Rattle.lf_laws.proofs.Booleans.{clash}
use Rattle.lf_laws.proofs.Members.{any_has, here}
use Rattle.lf_trials.specs.Candidates.{has_presence, labels_in, other_name}
use Rattle.lf_trials.specs.Trials.{IsFirstShown, Shown, Shows}
use Rattle.lf_trials.specs.Verdicts.{AreLabelVerdicts, IsLabelVerdict, IsRuleVerdict, LabelVerdict, RuleVerdict, Empty, Labels, Guaranteed, Impossible, Possible, Unresolved, leaves}
use Rattle.lf_trials.proofs.ShownInWorlds.{built_is_scraped, found_in, is_lacking, is_there, uniform_is_scraped}
use Rattle.lf_witness.specs.StrictRuns.{RuleStrictlyGives, rules_at}
use Rattle.lf_witness.proofs.RulesAt.{rules_among}
use Rattle.lf_witness.proofs.StrictRunIsRun.{step_of, world_behind}
use Rattle.lf_judge.specs.Founds.{accepted}
use Rattle.lf_judge.specs.Judged.{AreChecked, Checked, IsReportOn, ToldRule, finding_in, finding_told, has_unresolved, is_empty, is_unresolved, labels_of, rule_in, rule_told, rules_told, unresolved_told, verdict_told, verdicts_told, world_told}
use Rattle.lf_judge.specs.Limits.{AreWithin}
use Rattle.lf_open.specs.OpenList.{AreOpen, IsFirstOpen}
use Rattle.lf_open.specs.declared.open_at.OpenAt.{OpenAt}
use Rattle.lf_report.specs.declared.report.ReportedFinding.{ReportedFinding}
use Rattle.lf_report.specs.declared.report.Report.{Report}
use Rattle.lf_report.specs.declared.report.RuleReport.{RuleReport}
use Rattle.lf_shown.proofs.Resolved.{unresolved_is_open}
use Rattle.lf_shown.proofs.Settled.{AreTyped}
use Rattle.lf_lint.specs.Headline.{IsInWorld, IsTrueVerdict, IsTrueEmptiness, IsTrueReport, IsTrueSaid, IsTrueToldFinding, SpeaksTruth, label_for}
use Rattle.lf_lint.proofs.Accepted.{are_typed, no_star_in, set_no_name}
use Rattle.lf_lint.proofs.Leaves.{few_named, label_for_at, label_for_same, leaves_absent, leaves_present}
use Rattle.lf_lint.proofs.Shapes.{shape_rule}
use Rattle.lf_lint.proofs.ToldRules.{told_at, told_count}

-- ---- worlds

module _ (rules : List RuleTree) (env : Environment) (i : ℕ) (r : RuleTree) (at : slice_get rules i ≡ Some r) (label : Bytes) (presence : Bool) where
  shows : (shown : Shown) → IsFirstShown (universe_of rules) env rules i label presence shown → Shows rules i label presence shown
  shows shown (inl built) = built.1
  shows shown (inr uniform) = uniform.1.1

  is_scraped : (shown : Shown) → IsFirstShown (universe_of rules) env rules i label presence shown → AreScraped rules shown.trial.series
  is_scraped shown (inl built) = built_is_scraped (universe_of rules) env rules (universe_is_listing rules) i label presence shown.trial built.0
  is_scraped shown (inr uniform) = uniform_is_scraped (universe_of rules) env rules (universe_is_listing rules) i label presence shown.trial uniform.1.0

  -- what is shown first is a sample in a world of the steps that show it, and has the presence
  in_world : (shown : Shown) → IsFirstShown (universe_of rules) env rules i label presence shown → IsInWorld rules i r label presence (world_told shown) × (has_presence presence (value_of shown.sample label) ≡ true)
  in_world shown first =
      let is = shows shown first in
      let same : is.rule ≡ r = same_option (slice_get rules i) is.rule r is.is_rule at in
      let gives : RuleStrictlyGives is.stored r (Some is.samples) = subst (λ (x : RuleTree). RuleStrictlyGives is.stored x (Some is.samples)) same is.are_samples.0 in
      let found = found_in (λ s. has_presence presence (value_of s label)) is.samples shown.sample is.is_sample in
      let trial = shown.trial in
      let made = world_behind rules trial.series (is_scraped shown first) (rules_at rules trial.steps) (rules_among rules trial.steps) is.stored is.is_stored.0 r is.samples (member_at rules i r at) gives in
      let last : Contains made.0.steps (step_of r is.samples) =
      subst (λ (l : List Step). Contains l (step_of r is.samples)) (sym made.3) (Contains-append_right made.1 (step_of r is.samples ∷ []) (step_of r is.samples) (here (step_of r is.samples) [])) in (
        record {
          strictly = is;
          world = made.0;
          series = made.2;
          before = made.1;
          run = made.4;
          gives = gives;
          steps = made.3;
          is_one = found.0;
          is_sample = (step_of r is.samples, last, refl, found.0);
        },
        found.1,
      )

-- ---- the verdicts on labels

module _ (rules : List RuleTree) (env : Environment) (shape : (r : RuleTree) → HasShape (universe_of rules) (rule_row (universe_of rules) env r)) (labels_few : label_count (universe_of rules) ≤ most_labels)
    (classes_few : class_count (universe_of rules) ≤ most_classes) (i : ℕ) (r : RuleTree) (at : slice_get rules i ≡ Some r)
    (lies : (world : World rules) (s : LabelTexts) → IsSample world r s → Represents (universe_of rules) (rule_row (universe_of rules) env r) s)
    (stands : (label : Bytes) → Contains (labels_in (universe_of rules)) label → IsLabelVerdict (universe_of rules) env rules i (rule_row (universe_of rules) env r) label Unresolved → AreOpen rules i [] → ⊥) where
  abbrev universe : Listing
  universe = universe_of rules

  abbrev rule_sets : Sets
  rule_sets = rule_row universe env r

  names_few : length universe.names < 2 ^ 63
  names_few = omega (arith, labels_few)

  module _ (name : Bytes) where
    abbrev label : Bytes
    label = label_for universe name

    few : length (slice_index_or universe.named (label_of universe label) []) < 2 ^ 63
    few = few_named universe classes_few (label_of universe label)

    label_listed : Contains (labels_in universe) label
    label_listed =
        let within : label_of universe name < length (labels_in universe) = omega (arith, place_le universe.names name, length-append universe.names (other_name universe ∷ [])) in
        subst (Contains (labels_in universe)) (label_for_at universe names_few name) (Contains-get_or (labels_in universe) (label_of universe name) [] within)

    same_present : leaves universe rule_sets label true ≡ may_be_present universe rule_sets name
    same_present =
        leaves_present universe (universe_is_listing rules) label few rule_sets (shape r)
        ∙ ap (λ (k : ℕ). has_class universe (λ class. not (eqb class 0)) (set_at universe rule_sets k)) (label_for_same universe names_few name)

    same_absent : leaves universe rule_sets label false ≡ may_be_absent universe rule_sets name
    same_absent =
        leaves_absent universe (universe_is_listing rules) label few rule_sets (shape r)
        ∙ ap (λ (k : ℕ). holds rule_sets k 0) (label_for_same universe names_few name)

    true_unresolved : (first : Option OpenAt) → IsFirstOpen rules i first → IsLabelVerdict universe env rules i rule_sets label Unresolved → (AreOpen rules i [] → ⊥) → IsTrueVerdict rules env i r (unresolved_told first i r) name
    true_unresolved None is_first is refuted = absurd (refuted is_first)
    true_unresolved (Some first) is_first is refuted =
        record {
          true_of = (first, is_first.0, is_first.1, refl, refl, refl);
          is_open = (λ e. (sym same_present ∙ is.0.0, sym same_absent ∙ is.0.1), λ both. tt);
          unresolved = (λ e. ((sym same_present ∙ is.0.0, sym same_absent ∙ is.0.1), is.1), λ both. tt);
        }

    true_verdict : (first : Option OpenAt) (v : LabelVerdict) → (is_unresolved v ≡ true → IsFirstOpen rules i first) → IsLabelVerdict universe env rules i rule_sets label v → IsTrueVerdict rules env i r (verdict_told first i r v) name
    true_verdict first Guaranteed is_first is =
        let lacking : may_be_absent universe rule_sets name ≡ false = sym same_absent ∙ is in
        record {
          true_of = λ world s sample. is_present universe rule_sets s (lies world s sample) name lacking;
          is_open = (λ e. absurd e, λ both. clash (may_be_absent universe rule_sets name) both.1 lacking);
          unresolved = (λ e. absurd e, λ both. clash (may_be_absent universe rule_sets name) both.0.1 lacking);
        }
    true_verdict first Impossible is_first is =
        let there : may_be_present universe rule_sets name ≡ false = sym same_present ∙ is.0 in
        record {
          true_of = λ world s sample has. has (is_absent universe rule_sets s (lies world s sample) name there);
          is_open = (λ e. absurd e, λ both. clash (may_be_present universe rule_sets name) both.0 there);
          unresolved = (λ e. absurd e, λ both. clash (may_be_present universe rule_sets name) both.0.0 there);
        }
    true_verdict first (Possible present absent) is_first is =
        let there = in_world rules env i r at label true present is.1 in
        let lacking = in_world rules env i r at label false absent is.2 in
        record {
          true_of = ((there.0, is_there (value_of present.sample label) there.1), (lacking.0, λ has. has (is_lacking (value_of absent.sample label) lacking.1)));
          is_open = (λ e. (sym same_present ∙ is.0.0, sym same_absent ∙ is.0.1), λ both. tt);
          unresolved = (λ e. absurd e, λ both. elim both.1 [ inl none ↦ none present is.1 | inr none ↦ none absent is.2 ]);
        }
    true_verdict first Unresolved is_first is = true_unresolved first (is_first refl) is (stands label label_listed is)

  -- the verdict at the place of a label
  verdict_at : (labels : List Bytes) (verdicts : List LabelVerdict) → AreLabelVerdicts universe env rules i rule_sets labels verdicts → (k : ℕ) → k < length labels
      → (v : LabelVerdict) × (slice_get verdicts k ≡ Some v) × IsLabelVerdict universe env rules i rule_sets (get_or labels k []) v
  verdict_at [] verdicts are k less = absurd (omega (arith, less))
  verdict_at (l ∷ labels) [] are k less = absurd are
  verdict_at (l ∷ labels) (v ∷ verdicts) are zero less = (v, refl, are.0)
  verdict_at (l ∷ labels) (v ∷ verdicts) are (suc k) less = verdict_at labels verdicts are.1 k (omega (arith, less))

  verdict_count : (labels : List Bytes) (verdicts : List LabelVerdict) → AreLabelVerdicts universe env rules i rule_sets labels verdicts → length verdicts ≡ length labels
  verdict_count [] [] are = refl
  verdict_count [] (v ∷ verdicts) are = absurd are
  verdict_count (l ∷ labels) [] are = absurd are
  verdict_count (l ∷ labels) (v ∷ verdicts) are = ap (λ n. suc n) (verdict_count labels verdicts are.1)

-- ---- what is told of a rule

module _ (rules : List RuleTree) (named : (r : RuleTree) → Contains rules r → SetsNoName r) (env : Environment) (least : IsLeast (universe_of rules) rules env) (labels_few : label_count (universe_of rules) ≤ most_labels)
    (classes_few : class_count (universe_of rules) ≤ most_classes) (typed : AreTyped rules) where
  abbrev u : Listing
  u = universe_of rules

  shape : (r : RuleTree) → HasShape u (rule_row u env r)
  shape r = shape_rule u (universe_is_listing rules) env least.of_rules.environment r

  lies : (r : RuleTree) (world : World rules) (s : LabelTexts) → IsSample world r s → Represents u (rule_row u env r) s
  lies r world s sample = sample_represented u (universe_is_listing rules) rules (universe_covers rules) named env least.of_rules least.closed world r s sample

  label_total : length (labels_of u) ≡ length (labels_in u)
  label_total = length-append u.names (codes "*" ∷ []) ∙ sym (length-append u.names (other_name u ∷ []))

  within : (name : Bytes) → label_of u name < length (labels_of u)
  within name = omega (arith, place_le u.names name, length-append u.names (codes "*" ∷ []))

  true_emptiness : (i : ℕ) (r : RuleTree) (v : RuleVerdict) → IsRuleVerdict u env rules i r v → IsTrueEmptiness rules env r (is_empty v)
  true_emptiness i r Empty is = record { exactly = (λ e. is, λ e. refl); no_sample = λ e world s sample. not_empty u (rule_row u env r) s (lies r world s sample) is }
  true_emptiness i r (Labels verdicts) is = record { exactly = (λ e. cc, λ e. absurd (clash (is_live (rule_row u env r)) is.0 e)); no_sample = λ e. cc }

  -- where a label stays unresolved, something stands open
  stands : (i : ℕ) (r : RuleTree) → slice_get rules i ≡ Some r → is_live (rule_row u env r) ≡ true → (label : Bytes) → Contains (labels_in u) label → IsLabelVerdict u env rules i (rule_row u env r) label Unresolved → AreOpen rules i [] → ⊥
  stands i r at live label listed unresolved none = unresolved_is_open rules typed named (omega (arith, classes_few)) env least i r at live label listed unresolved [] none refl

  true_said : (i : ℕ) (r : RuleTree) → slice_get rules i ≡ Some r → (labels : Bool) (first : Option OpenAt) (v : RuleVerdict) → (labels ≡ true → has_unresolved v ≡ true → IsFirstOpen rules i first) → IsRuleVerdict u env rules i r v
      → IsTrueSaid rules env i r labels (if labels then Some (verdicts_told first i r v) else None)
  true_said i r at false first v is_first is = refl
  true_said i r at true first Empty is_first is = (refl, is)
  true_said i r at true first (Labels verdicts) is_first is = (
    refl,
    is.0,
    length-map verdicts (verdict_told first i r) ∙ verdict_count rules env shape labels_few classes_few i r at (lies r) (stands i r at is.0) (labels_in u) verdicts is.1 ∙ sym label_total,
    λ name.
        let k = label_of u name in
        let found = verdict_at rules env shape labels_few classes_few i r at (lies r) (stands i r at is.0) (labels_in u) verdicts is.1 k (omega (arith, within name, label_total)) in
        let of_label = subst (λ (l : Bytes). IsLabelVerdict u env rules i (rule_row u env r) l found.0) (label_for_at u (omega (arith, labels_few)) name) found.2 in
        let open_of : is_unresolved found.0 ≡ true → IsFirstOpen rules i first = λ e. is_first refl (any_has is_unresolved verdicts found.0 (member_at verdicts k found.0 found.1) e) in
        (verdict_told first i r found.0, to_map_at (verdict_told first i r) verdicts k found.0 found.1, true_verdict rules env shape labels_few classes_few i r at (lies r) (stands i r at is.0) name first found.0 open_of of_label),
  )

  -- the findings of a rule are true of it
  found_true : (files : List File) (i : ℕ) (c : Checked) → slice_get rules i ≡ Some c.rule → AreFindings files rules env i c.found → (f : Finding) → Contains c.found f → IsTrueFinding rules c.rule f
  found_true files i c at are f has =
      let told = finding_is_true rules named env least files i f (are.each f has) in
      let same : told.0 ≡ c.rule = (let e : Some told.0 ≡ Some c.rule = sym told.1 ∙ at in cc) in
      subst (λ (r : RuleTree). IsTrueFinding rules r f) same told.2

  true_finding : (files : List File) (i : ℕ) (c : Checked) (told : RuleReport) → slice_get rules i ≡ Some c.rule → AreFindings files rules env i c.found → map finding_in told.findings ≡ map finding_told c.found → (k : ℕ) (finding : ReportedFinding)
      → slice_get told.findings k ≡ Some finding → IsTrueToldFinding rules c.rule finding
  true_finding files i c told at are same k finding here =
      let there : slice_get (map finding_told c.found) k ≡ Some (finding_in finding) = ap (λ l. slice_get l k) (sym same) ∙ to_map_at finding_in told.findings k finding here in
      let (f, is, tells) = of_map_at finding_told c.found k (finding_in finding) there in
      (f, tells, found_true files i c at are f (member_at c.found k f is))

  speaks : (files : List File) (labels : Bool) (i : ℕ) (c : Checked) (told : RuleReport) → slice_get rules i ≡ Some c.rule → IsRuleVerdict u env rules i c.rule c.verdict
      → (labels ≡ true → has_unresolved c.verdict ≡ true → IsFirstOpen rules i c.first) → AreFindings files rules env i c.found → rule_in told ≡ rule_told labels i c → SpeaksTruth rules env labels i c.rule told
  speaks files labels i c told at is is_first are tells = record {
    file = ap (λ (t : ToldRule). t.file) tells;
    alert = ap (λ (t : ToldRule). t.alert) tells;
    name = ap (λ (t : ToldRule). t.name) tells;
    name_span = ap (λ (t : ToldRule). t.name_span) tells;
    empty = subst (IsTrueEmptiness rules env c.rule) (sym (ap (λ (t : ToldRule). t.empty) tells)) (true_emptiness i c.rule c.verdict is);
    said = subst (IsTrueSaid rules env i c.rule labels) (sym (ap (λ (t : ToldRule). t.verdicts) tells)) (true_said i c.rule at labels c.first c.verdict is_first is);
    findings = true_finding files i c told at are (ap (λ (t : ToldRule). t.findings) tells);
  }

  rule_at : (checked : List Checked) (i : ℕ) (c : Checked) → map (λ (x : Checked). x.rule) checked ≡ rules → slice_get checked i ≡ Some c → slice_get rules i ≡ Some c.rule
  rule_at checked i c each at = ap (λ l. slice_get l i) (sym each) ∙ to_map_at (λ (x : Checked). x.rule) checked i c at

  all_speak : (files : List File) (labels : Bool) (checked : List Checked) (reports : List RuleReport) → AreChecked files labels rules env checked → map rule_in reports ≡ rules_told labels 0 checked → (i : ℕ) (r : RuleTree) (told : RuleReport)
      → slice_get rules i ≡ Some r → slice_get reports i ≡ Some told → SpeaksTruth rules env labels i r told
  all_speak files labels checked reports are tell i r told at here =
      let there : slice_get (rules_told labels 0 checked) i ≡ Some (rule_in told) = ap (λ l. slice_get l i) (sym tell) ∙ to_map_at rule_in reports i told here in
      let (c, is, numbered) = told_at labels 0 checked i (rule_in told) there in
      let zero : 0 + i ≡ i = omega arith in
      let tells : rule_told labels i c ≡ rule_in told = ap (λ k. rule_told labels k c) (sym zero) ∙ numbered in
      let of_rule = rule_at checked i c are.each_rule is in
      let same : c.rule ≡ r = (let e : Some c.rule ≡ Some r = sym of_rule ∙ at in cc) in
      subst (λ (x : RuleTree). SpeaksTruth rules env labels i x told) same (speaks files labels i c told of_rule (are.each_verdict i c is) (λ e. are.each_open e i c is) (are.each_list i c is) (sym tells))

-- a report on files is true
pub true_report : (files : List File) (labels : Bool) (report : Report) (on : IsReportOn files labels report) → AreWithin labels (accepted on.contents) → IsTrueReport files (accepted on.contents) report
true_report files labels report on fits =
    let rules = accepted on.contents in
    record {
      contents = on.contents;
      are_contents = on.are_contents;
      are_accepted = refl;
      files_said = on.files_are;
      env = on.env;
      least = on.least;
      no_star = no_star_in files on.contents on.are_contents;
      universe = on.universe_is;
      count = sym (length-map report.rules rule_in) ∙ ap length on.rules_are ∙ told_count labels 0 on.checked ∙ sym (length-map on.checked (λ (c : Checked). c.rule)) ∙ ap length on.are_checked.each_rule;
      all_true = subst (λ (l : Bool). (i : ℕ) (r : RuleTree) (told : RuleReport) → slice_get rules i ≡ Some r → slice_get report.rules i ≡ Some told → SpeaksTruth rules on.env l i r told) (sym on.labels_are)
          (all_speak rules (set_no_name files on.contents on.are_contents) on.env on.least fits.labels_fit fits.classes_fit (are_typed files on.contents on.are_contents) files labels on.checked report.rules on.are_checked on.rules_are);
    }
