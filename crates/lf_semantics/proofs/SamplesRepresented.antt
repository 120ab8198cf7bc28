-- The row of a recording rule, with the name and the rule's labels set, represents what the rule stores; and in a post-fixed point of the rules the rows represent each sample of a run.
use Rattle.std.proofs.Common.{◌≡◌, ◌≢◌, ◌<◌, Bool, true, false, cond, eqb, List, [], ◌∷◌, ◌++◌, map, length, Some, None, inl, inr, refl, sym, ◌∙◌, ap, subst}
use Rattle.std.specs.List.{AllByRecursion, Contains}
use Rattle.std.specs.Str.{bytes_eq}
use Rattle.std.proofs.lemmas.Bool.{eq-eqb}
use Rattle.std.proofs.lemmas.List.Elements.{Contains-append_cases}
use Rattle.lf_ast.specs.Labels.{Bytes, Labels}
use Rattle.lf_ast.specs.Rules.{RuleTree}
use Rattle.lf_ast.specs.declared.rule.RuleLabel.{RuleLabel}
use Rattle.lf_ast.specs.Selectors.{metric}
use Rattle.lf_semantics.specs.ClassRows.{HasShape, Represents, Sets, bottom}
use Rattle.lf_semantics.specs.Environments.{Admits, CoversRules, IsEnvironmentOf, IsKnown, IsPostFixedPoint, Leq, names_recorded, recorded_row, rule_row, with_text, with_texts}
use Rattle.lf_semantics.specs.Listing.{IsListing, Listing, class_of, label_of}
use Rattle.lf_semantics.specs.Parts.{is_evaluated, type_by_form}
use Rattle.lf_semantics.specs.RowTable.{Environment, is_label, row_named, row_of}
use Rattle.lf_semantics.specs.Texts.{HasTexts, value_of, with_label}
use Rattle.lf_semantics.specs.Mentions.{mention, mentions, rule_mentions}
use Rattle.lf_semantics.specs.Worlds.{AreScraped, IsRunFrom, IsSample, RuleGives, SetsNoName, Step, World, added, stored, with_labels}
use Rattle.lf_semantics.proofs.Members.{all_back, all_front, behind, first_or_behind, here, map_member, none_in, other_false, same_true, true_same}
use Rattle.lf_semantics.proofs.EffectsRepresent.{represents_with_label}
use Rattle.lf_semantics.proofs.GivenTexts.{evaluates_gives_texts}
use Rattle.lf_semantics.proofs.Kept.{with_label_has_texts}
use Rattle.lf_semantics.proofs.LabelTexts.{value-with_label}
use Rattle.lf_semantics.proofs.ListingLaws.{of_first_seen}
use Rattle.lf_semantics.proofs.Places.{metric_listed}
use Rattle.lf_semantics.proofs.Recorded.{recorder}
use Rattle.lf_semantics.proofs.RowLaws.{shape_bottom, shape_replaced}
use Rattle.lf_semantics.proofs.Soundness.{shape_of_row, sound}

module _ (u : Listing) (p : IsListing u) where
  pub shape_with_text : (name text : Bytes) (row : Sets) → HasShape u row → HasShape u (with_text u name text row)
  shape_with_text name text row shape = shape_replaced (is_label u name) (λ l c. eqb c (class_of u (label_of u name) text)) row ∙ shape

  pub shape_with_texts : (labels : List RuleLabel) (row : Sets) → HasShape u row → HasShape u (with_texts u labels row)
  shape_with_texts [] row shape = shape
  shape_with_texts (l ∷ labels) row shape = shape_with_text l.key l.value (with_texts u labels row) (shape_with_texts labels row shape)

  represents_with_text : (name text : Bytes) (row : Sets) (s : Labels) → label_of u name < length u.names → HasShape u row → Represents u row s → Represents u (with_text u name text row) (with_label name text s)
  represents_with_text name text row s listed shape represents =
      represents_with_label u p name text (λ l c. eqb c (class_of u (label_of u name) text)) row s listed shape represents (eq-eqb _ _ refl)

  represents_with_texts : (labels : List RuleLabel) (row : Sets) (s : Labels) → AllByRecursion (IsKnown u) (map (λ l. mention l.key (l.value ∷ [])) labels) → HasShape u row → Represents u row s
      → Represents u (with_texts u labels row) (with_labels labels s)
  represents_with_texts [] row s known shape represents = represents
  represents_with_texts (l ∷ labels) row s known shape represents =
      represents_with_text l.key l.value (with_texts u labels row) (with_labels labels s) known.0.0 (shape_with_texts labels row shape) (represents_with_texts labels row s known.1 shape represents)

  module _ (env : Environment) (r : RuleTree) (known : AllByRecursion (IsKnown u) (rule_mentions r)) (records : r.alert ≡ false) where
    labels_known : AllByRecursion (IsKnown u) (map (λ l. mention l.key (l.value ∷ [])) r.labels)
    labels_known =
        let P : Bool → Type 0 = λ b. AllByRecursion (IsKnown u) (cond b [] (mention metric (r.name ∷ []) ∷ map (λ l. mention l.key (l.value ∷ [])) r.labels)) in
        (subst P records (all_back (IsKnown u) (mentions r.expr) _ known)).1

    -- the recorded row represents a stored sample
    pub represents_stored : (row : Sets) (s : Labels) → HasShape u row → Represents u row s → Represents u (with_texts u r.labels (with_text u metric r.name row)) (stored r s)
    represents_stored row s shape represents =
        represents_with_texts r.labels (with_text u metric r.name row) (with_label metric r.name s) labels_known (shape_with_text metric r.name row shape) (represents_with_text metric r.name row s (metric_listed u p) shape represents)

-- a stored sample has no empty text

labels_have_texts : (labels : List RuleLabel) (s : Labels) → HasTexts s → HasTexts (with_labels labels s)
labels_have_texts [] s h = h
labels_have_texts (l ∷ labels) s h = with_label_has_texts l.key l.value (with_labels labels s) (labels_have_texts labels s h)

pub stored_texts : (r : RuleTree) (s : Labels) → HasTexts s → HasTexts (stored r s)
stored_texts r s h = labels_have_texts r.labels (with_label metric r.name s) (with_label_has_texts metric r.name s h)

-- a stored sample has the recorded name

name_kept : (labels : List RuleLabel) (s : Labels) → AllByRecursion (λ l. l.key ≢ metric) labels → value_of (with_labels labels s) metric ≡ value_of s metric
name_kept [] s other = refl
name_kept (l ∷ labels) s other =
    value-with_label l.key l.value (with_labels labels s) metric ∙ ap (λ b. cond b l.value (value_of (with_labels labels s) metric)) (other_false l.key metric other.0) ∙ name_kept labels s other.1

pub name_of_stored : (r : RuleTree) (s : Labels) → SetsNoName r → value_of (stored r s) metric ≡ r.name
name_of_stored r s other =
    name_kept r.labels (with_label metric r.name s) other ∙ value-with_label metric r.name s metric ∙ ap (λ b. cond b r.name (value_of s metric)) (same_true metric metric refl)

-- recorded names

pub none_named : (env : Environment) (name : Bytes) → ((x : Bytes) → Contains (map (λ (entry : Bytes × Sets). entry.0) env) x → x ≢ name) → row_named env name ≡ None
none_named [] name h = refl
none_named (entry ∷ env) name h = by (bytes_eq entry.0 name) refl (none_named env name (λ x c. h x (behind entry.0 _ x c)))
  where
    by : (b : Bool) → bytes_eq entry.0 name ≡ b → row_named env name ≡ None → cond b (Some entry.1) (row_named env name) ≡ None
    by true e rest = absurd (h entry.0 (here entry.0 _) (true_same entry.0 name e))
    by false e rest = rest

pub represents_leq : (u : Listing) (row other : Sets) (s : Labels) → Leq row other → Represents u row s → Represents u other s
represents_leq u row other s leq represents = let g = leq represents.0 in (g.0, λ name. g.1 _ _ (represents.1 name))

-- runs

module _ (u : Listing) (p : IsListing u) (rules : List RuleTree) (covers : CoversRules u rules) (named : (r : RuleTree) → Contains rules r → SetsNoName r) (env : Environment) (of : IsEnvironmentOf u rules env) (closed : IsPostFixedPoint u rules env) where
  -- each recorded sample has no empty text and is represented by the row of its name
  abbrev pub AllRepresented : List Labels → Type 0
  AllRepresented N = (s : Labels) → Contains N s → HasTexts s × (row : Sets) × (row_named env (value_of s metric) ≡ Some row) × Represents u row s

  pub shape_rule : (r : RuleTree) → HasShape u (rule_row u env r)
  shape_rule r = elim (is_evaluated (type_by_form r.expr)) as (λ b. HasShape u (cond b (row_of u env r.expr) (bottom u))) [ true ↦ shape_of_row u p env of.environment r.expr | false ↦ shape_bottom u ]

  module _ (S : List Labels) (scraped : AreScraped rules S) where
    unrecorded : (s : Labels) → Contains S s → row_named env (value_of s metric) ≡ None
    unrecorded s c =
        none_named env (value_of s metric)
        (λ x e f. let P : List Bytes → Type 0 = λ names. Contains names x in
        let r = recorder rules x (of_first_seen (names_recorded rules) x (subst P of.names e)) in
        (scraped s c).2 r.0 r.1 r.2 (sym f ∙ sym r.3))

    pub admits : (N : List Labels) → AllRepresented N → Admits u env S N
    admits N each = record { scraped = λ s c. ((scraped s c).0, (scraped s c).1, unrecorded s c); recorded = each }

    -- what a rule gives in a step has no empty text
    pub step_texts : (N : List Labels) → AllRepresented N → (r : RuleTree) (R : List Labels) → RuleGives S N r R → (s : Labels) → Contains R s → HasTexts s
    step_texts N each r R w s inside = evaluates_gives_texts S N (λ x c. (scraped x c).0) (λ x c. (each x c).0) r.expr R w.1 s inside

    -- the rule's row represents what a rule gives in a step
    pub step_represents : (N : List Labels) → AllRepresented N → (r : RuleTree) → Contains rules r → (R : List Labels) → RuleGives S N r R → (s : Labels) → Contains R s → Represents u (rule_row u env r) s
    step_represents N each r c R w s inside =
        let L : Bool → Type 0 = λ b. Represents u (cond b (row_of u env r.expr) (bottom u)) s in
        subst L (sym w.0) (sound u p env of.environment S N (admits N each) r.expr (all_front (IsKnown u) (mentions r.expr) _ (covers r c)) R s w.1 inside)

    pub added_represented : (N : List Labels) → AllRepresented N → (step : Step) → Contains rules step.rule → RuleGives S N step.rule step.gives → AllRepresented (added step)
    added_represented N each step c w s i = by step.rule.alert refl i
      where
        by : (b : Bool) → step.rule.alert ≡ b → Contains (cond b [] (map (stored step.rule) step.gives)) s → HasTexts s × (row : Sets) × (row_named env (value_of s metric) ≡ Some row) × Represents u row s
        by true e d = absurd (none_in s d)
        by false e d =
            let m = map_member (stored step.rule) step.gives s d in
            let k = closed step.rule c e in
            let represents : Represents u (recorded_row u env step.rule) (stored step.rule m.0) =
            represents_stored u p env step.rule (covers step.rule c) e (rule_row u env step.rule) m.0 (shape_rule step.rule) (step_represents N each step.rule c step.gives w m.0 m.1) in
            let L : Labels → Type 0 = λ x. Represents u k.0 x in (
              subst HasTexts (sym m.2) (stored_texts step.rule m.0 (step_texts N each step.rule step.gives w m.0 m.1)),
              k.0,
              ap (λ x. row_named env (value_of x metric)) m.2 ∙ ap (row_named env) (name_of_stored step.rule m.0 (named step.rule c)) ∙ k.1,
              subst L (sym m.2) (represents_leq u _ k.0 (stored step.rule m.0) k.2 represents),
            )

    pub both_represented : (N M : List Labels) → AllRepresented N → AllRepresented M → AllRepresented (N ++ M)
    both_represented N M k l s i = elim (Contains-append_cases N M s i) [ inl a ↦ k s a | inr b ↦ l s b ]

    run_represents : (N : List Labels) (steps : List Step) → AllRepresented N → IsRunFrom rules S N steps → (step : Step) → Contains steps step → (s : Labels) → Contains step.gives s → Represents u (rule_row u env step.rule) s
    run_represents N [] each run step i s j = absurd (none_in step i)
    run_represents N (first ∷ steps) each run step i s j = elim (first_or_behind first steps step i) [
      | inl e ↦ let P : Step → Type 0 = λ x. Contains x.gives s → Represents u (rule_row u env x.rule) s in subst P e (step_represents N each first.rule run.0 first.gives run.1 s) j
      | inr d ↦ run_represents (N ++ added first) steps (both_represented N (added first) each (added_represented N each first run.0 run.1)) run.2 step d s j
    ]

  -- In every world each sample of a rule is represented by the rule's row, in every post-fixed point of the rules, also where rules read one another in a circle.
  pub sample_represented : (world : World rules) (rule : RuleTree) (s : Labels) → IsSample world rule s → Represents u (rule_row u env rule) s
  sample_represented world rule s sample =
      let P : RuleTree → Type 0 = λ r. Represents u (rule_row u env r) s in
      subst P sample.2 (run_represents world.series world.scraped [] world.steps (λ x c. absurd (none_in x c)) world.run sample.0 sample.1 s sample.3)
