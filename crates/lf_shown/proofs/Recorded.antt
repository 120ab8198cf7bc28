-- What is built for a recorded name: by the first rule that fits.
use Rattle.std.proofs.Common.{◌≡◌, ◌≢◌, ◌<◌, ◌⊎◌, inl, inr, ℕ, zero, suc, ◌+◌, Bool, true, false, not, ◌||◌, cond, eqb, List, [], ◌∷◌, ◌++◌, map, length, Option, Some, None, refl, sym, ◌∙◌, ap, subst, arith, option_and_then, option_map, slice_get, option_to_list}
use Rattle.std.proofs.lemmas.Bool.{not-true}
use Rattle.std.proofs.lemmas.Bool.{or_parts}
use Rattle.std.proofs.lemmas.Bool.{eqb-true}
use Rattle.std.specs.Prelude.{nat_lt}
use Rattle.std.specs.List.{AllByRecursion, Contains, filter, list_any, sum}
use Rattle.std.specs.Str.{bytes_eq}
use Rattle.std.proofs.lemmas.Bool.Decides.{nat_tests}
use Rattle.std.proofs.lemmas.List.Elements.{Contains-append_left, Contains-append_right, Contains-append_cases}
use Rattle.std.proofs.lemmas.Option.{none-some, same_Some}
use Rattle.lf_laws.proofs.Booleans.{and_left, and_right, clash}
use Rattle.lf_laws.proofs.Members.{any_in, any_out, here, none_in, only_one, other_false, same_true, true_same}
use Rattle.lf_laws.proofs.Slices.{member_at, number_of, one_at}
use Rattle.lf_ast.specs.Labels.{Bytes, Labels}
use Rattle.lf_ast.specs.Rules.{RuleTree}
use Rattle.lf_ast.specs.Selectors.{metric}
use Rattle.lf_ast.specs.Tree.{Tree}
use Rattle.lf_ast.specs.declared.rule.RuleLabel.{RuleLabel}
use Rattle.lf_semantics.specs.ClassRows.{HasShape, HoldsText, Represents, Sets, bottom, is_live}
use Rattle.lf_semantics.specs.Environments.{records, CoversRules, IsEnvironmentOf, IsKnown, IsPostFixedPoint, IsRow, recorded_row, rule_row, with_text, with_texts}
use Rattle.lf_semantics.specs.Grouped.{is_metric}
use Rattle.lf_semantics.specs.Listing.{IsListing, Listing, class_of, label_of, other_class}
use Rattle.lf_semantics.specs.Mentions.{mention, mentions}
use Rattle.lf_semantics.specs.Parts.{is_evaluated, type_by_form}
use Rattle.lf_semantics.specs.RowTable.{Environment, is_label, row_named, row_of}
use Rattle.lf_semantics.specs.Texts.{value_of, with_label}
use Rattle.lf_semantics.specs.Worlds.{SetsNoName, stored, with_labels}
use Rattle.lf_semantics.proofs.LabelTexts.{value-with_label}
use Rattle.lf_semantics.proofs.LeqLaws.{bottom_dead}
use Rattle.lf_semantics.proofs.Members.{all_back, in_filter}
use Rattle.lf_semantics.proofs.Places.{label_test, metric_listed, same_text}
use Rattle.lf_semantics.proofs.SamplesRepresented.{name_of_stored, represents_leq, represents_stored, stored_texts}
use Rattle.lf_semantics.proofs.Soundness.{shape_of_row}
use Rattle.lf_witness.specs.Strict.{AreSelected, IsSet, StrictlyEvaluates}
use Rattle.lf_witness.specs.StrictRuns.{IsStored, StepAdds, StoredOf, StrictlyStored, rules_at}
use Rattle.lf_witness.proofs.RulesAt.{rules_both}
use Rattle.lf_witness.proofs.SameSets.{same_itself}
use Rattle.lf_deps.specs.Reading.{IsCyclic, Reads, Records, selectors}
use Rattle.lf_trials.specs.Building.{Builder, Building, with_step}
use Rattle.lf_trials.specs.Built.{before_recording, build, build_by_rule, builder, fits, selector_count, sets_label}
use Rattle.lf_trials.specs.Candidates.{is_one_of, labels_in}
use Rattle.lf_trials.specs.Forks.{TellsForks}
use Rattle.lf_trials.specs.Given.{Given, holds_texts, losing}
use Rattle.lf_trials.specs.Reached.{first_rule, has_several_rules, is_marked}
use Rattle.lf_shown.specs.Agreement.{AgreeOn, Gives, MetricNames}
use Rattle.lf_shown.proofs.Rows.{Held, replaced_held, replaced_passes, replaced_was_live}
use Rattle.lf_shown.proofs.Choices.{AtMostOne, Gave, HoldsGiven, In, IsSmall, few_lost, holds_by_test, of_losing, test_by_holds}
use Rattle.lf_shown.proofs.Effects.{listed_in}
use Rattle.lf_shown.proofs.Made.{Answers, IsMade, one_apart}
use Rattle.lf_shown.proofs.Reading.{no_fork}
use Rattle.lf_shown.proofs.Selectors.{IsHanded, NameReads}
use Rattle.lf_classes.proofs.Cutting.{sum_cons}
use Rattle.lf_shown.proofs.Worlds.{agree_less, count_both, once_both, stored_then}

-- ---- the labels of a rule

abbrev pub LabelsKnown : Listing → List RuleLabel → Type 0
LabelsKnown u labels = AllByRecursion (IsKnown u) (map (λ (l : RuleLabel). mention l.key (l.value ∷ [])) labels)

abbrev sets : List RuleLabel → Bytes → Bool
sets labels name = list_any (λ (l : RuleLabel). bytes_eq l.key name) labels

module _ (u : Listing) where
  pub texts_live : (labels : List RuleLabel) (row : Sets) → is_live (with_texts u labels row) ≡ true → is_live row ≡ true
  texts_live [] row live = live
  texts_live (l ∷ labels) row live = texts_live labels row (replaced_was_live (is_label u l.key) (λ k c. eqb c (class_of u (label_of u l.key) l.value)) (with_texts u labels row) live)

  -- a label that isn't set has the classes that it had
  pub texts_held : (labels : List RuleLabel) (row : Sets) (name : Bytes) (c : ℕ) → LabelsKnown u labels → is_live (with_texts u labels row) ≡ true → Held (with_texts u labels row) (label_of u name) c → sets labels name ≡ false → Held row (label_of u name) c
  texts_held [] row name c known live held none = held
  texts_held (l ∷ labels) row name c known live held none =
      let chosen = is_label u l.key in
      let test : ℕ → ℕ → Bool = λ k c. eqb c (class_of u (label_of u l.key) l.value) in
      let b = or_parts (bytes_eq l.key name) (sets labels name) none in
      texts_held labels row name c known.1 (replaced_was_live chosen test (with_texts u labels row) live)
      (replaced_held chosen test (with_texts u labels row) live (label_of u name) c held (label_test u l.key name known.0.0 ∙ b.0)) b.1

  -- a sample with the labels of a rule has the text whose class is left
  texts_agree : (labels : List RuleLabel) (row : Sets) (s : Labels) (name text : Bytes) → LabelsKnown u labels → is_live (with_texts u labels row) ≡ true → Held (with_texts u labels row) (label_of u name) (class_of u (label_of u name) text)
      → (Held row (label_of u name) (class_of u (label_of u name) text) → value_of s name ≡ text) → value_of (with_labels labels s) name ≡ text
  texts_agree [] row s name text known live held rest = rest held
  texts_agree (l ∷ labels) row s name text known live held rest =
      value-with_label l.key l.value (with_labels labels s) name
      ∙ by (bytes_eq l.key name) refl (λ h. texts_agree labels row s name text known.1 (replaced_was_live (is_label u l.key) (λ k c. eqb c (class_of u (label_of u l.key) l.value)) (with_texts u labels row) live) h rest)
    where
      chosen : ℕ → Bool
      chosen = is_label u l.key

      test : ℕ → ℕ → Bool
      test k c = eqb c (class_of u (label_of u l.key) l.value)

      by : (b : Bool) → bytes_eq l.key name ≡ b → (Held (with_texts u labels row) (label_of u name) (class_of u (label_of u name) text) → value_of (with_labels labels s) name ≡ text) → cond b l.value (value_of (with_labels labels s) name) ≡ text
      by true e later =
          let k = replaced_passes (is_label u l.key) (λ k c. eqb c (class_of u (label_of u l.key) l.value)) (with_texts u labels row) live (label_of u name) (class_of u (label_of u name) text) held (label_test u l.key name known.0.0 ∙ e) in
          let same : l.key ≡ name = true_same l.key name e in
          let classes : class_of u (label_of u name) text ≡ class_of u (label_of u l.key) l.value = eqb-true _ _ k in
          let own = known.0.1.0 in
          same_text (Rattle.lf_semantics.specs.Listing.class_texts u (label_of u l.key)) l.value text (omega (arith, own)) (sym classes ∙ ap (λ n. class_of u (label_of u n) text) (sym same))
      by false e later = later (replaced_held (is_label u l.key) (λ k c. eqb c (class_of u (label_of u l.key) l.value)) (with_texts u labels row) live (label_of u name) (class_of u (label_of u name) text) held (label_test u l.key name known.0.0 ∙ e))

  -- a label beyond the universe isn't set
  labels_beyond : (labels : List RuleLabel) (s : Labels) (name : Bytes) → LabelsKnown u labels → (In u name → ⊥) → value_of (with_labels labels s) name ≡ value_of s name
  labels_beyond [] s name known out = refl
  labels_beyond (l ∷ labels) s name known out =
      let other : bytes_eq l.key name ≡ false = other_false l.key name (λ e. out (subst (In u) e (listed_in u l.key known.0.0))) in
      value-with_label l.key l.value (with_labels labels s) name ∙ ap (λ b. cond b l.value (value_of (with_labels labels s) name)) other ∙ labels_beyond labels s name known.1 out

-- ---- the first rule that fits

pub first_found : (test : ℕ → RuleTree → Bool) (k : ℕ) (rs : List RuleTree) (j : ℕ) (r : RuleTree) → slice_get rs j ≡ Some r → test (k + j) r ≡ true
    → (i : ℕ) × (q : RuleTree) × (first_rule test k rs ≡ Some (k + i, q)) × (slice_get rs i ≡ Some q) × (test (k + i) q ≡ true)
first_found test k [] j r at passes = absurd (cc)
first_found test k (x ∷ rs) j r at passes = by (test k x) refl j at passes (λ j at passes. first_found test (suc k) rs j r at passes)
  where
    Found : ℕ → List RuleTree → Type 0
    Found k rs = (i : ℕ) × (q : RuleTree) × (first_rule test k rs ≡ Some (k + i, q)) × (slice_get rs i ≡ Some q) × (test (k + i) q ≡ true)

    same : k + 0 ≡ k
    same = omega arith

    by : (b : Bool) → test k x ≡ b → (j : ℕ) → slice_get (x ∷ rs) j ≡ Some r → test (k + j) r ≡ true → ((j : ℕ) → slice_get rs j ≡ Some r → test (suc k + j) r ≡ true → Found (suc k) rs) → Found k (x ∷ rs)
    by true is j at passes rest = (0, x, ap (λ b. cond b (Some (k, x)) (first_rule test (suc k) rs)) is ∙ ap (λ z. Some (z, x)) (sym same), refl, ap (λ z. test z x) same ∙ is)
    by false is zero at passes rest = let q : x ≡ r = cc in absurd (clash _ (ap (λ z. test k z) q ∙ ap (λ z. test z r) (sym same) ∙ passes) is)
    by false is (suc j) at passes rest =
        let e : suc k + j ≡ k + suc j = omega arith in
        let f = rest j at (ap (λ z. test z r) e ∙ passes) in
        let g : suc k + f.0 ≡ k + suc f.0 = omega arith in
        (suc f.0, f.1, ap (λ b. cond b (Some (k, x)) (first_rule test (suc k) rs)) is ∙ f.2 ∙ ap (λ z. Some (z, f.1)) g, f.3, ap (λ z. test z f.1) (sym g) ∙ f.4)

-- a name that not several rules record is recorded by one alone
pub one_rule : (rules : List RuleTree) (n : Bytes) → has_several_rules rules n ≡ false → (r q : RuleTree) → Contains rules r → Contains rules q → Records r n → Records q n → r ≡ q
one_rule rules n few r q c d a b =
    by (filter (records n) rules) few (in_filter (records n) rules r c (passes r a)) (in_filter (records n) rules q d (passes q b))
  where
    passes : (x : RuleTree) → Records x n → records n x ≡ true
    passes x is = rw (is.0, same_true x.name n is.1) refl

    by : (xs : List RuleTree) → nat_lt 1 (length xs) ≡ false → Contains xs r → Contains xs q → r ≡ q
    by [] few c d = absurd (none_in r c)
    by (x ∷ []) few c d = sym (only_one x r c) ∙ only_one x q d
    by (x ∷ y ∷ xs) few c d = absurd (grind (arith, nat_tests))

-- ---- the row of a name

pub named_row : (u : Listing) (env : Environment) (n : Bytes) (row : Sets) → AllByRecursion (λ (entry : Bytes × Sets). IsRow u entry.1) env → row_named env n ≡ Some row → IsRow u row
named_row u [] n row rows e = absurd (cc)
named_row u (entry ∷ env) n row rows e = by (bytes_eq entry.0 n) e (λ f. named_row u env n row rows.1 f)
  where
    by : (b : Bool) → cond b (Some entry.1) (row_named env n) ≡ Some row → (row_named env n ≡ Some row → IsRow u row) → IsRow u row
    by true e rest = let q : entry.1 ≡ row = cc in subst (IsRow u) q rows.0
    by false e rest = rest e

module _ (u : Listing) (rules : List RuleTree) (p : IsListing u) (small : IsSmall u) (env : Environment) (holds_fork : Tree → Bool) (tells : TellsForks rules holds_fork)
    (covers : CoversRules u rules) (unnamed : (r : RuleTree) → Contains rules r → SetsNoName r) (of : IsEnvironmentOf u rules env) where
  module _ (r : RuleTree) (there : Contains rules r) (recording : r.alert ≡ false) where
    known_labels : LabelsKnown u r.labels
    known_labels =
        let P : Bool → Type 0 = λ b. AllByRecursion (IsKnown u) (cond b [] (mention metric (r.name ∷ []) ∷ map (λ (l : RuleLabel). mention l.key (l.value ∷ [])) r.labels)) in
        (subst P recording (all_back (IsKnown u) (mentions r.expr) _ (covers r there))).1

    pub known_name : class_of u (label_of u metric) r.name < other_class u (label_of u metric)
    known_name =
        let P : Bool → Type 0 = λ b. AllByRecursion (IsKnown u) (cond b [] (mention metric (r.name ∷ []) ∷ map (λ (l : RuleLabel). mention l.key (l.value ∷ [])) r.labels)) in
        (subst P recording (all_back (IsKnown u) (mentions r.expr) _ (covers r there))).0.1.0

    abbrev named : Sets
    named = with_text u metric r.name (rule_row u env r)

    named_live : is_live (recorded_row u env r) ≡ true → is_live named ≡ true
    named_live live = texts_live u r.labels named live

    pub row_live : is_live (recorded_row u env r) ≡ true → is_live (rule_row u env r) ≡ true
    row_live live = replaced_was_live (is_label u metric) (λ l c. eqb c (class_of u (label_of u metric) r.name)) (rule_row u env r) (named_live live)

    -- the metric name is left with one class
    pub metric_class : (c : ℕ) → is_live (recorded_row u env r) ≡ true → Held (recorded_row u env r) (label_of u metric) c → c ≡ class_of u (label_of u metric) r.name
    metric_class c live held =
        let k = texts_held u r.labels named metric c known_labels live held (sets_none r.labels (unnamed r there)) in
        eqb-true _ _ (replaced_passes (is_label u metric) (λ l c. eqb c (class_of u (label_of u metric) r.name)) (rule_row u env r) (named_live live) (label_of u metric) c k (label_test u metric metric (metric_listed u p) ∙ same_true metric metric refl))
      where
        sets_none : (labels : List RuleLabel) → AllByRecursion (λ l. l.key ≢ metric) labels → sets labels metric ≡ false
        sets_none [] all = refl
        sets_none (l ∷ labels) all = rw (other_false l.key metric all.0, sets_none labels all.1) refl

    evaluated : is_live (rule_row u env r) ≡ true → is_evaluated (type_by_form r.expr) ≡ true
    evaluated live = by (is_evaluated (type_by_form r.expr)) refl live
      where
        by : (b : Bool) → is_evaluated (type_by_form r.expr) ≡ b → is_live (cond b (row_of u env r.expr) (bottom u)) ≡ true → is_evaluated (type_by_form r.expr) ≡ true
        by true e live = e
        by false e live = absurd (clash _ live (bottom_dead u p))

    pub row_is : is_live (rule_row u env r) ≡ true → rule_row u env r ≡ row_of u env r.expr
    row_is live = ap (λ b. cond b (row_of u env r.expr) (bottom u)) (evaluated live)

    shape_rule : HasShape u (row_of u env r.expr)
    shape_rule = shape_of_row u p env of.environment r.expr

    -- ---- the step of the rule

    module _ (k : ℕ) (at : slice_get rules k ≡ Some r) (acyclic : Reads rules r.expr r.name → ⊥) (evaluates : is_evaluated (type_by_form r.expr) ≡ true) (count : ℕ) (b : Building) (one : Labels)
        (counts : count ≡ length (selectors r.expr)) (gives : Gives rules (Reads rules r.expr) count b (λ X. StrictlyEvaluates X r.expr) one) where
      abbrev Within : MetricNames
      Within = NameReads rules r.name

      abbrev kept : Labels
      kept = stored r one

      kept_named : value_of kept metric ≡ r.name
      kept_named = name_of_stored r one (unnamed r there)

      reads_more : (n : Bytes) → Reads rules r.expr n → Within n
      reads_more n reads = inr (r, there, (recording, refl), reads)

      one_count : selector_count rules (k ∷ []) ≡ length (selectors r.expr)
      one_count =
          let e : rules_at rules (k ∷ []) ≡ r ∷ [] = ap (λ (o : Option RuleTree). option_to_list o ++ []) at in
          ap (λ rs. sum (map (λ r. length (selectors r.expr)) rs)) e ∙ (let f = sum_cons (length (selectors r.expr)) [] in omega (arith, f))

      adds : (V : List Labels) → StrictlyEvaluates V r.expr (Some (one ∷ [])) → StepAdds V r (Some (kept ∷ []))
      adds V given =
          inr (one ∷ [], inr (evaluates, given), subst (λ alert. StoredOf r alert (one ∷ []) (Some (kept ∷ []))) (sym recording) (one_apart (IsStored r) one kept refl))

      agrees_itself : (Read : MetricNames) (V : List Labels) → AgreeOn Read V V
      agrees_itself Read V s read = ((λ c. c), λ c. c)

      pub gives_step : Gives rules Within 0 (with_step k b) (λ X. IsSet (AreSelected X (Some r.name) [])) kept
      gives_step = record {
        series_read = λ s c. reads_more (value_of s metric) (gives.series_read s c);
        steps_read = λ j c. elim (Contains-append_cases b.steps (k ∷ []) j c) [
          | inl d ↦ let q = gives.steps_read j d in (q.0, q.1, q.2, reads_more q.0.name q.3)
          | inr d ↦ (r, subst (λ i. slice_get rules i ≡ Some r) (only_one k j d) at, recording, inl refl)
        ];
        steps_once = once_both b.steps (k ∷ []) gives.steps_once ((λ d. none_in k d), tt) (λ j c d.
            let q = gives.steps_read j c in
            let same : q.0 ≡ r = one_at rules k q.0 r (subst (λ i. slice_get rules i ≡ Some q.0) (sym (only_one k j d)) q.1) at in
            acyclic (subst (λ (x : RuleTree). Reads rules r.expr x.name) same q.3));
        few = let h = gives.few in let n = count_both rules b.steps (k ∷ []) in let m = one_count in omega (arith, h, n, m, counts);
        runs = λ W agree.
            let run = gives.runs W (agree_less Within (Reads rules r.expr) W b.series reads_more agree) in
            let V : List Labels = run.0 in
            let given : StrictlyEvaluates V r.expr (Some (one ∷ [])) = run.3 V (agrees_itself (Reads rules r.expr) V) in (
              V ++ (kept ∷ []),
              subst (λ rs. StrictlyStored W rs (Some (V ++ (kept ∷ [])))) (sym (rules_both rules b.steps (k ∷ []) ∙ ap (λ (o : Option RuleTree). rules_at rules b.steps ++ (option_to_list o ++ [])) at))
                  (stored_then (rules_at rules b.steps) (r ∷ []) W V (V ++ (kept ∷ [])) run.1 (inr (kept ∷ [], adds V given, same_itself (V ++ (kept ∷ []))))),
              record {
                kept = λ s c. Contains-append_left V (kept ∷ []) s (run.2.kept s c);
                further = λ s c. elim (Contains-append_cases V (kept ∷ []) s c) [
                  | inl d ↦ elim (run.2.further s d) [ inl w ↦ inl w | inr read ↦ inr (reads_more (value_of s metric) read) ]
                  | inr d ↦ inr (inl (ap (λ x. value_of x metric) (sym (only_one kept s d)) ∙ kept_named))
                ];
              },
              λ X agrees. (
                λ s c named passes.
                    elim (Contains-append_cases V (kept ∷ []) s ((agrees s (inl named)).0 c)) [
                      | inl d ↦ elim (run.2.further s d) [
                        | inl w ↦ absurd (acyclic (subst (Reads rules r.expr) named (gives.series_read s ((agree s (inl named)).0 w))))
                        | inr read ↦ absurd (acyclic (subst (Reads rules r.expr) named read))
                      ]
                      | inr d ↦ d
                    ],
                λ s c.
                    let e = only_one kept s c in
                    let P : Labels → Type 0 = λ x. Contains X x × (value_of x metric ≡ r.name) × Unit {0} in
                    subst P e ((agrees kept (inl kept_named)).1 (Contains-append_right V (kept ∷ []) kept (here kept [])), kept_named, tt),
              ),
            );
      }

    -- ---- what is built by the rule

    -- without the name and the labels that the rule sets
    abbrev lost : Bytes → Bool
    lost name = is_metric name || sets_label r name

    holds_before : (D : Given) → HoldsGiven u (recorded_row u env r) D → HoldsGiven u (rule_row u env r) (losing lost D)
    holds_before D h = record {
      live = row_live h.live;
      held = λ name text there given.
          let left = of_losing u lost D name text given in
          let parts = or_parts (is_metric name) (sets_label r name) left.0 in
          let k = texts_held u r.labels named name (class_of u (label_of u name) text) known_labels h.live (h.held name text there left.1) parts.1 in
          replaced_held (is_label u metric) (λ l c. eqb c (class_of u (label_of u metric) r.name)) (rule_row u env r) (named_live h.live) (label_of u name) (class_of u (label_of u name) text) k
          (label_test u metric name (metric_listed u p) ∙ Rattle.lf_ast.proofs.LabelOrders.symmetric metric name ∙ parts.0);
    }

    module _ (k : ℕ) (at : slice_get rules k ≡ Some r) (acyclic : Reads rules r.expr r.name → ⊥) (b : Builder) (silent : Bool)
        (made : IsMade u rules (row_of u env r.expr) (Reads rules r.expr) (length (selectors r.expr)) (λ X. StrictlyEvaluates X r.expr) b (holds_fork r.expr) silent) (D : Given) (h : HoldsGiven u (recorded_row u env r) D) where
      handed_on : IsHanded rules u r.name D → (holds_fork r.expr ≡ false) ⊎ AtMostOne u (losing lost D)
      handed_on (inl (none, total)) = inl (no_fork rules holds_fork tells r.expr (λ fork. none (inr (r, there, (recording, refl), fork))))
      handed_on (inr few) = inr (few_lost u lost D few)

      before : HoldsGiven u (row_of u env r.expr) (losing lost D)
      before = subst (λ row. HoldsGiven u row (losing lost D)) (row_is (row_live h.live)) (holds_before D h)

      pub answers_rule : IsHanded rules u r.name D → Answers u rules (recorded_row u env r) (NameReads rules r.name) 0 (λ X. IsSet (AreSelected X (Some r.name) [])) (option_map (with_step k) (b (losing lost D))) D
      answers_rule handed =
          let a = made.answers (losing lost D) before (handed_on handed) in
          let live = row_live h.live in
          record {
            building = with_step k a.building;
            is_built = ap (option_map (with_step k)) a.is_built;
            one = stored r a.one;
            represented = represents_stored u p env r (covers r there) recording (rule_row u env r) a.one (subst (HasShape u) (sym (row_is live)) shape_rule) (subst (λ row. Represents u row a.one) (sym (row_is live)) a.represented);
            full = stored_texts r a.one a.full;
            within = λ name out. labels_beyond u r.labels (with_label metric r.name a.one) name known_labels out ∙ value-with_label metric r.name a.one name
                ∙ ap (λ b. cond b r.name (value_of a.one name)) (other_false metric name (λ e. out (subst (In u) e (listed_in u metric (metric_listed u p))))) ∙ a.within name out;
            agrees = λ name text inside given. by_labels a.one name text inside given (λ kept. a.agrees name text inside kept);
            gives = gives_step k at acyclic (evaluated live) (length (selectors r.expr)) a.building a.one refl a.gives;
          }
        where
          by_labels : (one : Labels) (name text : Bytes) → In u name → Gave D name text → (Gave (losing lost D) name text → value_of one name ≡ text) → value_of (stored r one) name ≡ text
          by_labels one name text inside given agrees = by (sets r.labels name) refl
            where
              held : Held (recorded_row u env r) (label_of u name) (class_of u (label_of u name) text)
              held = h.held name text inside given

              of_name : bytes_eq metric name ≡ true → Held named (label_of u name) (class_of u (label_of u name) text) → r.name ≡ text
              of_name e kept =
                  let same = true_same metric name e in
                  let k = eqb-true _ _ (replaced_passes (is_label u metric) (λ l c. eqb c (class_of u (label_of u metric) r.name)) (rule_row u env r) (named_live h.live) (label_of u name) (class_of u (label_of u name) text) kept (label_test u metric name (metric_listed u p) ∙ e)) in
                  let own = known_name in
                  same_text (Rattle.lf_semantics.specs.Listing.class_texts u (label_of u metric)) r.name text (omega (arith, own)) (sym k ∙ ap (λ n. class_of u (label_of u n) text) (sym same))

              not_set : (c : Bool) → bytes_eq metric name ≡ c → sets r.labels name ≡ false → Held named (label_of u name) (class_of u (label_of u name) text) → cond c r.name (value_of one name) ≡ text
              not_set true e none kept = of_name e kept
              not_set false e none kept =
                  agrees (ap (λ b. cond (b || sets_label r name) None (D name)) (Rattle.lf_ast.proofs.LabelOrders.symmetric name metric ∙ e) ∙ ap (λ b. cond b None (D name)) none ∙ given)

              -- a label that is set has the rule's text, and its class is the only one left
              if_set : sets r.labels name ≡ true → (labels : List RuleLabel) (row : Sets) (s : Labels) → LabelsKnown u labels → is_live (with_texts u labels row) ≡ true → sets labels name ≡ true → Held (with_texts u labels row) (label_of u name) (class_of u (label_of u name) text)
                  → value_of (with_labels labels s) name ≡ text
              if_set is [] row s known live some held = absurd (cc)
              if_set is (l ∷ labels) row s known live some held =
                  value-with_label l.key l.value (with_labels labels s) name
                  ∙ pick (bytes_eq l.key name) refl some (λ some h. if_set is labels row s known.1 (replaced_was_live (is_label u l.key) (λ k c. eqb c (class_of u (label_of u l.key) l.value)) (with_texts u labels row) live) some h)
                where
                  pick : (b : Bool) → bytes_eq l.key name ≡ b → (b || sets labels name) ≡ true → (sets labels name ≡ true → Held (with_texts u labels row) (label_of u name) (class_of u (label_of u name) text) → value_of (with_labels labels s) name ≡ text)
                      → cond b l.value (value_of (with_labels labels s) name) ≡ text
                  pick true e some rest =
                      let k = replaced_passes (is_label u l.key) (λ k c. eqb c (class_of u (label_of u l.key) l.value)) (with_texts u labels row) live (label_of u name) (class_of u (label_of u name) text) held (label_test u l.key name known.0.0 ∙ e) in
                      let own = known.0.1.0 in
                      same_text (Rattle.lf_semantics.specs.Listing.class_texts u (label_of u l.key)) l.value text (omega (arith, own)) (sym (eqb-true _ _ k) ∙ ap (λ n. class_of u (label_of u n) text) (sym (true_same l.key name e)))
                  pick false e some rest = rest some (replaced_held (is_label u l.key) (λ k c. eqb c (class_of u (label_of u l.key) l.value)) (with_texts u labels row) live (label_of u name) (class_of u (label_of u name) text) held (label_test u l.key name known.0.0 ∙ e))

              by : (b : Bool) → sets r.labels name ≡ b → value_of (stored r one) name ≡ text
              by true is = if_set is r.labels named (with_label metric r.name one) known_labels h.live is held
              by false none =
                  texts_agree u r.labels named (with_label metric r.name one) name text known_labels h.live held (λ kept. value-with_label metric r.name one name ∙ not_set (bytes_eq metric name) refl none kept)

  -- ---- recorded names

  -- what the row of a name holds is held by the row of what one of its rules stores
  abbrev pub IsUnion : Type 0
  IsUnion = (n : Bytes) (row : Sets) → row_named env n ≡ Some row → is_live row ≡ true → (l c : ℕ) → Held row l c → (r : RuleTree) × Contains rules r × Records r n × (is_live (recorded_row u env r) ≡ true) × Held (recorded_row u env r) l c

  module _ (union : IsUnion) (closed : IsPostFixedPoint u rules env) (n : Bytes) (row : Sets) (is : row_named env n ≡ Some row) where
    -- the metric name has one class
    pub name_class : (c : ℕ) → is_live row ≡ true → Held row (label_of u metric) c → c ≡ class_of u (label_of u metric) n
    name_class c live held =
        let r = union n row is live (label_of u metric) c held in
        metric_class r.0 r.1 r.2.0 c r.3 r.4 ∙ ap (class_of u (label_of u metric)) r.2.1

    -- some rule holds what is given
    abbrev Holder : Given → Type 0
    Holder D = (r : RuleTree) × Contains rules r × Records r n × HoldsGiven u (recorded_row u env r) D

    some_class : is_live row ≡ true → (c : ℕ) × Held row (label_of u metric) c
    some_class live =
        let shape = (named_row u env n row of.environment.rows is).0 in
        let c = Rattle.lf_shown.proofs.Choices.class_at u p small row metric shape live in
        (c.0, c.2)

    pub holder : (D : Given) → HoldsGiven u row D → IsHanded rules u n D → Holder D
    holder D h (inl (none, total)) =
        let c = some_class h.live in
        let r = union n row is h.live (label_of u metric) c.0 c.1 in (
          r.0,
          r.1,
          r.2,
          record {
            live = r.3;
            held = λ name text there given.
                let q = union n row is h.live (label_of u name) (class_of u (label_of u name) text) (h.held name text there given) in
                let same : q.0 ≡ r.0 = one_rule rules n (Rattle.std.proofs.lemmas.Bool.false_from_ne_true (has_several_rules rules n) (λ several. none (inl several))) q.0 r.0 q.1 r.1 q.2 r.2 in
                subst (λ x. Held (recorded_row u env x) (label_of u name) (class_of u (label_of u name) text)) same q.4;
          },
        )
    holder D h (inr few) = by (is_one_of (labels_in u) few.0) refl (D few.0) refl
      where
        vacuous : ((x t : Bytes) → In u x → Gave D x t → ⊥) → Holder D
        vacuous none =
            let c = some_class h.live in
            let r = union n row is h.live (label_of u metric) c.0 c.1 in
            (r.0, r.1, r.2, record { live = r.3; held = λ x t there given. absurd (none x t there given) })

        by : (b : Bool) → is_one_of (labels_in u) few.0 ≡ b → (o : Option Bytes) → D few.0 ≡ o → Holder D
        by false out o e = vacuous (λ x t there given. clash _ (any_in few.0 (labels_in u) (subst (In u) (few.1 x t there given) there)) out)
        by true inside None e = vacuous (λ x t there given. none-some t (sym (ap D (few.1 x t there given) ∙ e) ∙ given))
        by true inside (Some t) e =
            let r = union n row is h.live (label_of u few.0) (class_of u (label_of u few.0) t) (h.held few.0 t (any_out few.0 (labels_in u) inside) e) in (
              r.0,
              r.1,
              r.2,
              record {
                live = r.3;
                held = λ x v there given.
                    let q : x ≡ few.0 = few.1 x v there given in
                    let w : t ≡ v = same_Some t v (sym e ∙ sym (ap D q) ∙ given) in
                    subst (λ z. HoldsText u (recorded_row u env r.0) z v) (sym q) (subst (λ z. HoldsText u (recorded_row u env r.0) few.0 z) w r.4);
              },
            )

    -- the rules of the name aren't marked, and their expressions are built
    module _ (fuel : ℕ) (marked : List ℕ) (free : (k : ℕ) (r : RuleTree) → slice_get rules k ≡ Some r → Records r n → is_marked marked k ≡ false) (acyclic : IsCyclic rules n → ⊥)
        (made : (k : ℕ) (r : RuleTree) → slice_get rules k ≡ Some r → Records r n → (silent : Bool)
        × IsMade u rules (row_of u env r.expr) (Reads rules r.expr) (length (selectors r.expr)) (λ X. StrictlyEvaluates X r.expr) (build u env rules holds_fork r.expr (builder u env rules holds_fork (build_by_rule u env rules holds_fork fuel (k ∷ marked)) r.expr)) (holds_fork r.expr) silent) where
      abbrev fitting : Given → ℕ → RuleTree → Bool
      fitting D = fits u env rules holds_fork marked n D

      abbrev by_found : Given → ℕ × RuleTree → Option Building
      by_found D found =
          option_map (with_step found.0) (build u env rules holds_fork found.1.expr (builder u env rules holds_fork (build_by_rule u env rules holds_fork fuel (found.0 ∷ marked)) found.1.expr) (before_recording u env rules holds_fork found.1 D))

      answers_found : (D : Given) (i : ℕ) (q : RuleTree) → slice_get rules i ≡ Some q → fitting D i q ≡ true → IsHanded rules u n D → Answers u rules row (NameReads rules n) 0 (λ X. IsSet (AreSelected X (Some n) [])) (by_found D (i, q)) D
      answers_found D i q at passes handed =
          let records_it : Records q n = (not-true q.alert (and_left (not q.alert) (bytes_eq q.name n) (and_left (records n q) _ passes)), true_same q.name n (and_right (not q.alert) (bytes_eq q.name n) (and_left (records n q) _ passes))) in
          let there = member_at rules i q at in
          let held : HoldsGiven u (recorded_row u env q) D = holds_by_test u (recorded_row u env q) D (and_right (not (is_marked marked i)) (holds_texts u (recorded_row u env q) D) (and_right (records n q) _ passes)) in
          let expr = made i q at records_it in
          let cyclic : Reads rules q.expr q.name → ⊥ = λ reads. acyclic (q, there, records_it, subst (Reads rules q.expr) records_it.1 reads) in
          let a = answers_rule q there records_it.0 i at cyclic (build u env rules holds_fork q.expr (builder u env rules holds_fork (build_by_rule u env rules holds_fork fuel (i ∷ marked)) q.expr)) expr.0 expr.1 D held
          (subst (λ z. IsHanded rules u z D) (sym records_it.1) handed) in
          let c = closed q there records_it.0 in
          let same : c.0 ≡ row = the_row c.0 (sym c.1 ∙ ap (row_named env) records_it.1 ∙ is) in
          record {
            building = a.building;
            is_built = a.is_built;
            one = a.one;
            represented = subst (λ x. Represents u x a.one) same (represents_leq u (recorded_row u env q) c.0 a.one c.2 a.represented);
            full = a.full;
            within = a.within;
            agrees = a.agrees;
            gives = subst (λ z. Gives rules (NameReads rules z) 0 a.building (λ X. IsSet (AreSelected X (Some z) [])) a.one) records_it.1 a.gives;
          }
        where
          the_row : (x : Sets) → Some x ≡ Some row → x ≡ row
          the_row x e = cc

      abbrev Named : Given → Option Building → Type 0
      Named D made = Answers u rules row (NameReads rules n) 0 (λ X. IsSet (AreSelected X (Some n) [])) made D

      by_number : (D : Given) (o : Option (ℕ × RuleTree)) (found : ℕ × RuleTree) → o ≡ Some found → Named D (by_found D found) → Named D (option_and_then (by_found D) o)
      by_number D o found e a = subst (λ z. Named D (option_and_then (by_found D) z)) (sym e) a

      fits_at : (D : Given) (k j : ℕ) (r : RuleTree) → k ≡ j → fitting D k r ≡ true → fitting D j r ≡ true
      fits_at D k j r e passes = subst (λ z. fitting D z r ≡ true) e passes

      found_name : (D : Given) (i : ℕ) (q : RuleTree) → first_rule (fitting D) 0 rules ≡ Some (0 + i, q) → slice_get rules i ≡ Some q → fitting D (0 + i) q ≡ true → IsHanded rules u n D → Named D (option_and_then (by_found D) (first_rule (fitting D) 0 rules))
      found_name D i q e at passes handed =
          let number : 0 + i ≡ i = omega arith in
          by_number D (first_rule (fitting D) 0 rules) (i, q) (e ∙ ap (λ z. Some (z, q)) number) (answers_found D i q at (fits_at D (0 + i) i q number passes) handed)

      pub answers_name : (D : Given) → HoldsGiven u row D → IsHanded rules u n D → Named D (build_by_rule u env rules holds_fork (suc fuel) marked n D)
      answers_name D h handed =
          let one = holder D h handed in
          let at = number_of rules one.0 one.1 in
          let unmarked = free at.0 one.0 at.2 one.2 in
          let there : fitting D at.0 one.0 ≡ true = rw (one.2.0, same_true one.0.name n one.2.1, unmarked, test_by_holds u (recorded_row u env one.0) D one.3) refl in
          let found = first_found (fitting D) 0 rules at.0 one.0 at.2 (fits_at D at.0 (0 + at.0) one.0 (omega arith) there) in
          found_name D found.0 found.1 found.2 found.3 found.4 handed
