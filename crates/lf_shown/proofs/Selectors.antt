-- What is built for a selector that says its name.
use Rattle.std.proofs.Common.{◌≡◌, ◌≢◌, ◌<◌, ◌⊎◌, inl, inr, ℕ, Bool, true, false, not, ◌||◌, cond, eqb, List, [], ◌∷◌, length, Option, Some, None, refl, sym, ◌∙◌, ap, subst, arith, option_map}
use Rattle.std.proofs.lemmas.Bool.{eq-eqb, eqb-true}
use Rattle.std.proofs.lemmas.Bool.Decides.{nat_tests}
use Rattle.std.specs.Prelude.{nat_lt, unwrap_or}
use Rattle.std.specs.List.{AllByRecursion, Contains}
use Rattle.std.specs.Str.{bytes_eq}
use Rattle.std.proofs.lemmas.Bool.{cases_lt}
use Rattle.lf_laws.proofs.Booleans.{and_left, and_right, clash}
use Rattle.lf_laws.proofs.Members.{any_in, any_out, here, none_in, only_one, other_false, same_true, true_same}
use Rattle.lf_ast.specs.Labels.{Bytes, Labels}
use Rattle.lf_ast.specs.Rules.{RuleTree}
use Rattle.lf_ast.specs.Selectors.{metric, selected_name}
use Rattle.lf_ast.specs.declared.expr.Matcher.{Matcher}
use Rattle.lf_ast.specs.declared.expr.MatchOp.{MatchOp}
use Rattle.lf_ast.specs.declared.expr.MatchOp.TheVariants.{Equal, NotEqual, Matches, NotMatches}
use Rattle.lf_semantics.specs.ClassRows.{HasShape, HoldsText, Sets, bottom, is_live, narrowed, replaced, top}
use Rattle.lf_semantics.specs.Environments.{IsKnown}
use Rattle.lf_semantics.specs.Grouped.{is_metric}
use Rattle.lf_semantics.specs.Listing.{IsListing, Listing, class_of, label_of, other_class}
use Rattle.lf_semantics.specs.Mentions.{matcher_texts, matchers_mentions}
use Rattle.lf_semantics.specs.Passing.{HasName, PassesEach, is_plain, passes, passes_other}
use Rattle.lf_semantics.specs.RowTable.{Environment, is_label, is_metric_label, passes_class, passes_matchers, row_named, selector_row, seen_row, series_row}
use Rattle.lf_semantics.specs.Texts.{value_of}
use Rattle.lf_semantics.proofs.LeqLaws.{bottom_dead}
use Rattle.lf_semantics.proofs.Numbered.{metric_label}
use Rattle.lf_semantics.proofs.PatternTexts.{passes_is}
use Rattle.lf_semantics.proofs.Places.{eqb-other, metric_listed, place_le, same_text, text_at_class}
use Rattle.lf_semantics.proofs.SelectorsRepresent.{AreOwn, plain_not_other, selected_name_is}
use Rattle.lf_semantics.proofs.RowLaws.{represents_narrowed}
use Rattle.lf_witness.specs.Strict.{AreSelected, IsSet, Outcomes}
use Rattle.lf_witness.proofs.SameSets.{same_itself}
use Rattle.lf_deps.specs.Reading.{Reads, Records}
use Rattle.lf_trials.specs.Building.{Builder, Building, one_more}
use Rattle.lf_trials.specs.Built.{build_selector, series_named}
use Rattle.lf_trials.specs.Candidates.{is_one_of, labels_in}
use Rattle.lf_trials.specs.Forks.{HoldsFork}
use Rattle.lf_trials.specs.Given.{Given, giving, label_set}
use Rattle.lf_trials.specs.Reached.{has_several_rules, is_recorded}
use Rattle.lf_trials.proofs.MadeSeries.{full_set}
use Rattle.lf_shown.specs.Agreement.{Gives, MetricNames}
use Rattle.lf_shown.specs.NoneOpen.{IsPlainMatcher}
use Rattle.lf_shown.proofs.Rows.{HasOthers, Held, narrowed_held, narrowed_passes, narrowed_was_live, others_narrowed, others_replaced, others_top, replaced_passes}
use Rattle.lf_shown.proofs.Choices.{AtMostOne, Gave, HoldsGiven, In, IsSmall, IsTotal}
use Rattle.lf_shown.proofs.Effects.{listed_in}
use Rattle.lf_shown.proofs.Texts.{set_has, set_lacks}
use Rattle.lf_shown.proofs.Made.{Answers, IsRaw, Lacks}

module _ (u : Listing) where
  -- ---- matchers

  own_or_other : (l : ℕ) (text : Bytes) → (class_of u l text < other_class u l) ⊎ (nat_lt (class_of u l text) (other_class u l) ≡ false)
  own_or_other l text = by (nat_lt (class_of u l text) (other_class u l)) refl
    where
      by : (b : Bool) → nat_lt (class_of u l text) (other_class u l) ≡ b → (class_of u l text < other_class u l) ⊎ (nat_lt (class_of u l text) (other_class u l) ≡ false)
      by true e = let h : class_of u l text < other_class u l = grind (arith, nat_tests) in inl h
      by false e = inr e

  not_own : (l : ℕ) (text : Bytes) → nat_lt (class_of u l text) (other_class u l) ≡ false → class_of u l text < other_class u l → ⊥
  not_own l text other own = absurd (grind (arith, nat_tests))

  -- a text whose class passes a plain matcher passes it
  class_means : (op : MatchOp) (l : ℕ) (value text : Bytes) → AreOwn u l (matcher_texts op value) → (op ≡ Equal) ⊎ ((op ≡ NotEqual) ⊎ (is_plain value ≡ true)) → passes_class u op value l (class_of u l text) ≡ true → passes op value text ≡ true
  class_means op l value text own plain h = elim (own_or_other l text) [
    | inl less ↦ same op less h
    | inr other ↦ beyond op own plain other (sym (ap (λ b. cond (not b) (passes_other op value) (passes op value (Rattle.lf_semantics.specs.RowTable.text_of u l (class_of u l text)))) other) ∙ h)
  ]
    where
      same : (op : MatchOp) → class_of u l text < other_class u l → passes_class u op value l (class_of u l text) ≡ true → passes op value text ≡ true
      same op less h =
          let e : nat_lt (class_of u l text) (other_class u l) ≡ true = grind (arith, nat_tests) in
          sym (ap (passes op value) (text_at_class u l text less)) ∙ sym (ap (λ b. cond (not b) (passes_other op value) (passes op value (Rattle.lf_semantics.specs.RowTable.text_of u l (class_of u l text)))) e) ∙ h

      differs : class_of u l value < other_class u l → nat_lt (class_of u l text) (other_class u l) ≡ false → bytes_eq text value ≡ false
      differs less other = other_false text value (λ e. not_own l text other (subst (λ x. class_of u l x < other_class u l) (sym e) less))

      unmatched : AreOwn u l (Rattle.lf_semantics.specs.Mentions.pattern_texts value) → nat_lt (class_of u l text) (other_class u l) ≡ false → is_plain value ≡ true → Rattle.lf_pattern.specs.Matching.matches value text ≡ false
      unmatched own other plain = Rattle.std.proofs.lemmas.Bool.false_from_ne_true (Rattle.lf_pattern.specs.Matching.matches value text) (λ is. clash _ (plain_not_other u l value text own other is) (ap not plain))

      beyond : (op : MatchOp) → AreOwn u l (matcher_texts op value) → (op ≡ Equal) ⊎ ((op ≡ NotEqual) ⊎ (is_plain value ≡ true)) → nat_lt (class_of u l text) (other_class u l) ≡ false → passes_other op value ≡ true → passes op value text ≡ true
      beyond Equal own plain other h = absurd (cc)
      beyond NotEqual own plain other h = ap not (differs own.0 other)
      beyond Matches own (inl e) other h = absurd (cc)
      beyond Matches own (inr (inl e)) other h = absurd (cc)
      beyond Matches own (inr (inr plain)) other h = absurd (clash _ h (ap not plain))
      beyond NotMatches own (inl e) other h = absurd (cc)
      beyond NotMatches own (inr (inl e)) other h = absurd (cc)
      beyond NotMatches own (inr (inr plain)) other h = rw (plain, unmatched own other plain) refl

  -- a label set whose classes pass plain matchers passes them
  classes_pass : (matchers : List Matcher) (s : Labels) → AllByRecursion (IsKnown u) (matchers_mentions matchers) → AllByRecursion IsPlainMatcher matchers
      → ((name : Bytes) → passes_matchers u matchers (label_of u name) (class_of u (label_of u name) (value_of s name)) ≡ true) → PassesEach matchers s
  classes_pass [] s known plain h = tt
  classes_pass (m ∷ matchers) s known plain h = (
    (passes_is m.op m.value (value_of s m.label)).0
        (class_means m.op (label_of u m.label) m.value (value_of s m.label) known.0.1 plain.0
        (sym (ap (λ b. not b || passes_class u m.op m.value (label_of u m.label) (class_of u (label_of u m.label) (value_of s m.label))) (eq-eqb (label_of u m.label) (label_of u m.label) refl))
        ∙ and_left (not (is_label u m.label (label_of u m.label)) || passes_class u m.op m.value (label_of u m.label) (class_of u (label_of u m.label) (value_of s m.label))) (passes_matchers u matchers (label_of u m.label) (class_of u (label_of u m.label) (value_of s m.label))) (h m.label))),
    classes_pass matchers s known.1 plain.1 (λ name. and_right (not (is_label u m.label (label_of u name)) || passes_class u m.op m.value (label_of u name) (class_of u (label_of u name) (value_of s name))) _ (h name)),
  )

  -- matchers on other labels let each class pass
  others_pass : (matchers : List Matcher) (l c : ℕ) → ((m : Matcher) → Contains matchers m → label_of u m.label ≢ l) → passes_matchers u matchers l c ≡ true
  others_pass [] l c other = refl
  others_pass (m ∷ matchers) l c other =
      rw (eqb-other (label_of u m.label) l (other m (here m matchers)), others_pass matchers l c (λ n d. other n (Rattle.lf_laws.proofs.Members.behind m matchers n d))) refl

  known_label : (matchers : List Matcher) → AllByRecursion (IsKnown u) (matchers_mentions matchers) → (m : Matcher) → Contains matchers m → label_of u m.label < length u.names
  known_label [] known m c = absurd (none_in m c)
  known_label (x ∷ matchers) known m c = elim (Rattle.lf_laws.proofs.Members.first_or_behind x matchers m c) [
    | inl e ↦ subst (λ (y : Matcher). label_of u y.label < length u.names) e known.0.0
    | inr d ↦ known_label matchers known.1 m d
  ]

  -- a name beyond the universe has the label `*`
  pub beyond_label : (name : Bytes) → (In u name → ⊥) → label_of u name ≡ length u.names
  beyond_label name out = elim (cases_lt (label_of u name) (length u.names)) [
    | inl less ↦ absurd (out (listed_in u name less))
    | inr more ↦ let h = place_le u.names name in omega (arith, more, h)
  ]

-- ---- names that are read through a recorded name

module _ (rules : List RuleTree) where
  -- the name, and what its rules read
  abbrev pub NameReads : Bytes → MetricNames
  NameReads n m = (m ≡ n) ⊎ ((r : RuleTree) × Contains rules r × Records r n × Reads rules r.expr m)

  -- several rules record the name, or one with a fork
  abbrev pub NameForks : Bytes → Type 0
  NameForks n = (has_several_rules rules n ≡ true) ⊎ ((r : RuleTree) × Contains rules r × Records r n × HoldsFork rules r.expr)

  -- without a fork each label has a text, or else at most one has
  abbrev pub IsHanded : Listing → Bytes → Given → Type 0
  IsHanded u n D = ((NameForks n → ⊥) × IsTotal u D) ⊎ AtMostOne u D

  -- what builds a recorded name gives one sample under it
  abbrev pub RuleBuilds : Listing → Environment → (Bytes → Builder) → Bytes → Type 0
  RuleBuilds u env build_rule n =
      (row : Sets) → row_named env n ≡ Some row → (D : Given) → HoldsGiven u row D → IsHanded u n D → Answers u rules row (NameReads n) 0 (λ X. IsSet (AreSelected X (Some n) [])) (build_rule n D) D

  module _ (u : Listing) (p : IsListing u) (small : IsSmall u) (env : Environment) (name : Option Bytes) (matchers : List Matcher) (n : Bytes) (says : selected_name name matchers ≡ Some n)
      (known : AllByRecursion (IsKnown u) (matchers_mentions matchers)) (plain : AllByRecursion IsPlainMatcher matchers) (own : class_of u (label_of u metric) n < other_class u (label_of u metric))
      (shape : HasShape u (selector_row u env name matchers)) (Read : MetricNames) (reads : Read n) (build_rule : Bytes → Builder) (fork : Bool) where
    abbrev passing : ℕ → ℕ → Bool
    passing = passes_matchers u matchers

    abbrev outcome : List Labels → Outcomes
    outcome X = IsSet (AreSelected X name matchers)

    row_is : (o : Option Sets) → row_named env n ≡ o → selector_row u env name matchers ≡ narrowed passing (Rattle.lf_semantics.specs.RowTable.row_or_series u o n)
    row_is o e = ap (λ s. narrowed passing (seen_row u env s)) says ∙ ap (λ o. narrowed passing (Rattle.lf_semantics.specs.RowTable.row_or_series u o n)) e

    builder_is : build_selector u rules build_rule (selected_name name matchers) matchers ≡ build_selector u rules build_rule (Some n) matchers
    builder_is = ap (λ s. build_selector u rules build_rule s matchers) says

    -- what a name before the braces is
    has_name : (s : Labels) → value_of s metric ≡ n → HasName name s
    has_name s e = by name says
      where
        by : (o : Option Bytes) → selected_name o matchers ≡ Some n → HasName o s
        by None f = tt
        by (Some x) f = let q : x ≡ n = cc in e ∙ sym q

    silent : (W : List Labels) → Lacks Read W → outcome W (Some [])
    silent W lacks = (
      λ s c h k. absurd (lacks s c (subst Read (sym (selected_name_is name matchers s n h k says)) reads)),
      λ s c. absurd (none_in s c),
    )

    -- ---- a scraped name

    module _ (none : row_named env n ≡ None) (unrecorded : is_recorded rules n ≡ false) where
      module _ (D : Given) (h : HoldsGiven u (narrowed passing (series_row u n)) D) (total : IsTotal u D) where
        some_name : bytes_eq n [] ≡ false
        some_name = by (bytes_eq n []) refl (narrowed_was_live passing (series_row u n) h.live)
          where
            by : (b : Bool) → bytes_eq n [] ≡ b → is_live (cond b (bottom u) (replaced (is_metric_label u) (λ label class. eqb class (class_of u label n)) (top u))) ≡ true → bytes_eq n [] ≡ false
            by true e live = absurd (clash _ live (bottom_dead u p))
            by false e live = e

        abbrev series : Sets
        series = replaced (is_metric_label u) (λ label class. eqb class (class_of u label n)) (top u)

        series_is : series_row u n ≡ series
        series_is = ap (λ b. cond b (bottom u) series) some_name

        -- the name is given
        name_given : Gave D metric n
        name_given =
            let t = total metric (listed_in u metric (metric_listed u p)) in
            let k : Held (series_row u n) (label_of u metric) (class_of u (label_of u metric) t.0) =
            narrowed_held passing (series_row u n) h.live (label_of u metric) (class_of u (label_of u metric) t.0) (h.held metric t.0 (listed_in u metric (metric_listed u p)) t.1) in
            let live : is_live series ≡ true = ap is_live (sym series_is) ∙ narrowed_was_live passing (series_row u n) h.live in
            let e = replaced_passes (is_metric_label u) (λ label class. eqb class (class_of u label n)) (top u) live (label_of u metric) (class_of u (label_of u metric) t.0) (subst (λ x. Held x (label_of u metric) (class_of u (label_of u metric) t.0)) series_is k)
            (metric_label u p metric ∙ same_true metric metric refl) in
            let q : n ≡ t.0 = same_text (Rattle.lf_semantics.specs.Listing.class_texts u (label_of u metric)) n t.0 (omega (arith, own)) (sym (eqb-true _ _ e)) in
            subst (Gave D metric) (sym q) t.1

        abbrev one : Labels
        one = label_set (labels_in u) (giving metric n D)

        gave_same : (x : Bytes) → giving metric n D x ≡ D x
        gave_same x = by (bytes_eq x metric) refl
          where
            by : (b : Bool) → bytes_eq x metric ≡ b → cond b (Some n) (D x) ≡ D x
            by true e = sym name_given ∙ ap D (sym (true_same x metric e))
            by false e = refl

        value_is : (x text : Bytes) → In u x → Gave D x text → value_of one x ≡ text
        value_is x text there given = set_has (labels_in u) (giving metric n D) x there ∙ ap (λ o. unwrap_or o []) (gave_same x ∙ given)

        others : HasOthers u (narrowed passing (series_row u n))
        others =
            others_narrowed u p passing (series_row u n) (others_pass u matchers (length u.names) 0 (λ m c e. let k = known_label u matchers known m c in absurd (omega (arith, k, e))))
            (subst (HasOthers u) (sym series_is)
            (others_replaced u p (is_metric_label u) (λ label class. eqb class (class_of u label n)) (top u)
            (λ e. let k = metric_listed u p in let q : label_of u metric ≡ length u.names = eqb-true _ _ e in absurd (omega (arith, k, q))) (others_top u p)))

        holds_one : (x : Bytes) → HoldsText u (narrowed passing (series_row u n)) x (value_of one x)
        holds_one x = by (is_one_of (labels_in u) x) refl
          where
            by : (b : Bool) → is_one_of (labels_in u) x ≡ b → HoldsText u (narrowed passing (series_row u n)) x (value_of one x)
            by true e =
                let there : In u x = any_out x (labels_in u) e in
                let t = total x there in
                subst (λ v. HoldsText u (narrowed passing (series_row u n)) x v) (sym (value_is x t.0 there t.1)) (h.held x t.0 there t.1)
            by false e =
                let out : In u x → ⊥ = λ c. clash _ (any_in x (labels_in u) c) e in
                subst (λ v. HoldsText u (narrowed passing (series_row u n)) x v) (sym (set_lacks (labels_in u) (giving metric n D) x out))
                (subst (λ l. Held (narrowed passing (series_row u n)) l 0) (sym (beyond_label u x out)) (others h.live))

        one_passes : PassesEach matchers one
        one_passes = classes_pass u matchers one known plain (λ x. narrowed_passes passing (series_row u n) h.live (label_of u x) (class_of u (label_of u x) (value_of one x)) (holds_one x))

        one_named : value_of one metric ≡ n
        one_named = value_is metric n (listed_in u metric (metric_listed u p)) name_given

        abbrev added : Building
        added = record { series = one ∷ []; steps = []; selectors = 1 }

        gives_series : Gives rules Read 1 added outcome one
        gives_series = record {
          series_read = λ s c. subst (λ (x : Labels). Read (value_of x metric)) (only_one one s c) (subst Read (sym one_named) reads);
          steps_read = λ k c. absurd (none_in k c);
          steps_once = tt;
          few = omega arith;
          runs = λ W agree. (
            W,
            same_itself W,
            record { kept = λ s c. c; further = λ s c. inl c },
            λ X agrees. (
              λ s c k l. let r : Read (value_of s metric) = subst Read (sym (selected_name_is name matchers s n k l says)) reads in (agree s r).0 ((agrees s r).0 c),
              λ s c.
                  let e = only_one one s c in
                  let P : Labels → Type 0 = λ x. Contains X x × HasName name x × PassesEach matchers x in
                  let r : Read (value_of one metric) = subst Read (sym one_named) reads in
                  subst P e ((agrees one r).1 ((agree one r).1 (here one [])), has_name one one_named, one_passes),
            ),
          );
        }

        answers_series : Answers u rules (narrowed passing (series_row u n)) Read 1 outcome (build_selector u rules build_rule (Some n) matchers D) D
        answers_series = record {
          building = added;
          is_built = rw (unrecorded, some_name) refl;
          one = one;
          represented = (h.live, holds_one);
          full = full_set (labels_in u) (giving metric n D);
          within = λ x out. set_lacks (labels_in u) (giving metric n D) x out;
          agrees = value_is;
          gives = gives_series;
        }

      pub raw_scraped : fork ≡ false → IsRaw u rules (selector_row u env name matchers) Read 1 outcome (build_selector u rules build_rule (selected_name name matchers) matchers) fork true
      raw_scraped no_fork = record {
        shape = shape;
        answers = λ D h either.
            let total : IsTotal u D = elim either [ inl e ↦ e.1 | inr e ↦ absurd (clash _ e.0 no_fork) ] in
            let a = answers_series D (subst (λ r. HoldsGiven u r D) (row_is None none) h) total in
            subst (λ (b : Builder). Answers u rules (selector_row u env name matchers) Read 1 outcome (b D) D) (sym builder_is)
            (subst (λ r. Answers u rules r Read 1 outcome (build_selector u rules build_rule (Some n) matchers D) D) (sym (row_is None none)) a);
        is_silent = λ e. silent;
      }

    -- ---- a recorded name

    module _ (row : Sets) (some : row_named env n ≡ Some row) (recorded : is_recorded rules n ≡ true) (row_shape : HasShape u row) (into : (m : Bytes) → NameReads n m → Read m)
        (named : (c : ℕ) → is_live row ≡ true → Held row (label_of u metric) c → c ≡ class_of u (label_of u metric) n) (builds : RuleBuilds u env build_rule n) where
      module _ (D : Given) (h : HoldsGiven u (narrowed passing row) D) where
        holds_row : HoldsGiven u row D
        holds_row = record { live = narrowed_was_live passing row h.live; held = λ x text there given. narrowed_held passing row h.live (label_of u x) (class_of u (label_of u x) text) (h.held x text there given) }

        -- the class of the name passes
        name_passes : passing (label_of u metric) (class_of u (label_of u metric) n) ≡ true
        name_passes =
            let c = Rattle.lf_shown.proofs.Choices.class_at u p small (narrowed passing row) metric (Rattle.lf_semantics.proofs.RowLaws.shape_narrowed passing row ∙ row_shape) h.live in
            let k = narrowed_held passing row h.live (label_of u metric) c.0 c.2 in
            subst (λ z. passing (label_of u metric) z ≡ true) (named c.0 (narrowed_was_live passing row h.live) k) (narrowed_passes passing row h.live (label_of u metric) c.0 c.2)

        module _ (a : Answers u rules row (NameReads n) 0 (λ X. IsSet (AreSelected X (Some n) [])) (build_rule n D) D)
            (one_classes : (x : Bytes) → passing (label_of u x) (class_of u (label_of u x) (value_of a.one x)) ≡ true) where
          one_passes' : PassesEach matchers a.one
          one_passes' = classes_pass u matchers a.one known plain one_classes

          one_named' : value_of a.one metric ≡ n
          one_named' =
              let live = narrowed_was_live passing row h.live in
              let e = named (class_of u (label_of u metric) (value_of a.one metric)) live (a.represented.1 metric) in
              sym (same_text (Rattle.lf_semantics.specs.Listing.class_texts u (label_of u metric)) n (value_of a.one metric) (omega (arith, own)) (sym e))

          selects : (X : List Labels) → AreSelected X (Some n) [] (a.one ∷ []) → AreSelected X name matchers (a.one ∷ [])
          selects X is = (
            λ s c k l. is.0 s c (selected_name_is name matchers s n k l says) tt,
            λ s c.
                let e = only_one a.one s c in
                let P : Labels → Type 0 = λ x. Contains X x × HasName name x × PassesEach matchers x in
                subst P e ((is.1 a.one (here a.one [])).0, has_name a.one one_named', one_passes'),
          )

          gives_more_than : Gives rules Read 1 (one_more a.building) outcome a.one
          gives_more_than = record {
            series_read = λ s c. into (value_of s metric) (a.gives.series_read s c);
            steps_read = λ k c. let r = a.gives.steps_read k c in (r.0, r.1, r.2, into r.0.name r.3);
            steps_once = a.gives.steps_once;
            few = let k = a.gives.few in omega (arith, k);
            runs = λ W agree.
                let run = a.gives.runs W (Rattle.lf_shown.proofs.Worlds.agree_less Read (NameReads n) W a.building.series into agree) in (
                  run.0,
                  run.1,
                  record { kept = run.2.kept; further = λ s c. elim (run.2.further s c) [ inl d ↦ inl d | inr d ↦ inr (into (value_of s metric) d) ] },
                  λ X agrees. selects X (run.3 X (Rattle.lf_shown.proofs.Worlds.agree_less Read (NameReads n) X run.0 into agrees)),
                );
          }

          answers_one : Answers u rules (narrowed passing row) Read 1 outcome (build_selector u rules build_rule (Some n) matchers D) D
          answers_one = record {
            building = one_more a.building;
            is_built =
                ap (λ b. cond b (option_map one_more (build_rule n D)) (cond (bytes_eq n []) None (series_named u rules (Some n) D))) recorded ∙ ap (option_map one_more) a.is_built;
            one = a.one;
            represented = represents_narrowed u p passing row a.one row_shape one_classes a.represented;
            full = a.full;
            within = a.within;
            agrees = a.agrees;
            gives = gives_more_than;
          }

        -- where each label has a text, each class passes as it is held
        total_classes : (a : Answers u rules row (NameReads n) 0 (λ X. IsSet (AreSelected X (Some n) [])) (build_rule n D) D) → IsTotal u D → (x : Bytes) → passing (label_of u x) (class_of u (label_of u x) (value_of a.one x)) ≡ true
        total_classes a total x = by (is_one_of (labels_in u) x) refl
          where
            by : (b : Bool) → is_one_of (labels_in u) x ≡ b → passing (label_of u x) (class_of u (label_of u x) (value_of a.one x)) ≡ true
            by true e =
                let there : In u x = any_out x (labels_in u) e in
                let t = total x there in
                subst (λ v. passing (label_of u x) (class_of u (label_of u x) v) ≡ true) (sym (a.agrees x t.0 there t.1)) (narrowed_passes passing row h.live (label_of u x) (class_of u (label_of u x) t.0) (h.held x t.0 there t.1))
            by false e =
                let out : In u x → ⊥ = λ c. clash _ (any_in x (labels_in u) c) e in
                let l = beyond_label u x out in
                others_pass u matchers (label_of u x) (class_of u (label_of u x) (value_of a.one x)) (λ m c q. let k = known_label u matchers known m c in absurd (omega (arith, k, q, l)))

        -- where only the name is matched, the class of the name passes
        name_classes : (a : Answers u rules row (NameReads n) 0 (λ X. IsSet (AreSelected X (Some n) [])) (build_rule n D) D) → AllByRecursion (λ m. is_metric m.label ≡ true) matchers
            → (x : Bytes) → passing (label_of u x) (class_of u (label_of u x) (value_of a.one x)) ≡ true
        name_classes a only x = by (bytes_eq x metric) refl
          where
            of_each : (ms : List Matcher) → AllByRecursion (λ m. is_metric m.label ≡ true) ms → (m : Matcher) → Contains ms m → m.label ≡ metric
            of_each ms all m c = true_same m.label metric (Rattle.lf_laws.proofs.Members.each_member (λ (m : Matcher). is_metric m.label ≡ true) ms m all c)

            by : (b : Bool) → bytes_eq x metric ≡ b → passing (label_of u x) (class_of u (label_of u x) (value_of a.one x)) ≡ true
            by true e =
                let live = narrowed_was_live passing row h.live in
                let k = named (class_of u (label_of u metric) (value_of a.one metric)) live (a.represented.1 metric) in
                subst (λ y. passing (label_of u y) (class_of u (label_of u y) (value_of a.one y)) ≡ true) (sym (true_same x metric e)) (subst (λ z. passing (label_of u metric) z ≡ true) (sym k) name_passes)
            by false e =
                others_pass u matchers (label_of u x) (class_of u (label_of u x) (value_of a.one x))
                (λ m c q.
                let listed = known_label u matchers known m c in
                let same : m.label ≡ x = same_text u.names m.label x listed q in
                clash _ (same_true x metric (sym same ∙ of_each matchers only m c)) e)

      pub raw_recorded : (fork ≡ false → NameForks n → ⊥) → (fork ≡ true → AllByRecursion (λ m. is_metric m.label ≡ true) matchers)
          → IsRaw u rules (selector_row u env name matchers) Read 1 outcome (build_selector u rules build_rule (selected_name name matchers) matchers) fork true
      raw_recorded no_fork only = record {
        shape = shape;
        answers = λ D h either.
            let held : HoldsGiven u (narrowed passing row) D = subst (λ r. HoldsGiven u r D) (row_is (Some row) some) h in
            let a = by D held either in
            subst (λ (b : Builder). Answers u rules (selector_row u env name matchers) Read 1 outcome (b D) D) (sym builder_is)
            (subst (λ r. Answers u rules r Read 1 outcome (build_selector u rules build_rule (Some n) matchers D) D) (sym (row_is (Some row) some)) a);
        is_silent = λ e. silent;
      }
        where
          by : (D : Given) → HoldsGiven u (narrowed passing row) D → ((fork ≡ false) × IsTotal u D) ⊎ ((fork ≡ true) × AtMostOne u D) → Answers u rules (narrowed passing row) Read 1 outcome (build_selector u rules build_rule (Some n) matchers D) D
          by D h (inl (none, total)) =
              let a = builds row some D (holds_row D h) (inl (no_fork none, total)) in
              answers_one D h a (total_classes D h a total)
          by D h (inr (is, few)) =
              let a = builds row some D (holds_row D h) (inr few) in
              answers_one D h a (name_classes D h a (only is))
