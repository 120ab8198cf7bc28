-- What is built for a function or an aggregation.
use Rattle.std.proofs.Common.{◌≡◌, ◌<◌, ◌⊎◌, inl, inr, ℕ, Bool, true, false, not, ◌&&◌, ◌||◌, cond, eqb, List, [], ◌∷◌, length, Option, Some, None, refl, sym, ◌∙◌, ap, subst, arith, codes}
use Rattle.std.proofs.lemmas.Bool.{eqb-true}
use Rattle.std.specs.List.{AllByRecursion, Contains, filter, list_any}
use Rattle.std.specs.Str.{bytes_eq}
use Rattle.std.proofs.lemmas.Bool.{or_cases}
use Rattle.std.proofs.lemmas.List.Elements.{Contains-append_left}
use Rattle.lf_laws.proofs.Booleans.{and_left, clash}
use Rattle.lf_laws.proofs.Members.{here, only_one, other_false, same_true, some_has, true_same}
use Rattle.lf_ast.specs.Labels.{Bytes, Labels}
use Rattle.lf_ast.specs.Rules.{RuleTree}
use Rattle.lf_ast.specs.Tree.{Nil}
use Rattle.lf_ast.specs.declared.expr.Grouping.{Grouping}
use Rattle.lf_ast.specs.declared.expr.Matcher.{Matcher}
use Rattle.lf_ast.specs.declared.expr.MatchOp.{MatchOp}
use Rattle.lf_ast.specs.declared.expr.MatchOp.TheVariants.{Equal, NotEqual, Matches, NotMatches}
use Rattle.lf_ast.specs.Selectors.{is_equal}
use Rattle.lf_ast.specs.declared.functions.LabelEffect.TheVariants.{HistogramQuantile}
use Rattle.lf_semantics.specs.ClassRows.{HasShape, HoldsText, Sets, bottom, is_live, only_empty, top}
use Rattle.lf_semantics.specs.Environments.{IsKnown}
use Rattle.lf_semantics.specs.Evaluation.{IsAbsent, IsGrouped, IsQuantile, LosesName, bare}
use Rattle.lf_semantics.specs.Grouped.{group_of, is_grouped_by, is_metric, without_name}
use Rattle.lf_semantics.specs.Listing.{IsListing, Listing, class_of, label_of, other_class}
use Rattle.lf_semantics.specs.Mentions.{group_names, matchers_mentions}
use Rattle.lf_semantics.specs.Parts.{Sought}
use Rattle.lf_semantics.specs.RowTable.{bare_row, effect_row, is_label, is_metric_label, is_group_label, may_be_present}
use Rattle.lf_semantics.specs.Strings.{absent_texts}
use Rattle.lf_semantics.specs.Texts.{HasTexts, restricted, value_of}
use Rattle.lf_semantics.proofs.EffectsRepresent.{represents_absent, represents_quantile, same_matchers, shape_bare}
use Rattle.lf_semantics.proofs.Kept.{restricted_has_texts}
use Rattle.lf_semantics.proofs.LabelTexts.{value-bare, value-without_name}
use Rattle.lf_semantics.proofs.LeqLaws.{bottom_dead}
use Rattle.lf_semantics.proofs.Numbered.{AreKnown, group_label, metric_label}
use Rattle.lf_semantics.proofs.Places.{at_place, label_test, same_text}
use Rattle.lf_ast.proofs.LabelOrders.{symmetric}
use Rattle.lf_semantics.proofs.Restricted.{value-restricted}
use Rattle.lf_semantics.proofs.GivenTexts.{absent_has_texts}
use Rattle.lf_witness.specs.Strict.{From, IsOpenAbsent, IsSet, MadeApart, MadeTogether, Outcomes, last_buckets}
use Rattle.lf_witness.proofs.SomeSample.{absent_some}
use Rattle.lf_witness.proofs.OneSample.{one_text}
use Rattle.lf_trials.specs.Building.{Builder, nothing}
use Rattle.lf_trials.specs.Given.{Given, giving, losing}
use Rattle.lf_trials.specs.Operands.{losing_name}
use Rattle.lf_shown.specs.Agreement.{MetricNames}
use Rattle.lf_shown.proofs.Rows.{replaced_held, replaced_passes, replaced_was_live}
use Rattle.lf_shown.proofs.Choices.{AtMostOne, Gave, HoldsGiven, In, IsSmall, IsTotal, few_lost}
use Rattle.lf_shown.proofs.Texts.{held_at}
use Rattle.lf_shown.proofs.Worlds.{gives_mapped}
use Rattle.lf_shown.proofs.Made.{Answers, IsMade, IsRaw, answers_bare, answers_lost, empty_text, gives_nothing, holds_lost, none_apart, none_made, one_apart, one_made}

-- a label with a number below that of `*` is one of the universe
pub listed_in : (u : Listing) (name : Bytes) → label_of u name < length u.names → In u name
listed_in u name listed =
    Contains-append_left u.names _ name (label_of u name, listed, held_at u.names (label_of u name) name listed (at_place u.names name listed))

module _ (u : Listing) (rules : List RuleTree) (p : IsListing u) (small : IsSmall u) (Read : MetricNames) (count : ℕ) (row : Sets) (f : List Labels → Outcomes) (b : Builder) (fork silent : Bool) (made : IsMade u rules row Read count f b fork silent) where
  -- what is handed to a construct may be handed to its operand
  pub handed_down : (lost : Bytes → Bool) (D : Given) → ((fork ≡ false) × IsTotal u D) ⊎ ((fork ≡ true) × AtMostOne u D) → (fork ≡ false) ⊎ AtMostOne u (losing lost D)
  handed_down lost D (inl (none, total)) = inl none
  handed_down lost D (inr (some, few)) = inr (few_lost u lost D few)

  -- the operand as it is
  pub raw_same : IsRaw u rules row Read count f b fork silent
  raw_same = record {
    shape = made.shape;
    answers = λ D h either. made.answers D h (elim either [ inl e ↦ inl e.0 | inr e ↦ inr e.1 ]);
    is_silent = made.is_silent;
  }

  -- the operand without some labels
  module _ (chosen : ℕ → Bool) (lost : Bytes → Bool) (same : (name : Bytes) → chosen (label_of u name) ≡ lost name)
      (becomes : Labels → Labels) (values : (s : Labels) (name : Bytes) → value_of (becomes s) name ≡ cond (lost name) [] (value_of s name)) (fulls : (s : Labels) → HasTexts s → HasTexts (becomes s))
      (g : List Labels → Outcomes) (into : (X : List Labels) (s : Labels) → f X (Some (s ∷ [])) → g X (Some (becomes s ∷ []))) (none : (X : List Labels) → f X (Some []) → g X (Some []))
      (shape : HasShape u (only_empty chosen row)) where
    pub raw_lost : IsRaw u rules (only_empty chosen row) Read count g (λ D. b (losing lost D)) fork silent
    raw_lost = record {
      shape = shape;
      answers = λ D h either.
          answers_lost u rules p small chosen lost same row made.shape becomes values fulls Read count f g (b (losing lost D)) D h into
          (made.answers (losing lost D) (holds_lost u rules p small chosen lost same row made.shape D h) (handed_down lost D either));
      is_silent = λ e W lacks. none W (made.is_silent e W lacks);
    }

  -- the operand without the name
  pub raw_nameless : (shape : HasShape u (only_empty (is_metric_label u) row)) → IsRaw u rules (only_empty (is_metric_label u) row) Read count (λ X. From (f X) (MadeApart LosesName)) (λ D. b (losing_name D)) fork silent
  raw_nameless shape =
      raw_lost (is_metric_label u) is_metric (metric_label u p) without_name value-without_name (λ s full. restricted_has_texts (λ label. not (is_metric label)) s full) (λ X. From (f X) (MadeApart LosesName))
      (λ X s is. inr (s ∷ [], is, one_apart LosesName s (without_name s) refl)) (λ X is. inr ([], is, none_apart LosesName)) shape

  -- the groups of the operand
  pub raw_grouped : (grouping : Grouping) → AreKnown u (group_names grouping) → (shape : HasShape u (only_empty (λ label. not (is_group_label u grouping label)) row))
      → IsRaw u rules (only_empty (λ label. not (is_group_label u grouping label)) row) Read count (λ X. From (f X) (MadeTogether (IsGrouped grouping))) (λ D. b (losing (λ name. not (is_grouped_by grouping name)) D)) fork silent
  raw_grouped grouping known shape =
      raw_lost (λ label. not (is_group_label u grouping label)) (λ name. not (is_grouped_by grouping name)) (λ name. ap not (group_label u p grouping known name)) (group_of grouping)
      (λ s name. value-restricted (is_grouped_by grouping) s name ∙ turned (is_grouped_by grouping name) (value_of s name)) (λ s full. restricted_has_texts (is_grouped_by grouping) s full)
      (λ X. From (f X) (MadeTogether (IsGrouped grouping)))
      (λ X s is. inr (s ∷ [], is, one_made (IsGrouped grouping) s (group_of grouping s) refl)) (λ X is. inr ([], is, none_made (IsGrouped grouping))) shape
    where
      turned : (k : Bool) (t : Bytes) → cond k t [] ≡ cond (not k) [] t
      turned true t = refl
      turned false t = refl

  -- no label
  pub raw_bare : (other : Bool) → IsRaw u rules (bare_row u) Read count (λ X. IsSet Rattle.lf_semantics.specs.Evaluation.IsBare) (λ D. nothing) other false
  raw_bare other = record {
    shape = shape_bare u p;
    answers = λ D h either. answers_bare u rules p small Read count (λ X. IsSet Rattle.lf_semantics.specs.Evaluation.IsBare) D h (λ X. (here bare [], λ r c. sym (only_one bare r c)));
    is_silent = λ e W lacks. absurd (clash _ e refl);
  }

  -- ---- `histogram_quantile`

  abbrev le : Bytes
  le = codes "le"

  abbrev inf : Bytes
  inf = codes "+Inf"

  -- a row that leaves a text of `le` leaves `+Inf`
  abbrev pub LeavesLast : Sets → Type 0
  LeavesLast row = is_live row ≡ true → may_be_present u row (codes "le") ≡ true → HoldsText u row (codes "le") (codes "+Inf")

  module _ (last : LeavesLast row) (listed : label_of u (codes "le") < length u.names) (none : fork ≡ false) (shape : HasShape u (effect_row u HistogramQuantile Rattle.lf_ast.specs.declared.expr.Grouping.TheVariants.None Nil row)) where
    abbrev chosen_le : ℕ → Bool
    chosen_le label = is_metric_label u label || is_label u (codes "le") label

    abbrev D' : Given → Given
    D' D = giving (codes "le") (codes "+Inf") (losing_name D)

    -- the row of the operand, where the quantile's isn't empty
    present_live : is_live (cond (may_be_present u row (codes "le")) (only_empty chosen_le row) (bottom u)) ≡ true → may_be_present u row (codes "le") ≡ true
    present_live live = by (may_be_present u row (codes "le")) refl live
      where
        by : (k : Bool) → may_be_present u row (codes "le") ≡ k → is_live (cond k (only_empty chosen_le row) (bottom u)) ≡ true → may_be_present u row (codes "le") ≡ true
        by true is live = is
        by false is live = absurd (clash _ live (bottom_dead u p))

    tests : (name : Bytes) → chosen_le (label_of u name) ≡ (is_metric name || bytes_eq name (codes "le"))
    tests name = rw (metric_label u p name, label_test u (codes "le") name listed, symmetric (codes "le") name) refl

    module _ (D : Given) (h : HoldsGiven u (cond (may_be_present u row (codes "le")) (only_empty chosen_le row) (bottom u)) D) where
      there : may_be_present u row (codes "le") ≡ true
      there = present_live h.live

      held : HoldsGiven u (only_empty chosen_le row) D
      held = subst (λ k. HoldsGiven u (cond k (only_empty chosen_le row) (bottom u)) D) there h

      was_live : is_live row ≡ true
      was_live = replaced_was_live chosen_le (λ l c. eqb c 0) row held.live

      -- what is said of a label other than the name and `le` was given
      of_giving : (name text : Bytes) → Gave (D' D) name text → ((name ≡ codes "le") × (text ≡ codes "+Inf")) ⊎ ((bytes_eq name (codes "le") ≡ false) × (is_metric name ≡ false) × Gave D name text)
      of_giving name text e = by (bytes_eq name (codes "le")) refl (is_metric name) refl e
        where
          by : (a : Bool) → bytes_eq name (codes "le") ≡ a → (m : Bool) → is_metric name ≡ m → cond a (Some (codes "+Inf")) (cond m None (D name)) ≡ Some text
              → ((name ≡ codes "le") × (text ≡ codes "+Inf")) ⊎ ((bytes_eq name (codes "le") ≡ false) × (is_metric name ≡ false) × Gave D name text)
          by true is m ism e = let q : codes "+Inf" ≡ text = cc in inl (true_same name (codes "le") is, sym q)
          by false is true ism e = absurd (cc)
          by false is false ism e = inr (is, ism, e)

      holds_operand : HoldsGiven u row (D' D)
      holds_operand = record {
        live = was_live;
        held = λ name text inside given. elim (of_giving name text given) [
          | inl e ↦ subst (λ x. HoldsText u row x text) (sym e.0) (subst (λ x. HoldsText u row (codes "le") x) (sym e.1) (last was_live there))
          | inr e ↦ replaced_held chosen_le (λ l c. eqb c 0) row held.live (label_of u name) (class_of u (label_of u name) text) (held.held name text inside e.2) (tests name ∙ ap (λ x. x || bytes_eq name (codes "le")) e.1 ∙ e.0)
        ];
      }

      answers_quantile : Answers u rules (cond (may_be_present u row (codes "le")) (only_empty chosen_le row) (bottom u)) Read count (λ X. From (f X) (λ P. MadeApart IsQuantile (last_buckets P))) (b (D' D)) D
      answers_quantile =
          let a = made.answers (D' D) holds_operand (inl none) in
          let is_last : value_of a.one (codes "le") ≡ codes "+Inf" = a.agrees (codes "le") (codes "+Inf") (listed_in u (codes "le") listed) (the_le (bytes_eq (codes "le") (codes "le")) refl) in
          let keeps : Bytes → Bool = λ label. not (is_metric label) && not (bytes_eq label (codes "le")) in
          let r : Labels = restricted keeps a.one in
          let is : IsQuantile a.one r = ((λ e. absurd (no_text (sym is_last ∙ e))), refl) in
          record {
            building = a.building;
            is_built = a.is_built;
            one = r;
            represented = represents_quantile u p row a.one r listed made.shape a.represented is;
            full = restricted_has_texts keeps a.one a.full;
            within = λ name out. value-restricted keeps a.one name ∙ by (keeps name) (value_of a.one name) (a.within name out);
            agrees = λ name text inside given. value-restricted keeps a.one name ∙ agreed a name text inside given (is_metric name) refl (bytes_eq name (codes "le")) refl;
            gives = gives_mapped rules Read count a.building f (λ X. From (f X) (λ P. MadeApart IsQuantile (last_buckets P))) a.one r (λ X given. inr (a.one ∷ [], given, taken a.one r is_last is)) a.gives;
          }
        where
          the_le : (k : Bool) → bytes_eq (codes "le") (codes "le") ≡ k → D' D (codes "le") ≡ Some (codes "+Inf")
          the_le k e = refl

          no_text : codes "+Inf" ≡ [] → ⊥
          no_text e = cc

          by : (k : Bool) (t : Bytes) → t ≡ [] → cond k t [] ≡ []
          by true t e = e
          by false t e = refl

          taken : (s r : Labels) → value_of s (codes "le") ≡ codes "+Inf" → IsQuantile s r → MadeApart IsQuantile (last_buckets (s ∷ [])) (Some (r ∷ []))
          taken s r e is = subst (λ k. MadeApart IsQuantile (cond k (s ∷ []) []) (Some (r ∷ []))) (sym (same_true (value_of s (codes "le")) (codes "+Inf") e)) (one_apart IsQuantile s r is)

          only_none : (name text : Bytes) → In u name → Gave D name text → (is_metric name || bytes_eq name (codes "le")) ≡ true → [] ≡ text
          only_none name text inside given is =
              sym (empty_text u (label_of u name) text (replaced_passes chosen_le (λ l c. eqb c 0) row held.live (label_of u name) (class_of u (label_of u name) text) (held.held name text inside given) (tests name ∙ is)))

          agreed : (a : Answers u rules row Read count f (b (D' D)) (D' D)) (name text : Bytes) → In u name → Gave D name text → (m : Bool) → is_metric name ≡ m → (l : Bool) → bytes_eq name (codes "le") ≡ l
              → cond (not m && not l) (value_of a.one name) [] ≡ text
          agreed a name text inside given true ism l isl = only_none name text inside given (ap (λ x. x || bytes_eq name (codes "le")) ism)
          agreed a name text inside given false ism true isl = only_none name text inside given (ap (λ x. x || bytes_eq name (codes "le")) ism ∙ isl)
          agreed a name text inside given false ism false isl = a.agrees name text inside (ap (λ x. cond x (Some (codes "+Inf")) (losing_name D name)) isl ∙ ap (λ x. cond x None (D name)) ism ∙ given)

    pub raw_quantile : IsRaw u rules (cond (may_be_present u row (codes "le")) (only_empty chosen_le row) (bottom u)) Read count (λ X. From (f X) (λ P. MadeApart IsQuantile (last_buckets P))) (λ D. b (D' D)) fork silent
    raw_quantile = record {
      shape = shape;
      answers = λ D h either. answers_quantile D h;
      is_silent = λ e W lacks. inr ([], made.is_silent e W lacks, none_apart IsQuantile);
    }

  -- ---- `absent`

  module _ (sought : Option Sought) (shut : IsOpenAbsent sought → ⊥) (known : (s : Sought) → sought ≡ Some s → AllByRecursion (IsKnown u) (matchers_mentions s.matchers)) (quiet : silent ≡ true) where
    -- a text that is sought is of a class of its own
    own_class : (matchers : List Matcher) (name : Bytes) → AllByRecursion (IsKnown u) (matchers_mentions matchers) → (t : Bytes) → Contains (absent_texts (filter (λ m. bytes_eq m.label name) matchers)) t
        → (1 < length (filter (λ m. bytes_eq m.label name) matchers) → ⊥) → class_of u (label_of u name) t < other_class u (label_of u name)
    own_class [] name known t c few = subst (λ x. class_of u (label_of u name) x < other_class u (label_of u name)) (only_one [] t c) (omega arith)
    own_class (m ∷ matchers) name known t c few = by (bytes_eq m.label name) refl c few (own_class matchers name known.1 t)
      where
        later : List Matcher
        later = filter (λ m. bytes_eq m.label name) matchers

        Own : Bytes → Type 0
        Own x = class_of u (label_of u name) x < other_class u (label_of u name)

        of_one : (op : MatchOp) → m.op ≡ op → bytes_eq m.label name ≡ true → Own (cond (is_equal op) m.value [])
        of_one Equal e is =
            let k : AllByRecursion (λ text. class_of u (label_of u m.label) text < other_class u (label_of u m.label)) (Rattle.lf_semantics.specs.Mentions.matcher_texts Equal m.value) =
            subst (λ op. AllByRecursion (λ text. class_of u (label_of u m.label) text < other_class u (label_of u m.label)) (Rattle.lf_semantics.specs.Mentions.matcher_texts op m.value)) e known.0.1 in
            subst (λ x. class_of u (label_of u x) m.value < other_class u (label_of u x)) (true_same m.label name is) k.0
        of_one NotEqual e is = omega arith
        of_one Matches e is = omega arith
        of_one NotMatches e is = omega arith

        the_one : (rest : List Matcher) → bytes_eq m.label name ≡ true → Contains (absent_texts (m ∷ rest)) t → (1 < length (m ∷ rest) → ⊥) → Own t
        the_one [] is c few = subst Own (only_one _ t c) (of_one m.op refl is)
        the_one (n ∷ rest) is c few = absurd (few (omega arith))

        by : (k : Bool) → bytes_eq m.label name ≡ k → Contains (absent_texts (cond k (m ∷ later) later)) t → (1 < length (cond k (m ∷ later) later) → ⊥)
            → (Contains (absent_texts later) t → (1 < length later → ⊥) → Own t) → Own t
        by true is c few rest = the_one later is c few
        by false is c few rest = rest c few

    -- the sample has what the row leaves
    agreed : (o : Option Sought) → sought ≡ o → (one : Labels) → IsAbsent o one → (D : Given) → HoldsGiven u (Rattle.lf_semantics.specs.RowTable.absent_row u o) D → (name text : Bytes) → In u name → Gave D name text → value_of one name ≡ text
    agreed None is one absent D h name text inside given =
        ap (λ s. value_of s name) absent ∙ value-bare name
        ∙ sym (empty_text u (label_of u name) text (replaced_passes (λ label. true) (λ l c. eqb c 0) (top u) h.live (label_of u name) (class_of u (label_of u name) text) (h.held name text inside given) refl))
    agreed (Some s) is one (inr none) D h name text inside given = absurd (shut (subst IsOpenAbsent (sym is) (inl none.0)))
    agreed (Some s) is one (inl has) D h name text inside given =
        let l = label_of u name in
        let passes : Rattle.lf_semantics.specs.RowTable.is_sought u s l (class_of u l text) ≡ true =
        replaced_passes (λ label. true) (Rattle.lf_semantics.specs.RowTable.is_sought u s) (top u) h.live l (class_of u l text) (h.held name text inside given) refl in
        let texts = cond (is_metric_label u l) ([] ∷ []) (absent_texts (filter (λ m. is_label u m.label l) s.matchers)) in
        elim (or_cases (s.may_be_bare && eqb (class_of u l text) 0) (list_any (λ t. eqb (class_of u l t) (class_of u l text)) texts) passes) [
          | inl e ↦ absurd (shut (subst IsOpenAbsent (sym is) (inl (and_left s.may_be_bare _ e))))
          | inr e ↦ by (is_metric name) refl (metric_label u p name) e
        ]
      where
        Texts : Bool → List Bytes
        Texts k = cond k ([] ∷ []) (absent_texts (filter (λ m. is_label u m.label (label_of u name)) s.matchers))

        by : (k : Bool) → is_metric name ≡ k → is_metric_label u (label_of u name) ≡ is_metric name → list_any (λ t. eqb (class_of u (label_of u name) t) (class_of u (label_of u name) text)) (Texts (is_metric_label u (label_of u name))) ≡ true
            → value_of one name ≡ text
        by true ism same e =
            let found = some_has (λ t. eqb (class_of u (label_of u name) t) (class_of u (label_of u name) text)) (Texts true) (subst (λ k. list_any (λ t. eqb (class_of u (label_of u name) t) (class_of u (label_of u name) text)) (Texts k) ≡ true) (same ∙ ism) e) in
            let t : found.0 ≡ [] = sym (only_one [] found.0 found.1) in
            has.1 name ism ∙ same_text (Rattle.lf_semantics.specs.Listing.class_texts u (label_of u name)) [] text (omega arith) (eqb-true _ _ (subst (λ x. eqb (class_of u (label_of u name) x) (class_of u (label_of u name) text) ≡ true) t found.2))
        by false ism same e =
            let found = some_has (λ t. eqb (class_of u (label_of u name) t) (class_of u (label_of u name) text)) (Texts false) (subst (λ k. list_any (λ t. eqb (class_of u (label_of u name) t) (class_of u (label_of u name) text)) (Texts k) ≡ true) (same ∙ ism) e) in
            let few : 1 < length (filter (λ m. bytes_eq m.label name) s.matchers) → ⊥ = λ two. shut (subst IsOpenAbsent (sym is) (inr (name, ism, two))) in
            let inside' : Contains (absent_texts (filter (λ m. bytes_eq m.label name) s.matchers)) found.0 = subst (λ ms. Contains (absent_texts ms) found.0) (same_matchers u p s.matchers name (known s is)) found.1 in
            let own = own_class s.matchers name (known s is) found.0 inside' few in
            one_text (filter (λ m. bytes_eq m.label name) s.matchers) (value_of one name) found.0 few (has.2 name ism) inside'
            ∙ same_text (Rattle.lf_semantics.specs.Listing.class_texts u (label_of u name)) found.0 text (omega (arith, own)) (eqb-true _ _ found.2)

    -- no matcher is on a label beyond the universe
    no_matcher : (matchers : List Matcher) (name : Bytes) → AllByRecursion (IsKnown u) (matchers_mentions matchers) → (In u name → ⊥) → filter (λ m. bytes_eq m.label name) matchers ≡ []
    no_matcher [] name known out = refl
    no_matcher (m ∷ matchers) name known out =
        let other : bytes_eq m.label name ≡ false = other_false m.label name (λ e. out (subst (In u) e (listed_in u m.label known.0.0))) in
        rw (other, no_matcher matchers name known.1 out) refl

    within : (o : Option Sought) → sought ≡ o → (one : Labels) → IsAbsent o one → (name : Bytes) → (In u name → ⊥) → value_of one name ≡ []
    within None is one absent name out = ap (λ s. value_of s name) absent ∙ value-bare name
    within (Some s) is one (inr none) name out = ap (λ s. value_of s name) none.1 ∙ value-bare name
    within (Some s) is one (inl has) name out = by (is_metric name) refl
      where
        by : (k : Bool) → is_metric name ≡ k → value_of one name ≡ []
        by true ism = has.1 name ism
        by false ism = sym (only_one [] (value_of one name) (subst (λ ms. Contains (absent_texts ms) (value_of one name)) (no_matcher s.matchers name (known s is) out) (has.2 name ism)))

    pub raw_absent : (shape : HasShape u (Rattle.lf_semantics.specs.RowTable.absent_row u sought)) → IsRaw u rules (Rattle.lf_semantics.specs.RowTable.absent_row u sought) Read count (λ X. Rattle.lf_witness.specs.Strict.StrictAbsent sought (f X)) (λ D. nothing) fork false
    raw_absent shape =
        let some = absent_some sought shut in
        record {
          shape = shape;
          answers = λ D h either. record {
            building = record { series = []; steps = []; selectors = 0 };
            is_built = refl;
            one = some.0;
            represented = represents_absent u p sought some.0 known some.1;
            full = absent_has_texts sought some.0 some.1;
            within = within sought refl some.0 some.1;
            agrees = agreed sought refl some.0 some.1 D h;
            gives = gives_nothing u rules p small Read count (λ X. Rattle.lf_witness.specs.Strict.StrictAbsent sought (f X)) some.0
                (λ X lacks. inr (shut, some.0, some.1, inr ([], made.is_silent quiet X lacks, (here some.0 [], λ r c. sym (only_one some.0 r c)))));
          };
          is_silent = λ e W lacks. absurd (clash _ e refl);
        }
