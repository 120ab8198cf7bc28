-- The rows of functions and aggregations represent what they make of samples.
use Rattle.std.proofs.Common.{◌≡◌, ℕ, ◌+◌, ◌<◌, Bool, true, false, not, ◌&&◌, ◌||◌, cond, eqb, List, [], ◌∷◌, length, get_or, codes, Option, Some, None, inl, inr, refl, sym, ◌∙◌, ap, subst, arith}
use Rattle.std.specs.List.{Contains, AllByRecursion, filter, list_any}
use Rattle.std.specs.Str.{bytes_eq}
use Rattle.std.proofs.lemmas.Bool.{eq-eqb, not-false, not-true, or_left, or_right}
use Rattle.lf_ast.specs.Labels.{Bytes, Labels}
use Rattle.lf_ast.specs.declared.expr.Grouping.{Grouping}
use Rattle.lf_ast.specs.declared.expr.Matcher.{Matcher}
use Rattle.lf_semantics.specs.ClassRows.{HasShape, HoldsText, Represents, Sets, bottom, holds, indexed_from, only_empty, replaced, top}
use Rattle.lf_semantics.specs.Environments.{IsKnown}
use Rattle.lf_semantics.specs.Evaluation.{HasSoughtTexts, IsAbsent, IsCounted, IsQuantile, bare}
use Rattle.lf_semantics.specs.Grouped.{group_of, is_grouped_by, is_metric, may_be_lacked, without_name}
use Rattle.lf_semantics.specs.Listing.{IsListing, Listing, class_of, label_of}
use Rattle.lf_semantics.specs.Parts.{Sought}
use Rattle.lf_semantics.specs.RowTable.{absent_row, bare_row, counted_row, grouped_row, has_class, is_group_label, is_label, is_metric_label, is_sought, may_be_present, nameless, quantile_row, set_at}
use Rattle.lf_semantics.specs.Strings.{absent_texts}
use Rattle.lf_semantics.specs.Texts.{restricted, value_of, with_label}
use Rattle.lf_semantics.specs.Mentions.{group_names, matchers_mentions}
use Rattle.lf_semantics.proofs.LabelTexts.{value-bare, value-with_label, value-without_name}
use Rattle.lf_semantics.proofs.Members.{first_or_behind, none_in, true_same}
use Rattle.lf_semantics.proofs.Numbered.{AreKnown, group_label, metric_label}
use Rattle.lf_semantics.proofs.Places.{class_of_some, label_test}
use Rattle.lf_ast.proofs.LabelOrders.{symmetric}
use Rattle.lf_semantics.proofs.Restricted.{value-restricted}
use Rattle.lf_semantics.proofs.RowLaws.{any_at, get_or-indexed, holds_within, represents_only_empty, represents_replaced, represents_top, shape_bottom, shape_replaced, shape_top}

-- some class passes if one does that is held
pub has_class_at : (u : Listing) (test : ℕ → Bool) (row : Sets) (l c : ℕ) → holds row l c ≡ true → test c ≡ true → has_class u test (set_at u row l) ≡ true
has_class_at u test row l c h k =
    let w = holds_within row l c h in
    let set : List Bool = get_or row l [] in
    any_at (indexed_from (λ class on. on && test class) 0 set) c
    (get_or-indexed (λ class on. on && test class) 0 set c false false w.1 ∙ (let e : 0 + c ≡ c = omega arith in rw (e, h, k) refl))

module _ (u : Listing) (p : IsListing u) where
  shape_only_empty : (chosen : ℕ → Bool) (row : Sets) → HasShape u row → HasShape u (only_empty chosen row)
  shape_only_empty chosen row shape = shape_replaced chosen (λ l c. eqb c 0) row ∙ shape

  -- without the metric name

  pub shape_nameless : (row : Sets) → HasShape u row → HasShape u (nameless u row)
  shape_nameless row shape = shape_only_empty (is_metric_label u) row shape

  pub represents_nameless : (row : Sets) (s : Labels) → HasShape u row → Represents u row s → Represents u (nameless u row) (without_name s)
  represents_nameless row s shape represents =
      represents_only_empty u p (is_metric_label u) row s (without_name s) shape represents
      (λ name e. value-without_name s name ∙ ap (λ b. cond b [] (value_of s name)) (sym (metric_label u p name) ∙ e))
      (λ name e. value-without_name s name ∙ ap (λ b. cond b [] (value_of s name)) (sym (metric_label u p name) ∙ e))

  -- one sample without labels

  pub shape_bare : HasShape u (bare_row u)
  shape_bare = shape_only_empty (λ l. true) (top u) (shape_top u)

  pub represents_bare : Represents u (bare_row u) bare
  represents_bare = represents_only_empty u p (λ l. true) (top u) bare bare (shape_top u) (represents_top u p bare) (λ name e. value-bare name) (λ name e. refl)

  -- groups

  pub shape_grouped : (grouping : Grouping) (row : Sets) → HasShape u row → HasShape u (grouped_row u grouping row)
  shape_grouped grouping row shape = shape_only_empty (λ label. not (is_group_label u grouping label)) row shape

  pub represents_grouped : (grouping : Grouping) (row : Sets) (s : Labels) → AreKnown u (group_names grouping) → HasShape u row → Represents u row s → Represents u (grouped_row u grouping row) (group_of grouping s)
  represents_grouped grouping row s known shape represents =
      represents_only_empty u p (λ label. not (is_group_label u grouping label)) row s (group_of grouping s) shape represents
      (λ name e. value-restricted (is_grouped_by grouping) s name ∙ ap (λ b. cond b (value_of s name) []) (sym (group_label u p grouping known name) ∙ not-true _ e))
      (λ name e. value-restricted (is_grouped_by grouping) s name ∙ ap (λ b. cond b (value_of s name) []) (sym (group_label u p grouping known name) ∙ not-false _ e))

  -- a label that is set to a text

  pub represents_with_label : (x text : Bytes) (test : ℕ → ℕ → Bool) (row : Sets) (s : Labels) → label_of u x < length u.names → HasShape u row → Represents u row s
      → test (label_of u x) (class_of u (label_of u x) text) ≡ true → Represents u (replaced (is_label u x) test row) (with_label x text s)
  represents_with_label x text test row s listed shape represents pass =
      represents_replaced u p (is_label u x) test row (with_label x text s) shape represents.0
      (λ name e.
      let is : bytes_eq x name ≡ true = sym (label_test u x name listed) ∙ e in
      let same : x ≡ name = true_same x name is in
      let P : Bytes → Type 0 = λ t. test (label_of u name) (class_of u (label_of u name) t) ≡ true in
      let Q : Bytes → Type 0 = λ n. test (label_of u n) (class_of u (label_of u n) text) ≡ true in
      subst P (sym (value-with_label x text s name ∙ ap (λ b. cond b text (value_of s name)) is)) (subst Q same pass))
      (λ name e.
      let is : bytes_eq x name ≡ false = sym (label_test u x name listed) ∙ e in
      let P : Bytes → Type 0 = λ t. HoldsText u row name t in
      subst P (sym (value-with_label x text s name ∙ ap (λ b. cond b text (value_of s name)) is)) (represents.1 name))

  -- `count_values`

  pub shape_counted : (grouping : Grouping) (x : Bytes) (row : Sets) → HasShape u row → HasShape u (counted_row u grouping x row)
  shape_counted grouping x row shape = shape_replaced (is_label u x) (λ label class. not (eqb class 0) || may_be_lacked grouping x) (grouped_row u grouping row) ∙ shape_grouped grouping row shape

  pub represents_counted : (grouping : Grouping) (x : Bytes) (row : Sets) (s r : Labels) → AreKnown u (group_names grouping) → label_of u x < length u.names → HasShape u row → Represents u row s → IsCounted grouping x s r
      → Represents u (counted_row u grouping x row) r
  represents_counted grouping x row s r known listed shape represents is =
      let test : ℕ → ℕ → Bool = λ label class. not (eqb class 0) || may_be_lacked grouping x in
      let pass : test (label_of u x) (class_of u (label_of u x) is.0) ≡ true = elim is.1 [
        | inl some ↦ ap (λ b. not b || may_be_lacked grouping x) (class_of_some u (label_of u x) is.0 some)
        | inr lacked ↦ or_right _ _ lacked
      ] in
      let L : Labels → Type 0 = λ t. Represents u (counted_row u grouping x row) t in
      subst L (sym is.2)
      (represents_with_label x is.0 test (grouped_row u grouping row) (group_of grouping s) listed (shape_grouped grouping row shape) (represents_grouped grouping row s known shape represents) pass)

  -- `histogram_quantile`

  pub shape_quantile : (row : Sets) → HasShape u row → HasShape u (quantile_row u row)
  shape_quantile row shape =
      let new : Sets = only_empty (λ label. is_metric_label u label || is_label u (codes "le") label) row in
      elim (may_be_present u row (codes "le")) as (λ b. HasShape u (cond b new (bottom u))) [
        | true ↦ shape_only_empty (λ label. is_metric_label u label || is_label u (codes "le") label) row shape
        | false ↦ shape_bottom u
      ]

  dropped : (a b : Bool) (t : Bytes) → (a || b) ≡ true → cond (not a && not b) t [] ≡ []
  dropped true b t e = refl
  dropped false true t e = refl
  dropped false false t e = absurd (cc)

  undropped : (a b : Bool) (t : Bytes) → (a || b) ≡ false → cond (not a && not b) t [] ≡ t
  undropped true b t e = absurd (cc)
  undropped false true t e = absurd (cc)
  undropped false false t e = refl

  pub represents_quantile : (row : Sets) (s r : Labels) → label_of u (codes "le") < length u.names → HasShape u row → Represents u row s → IsQuantile s r → Represents u (quantile_row u row) r
  represents_quantile row s r listed shape represents is =
      let le : Bytes = codes "le" in
      let chosen : ℕ → Bool = λ label. is_metric_label u label || is_label u le label in
      let present : may_be_present u row le ≡ true =
      has_class_at u (λ class. not (eqb class 0)) row (label_of u le) (class_of u (label_of u le) (value_of s le)) (represents.1 le) (ap not (class_of_some u (label_of u le) (value_of s le) is.0)) in
      let left : Labels = restricted (λ label. not (is_metric label) && not (bytes_eq label le)) s in
      let tests : (name : Bytes) → chosen (label_of u name) ≡ (is_metric name || bytes_eq name le) = λ name. rw (metric_label u p name, label_test u le name listed, symmetric le name) refl in
      let value : (name : Bytes) → value_of left name ≡ cond (not (is_metric name) && not (bytes_eq name le)) (value_of s name) [] = λ name. value-restricted (λ label. not (is_metric label) && not (bytes_eq label le)) s name in
      let P : Bool → Type 0 = λ b. Represents u (cond b (only_empty chosen row) (bottom u)) r in
      let L : Labels → Type 0 = λ t. Represents u (only_empty chosen row) t in
      subst P (sym present) (subst L (sym is.1)
      (represents_only_empty u p chosen row s left shape represents
      (λ name e. value name ∙ dropped (is_metric name) (bytes_eq name le) (value_of s name) (sym (tests name) ∙ e))
      (λ name e. value name ∙ undropped (is_metric name) (bytes_eq name le) (value_of s name) (sym (tests name) ∙ e))))

  -- `absent`

  pub shape_absent : (sought : Option Sought) → HasShape u (absent_row u sought)
  shape_absent None = shape_bare
  shape_absent (Some sought) = shape_replaced (λ label. true) (is_sought u sought) (top u) ∙ shape_top u

  any_class : (l : ℕ) (texts : List Bytes) (text : Bytes) → Contains texts text → list_any (λ t. eqb (class_of u l t) (class_of u l text)) texts ≡ true
  any_class l [] text c = absurd (none_in text c)
  any_class l (t ∷ texts) text c = elim (first_or_behind t texts text c) [
    | inl e ↦ or_left _ _ (ap (λ x. eqb (class_of u l x) (class_of u l text)) e ∙ eq-eqb _ _ refl)
    | inr d ↦ or_right _ _ (any_class l texts text d)
  ]

  -- the matchers on a label by its number are those by its name
  pub same_matchers : (matchers : List Matcher) (name : Bytes) → AllByRecursion (IsKnown u) (matchers_mentions matchers) → filter (λ m. is_label u m.label (label_of u name)) matchers ≡ filter (λ m. bytes_eq m.label name) matchers
  same_matchers [] name known = refl
  same_matchers (m ∷ matchers) name known = rw (label_test u m.label name known.0.0, same_matchers matchers name known.1) refl

  is_sought_text : (sought : Sought) (r : Labels) (name : Bytes) → AllByRecursion (IsKnown u) (matchers_mentions sought.matchers) → HasSoughtTexts sought.matchers r
      → is_sought u sought (label_of u name) (class_of u (label_of u name) (value_of r name)) ≡ true
  is_sought_text sought r name known has =
      let l = label_of u name in
      let passes : list_any (λ text. eqb (class_of u l text) (class_of u l (value_of r name))) (cond (is_metric_label u l) ([] ∷ []) (absent_texts (filter (λ m. is_label u m.label l) sought.matchers))) ≡ true =
      rw (metric_label u p name) (by (is_metric name) refl) in
      or_right _ _ passes
    where
      by : (b : Bool) → is_metric name ≡ b
          → list_any (λ text. eqb (class_of u (label_of u name) text) (class_of u (label_of u name) (value_of r name))) (cond b ([] ∷ []) (absent_texts (filter (λ m. is_label u m.label (label_of u name)) sought.matchers))) ≡ true
      by true e = or_left _ _ (ap (λ t. eqb (class_of u (label_of u name) []) (class_of u (label_of u name) t)) (has.1 name e) ∙ eq-eqb (class_of u (label_of u name) []) (class_of u (label_of u name) []) refl)
      by false e =
          rw (same_matchers sought.matchers name known) (any_class (label_of u name) (absent_texts (filter (λ m. bytes_eq m.label name) sought.matchers)) (value_of r name) (has.2 name e))

  pub represents_absent : (sought : Option Sought) (r : Labels) → ((s : Sought) → sought ≡ Some s → AllByRecursion (IsKnown u) (matchers_mentions s.matchers)) → IsAbsent sought r → Represents u (absent_row u sought) r
  represents_absent None r known is = let L : Labels → Type 0 = λ t. Represents u (bare_row u) t in subst L (sym is) represents_bare
  represents_absent (Some sought) r known (inl has) =
      represents_replaced u p (λ label. true) (is_sought u sought) (top u) r (shape_top u) ((represents_top u p r).0) (λ name e. is_sought_text sought r name (known sought refl) has) (λ name e. absurd (cc))
  represents_absent (Some sought) r known (inr none) =
      let empty : (name : Bytes) → value_of r name ≡ [] = λ name. ap (λ t. value_of t name) none.1 ∙ value-bare name in
      represents_replaced u p (λ label. true) (is_sought u sought) (top u) r (shape_top u) ((represents_top u p r).0)
      (λ name e.
      let first : (sought.may_be_bare && eqb (class_of u (label_of u name) (value_of r name)) 0) ≡ true = rw (none.0, empty name) refl in
      or_left _ _ first) (λ name e. absurd (cc))
