-- The row of a selector represents what it may see.
use Rattle.std.proofs.Common.{◌≡◌, ◌≢◌, ℕ, ◌<◌, Bool, true, false, not, ◌&&◌, ◌||◌, cond, eqb, nat_lt, List, [], ◌∷◌, Option, Some, None, ◌⊎◌, inl, inr, refl, sym, ◌∙◌, ap, subst, arith, is_some}
use Rattle.std.specs.List.{Contains, AllByRecursion, list_any}
use Rattle.std.specs.Option.{option_map_or}
use Rattle.std.specs.Str.{bytes_eq}
use Rattle.std.proofs.lemmas.Bool.Decides.{nat_tests}
use Rattle.std.proofs.lemmas.Bool.{eq-eqb, or_cases, false_from_ne_true}
use Rattle.std.proofs.lemmas.Option.{none-some, same_Some}
use Rattle.lf_ast.specs.Labels.{Bytes, Labels}
use Rattle.lf_ast.specs.declared.expr.Matcher.{Matcher}
use Rattle.lf_ast.specs.declared.expr.MatchOp.{MatchOp}
use Rattle.lf_ast.specs.declared.expr.MatchOp.TheVariants.{Equal, NotEqual, Matches, NotMatches}
use Rattle.lf_ast.specs.Selectors.{first_equal_name, is_equal, selected_name, metric}
use Rattle.lf_pattern.specs.Matching.{matches}
use Rattle.lf_pattern.specs.Read.{finds}
use Rattle.lf_pattern.specs.Scan.{alternatives_of}
use Rattle.lf_semantics.specs.ClassRows.{HasShape, Represents, Sets, bottom, join, replaced, top}
use Rattle.lf_semantics.specs.Environments.{Admits, IsEnvironment, IsKnown, IsRow}
use Rattle.lf_semantics.specs.Listing.{IsListing, Listing, class_of, label_of, other_class}
use Rattle.lf_semantics.specs.Passing.{HasName, PassesEach, is_plain, passes, passes_other}
use Rattle.lf_semantics.specs.RowTable.{Environment, is_metric_label, is_recorded, passes_class, passes_matchers, row_named, row_or_series, scraped_row, seen_row, selector_row, series_row, text_of, with_recorded}
use Rattle.lf_semantics.specs.Texts.{value_of}
use Rattle.lf_semantics.specs.Mentions.{alternatives_or_samples, matcher_texts, matchers_mentions, pattern_texts}
use Rattle.lf_semantics.proofs.Members.{other_false, true_same}
use Rattle.lf_semantics.proofs.Numbered.{metric_label}
use Rattle.lf_semantics.proofs.PatternTexts.{passes_is}
use Rattle.lf_semantics.proofs.Places.{class_of_some, class_test, label_test, text_at_class}
use Rattle.lf_semantics.proofs.RowLaws.{represents_join_left, represents_join_right, represents_narrowed, represents_replaced, represents_top, shape_bottom, shape_join, shape_narrowed, shape_replaced, shape_top}

-- matchers

-- a plain pattern matches its alternatives alone
within : (value text : Bytes) (alternatives : List Bytes) → list_any (λ a. bytes_eq a text) alternatives ≡ true → (P : Bytes → Type 0) → AllByRecursion P alternatives → P text
within value text [] e P all = absurd (cc)
within value text (a ∷ alternatives) e P all = elim (or_cases (bytes_eq a text) _ e) [
  | inl f ↦ subst P (true_same a text f) all.0
  | inr f ↦ within value text alternatives f P all.1
]

-- what a plain pattern matches has what each of its texts has
pub plain_within : (value text : Bytes) (o : Option (List Bytes)) → alternatives_of value ≡ o → is_some o ≡ true → matches value text ≡ true → (P : Bytes → Type 0) → AllByRecursion P (alternatives_or_samples o value) → P text
plain_within value text (Some alternatives) e k h P all =
    let M : Option (List Bytes) → Bool = λ o. option_map_or (λ alternatives. list_any (λ a. bytes_eq a text) alternatives) o (finds value text) in
    within value text alternatives (sym (ap M e) ∙ h) P all
plain_within value text None e k h P all = absurd (cc)

module _ (u : Listing) where
  -- texts of a label that are classes of their own
  abbrev pub AreOwn : ℕ → List Bytes → Type 0
  AreOwn l texts = AllByRecursion (λ text. class_of u l text < other_class u l) texts

  -- the class of a text is 'any other text'
  abbrev pub IsOther : ℕ → Bytes → Type 0
  IsOther l text = nat_lt (class_of u l text) (other_class u l) ≡ false

  not_own : (l : ℕ) (text : Bytes) → IsOther l text → class_of u l text < other_class u l → ⊥
  not_own l text other own = absurd (grind (arith, nat_tests))

  pub plain_not_other : (l : ℕ) (value text : Bytes) → AreOwn l (pattern_texts value) → IsOther l text → matches value text ≡ true → not (is_plain value) ≡ true
  plain_not_other l value text own other h =
      ap not (false_from_ne_true (is_plain value) (λ plain. not_own l text other (plain_within value text (alternatives_of value) refl plain h (λ t. class_of u l t < other_class u l) own)))

  passes_any_other : (op : MatchOp) (l : ℕ) (value text : Bytes) → AreOwn l (matcher_texts op value) → IsOther l text → passes op value text ≡ true → passes_other op value ≡ true
  passes_any_other Equal l value text own other h =
      let P : Bytes → Type 0 = λ t. class_of u l t < other_class u l in
      absurd (not_own l text other (subst P (sym (true_same text value h)) own.0))
  passes_any_other NotEqual l value text own other h = refl
  passes_any_other Matches l value text own other h = plain_not_other l value text own other h
  passes_any_other NotMatches l value text own other h = refl

  -- the class of a text that passes a matcher passes it
  pub class_passes : (op : MatchOp) (l : ℕ) (value text : Bytes) → AreOwn l (matcher_texts op value) → passes op value text ≡ true → passes_class u op value l (class_of u l text) ≡ true
  class_passes op l value text own h = by (nat_lt (class_of u l text) (other_class u l)) refl
    where
      by : (b : Bool) → nat_lt (class_of u l text) (other_class u l) ≡ b → cond (not b) (passes_other op value) (passes op value (text_of u l (class_of u l text))) ≡ true
      by true e = let b : class_of u l text < other_class u l = grind (arith, nat_tests) in ap (passes op value) (text_at_class u l text b) ∙ h
      by false e = passes_any_other op l value text own e h

  one_passes : (m : Matcher) (s : Labels) (name : Bytes) (b : Bool) → bytes_eq m.label name ≡ b → AreOwn (label_of u m.label) (matcher_texts m.op m.value) → passes m.op m.value (value_of s m.label) ≡ true
      → (not b || passes_class u m.op m.value (label_of u name) (class_of u (label_of u name) (value_of s name))) ≡ true
  one_passes m s name false e own h = refl
  one_passes m s name true e own h =
      let P : Bytes → Type 0 = λ x. passes_class u m.op m.value (label_of u x) (class_of u (label_of u x) (value_of s x)) ≡ true in
      subst P (true_same m.label name e) (class_passes m.op (label_of u m.label) m.value (value_of s m.label) own h)

  pub each_passes : (matchers : List Matcher) (s : Labels) (name : Bytes) → AllByRecursion (IsKnown u) (matchers_mentions matchers) → PassesEach matchers s
      → passes_matchers u matchers (label_of u name) (class_of u (label_of u name) (value_of s name)) ≡ true
  each_passes [] s name known h = refl
  each_passes (m ∷ matchers) s name known h =
      rw (label_test u m.label name known.0.0, one_passes m s name _ refl known.0.1 ((passes_is m.op m.value (value_of s m.label)).1 h.0), each_passes matchers s name known.1 h.1) refl

-- the name

says : (m : Matcher) (s : Labels) → (is_equal m.op && bytes_eq m.label metric) ≡ true → passes m.op m.value (value_of s m.label) ≡ true → value_of s metric ≡ m.value
says m s e h = by m.op refl e h
  where
    by : (op : MatchOp) → m.op ≡ op → (is_equal op && bytes_eq m.label metric) ≡ true → passes op m.value (value_of s m.label) ≡ true → value_of s metric ≡ m.value
    by Equal q e h = let P : Bytes → Type 0 = λ x. value_of s x ≡ m.value in subst P (true_same m.label metric e) (true_same (value_of s m.label) m.value h)
    by NotEqual q e h = absurd (cc)
    by Matches q e h = absurd (cc)
    by NotMatches q e h = absurd (cc)

first_name_by : (m : Matcher) (rest : Option Bytes) (s : Labels) (n : Bytes) (b : Bool) → (is_equal m.op && bytes_eq m.label metric) ≡ b → passes m.op m.value (value_of s m.label) ≡ true
    → (rest ≡ Some n → value_of s metric ≡ n) → cond b (Some m.value) rest ≡ Some n → value_of s metric ≡ n
first_name_by m rest s n true e h k f = says m s e h ∙ same_Some m.value n f
first_name_by m rest s n false e h k f = k f

first_name_is : (matchers : List Matcher) (s : Labels) (n : Bytes) → PassesEach matchers s → first_equal_name matchers ≡ Some n → value_of s metric ≡ n
first_name_is [] s n h e = absurd (cc)
first_name_is (m ∷ matchers) s n h e = first_name_by m (first_equal_name matchers) s n _ refl ((passes_is m.op m.value (value_of s m.label)).1 h.0) (first_name_is matchers s n h.1) e

-- what a selector sees has the name that it says
pub selected_name_is : (name : Option Bytes) (matchers : List Matcher) (s : Labels) (n : Bytes) → HasName name s → PassesEach matchers s → selected_name name matchers ≡ Some n → value_of s metric ≡ n
selected_name_is None matchers s n h k e = first_name_is matchers s n k e
selected_name_is (Some m) matchers s n h k e = h ∙ same_Some m n e

module _ (u : Listing) (p : IsListing u) (env : Environment) (ok : IsEnvironment u env) where
  -- shapes

  shape_series : (name : Bytes) → HasShape u (series_row u name)
  shape_series name = elim (bytes_eq name []) as (λ b. HasShape u (cond b (bottom u) (replaced (is_metric_label u) (λ label class. eqb class (class_of u label name)) (top u)))) [
    | true ↦ shape_bottom u
    | false ↦ shape_replaced (is_metric_label u) (λ label class. eqb class (class_of u label name)) (top u) ∙ shape_top u
  ]

  pub shape_scraped : HasShape u (scraped_row u env)
  shape_scraped = shape_replaced (is_metric_label u) (λ label class. not (eqb class 0) && not (is_recorded u env label class)) (top u) ∙ shape_top u

  pub shape_with_recorded : (row : Sets) (later : Environment) → HasShape u row → AllByRecursion (λ entry. IsRow u entry.1) later → HasShape u (with_recorded u later row)
  shape_with_recorded row [] shape rows = shape
  shape_with_recorded row (entry ∷ later) shape rows = shape_join u (with_recorded u later row) entry.1 (shape_with_recorded row later shape rows.1) rows.0.0

  shape_named : (later : Environment) (n : Bytes) (o : Option Sets) → row_named later n ≡ o → AllByRecursion (λ entry. IsRow u entry.1) later → HasShape u (row_or_series u o n)
  shape_named later n None e rows = shape_series n
  shape_named [] n (Some row) e rows = absurd (none-some row e)
  shape_named (entry ∷ later) n (Some row) e rows = by (bytes_eq entry.0 n) e (λ f. shape_named later n (Some row) f rows.1)
    where
      by : (b : Bool) → cond b (Some entry.1) (row_named later n) ≡ Some row → (row_named later n ≡ Some row → HasShape u row) → HasShape u row
      by true e rest = let P : Sets → Type 0 = λ x. HasShape u x in subst P (same_Some entry.1 row e) rows.0.0
      by false e rest = rest e

  pub shape_seen : (o : Option Bytes) → HasShape u (seen_row u env o)
  shape_seen (Some n) = shape_named env n (row_named env n) refl ok.rows
  shape_seen None = shape_with_recorded (scraped_row u env) env shape_scraped ok.rows

  pub shape_selector : (name : Option Bytes) (matchers : List Matcher) → HasShape u (selector_row u env name matchers)
  shape_selector name matchers = shape_narrowed (passes_matchers u matchers) (seen_row u env (selected_name name matchers)) ∙ shape_seen (selected_name name matchers)

  module _ (S N : List Labels) (admits : Admits u env S N) where
    -- a series in the row of its name
    represents_series : (s : Labels) → value_of s metric ≢ [] → Represents u (series_row u (value_of s metric)) s
    represents_series s some =
        let v = value_of s metric in
        let row : Sets = replaced (is_metric_label u) (λ label class. eqb class (class_of u label v)) (top u) in
        let represents : Represents u row s = represents_replaced u p (is_metric_label u) (λ label class. eqb class (class_of u label v)) (top u) s (shape_top u) ((represents_top u p s).0) at_name (λ name e. (represents_top u p s).1 name) in
        let P : Bool → Type 0 = λ b. Represents u (cond b (bottom u) row) s in
        subst P (sym (other_false v [] some)) represents
      where
        at_name : (name : Bytes) → is_metric_label u (label_of u name) ≡ true → eqb (class_of u (label_of u name) (value_of s name)) (class_of u (label_of u name) (value_of s metric)) ≡ true
        at_name name e =
            let same : name ≡ metric = true_same name metric (sym (metric_label u p name) ∙ e) in
            let P : Bytes → Type 0 = λ x. eqb (class_of u (label_of u name) (value_of s x)) (class_of u (label_of u name) (value_of s metric)) ≡ true in
            subst P (sym same) (eq-eqb _ _ refl)

    represents_named : (s : Labels) (o : Option Sets) → row_named env (value_of s metric) ≡ o → Contains S s ⊎ Contains N s → Represents u (row_or_series u o (value_of s metric)) s
    represents_named s (Some row) e (inl c) = absurd (none-some row (sym (admits.scraped s c).2 ∙ e))
    represents_named s (Some row) e (inr c) =
        let r = admits.recorded s c in
        let P : Sets → Type 0 = λ x. Represents u x s in
        subst P (same_Some r.1 row (sym r.2 ∙ e)) r.3
    represents_named s None e (inr c) = let r = admits.recorded s c in absurd (none-some r.1 (sym e ∙ r.2))
    represents_named s None e (inl c) = represents_series s (admits.scraped s c).1

    unrecorded_by : (entry : Bytes × Sets) (later : Environment) (v : Bytes) (b : Bool) → bytes_eq entry.0 v ≡ b → cond b (Some entry.1) (row_named later v) ≡ None
        → (bytes_eq entry.0 v ≡ false) × (row_named later v ≡ None)
    unrecorded_by entry later v true e f = absurd (none-some entry.1 (sym f))
    unrecorded_by entry later v false e f = (e, f)

    -- the class of a name that isn't recorded is none of the recorded names
    unrecorded : (later : Environment) (v : Bytes) → AllByRecursion (λ entry. class_of u (label_of u metric) entry.0 < other_class u (label_of u metric)) later
        → row_named later v ≡ None → is_recorded u later (label_of u metric) (class_of u (label_of u metric) v) ≡ false
    unrecorded [] v classes e = refl
    unrecorded (entry ∷ later) v classes e =
        let t = unrecorded_by entry later v (bytes_eq entry.0 v) refl e in
        rw (class_test u (label_of u metric) entry.0 v classes.0, t.0, unrecorded later v classes.1 t.1) refl

    represents_scraped : (s : Labels) → Contains S s → Represents u (scraped_row u env) s
    represents_scraped s c =
        let test : ℕ → ℕ → Bool = λ label class. not (eqb class 0) && not (is_recorded u env label class) in
        represents_replaced u p (is_metric_label u) test (top u) s (shape_top u) ((represents_top u p s).0) at_name (λ name e. (represents_top u p s).1 name)
      where
        some : eqb (class_of u (label_of u metric) (value_of s metric)) 0 ≡ false
        some = class_of_some u (label_of u metric) (value_of s metric) (admits.scraped s c).1

        at_name : (name : Bytes) → is_metric_label u (label_of u name) ≡ true
            → (not (eqb (class_of u (label_of u name) (value_of s name)) 0) && not (is_recorded u env (label_of u name) (class_of u (label_of u name) (value_of s name)))) ≡ true
        at_name name e =
            let same : name ≡ metric = true_same name metric (sym (metric_label u p name) ∙ e) in
            let P : Bytes → Type 0 = λ x. (not (eqb (class_of u (label_of u x) (value_of s x)) 0) && not (is_recorded u env (label_of u x) (class_of u (label_of u x) (value_of s x)))) ≡ true in
            subst P (sym same) (rw (some, unrecorded env (value_of s metric) ok.classes (admits.scraped s c).2) refl)

    -- in the join of all recorded rows, by the row of its name or by the first one
    abbrev RepresentsIn : Sets → Environment → Labels → Type 0
    RepresentsIn first later s = Represents u first s ⊎ ((row : Sets) × (row_named later (value_of s metric) ≡ Some row) × Represents u row s)

    represents_with_recorded : (first : Sets) (later : Environment) (s : Labels) → HasShape u first → AllByRecursion (λ entry. IsRow u entry.1) later → RepresentsIn first later s → Represents u (with_recorded u later first) s
    represents_with_recorded first [] s shape rows (inl represents) = represents
    represents_with_recorded first [] s shape rows (inr named) = absurd (none-some named.0 named.1)
    represents_with_recorded first (entry ∷ later) s shape rows represents =
        by (bytes_eq entry.0 (value_of s metric)) refl represents (represents_with_recorded first later s shape rows.1)
      where
        before : HasShape u (with_recorded u later first)
        before = shape_with_recorded first later shape rows.1

        by : (b : Bool) → bytes_eq entry.0 (value_of s metric) ≡ b → Represents u first s ⊎ ((row : Sets) × (cond b (Some entry.1) (row_named later (value_of s metric)) ≡ Some row) × Represents u row s)
            → (RepresentsIn first later s → Represents u (with_recorded u later first) s) → Represents u (join (with_recorded u later first) entry.1) s
        by b e (inl represents) rest = represents_join_left u p (with_recorded u later first) entry.1 s before (rest (inl represents))
        by false e (inr named) rest = represents_join_left u p (with_recorded u later first) entry.1 s before (rest (inr named))
        by true e (inr named) rest =
            let P : Sets → Type 0 = λ x. Represents u x s in
            represents_join_right u p (with_recorded u later first) entry.1 s before (subst P (sym (same_Some entry.1 named.0 named.1)) named.2)

    represents_seen : (s : Labels) (o : Option Bytes) → ((n : Bytes) → o ≡ Some n → value_of s metric ≡ n) → Contains S s ⊎ Contains N s → Represents u (seen_row u env o) s
    represents_seen s (Some n) is c =
        let P : Bytes → Type 0 = λ x. Represents u (row_or_series u (row_named env x) x) s in
        subst P (is n refl) (represents_named s (row_named env (value_of s metric)) refl c)
    represents_seen s None is (inl c) = represents_with_recorded (scraped_row u env) env s shape_scraped ok.rows (inl (represents_scraped s c))
    represents_seen s None is (inr c) = represents_with_recorded (scraped_row u env) env s shape_scraped ok.rows (inr (let r = admits.recorded s c in (r.1, r.2, r.3)))

    -- a series or a recorded sample that passes the matchers
    pub represents_selector : (name : Option Bytes) (matchers : List Matcher) (s : Labels) → AllByRecursion (IsKnown u) (matchers_mentions matchers) → Contains S s ⊎ Contains N s → HasName name s → PassesEach matchers s
        → Represents u (selector_row u env name matchers) s
    represents_selector name matchers s known c h k =
        represents_narrowed u p (passes_matchers u matchers) (seen_row u env (selected_name name matchers)) s (shape_seen (selected_name name matchers)) (λ label. each_passes u matchers s label known k)
        (represents_seen s (selected_name name matchers) (λ n e. selected_name_is name matchers s n h k e) c)
