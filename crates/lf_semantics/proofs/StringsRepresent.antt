-- The rows of `label_replace` and `label_join` represent what they make of samples.
use Rattle.std.proofs.Common.{◌≡◌, ◌≢◌, ℕ, suc, ◌<◌, ◌≤◌, Bool, true, false, not, ◌&&◌, ◌||◌, cond, eqb, nat_lt, List, [], ◌∷◌, ◌++◌, map, length, ◌⊎◌, inl, inr, refl, sym, ◌∙◌, ap, subst, arith}
use Rattle.std.specs.List.{AllByRecursion, list_all, list_any}
use Rattle.std.specs.Str.{bytes_eq}
use Rattle.std.proofs.lemmas.Bool.Decides.{nat_tests}
use Rattle.std.proofs.lemmas.Bool.{and_parts, eq-eqb, false_from_ne_true, not-true, or_cases, or_right, true≢false}
use Rattle.lf_ast.specs.Labels.{Bytes, Labels}
use Rattle.lf_base.specs.Names.{is_label_name}
use Rattle.lf_pattern.specs.Matching.{matches}
use Rattle.lf_pattern.proofs.MatchLaws.{matches_is}
use Rattle.lf_semantics.specs.ClassRows.{HasShape, HoldsText, Represents, Sets, holds}
use Rattle.lf_semantics.specs.Environments.{IsKnown}
use Rattle.lf_semantics.specs.Evaluation.{IsJoined, IsReplaced, source_value}
use Rattle.lf_semantics.specs.Listing.{IsListing, Listing, class_of, label_of, other_class}
use Rattle.lf_semantics.specs.RowTable.{has_class, is_expansion, is_join, is_label, joining_row, may_be_absent, may_be_present, may_fail, may_match, replacing_row, set_at, source_set, text_of}
use Rattle.lf_semantics.specs.Passing.{is_plain}
use Rattle.lf_semantics.specs.Strings.{Expands, Joining, Replacing, joined_by, shows}
use Rattle.lf_semantics.specs.Texts.{value_of}
use Rattle.lf_semantics.specs.Mentions.{joining_mentions, mention, pattern_texts, replacing_mentions}
use Rattle.lf_semantics.proofs.EffectsRepresent.{has_class_at, represents_with_label}
use Rattle.lf_semantics.proofs.Members.{same_true, true_same}
use Rattle.lf_semantics.proofs.Places.{class_of_some, text_at_class}
use Rattle.lf_semantics.proofs.RowLaws.{represents_replaced, shape_replaced}
use Rattle.lf_semantics.proofs.SelectorsRepresent.{AreOwn, plain_not_other}

-- texts that are joined

abbrev AllEmpty : List Bytes → Type 0
AllEmpty texts = AllByRecursion (λ t. t ≡ []) texts

appended : (a b : Bytes) → a ≡ [] → b ≡ [] → a ++ b ≡ []
appended a b e f = ap (λ t. t ++ b) e ∙ f

joined_nothing : (separator : Bytes) (texts : List Bytes) → (separator ≡ []) ⊎ (length texts ≤ 1) → AllEmpty texts → joined_by separator texts ≡ []
joined_nothing separator [] few empty = refl
joined_nothing separator (x ∷ []) few empty = empty.0
joined_nothing separator (x ∷ y ∷ texts) (inl none) empty = appended x _ empty.0 (appended separator _ none (joined_nothing separator (y ∷ texts) (inl none) empty.1))
joined_nothing separator (x ∷ y ∷ texts) (inr few) empty = absurd (omega arith)

front_some : (a b : Bytes) → a ≢ [] → a ++ b ≢ []
front_some [] b h = absurd (h refl)
front_some (x ∷ a) b h = λ e. absurd (cc)

back_some : (a b : Bytes) → b ≢ [] → a ++ b ≢ []
back_some [] b h = h
back_some (x ∷ a) b h = λ e. absurd (cc)

-- a separator between two texts shows
joined_shows : (separator : Bytes) (texts : List Bytes) → separator ≢ [] → 1 < length texts → joined_by separator texts ≢ []
joined_shows separator [] some two = absurd (omega arith)
joined_shows separator (x ∷ []) some two = absurd (omega arith)
joined_shows separator (x ∷ y ∷ texts) some two = back_some x _ (front_some separator _ some)

pub shape_joining : (u : Listing) (j : Joining) (row : Sets) → HasShape u row → HasShape u (joining_row u j row)
shape_joining u j row shape = shape_replaced (is_label u j.target) (λ label class. is_join u j row class) row ∙ shape

abbrev may_be_replaced : Listing → Replacing → Sets → ℕ → ℕ → Bool
may_be_replaced u r row label class =
    (has_class u (may_match u r.pattern (label_of u r.source)) (source_set u row r.source) && is_expansion u r.replacement label class)
    || (has_class u (may_fail u r.pattern (label_of u r.source)) (source_set u row r.source) && holds row label class)

pub shape_replacing : (u : Listing) (r : Replacing) (row : Sets) → HasShape u row → HasShape u (replacing_row u r row)
shape_replacing u r row shape = shape_replaced (is_label u r.target) (may_be_replaced u r row) row ∙ shape

module _ (u : Listing) (p : IsListing u) (row : Sets) (s : Labels) (shape : HasShape u row) (represents : Represents u row s) where
  -- sources

  value_some : (source : Bytes) → not (may_be_absent u row source) ≡ true → value_of s source ≢ []
  value_some source e none =
      let P : Bytes → Type 0 = λ t. HoldsText u row source t in
      let held : may_be_absent u row source ≡ true = subst P none (represents.1 source) in
      true≢false (sym e ∙ ap not held)

  value_none : (source : Bytes) → not (may_be_present u row source) ≡ true → value_of s source ≡ []
  value_none source e = by (bytes_eq (value_of s source) []) refl
    where
      by : (b : Bool) → bytes_eq (value_of s source) [] ≡ b → value_of s source ≡ []
      by true f = true_same (value_of s source) [] f
      by false f =
          let some : value_of s source ≢ [] = λ none. true≢false (sym (same_true (value_of s source) [] none) ∙ f) in
          let held : may_be_present u row source ≡ true =
          has_class_at u (λ class. not (eqb class 0)) row (label_of u source) (class_of u (label_of u source) (value_of s source)) (represents.1 source) (ap not (class_of_some u (label_of u source) (value_of s source) some)) in
          absurd (true≢false (sym e ∙ ap not held))

  abbrev values : List Bytes → List Bytes
  values sources = map (λ source. value_of s source) sources

  all_none : (sources : List Bytes) → list_all (λ source. not (may_be_present u row source)) sources ≡ true → AllEmpty (values sources)
  all_none [] e = tt
  all_none (x ∷ sources) e = let k = and_parts (not (may_be_present u row x)) _ e in (value_none x k.0, all_none sources k.1)

  joined_some : (separator : Bytes) (sources : List Bytes) → list_any (λ source. not (may_be_absent u row source)) sources ≡ true → joined_by separator (values sources) ≢ []
  joined_some separator [] e = absurd (true≢false (sym e))
  joined_some separator (x ∷ []) e = elim (or_cases (not (may_be_absent u row x)) false e) [
    | inl f ↦ value_some x f
    | inr f ↦ absurd (true≢false (sym f))
  ]
  joined_some separator (x ∷ y ∷ sources) e = elim (or_cases (not (may_be_absent u row x)) (list_any (λ source. not (may_be_absent u row source)) (y ∷ sources)) e) [
    | inl f ↦ front_some (value_of s x) _ (value_some x f)
    | inr f ↦ back_some (value_of s x) _ (back_some separator _ (joined_some separator (y ∷ sources) f))
  ]

  length_values : (sources : List Bytes) → length (values sources) ≡ length sources
  length_values [] = refl
  length_values (x ∷ sources) = ap suc (length_values sources)

  -- `label_join`
  module _ (j : Joining) where
    abbrev joined : Bytes
    joined = joined_by j.separator (values j.sources)

    shows_some : shows j ≡ true → joined ≢ []
    shows_some e =
        let k = and_parts (not (bytes_eq j.separator [])) (nat_lt 1 (length j.sources)) e in
        let some : j.separator ≢ [] = λ none. true≢false (sym k.0 ∙ ap not (same_true j.separator [] none)) in
        let two : 1 < length j.sources = grind (arith, nat_tests, k.1) in
        joined_shows j.separator (values j.sources) some (omega (arith, two, length_values j.sources))

    shows_none : shows j ≡ false → (j.separator ≡ []) ⊎ (length (values j.sources) ≤ 1)
    shows_none e = by (bytes_eq j.separator []) refl e
      where
        by : (b : Bool) → bytes_eq j.separator [] ≡ b → (not b && nat_lt 1 (length j.sources)) ≡ false → (j.separator ≡ []) ⊎ (length (values j.sources) ≤ 1)
        by true f g = inl (true_same j.separator [] f)
        by false f g = let few : length j.sources ≤ 1 = grind (arith, nat_tests, g) in inr (omega (arith, few, length_values j.sources))

    is_join_of : is_join u j row (class_of u (label_of u j.target) joined) ≡ true
    is_join_of = by (not (shows j) && list_all (λ source. not (may_be_present u row source)) j.sources) refl
      where
        class : ℕ
        class = class_of u (label_of u j.target) (joined_by j.separator (values j.sources))

        second : (b : Bool) → (shows j || list_any (λ source. not (may_be_absent u row source)) j.sources) ≡ b
            → cond b (not (eqb (class_of u (label_of u j.target) (joined_by j.separator (values j.sources))) 0)) true ≡ true
        second false e = refl
        second true e = ap not (class_of_some u (label_of u j.target) (joined_by j.separator (values j.sources)) (elim (or_cases (shows j) _ e) [
          | inl f ↦ shows_some f
          | inr f ↦ joined_some j.separator j.sources f
        ]))

        by : (b : Bool) → (not (shows j) && list_all (λ source. not (may_be_present u row source)) j.sources) ≡ b
            → cond b (eqb (class_of u (label_of u j.target) (joined_by j.separator (values j.sources))) 0)
            (cond (shows j || list_any (λ source. not (may_be_absent u row source)) j.sources) (not (eqb (class_of u (label_of u j.target) (joined_by j.separator (values j.sources))) 0)) true) ≡ true
        by true e =
            let k = and_parts (not (shows j)) _ e in
            let none : joined_by j.separator (values j.sources) ≡ [] = joined_nothing j.separator (values j.sources) (shows_none (not-true (shows j) k.0)) (all_none j.sources k.1) in
            ap (λ t. eqb (class_of u (label_of u j.target) t) 0) none
        by false e = second _ refl

    pub represents_joining : (r : Labels) → AllByRecursion (IsKnown u) (joining_mentions j) → IsJoined j s r → Represents u (joining_row u j row) r
    represents_joining r known is =
        let L : Labels → Type 0 = λ t. Represents u (joining_row u j row) t in
        subst L (sym is) (represents_with_label u p j.target joined (λ label class. is_join u j row class) row s known.0.0 shape represents is_join_of)

  -- `label_replace`
  module _ (r : Replacing) (known : AllByRecursion (IsKnown u) (replacing_mentions r)) where
    abbrev value : Bytes
    value = source_value r s

    abbrev source : ℕ
    source = label_of u r.source

    abbrev set : List Bool
    set = source_set u row r.source

    first_class : nat_lt 0 (other_class u source) ≡ true
    first_class = grind (arith, nat_tests)

    no_label_class : (test : ℕ → Bool) → test 0 ≡ true → has_class u test (true ∷ []) ≡ true
    no_label_class test h = rw h refl

    own_texts : is_label_name r.source ≡ true → AreOwn u source (pattern_texts r.pattern)
    own_texts e = let P : Bool → Type 0 = λ b. AllByRecursion (IsKnown u) (cond b (mention r.source (pattern_texts r.pattern) ∷ []) []) in (subst P e known.1).0.1

    -- a class of the source may match where its text does, and may fail where it doesn't
    text_matches : (v : Bytes) (b : Bool) → nat_lt (class_of u source v) (other_class u source) ≡ b → is_label_name r.source ≡ true → matches r.pattern v ≡ true
        → cond (not b) (not (is_plain r.pattern)) (matches r.pattern (text_of u source (class_of u source v))) ≡ true
    text_matches v true e label h = let b : class_of u source v < other_class u source = grind (arith, nat_tests) in ap (matches r.pattern) (text_at_class u source v b) ∙ h
    text_matches v false e label h = plain_not_other u source r.pattern v (own_texts label) e h

    text_fails : (v : Bytes) (b : Bool) → nat_lt (class_of u source v) (other_class u source) ≡ b → matches r.pattern v ≡ false
        → cond (not b) true (not (matches r.pattern (text_of u source (class_of u source v)))) ≡ true
    text_fails v true e h = let b : class_of u source v < other_class u source = grind (arith, nat_tests) in ap not (ap (matches r.pattern) (text_at_class u source v b) ∙ h)
    text_fails v false e h = refl

    class_matches : (b : Bool) → is_label_name r.source ≡ b → matches r.pattern (cond b (value_of s r.source) []) ≡ true
        → has_class u (may_match u r.pattern source) (cond b (set_at u row source) (true ∷ [])) ≡ true
    class_matches true e h =
        has_class_at u (may_match u r.pattern source) row source (class_of u source (value_of s r.source)) (represents.1 r.source) (text_matches (value_of s r.source) _ refl e h)
    class_matches false e h = no_label_class (may_match u r.pattern source) (rw first_class h)

    class_fails : (b : Bool) → is_label_name r.source ≡ b → matches r.pattern (cond b (value_of s r.source) []) ≡ false
        → has_class u (may_fail u r.pattern source) (cond b (set_at u row source) (true ∷ [])) ≡ true
    class_fails true e h =
        has_class_at u (may_fail u r.pattern source) row source (class_of u source (value_of s r.source)) (represents.1 r.source) (text_fails (value_of s r.source) _ refl h)
    class_fails false e h = no_label_class (may_fail u r.pattern source) (rw first_class (ap not h))

    abbrev may_be : ℕ → ℕ → Bool
    may_be = may_be_replaced u r row

    expanded : (text : Bytes) → Expands r value text → is_expansion u r.replacement (label_of u r.target) (class_of u (label_of u r.target) text) ≡ true
    expanded text (inl same) =
        or_right _ _ (ap (λ t. eqb (class_of u (label_of u r.target) t) (class_of u (label_of u r.target) r.replacement)) same.1 ∙ eq-eqb _ _ refl)
    expanded text (inr any) = rw any.0 refl

    pub represents_replacing : (t : Labels) → IsReplaced r s t → Represents u (replacing_row u r row) t
    represents_replacing t (inl is) =
        let fails : has_class u (may_fail u r.pattern source) set ≡ true = class_fails (is_label_name r.source) refl (false_from_ne_true _ (λ e. is.0 ((matches_is r.pattern (source_value r s)).0 e))) in
        let L : Labels → Type 0 = λ x. Represents u (replacing_row u r row) x in
        subst L (sym is.1) (represents_replaced u p (is_label u r.target) may_be row s shape represents.0
        (λ name e.
        let second : (has_class u (may_fail u r.pattern source) set && holds row (label_of u name) (class_of u (label_of u name) (value_of s name))) ≡ true = rw (fails, represents.1 name) refl in
        or_right _ _ second) (λ name e. represents.1 name))
    represents_replacing t (inr is) =
        let found : has_class u (may_match u r.pattern source) set ≡ true = class_matches (is_label_name r.source) refl ((matches_is r.pattern (source_value r s)).1 is.0) in
        let pass : may_be (label_of u r.target) (class_of u (label_of u r.target) is.1) ≡ true = rw (found, expanded is.1 is.2) refl in
        let L : Labels → Type 0 = λ x. Represents u (replacing_row u r row) x in
        subst L (sym is.3) (represents_with_label u p r.target is.1 may_be row s known.0.0 shape represents pass)
