-- The row of each construct grows with the rows of its parts.
use Rattle.std.proofs.Common.{◌≡◌, ℕ, zero, suc, ◌+◌, ◌<◌, Bool, true, false, not, ◌&&◌, ◌||◌, cond, eqb, List, [], ◌∷◌, length, get_or, codes, refl, sym, ◌∙◌, ap, subst, arith}
use Rattle.std.specs.List.{list_all, list_any}
use Rattle.std.proofs.lemmas.Bool.Decides.{nat_tests}
use Rattle.std.proofs.lemmas.Bool.{and_parts, not-true}
use Rattle.lf_ast.specs.Labels.{Bytes}
use Rattle.lf_base.specs.Names.{is_label_name}
use Rattle.lf_ast.specs.Tree.{Trees, Nil, Next}
use Rattle.lf_ast.specs.declared.expr.Group.{Group}
use Rattle.lf_ast.specs.declared.expr.Group.TheVariants.{One, Left, Right}
use Rattle.lf_ast.specs.declared.expr.Grouping.{Grouping}
use Rattle.lf_ast.specs.declared.expr.Matching.{Matching}
use Rattle.lf_ast.specs.declared.expr.Name.{Name}
use Rattle.lf_ast.specs.declared.expr.Op.{Op}
use Rattle.lf_ast.specs.declared.expr.Op.TheVariants.{Add, Subtract, Multiply, Divide, Modulo, Power, Atan2, Equal, NotEqual, LessOrEqual, Less, GreaterOrEqual, Greater, And, Or, Unless}
use Rattle.lf_ast.specs.declared.functions.LabelEffect.{LabelEffect}
use Rattle.lf_ast.specs.declared.functions.LabelEffect.TheVariants.{Maps, Keeps, Groups, CountValues, Date, Absent, LabelReplace, LabelJoin, HistogramQuantile, Bare}
use Rattle.lf_ast.specs.Arguments.{text_at, texts_of}
use Rattle.lf_semantics.specs.ClassRows.{HasShape, Sets, bottom, holds, indexed_from, is_live, narrowed, normalized, only_empty, remade, replaced}
use Rattle.lf_semantics.specs.Environments.{Leq}
use Rattle.lf_semantics.specs.Grouped.{is_arithmetic, is_filter, may_be_lacked}
use Rattle.lf_semantics.specs.Listing.{IsListing, Listing, label_of}
use Rattle.lf_semantics.specs.Parts.{sought_in}
use Rattle.lf_semantics.specs.RowTable.{absent_row, bare_row, beside_scalar_row, binary_row, combined_row, counted_row, date_row, effect_row, grouped_row, has_class, is_expansion, is_group_label, is_join, is_label, is_label_among, is_metric_label, joining_row, keeps_label, many_to_one_row, matched_row, may_be_absent, may_be_present, may_fail, may_match, nameless, nameless_if, paired_row, quantile_row, replacing_row, set_at, sign_row, signs_label, source_set, taken_row}
use Rattle.lf_semantics.specs.Strings.{Joining, Replacing, joining, replacing, shows}
use Rattle.lf_semantics.proofs.EffectsRepresent.{has_class_at, shape_grouped}
use Rattle.lf_semantics.proofs.PairsRepresent.{shape_matched, shape_nameless_if, shape_taken}
use Rattle.lf_semantics.proofs.RowLaws.{get_or-indexed, in_range, length-indexed}
use Rattle.lf_laws.proofs.Booleans.{clash}
use Rattle.lf_semantics.proofs.LeqLaws.{bottom_dead, leq_join, leq_narrowed, leq_only_empty, leq_refl, leq_replaced}
use Rattle.lf_semantics.proofs.RowSets.{live_at, some_on}

-- a class of the set that passes
of_has_class : (u : Listing) (test : ℕ → Bool) (set : List Bool) → has_class u test set ≡ true → (c : ℕ) × (get_or set c false ≡ true) × (test c ≡ true)
of_has_class u test set e =
    let tested : List Bool = indexed_from (λ class on. on && test class) 0 set in
    let r = some_on tested e in
    let b : r.0 < length set = omega (arith, r.1, length-indexed (λ class on. on && test class) 0 set) in
    let both = and_parts (get_or set r.0 false) (test (0 + r.0)) (sym (get_or-indexed (λ class on. on && test class) 0 set r.0 false false b) ∙ r.2) in
    let P : ℕ → Type 0 = λ n. test n ≡ true in
    (r.0, both.0, subst P (omega arith) both.1)

module _ (u : Listing) (p : IsListing u) (row other : Sets) (s : HasShape u row) (t : HasShape u other) (leq : Leq row other) where
  abbrev Holds : Type 0
  Holds = (l c : ℕ) → holds row l c ≡ true → holds other l c ≡ true

  class_grows : Holds → (test : ℕ → Bool) (l : ℕ) → has_class u test (set_at u row l) ≡ true → has_class u test (set_at u other l) ≡ true
  class_grows more test l e = let r = of_has_class u test (set_at u row l) e in has_class_at u test other l r.0 (more l r.0 r.1) r.2

  source_grows : Holds → (test : ℕ → Bool) (source : Bytes) → has_class u test (source_set u row source) ≡ true → has_class u test (source_set u other source) ≡ true
  source_grows more test source e = by (is_label_name source) e
    where
      by : (b : Bool) → has_class u test (cond b (set_at u row (label_of u source)) (true ∷ [])) ≡ true → has_class u test (cond b (set_at u other (label_of u source)) (true ∷ [])) ≡ true
      by true e = class_grows more test (label_of u source) e
      by false e = e

  pub nameless_grows : Leq (nameless u row) (nameless u other)
  nameless_grows = leq_only_empty u row other s t (is_metric_label u) leq

  grouped_grows : (grouping : Grouping) → Leq (grouped_row u grouping row) (grouped_row u grouping other)
  grouped_grows grouping = leq_only_empty u row other s t (λ label. not (is_group_label u grouping label)) leq

  counted_grows : (grouping : Grouping) (x : Bytes) → Leq (counted_row u grouping x row) (counted_row u grouping x other)
  counted_grows grouping x =
      let test : ℕ → ℕ → Bool = λ label class. not (eqb class 0) || may_be_lacked grouping x in
      leq_replaced u (grouped_row u grouping row) (grouped_row u grouping other) (shape_grouped u p grouping row s) (shape_grouped u p grouping other t) (is_label u x) test test (λ live l c e. e) (grouped_grows grouping)

  -- a row behind a test that grows
  guarded : (a b : Bool) (x y : Sets) → (is_live x ≡ true → a ≡ true → b ≡ true) → Leq x y → Leq (cond a x (bottom u)) (cond b y (bottom u))
  guarded true b x y h k e = let q : b ≡ true = h e refl in let P : Bool → Type 0 = λ z. (is_live (cond z y (bottom u)) ≡ true) × ((l c : ℕ) → holds x l c ≡ true → holds (cond z y (bottom u)) l c ≡ true) in subst P (sym q) (k e)
  guarded false b x y h k e = absurd (clash _ e (bottom_dead u p))

  of_replaced : (chosen : ℕ → Bool) (test : ℕ → ℕ → Bool) → is_live (replaced chosen test row) ≡ true → is_live row ≡ true
  of_replaced chosen test e = by (is_live row) refl e
    where
      by : (b : Bool) → is_live row ≡ b → is_live (replaced chosen test row) ≡ true → is_live row ≡ true
      by true f e = f
      by false f e =
          let same : replaced chosen test row ≡ row = ap (λ b. cond b (normalized (remade (λ l c on. cond (chosen l) (test l c) on) row)) row) f in
          let P : Sets → Type 0 = λ x. is_live x ≡ true in
          subst P same e

  quantile_grows : Leq (quantile_row u row) (quantile_row u other)
  quantile_grows =
      let chosen : ℕ → Bool = λ label. is_metric_label u label || is_label u (codes "le") label in
      guarded (may_be_present u row (codes "le")) (may_be_present u other (codes "le")) (only_empty chosen row) (only_empty chosen other)
      (λ e f. class_grows (leq (of_replaced chosen (λ l c. eqb c 0) e)).1 (λ class. not (eqb class 0)) (label_of u (codes "le")) f)
      (leq_only_empty u row other s t chosen leq)

  -- `label_replace`

  or_grows : (a a' b b' : Bool) → (a ≡ true → a' ≡ true) → (b ≡ true → b' ≡ true) → (a || b) ≡ true → (a' || b') ≡ true
  or_grows true a' b b' f g e = rw (f refl) refl
  or_grows false true b b' f g e = refl
  or_grows false false b b' f g e = g e

  and_grows : (a a' b b' : Bool) → (a ≡ true → a' ≡ true) → (b ≡ true → b' ≡ true) → (a && b) ≡ true → (a' && b') ≡ true
  and_grows true a' true b' f g e = rw (f refl, g refl) refl
  and_grows true a' false b' f g e = absurd (clash _ e refl)
  and_grows false a' b b' f g e = absurd (clash _ e refl)

  replacing_grows : (r : Replacing) → Leq (replacing_row u r row) (replacing_row u r other)
  replacing_grows r =
      let source : ℕ = label_of u r.source in
      let test : Sets → ℕ → ℕ → Bool = λ x label class.
      (has_class u (may_match u r.pattern source) (source_set u x r.source) && is_expansion u r.replacement label class) || (has_class u (may_fail u r.pattern source) (source_set u x r.source) && holds x label class) in
      leq_replaced u row other s t (is_label u r.target) (test row) (test other)
      (λ live l c. let more = (leq live).1 in
      or_grows _ _ _ _ (and_grows _ _ _ _ (source_grows more (may_match u r.pattern source) r.source) (λ e. e)) (and_grows _ _ _ _ (source_grows more (may_fail u r.pattern source) r.source) (more l c)))
      leq

  -- `label_join`

  not_back : (a b : Bool) → (a ≡ true → b ≡ true) → not b ≡ true → not a ≡ true
  not_back true b h e = absurd (clash _ e (ap not (h refl)))
  not_back false b h e = refl

  none_back : Holds → (sources : List Bytes) → list_all (λ source. not (may_be_present u other source)) sources ≡ true → list_all (λ source. not (may_be_present u row source)) sources ≡ true
  none_back more [] e = refl
  none_back more (x ∷ sources) e =
      let k = and_parts (not (may_be_present u other x)) _ e in
      rw (not_back (may_be_present u row x) (may_be_present u other x) (class_grows more (λ class. not (eqb class 0)) (label_of u x)) k.0, none_back more sources k.1) refl

  some_back : Holds → (sources : List Bytes) → list_any (λ source. not (may_be_absent u other source)) sources ≡ true → list_any (λ source. not (may_be_absent u row source)) sources ≡ true
  some_back more [] e = e
  some_back more (x ∷ sources) e =
      or_grows (not (may_be_absent u other x)) (not (may_be_absent u row x)) _ _ (not_back (may_be_absent u row x) (may_be_absent u other x) (more (label_of u x) 0)) (some_back more sources) e

  -- a label of a row that isn't empty may be there or may not
  one_of_two : is_live row ≡ true → (x : Bytes) → may_be_absent u row x ≡ false → may_be_present u row x ≡ false → ⊥
  one_of_two live x no_absence no_presence =
      let l : ℕ = label_of u x in
      let r = live_at row l live (in_range u p row x [] s).0 in
      by r.0 r.2
    where
      by : (c : ℕ) → holds row (label_of u x) c ≡ true → ⊥
      by zero h = clash _ h no_absence
      by (suc c) h = let some : eqb (suc c) 0 ≡ false = grind (arith, nat_tests) in clash _ (has_class_at u (λ class. not (eqb class 0)) row (label_of u x) (suc c) h (ap not some)) no_presence

  none_and_some : is_live row ≡ true → Holds → (sources : List Bytes) → list_all (λ source. not (may_be_present u row source)) sources ≡ true → list_any (λ source. not (may_be_absent u other source)) sources ≡ true → ⊥
  none_and_some live more [] e f = clash _ f refl
  none_and_some live more (x ∷ sources) e f =
      let k = and_parts (not (may_be_present u row x)) _ e in
      by (not (may_be_absent u other x)) refl f (none_and_some live more sources k.1) k.0
    where
      by : (b : Bool) → not (may_be_absent u other x) ≡ b → (b || list_any (λ source. not (may_be_absent u other source)) sources) ≡ true
          → (list_any (λ source. not (may_be_absent u other source)) sources ≡ true → ⊥) → not (may_be_present u row x) ≡ true → ⊥
      by true g f rest none =
          one_of_two live x (not-true (may_be_absent u row x) (not_back (may_be_absent u row x) (may_be_absent u other x) (more (label_of u x) 0) g)) (not-true (may_be_present u row x) none)
      by false g f rest none = rest f

  -- the tests of a join: by a separator that shows, sources of which none is ever there, and a source that is always there
  join_grows : (s none none' some some' empty : Bool) → (none' ≡ true → none ≡ true) → (some' ≡ true → some ≡ true) → (none ≡ true → some' ≡ true → ⊥)
      → cond (not s && none) empty (cond (s || some) (not empty) true) ≡ true → cond (not s && none') empty (cond (s || some') (not empty) true) ≡ true
  join_grows true none none' some some' empty f g h e = e
  join_grows false true true some some' empty f g h e = e
  join_grows false true false some true empty f g h e = absurd (h refl refl)
  join_grows false true false some false empty f g h e = refl
  join_grows false false true some some' empty f g h e = absurd (clash _ (f refl) refl)
  join_grows false false false some false empty f g h e = refl
  join_grows false false false true true empty f g h e = e
  join_grows false false false false true empty f g h e = absurd (clash _ (g refl) refl)

  joining_grows : (j : Joining) → Leq (joining_row u j row) (joining_row u j other)
  joining_grows j =
      leq_replaced u row other s t (is_label u j.target) (λ label class. is_join u j row class) (λ label class. is_join u j other class)
      (λ live l c. let more = (leq live).1 in
      join_grows (shows j) _ _ _ _ (eqb c 0) (none_back more j.sources) (some_back more j.sources) (none_and_some live more j.sources))
      leq

  date_grows : (args : Trees) → Leq (date_row u args row) (date_row u args other)
  date_grows Nil = leq_refl (bare_row u)
  date_grows (Next x xs) = nameless_grows

  pub effect_grows : (effect : LabelEffect) (grouping : Grouping) (args : Trees) → Leq (effect_row u effect grouping args row) (effect_row u effect grouping args other)
  effect_grows Maps grouping args = nameless_grows
  effect_grows Keeps grouping args = leq
  effect_grows Groups grouping args = grouped_grows grouping
  effect_grows CountValues grouping args = counted_grows grouping (text_at (texts_of args) 0)
  effect_grows Date grouping args = date_grows args
  effect_grows Absent grouping args = leq_refl (absent_row u (sought_in args))
  effect_grows LabelReplace grouping args = replacing_grows (replacing (texts_of args))
  effect_grows LabelJoin grouping args = joining_grows (joining (texts_of args))
  effect_grows HistogramQuantile grouping args = quantile_grows
  effect_grows Bare grouping args = leq_refl (bare_row u)

  pub sign_grows : (minus : Bool) → Leq (sign_row u minus row) (sign_row u minus other)
  sign_grows true = nameless_grows
  sign_grows false = leq

  beside_grows : (filters : Bool) → Leq (beside_scalar_row u filters row) (beside_scalar_row u filters other)
  beside_grows true = leq
  beside_grows false = nameless_grows

  nameless_if_grows : (drops : Bool) → Leq (nameless_if u drops row) (nameless_if u drops other)
  nameless_if_grows true = nameless_grows
  nameless_if_grows false = leq

  paired_one_grows : (op : Op) (m : Matching) → Leq (only_empty (λ label. not (keeps_label u op m label)) row) (only_empty (λ label. not (keeps_label u op m label)) other)
  paired_one_grows op m = leq_only_empty u row other s t (λ label. not (keeps_label u op m label)) leq

-- two rows

module _ (u : Listing) (p : IsListing u) (left left' right right' : Sets) (s : HasShape u left) (s' : HasShape u left') (leq : Leq left left') (t : HasShape u right) (t' : HasShape u right') (leq' : Leq right right') where
  if_signed : (q a a' : Bool) → (a ≡ true → a' ≡ true) → (not q || a) ≡ true → (not q || a') ≡ true
  if_signed true a a' f e = f e
  if_signed false a a' f e = refl

  matched_grows : (m : Matching) → Leq (matched_row u m left right) (matched_row u m left' right')
  matched_grows m = by (is_live right) refl
    where
      test : Sets → ℕ → ℕ → Bool
      test x l c = not (signs_label u m l) || holds x l c

      by : (b : Bool) → is_live right ≡ b → Leq (cond b (narrowed (test right) left) (bottom u)) (matched_row u m left' right')
      by false f e = absurd (clash _ e (bottom_dead u p))
      by true f e =
          let k = leq' f in
          let P : Bool → Type 0 = λ b. (is_live (cond b (narrowed (test right') left') (bottom u)) ≡ true) × ((l c : ℕ) → holds (narrowed (test right) left) l c ≡ true → holds (cond b (narrowed (test right') left') (bottom u)) l c ≡ true) in
          subst P (sym k.0) (leq_narrowed u left left' s s' (test right) (test right') (λ live l c. if_signed (signs_label u m l) (holds right l c) (holds right' l c) (k.1 l c)) leq e)

  -- the labels of a list as on the right side
  taken_grows : (names : List Name) → Leq (taken_row u right names left) (taken_row u right' names left')
  taken_grows names = by (is_live right) refl
    where
      by : (b : Bool) → is_live right ≡ b → Leq (cond b (replaced (is_label_among u names) (holds right) left) (bottom u)) (taken_row u right' names left')
      by false f e = absurd (clash _ e (bottom_dead u p))
      by true f e =
          let k = leq' f in
          let P : Bool → Type 0 = λ b.
          (is_live (cond b (replaced (is_label_among u names) (holds right') left') (bottom u)) ≡ true)
          × ((l c : ℕ) → holds (replaced (is_label_among u names) (holds right) left) l c ≡ true → holds (cond b (replaced (is_label_among u names) (holds right') left') (bottom u)) l c ≡ true) in
          subst P (sym k.0) (leq_replaced u left left' s s' (is_label_among u names) (holds right) (holds right') (λ live l c. k.1 l c) leq e)

module _ (u : Listing) (p : IsListing u) (left left' right right' : Sets) (s : HasShape u left) (s' : HasShape u left') (leq : Leq left left') (t : HasShape u right) (t' : HasShape u right') (leq' : Leq right right') where
  many_grows : (op : Op) (m : Matching) → Leq (many_to_one_row u op m left right) (many_to_one_row u op m left' right')
  many_grows op m =
      let many : Sets = nameless_if u (is_arithmetic op) left in
      let many' : Sets = nameless_if u (is_arithmetic op) left' in
      let k : HasShape u many = shape_nameless_if u p (is_arithmetic op) left s in
      let k' : HasShape u many' = shape_nameless_if u p (is_arithmetic op) left' s' in
      nameless_if_grows u p (taken_row u right m.include many) (taken_row u right' m.include many') (shape_taken u p right m.include many k) (shape_taken u p right' m.include many' k')
      (taken_grows u p many many' right right' k k' (nameless_if_grows u p left left' s s' leq (is_arithmetic op)) t t' leq' m.include)
      m.bool_mod

module _ (u : Listing) (p : IsListing u) (left left' right right' : Sets) (s : HasShape u left) (s' : HasShape u left') (leq : Leq left left') (t : HasShape u right) (t' : HasShape u right') (leq' : Leq right right') where
  paired_grows : (g : Group) (op : Op) (m : Matching) → Leq (paired_row u g op m left right) (paired_row u g op m left' right')
  paired_grows One op m = paired_one_grows u p left left' s s' leq op m
  paired_grows Left op m = many_grows u p left left' right right' s s' leq t t' leq' op m
  paired_grows Right op m = many_grows u p right right' left left' t t' leq' s s' leq op m

module _ (u : Listing) (p : IsListing u) (left left' right right' : Sets) (s : HasShape u left) (s' : HasShape u left') (leq : Leq left left') (t : HasShape u right) (t' : HasShape u right') (leq' : Leq right right') where
  pairs_grow : (op : Op) (m : Matching) → Leq (paired_row u m.group op m (matched_row u m left right) (matched_row u m right left)) (paired_row u m.group op m (matched_row u m left' right') (matched_row u m right' left'))
  pairs_grow op m =
      paired_grows u p (matched_row u m left right) (matched_row u m left' right') (matched_row u m right left) (matched_row u m right' left')
      (shape_matched u p m left right s) (shape_matched u p m left' right' s') (matched_grows u p left left' right right' s s' leq t t' leq' m)
      (shape_matched u p m right left t) (shape_matched u p m right' left' t') (matched_grows u p right right' left left' t t' leq' s s' leq m)
      m.group op m

  combined_grows : (op : Op) (m : Matching) → Leq (combined_row u op m left right) (combined_row u op m left' right')
  combined_grows And m = matched_grows u p left left' right right' s s' leq t t' leq' m
  combined_grows Or m = leq_join u left right left' right' s' t' leq leq'
  combined_grows Unless m = leq
  combined_grows Add m = pairs_grow Add m
  combined_grows Subtract m = pairs_grow Subtract m
  combined_grows Multiply m = pairs_grow Multiply m
  combined_grows Divide m = pairs_grow Divide m
  combined_grows Modulo m = pairs_grow Modulo m
  combined_grows Power m = pairs_grow Power m
  combined_grows Atan2 m = pairs_grow Atan2 m
  combined_grows Equal m = pairs_grow Equal m
  combined_grows NotEqual m = pairs_grow NotEqual m
  combined_grows LessOrEqual m = pairs_grow LessOrEqual m
  combined_grows Less m = pairs_grow Less m
  combined_grows GreaterOrEqual m = pairs_grow GreaterOrEqual m
  combined_grows Greater m = pairs_grow Greater m

  pub binary_grows : (op : Op) (m : Matching) (a b : Bool) → Leq (binary_row u op m a b left right) (binary_row u op m a b left' right')
  binary_grows op m true true = leq_refl (bare_row u)
  binary_grows op m false true = beside_grows u p left left' s s' leq (is_filter op m)
  binary_grows op m true false = beside_grows u p right right' t t' leq' (is_filter op m)
  binary_grows op m false false = combined_grows op m
