-- The classes that `absent` lets a label have, by the matchers on it.
use Rattle.std.proofs.Common.{◌≡◌, ◌≢◌, ℕ, ◌+◌, ◌<◌, ◌≤◌, Bool, true, false, not, ◌&&◌, ◌||◌, cond, eqb, nat_lt, List, [], ◌∷◌, map, length, get_or, take, Some, inl, inr, refl, sym, ◌∙◌, ap, subst, arith, length-set}
use Rattle.std.specs.Prelude.{replicate}
use Rattle.std.specs.List.{count_by, filter, list_any}
use Rattle.std.proofs.Math.ListN.{set}
use Rattle.std.proofs.lemmas.Bool.{cases_eq, not-true, or_right}
use Rattle.std.proofs.lemmas.Bool.Decides.{Decides-eqb, nat_tests}
use Rattle.std.proofs.lemmas.List.{get_or-replicate, get_or-set_other, get_or-set_same, length-replicate}
use Rattle.std.proofs.lemmas.List.Folds.{list_any_more}
use Rattle.std.proofs.lemmas.List.Sums.{count_by_more_no, count_by_more_yes, length-filter}
use Rattle.lf_ast.specs.Labels.{Bytes}
use Rattle.lf_ast.specs.declared.expr.Matcher.{Matcher}
use Rattle.std.proofs.Math.Bool.{and-true, and-false, or-false}
use Rattle.lf_semantics.specs.ClassRows.{holds, kept}
use Rattle.lf_semantics.specs.Listing.{Listing, class_of, class_texts, label_of, named_at}
use Rattle.lf_ast.specs.Selectors.{is_equal, metric}
use Rattle.lf_semantics.specs.RowTable.{absent_row, bare_row, has_class, is_label, is_metric_label, is_sought}
use Rattle.lf_semantics.specs.Strings.{absent_texts, equal_texts}
use Rattle.lf_semantics.proofs.EffectsRepresent.{has_class_at}
use Rattle.lf_semantics.proofs.Places.{eqb-other, place_le}
use Rattle.lf_classes.proofs.TextClasses.{none_set}
use Rattle.lf_flow.specs.views.Absence.{AreCounts, gives_class, is_class_sought, is_on_label, sought_text}
use Rattle.lf_flow.proofs.ClassSets.{eqb-turn, set_length}
use Rattle.lf_flow.proofs.MadeRows.{HasSome, made, made_holds, made_kept, made_same, shape_made}

filtered_any : {X : Type 0} (p q : X → Bool) (xs : List X) → list_any q (filter p xs) ≡ list_any (λ x. p x && q x) xs
filtered_any p q [] = refl
filtered_any p q (x ∷ xs) = by (p x) refl (filtered_any p q xs)
  where
    by : (b : Bool) → p x ≡ b → list_any q (filter p xs) ≡ list_any (λ y. p y && q y) xs → list_any q (filter p (x ∷ xs)) ≡ ((p x && q x) || list_any (λ y. p y && q y) xs)
    by true e rest = rw e (ap (λ b. q x || b) rest)
    by false e rest = rw e rest

no_matcher : (t z : Bool) → t ≡ z → (t || false) ≡ (z && true)
no_matcher true true e = refl
no_matcher false false e = refl
no_matcher true false e = absurd (cc)
no_matcher false true e = absurd (cc)

one_matcher : (x z : Bool) → (x || false) ≡ ((x || false) || (z && false))
one_matcher true true = refl
one_matcher true false = refl
one_matcher false true = refl
one_matcher false false = refl

several_matchers : (z t some has one : Bool) → t ≡ z → one ≡ false → (z ≡ false → some ≡ has) → (t || some) ≡ (has || (z && not one))
several_matchers true t some has one e f h = rw (e, f) (sym (or_right has true refl))
several_matchers false t some has one e f h = rw e (h refl ∙ sym (or-false has))

module _ (u : Listing) (label class : ℕ) where
  abbrev is_text : Bytes → Bool
  is_text text = eqb (class_of u label text) class

  abbrev has_text : Matcher → Bool
  has_text m = is_text (sought_text m)

  -- the texts of the `=` matchers, for a class that isn't that of the empty text
  equal_any : (ms : List Matcher) → eqb class 0 ≡ false → list_any is_text (equal_texts ms) ≡ list_any has_text ms
  equal_any [] e = refl
  equal_any (m ∷ ms) e = by (is_equal m.op) refl (equal_any ms e)
    where
      by : (b : Bool) → is_equal m.op ≡ b → list_any is_text (equal_texts ms) ≡ list_any has_text ms → list_any is_text (equal_texts (m ∷ ms)) ≡ (has_text m || list_any has_text ms)
      by true f rest = ap (λ b. list_any is_text (map (λ (x : Matcher). x.value) (cond b (m ∷ filter (λ x. is_equal x.op) ms) (filter (λ x. is_equal x.op) ms)))) f ∙ ap (λ b. is_text m.value || b) rest ∙ ap (λ b. is_text (cond b m.value []) || list_any has_text ms) (sym f)
      by false f rest = ap (λ b. list_any is_text (map (λ (x : Matcher). x.value) (cond b (m ∷ filter (λ x. is_equal x.op) ms) (filter (λ x. is_equal x.op) ms)))) f ∙ rest ∙ ap (λ b. b || list_any has_text ms) (sym (eqb-turn 0 class ∙ e)) ∙ ap (λ b. is_text (cond b m.value []) || list_any has_text ms) (sym f)

  absent_any : (ms : List Matcher) → list_any is_text (absent_texts ms) ≡ (list_any has_text ms || (eqb class 0 && not (eqb (length ms) 1)))
  absent_any [] = no_matcher (eqb 0 class) (eqb class 0) (eqb-turn 0 class)
  absent_any (m ∷ []) = one_matcher (has_text m) (eqb class 0)
  absent_any (m ∷ n ∷ ms) =
      several_matchers (eqb class 0) (eqb 0 class) (list_any is_text (equal_texts (m ∷ n ∷ ms))) (list_any has_text (m ∷ n ∷ ms)) (eqb (length (m ∷ n ∷ ms)) 1)
      (eqb-turn 0 class) (eqb-other (length (m ∷ n ∷ ms)) 1 (λ e. omega (arith, e))) (equal_any (m ∷ n ∷ ms))

by_bare : (a z bare n : Bool) → (a || (z && (bare || n))) ≡ ((bare && z) || (a || (z && n)))
by_bare true true true n = refl
by_bare true true false n = refl
by_bare true false true n = refl
by_bare true false false n = refl
by_bare false true true n = refl
by_bare false true false n = refl
by_bare false false true n = refl
by_bare false false false n = refl

metric_bare : (z t bare : Bool) → t ≡ z → (z && (bare || true)) ≡ ((bare && z) || (t || false))
metric_bare true true true e = refl
metric_bare true true false e = refl
metric_bare false false true e = refl
metric_bare false false false e = refl
metric_bare true false bare e = absurd (cc)
metric_bare false true bare e = absurd (cc)

none_any : (ms : List Matcher) → list_any (λ (m : Matcher). false) ms ≡ false
none_any [] = refl
none_any (m ∷ ms) = none_any ms

none_filtered : (ms : List Matcher) → filter (λ (m : Matcher). false) ms ≡ []
none_filtered [] = refl
none_filtered (m ∷ ms) = none_filtered ms

module _ (u : Listing) (label class : ℕ) (bare : Bool) (ms : List Matcher) where
  -- by whether the label is the metric name
  abbrev sought_if : Bool → Bool
  sought_if metric =
      list_any (λ (m : Matcher). (not metric && is_label u m.label label) && has_text u label class m) ms
      || (eqb class 0 && (bare || not (eqb (count_by (λ (m : Matcher). not metric && is_label u m.label label) ms) 1)))

  -- of a label that isn't the metric name
  sought_at : is_metric_label u label ≡ false → is_class_sought u label bare ms class ≡ is_sought u (record { matchers = ms; may_be_bare = bare }) label class
  sought_at none =
      let on : Matcher → Bool = λ m. is_label u m.label label in
      let has : Matcher → Bool = has_text u label class in
      let text : Bytes → Bool = is_text u label class in
      let z = eqb class 0 in
      let texts = absent_texts (filter on ms) in
      let by : (list_any (λ m. on m && has m) ms || (z && not (eqb (count_by on ms) 1))) ≡ list_any text texts =
      ap (λ a. a || (z && not (eqb (count_by on ms) 1))) (sym (filtered_any on has ms))
      ∙ ap (λ k. list_any has (filter on ms) || (z && not (eqb k 1))) (sym (length-filter on ms))
      ∙ sym (absent_any u label class (filter on ms)) in
      ap sought_if none
      ∙ by_bare (list_any (λ m. on m && has m) ms) z bare (not (eqb (count_by on ms) 1))
      ∙ ap (λ b. (bare && z) || b) by
      ∙ ap (λ b. (bare && z) || list_any text (cond b ([] ∷ []) texts)) (sym none)

  -- of the metric name, whose matchers aren't looked at
  sought_metric : is_metric_label u label ≡ true → is_class_sought u label bare ms class ≡ is_sought u (record { matchers = ms; may_be_bare = bare }) label class
  sought_metric metric =
      let none : count_by (λ (m : Matcher). false) ms ≡ 0 = sym (length-filter (λ (m : Matcher). false) ms) ∙ ap length (none_filtered ms) in
      ap sought_if metric
      ∙ ap (λ b. b || (eqb class 0 && (bare || not (eqb (count_by (λ (m : Matcher). false) ms) 1)))) (none_any ms)
      ∙ ap (λ k. eqb class 0 && (bare || not (eqb k 1))) none
      ∙ metric_bare (eqb class 0) (eqb 0 class) bare (eqb-turn 0 class)
      ∙ ap (λ b. (bare && eqb class 0) || list_any (is_text u label class) (cond b ([] ∷ []) (absent_texts (filter (λ (m : Matcher). is_label u m.label label) ms)))) (sym metric)

  pub sought_same : is_class_sought u label bare ms class ≡ is_sought u (record { matchers = ms; may_be_bare = bare }) label class
  sought_same = by (is_metric_label u label) refl
    where
      by : (b : Bool) → is_metric_label u label ≡ b → is_class_sought u label bare ms class ≡ is_sought u (record { matchers = ms; may_be_bare = bare }) label class
      by true e = sought_metric e
      by false e = sought_at e

-- the row by the matchers is that of `absent`
pub sought_row : (u : Listing) (bare : Bool) (ms : List Matcher) → made u (λ label. is_class_sought u label bare ms) ≡ absent_row u (Some (record { matchers = ms; may_be_bare = bare }))
sought_row u bare ms =
    made_same u (λ label. is_class_sought u label bare ms) (is_sought u (record { matchers = ms; may_be_bare = bare })) (λ l c h. sought_same u l c bare ms)

-- before any matcher each label has the empty text alone
pub sought_none : (u : Listing) → bare_row u ≡ made u (λ label. is_class_sought u label true [])
sought_none u = made_same u (λ l c. eqb c 0) (λ label. is_class_sought u label true []) (λ l c h. sym (and-true (eqb c 0)))

pub counts_none : (u : Listing) (counts : List ℕ) → counts ≡ replicate (length u.named) 0 → AreCounts u [] counts
counts_none u counts is = record {
  count = ap length is ∙ length-replicate (length u.named) 0;
  at = λ l h. ap (λ xs. get_or xs l 0) is ∙ get_or-replicate (length u.named) l 0 0 h;
}

-- where one matcher alone stands on a label, its class is the one that is given

module _ (u : Listing) (label : ℕ) where
  abbrev given : List Matcher → ℕ → Bool
  given ms c = list_any (gives_class u label c) ms

  abbrev size : ℕ
  size = length (named_at u label) + 2

  alone_in : (fs : List Matcher) → length fs ≡ 1 → (x : ℕ) × (x < size) × ((c : ℕ) → list_any (has_text u label c) fs ≡ eqb x c)
  alone_in [] e = absurd (omega (arith, e))
  alone_in (m ∷ []) e = (class_of u label (sought_text m), omega (arith, place_le (class_texts u label) (sought_text m)), λ c. or-false (has_text u label c m))
  alone_in (m ∷ n ∷ fs) e = absurd (omega (arith, e))

  alone : (ms : List Matcher) → count_by (is_on_label u label) ms ≡ 1 → (x : ℕ) × (x < size) × ((c : ℕ) → given ms c ≡ eqb x c)
  alone ms e =
      let r = alone_in (filter (is_on_label u label) ms) (length-filter (is_on_label u label) ms ∙ e) in
      (r.0, r.1, λ c. sym (filtered_any (is_on_label u label) (has_text u label c) ms) ∙ r.2 c)

  pub some_sought : (bare : Bool) (ms : List Matcher) → (c : ℕ) × (c < size) × (is_class_sought u label bare ms c ≡ true)
  some_sought bare ms = by (eqb (count_by (is_on_label u label) ms) 1) refl
    where
      by : (b : Bool) → eqb (count_by (is_on_label u label) ms) 1 ≡ b → (c : ℕ) × (c < size) × (is_class_sought u label bare ms c ≡ true)
      by true e =
          let r = alone ms ((Decides-eqb (count_by (is_on_label u label) ms) 1).0 e) in
          (r.0, r.1, ap (λ b. b || (eqb r.0 0 && (bare || not (eqb (count_by (is_on_label u label) ms) 1)))) (r.2 r.0 ∙ (Decides-eqb r.0 r.0).1 refl))
      by false e = (0, omega arith, ap (λ b. given ms 0 || (bare || not b)) e ∙ ap (λ b. given ms 0 || b) (or_right bare true refl) ∙ or_right (given ms 0) true refl)

-- the next matcher

module _ (u : Listing) (label : ℕ) (m : Matcher) (is_of : label ≡ label_of u m.label) where
  on_other : (l : ℕ) → l ≢ label → is_on_label u l m ≡ false
  on_other l n = ap (λ b. not (is_metric_label u l) && b) (eqb-other (label_of u m.label) l (λ e. n (sym e ∙ sym is_of))) ∙ and-false (not (is_metric_label u l))

  on_metric : label ≡ label_of u metric → (l : ℕ) → is_on_label u l m ≡ false
  on_metric q l = elim (cases_eq l label) [
    | inl e ↦ ap (λ b. not b && is_label u m.label l) ((Decides-eqb (label_of u metric) l).1 (sym (e ∙ q)))
    | inr n ↦ on_other l n
  ]

  on_here : label ≢ label_of u metric → is_on_label u label m ≡ true
  on_here n =
      ap (λ b. not b && is_label u m.label label) (eqb-other (label_of u metric) label (λ e. n (sym e)))
      ∙ (Decides-eqb (label_of u m.label) label).1 (sym is_of)

  module _ (ms : List Matcher) (k : ℕ) (h : k < length ms) (is : m ≡ get_or ms k m) where
    more : (l c : ℕ) → list_any (gives_class u l c) (take (k + 1) ms) ≡ (list_any (gives_class u l c) (take k ms) || gives_class u l c m)
    more l c = list_any_more (gives_class u l c) ms k m h ∙ ap (λ x. list_any (gives_class u l c) (take k ms) || gives_class u l c x) (sym is)

    -- stands on the metric name
    pub sought_passed : label ≡ label_of u metric → (l c : ℕ) → is_class_sought u l true (take k ms) c ≡ is_class_sought u l true (take (k + 1) ms) c
    sought_passed q l c =
        sym (ap (λ b. b || (eqb c 0 && true)) (more l c
        ∙ ap (λ b. list_any (gives_class u l c) (take k ms) || (b && eqb (class_of u l (sought_text m)) c)) (on_metric q l)
        ∙ or-false (list_any (gives_class u l c) (take k ms))))

    pub counts_passed : (counts : List ℕ) → label ≡ label_of u metric → AreCounts u (take k ms) counts → AreCounts u (take (k + 1) ms) counts
    counts_passed counts q before = record {
      count = before.count;
      at = λ l b. before.at l b ∙ sym (count_by_more_no (is_on_label u l) ms k m h (ap (is_on_label u l) (sym is) ∙ on_metric q l));
    }

    -- or on another label, whose set gets its class
    pub sought_more : (class : ℕ) → label ≢ label_of u metric → class ≡ class_of u label (sought_text m)
        → (l c : ℕ) → is_class_sought u l true (take (k + 1) ms) c ≡ cond (eqb l label && eqb c class) true (is_class_sought u l true (take k ms) c)
    sought_more class n q l c =
        let before = list_any (gives_class u l c) (take k ms) in
        let none = eqb c 0 && true in
        ap (λ b. b || none) (more l c) ∙ (elim (cases_eq l label) [
          | inl e ↦
              let on : is_on_label u l m ≡ true = ap (λ j. is_on_label u j m) e ∙ on_here n in
              let given : eqb (class_of u l (sought_text m)) c ≡ eqb c class = ap (λ j. eqb (class_of u j (sought_text m)) c) e ∙ ap (λ x. eqb x c) (sym q) ∙ eqb-turn class c in
              ap (λ b. (before || (b && eqb (class_of u l (sought_text m)) c)) || none) on
              ∙ ap (λ b. (before || b) || none) given
              ∙ put before none (eqb c class)
              ∙ sym (ap (λ b. cond (b && eqb c class) true (before || none)) ((Decides-eqb l label).1 e))
          | inr d ↦
              ap (λ b. (before || (b && eqb (class_of u l (sought_text m)) c)) || none) (on_other l d)
              ∙ ap (λ b. b || none) (or-false before)
              ∙ sym (ap (λ b. cond (b && eqb c class) true (before || none)) (eqb-other l label d))
        ])
      where
        put : (a z b : Bool) → ((a || b) || z) ≡ cond b true (a || z)
        put true z true = refl
        put true z false = refl
        put false z true = refl
        put false z false = refl

    pub counts_more : (counts : List ℕ) → label ≢ label_of u metric → label < length u.named → AreCounts u (take k ms) counts → AreCounts u (take (k + 1) ms) (set counts label (get_or counts label 0 + 1))
    counts_more counts n w before = record {
      count = length-set counts label (get_or counts label 0 + 1) ∙ before.count;
      at = λ l b. elim (cases_eq l label) [
        | inl e ↦
            let on : is_on_label u l m ≡ true = ap (λ j. is_on_label u j m) e ∙ on_here n in
            ap (λ j. get_or (set counts label (get_or counts label 0 + 1)) j 0) e
            ∙ get_or-set_same counts label (get_or counts label 0 + 1) 0 (omega (arith, w, before.count))
            ∙ ap (λ j. get_or counts j 0 + 1) (sym e) ∙ ap (λ x. x + 1) (before.at l b)
            ∙ sym (count_by_more_yes (is_on_label u l) ms k m h (ap (is_on_label u l) (sym is) ∙ on))
        | inr d ↦
            get_or-set_other counts label l (get_or counts label 0 + 1) 0 d ∙ before.at l b
            ∙ sym (count_by_more_no (is_on_label u l) ms k m h (ap (is_on_label u l) (sym is) ∙ on_other l d))
      ];
    }

-- the empty text is taken from one label after the other

module _ (u : Listing) (ms : List Matcher) where
  -- below a number the sample has a label for certain where the matchers say so
  abbrev pub certain_below : ℕ → ℕ → ℕ → Bool
  certain_below k l c = is_class_sought u l (not (nat_lt l k)) ms c

  pub some_certain : (k : ℕ) → HasSome u (certain_below k)
  some_certain k l h = some_sought u l (not (nat_lt l k)) ms

  pub certain_first : made u (λ label. is_class_sought u label true ms) ≡ made u (certain_below 0)
  certain_first =
      made_same u (λ label. is_class_sought u label true ms) (certain_below 0)
      (λ l c h. let e : nat_lt l 0 ≡ false = grind (arith, nat_tests) in sym (ap (λ b. is_class_sought u l (not b) ms c) e))

  pub certain_all : (k : ℕ) → length u.named ≤ k → made u (certain_below k) ≡ made u (λ label. is_class_sought u label false ms)
  certain_all k n =
      made_same u (certain_below k) (λ label. is_class_sought u label false ms)
      (λ l c h. let b : l < k = omega (arith, h, n) in let e : nat_lt l k ≡ true = grind (arith, nat_tests) in ap (λ b. is_class_sought u l (not b) ms c) e)

  module _ (k : ℕ) (h : k < length u.named) where
    abbrev count : ℕ
    count = count_by (is_on_label u k) ms

    abbrev none_given : Bool
    none_given = list_any (gives_class u k 0) ms

    text_alone : count ≡ 1 → has_class u (λ class. not (eqb class 0)) (get_or (made u (certain_below k)) k []) ≡ not none_given
    text_alone e =
        let r = alone u k ms e in
        let row = made u (certain_below k) in
        let size : length (get_or row k []) ≡ length (named_at u k) + 2 = set_length u row (shape_made u (certain_below k)) k h in
        let held : (c : ℕ) → c < length (named_at u k) + 2 → holds row k c ≡ (eqb r.0 c || (eqb c 0 && (not (nat_lt k k) || not (eqb count 1)))) =
        λ c b. made_holds u (certain_below k) (some_certain k) k c h b ∙ ap (λ b. b || (eqb c 0 && (not (nat_lt k k) || not (eqb count 1)))) (r.2 c) in
        (elim (cases_eq r.0 0) [
          | inl z ↦
              none_set (λ class. not (eqb class 0)) (get_or row k []) 0 (λ c b t.
              let some : eqb c 0 ≡ false = not-true (eqb c 0) (ap (λ n. not (eqb n 0)) (let q : c ≡ 0 + c = omega arith in q) ∙ t) in
              held c (omega (arith, b, size))
              ∙ ap (λ n. eqb n c || (eqb c 0 && (not (nat_lt k k) || not (eqb count 1)))) z
              ∙ ap (λ b. b || (eqb c 0 && (not (nat_lt k k) || not (eqb count 1)))) (eqb-turn 0 c ∙ some)
              ∙ ap (λ b. b && (not (nat_lt k k) || not (eqb count 1))) some)
              ∙ sym (ap not (r.2 0 ∙ (Decides-eqb r.0 0).1 z))
          | inr d ↦
              has_class_at u (λ class. not (eqb class 0)) row k r.0
              (held r.0 r.1 ∙ ap (λ b. b || (eqb r.0 0 && (not (nat_lt k k) || not (eqb count 1)))) ((Decides-eqb r.0 r.0).1 refl))
              (ap not (eqb-other r.0 0 d))
              ∙ sym (ap not (r.2 0 ∙ eqb-other r.0 0 d))
        ])

    -- what is asked of the label
    asked : (eqb count 1 && has_class u (λ class. not (eqb class 0)) (get_or (made u (certain_below k)) k [])) ≡ (eqb count 1 && not none_given)
    asked = by (eqb count 1) refl
      where
        by : (b : Bool) → eqb count 1 ≡ b → (b && has_class u (λ class. not (eqb class 0)) (get_or (made u (certain_below k)) k [])) ≡ (b && not none_given)
        by true e = text_alone ((Decides-eqb count 1).0 e)
        by false e = refl

    step_here : (found one first z any : Bool) → found ≡ (one && not first) → (z ≡ true → any ≡ first) → (any || (z && not one)) ≡ cond (found && z) false (any || (z && true))
    step_here true one first false any e f = refl
    step_here false one first false any e f = refl
    step_here found true true true any e f = rw (e, f refl) refl
    step_here found true false true any e f = rw (e, f refl) refl
    step_here found false first true any e f = rw e refl

    step : (found : Bool) → found ≡ (eqb count 1 && has_class u (λ class. not (eqb class 0)) (get_or (made u (certain_below k)) k []))
        → (l c : ℕ) → certain_below (k + 1) l c ≡ cond (found && (eqb l k && eqb c 0)) false (certain_below k l c)
    step found told l c = elim (cases_eq l k) [
      | inl e ↦
          let P : ℕ → Type 0 = λ m. certain_below (k + 1) m c ≡ cond (found && (eqb m k && eqb c 0)) false (certain_below k m c) in
          let any = list_any (gives_class u k c) ms in
          let last : nat_lt k (k + 1) ≡ true = grind (arith, nat_tests) in
          let this : nat_lt k k ≡ false = grind (arith, nat_tests) in
          let here : eqb k k ≡ true = (Decides-eqb k k).1 refl in
          subst P (sym e)
          (ap (λ b. any || (eqb c 0 && (not b || not (eqb count 1)))) last
          ∙ step_here found (eqb count 1) none_given (eqb c 0) any (told ∙ asked) (λ z. ap (λ n. list_any (gives_class u k n) ms) ((Decides-eqb c 0).0 z))
          ∙ sym (ap (λ b. cond (found && (b && eqb c 0)) false (certain_below k k c)) here
          ∙ ap (λ b. cond (found && eqb c 0) false (any || (eqb c 0 && (not b || not (eqb count 1))))) this))
      | inr n ↦
          let same : nat_lt l (k + 1) ≡ nat_lt l k = grind (arith, nat_tests) in
          ap (λ b. is_class_sought u l (not b) ms c) same
          ∙ sym (ap (λ b. cond (found && (b && eqb c 0)) false (certain_below k l c)) (eqb-other l k n) ∙ none found)
    ]
      where
        none : (b : Bool) → cond (b && false) false (certain_below k l c) ≡ certain_below k l c
        none true = refl
        none false = refl

    pub certain_taken : (found : Bool) → found ≡ true → found ≡ (eqb count 1 && has_class u (λ class. not (eqb class 0)) (get_or (made u (certain_below k)) k []))
        → kept k 0 false (made u (certain_below k)) ≡ made u (certain_below (k + 1))
    certain_taken found e told =
        made_kept u (certain_below k) (some_certain k) (certain_below (k + 1)) k 0 false
        (λ l c b. step found told l c ∙ ap (λ t. cond (t && (eqb l k && eqb c 0)) false (certain_below k l c)) e)

    pub certain_same : (found : Bool) → found ≡ false → found ≡ (eqb count 1 && has_class u (λ class. not (eqb class 0)) (get_or (made u (certain_below k)) k []))
        → made u (certain_below k) ≡ made u (certain_below (k + 1))
    certain_same found e told =
        made_same u (certain_below k) (certain_below (k + 1))
        (λ l c b. sym (step found told l c ∙ ap (λ t. cond (t && (eqb l k && eqb c 0)) false (certain_below k l c)) e))
