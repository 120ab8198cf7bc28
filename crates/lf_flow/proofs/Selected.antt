-- What a selector sees: the recorded rows and the series.
use Rattle.std.proofs.Common.{◌≡◌, ◌≢◌, ◌⊎◌, ℕ, zero, suc, ◌+◌, ◌<◌, Bool, true, false, not, ◌&&◌, ◌||◌, cond, eqb, List, [], ◌∷◌, length, map, get_or, take, drop, Option, Some, None, inl, inr, refl, sym, ◌∙◌, ap, subst, arith, drop-cons, add-one, length-set}
use Rattle.std.proofs.Math.ListN.{set}
use Rattle.std.specs.Prelude.{replicate}
use Rattle.std.specs.List.{AllByRecursion, list_any}
use Rattle.std.specs.Str.{bytes_eq}
use Rattle.std.proofs.lemmas.Bool.{cases_eq}
use Rattle.std.proofs.lemmas.Bool.Decides.{Decides-eqb, nat_tests}
use Rattle.std.proofs.lemmas.List.{get_or-set_other, get_or-set_same, length-replicate}
use Rattle.std.proofs.lemmas.List.Folds.{list_all_more, list_any_more}
use Rattle.std.proofs.lemmas.Option.{none-some, same_Some}
use Rattle.lf_ast.specs.Labels.{Bytes}
use Rattle.lf_ast.specs.declared.expr.Matcher.{Matcher}
use Rattle.std.proofs.Math.Bool.{and-true, and-false}
use Rattle.lf_semantics.specs.ClassRows.{HasShape, Sets, top, narrowed, bottom, replaced, set_to, join}
use Rattle.lf_semantics.specs.Environments.{IsEnvironment, IsRow}
use Rattle.lf_semantics.specs.Listing.{IsListing, Listing, class_of, label_of}
use Rattle.lf_ast.specs.Selectors.{metric}
use Rattle.lf_semantics.specs.RowTable.{Environment, is_label, is_metric_label, is_recorded, passes_class, passes_matchers, row_named, row_or_series, scraped_row, seen_row, series_row, with_recorded}
use Rattle.lf_semantics.proofs.Places.{eqb-other}
use Rattle.lf_semantics.proofs.RowLaws.{shape_join}
use Rattle.lf_semantics.proofs.NormalizedRows.{IsNormalized, normalized_top, normalized_bottom, normalized_replaced, normalized_join}
use Rattle.lf_semantics.proofs.SelectorsRepresent.{shape_scraped, shape_with_recorded}
use Rattle.lf_flow.specs.views.ClassSets.{IsSet}
use Rattle.lf_flow.specs.Raising.{joined_each}
use Rattle.lf_flow.proofs.ClassSets.{replaced_same}
use Rattle.lf_flow.proofs.Layered.{narrowed_twice, same_narrowed}
use Rattle.lf_flow.proofs.MatcherSets.{get_one}
use Rattle.lf_flow.proofs.PatternSets.{retested}

-- a list of which an end is left

all_drop : {X : Type 0} (P : X → Type 0) (xs : List X) (k : ℕ) → AllByRecursion P xs → AllByRecursion P (drop k xs)
all_drop P [] zero all = tt
all_drop P [] (suc k) all = tt
all_drop P (x ∷ xs) zero all = all
all_drop P (x ∷ xs) (suc k) all = all_drop P xs k all.1

-- rows that are joined

pub joined_none : (rows : List Sets) (row : Sets) → joined_each (drop (length rows) rows) row ≡ row
joined_none [] row = refl
joined_none (first ∷ rows) row = joined_none rows row

pub joined_more : (rows : List Sets) (k : ℕ) (d row : Sets) → k < length rows → joined_each (drop k rows) row ≡ join (joined_each (drop (k + 1) rows) row) (get_or rows k d)
joined_more rows k d row h = rw add-one (ap (λ xs. joined_each xs row) (drop-cons rows k d h))

pub joined_all : (rows : List Sets) (row : Sets) → joined_each (drop 0 rows) row ≡ joined_each rows row
joined_all [] row = refl
joined_all (first ∷ rows) row = refl

shape_each : (u : Listing) (rows : List Sets) (row : Sets) → HasShape u row → AllByRecursion (HasShape u) rows → HasShape u (joined_each rows row)
shape_each u [] row shape all = shape
shape_each u (first ∷ rows) row shape all = shape_join u (joined_each rows row) first (shape_each u rows row shape all.1) all.0

pub shape_joined : (u : Listing) (rows : List Sets) (k : ℕ) (row : Sets) → HasShape u row → AllByRecursion (HasShape u) rows → HasShape u (joined_each (drop k rows) row)
shape_joined u rows k row shape all = shape_each u (drop k rows) row shape (all_drop (HasShape u) rows k all)

module _ (u : Listing) where
  pub each_shape : (env : Environment) → AllByRecursion (λ entry. IsRow u entry.1) env → AllByRecursion (HasShape u) (map (λ (entry : Bytes × Sets). entry.1) env)
  each_shape [] all = tt
  each_shape (entry ∷ env) all = (all.0.0, each_shape env all.1)

  pub each_joined : (env : Environment) (row : Sets) → joined_each (map (λ (entry : Bytes × Sets). entry.1) env) row ≡ with_recorded u env row
  each_joined [] row = refl
  each_joined (entry ∷ env) row = ap (λ r. join r entry.1) (each_joined env row)

  pub recorded_test : (env : Environment) (label class : ℕ) → list_any (λ (name : Bytes). eqb (class_of u label name) class) (map (λ (entry : Bytes × Sets). entry.0) env) ≡ is_recorded u env label class
  recorded_test [] label class = refl
  recorded_test (entry ∷ env) label class = ap (λ b. eqb (class_of u label entry.0) class || b) (recorded_test env label class)

  -- the series of a name
  pub series_is : (name : Bytes) (label class : ℕ) → label ≡ label_of u metric → class ≡ class_of u label name → set_to label class (top u) ≡ replaced (is_metric_label u) (λ l c. eqb c (class_of u l name)) (top u)
  series_is name label class e f =
      replaced_same (λ l. eqb label l) (is_metric_label u) (λ l c. eqb c class) (λ l c. eqb c (class_of u l name)) (top u) (λ l b. ap (λ k. eqb k l) e)
      (λ l c b k chosen. ap (eqb c) (f ∙ ap (λ m. class_of u m name) ((Decides-eqb label l).0 chosen)))

-- classes that are taken out of a set

pub put_off : (n k : ℕ) (test : ℕ → Bool) (on : List Bool) → k < n → IsSet n test on → IsSet n (λ c. test c && not (eqb k c)) (set on k false)
put_off n k test on h s = record {
  count = length-set on k false ∙ s.count;
  each = λ c b. by c b (cases_eq k c);
}
  where
    by : (c : ℕ) → c < n → (k ≡ c) ⊎ (k ≢ c) → get_or (set on k false) c false ≡ (test c && not (eqb k c))
    by c b (inl e) =
        ap (λ m. get_or (set on k false) m false) (sym e) ∙ get_or-set_same on k false false (omega (arith, s.count)) ∙ sym (and-false (test c)) ∙ ap (λ x. test c && not x) (sym ((Decides-eqb k c).1 e))
    by c b (inr d) = get_or-set_other on k c false false (λ e. d (sym e)) ∙ s.each c b ∙ sym (and-true (test c)) ∙ ap (λ x. test c && not x) (sym (eqb-other k c d))

one_less : (a b k : Bool) → ((a && not b) && not k) ≡ (a && not (b || k))
one_less true true k = refl
one_less true false k = refl
one_less false b k = refl

-- all classes but the empty text
pub first_off : (n : ℕ) (on : List Bool) → 0 < n → on ≡ replicate n true → IsSet n (λ c. not (eqb c 0) && true) (set on 0 false)
first_off n on h is = record {
  count = length-set on 0 false ∙ ap length is ∙ length-replicate n true;
  each = λ c b. ap (λ xs. get_or (set xs 0 false) c false) is ∙ get_one n 0 c true false h b ∙ by c;
}
  where
    by : (c : ℕ) → cond (eqb 0 c) false true ≡ (not (eqb c 0) && true)
    by zero = refl
    by (suc c) = let e : eqb 0 (suc c) ≡ false = grind (arith, nat_tests) in let f : eqb (suc c) 0 ≡ false = grind (arith, nat_tests) in rw (e, f) refl

-- and the class of one more name
pub off_more : (u : Listing) (label n k i : ℕ) (names : List Bytes) (on : List Bool) → i < length names → k ≡ class_of u label (get_or names i []) → k < n
    → IsSet n (λ c. not (eqb c 0) && not (list_any (λ (name : Bytes). eqb (class_of u label name) c) (take i names))) on
    → IsSet n (λ c. not (eqb c 0) && not (list_any (λ (name : Bytes). eqb (class_of u label name) c) (take (i + 1) names))) (set on k false)
off_more u label n k i names on h e b s =
    retested n _ _ (set on k false)
    (λ c j. one_less (not (eqb c 0)) (list_any (λ (name : Bytes). eqb (class_of u label name) c) (take i names)) (eqb k c)
    ∙ ap (λ m. not (eqb c 0) && not (list_any (λ (name : Bytes). eqb (class_of u label name) c) (take i names) || eqb m c)) e
    ∙ ap (λ x. not (eqb c 0) && not x) (sym (list_any_more (λ (name : Bytes). eqb (class_of u label name) c) names i [] h)))
    (put_off n k _ on b s)

-- the rows that are seen are normalized

module _ (u : Listing) (p : IsListing u) (env : Environment) (ok : IsEnvironment u env) where
  normalized_series : (name : Bytes) → IsNormalized (series_row u name)
  normalized_series name = elim (bytes_eq name []) as (λ b. IsNormalized (cond b (bottom u) (replaced (is_metric_label u) (λ label class. eqb class (class_of u label name)) (top u)))) [
    | true ↦ normalized_bottom u
    | false ↦ normalized_replaced (is_metric_label u) (λ label class. eqb class (class_of u label name)) (top u) (normalized_top u p)
  ]

  normalized_named : (later : Environment) (n : Bytes) (o : Option Sets) → row_named later n ≡ o → AllByRecursion (λ entry. IsRow u entry.1) later → IsNormalized (row_or_series u o n)
  normalized_named later n None e rows = normalized_series n
  normalized_named [] n (Some row) e rows = absurd (none-some row e)
  normalized_named (entry ∷ later) n (Some row) e rows = by (bytes_eq entry.0 n) e (λ f. normalized_named later n (Some row) f rows.1)
    where
      by : (b : Bool) → cond b (Some entry.1) (row_named later n) ≡ Some row → (row_named later n ≡ Some row → IsNormalized row) → IsNormalized row
      by true e rest = subst IsNormalized (same_Some entry.1 row e) rows.0.1
      by false e rest = rest e

  normalized_recorded : (later : Environment) (row : Sets) → HasShape u row → IsNormalized row → AllByRecursion (λ entry. IsRow u entry.1) later → IsNormalized (with_recorded u later row)
  normalized_recorded [] row shape is rows = is
  normalized_recorded (entry ∷ later) row shape is rows = normalized_join u (with_recorded u later row) entry.1 (shape_with_recorded u p env ok row later shape rows.1) rows.0.0 rows.0.1

  pub scraped_is : (row : Sets) → row ≡ scraped_row u env → IsRow u row
  scraped_is row e =
      subst (IsRow u) (sym e) (shape_scraped u p env ok, normalized_replaced (is_metric_label u) (λ label class. not (eqb class 0) && not (is_recorded u env label class)) (top u) (normalized_top u p))

  pub normalized_seen : (o : Option Bytes) → IsNormalized (seen_row u env o)
  normalized_seen (Some n) = normalized_named env n (row_named env n) refl ok.rows
  normalized_seen None =
      normalized_recorded env (scraped_row u env) (shape_scraped u p env ok)
      (normalized_replaced (is_metric_label u) (λ label class. not (eqb class 0) && not (is_recorded u env label class)) (top u) (normalized_top u p)) ok.rows

-- one more matcher
pub matcher_more : (u : Listing) (matchers : List Matcher) (i : ℕ) (m : Matcher) (seen row : Sets) → i < length matchers → m ≡ get_or matchers i m → row ≡ narrowed (passes_matchers u (take i matchers)) seen
    → narrowed (λ label class. not (is_label u m.label label) || passes_class u m.op m.value label class) row ≡ narrowed (passes_matchers u (take (i + 1) matchers)) seen
matcher_more u matchers i m seen row h is e =
    let test : Matcher → ℕ → ℕ → Bool = λ x label class. not (is_label u x.label label) || passes_class u x.op x.value label class in
    ap (narrowed (test m)) e
    ∙ narrowed_twice (passes_matchers u (take i matchers)) (test m) seen
    ∙ same_narrowed _ _ seen (λ l c b.
    ap (λ x. passes_matchers u (take i matchers) l c && test x l c) is ∙ sym (list_all_more (λ x. test x l c) matchers i m h))
