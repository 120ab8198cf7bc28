-- Sets of classes, and rows in which the classes of a label are replaced by them.
use Rattle.std.proofs.Common.{◌≡◌, ℕ, suc, ◌+◌, ◌<◌, Bool, true, false, cond, eqb, not, List, [], ◌∷◌, ◌++◌, map, length, get_or, refl, sym, ◌∙◌, ap, subst, arith, below_more}
use Rattle.std.proofs.lemmas.Grind.{common_steps}
use Rattle.std.proofs.lemmas.List.{get_or-map, length-map}
use Rattle.std.proofs.lemmas.Bool.Decides.{Decides-eqb, nat_tests}
use Rattle.lf_semantics.specs.ClassRows.{HasShape, Sets, indexed_from, is_live, replaced, normalized}
use Rattle.lf_ast.specs.Labels.{Bytes}
use Rattle.lf_ast.specs.declared.expr.Grouping.{Grouping}
use Rattle.lf_semantics.specs.Listing.{Listing, label_of, named_at}
use Rattle.lf_semantics.specs.RowTable.{grouped_row, is_group_label, is_label}
use Rattle.lf_semantics.proofs.RowLaws.{shape_replaced}
use Rattle.lf_semantics.proofs.RowSets.{remade_same}
use Rattle.lf_flow.specs.views.ClassSets.{IsSet}

pub eqb-turn : (m n : ℕ) → eqb m n ≡ eqb n m
eqb-turn m n = grind (arith, nat_tests)

pub none : (test : ℕ → Bool) → IsSet 0 test []
none test = record { count = refl; each = λ class h. absurd (omega arith) }

pub more : (count : ℕ) (test : ℕ → Bool) (on : List Bool) (b : Bool) → IsSet count test on → b ≡ test count → IsSet (count + 1) test (on ++ b ∷ [])
more count test on b set e = record {
  count = grind (arith, common_steps, set.count);
  each = below_more _ count (λ class h. grind (arith, common_steps, set.count, set.each class h)) (grind (arith, common_steps, set.count, e));
}

-- what a row is made of, from its labels and classes alone

pub indexed_same : {A B : Type 0} (f g : ℕ → A → B) (d : A) (k : ℕ) (xs : List A) → ((i : ℕ) → i < length xs → f (k + i) (get_or xs i d) ≡ g (k + i) (get_or xs i d)) → indexed_from f k xs ≡ indexed_from g k xs
indexed_same f g d k [] h = refl
indexed_same f g d k (x ∷ xs) h =
    let e : k + 0 ≡ k = omega arith in
    let first : f k x ≡ g k x = rw e at (h 0 (omega arith)) in
    let rest : indexed_from f (suc k) xs ≡ indexed_from g (suc k) xs =
    indexed_same f g d (suc k) xs (λ i b. let q : k + suc i ≡ suc k + i = omega arith in rw q at (h (suc i) (omega arith))) in
    rw (first, rest) refl

by_chosen : (chosen other f g on : Bool) → chosen ≡ other → (chosen ≡ true → f ≡ g) → cond chosen f on ≡ cond other g on
by_chosen true true f g on e h = h refl
by_chosen false false f g on e h = refl
by_chosen true false f g on e h = absurd (cc)
by_chosen false true f g on e h = absurd (cc)

pub replaced_same : (chosen other : ℕ → Bool) (f g : ℕ → ℕ → Bool) (row : Sets) → ((l : ℕ) → l < length row → chosen l ≡ other l)
    → ((l c : ℕ) → l < length row → c < length (get_or row l []) → chosen l ≡ true → f l c ≡ g l c) → replaced chosen f row ≡ replaced other g row
replaced_same chosen other f g row e h =
    ap (λ r. cond (is_live row) (normalized r) row)
    (remade_same (λ l c on. cond (chosen l) (f l c) on) (λ l c on. cond (other l) (g l c) on) row (λ l c b k. by_chosen _ _ _ _ _ (e l b) (h l c b k)))

-- a label whose classes are set to those that pass
pub set_is : (label : ℕ) (on : List Bool) (count : ℕ) (test : ℕ → ℕ → Bool) (row : Sets) → IsSet count (test label) on → length (get_or row label []) ≡ count
    → replaced (λ l. eqb label l) (λ l c. get_or on c false) row ≡ replaced (λ l. eqb label l) test row
set_is label on count test row set e =
    replaced_same _ _ _ _ row (λ l b. refl)
    (λ l c b k s. let same : label ≡ l = (Decides-eqb label l).0 s in
    let P : ℕ → Type 0 = λ n. c < length (get_or row n []) → get_or on c false ≡ test n c in
    subst P same (λ j. set.each c (omega (arith, e))) k)

-- the places of a row of a universe
module _ (u : Listing) (row : Sets) (shape : HasShape u row) where
  pub row_length : length row ≡ length u.named
  row_length = sym (length-map row length) ∙ ap length shape ∙ length-map u.named (λ named. length named + 2)

  pub set_length : (label : ℕ) → label < length u.named → length (get_or row label []) ≡ length (named_at u label) + 2
  set_length label h =
      let b : label < length row = omega (arith, row_length) in
      sym (get_or-map length row label [] 0 b) ∙ ap (λ counts. get_or counts label 0) shape ∙ get_or-map (λ named. length named + 2) u.named label [] 0 h

-- the label of a name has the classes that pass
pub set_named : (u : Listing) (name : Bytes) (label : ℕ) (on items : List Bool) (n : ℕ) (test : ℕ → ℕ → Bool) (row : Sets) → label ≡ label_of u name → on ≡ items → IsSet n (test label) items
    → length (get_or row label []) ≡ n → replaced (λ l. eqb label l) (λ l c. get_or on c false) row ≡ replaced (is_label u name) test row
set_named u name label on items n test row p q set e =
    ap (λ xs. replaced (λ l. eqb label l) (λ l c. get_or xs c false) row) q ∙ set_is label items n test row set e
    ∙ ap (λ k. replaced (λ l. eqb k l) test row) p

pub shape_grouped : (u : Listing) (grouping : Grouping) (row : Sets) → map length (grouped_row u grouping row) ≡ map length row
shape_grouped u grouping row = shape_replaced (λ label. not (is_group_label u grouping label)) (λ label class. eqb class 0) row
