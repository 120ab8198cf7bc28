-- Labels and classes by their numbers.
use Rattle.std.proofs.Common.{◌≡◌, ◌≢◌, ℕ, zero, suc, ◌+◌, ◌<◌, ◌≤◌, Bool, true, false, not, cond, eqb, List, [], ◌∷◌, ◌++◌, length, get_or, refl, sym, ◌∙◌, ap, subst, arith, length-append, inl, inr}
use Rattle.std.specs.List.{Contains}
use Rattle.std.specs.Str.{bytes_eq}
use Rattle.std.proofs.lemmas.Slice.Eq.{bytes_eq-Decides}
use Rattle.std.proofs.lemmas.List.{get_or-map}
use Rattle.std.proofs.lemmas.List.Elements.{Contains-get_or}
use Rattle.std.proofs.lemmas.List.Sums.{position_or_len_is, passes_at_first}
use Rattle.std.proofs.lemmas.Bool.{cases_lt}
use Rattle.std.proofs.lemmas.Bool.Decides.{same_from_decides, Decides-eqb}
use Rattle.std.proofs.lemmas.Bool.{false_from_ne_true}
use Rattle.lf_ast.specs.Labels.{Bytes}
use Rattle.lf_ast.specs.Selectors.{metric}
use Rattle.lf_semantics.specs.Listing.{IsListing, Listing, class_counts, class_of, class_texts, label_of, named_at, other_class, place}
use Rattle.lf_semantics.proofs.Members.{other_false, same_true, true_same}

pub place_le : (xs : List Bytes) (t : Bytes) → place xs t ≤ length xs
place_le [] t = omega arith
place_le (x ∷ xs) t = elim (bytes_eq x t) as (λ b. cond (not b) (1 + place xs t) 0 ≤ suc (length xs)) [ true ↦ omega arith | false ↦ omega (arith, place_le xs t) ]

pub place_at : (xs : List Bytes) (l : ℕ) → l < length xs → ((k : ℕ) → k < l → get_or xs k [] ≢ get_or xs l []) → place xs (get_or xs l []) ≡ l
place_at xs l h d =
    position_or_len_is (λ x. bytes_eq x (get_or xs l [])) xs l [] (omega arith) (λ k b. other_false _ _ (d k b)) (λ b. same_true (get_or xs l []) _ refl)

-- the text at its place
pub at_place : (xs : List Bytes) (t : Bytes) → place xs t < length xs → get_or xs (place xs t) [] ≡ t
at_place xs t h = true_same _ _ (passes_at_first (λ x. bytes_eq x t) xs [] h)

-- a text that has a place is there
pub placed_there : (xs : List Bytes) (t : Bytes) → place xs t < length xs → Contains xs t
placed_there xs t h = subst (Contains xs) (at_place xs t h) (Contains-get_or xs (place xs t) [] h)

-- a text whose place is the first one is the first text, and any other text stands behind it

pub first_is : (b : Bool) (p : ℕ) → 0 ≡ cond (not b) (1 + p) 0 → b ≡ true
first_is true p e = refl
first_is false p e = absurd (omega (arith, e))

pub later_is : (b : Bool) (p k : ℕ) → suc k ≡ cond (not b) (1 + p) 0 → (b ≡ false) × (k ≡ p)
later_is true p k e = absurd (omega (arith, e))
later_is false p k e = (refl, omega (arith, e))

-- a text that isn't there has its place behind the others
pub place_last : (xs : List Bytes) (n : Bytes) → length xs ≤ place xs n → place (xs ++ n ∷ []) n ≡ length xs
place_last [] n h = rw (same_true n n refl) refl
place_last (x ∷ xs) n h = by (bytes_eq x n) h (place_last xs n)
  where
    by : (b : Bool) → suc (length xs) ≤ cond (not b) (1 + place xs n) 0 → (length xs ≤ place xs n → place (xs ++ n ∷ []) n ≡ length xs) → cond (not b) (1 + place (xs ++ n ∷ []) n) 0 ≡ suc (length xs)
    by true h rest = absurd (omega (arith, h))
    by false h rest = let e = rest (omega (arith, h)) in omega (arith, e)

-- two texts at one place are the same
pub same_text : (xs : List Bytes) (a b : Bytes) → place xs a < length xs → place xs a ≡ place xs b → a ≡ b
same_text xs a b h e =
    sym (at_place xs a h) ∙ ap (λ k. get_or xs k []) e ∙ at_place xs b (let P : ℕ → Type 0 = λ k. k < length xs in subst P e h)

pub place_test : (xs : List Bytes) (a b : Bytes) → place xs a < length xs → eqb (place xs a) (place xs b) ≡ bytes_eq a b
place_test xs a b h =
    same_from_decides {P = a ≡ b} (eqb (place xs a) (place xs b)) (bytes_eq a b)
    ((λ e. same_text xs a b h ((Decides-eqb _ _).0 e)), (λ e. (Decides-eqb _ _).1 (ap (place xs) e)))
    (bytes_eq-Decides a b)

-- whether a listed label has the number of a name says whether it is that name
pub label_test : (u : Listing) (a b : Bytes) → label_of u a < length u.names → eqb (label_of u a) (label_of u b) ≡ bytes_eq a b
label_test u a b h = place_test u.names a b h

-- and so for texts that are classes of their own
pub class_test : (u : Listing) (l : ℕ) (a b : Bytes) → class_of u l a < other_class u l → eqb (class_of u l a) (class_of u l b) ≡ bytes_eq a b
class_test u l a b h = place_test (class_texts u l) a b (omega (arith, h))

pub text_at_class : (u : Listing) (l : ℕ) (t : Bytes) → class_of u l t < other_class u l → get_or (class_texts u l) (class_of u l t) [] ≡ t
text_at_class u l t h = at_place (class_texts u l) t (omega (arith, h))

pub eqb-other : (m n : ℕ) → m ≢ n → eqb m n ≡ false
eqb-other m n h = false_from_ne_true (eqb m n) (λ e. h ((Decides-eqb m n).0 e))

-- class 0 is that of the empty text alone
pub class_of_some : (u : Listing) (l : ℕ) (t : Bytes) → t ≢ [] → eqb (class_of u l t) 0 ≡ false
class_of_some u l t h = eqb-other (class_of u l t) 0 (λ e. h (sym (same_text (class_texts u l) [] t (omega arith) (sym e))))

-- the bytes of all texts together are more than those of each
all_bytes : List Bytes → Bytes
all_bytes [] = 0 ∷ []
all_bytes (x ∷ xs) = x ++ all_bytes xs

length_all : (xs : List Bytes) → 0 < length (all_bytes xs)
unfolding all_bytes
length_all [] = omega arith
length_all (x ∷ xs) = omega (arith, length_all xs, length-append x (all_bytes xs))

longer : (xs : List Bytes) (k : ℕ) → k < length xs → length (get_or xs k []) < length (all_bytes xs)
unfolding all_bytes
longer [] k h = absurd (omega arith)
longer (x ∷ xs) zero h = omega (arith, length_all xs, length-append x (all_bytes xs))
longer (x ∷ xs) (suc k) h = omega (arith, longer xs k (omega arith), length-append x (all_bytes xs))

place_of_other : (xs : List Bytes) → place xs (all_bytes xs) ≡ length xs
place_of_other xs =
    position_or_len_is (λ x. bytes_eq x (all_bytes xs)) xs (length xs) [] (omega arith)
    (λ k b. other_false (get_or xs k []) (all_bytes xs) (λ e. absurd (omega (arith, longer xs k b, ap length e)))) (λ b. absurd (omega arith))

-- each label has a name: `*` has any that isn't listed, as one that is longer than all
pub name_of : (u : Listing) → IsListing u → (label : ℕ) → label ≤ length u.names → (name : Bytes) × (label_of u name ≡ label)
name_of u p label h =
    elim (cases_lt label (length u.names)) [
      | inl b ↦ (get_or u.names label [], place_at u.names label b (λ k c. p.distinct k label c b))
      | inr b ↦ (all_bytes u.names, place_of_other u.names ∙ (omega arith))
    ]

pub metric_listed : (u : Listing) → IsListing u → label_of u metric < length u.names
metric_listed u p =
    let e : label_of u metric ≡ 0 = ap (label_of u) (sym p.first) ∙ place_at u.names 0 p.some (λ k h. absurd (omega arith)) in
    omega (arith, e, p.some)

-- the number of classes of a label
pub count_at : (u : Listing) → IsListing u → (name : Bytes) → get_or (class_counts u) (label_of u name) 0 ≡ length (named_at u (label_of u name)) + 2
count_at u p name = get_or-map (λ named. length named + 2) u.named (label_of u name) [] 0 (omega (arith, place_le u.names name, p.count))
