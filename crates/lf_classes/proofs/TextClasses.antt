-- Whether a label has a class other than that of the empty text.
use Rattle.std.proofs.Common.{◌≡◌, ℕ, suc, ◌+◌, ◌-◌, ◌<◌, ◌≤◌, Bool, true, false, not, ◌&&◌, ◌||◌, eqb, List, [], ◌∷◌, length, get_or, inl, inr, refl, sym, ◌∙◌, ap, arith}
use Rattle.std.specs.List.{list_any, sum}
use Rattle.std.proofs.lemmas.Bool.{cases_eq, false_from_ne_true}
use Rattle.std.proofs.lemmas.Bool.Decides.{Decides-eqb}
use Rattle.lf_semantics.specs.ClassRows.{Sets, indexed_from}
use Rattle.lf_semantics.specs.Listing.{Listing}
use Rattle.lf_semantics.specs.RowTable.{has_class}
use Rattle.lf_semantics.proofs.EffectsRepresent.{has_class_at}
use Rattle.lf_semantics.proofs.Places.{eqb-other}
use Rattle.lf_classes.specs.views.Cut.{cut, shown, start}
use Rattle.lf_classes.proofs.Changes.{class_within, label_within}
use Rattle.lf_classes.proofs.LabelChanges.{class_bit, empty_holds}

abbrev pub is_text : ℕ → Bool
is_text class = not (eqb class 0)

pub none_set : (test : ℕ → Bool) (set : List Bool) (k : ℕ) → ((c : ℕ) → c < length set → test (k + c) ≡ true → get_or set c false ≡ false)
    → list_any (λ on. on) (indexed_from (λ class on. on && test class) k set) ≡ false
none_set test [] k none = refl
none_set test (on ∷ set) k none =
    by on refl (none_set test set (suc k) (λ c h t. none (suc c) (omega arith) (ap test (let e : k + suc c ≡ suc k + c = omega arith in e) ∙ t)))
  where
    first : on ≡ true → test k ≡ true → ⊥
    first e t = let clash : true ≡ false = sym e ∙ none 0 (omega arith) (ap test (let q : k + 0 ≡ k = omega arith in q) ∙ t) in cc

    by : (b : Bool) → on ≡ b → list_any (λ on. on) (indexed_from (λ class on. on && test class) (suc k) set) ≡ false
        → ((b && test k) || list_any (λ on. on) (indexed_from (λ class on. on && test class) (suc k) set)) ≡ false
    by true e rest = rw (false_from_ne_true (test k) (first e)) rest
    by false e rest = rest

some_text : (c : ℕ) → 0 < c → is_text c ≡ true
some_text c h = ap not (eqb-other c 0 (λ e. absurd (omega (arith, h, e))))

text_some : (c : ℕ) → is_text c ≡ true → 0 < c
text_some c t = elim (cases_eq c 0) [
  | inl e ↦ absurd (let q : false ≡ true = sym (ap not ((Decides-eqb c 0).1 e)) ∙ t in cc)
  | inr n ↦ omega (arith, n)
]

module _ (u : Listing) (live : Bool) (counts : List ℕ) (bits : List Bool) (view : Sets) (is : shown live (cut counts bits) ≡ view) (total : length bits ≡ sum counts) (label from to : ℕ)
    (h : label < length view) (p : from ≡ start counts label) (q : to ≡ start counts label + get_or counts label 0) where
  text_found : live ≡ true → (k : ℕ) × (from + 1 ≤ k) × (k < to) × (get_or bits k false ≡ true) → has_class u is_text (get_or view label []) ≡ true
  text_found e r =
      let c = r.0 - start counts label in
      let b : c < get_or counts label 0 = omega (arith, r.1, r.2, p, q) in
      let at : start counts label + c ≡ r.0 = omega (arith, r.1, p) in
      let some : 0 < c = omega (arith, r.1, p) in
      has_class_at u is_text view label c
      (sym (class_bit live counts bits view is total label c e (label_within live counts bits view is total label h) b) ∙ ap (λ k. get_or bits k false) at ∙ r.3) (some_text c some)

  text_none : live ≡ true → ((k : ℕ) → from + 1 ≤ k → k < to → get_or bits k false ≡ false) → has_class u is_text (get_or view label []) ≡ false
  text_none e none =
      none_set is_text (get_or view label []) 0 (λ c i t.
      let b : c < get_or counts label 0 = class_within live counts bits view is total label c h i in
      let some : 0 < c = text_some c (ap is_text (let z : c ≡ 0 + c = omega arith in z) ∙ t) in
      sym (class_bit live counts bits view is total label c e (label_within live counts bits view is total label h) b) ∙ none (start counts label + c) (omega (arith, p, some)) (omega (arith, q, b)))

  -- what was found of the label's bits
  pub text_looked : live ≡ true → (found : Bool) → (found ≡ true → (k : ℕ) × (from + 1 ≤ k) × (k < to) × (get_or bits k false ≡ true))
      → (found ≡ false → (k : ℕ) → from + 1 ≤ k → k < to → get_or bits k false ≡ false) → found ≡ has_class u is_text (get_or view label [])
  text_looked e true some none = sym (text_found e (some refl))
  text_looked e false some none = sym (text_none e (none refl))

-- the empty row has none
pub text_empty : (u : Listing) (counts : List ℕ) (bits : List Bool) (view : Sets) (label : ℕ) → shown false (cut counts bits) ≡ view → has_class u is_text (get_or view label []) ≡ false
text_empty u counts bits view label is = none_set is_text (get_or view label []) 0 (λ c i t. empty_holds counts bits view is label c)
