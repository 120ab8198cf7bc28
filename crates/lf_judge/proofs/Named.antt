-- What stands open first is named for one rule after another.
use Rattle.std.proofs.Common.{◌≡◌, ◌⊎◌, inl, inr, ℕ, ◌+◌, ◌<◌, ◌≤◌, zero, suc, Bool, true, false, List, ◌++◌, [], ◌∷◌, length, Option, Some, refl, sym, ap, ◌∙◌, subst, arith}
use Rattle.std.specs.List.{list_any}
use Rattle.std.specs.Prelude.{◌||◌, option_and_then, slice_get}
use Rattle.std.proofs.lemmas.List.{length-append}
use Rattle.std.proofs.lemmas.Option.{slice_get_within, same_Some}
use Rattle.lf_laws.proofs.Slices.{at_end}
use Rattle.lf_ast.specs.Rules.{RuleTree}
use Rattle.lf_open.specs.declared.open_at.OpenAt.{OpenAt}
use Rattle.lf_worlds.specs.views.Told.{rule_verdict}
use Rattle.lf_open.specs.OpenList.{IsFirstOpen}
use Rattle.lf_judge.specs.Judged.{has_unresolved}
use Rattle.lf_judge.specs.declared.rule_found.RuleFound.{RuleFound}
use Rattle.lf_judge.specs.views.RulesFound.{NameFirsts, first_at}

-- what stands at a place, and what is put behind
before_end : {A : Type 0} (xs : List A) (y : A) (i : ℕ) → i < length xs → slice_get (xs ++ y ∷ []) i ≡ slice_get xs i
before_end [] y i lt = absurd (omega (arith, lt))
before_end (x ∷ xs) y zero lt = refl
before_end (x ∷ xs) y (suc i) lt = before_end xs y i (omega (arith, lt))

below_or_last : (i k : ℕ) → i < k + 1 → (i < k) ⊎ (i ≡ k)
below_or_last zero zero lt = inr refl
below_or_last zero (suc k) lt = inl (omega arith)
below_or_last (suc i) zero lt = absurd (omega (arith, lt))
below_or_last (suc i) (suc k) lt = elim (below_or_last i k (omega (arith, lt))) [
  | inl less ↦ inl (omega (arith, less))
  | inr same ↦ inr (ap suc same)
]

-- none passes a test that no element passes
pub none_of : {A : Type 0} (p : A → Bool) (xs : List A) (i : ℕ) (x : A) → list_any p xs ≡ false → slice_get xs i ≡ Some x → p x ≡ true → ⊥
none_of p [] i x none at is = cc
none_of p (y ∷ ys) zero x none at is =
    let here : p y ≡ true = ap p (same_Some y x at) ∙ is in
    let any : list_any p (y ∷ ys) ≡ true = ap (λ b. b || list_any p ys) here in
    let clash : true ≡ false = sym any ∙ none in cc
none_of p (y ∷ ys) (suc i) x none at is = none_of p ys i x (later (p y) (list_any p ys) none) at is
  where
    later : (b c : Bool) → b || c ≡ false → c ≡ false
    later true c e = cc
    later false c e = e

module _ (rules : List RuleTree) (found : List RuleFound) where
  -- it is named for the rule, if a label of it stays unresolved
  abbrev pub IsNamed : ℕ → RuleFound → Option OpenAt → Type 0
  IsNamed i x first = has_unresolved (rule_verdict x.known) ≡ true → IsFirstOpen rules i first

  -- it is named at each of the first rules that need it
  pub record NameUpTo (k : ℕ) (firsts : List (Option OpenAt)) : Type 0 where
    pub count : length firsts ≡ k
    pub each : (i : ℕ) (x : RuleFound) → i < k → slice_get found i ≡ Some x → IsNamed i x (first_at firsts i)

  pub names_none : (firsts : List (Option OpenAt)) → firsts ≡ [] → NameUpTo 0 firsts
  names_none firsts none = record { count = ap length none; each = λ i x lt at. absurd (omega (arith, lt)) }

  pub names_more : (k : ℕ) (firsts pushed : List (Option OpenAt)) (first : Option OpenAt) (x : RuleFound) → slice_get found k ≡ Some x → NameUpTo k firsts → pushed ≡ firsts ++ first ∷ [] → IsNamed k x first
      → NameUpTo (k + 1) pushed
  names_more k firsts pushed first x at named pushes is = record {
    count = ap length pushes ∙ length-append firsts (first ∷ []) ∙ ap (λ n. n + 1) named.count;
    each = λ i y lt there. by i y there (below_or_last i k lt);
  }
    where
      joined : Option (Option OpenAt) → Option OpenAt
      joined o = option_and_then (λ z. z) o

      by : (i : ℕ) (y : RuleFound) → slice_get found i ≡ Some y → (i < k) ⊎ (i ≡ k) → IsNamed i y (first_at pushed i)
      by i y there (inl less) =
          let e : first_at pushed i ≡ first_at firsts i = ap (λ l. first_at l i) pushes ∙ ap joined (before_end firsts first i (omega (arith, less, named.count))) in
          subst (IsNamed i y) (sym e) (named.each i y less there)
      by i y there (inr same) =
          let here : slice_get pushed i ≡ Some first = ap (λ l. slice_get l i) pushes ∙ ap (λ n. slice_get (firsts ++ first ∷ []) n) (same ∙ sym named.count) ∙ at_end firsts first in
          let e : first_at pushed i ≡ first = ap joined here in
          let y_is : x ≡ y = same_Some x y (sym at ∙ ap (slice_get found) (sym same) ∙ there) in
          subst (IsNamed i y) (sym e) (subst (λ z. IsNamed i z first) y_is (subst (λ n. IsNamed n x first) (sym same) is))

  pub all_named : (k : ℕ) (firsts : List (Option OpenAt)) → length found ≤ k → NameUpTo k firsts → NameFirsts rules found firsts
  all_named k firsts all named i x at = named.each i x (omega (arith, all, slice_get_within found i x at)) at
