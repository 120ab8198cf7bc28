-- The numbers of the rules that pass a test.
use Rattle.std.proofs.Common.{◌≡◌, ℕ, zero, suc, ◌+◌, Bool, true, false, cond, List, [], ◌∷◌, get_or, map, Some, inl, inr, refl, sym, ◌∙◌, ap, subst, arith}
use Rattle.std.specs.Prelude.{slice_get}
use Rattle.std.specs.List.{Contains}
use Rattle.lf_ast.specs.Rules.{RuleTree}
use Rattle.lf_laws.proofs.Members.{behind, first_or_behind, here, none_in}
use Rattle.lf_deps.specs.views.Search.{numbers_of}

module _ (test : RuleTree → Bool) where
  pub in_numbers : (rules : List RuleTree) (j i k : ℕ) (r : RuleTree) → k ≡ j + i → slice_get rules i ≡ Some r → test r ≡ true → Contains (numbers_of test j rules) k
  in_numbers [] j i k r e is t = absurd (cc)
  in_numbers (x ∷ rules) j zero k r e is t =
      let f : x ≡ r = cc in
      let g : test x ≡ true = ap test f ∙ t in
      let h : j ≡ k = omega (arith, e) in
      let P : Bool → Type 0 = λ b. Contains (cond b (j ∷ numbers_of test (j + 1) rules) (numbers_of test (j + 1) rules)) k in
      let Q : ℕ → Type 0 = λ z. Contains (j ∷ numbers_of test (j + 1) rules) z in
      subst P (sym g) (subst Q h (here j (numbers_of test (j + 1) rules)))
  in_numbers (x ∷ rules) j (suc i) k r e is t = by (test x) (in_numbers rules (j + 1) i k r (omega (arith, e)) is t)
    where
      by : (b : Bool) → Contains (numbers_of test (j + 1) rules) k → Contains (cond b (j ∷ numbers_of test (j + 1) rules) (numbers_of test (j + 1) rules)) k
      by true c = behind j (numbers_of test (j + 1) rules) k c
      by false c = c

  pub of_numbers : (rules : List RuleTree) (j k : ℕ) → Contains (numbers_of test j rules) k → (i : ℕ) × (k ≡ j + i) × (r : RuleTree) × (slice_get rules i ≡ Some r) × (test r ≡ true)
  of_numbers [] j k c = absurd (none_in k c)
  of_numbers (x ∷ rules) j k c = by (test x) refl c (of_numbers rules (j + 1) k)
    where
      later : (i : ℕ) × (k ≡ (j + 1) + i) × (r : RuleTree) × (slice_get rules i ≡ Some r) × (test r ≡ true) → (i : ℕ) × (k ≡ j + i) × (r : RuleTree) × (slice_get (x ∷ rules) i ≡ Some r) × (test r ≡ true)
      later f = (suc f.0, omega (arith, f.1), f.2, f.3, f.4)

      by : (b : Bool) → test x ≡ b → Contains (cond b (j ∷ numbers_of test (j + 1) rules) (numbers_of test (j + 1) rules)) k
          → (Contains (numbers_of test (j + 1) rules) k → (i : ℕ) × (k ≡ (j + 1) + i) × (r : RuleTree) × (slice_get rules i ≡ Some r) × (test r ≡ true))
          → (i : ℕ) × (k ≡ j + i) × (r : RuleTree) × (slice_get (x ∷ rules) i ≡ Some r) × (test r ≡ true)
      by true t d rest = elim (first_or_behind j (numbers_of test (j + 1) rules) k d) [ inl e ↦ (0, omega (arith, e), x, refl, t) | inr g ↦ later (rest g) ]
      by false t d rest = later (rest d)

-- lists that are made from rules, at the number of a rule

pub made_at : {X : Type 0} (f : RuleTree → List X) (rules : List RuleTree) (k : ℕ) (x : X) → Contains (get_or (map f rules) k []) x → (r : RuleTree) × (slice_get rules k ≡ Some r) × Contains (f r) x
made_at f [] k x c = absurd (none_in x c)
made_at f (r ∷ rules) zero x c = (r, refl, c)
made_at f (r ∷ rules) (suc k) x c = made_at f rules k x c

pub at_made : {X : Type 0} (f : RuleTree → List X) (rules : List RuleTree) (k : ℕ) (r : RuleTree) → slice_get rules k ≡ Some r → get_or (map f rules) k [] ≡ f r
at_made f [] k r e = absurd (cc)
at_made f (x ∷ rules) zero r e = let g : x ≡ r = cc in ap f g
at_made f (x ∷ rules) (suc k) r e = at_made f rules k r e
