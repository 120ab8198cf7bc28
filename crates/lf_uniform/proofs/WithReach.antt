-- A rule and its reach.
use Rattle.std.proofs.Common.{◌≡◌, ◌⊎◌, inl, inr, ℕ, nat_lt, List, ◌∷◌, subst, arith}
use Rattle.std.specs.List.{Contains, filter}
use Rattle.std.proofs.lemmas.Bool.{cases_lt}
use Rattle.std.proofs.lemmas.Bool.Decides.{nat_tests}
use Rattle.std.proofs.lemmas.List.Elements.{Contains-append_cases, Contains-append_left, Contains-append_right}
use Rattle.lf_laws.proofs.Members.{behind, first_or_behind, here}
use Rattle.lf_semantics.proofs.Members.{in_filter, of_filter}
use Rattle.lf_trials.specs.Reached.{with_reach}

module _ (i : ℕ) (reach : List ℕ) where
  abbrev below : List ℕ
  below = filter (λ k. nat_lt k i) reach

  abbrev above : List ℕ
  above = filter (λ k. nat_lt i k) reach

  pub own_with_reach : Contains (with_reach i reach) i
  own_with_reach = Contains-append_right below (i ∷ above) i (here i above)

  pub in_with_reach : (k : ℕ) → Contains reach k → Contains (with_reach i reach) k
  in_with_reach k c = elim (cases_lt k i) [
    | inl less ↦ Contains-append_left below (i ∷ above) k (in_filter (λ j. nat_lt j i) reach k c (grind (arith, nat_tests)))
    | inr least ↦ elim (cases_lt i k) [
      | inl more ↦ Contains-append_right below (i ∷ above) k (behind i above k (in_filter (λ j. nat_lt i j) reach k c (grind (arith, nat_tests))))
      | inr most ↦ let same : i ≡ k = omega (arith, least, most) in subst (Contains (with_reach i reach)) same own_with_reach
    ]
  ]

  pub of_with_reach : (k : ℕ) → Contains (with_reach i reach) k → (k ≡ i) ⊎ Contains reach k
  of_with_reach k c = elim (Contains-append_cases below (i ∷ above) k c) [
    | inl front ↦ inr (of_filter (λ j. nat_lt j i) reach k front).0
    | inr back ↦ elim (first_or_behind i above k back) [
      | inl e ↦ inl (let same : k ≡ i = omega (arith, e) in same)
      | inr last ↦ inr (of_filter (λ j. nat_lt i j) reach k last).0
    ]
  ]
