-- Where the list of a rule is empty, nothing stands open in its expression or in a rule that it reads.
use Rattle.std.proofs.Common.{◌≡◌, inl, inr, ℕ, Bool, true, false, not, eqb, List, [], ◌∷◌, ◌++◌, Option, Some, None, refl, sym, ap, ◌∙◌, subst, slice_get, true≢false}
use Rattle.std.proofs.lemmas.Bool.{eqb-true}
use Rattle.std.proofs.lemmas.Option.{slice_get-get_or}
use Rattle.std.specs.List.{Contains}
use Rattle.lf_laws.proofs.Members.{behind, first_or_behind, here, none_in}
use Rattle.lf_ast.specs.Rules.{RuleTree}
use Rattle.lf_deps.specs.Ordering.{without}
use Rattle.lf_deps.specs.Reading.{Reaches}
use Rattle.lf_semantics.proofs.Members.{in_filter}
use Rattle.lf_open.specs.OpenList.{AreOpen, AreOpenOfEach, IsOpenOf, IsSettled}
use Rattle.lf_open.specs.declared.open_at.OpenAt.{OpenAt}

nil_left : (xs ys : List OpenAt) → [] ≡ xs ++ ys → xs ≡ []
nil_left [] ys e = refl
nil_left (x ∷ xs) ys e = absurd (true≢false (ap (λ (l : List OpenAt). elim l [ [] ↦ true | ◌∷◌ z zs ↦ false ]) e))

nil_right : (xs ys : List OpenAt) → [] ≡ xs ++ ys → ys ≡ []
nil_right [] ys e = sym e
nil_right (x ∷ xs) ys e = absurd (true≢false (ap (λ (l : List OpenAt). elim l [ [] ↦ true | ◌∷◌ z zs ↦ false ]) e))

module _ (rules : List RuleTree) where
  none_each : (numbers : List ℕ) → AreOpenOfEach rules numbers [] → (k : ℕ) → Contains numbers k → (o : OpenAt) → IsOpenOf rules k o → ⊥
  none_each [] each k c o open_of = none_in k c
  none_each (j ∷ numbers) (own, later, is, are, rest) k c o open_of = elim (first_or_behind j numbers k c) [
    | inl e ↦ none_in o (subst (λ (l : List OpenAt). Contains l o) (nil_left own later is) (are.all o (subst (λ (n : ℕ). IsOpenOf rules n o) (sym e) open_of)))
    | inr d ↦ none_each numbers (subst (AreOpenOfEach rules numbers) (nil_right own later is) rest) k d o open_of
  ]

  in_numbers : (i k : ℕ) (reach : List ℕ) → Contains reach k → Contains (i ∷ without i reach) k
  in_numbers i k reach c = by (eqb k i) refl
    where
      by : (b : Bool) → eqb k i ≡ b → Contains (i ∷ without i reach) k
      by true e = subst (Contains (i ∷ without i reach)) (sym (eqb-true k i e)) (here i (without i reach))
      by false e = behind i (without i reach) k (in_filter (λ j. not (eqb j i)) reach k c (ap not e))

  pub settled : (i : ℕ) (r : RuleTree) → slice_get rules i ≡ Some r → AreOpen rules i [] → IsSettled rules r.expr
  settled i r at (s, too, reach, is, each) = record {
    own = λ construct span h. none_each (i ∷ without i reach) each i (here i (without i reach)) (record { construct = construct; rule = i; span = span }) (refl, (r, at, h));
    read = λ q there reaches construct span h.
        let at_q : slice_get rules there.0 ≡ Some q = slice_get-get_or rules there.0 q there.1 ∙ ap Some there.2 in
        let same : r ≡ s = ap (λ (o : Option RuleTree). elim o [ None ↦ r | Some z ↦ z ]) (sym at ∙ too) in
        let c : Contains reach there.0 = (is.members there.0).1 (q, at_q, subst (λ (z : RuleTree). Reaches rules z.expr q) same reaches) in
        none_each (i ∷ without i reach) each there.0 (in_numbers i there.0 reach c) (record { construct = construct; rule = there.0; span = span }) (refl, (q, at_q, h));
  }
