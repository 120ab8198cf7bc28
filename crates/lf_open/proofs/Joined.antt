-- What stands open in a rule and in those that it reads, from what stands open in each.
use Rattle.std.proofs.Common.{◌≡◌, ◌+◌, ◌<◌, ◌↔◌, ℕ, Bool, true, false, not, cond, eqb, List, [], ◌∷◌, ◌++◌, Some, length, take, get_or, refl, sym, ap, ◌∙◌, subst, slice_get}
use Rattle.std.proofs.lemmas.List.{append-nil, append_assoc, take_more}
use Rattle.std.proofs.lemmas.Option.{slice_get_within}
use Rattle.std.specs.List.{Contains}
use Rattle.std.proofs.lemmas.List.Elements.{filter-append}
use Rattle.lf_laws.specs.Ascending.{AreAscending}
use Rattle.lf_laws.proofs.Slices.{some_at}
use Rattle.lf_ast.specs.Rules.{RuleTree}
use Rattle.lf_deps.specs.Ordering.{without}
use Rattle.lf_deps.specs.Reading.{Reaches}
use Rattle.lf_open.specs.OpenList.{AreOpen, AreOpenOf, AreOpenOfEach}
use Rattle.lf_open.specs.declared.open_at.OpenAt.{OpenAt}
use Rattle.lf_open.specs.views.Opens.{IsListOf}

module _ (rules : List RuleTree) where
  each_append : (xs ys : List ℕ) (a b : List OpenAt) → AreOpenOfEach rules xs a → AreOpenOfEach rules ys b → AreOpenOfEach rules (xs ++ ys) (a ++ b)
  each_append [] ys a b is each = subst (λ (l : List OpenAt). AreOpenOfEach rules ys (l ++ b)) (sym is) each
  each_append (x ∷ xs) ys a b (own, later, is, are, rest) each =
      (own, later ++ b, ap (λ (l : List OpenAt). l ++ b) is ∙ append_assoc own later b, are, each_append xs ys later b rest each)

  -- that of one rule, and of none where it is the one that is left out
  pub of_one : (i x : ℕ) (own : List OpenAt) → AreOpenOf rules x own → eqb x i ≡ false → IsListOf rules (without i (x ∷ [])) [] own
  of_one i x own are e = (own, subst (λ (c : Bool). AreOpenOfEach rules (cond (not c) (x ∷ []) []) own) (sym e) (own, [], sym (append-nil own), are, refl), refl)

  pub of_none : (i x : ℕ) (own : List OpenAt) → own ≡ [] → eqb x i ≡ true → IsListOf rules (without i (x ∷ [])) [] own
  of_none i x own none e = (own, subst (λ (c : Bool). AreOpenOfEach rules (cond (not c) (x ∷ []) []) own) (sym e) none, refl)

  pub no_more : (i : ℕ) (old : List OpenAt) → IsListOf rules (without i []) old old
  no_more i old = ([], refl, sym (append-nil old))

  pub one_more : (i k d n : ℕ) (numbers : List ℕ) (old found own new : List OpenAt) → k < length numbers → n ≡ get_or numbers k d → IsListOf rules (without i (take k numbers)) old found → IsListOf rules (without i (n ∷ [])) [] own
      → new ≡ found ++ own → IsListOf rules (without i (take (k + 1) numbers)) old new
  one_more i k d n numbers old found own new lt at (more, each, is) (one, of_n, own_is) new_is = (
    more ++ one,
    subst (λ (l : List ℕ). AreOpenOfEach rules l (more ++ one)) (sym step) (each_append (without i (take k numbers)) (without i (n ∷ [])) more one each of_n),
    new_is ∙ ap (λ (l : List OpenAt). found ++ l) own_is ∙ ap (λ (l : List OpenAt). l ++ one) is ∙ append_assoc old more one,
  )
    where
      step : without i (take (k + 1) numbers) ≡ without i (take k numbers) ++ without i (n ∷ [])
      step = ap (without i) (take_more numbers k d lt) ∙ ap (λ (z : ℕ). without i (take k numbers ++ z ∷ [])) (sym at) ∙ filter-append (λ x. not (eqb x i)) (take k numbers) (n ∷ [])

  abbrev Members : ℕ → List ℕ → Type 0
  Members i reach = (of : RuleTree) → slice_get rules i ≡ Some of → (k : ℕ) → Contains reach k ↔ ((r : RuleTree) × (slice_get rules k ≡ Some r) × Reaches rules of.expr r)

  -- what stands open in rule i, and then what does in the others of its reach
  pub whole : (i : ℕ) (reach : List ℕ) (own found : List OpenAt) → i < length rules → Members i reach → AreAscending reach → AreOpenOf rules i own → IsListOf rules (without i reach) own found → AreOpen rules i found
  whole i reach own found lt members ascends are (more, each, is) =
      let r = some_at rules i lt in
      (r.0, r.1, reach, record { ascending = ascends; members = members r.0 r.1 }, (own, more, is, are, each))

  -- the rules of a reach are rules
  pub are_rules : (i : ℕ) (reach : List ℕ) → i < length rules → Members i reach → (k : ℕ) → Contains reach k → k < length rules
  are_rules i reach lt members k c =
      let r = some_at rules i lt in
      let m = (members r.0 r.1 k).0 c in
      slice_get_within rules k m.0 m.1
