-- A rule has one list of open constructs.
use Rattle.std.proofs.Common.{◌≡◌, ℕ, List, [], ◌∷◌, ◌++◌, Some, sym, ap, ap₂, ◌∙◌, subst, Option, None}
use Rattle.std.specs.Cmp.{on_total}
use Rattle.std.specs.Cmp.Lexicographic.{nat_list_cmp_total}
use Rattle.lf_laws.proofs.Ascending.{same_lists}
use Rattle.lf_ast.specs.Rules.{RuleTree}
use Rattle.lf_deps.specs.Ordering.{without}
use Rattle.lf_trials.specs.Reached.{IsReach}
use Rattle.lf_trials.proofs.OneVerdict.{one_reach}
use Rattle.lf_open.specs.OpenList.{AreOpen, AreOpenOf, AreOpenOfEach, key_of}
use Rattle.lf_open.specs.declared.open_at.OpenAt.{OpenAt}

module _ (rules : List RuleTree) where
  -- two lists of what stands open in one rule are one
  pub one_own : (k : ℕ) (found other : List OpenAt) → AreOpenOf rules k found → AreOpenOf rules k other → found ≡ other
  one_own k found other one another = same_lists (on_total key_of nat_list_cmp_total) found other one.ascending another.ascending (λ o c. another.all o (one.each o c)) (λ o c. one.all o (another.each o c))

  -- and so are two of what stands open in some rules
  pub one_of_each : (numbers : List ℕ) (found other : List OpenAt) → AreOpenOfEach rules numbers found → AreOpenOfEach rules numbers other → found ≡ other
  one_of_each [] found other one another = one ∙ sym another
  one_of_each (k ∷ numbers) found other (own, later, is, are, rest) (own', later', is', are', rest') =
      is ∙ ap₂ (λ (x y : List OpenAt). x ++ y) (one_own k own own' are are') (one_of_each numbers later later' rest rest') ∙ sym is'

  -- of a rule
  pub one_list : (i : ℕ) (found other : List OpenAt) → AreOpen rules i found → AreOpen rules i other → found ≡ other
  one_list i found other (r, at, reach, is, each) (s, too, reach', is', each') =
      let same : r ≡ s = ap (λ (o : Option RuleTree). elim o [ None ↦ r | Some z ↦ z ]) (sym at ∙ too) in
      let e : reach ≡ reach' = one_reach rules s.expr reach reach' (subst (λ (z : RuleTree). IsReach rules z.expr reach) same is) is' in
      one_of_each (i ∷ without i reach') found other (subst (λ (ks : List ℕ). AreOpenOfEach rules (i ∷ without i ks) found) e each) each'
