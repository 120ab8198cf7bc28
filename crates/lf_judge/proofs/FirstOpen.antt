-- What stands open first: it is one, and where no label stays unresolved the same is told of the verdicts whatever it is.
use Rattle.std.proofs.Common.{◌≡◌, ℕ, Bool, true, List, [], ◌∷◌, map, Option, Some, None, refl, ap}
use Rattle.std.specs.Prelude.{◌||◌}
use Rattle.std.specs.List.{list_any}
use Rattle.lf_ast.specs.Rules.{RuleTree}
use Rattle.lf_ast.specs.declared.verdict.RuleVerdicts.TheVariants as told_rule
use Rattle.lf_ast.specs.declared.verdict.Verdict.TheVariants as told
use Rattle.lf_open.specs.declared.open_at.OpenAt.{OpenAt}
use Rattle.lf_open.specs.OpenList.{IsFirstOpen}
use Rattle.lf_open.proofs.OneList.{one_list}
use Rattle.lf_trials.specs.Verdicts.{Empty, Labels, LabelVerdict, RuleVerdict}
use Rattle.lf_trials.specs.Verdicts as verdict
use Rattle.lf_judge.specs.Judged.{has_unresolved, is_unresolved, verdict_told, verdicts_told, world_told}

-- what stands open first is one
pub one_first : (rules : List RuleTree) (i : ℕ) (o p : Option OpenAt) → IsFirstOpen rules i o → IsFirstOpen rules i p → o ≡ p
one_first rules i None None h k = refl
one_first rules i None (Some p) h k = let e : [] ≡ p ∷ k.0 = one_list rules i [] (p ∷ k.0) h k.1 in cc
one_first rules i (Some o) None h k = let e : o ∷ h.0 ≡ [] = one_list rules i (o ∷ h.0) [] h.1 k in cc
one_first rules i (Some o) (Some p) h k = let e : o ∷ h.0 ≡ p ∷ k.0 = one_list rules i (o ∷ h.0) (p ∷ k.0) h.1 k.1 in cc

pub any_of_map : {A B : Type 0} (p : B → Bool) (f : A → B) (xs : List A) → list_any p (map f xs) ≡ list_any (λ x. p (f x)) xs
any_of_map p f [] = refl
any_of_map p f (x ∷ xs) = ap (λ b. p (f x) || b) (any_of_map p f xs)

module _ (o p : Option OpenAt) (i : ℕ) (r : RuleTree) where
  each_alike : (verdicts : List LabelVerdict) → (list_any is_unresolved verdicts ≡ true → o ≡ p) → map (verdict_told o i r) verdicts ≡ map (verdict_told p i r) verdicts
  each_alike [] h = refl
  each_alike (verdict.Guaranteed ∷ verdicts) h = ap (λ l. told.Guaranteed ∷ l) (each_alike verdicts h)
  each_alike (verdict.Impossible ∷ verdicts) h = ap (λ l. told.Impossible ∷ l) (each_alike verdicts h)
  each_alike (verdict.Possible present absent ∷ verdicts) h = ap (λ l. told.Possible (world_told present) (world_told absent) ∷ l) (each_alike verdicts h)
  each_alike (verdict.Unresolved ∷ verdicts) h = ap (λ (x : Option OpenAt). map (verdict_told x i r) (verdict.Unresolved ∷ verdicts)) (h refl)

  -- where no label stays unresolved, the same is told by any two
  pub told_alike : (v : RuleVerdict) → (has_unresolved v ≡ true → o ≡ p) → verdicts_told o i r v ≡ verdicts_told p i r v
  told_alike Empty h = refl
  told_alike (Labels verdicts) h = ap told_rule.Labels (each_alike verdicts h)
