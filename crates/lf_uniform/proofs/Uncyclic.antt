-- Rules that select, by its name, a name that is read in its own making.
use Rattle.std.proofs.Common.{◌≡◌, ◌<◌, ◌+◌, ◌⊎◌, inl, inr, ℕ, List, [], ◌∷◌, get_or, length, take, Option, Some, None, sym, subst, option_to_list}
use Rattle.std.specs.Prelude.{slice_get}
use Rattle.std.specs.List.{Contains}
use Rattle.std.proofs.lemmas.List.{take_more}
use Rattle.std.proofs.lemmas.List.Elements.{Contains-append_cases}
use Rattle.lf_laws.proofs.Members.{here, in_flat_map, in_map, map_member, of_flat_map, only_one}
use Rattle.lf_ast.specs.Labels.{Bytes}
use Rattle.lf_ast.specs.Rules.{RuleTree}
use Rattle.lf_deps.specs.Reading.{IsCyclic, selectors}
use Rattle.lf_witness.specs.StrictRuns.{rules_at}
use Rattle.lf_witness.proofs.RulesAt.{of_listed}
use Rattle.lf_trials.specs.Selected.{Selected, selectors_of}
use Rattle.lf_trials.specs.Uniform.{SelectsCyclic}
use Rattle.lf_trials.proofs.SelectedNames.{same_selectors}
use Rattle.lf_uniform.specs.views.Ways.{IsCyclicIn, IsCyclicName, IsUncyclic}

module _ (rules : List RuleTree) where
  rule_in : (numbers : List ℕ) (k : ℕ) (r : RuleTree) → Contains numbers k → slice_get rules k ≡ Some r → Contains (rules_at rules numbers) r
  rule_in numbers k r c at = in_flat_map (λ j. option_to_list (slice_get rules j)) numbers k r c (subst (λ (o : Option RuleTree). Contains (option_to_list o) r) (sym at) (here r []))

  -- a name that a selector says
  selector_in : (e : _) (name : Bytes) → Contains (selectors e) (Some name) → (s : Selected) × Contains (selectors_of e) s × (s.name ≡ Some name)
  selector_in e name c = let found = map_member (λ (s : Selected). s.name) (selectors_of e) (Some name) (subst (λ (xs : List (Option Bytes)). Contains xs (Some name)) (sym (same_selectors e)) c) in (found.0, found.1, sym found.2)

  pub selects_cyclic : (numbers : List ℕ) (k : ℕ) (r : RuleTree) → Contains numbers k → slice_get rules k ≡ Some r → (name : Bytes) → Contains (selectors r.expr) (Some name) → IsCyclic rules name → SelectsCyclic rules numbers
  selects_cyclic numbers k r c at name says circle =
      let s = selector_in r.expr name says in
      (s.0, in_flat_map (λ (q : RuleTree). selectors_of q.expr) (rules_at rules numbers) r s.0 (rule_in numbers k r c at) s.1, name, s.2, circle)

  pub selects_some : (numbers : List ℕ) (k : ℕ) (r : RuleTree) → Contains numbers k → slice_get rules k ≡ Some r → IsCyclicIn rules (selectors r.expr) → SelectsCyclic rules numbers
  selects_some numbers k r c at (None, says, circle) = absurd circle
  selects_some numbers k r c at (Some name, says, circle) = selects_cyclic numbers k r c at name says circle

  -- and back
  of_name : (o : Option Bytes) (name : Bytes) → o ≡ Some name → IsCyclic rules name → IsCyclicName rules o
  of_name None name e circle = absurd (cc)
  of_name (Some other) name e circle = let same : other ≡ name = cc in subst (IsCyclic rules) (sym same) circle

  pub none_selected : (numbers : List ℕ) → IsUncyclic rules numbers → SelectsCyclic rules numbers → ⊥
  none_selected numbers none (s, there, name, says, circle) =
      let r = of_flat_map (λ (q : RuleTree). selectors_of q.expr) (rules_at rules numbers) s there in
      let k = of_flat_map (λ j. option_to_list (slice_get rules j)) numbers r.0 r.1 in
      let said : Contains (selectors r.0.expr) s.name = subst (λ (xs : List (Option Bytes)). Contains xs s.name) (same_selectors r.0.expr) (in_map (λ (t : Selected). t.name) (selectors_of r.0.expr) s r.2) in
      none k.0 k.1 r.0 (of_listed (slice_get rules k.0) r.0 k.2) name (subst (Contains (selectors r.0.expr)) says said) circle

-- one more selector, and one more rule

pub in_more : {X : Type 0} (xs : List X) (k : ℕ) (x : X) → k < length xs → (y : X) → Contains (take (k + 1) xs) y → Contains (take k xs) y ⊎ (get_or xs k x ≡ y)
in_more {X = X} xs k x less y c = elim (Contains-append_cases (take k xs) (get_or xs k x ∷ []) y (subst (λ (ys : List X). Contains ys y) (take_more xs k x less) c)) [
  | inl front ↦ inl front
  | inr last ↦ inr (only_one (get_or xs k x) y last)
]
