-- The steps of trials are of rules.
use Rattle.std.proofs.Common.{inl, inr, ℕ, ◌<◌, Bool, List, [], ◌∷◌, length, Option, subst}
use Rattle.std.specs.Prelude.{IfSome}
use Rattle.std.specs.List.{Contains}
use Rattle.std.proofs.lemmas.List.Elements.{Contains-append_cases}
use Rattle.std.proofs.lemmas.Option.{slice_get_within}
use Rattle.lf_laws.proofs.Members.{none_in, of_flat_map, only_one}
use Rattle.lf_ast.specs.Labels.{Bytes}
use Rattle.lf_ast.specs.Rules.{RuleTree}
use Rattle.lf_semantics.specs.Listing.{Listing}
use Rattle.lf_semantics.specs.RowTable.{Environment}
use Rattle.lf_trials.specs.Building.{Building}
use Rattle.lf_trials.specs.Built.{IsBuilt}
use Rattle.lf_trials.specs.Reached.{Trial}
use Rattle.lf_trials.specs.Uniform.{IsUniform}
use Rattle.lf_trials.proofs.BuildingInvariants.{IsInvariant, building_keeps}

-- each step is of a rule
abbrev HasRules : List RuleTree → Building → Type 0
HasRules rules b = (k : ℕ) → Contains b.steps k → k < length rules

stay_of_rules : (u : Listing) (rules : List RuleTree) → IsInvariant u rules (HasRules rules)
stay_of_rules u rules = record {
  of_nothing = λ k there. absurd (none_in k there);
  of_series = λ name D is k there. absurd (none_in k there);
  of_both = λ a b of_a of_b k there. elim (Contains-append_cases a.steps b.steps k there) [ inl before ↦ of_a k before | inr later ↦ of_b k later ];
  of_one_more = λ b is. is;
  of_step = λ n b less is k there. elim (Contains-append_cases b.steps (n ∷ []) k there) [ inl before ↦ is k before | inr last ↦ subst (λ (j : ℕ). j < length rules) (only_one n k last) less ];
}

-- the steps of a built world
pub built_steps : (u : Listing) (env : Environment) (rules : List RuleTree) (i : ℕ) (label : Bytes) (presence : Bool) (t : Trial) → IsBuilt u env rules i label presence t → (k : ℕ) → Contains t.steps k → k < length rules
built_steps u env rules i label presence t is k there =
    let all : HasRules rules is.built =
    subst (λ (o : Option Building). IfSome o (HasRules rules)) is.is_built (building_keeps u env rules (HasRules rules) (stay_of_rules u rules) is.holds_fork i is.rule label presence) in
    all k (subst (λ (v : Trial). Contains v.steps k) is.is_trial there)

-- the steps of a uniform world
pub uniform_steps : (u : Listing) (rules : List RuleTree) (i : ℕ) (label : Bytes) (presence : Bool) (t : Trial) → IsUniform u rules i label presence t → (k : ℕ) → Contains t.steps k → k < length rules
uniform_steps u rules i label presence t is k there =
    let pass = of_flat_map (λ (pass : ℕ). is.reach) _ k (subst (λ (v : Trial). Contains v.steps k) is.is_trial there) in
    let found = (is.is_reach.members k).0 pass.2 in
    slice_get_within rules k found.0 found.1
