-- Which names several rules record, by the numbers of these.
use Rattle.std.proofs.Common.{◌≡◌, ◌<◌, ℕ, suc, ◌+◌, Bool, true, false, cond, nat_lt, List, [], ◌∷◌, ◌++◌, map, take, length, get_or, refl, sym, ◌∙◌, ap}
use Rattle.std.specs.List.{filter}
use Rattle.std.proofs.lemmas.List.{get_or-map, map-append, take_more}
use Rattle.lf_ast.specs.Labels.{Bytes}
use Rattle.lf_ast.specs.Rules.{RuleTree}
use Rattle.lf_deps.specs.views.Search.{numbers_of}
use Rattle.lf_deps.specs.views.Sources.{IsSourcesOf, Sources}
use Rattle.lf_deps.specs.views.Index.{makers_at}
use Rattle.lf_semantics.specs.Environments.{records}
use Rattle.lf_trials.specs.Reached.{has_several_rules}

-- there are as many numbers as rules
number_count : (test : RuleTree → Bool) (k : ℕ) (rules : List RuleTree) → length (numbers_of test k rules) ≡ length (filter test rules)
number_count test k [] = refl
number_count test k (r ∷ rules) = by (test r) (number_count test (k + 1) rules)
  where
    by : (b : Bool) → length (numbers_of test (k + 1) rules) ≡ length (filter test rules) → length (cond b (k ∷ numbers_of test (k + 1) rules) (numbers_of test (k + 1) rules)) ≡ length (cond b (r ∷ filter test rules) (filter test rules))
    by true e = ap suc e
    by false e = e

-- one name more
pub several_more : (rules : List RuleTree) (s : Sources) → IsSourcesOf rules s → (k : ℕ) → k < length s.names → (makers : List ℕ) → makers ≡ makers_at s k → (several : List Bool) → several ≡ map (has_several_rules rules) (take k s.names)
    → several ++ nat_lt 1 (length makers) ∷ [] ≡ map (has_several_rules rules) (take (k + 1) s.names)
several_more rules s is k less makers are several before =
    let names : List Bytes = s.names in
    let name : Bytes = get_or names k [] in
    let listed : makers_at s k ≡ numbers_of (records name) 0 rules = ap (λ (lists : List (List ℕ)). get_or lists k []) is.makers ∙ get_or-map (λ (n : Bytes). numbers_of (records n) 0 rules) names k [] [] less in
    let own : nat_lt 1 (length makers) ≡ has_several_rules rules name = ap (λ (l : List ℕ). nat_lt 1 (length l)) (are ∙ listed) ∙ ap (nat_lt 1) (number_count (records name) 0 rules) in
    ap (λ (l : List Bool). l ++ nat_lt 1 (length makers) ∷ []) before
    ∙ ap (λ (b : Bool). map (has_several_rules rules) (take k names) ++ b ∷ []) own
    ∙ sym (ap (map (has_several_rules rules)) (take_more names k [] less) ∙ map-append (has_several_rules rules) (take k names) (name ∷ []))
