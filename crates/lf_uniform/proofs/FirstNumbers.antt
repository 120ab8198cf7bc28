-- The first rule of a recorded name.
use Rattle.std.proofs.Common.{◌≡◌, ℕ, suc, ◌+◌, Bool, true, false, cond, List, [], ◌∷◌, length, Option, Some, None, refl, sym, ◌∙◌, ap, arith}
use Rattle.std.specs.Prelude.{slice_get}
use Rattle.std.specs.Option.{option_map}
use Rattle.std.proofs.lemmas.Option.{same_Some}
use Rattle.lf_laws.proofs.Options.{same_option}
use Rattle.lf_ast.specs.Labels.{Bytes}
use Rattle.lf_ast.specs.Rules.{RuleTree}
use Rattle.lf_semantics.specs.Environments.{records, recorded_names}
use Rattle.lf_semantics.specs.Listing.{place}
use Rattle.lf_candidates.proofs.Recorded.{recorded_test}
use Rattle.lf_trials.specs.Reached.{first_rule, is_recorded}
use Rattle.lf_deps.specs.views.Index.{makers_of}
use Rattle.lf_deps.specs.views.Search.{numbers_of}
use Rattle.lf_deps.specs.views.Sources.{IsSourcesOf, Sources}
use Rattle.lf_deps.proofs.LookedUp.{makers_is}
use Rattle.lf_uniform.specs.views.Lines.{first_of, is_in}
use Rattle.lf_uniform.proofs.Sound.{found_rule}

-- a name is among the recorded names where a rule records it
pub tells_recorded : (rules : List RuleTree) (names : List Bytes) → names ≡ recorded_names rules → (name : Bytes) → is_in names name ≡ is_recorded rules name
tells_recorded rules names are name = recorded_test name rules names (place names name) (length names) are refl refl

-- the first number of the rules that record a name is that of the first rule
first_number : (name : Bytes) (start : ℕ) (rules : List RuleTree) → slice_get (numbers_of (records name) start rules) 0 ≡ option_map (λ found. found.0) (first_rule (λ j x. records name x) start rules)
first_number name start [] = refl
first_number name start (x ∷ rules) = by (records name x) (first_number name (start + 1) rules)
  where
    by : (b : Bool) → slice_get (numbers_of (records name) (start + 1) rules) 0 ≡ option_map (λ found. found.0) (first_rule (λ j x. records name x) (start + 1) rules)
        → slice_get (cond b (start ∷ numbers_of (records name) (start + 1) rules) (numbers_of (records name) (start + 1) rules)) 0
        ≡ option_map (λ found. found.0) (cond b (Some (start, x)) (first_rule (λ j x. records name x) (suc start) rules))
    by true later = refl
    by false later = later ∙ ap (λ (n : ℕ). option_map (λ found. found.0) (first_rule (λ j x. records name x) n rules)) (let e : start + 1 ≡ suc start = omega arith in e)

module _ (rules : List RuleTree) (s : Sources) (is : IsSourcesOf rules s) (k : ℕ) (r : RuleTree) where
  number_is : slice_get (makers_of s r.name) 0 ≡ option_map (λ found. found.0) (first_of rules r.name)
  number_is = ap (λ (l : List ℕ). slice_get l 0) (makers_is rules s is r.name) ∙ first_number r.name 0 rules

  pub first_from : slice_get rules k ≡ Some r → slice_get (makers_of s r.name) 0 ≡ Some k → first_of rules r.name ≡ Some (k, r)
  first_from at e = by (first_of rules r.name) refl (sym number_is ∙ e)
    where
      by : (o : Option (ℕ × RuleTree)) → first_of rules r.name ≡ o → option_map (λ found. found.0) o ≡ Some k → first_of rules r.name ≡ Some (k, r)
      by None found e = absurd (cc)
      by (Some (j, q)) found e =
          let number : j ≡ k = same_Some j k e in
          let rule = found_rule (λ j x. records r.name x) 0 rules j q found in
          let the : q ≡ r = same_option (slice_get rules k) q r (ap (slice_get rules) (let z : k ≡ rule.place = omega (arith, rule.at, number) in z) ∙ rule.is) at in
          found ∙ ap (λ (n : ℕ). Some (n, q)) number ∙ ap (λ (z : RuleTree). Some (k, z)) the

  pub first_to : first_of rules r.name ≡ Some (k, r) → slice_get (makers_of s r.name) 0 ≡ Some k
  first_to first = number_is ∙ ap (option_map (λ found. found.0)) first
