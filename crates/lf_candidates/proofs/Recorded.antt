-- A name is recorded where it is among the recorded names.
use Rattle.std.proofs.Common.{◌≡◌, ◌<◌, ◌≤◌, arith, nat_lt, ℕ, Bool, true, false, not, ◌&&◌, List, length, refl, sym, ap, ◌∙◌, subst}
use Rattle.std.specs.List.{Contains}
use Rattle.std.specs.Str.{bytes_eq}
use Rattle.std.proofs.lemmas.Bool.{and_parts, not-true}
use Rattle.std.proofs.lemmas.Bool.Decides.{nat_tests}
use Rattle.lf_laws.proofs.Members.{any_has, same_true, some_has, true_same}
use Rattle.lf_ast.specs.Labels.{Bytes}
use Rattle.lf_ast.specs.Rules.{RuleTree}
use Rattle.lf_semantics.specs.Environments.{records, names_recorded, recorded_names}
use Rattle.lf_semantics.specs.Listing.{place}
use Rattle.lf_semantics.proofs.ListingLaws.{in_first_seen, of_first_seen, place_within}
use Rattle.lf_semantics.proofs.Places.{placed_there}
use Rattle.lf_semantics.proofs.Recorded.{recorded, recorder}
use Rattle.lf_trials.specs.Reached.{is_recorded}

module _ (name : Bytes) where
  in_names : (rules : List RuleTree) → is_recorded rules name ≡ true → Contains (names_recorded rules) name
  in_names rules e =
      let found = some_has (records name) rules e in
      let both = and_parts (not found.0.alert) (bytes_eq found.0.name name) found.2 in
      subst (Contains (names_recorded rules)) (true_same found.0.name name both.1) (recorded rules found.0 found.1 (not-true found.0.alert both.0))

  of_names : (rules : List RuleTree) → Contains (names_recorded rules) name → is_recorded rules name ≡ true
  of_names rules c =
      let (r, there, recording, same) = recorder rules name c in
      any_has (records name) rules r there (ap (λ (b : Bool). not b && bytes_eq r.name name) recording ∙ same_true r.name name same)

  pub has_place : (rules : List RuleTree) → place (recorded_names rules) name < length (recorded_names rules) → true ≡ is_recorded rules name
  has_place rules less =
      sym (of_names rules (of_first_seen (names_recorded rules) name (placed_there (recorded_names rules) name less)))

  pub has_no_place : (rules : List RuleTree) → (place (recorded_names rules) name < length (recorded_names rules) → ⊥) → false ≡ is_recorded rules name
  has_no_place rules none = by (is_recorded rules name) refl
    where
      by : (b : Bool) → is_recorded rules name ≡ b → false ≡ is_recorded rules name
      by true e = absurd (none (place_within (recorded_names rules) name (in_first_seen (names_recorded rules) name (in_names rules e))))
      by false e = sym e

  -- so it is told by its place
  pub recorded_test : (rules : List RuleTree) (names : List Bytes) (at count : ℕ) → names ≡ recorded_names rules → at ≡ place names name → count ≡ length names → nat_lt at count ≡ is_recorded rules name
  recorded_test rules names at count are is many = by (nat_lt at count) refl
    where
      there : place names name ≡ place (recorded_names rules) name
      there = ap (λ xs. place xs name) are

      all : length names ≡ length (recorded_names rules)
      all = ap length are

      by : (b : Bool) → nat_lt at count ≡ b → b ≡ is_recorded rules name
      by true e = has_place rules (let less : at < count = grind (arith, nat_tests) in omega (arith, less, is, many, there, all))
      by false e = has_no_place rules (λ h. let least : count ≤ at = grind (arith, nat_tests) in absurd (omega (arith, h, least, is, many, there, all)))
