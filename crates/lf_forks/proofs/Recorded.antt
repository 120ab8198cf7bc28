-- Recorded names and their places.
use Rattle.std.proofs.Common.{◌≡◌, ◌<◌, ℕ, true, false, not, List, [], ◌∷◌, length, get_or, sym, subst, arith}
use Rattle.std.specs.List.{Contains, filter}
use Rattle.std.specs.Str.{bytes_eq}
use Rattle.std.proofs.lemmas.Bool.{ltb-true, not-true}
use Rattle.lf_laws.proofs.Booleans.{and_left, and_right}
use Rattle.lf_laws.proofs.Members.{here, true_same}
use Rattle.lf_ast.specs.Labels.{Bytes}
use Rattle.lf_ast.specs.Rules.{RuleTree}
use Rattle.lf_semantics.specs.Environments.{records, names_recorded, recorded_names}
use Rattle.lf_semantics.specs.Listing.{StandOnce, place}
use Rattle.lf_semantics.proofs.ListingLaws.{apart, first_seen_distinct, in_first_seen, place_within}
use Rattle.lf_semantics.proofs.Members.{of_filter}
use Rattle.lf_semantics.proofs.Places.{place_at}
use Rattle.lf_semantics.proofs.Recorded.{recorded}
use Rattle.lf_trials.specs.Reached.{has_several_rules}

module _ (rules : List RuleTree) (names : List Bytes) (are : names ≡ recorded_names rules) where
  pub placed : (r : RuleTree) → Contains rules r → r.alert ≡ false → place names r.name < length names
  placed r c a =
      let P : List Bytes → Type 0 = λ l. place l r.name < length l in
      subst P (sym are) (place_within (recorded_names rules) r.name (in_first_seen (names_recorded rules) r.name (recorded rules r c a)))

  pub own_place : (k : ℕ) → k < length names → place names (get_or names k []) ≡ k
  own_place k h =
      let P : List Bytes → Type 0 = λ l. StandOnce l in
      let once : StandOnce names = subst P (sym are) (apart (recorded_names rules) (first_seen_distinct (names_recorded rules))) in
      place_at names k h (λ j b. once j k b h)

  -- a name with several rules is recorded
  pub several_placed : (name : Bytes) → has_several_rules rules name ≡ true → place names name < length names
  several_placed name e =
      let some : 1 < length (filter (records name) rules) = ltb-true 1 (length (filter (records name) rules)) e in
      first (filter (records name) rules) (λ r c. of_filter (records name) rules r c) some
    where
      first : (found : List RuleTree) → ((r : RuleTree) → Contains found r → Contains rules r × (records name r ≡ true)) → 1 < length found → place names name < length names
      first [] each h = absurd (omega (arith, h))
      first (r ∷ found) each h =
          let it = each r (here r found) in
          let P : Bytes → Type 0 = λ n. place names n < length names in
          subst P (true_same r.name name (and_right (not r.alert) (bytes_eq r.name name) it.1)) (placed r it.0 (not-true r.alert (and_left (not r.alert) (bytes_eq r.name name) it.1)))
