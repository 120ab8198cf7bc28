-- What is looked up in the index of rules.
use Rattle.std.proofs.Common.{◌≡◌, ℕ, ◌<◌, ◌≤◌, false, not, List, [], length, get_or, Option, Some, None, inl, inr, sym, ◌∙◌, ap, subst, arith}
use Rattle.std.specs.Prelude.{slice_get}
use Rattle.std.specs.List.{Contains}
use Rattle.std.specs.Str.{bytes_eq}
use Rattle.std.proofs.lemmas.Bool.{and_parts, cases_lt, not-true}
use Rattle.std.proofs.lemmas.List.{length-map, get_or_past}
use Rattle.lf_ast.specs.Labels.{Bytes}
use Rattle.lf_ast.specs.Rules.{RuleTree}
use Rattle.lf_semantics.specs.Environments.{records, names_recorded, recorded_names}
use Rattle.lf_semantics.specs.Listing.{place}
use Rattle.lf_semantics.proofs.ListingLaws.{in_first_seen, of_first_seen, place_within}
use Rattle.lf_laws.proofs.Members.{in_flat_map, here, true_same, of_flat_map, only_one}
use Rattle.lf_laws.proofs.Slices.{member_at, number_of}
use Rattle.lf_deps.specs.views.Index.{IsIndex, chosen_by, makers_of}
use Rattle.lf_deps.specs.Reading.{SelectsBy, selectors}
use Rattle.lf_deps.specs.views.Search.{chosen, chosen_all, making, numbers_of}
use Rattle.lf_deps.specs.views.Sources.{IsSourcesOf, Sources}
use Rattle.lf_deps.proofs.Followed.{making_from, making_to}
use Rattle.lf_deps.proofs.Indexed.{none_record, numbers_at, records_own, sources_full}
use Rattle.lf_deps.proofs.Numbered.{at_made, in_numbers, of_numbers}
use Rattle.std.proofs.lemmas.Option.{slice_get_within}

module _ (rules : List RuleTree) (s : Sources) (is : IsSourcesOf rules s) where
  no_place : (name : Bytes) → length s.names ≤ place s.names name → Contains (names_recorded rules) name → ⊥
  no_place name h c =
      let P : List Bytes → Type 0 = λ l. place l name < length l in
      let w : place s.names name < length s.names = subst P (sym is.names) (place_within (recorded_names rules) name (in_first_seen (names_recorded rules) name c)) in
      omega (arith, w, h)

  pub makers_is : (name : Bytes) → makers_of s name ≡ numbers_of (records name) 0 rules
  makers_is name = elim (cases_lt (place s.names name) (length s.names)) [
    | inl h ↦ ap (λ (l : List (List ℕ)). get_or l (place s.names name) []) is.makers ∙ numbers_at (λ n. numbers_of (records n) 0 rules) s.names name h
    | inr h ↦ let n = sources_full rules s is in get_or_past s.makers (place s.names name) [] (omega (arith, h, n)) ∙ sym (none_record name rules 0 (no_place name h))
  ]

  pub recorded_to : (name : Bytes) (k : ℕ) → Contains (makers_of s name) k → (r : RuleTree) × (slice_get rules k ≡ Some r) × (r.alert ≡ false) × (r.name ≡ name)
  recorded_to name k c =
      let P : List ℕ → Type 0 = λ l. Contains l k in
      let f = of_numbers (records name) rules 0 k (subst P (makers_is name) c) in
      let Q : ℕ → Type 0 = λ z. slice_get rules z ≡ Some f.2 in
      let e : f.0 ≡ k = omega (arith, f.1) in
      let b = and_parts (not f.2.alert) (bytes_eq f.2.name name) f.4 in
      (f.2, subst Q e f.3, not-true f.2.alert b.0, true_same f.2.name name b.1)

  pub recorded_from : (r : RuleTree) (k : ℕ) → slice_get rules k ≡ Some r → r.alert ≡ false → Contains (makers_of s r.name) k
  recorded_from r k e a =
      let P : List ℕ → Type 0 = λ l. Contains l k in
      subst P (sym (makers_is r.name)) (in_numbers (records r.name) rules 0 k k r (omega arith) e (records_own r a))

  -- what the rule of a number selects
  pub selected_is : (k : ℕ) (r : RuleTree) → slice_get rules k ≡ Some r → get_or s.selected k [] ≡ selectors r.expr
  selected_is k r e = ap (λ (l : List (List (Option Bytes))). get_or l k []) is.selected ∙ at_made (λ (x : RuleTree). selectors x.expr) rules k r e

  pub selected_count : length s.selected ≡ length rules
  selected_count = ap length is.selected ∙ length-map rules (λ (x : RuleTree). selectors x.expr)

  -- what selectors select

  pub chosen_to : (found : List (Option Bytes)) (n : Bytes) → Contains (chosen_all s.names found) n → SelectsBy rules found n
  chosen_to found n c = let f = of_flat_map (chosen s.names) found n c in by f.0 f.1 f.2
    where
      by : (o : Option Bytes) → Contains found o → Contains (chosen s.names o) n → SelectsBy rules found n
      by (Some m) d g = let P : Bytes → Type 0 = λ z. Contains found (Some z) in inl (subst P (only_one m n g) d)
      by None d g = let P : List Bytes → Type 0 = λ l. Contains l n in inr (d, of_first_seen (names_recorded rules) n (subst P is.names g))

  pub chosen_from : (found : List (Option Bytes)) (n : Bytes) → SelectsBy rules found n → Contains (chosen_all s.names found) n
  chosen_from found n (inl c) = in_flat_map (chosen s.names) found (Some n) n c (here n [])
  chosen_from found n (inr c) =
      let P : List Bytes → Type 0 = λ l. Contains l n in
      in_flat_map (chosen s.names) found None n c.0 (subst P (sym is.names) (in_first_seen (names_recorded rules) n c.1))

  -- what is selected in the making of a name

  abbrev chosen_at : ℕ → List Bytes
  chosen_at k = chosen_all s.names (get_or s.selected k [])

  pub made_to : (name n : Bytes) → Contains (chosen_by s (makers_of s name)) n → SelectsBy rules (making rules name) n
  made_to name n c =
      let f = of_flat_map chosen_at (makers_of s name) n c in
      let m = recorded_to name f.0 f.1 in
      let P : List (Option Bytes) → Type 0 = λ l. Contains (chosen_all s.names l) n in
      making_from rules name n m.0 (member_at rules f.0 m.0 m.1) m.2 m.3 (chosen_to (selectors m.0.expr) n (subst P (selected_is f.0 m.0 m.1) f.2))

  pub made_from : (name n : Bytes) → SelectsBy rules (making rules name) n → Contains (chosen_by s (makers_of s name)) n
  made_from name n h =
      let m = making_to rules name n h in
      let k = number_of rules m.0 m.1 in
      let P : List (Option Bytes) → Type 0 = λ l. Contains (chosen_all s.names l) n in
      let Q : Bytes → Type 0 = λ z. Contains (makers_of s z) k.0 in
      in_flat_map chosen_at (makers_of s name) k.0 n (subst Q m.3 (recorded_from m.0 k.0 k.2 m.2)) (subst P (sym (selected_is k.0 m.0 k.2)) (chosen_from (selectors m.0.expr) n m.4))

  makers_in : (name : Bytes) (k : ℕ) → Contains (makers_of s name) k → k < length s.selected
  makers_in name k c = let r = recorded_to name k c in let w = slice_get_within rules k r.0 r.1 in omega (arith, w, selected_count)

-- each number is that of a rule
pub makers_within : (s : Sources) → IsIndex s → (name : Bytes) (k : ℕ) → Contains (makers_of s name) k → k < length s.selected
makers_within s i name k c = makers_in i.0 s i.1 name k c
