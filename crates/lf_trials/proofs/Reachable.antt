-- Which rules an expression reads can be found: there is a test of which expressions hold a fork, and a reach of each.
use Rattle.std.proofs.Common.{◌≡◌, ◌≢◌, ◌<◌, ◌≤◌, ◌↔◌, ◌⊎◌, inl, inr, ℕ, zero, suc, ◌+◌, Bool, true, false, not, ◌&&◌, ◌||◌, eqb, List, [], ◌∷◌, length, get_or, Option, Some, None, refl, sym, ap, ◌∙◌, subst, true≢false, slice_get, arith}
use Rattle.std.specs.List.{Contains, filter, list_any, range_with_len}
use Rattle.std.specs.Option.{option_map_or}
use Rattle.std.specs.Str.{bytes_eq}
use Rattle.std.proofs.lemmas.Bool.{cases_eq, eq-eqb, eqb-true, not-true, or_left, or_right}
use Rattle.std.proofs.lemmas.List.Filters.{length-filter_both}
use Rattle.std.proofs.lemmas.List.FromFn.{length-range_with_len}
use Rattle.std.proofs.lemmas.List.Sums.{count_by-le-length, length-filter}
use Rattle.lf_laws.proofs.Booleans.{and_left, and_right}
use Rattle.lf_laws.proofs.Members.{any_has, behind, same_true, some_has, true_same}
use Rattle.lf_laws.proofs.Options.{same_option}
use Rattle.lf_laws.proofs.Slices.{member_at, number_of}
use Rattle.lf_ast.specs.Labels.{Bytes}
use Rattle.lf_ast.specs.Rules.{RuleTree}
use Rattle.lf_ast.specs.Tree.{Tree}
use Rattle.lf_deps.proofs.Ascending.{Ascends, filter_ascends, in_without, number_in, of_without, range_ascends}
use Rattle.lf_deps.specs.Ordering.{without}
use Rattle.lf_deps.specs.Reading.{Reaches, Reads, Selects, selectors}
use Rattle.lf_semantics.proofs.Members.{in_filter, of_filter}
use Rattle.lf_semantics.proofs.Recorded.{recorded}
use Rattle.lf_trials.specs.Forks.{HoldsFork, TellsForks, has_own_fork}
use Rattle.lf_trials.specs.Reached.{IsReach}

-- lists

pub shorter : {X : Type 0} (test : X → Bool) (xs : List X) → length (filter test xs) ≤ length xs
shorter test xs = omega (arith, length-filter test xs, count_by-le-length test xs)

fewer : (k : ℕ) (xs : List ℕ) → Contains xs k → length (without k xs) < length xs
fewer k xs c =
    let own = in_filter (λ j. eqb j k) xs k c (eq-eqb k k refl) in
    let some = own.1 in
    omega (arith, some, length-filter_both (λ j. eqb j k) (λ j. not (eqb j k)) (λ j. refl) xs)

-- a rule that an expression selects
record Steps (rules : List RuleTree) (e : Tree) (k : ℕ) (r : RuleTree) : Type 0 where
  at : slice_get rules k ≡ Some r
  records : r.alert ≡ false
  selects : Selects rules e r.name

-- a path from an expression over the rules that are left to one that passes the test
data Path (rules : List RuleTree) (target : ℕ → RuleTree → Bool) (left : List ℕ) : Tree → Type 0 where
  ends : {e : Tree} (k : ℕ) (r : RuleTree) → Contains left k → Steps rules e k r → target k r ≡ true → Path rules target left e
  goes : {e : Tree} (k : ℕ) (r : RuleTree) → Contains left k → Steps rules e k r → Path rules target left r.expr → Path rules target left e

module _ (rules : List RuleTree) (target : ℕ → RuleTree → Bool) where
  wider : (left more : List ℕ) → ((k : ℕ) → Contains left k → Contains more k) → (e : Tree) → Path rules target left e → Path rules target more e
  wider left more into e (Path.ends k r c step t) = Path.ends k r (into k c) step t
  wider left more into e (Path.goes k r c step rest) = Path.goes k r (into k c) step (wider left more into r.expr rest)

  -- without a rule there is still a path, or there is one from that rule, or it passes itself
  module _ (j : ℕ) (s : RuleTree) (at : slice_get rules j ≡ Some s) (left : List ℕ) where
    abbrev Around : Tree → Type 0
    Around e = Path rules target (without j left) e ⊎ (Path rules target (without j left) s.expr ⊎ (target j s ≡ true))

    around : (e : Tree) → Path rules target left e → Around e
    around e (Path.ends k r c step t) = elim (cases_eq k j) [
      | inl same ↦ inr (inr (subst (λ i. target i s ≡ true) same (subst (λ (z : RuleTree). target k z ≡ true) (same_option (slice_get rules k) r s step.at (ap (slice_get rules) same ∙ at)) t)))
      | inr other ↦ inl (Path.ends k r (in_without j k left c other) step t)
    ]
    around e (Path.goes k r c step rest) = by (cases_eq k j) (around r.expr rest)
      where
        the_rule : k ≡ j → r ≡ s
        the_rule same = same_option (slice_get rules k) r s step.at (ap (slice_get rules) same ∙ at)

        by : (k ≡ j) ⊎ (k ≢ j) → Around r.expr → Around e
        by _ (inr further) = inr further
        by (inl same) (inl path) = inr (inl (subst (λ (z : RuleTree). Path rules target (without j left) z.expr) (the_rule same) path))
        by (inr other) (inl path) = inl (Path.goes k r (in_without j k left c other) step path)

  -- the search

  abbrev selects : List (Option Bytes) → Bytes → Bool
  selects found name = list_any (λ o. option_map_or (bytes_eq name) o true) found

  abbrev steps : Tree → RuleTree → Bool
  steps e r = not r.alert && selects (selectors e) r.name

  abbrev search : ℕ → List ℕ → Tree → Bool
  search zero left e = false
  search (suc n) left e = list_any (λ k. option_map_or (λ r. steps e r && (target k r || search n (without k left) r.expr)) (slice_get rules k) false) left

  steps_out : (e : Tree) (k : ℕ) (r : RuleTree) → slice_get rules k ≡ Some r → steps e r ≡ true → Steps rules e k r
  steps_out e k r at is = record { at = at; records = not-true r.alert (and_left (not r.alert) (selects (selectors e) r.name) is); selects = by found.0 found.1 found.2 }
    where
      found : (o : Option Bytes) × Contains (selectors e) o × (option_map_or (bytes_eq r.name) o true ≡ true)
      found = some_has (λ o. option_map_or (bytes_eq r.name) o true) (selectors e) (and_right (not r.alert) (selects (selectors e) r.name) is)

      by : (o : Option Bytes) → Contains (selectors e) o → option_map_or (bytes_eq r.name) o true ≡ true → Selects rules e r.name
      by None c h = inr (c, recorded rules r (member_at rules k r at) (not-true r.alert (and_left (not r.alert) (selects (selectors e) r.name) is)))
      by (Some name) c h = inl (subst (λ n. Contains (selectors e) (Some n)) (sym (true_same r.name name h)) c)

  steps_in : (e : Tree) (k : ℕ) (r : RuleTree) → Steps rules e k r → steps e r ≡ true
  steps_in e k r step = ap (λ (b : Bool). not b && selects (selectors e) r.name) step.records ∙ by step.selects
    where
      by : Selects rules e r.name → selects (selectors e) r.name ≡ true
      by (inl said) = any_has (λ o. option_map_or (bytes_eq r.name) o true) (selectors e) (Some r.name) said (same_true r.name r.name refl)
      by (inr (unsaid, recorded)) = any_has (λ o. option_map_or (bytes_eq r.name) o true) (selectors e) None unsaid refl

  sound : (n : ℕ) (left : List ℕ) (e : Tree) → search n left e ≡ true → Path rules target left e
  sound zero left e h = absurd (true≢false (sym h))
  sound (suc n) left e h = let found = some_has (λ k. option_map_or (λ r. steps e r && (target k r || search n (without k left) r.expr)) (slice_get rules k) false) left h in by found.0 found.1 (slice_get rules found.0) refl found.2 (sound n (without found.0 left))
    where
      last : (k : ℕ) → Contains left k → (r : RuleTree) → Steps rules e k r → (b : Bool) → target k r ≡ b → (b || search n (without k left) r.expr) ≡ true → (search n (without k left) r.expr ≡ true → Path rules target (without k left) r.expr) → Path rules target left e
      last k c r step true is h later = Path.ends k r c step is
      last k c r step false is h later = Path.goes k r c step (wider (without k left) left (λ j c. (of_without k j left c).0) r.expr (later h))

      by : (k : ℕ) → Contains left k → (o : Option RuleTree) → slice_get rules k ≡ o → option_map_or (λ r. steps e r && (target k r || search n (without k left) r.expr)) o false ≡ true → ((x : Tree) → search n (without k left) x ≡ true → Path rules target (without k left) x) → Path rules target left e
      by k c None at h later = absurd (true≢false (sym h))
      by k c (Some r) at h later = last k c r (steps_out e k r at (and_left (steps e r) _ h)) (target k r) refl (and_right (steps e r) _ h) (later r.expr)

  -- the first rule of a path, and what is behind it
  abbrev IsFirst : List ℕ → Tree → Type 0
  IsFirst left e = (k : ℕ) × (r : RuleTree) × Contains left k × Steps rules e k r × ((target k r ≡ true) ⊎ Path rules target (without k left) r.expr)

  first_of : (left : List ℕ) (e : Tree) → Path rules target left e → IsFirst left e
  first_of left e (Path.ends k r c step t) = (k, r, c, step, inl t)
  first_of left e (Path.goes k r c step rest) = (k, r, c, step, by (around k r step.at left r.expr rest))
    where
      by : Around k r step.at left r.expr → (target k r ≡ true) ⊎ Path rules target (without k left) r.expr
      by (inl path) = inr path
      by (inr (inl path)) = inr path
      by (inr (inr t)) = inl t

  complete : (n : ℕ) (left : List ℕ) (e : Tree) → length left ≤ n → Path rules target left e → search n left e ≡ true
  complete zero left e most path = let first = first_of left e path in let h = first.2.1 in absurd (omega (arith, h, most))
  complete (suc n) left e most path = let first = first_of left e path in by first.0 first.1 first.2 first.3 first.4 (complete n)
    where
      tries : ℕ → RuleTree → Bool
      tries k r = steps e r && (target k r || search n (without k left) r.expr)

      passes : (a b : Bool) → (a ≡ true) ⊎ (b ≡ true) → (a || b) ≡ true
      passes a b (inl h) = or_left a b h
      passes a b (inr h) = or_right a b h

      by : (k : ℕ) (r : RuleTree) → Contains left k → Steps rules e k r → (target k r ≡ true) ⊎ Path rules target (without k left) r.expr → ((less : List ℕ) (x : Tree) → length less ≤ n → Path rules target less x → search n less x ≡ true) → search (suc n) left e ≡ true
      by k r c step behind later =
          let few : length (without k left) ≤ n = let h = fewer k left c in omega (arith, h, most) in
          let either : (target k r ≡ true) ⊎ (search n (without k left) r.expr ≡ true) = elim behind [ inl t ↦ inl t | inr path ↦ inr (later (without k left) r.expr few path) ] in
          any_has (λ k. option_map_or (λ r. steps e r && (target k r || search n (without k left) r.expr)) (slice_get rules k) false) left k c
          (ap (λ (o : Option RuleTree). option_map_or (λ r. steps e r && (target k r || search n (without k left) r.expr)) o false) step.at
          ∙ ap (λ (b : Bool). b && (target k r || search n (without k left) r.expr)) (steps_in e k r step) ∙ passes (target k r) (search n (without k left) r.expr) either)

  -- over all rules

  abbrev pub reaches : Tree → Bool
  reaches e = search (length rules) (range_with_len 0 (length rules)) e

  reads_path : (k : ℕ) (r : RuleTree) → slice_get rules k ≡ Some r → r.alert ≡ false → target k r ≡ true → (e : Tree) (name : Bytes) → Reads rules e name → name ≡ r.name → Path rules target (range_with_len 0 (length rules)) e
  reads_path k r at records t e name (Reads.selected s) same = Path.ends k r (number_in rules k r at) (record { at = at; records = records; selects = subst (Selects rules e) same s }) t
  reads_path k r at records t e name (Reads.through q c recording s reads) same =
      let there = number_of rules q c in
      Path.goes there.0 q (number_in rules there.0 q there.2) (record { at = there.2; records = recording; selects = s }) (reads_path k r at records t q.expr name reads same)

  -- a rule that the expression reaches passes the test
  abbrev pub ReachesSome : Tree → Type 0
  ReachesSome e = (k : ℕ) × (r : RuleTree) × (slice_get rules k ≡ Some r) × Reaches rules e r × (target k r ≡ true)

  path_reads : (left : List ℕ) (e : Tree) → Path rules target left e → ReachesSome e
  path_reads left e (Path.ends k r c step t) = (k, r, step.at, (step.records, Reads.selected step.selects), t)
  path_reads left e (Path.goes k r c step rest) =
      let found = path_reads left r.expr rest in
      (found.0, found.1, found.2, (found.3.0, Reads.through r (member_at rules k r step.at) step.records step.selects found.3.1), found.4)

  pub reaches_is : (e : Tree) → (reaches e ≡ true) ↔ ReachesSome e
  reaches_is e = (
    λ h. path_reads (range_with_len 0 (length rules)) e (sound (length rules) (range_with_len 0 (length rules)) e h),
    λ (k, r, at, reach, t). complete (length rules) (range_with_len 0 (length rules)) e (all_count (length rules)) (reads_path k r at reach.0 t e r.name reach.1 refl),
  )
    where
      all_count : (n : ℕ) → length (range_with_len 0 n) ≤ n
      all_count n = let h = length-range_with_len 0 n in omega (arith, h)

-- there is a test of forks

module _ (rules : List RuleTree) where
  abbrev forked : ℕ → RuleTree → Bool
  forked k r = has_own_fork rules r.expr

  abbrev pub fork_test : Tree → Bool
  fork_test e = has_own_fork rules e || reaches rules forked e

  pub tells_forks : TellsForks rules fork_test
  tells_forks e = (λ h. out (has_own_fork rules e) refl h, into)
    where
      out : (b : Bool) → has_own_fork rules e ≡ b → (b || reaches rules forked e) ≡ true → HoldsFork rules e
      out true is h = inl is
      out false is h = let found = (reaches_is rules forked e).0 h in inr (found.1, member_at rules found.0 found.1 found.2, found.3, found.4)

      into : HoldsFork rules e → fork_test e ≡ true
      into (inl own) = ap (λ (b : Bool). b || reaches rules forked e) own
      into (inr (r, c, reach, own)) = let there = number_of rules r c in or_right (has_own_fork rules e) (reaches rules forked e) ((reaches_is rules forked e).1 (there.0, r, there.2, reach, own))

  -- and a reach of each expression

  abbrev is_number : ℕ → ℕ → RuleTree → Bool
  is_number k j r = eqb j k

  abbrev pub reach_of : Tree → List ℕ
  reach_of e = filter (λ k. reaches rules (is_number k) e) (range_with_len 0 (length rules))

  at_least : (least : ℕ) (xs : List ℕ) (k : ℕ) → Ascends least xs → k < length xs → least ≤ get_or xs k 0
  at_least least [] k a within = absurd (omega (arith, within))
  at_least least (x ∷ xs) zero a within = a.0
  at_least least (x ∷ xs) (suc k) a within = let rest = at_least (x + 1) xs k a.1 (omega (arith, within)) in let h = a.0 in omega (arith, rest, h)

  rising : (least : ℕ) (xs : List ℕ) → Ascends least xs → (k l : ℕ) → k < l → l < length xs → get_or xs k 0 < get_or xs l 0
  rising least [] a k l less within = absurd (omega (arith, within))
  rising least (x ∷ xs) a k zero less within = absurd (omega (arith, less))
  rising least (x ∷ xs) a zero (suc l) less within = let rest = at_least (x + 1) xs l a.1 (omega (arith, within)) in omega (arith, rest)
  rising least (x ∷ xs) a (suc k) (suc l) less within = rising (x + 1) xs a.1 k l (omega (arith, less)) (omega (arith, within))

  pub is_reach_of : (e : Tree) → IsReach rules e (reach_of e)
  is_reach_of e = record {
    ascending = rising 0 (reach_of e) (filter_ascends (λ k. reaches rules (is_number k) e) 0 (range_with_len 0 (length rules)) (range_ascends 0 (length rules)));
    members = λ k. (
      λ c. let found = (reaches_is rules (is_number k) e).0 (of_filter (λ k. reaches rules (is_number k) e) (range_with_len 0 (length rules)) k c).1 in
          (found.1, subst (λ j. slice_get rules j ≡ Some found.1) (eqb-true found.0 k found.4) found.2, found.3),
      λ (r, at, reach). in_filter (λ k. reaches rules (is_number k) e) (range_with_len 0 (length rules)) k (number_in rules k r at) ((reaches_is rules (is_number k) e).1 (k, r, at, reach, eq-eqb k k refl)),
    );
  }
