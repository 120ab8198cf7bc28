-- The reach of a rule as it is found, and as the graph of rules leads to it, and the selectors of all rules and their reaches.
use Rattle.std.proofs.Common.{◌≡◌, ◌⊎◌, ◌<◌, ◌↔◌, ℕ, zero, suc, Bool, cond, true, false, List, [], ◌∷◌, ◌++◌, length, map, get_or, nat_lt, Some, inl, inr, sym, ap, ◌∙◌, subst, slice_get, arith}
use Rattle.std.specs.List.{Contains, filter, range_with_len, sum_by}
use Rattle.std.proofs.lemmas.Bool.{cases_lt, lt-ltb, ltb-true}
use Rattle.std.proofs.lemmas.List.{get_or_default, length-map}
use Rattle.std.proofs.lemmas.List.Elements.{Contains-append_cases, Contains-append_left, Contains-append_right, Contains-get_or}
use Rattle.std.proofs.lemmas.Option.{slice_get_within}
use Rattle.lf_laws.specs.Ascending.{AreAscending}
use Rattle.lf_laws.proofs.Members.{behind, first_or_behind, here, same_sums}
use Rattle.lf_laws.proofs.Slices.{some_at}
use Rattle.lf_ast.specs.Rules.{RuleTree}
use Rattle.lf_graph.specs.Paths.{Leads, nowhere}
use Rattle.lf_semantics.proofs.Members.{in_filter, of_filter}
use Rattle.lf_deps.proofs.LookedUp.{selected_count}
use Rattle.lf_deps.specs.Reading.{Reaches}
use Rattle.lf_deps.specs.views.Sources.{IsSourcesOf, Sources}
use Rattle.lf_forks.specs.Selectors.{selector_total}
use Rattle.lf_trials.specs.Reached.{IsReach, with_reach}
use Rattle.lf_weights.specs.Weights.{AreReached, weight_of, weight_reached}
use Rattle.lf_worlds.specs.Measure.{AreReaches, selectors_at, selectors_tried}
use Rattle.lf_worlds.specs.views.RuleGraph.{rule_edges}
use Rattle.lf_worlds.proofs.Measured.{counts_at}
use Rattle.lf_worlds.proofs.RuleGraph.{leads_from, leads_to}

module _ (rules : List RuleTree) (i : ℕ) (found : List ℕ) where
  abbrev pub AreMembers : Type 0
  AreMembers = (of : RuleTree) → slice_get rules i ≡ Some of → (k : ℕ) → Contains found k ↔ ((r : RuleTree) × (slice_get rules k ≡ Some r) × Reaches rules of.expr r)

  pub is_reach : AreMembers → AreAscending found → (r : RuleTree) → slice_get rules i ≡ Some r → IsReach rules r.expr found
  is_reach members ascending r at = record { ascending = ascending; members = members r at }

-- ---- a rule and its reach ascend

pub tail_ascends : (x : ℕ) (xs : List ℕ) → AreAscending (x ∷ xs) → AreAscending xs
tail_ascends x xs ascending k l less most = ascending (suc k) (suc l) (omega (arith, less)) (omega (arith, most))

pub less_behind : (x : ℕ) (xs : List ℕ) → AreAscending (x ∷ xs) → (y : ℕ) → Contains xs y → x < y
less_behind x xs ascending y c =
    let step = ascending 0 (suc c.0) (omega arith) (omega (arith, c.1)) in
    omega (arith, step, get_or_default xs c.0 0 y c.1, c.2)

ascends_behind : (x : ℕ) (xs : List ℕ) → AreAscending xs → ((y : ℕ) → Contains xs y → x < y) → AreAscending (x ∷ xs)
ascends_behind x xs ascending less zero zero lt most = absurd (omega (arith, lt))
ascends_behind x xs ascending less zero (suc l) lt most = less (get_or xs l 0) (Contains-get_or xs l 0 (omega (arith, most)))
ascends_behind x xs ascending less (suc k) zero lt most = absurd (omega (arith, lt))
ascends_behind x xs ascending less (suc k) (suc l) lt most = ascending k l (omega (arith, lt)) (omega (arith, most))

filter_ascends : (test : ℕ → Bool) (xs : List ℕ) → AreAscending xs → AreAscending (filter test xs)
filter_ascends test [] ascending = ascending
filter_ascends test (x ∷ xs) ascending = by (test x) (filter_ascends test xs (tail_ascends x xs ascending))
  where
    by : (b : Bool) → AreAscending (filter test xs) → AreAscending (cond b (x ∷ filter test xs) (filter test xs))
    by true rest = ascends_behind x (filter test xs) rest (λ y c. less_behind x xs ascending y (of_filter test xs y c).0)
    by false rest = rest

both_ascend : (xs ys : List ℕ) → AreAscending xs → AreAscending ys → ((x y : ℕ) → Contains xs x → Contains ys y → x < y) → AreAscending (xs ++ ys)
both_ascend [] ys one other less = other
both_ascend (x ∷ xs) ys one other less =
    ascends_behind x (xs ++ ys) (both_ascend xs ys (tail_ascends x xs one) other (λ a b c d. less a b (behind x xs a c) d)) (λ y c. elim (Contains-append_cases xs ys y c) [
      | inl d ↦ less_behind x xs one y d
      | inr d ↦ less x y (here x xs) d
    ])

module _ (i : ℕ) (reach : List ℕ) where
  abbrev before : List ℕ
  before = filter (λ k. nat_lt k i) reach

  abbrev later : List ℕ
  later = filter (λ k. nat_lt i k) reach

  is_before : (k : ℕ) → Contains before k → k < i
  is_before k c = ltb-true k i (of_filter (λ j. nat_lt j i) reach k c).1

  is_later : (k : ℕ) → Contains later k → i < k
  is_later k c = ltb-true i k (of_filter (λ j. nat_lt i j) reach k c).1

  pub with_ascends : AreAscending reach → AreAscending (with_reach i reach)
  with_ascends ascending =
      both_ascend before (i ∷ later) (filter_ascends (λ k. nat_lt k i) reach ascending) (ascends_behind i later (filter_ascends (λ k. nat_lt i k) reach ascending) is_later)
      (λ x y c d. let less = is_before x c in elim (first_or_behind i later y d) [ inl same ↦ omega (arith, less, same) | inr e ↦ let more = is_later y e in omega (arith, less, more) ])

  pub with_members : (k : ℕ) → Contains (with_reach i reach) k → (i ≡ k) ⊎ Contains reach k
  with_members k c = elim (Contains-append_cases before (i ∷ later) k c) [
    | inl d ↦ inr (of_filter (λ j. nat_lt j i) reach k d).0
    | inr d ↦ elim (first_or_behind i later k d) [ inl same ↦ inl same | inr e ↦ inr (of_filter (λ j. nat_lt i j) reach k e).0 ]
  ]

  pub with_itself : Contains (with_reach i reach) i
  with_itself = Contains-append_right before (i ∷ later) i (here i later)

  pub with_all : (k : ℕ) → Contains reach k → Contains (with_reach i reach) k
  with_all k c = elim (cases_lt k i) [
    | inl less ↦ Contains-append_left before (i ∷ later) k (in_filter (λ j. nat_lt j i) reach k c (lt-ltb k i less))
    | inr most ↦ elim (cases_lt i k) [
      | inl more ↦ Contains-append_right before (i ∷ later) k (behind i later k (in_filter (λ j. nat_lt i j) reach k c (lt-ltb i k more)))
      | inr least ↦ let same : i ≡ k = omega (arith, most, least) in subst (Contains (with_reach i reach)) same with_itself
    ]
  ]

-- ---- and it is what the graph of rules leads to

module _ (rules : List RuleTree) (reach : ℕ → List ℕ) (are : AreReaches rules reach) where
  pub reached_are : (s : Sources) → IsSourcesOf rules s → AreReached (rule_edges s) (length s.selected) (λ i. with_reach i (reach i))
  reached_are s is i less =
      let count = selected_count rules s is in
      let r = some_at rules i (omega (arith, less, count)) in
      let of = are i r.0 r.1 in
      record {
        ascending = with_ascends i (reach i) of.ascending;
        members = λ k. (
          λ c. elim (with_members i (reach i) k c) [
            | inl same ↦ (omega (arith, less, same), subst (Leads (rule_edges s) i) same nowhere)
            | inr there ↦
                let q = (of.members k).0 there in
                let within = slice_get_within rules k q.0 q.1 in
                (omega (arith, within, count), leads_from rules s is i k r.0 q.0 r.1 q.1 q.2)
          ],
          λ d. elim (leads_to rules s is i k r.0 r.1 d.0 d.1) [
            | inl same ↦ subst (Contains (with_reach i (reach i))) same (with_itself i (reach i))
            | inr q ↦ with_all i (reach i) k ((of.members k).1 q)
          ],
        );
      }

  pub tried_is : (counts : List ℕ) → counts ≡ map (λ (r : RuleTree). selector_total r.expr) rules → weight_reached counts (λ i. with_reach i (reach i)) ≡ selectors_tried rules reach
  tried_is counts is =
      let total : RuleTree → ℕ = λ r. selector_total r.expr in
      let of : ℕ → ℕ = λ i. weight_of (map total rules) (with_reach i (reach i)) in
      ap (λ (l : List ℕ). weight_reached l (λ i. with_reach i (reach i))) is
      ∙ ap (λ (n : ℕ). sum_by of (range_with_len 0 n)) (length-map rules total)
      ∙ same_sums of (λ i. selectors_at rules (with_reach i (reach i))) (range_with_len 0 (length rules)) (λ i there. sym (counts_at total rules (with_reach i (reach i))))
