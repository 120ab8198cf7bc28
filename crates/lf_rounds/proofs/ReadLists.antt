-- Lists of the numbers that rules record and read.
use Rattle.std.proofs.Common.{◌≡◌, ℕ, ◌+◌, ◌<◌, ◌≤◌, Bool, true, false, cond, nat_lt, List, [], ◌∷◌, ◌++◌, length, get_or, Option, Some, None, inl, inr, refl, sym, ◌∙◌, ap, subst, arith}
use Rattle.std.specs.Prelude.{slice_get}
use Rattle.std.specs.List.{Contains}
use Rattle.std.proofs.Math.Seq.{get_or-append_seam}
use Rattle.std.proofs.lemmas.Bool.{cases_lt, lt-ltb, ltb-true}
use Rattle.std.proofs.lemmas.List.{get_or-map, get_or_append_left, length-map}
use Rattle.std.proofs.lemmas.Option.{get_or_from_slice_get, slice_get_within}
use Rattle.lf_ast.specs.Labels.{Bytes}
use Rattle.lf_ast.specs.Rules.{RuleTree}
use Rattle.lf_deps.specs.Reading.{selectors}
use Rattle.lf_deps.specs.views.Sources.{IsSourcesOf, Sources}
use Rattle.lf_flow.specs.views.Reading.{AreSelected, numbers_selected}
use Rattle.lf_flow.proofs.ReadNumbers.{read_numbers, selected_within}
use Rattle.lf_laws.proofs.Members.{of_flat_map}
use Rattle.lf_laws.proofs.Slices.{one_at}
use Rattle.lf_semantics.specs.ClassRows.{Sets}
use Rattle.lf_semantics.specs.Environments.{recorded_names}
use Rattle.lf_semantics.specs.Listing.{place}
use Rattle.lf_semantics.specs.RowTable.{Environment}
use Rattle.lf_rounds.specs.Tasks.{AreReadBy, AreReads}
use Rattle.lf_rounds.specs.views.Reading.{AreEachSelected}

-- the number of the name of one rule more
module _ (rules : List RuleTree) (recorded : List Bytes) (all : List ℕ) (k n : ℕ) (rule : RuleTree) (len : length all ≡ k) (there : slice_get rules k ≡ Some rule) (placed : rule.alert ≡ false → n ≡ place recorded rule.name)
    (before : (number : ℕ) (r : RuleTree) → number < k → slice_get rules number ≡ Some r → r.alert ≡ false → get_or all number 0 ≡ place recorded r.name) where
  pub placed_more : (number : ℕ) (r : RuleTree) → number < k + 1 → slice_get rules number ≡ Some r → r.alert ≡ false → get_or (all ++ n ∷ []) number 0 ≡ place recorded r.name
  placed_more number r less at e =
      elim (cases_lt number k) [
        | inl b ↦ get_or_append_left all (n ∷ []) 0 number (omega (arith, b, len)) ∙ before number r b at e
        | inr b ↦ (let end : number ≡ length all = omega (arith, b, less, len) in
            let same : rule ≡ r = one_at rules k rule r there (ap (slice_get rules) (sym (end ∙ len)) ∙ at) in
            let Q : RuleTree → Type 0 = λ x. (x.alert ≡ false → n ≡ place recorded x.name) in
            ap (λ j. get_or (all ++ n ∷ []) j 0) end ∙ get_or-append_seam all n [] 0 ∙ subst Q same placed e)
      ]

-- what a rule reads is what its selectors select
pub are_read : (rules : List RuleTree) (r : RuleTree) (numbers : List ℕ) → AreSelected (recorded_names rules) (selectors r.expr) numbers → AreReadBy rules r numbers
are_read rules r numbers is = record {
  ascend = is.ascend;
  within = λ k c. (let s = of_flat_map (numbers_selected (recorded_names rules)) (selectors r.expr) k ((is.same k).0 c) in selected_within (recorded_names rules) s.0 k s.2);
  all = λ env same k reads.
      let P : List Bytes → Type 0 = λ names. AreSelected names (selectors r.expr) numbers in
      (read_numbers env r.expr numbers (subst P (sym same) is) k).1 reads;
}

-- the numbers of one list of selectors more
module _ (names : List Bytes) (selected : List (List (Option Bytes))) (all : List (List ℕ)) (k : ℕ) (numbers : List ℕ) (len : length all ≡ k) (is : AreSelected names (get_or selected k []) numbers)
    (before : (number : ℕ) → number < k → AreSelected names (get_or selected number []) (get_or all number [])) where
  pub selected_more : (number : ℕ) → number < k + 1 → AreSelected names (get_or selected number []) (get_or (all ++ numbers ∷ []) number [])
  selected_more number less =
      let P : List ℕ → Type 0 = λ l. AreSelected names (get_or selected number []) l in
      elim (cases_lt number k) [
        | inl b ↦ subst P (sym (get_or_append_left all (numbers ∷ []) [] number (omega (arith, b, len)))) (before number b)
        | inr b ↦ (let end : number ≡ length all = omega (arith, b, less, len) in
            let Q : ℕ → Type 0 = λ j. AreSelected names (get_or selected j []) (get_or (all ++ numbers ∷ []) j []) in
            let R : List ℕ → Type 0 = λ l. AreSelected names (get_or selected (length all) []) l in
            let S : ℕ → Type 0 = λ j. AreSelected names (get_or selected j []) numbers in
            subst Q (sym end) (subst R (sym (get_or-append_seam all numbers [] [])) (subst S (sym len) is)))
      ]

pub all_read_by : (rules : List RuleTree) (s : Sources) (all : List (List ℕ)) → IsSourcesOf rules s → AreEachSelected s.names s.selected all → AreReads rules all
all_read_by rules s all is has = record {
  count = has.count ∙ long;
  each = λ number r at e.
      (let h : number < length rules = slice_get_within rules number r at in
      let found : get_or s.selected number [] ≡ selectors r.expr = ap (λ l. get_or l number []) is.selected ∙ get_or-map of rules number r [] h ∙ ap of (get_or_from_slice_get rules number r r at) in
      let P : List Bytes × List (Option Bytes) → Type 0 = λ x. AreSelected x.0 x.1 (get_or all number []) in
      are_read rules r (get_or all number []) (subst P (λ i. (is.names i, found i)) (has.each number (omega (arith, h, long)))));
}
  where
    of : RuleTree → List (Option Bytes)
    of r = selectors r.expr

    long : length s.selected ≡ length rules
    long = ap length is.selected ∙ length-map rules of
