-- Findings that are in the order of their keys, each key once, are in their own order.
use Rattle.std.proofs.Common.{◌≡◌, ◌≢◌, ◌≤◌, ℕ, zero, suc, length, arith, Bool, true, false, true≢false, List, [], ◌∷◌, map, Option, Some, None, refl, sym, ap, ◌∙◌, subst}
use Rattle.std.proofs.lemmas.Cmp.{tied_itself}
use Rattle.std.proofs.lemmas.Option.{slice_get_within}
use Rattle.std.proofs.lemmas.List.Elements.{All-contains_itself, All-weaker}
use Rattle.std.specs.Cmp.Lexicographic.{nat_list_cmp_total, slice_cmp}
use Rattle.std.specs.FinMap.{nat_cmp-IsAntisymmetric}
use Rattle.std.specs.List.{All, Contains, dedup}
use Rattle.std.specs.List.Sorted.{IsPermutation, IsSorted}
use Rattle.std.specs.Ordering.{eq_by_cmp, nat_cmp}
use Rattle.std.specs.declared.cmp.Ordering.{Ordering}
use Rattle.std.specs.declared.cmp.Ordering.TheVariants.{Less, Greater, Equal}
use Rattle.lf_laws.specs.Ascending.{IsInOrder}
use Rattle.lf_laws.proofs.Members.{in_map}
use Rattle.lf_base.proofs.KeyedOrder.{given as each_given, in_order as all_in_order}
use Rattle.lf_base.specs.declared.place.Span.{Span}
use Rattle.lf_ast.specs.Labels.{Bytes}
use Rattle.lf_ast.specs.Rules.{RuleTree}
use Rattle.lf_ast.specs.declared.verdict.Finding.{Finding as Row}
use Rattle.lf_checks.specs.Files.{File}
use Rattle.lf_checks.specs.Finding.{Check, AlertComparison, AlertTemplate, RuleDuplicate, RuleDependency, PromqlRegexp, MatchLabel, ExprEmpty, ExprType, RuleLabel, Finding, finding, finding_cmp, rank}
use Rattle.lf_checks.specs.RuleDuplicate.{says_where}
use Rattle.lf_base.specs.declared.keyed.Keyed.{Keyed}
use Rattle.lf_checks.specs.views.Cases.{check_at, said}
use Rattle.lf_base.specs.views.Keyed.{keyed_cmp}
use Rattle.lf_checks.specs.views.InOrder.{OneDuplicate, keyed, row_key}
use Rattle.lf_checks.specs.views.Shown.{all_shown, place_of, shown}
use Rattle.lf_checks.proofs.SomeList.{at_rank, equal_same}

-- ---- the place of a rule has a part in the text of one check alone

abbrev is_duplicate : Check → Bool
is_duplicate RuleDuplicate = true
is_duplicate _ = false

duplicate_is : (c : Check) → is_duplicate c ≡ true → c ≡ RuleDuplicate
duplicate_is AlertComparison e = absurd (true≢false (sym e))
duplicate_is AlertTemplate e = absurd (true≢false (sym e))
duplicate_is RuleDuplicate e = refl
duplicate_is RuleDependency e = absurd (true≢false (sym e))
duplicate_is PromqlRegexp e = absurd (true≢false (sym e))
duplicate_is MatchLabel e = absurd (true≢false (sym e))
duplicate_is ExprEmpty e = absurd (true≢false (sym e))
duplicate_is ExprType e = absurd (true≢false (sym e))
duplicate_is RuleLabel e = absurd (true≢false (sym e))

wherever : (c : Check) (case : ℕ) (label p q : Bytes) → is_duplicate c ≡ false → said c case label p ≡ said c case label q
wherever AlertComparison case label p q e = refl
wherever AlertTemplate zero label p q e = refl
wherever AlertTemplate (suc k) label p q e = refl
wherever RuleDuplicate case label p q e = absurd (true≢false e)
wherever RuleDependency zero label p q e = refl
wherever RuleDependency (suc k) label p q e = refl
wherever PromqlRegexp zero label p q e = refl
wherever PromqlRegexp (suc k) label p q e = refl
wherever MatchLabel case label p q e = refl
wherever ExprEmpty case label p q e = refl
wherever ExprType case label p q e = refl
wherever RuleLabel zero label p q e = refl
wherever RuleLabel (suc k) label p q e = refl

other_ranks : (c d : Check) (x y : Bool) → is_duplicate c ≡ x → is_duplicate d ≡ y → x ≢ y → rank c ≢ rank d
other_ranks c d x y ex ey other e = other (sym ex ∙ ap is_duplicate (sym (at_rank c) ∙ ap check_at e ∙ at_rank d) ∙ ey)

-- of keys with other heads the heads decide
heads_decide : (x y : ℕ) (xs ys zs ws : List ℕ) → x ≢ y → slice_cmp nat_cmp (x ∷ xs) (y ∷ ys) ≡ Less → slice_cmp nat_cmp (x ∷ zs) (y ∷ ws) ≡ Less
heads_decide x y xs ys zs ws other less = by (nat_cmp x y) refl
  where
    by : (o : Ordering) → nat_cmp x y ≡ o → slice_cmp nat_cmp (x ∷ zs) (y ∷ ws) ≡ Less
    by Less e = rw e refl
    by Equal e = absurd (other (nat_cmp-IsAntisymmetric x y e))
    by Greater e = let clash : Greater ≡ Less = (rw e at less) in absurd (let no_way : Greater ≡ Less = clash in cc)

no_place : (o : Option ℕ) → place_of [] [] o ≡ []
no_place None = refl
no_place (Some k) = refl

less_as : (f g h k : Finding) → f ≡ h → g ≡ k → finding_cmp h k ≡ Less → finding_cmp f g ≡ Less
less_as f g h k first second less = subst (λ (x : Finding). finding_cmp x g ≡ Less) (sym first) (subst (λ (y : Finding). finding_cmp h y ≡ Less) (sym second) less)

-- a finding without the place
bare : (a : Row) → is_duplicate (check_at a.check) ≡ true → shown [] [] a ≡ finding RuleDuplicate a.span (says_where [])
bare a e =
    let is = duplicate_is (check_at a.check) e in
    ap (λ (c : Check). finding c a.span (said c a.case a.label (place_of [] [] a.other))) is ∙ ap (λ (p : Bytes). finding RuleDuplicate a.span (says_where p)) (no_place a.other)

module _ (files : List File) (rules : List RuleTree) where
  placeless : (a : Row) → is_duplicate (check_at a.check) ≡ false → shown files rules a ≡ shown [] [] a
  placeless a e = ap (λ (t : Bytes). finding (check_at a.check) a.span t) (wherever (check_at a.check) a.case a.label (place_of files rules a.other) (place_of [] [] a.other) e)

  bare_one : (a b : Row) → is_duplicate (check_at a.check) ≡ true → is_duplicate (check_at b.check) ≡ true → shown files rules a ≡ shown files rules b → shown [] [] a ≡ shown [] [] b
  bare_one a b ea eb e = bare a ea ∙ ap (λ (s : Span). finding RuleDuplicate s (says_where [])) (ap (λ (f : Finding). f.span) e) ∙ sym (bare b eb)

  less_shown : (a b : Row) → (is_duplicate (check_at a.check) ≡ true → is_duplicate (check_at b.check) ≡ true → shown files rules a ≡ shown files rules b) → finding_cmp (shown [] [] a) (shown [] [] b) ≡ Less
      → finding_cmp (shown files rules a) (shown files rules b) ≡ Less
  less_shown a b one less = by (is_duplicate (check_at a.check)) refl (is_duplicate (check_at b.check)) refl
    where
      heads : rank (check_at a.check) ≢ rank (check_at b.check) → finding_cmp (shown files rules a) (shown files rules b) ≡ Less
      heads other = heads_decide (rank (check_at a.check)) (rank (check_at b.check)) (a.span.start ∷ a.span.end ∷ (shown [] [] a).text) (b.span.start ∷ b.span.end ∷ (shown [] [] b).text) (a.span.start ∷ a.span.end ∷ (shown files rules a).text) (b.span.start ∷ b.span.end ∷ (shown files rules b).text) other less

      by : (x : Bool) → is_duplicate (check_at a.check) ≡ x → (y : Bool) → is_duplicate (check_at b.check) ≡ y → finding_cmp (shown files rules a) (shown files rules b) ≡ Less
      by true ea true eb =
          let P : Finding → Type 0 = λ f. finding_cmp (shown [] [] a) f ≡ Less in
          let itself : finding_cmp (shown [] [] a) (shown [] [] a) ≡ Less = subst P (sym (bare_one a b ea eb (one ea eb))) less in
          let tied : Less ≡ Equal = sym itself ∙ tied_itself nat_list_cmp_total (row_key a) in absurd (let clash : Less ≡ Equal = tied in cc)
      by true ea false eb = heads (other_ranks (check_at a.check) (check_at b.check) true false ea eb true≢false)
      by false ea true eb = heads (other_ranks (check_at a.check) (check_at b.check) false true ea eb (λ e. true≢false (sym e)))
      by false ea false eb =
          subst (λ (f : Finding). finding_cmp f (shown files rules b) ≡ Less) (sym (placeless a ea)) (subst (λ (g : Finding). finding_cmp (shown [] [] a) g ≡ Less) (sym (placeless b eb)) less)

  same_shown : (a b : Row) → (is_duplicate (check_at a.check) ≡ true → is_duplicate (check_at b.check) ≡ true → shown files rules a ≡ shown files rules b) → slice_cmp nat_cmp (row_key a) (row_key b) ≡ Equal → shown files rules a ≡ shown files rules b
  same_shown a b one tied = by (is_duplicate (check_at a.check)) refl
    where
      same : shown [] [] a ≡ shown [] [] b
      same = equal_same (shown [] [] a) (shown [] [] b) tied

      checks : is_duplicate (check_at b.check) ≡ is_duplicate (check_at a.check)
      checks = sym (ap (λ (f : Finding). is_duplicate f.check) same)

      by : (x : Bool) → is_duplicate (check_at a.check) ≡ x → shown files rules a ≡ shown files rules b
      by true e = one e (checks ∙ e)
      by false e = placeless a e ∙ same ∙ sym (placeless b (checks ∙ e))

  -- ---- lists

  module _ (found : List Row) (sorted : List (Keyed Row)) (moved : IsPermutation (map keyed found) sorted) (up : IsSorted keyed_cmp sorted) (one : OneDuplicate (all_shown files rules found)) where
    only_one_names : (a b : Row) → Contains found a → Contains found b → is_duplicate (check_at a.check) ≡ true → is_duplicate (check_at b.check) ≡ true → shown files rules a ≡ shown files rules b
    only_one_names a b ca cb ea eb =
        one (shown files rules a) (shown files rules b) (in_map (shown files rules) found a ca) (in_map (shown files rules) found b cb) (duplicate_is (check_at a.check) ea) (duplicate_is (check_at b.check) eb)

    pub in_order : (rs : List (Keyed Row)) → rs ≡ dedup (eq_by_cmp keyed_cmp) sorted → IsInOrder finding_cmp (all_shown files rules found) (all_shown files rules (map (λ (k : Keyed Row). k.item) rs))
    in_order = all_in_order row_key (shown files rules) finding_cmp found sorted moved up (λ a b ca cb. less_shown a b (only_one_names a b ca cb)) (λ a b ca cb. same_shown a b (only_one_names a b ca cb))

-- one value at most is in order
pub few_in_order : {X : Type 0} (cmp : X → X → Ordering) (xs : List X) → length xs ≤ 1 → IsInOrder cmp xs xs
few_in_order {X} cmp xs few = record {
  ascending = λ i j x y less at there. absurd (omega (arith, few, less, slice_get_within xs j y there));
  kept = λ x h. h;
  only = λ x h. h;
}

-- each that is left was found
pub given : (found : List Row) (sorted rs : List (Keyed Row)) → IsPermutation (map keyed found) sorted → rs ≡ dedup (eq_by_cmp keyed_cmp) sorted → All (Contains found) (map (λ (k : Keyed Row). k.item) rs)
given found sorted rs moved is =
    let listed : List Row = map (λ (k : Keyed Row). k.item) rs in
    All-weaker (Contains listed) (Contains found) (each_given row_key (shown [] []) finding_cmp found sorted moved rs is) listed (All-contains_itself listed)
