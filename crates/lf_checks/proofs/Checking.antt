-- What the checks find of a rule, together.
use Rattle.std.proofs.Common.{◌≡◌, ◌<◌, ◌≤◌, ◌⊎◌, inl, inr, ℕ, List, ◌++◌, Some, sym, ap, ◌∙◌, subst, arith}
use Rattle.std.proofs.lemmas.Bool.{cases_lt}
use Rattle.std.proofs.lemmas.List.Elements.{All-append, All-contains, All-weaker}
use Rattle.std.specs.List.{All, Contains}
use Rattle.std.specs.Prelude.{slice_get}
use Rattle.lf_laws.specs.Ascending.{IsInOrder}
use Rattle.lf_ast.specs.Labels.{Bytes}
use Rattle.lf_ast.specs.Rules.{RuleTree}
use Rattle.lf_ast.specs.declared.verdict.Finding.{Finding as Row}
use Rattle.lf_semantics.specs.ClassRows.{Sets}
use Rattle.lf_semantics.specs.Environments.{rule_row}
use Rattle.lf_semantics.specs.Listing.{Listing}
use Rattle.lf_semantics.specs.RowTable.{Environment}
use Rattle.lf_checks.specs.Files.{File, IsNamedAt, place_in}
use Rattle.lf_checks.specs.Finding.{Check, AlertComparison, AlertTemplate, RuleDuplicate, RuleDependency, PromqlRegexp, MatchLabel, ExprEmpty, ExprType, RuleLabel, Finding, finding, finding_cmp}
use Rattle.lf_checks.specs.Findings.{AreFindingsIn, FindsIn, IsFindingIn}
use Rattle.lf_checks.specs.RuleDuplicate as rule_duplicate
use Rattle.lf_checks.specs.views.Checked.{IsOfParts, IsOfRule}
use Rattle.lf_checks.specs.views.InOrder.{OneDuplicate}
use Rattle.lf_checks.specs.Numbers.{HasNumbers}
use Rattle.lf_checks.specs.views.Shown.{AreNumbered, Lists, ListsAlone, NumberedAlone, all_shown, shown}
use Rattle.lf_checks.proofs.Lists.{lists_both, lists_same, numbered_both}

module _ (files : List File) (u : Listing) (rules : List RuleTree) (env : Environment) (i : ℕ) (r : RuleTree) (at : slice_get rules i ≡ Some r) where
  abbrev Together : Finding → Type 0
  Together f = (IsOfRule u (rule_row u env r) r f ⊎ IsOfParts u env rules r f) ⊎ rule_duplicate.IsFound files rules i r f

  to : (f : Finding) → Together f → IsFindingIn files u rules env i f
  to f (inl (inl (inl (inl (inl (inl h)))))) = (r, at, AlertComparison, h)
  to f (inl (inl (inl (inl (inl (inr h)))))) = (r, at, AlertTemplate, h)
  to f (inl (inl (inl (inl (inr h))))) = (r, at, ExprEmpty, h)
  to f (inl (inl (inl (inr h)))) = (r, at, ExprType, h)
  to f (inl (inl (inr h))) = (r, at, RuleLabel, h)
  to f (inl (inr (inl (inl h)))) = (r, at, RuleDependency, h)
  to f (inl (inr (inl (inr h)))) = (r, at, PromqlRegexp, h)
  to f (inl (inr (inr h))) = (r, at, MatchLabel, h)
  to f (inr h) = (r, at, RuleDuplicate, h)

  by_check : (f : Finding) (check : Check) → FindsIn files u rules env check i r f → Together f
  by_check f AlertComparison h = inl (inl (inl (inl (inl (inl h)))))
  by_check f AlertTemplate h = inl (inl (inl (inl (inl (inr h)))))
  by_check f RuleDuplicate h = inr h
  by_check f RuleDependency h = inl (inr (inl (inl h)))
  by_check f PromqlRegexp h = inl (inr (inl (inr h)))
  by_check f MatchLabel h = inl (inr (inr h))
  by_check f ExprEmpty h = inl (inl (inl (inl (inr h))))
  by_check f ExprType h = inl (inl (inl (inr h)))
  by_check f RuleLabel h = inl (inl (inr h))

  from : (f : Finding) → IsFindingIn files u rules env i f → Together f
  from f (s, there, check, h) =
      let e : Some s ≡ Some r = sym there ∙ at in
      let same : s ≡ r = cc in
      by_check f check (subst (λ (x : RuleTree). FindsIn files u rules env check i x f) same h)

  pub of_all : (found : List Row) → Lists files rules (λ f. (IsOfRule u (rule_row u env r) r f ⊎ IsOfParts u env rules r f) ⊎ rule_duplicate.IsFound files rules i r f) found
      → Lists files rules (IsFindingIn files u rules env i) found
  of_all found h = lists_same files rules Together (IsFindingIn files u rules env i) found to from h

  pub of_three : (row : Sets) → row ≡ rule_row u env r → (own parts same two all : List Row) → ListsAlone (IsOfRule u row r) own → ListsAlone (IsOfParts u env rules r) parts
      → Lists files rules (rule_duplicate.IsFound files rules i r) same → two ≡ own ++ parts → all ≡ two ++ same → Lists files rules (IsFindingIn files u rules env i) all
  of_three row is own parts same two all a b c e f =
      let R = rule_row u env r in
      let own_lists : Lists files rules (IsOfRule u R r) own = subst (λ (w : Sets). Lists files rules (IsOfRule u w r) own) is (a.lists files rules) in
      let front = lists_both files rules (IsOfRule u R r) (IsOfParts u env rules r) own parts two own_lists (b.lists files rules) e in
      of_all all (lists_both files rules (λ f. IsOfRule u R r f ⊎ IsOfParts u env rules r f) (rule_duplicate.IsFound files rules i r) two same all front c f)

-- what is found says at most once where the same rule stands
module _ (files : List File) (rules : List RuleTree) (i : ℕ) (r : RuleTree) where
  one_first : (s t : RuleTree) → rule_duplicate.IsFirstSame rules i r s → rule_duplicate.IsFirstSame rules i r t → s ≡ t
  one_first s t (j, (before, at, same, none)) (k, (below, there, too, others)) = by (cases_lt j k) (cases_lt k j)
    where
      by : (j < k) ⊎ (k ≤ j) → (k < j) ⊎ (j ≤ k) → s ≡ t
      by (inl h) _ = absurd (others j s h at same)
      by (inr g) (inl h) = absurd (none k t h there too)
      by (inr g) (inr h) =
          let e : j ≡ k = omega (arith, g, h) in
          let both : Some s ≡ Some t = sym at ∙ ap (slice_get rules) e ∙ there in
          (let same_rule : Some s ≡ Some t = both in cc)

  one_place : (s : RuleTree) (p q : Bytes) → IsNamedAt files s p → IsNamedAt files s q → p ≡ q
  one_place s p q (file, at, is) (other, there, too) =
      let both : Some file ≡ Some other = sym at ∙ there in
      let same : file ≡ other = cc in
      is ∙ ap (λ (x : File). place_in x s.name_span.start) same ∙ sym too

  pub one_found : (f g : Finding) → rule_duplicate.IsFound files rules i r f → rule_duplicate.IsFound files rules i r g → f ≡ g
  one_found f g (s, p, first, at, is) (t, q, also, there, too) =
      let same : s ≡ t = one_first s t first also in
      let place : p ≡ q = one_place s p q at (subst (λ (x : RuleTree). IsNamedAt files x q) (sym same) there) in
      is ∙ ap (λ (x : Bytes). finding RuleDuplicate r.name_span (rule_duplicate.says_where x)) place ∙ sym too

-- of the findings of a rule one at most says so
module _ (files : List File) (u : Listing) (rules : List RuleTree) (env : Environment) (i : ℕ) where
  duplicate_by : (r : RuleTree) (f : Finding) (check : Check) → FindsIn files u rules env check i r f → f.check ≡ RuleDuplicate → rule_duplicate.IsFound files rules i r f
  duplicate_by r f RuleDuplicate h e = h
  duplicate_by r f AlertComparison h e = absurd (let clash : AlertComparison ≡ RuleDuplicate = sym (ap (λ (x : Finding). x.check) h.2) ∙ e in cc)
  duplicate_by r f AlertTemplate (inl h) e = absurd (let clash : AlertTemplate ≡ RuleDuplicate = sym (ap (λ (x : Finding). x.check) h.5) ∙ e in cc)
  duplicate_by r f AlertTemplate (inr h) e = absurd (let clash : AlertTemplate ≡ RuleDuplicate = sym (ap (λ (x : Finding). x.check) h.4) ∙ e in cc)
  duplicate_by r f RuleDependency (inl h) e = absurd (let clash : RuleDependency ≡ RuleDuplicate = sym (ap (λ (x : Finding). x.check) h.5) ∙ e in cc)
  duplicate_by r f RuleDependency (inr h) e = absurd (let clash : RuleDependency ≡ RuleDuplicate = sym (ap (λ (x : Finding). x.check) h.4) ∙ e in cc)
  duplicate_by r f PromqlRegexp (inl h) e = absurd (let clash : PromqlRegexp ≡ RuleDuplicate = sym (ap (λ (x : Finding). x.check) h.3) ∙ e in cc)
  duplicate_by r f PromqlRegexp (inr h) e = absurd (let clash : PromqlRegexp ≡ RuleDuplicate = sym (ap (λ (x : Finding). x.check) h.3) ∙ e in cc)
  duplicate_by r f MatchLabel h e = absurd (let clash : MatchLabel ≡ RuleDuplicate = sym (ap (λ (x : Finding). x.check) h.6) ∙ e in cc)
  duplicate_by r f ExprEmpty h e = absurd (let clash : ExprEmpty ≡ RuleDuplicate = sym (ap (λ (x : Finding). x.check) h.2) ∙ e in cc)
  duplicate_by r f ExprType h e = absurd (let clash : ExprType ≡ RuleDuplicate = sym (ap (λ (x : Finding). x.check) h.1) ∙ e in cc)
  duplicate_by r f RuleLabel (inl h) e = absurd (let clash : RuleLabel ≡ RuleDuplicate = sym (ap (λ (x : Finding). x.check) h.4) ∙ e in cc)
  duplicate_by r f RuleLabel (inr h) e = absurd (let clash : RuleLabel ≡ RuleDuplicate = sym (ap (λ (x : Finding). x.check) h.4) ∙ e in cc)

  one_duplicate : (found : List Row) → Lists files rules (IsFindingIn files u rules env i) found → OneDuplicate (all_shown files rules found)
  one_duplicate found lists f g cf cg ef eg =
      let h = lists.each f cf in
      let k = lists.each g cg in
      let rules_same : Some h.0 ≡ Some k.0 = sym h.1 ∙ k.1 in
      let same : h.0 ≡ k.0 = cc in
      one_found files rules i h.0 f g (duplicate_by h.0 f h.2 h.3 ef) (duplicate_by h.0 g k.2 (subst (λ (x : RuleTree). FindsIn files u rules env k.2 i x g) (sym same) k.3) eg)

  -- the list of the findings is what was found, in order
  pub are_findings : (found sorted : List Row) → Lists files rules (IsFindingIn files u rules env i) found → (OneDuplicate (all_shown files rules found) → IsInOrder finding_cmp (all_shown files rules found) (all_shown files rules sorted))
      → AreFindingsIn files u rules env i (all_shown files rules sorted)
  are_findings found sorted lists order =
      let put = order (one_duplicate found lists) in
      record { each = λ f c. lists.each f (put.only f c); all = λ f h. put.kept f (lists.all f h); ascending = put.ascending }

-- ---- numbers

module _ (files : List File) (rules : List RuleTree) (i : ℕ) where
  abbrev IsNumbered : Row → Type 0
  IsNumbered f = HasNumbers rules i (shown files rules f) f

  -- what is found has the numbers of what it says
  pub numbered_three : (own parts same two all : List Row) → NumberedAlone own → NumberedAlone parts → AreNumbered files rules i same → two ≡ own ++ parts → all ≡ two ++ same → AreNumbered files rules i all
  numbered_three own parts same two all a b c e f = subst (All IsNumbered) (sym f) (All-append IsNumbered two same (numbered_both own parts two a b e files rules i) c)

  -- so has each list of what was found
  pub given_numbered : (found sorted : List Row) → AreNumbered files rules i found → All (Contains found) sorted → AreNumbered files rules i sorted
  given_numbered found sorted numbered given = All-weaker (Contains found) IsNumbered (λ f c. All-contains IsNumbered found f numbered c) sorted given
