-- What is answered for a rule is one: its findings, with their numbers.
use Rattle.std.proofs.Common.{◌≡◌, ℕ, zero, suc, List, [], ◌∷◌, Option, Some, codes, refl, sym, ap, ap₂, ◌∙◌, subst, arith}
use Rattle.std.proofs.lemmas.List.{append_cancel_right}
use Rattle.std.proofs.lemmas.List.Elements.{All-head, All-tail}
use Rattle.std.specs.Prelude.{slice_index_or}
use Rattle.lf_ast.specs.Labels.{Bytes}
use Rattle.lf_ast.specs.Rules.{RuleTree}
use Rattle.lf_ast.specs.declared.verdict.Finding.{Finding as Row}
use Rattle.lf_semantics.specs.Listing.{Listing}
use Rattle.lf_semantics.specs.RowTable.{Environment}
use Rattle.lf_checks.specs.Files.{File}
use Rattle.lf_checks.specs.Finding.{Check, AlertComparison, AlertTemplate, RuleDuplicate, RuleDependency, PromqlRegexp, MatchLabel, ExprEmpty, ExprType, RuleLabel, Finding}
use Rattle.lf_checks.specs.Findings.{AreFindingsIn}
use Rattle.lf_checks.specs.Numbers.{HasNumbers, NamesOther, CaseSays}
use Rattle.lf_checks.specs.PromqlRegexp.{says_anchored, says_plain}
use Rattle.lf_checks.specs.RuleDependency.{says_cyclic, says_unrecorded}
use Rattle.lf_checks.specs.RuleDuplicate.{IsFirstAt}
use Rattle.lf_checks.specs.views.Shown.{AreNumbered, all_shown, shown}
use Rattle.lf_checks.proofs.DuplicateLaws.{not_apart}
use Rattle.lf_checks.proofs.OneList.{one_list_in}
use Rattle.lf_checks.proofs.TrueFindings.{last_behind, last_of, replaced_is_not_removed, same_label, unreadable_names_none}

-- ---- texts of two cases differ

end_of_unrecorded : (name : Bytes) → last_of 0 (says_unrecorded name) ≡ 101
end_of_unrecorded name = last_behind 0 32 name (codes "is recorded by no accepted rule")

end_of_cyclic : (name : Bytes) → last_of 0 (says_cyclic name) ≡ 103
end_of_cyclic name = last_behind 0 32 name (codes "is read in its own making")

unrecorded_is_not_cyclic : (name other : Bytes) → says_unrecorded name ≡ says_cyclic other → ⊥
unrecorded_is_not_cyclic name other e = let clash : 101 ≡ 103 = sym (end_of_unrecorded name) ∙ ap (last_of 0) e ∙ end_of_cyclic other in omega (arith, clash)

plain_is_not_anchored : says_plain ≡ says_anchored → ⊥
plain_is_not_anchored e = let clash : 111 ≡ 97 = ap (λ (t : Bytes). slice_index_or t 15 0) e in omega (arith, clash)

-- the text of a check tells the case and what it is about
pub same_case : (c : Check) (k m : ℕ) (l n text : Bytes) → CaseSays c k l text → CaseSays c m n text → (k ≡ m) × (l ≡ n)
same_case AlertComparison zero zero l n text h g = (refl, h.0 ∙ sym g.0)
same_case AlertComparison zero (suc m) l n text h g = absurd g
same_case AlertComparison (suc k) m l n text h g = absurd h
same_case AlertTemplate zero zero l n text h g = (refl, same_label (codes " is never on the alert's sample") l n (sym h ∙ g))
same_case AlertTemplate zero (suc zero) l n text h g = absurd (unreadable_names_none l (sym g.1 ∙ h))
same_case AlertTemplate zero (suc (suc m)) l n text h g = absurd g
same_case AlertTemplate (suc zero) zero l n text h g = absurd (unreadable_names_none n (sym h.1 ∙ g))
same_case AlertTemplate (suc zero) (suc zero) l n text h g = (refl, h.0 ∙ sym g.0)
same_case AlertTemplate (suc zero) (suc (suc m)) l n text h g = absurd g
same_case AlertTemplate (suc (suc k)) m l n text h g = absurd h
same_case RuleDuplicate zero zero l n text h g = (refl, h.0 ∙ sym g.0)
same_case RuleDuplicate zero (suc m) l n text h g = absurd g
same_case RuleDuplicate (suc k) m l n text h g = absurd h
same_case RuleDependency zero zero l n text h g = (refl, append_cancel_right l n (codes " is recorded by no accepted rule") (sym h ∙ g))
same_case RuleDependency zero (suc zero) l n text h g = absurd (unrecorded_is_not_cyclic l n (sym h ∙ g))
same_case RuleDependency zero (suc (suc m)) l n text h g = absurd g
same_case RuleDependency (suc zero) zero l n text h g = absurd (unrecorded_is_not_cyclic n l (sym g ∙ h))
same_case RuleDependency (suc zero) (suc zero) l n text h g = (refl, append_cancel_right l n (codes " is read in its own making") (sym h ∙ g))
same_case RuleDependency (suc zero) (suc (suc m)) l n text h g = absurd g
same_case RuleDependency (suc (suc k)) m l n text h g = absurd h
same_case PromqlRegexp zero zero l n text h g = (refl, h.0 ∙ sym g.0)
same_case PromqlRegexp zero (suc zero) l n text h g = absurd (plain_is_not_anchored (sym h.1 ∙ g.1))
same_case PromqlRegexp zero (suc (suc m)) l n text h g = absurd g
same_case PromqlRegexp (suc zero) zero l n text h g = absurd (plain_is_not_anchored (sym g.1 ∙ h.1))
same_case PromqlRegexp (suc zero) (suc zero) l n text h g = (refl, h.0 ∙ sym g.0)
same_case PromqlRegexp (suc zero) (suc (suc m)) l n text h g = absurd g
same_case PromqlRegexp (suc (suc k)) m l n text h g = absurd h
same_case MatchLabel zero zero l n text h g = (refl, same_label (codes " is never on the operand") l n (sym h ∙ g))
same_case MatchLabel zero (suc m) l n text h g = absurd g
same_case MatchLabel (suc k) m l n text h g = absurd h
same_case ExprEmpty zero zero l n text h g = (refl, h.0 ∙ sym g.0)
same_case ExprEmpty zero (suc m) l n text h g = absurd g
same_case ExprEmpty (suc k) m l n text h g = absurd h
same_case ExprType zero zero l n text h g = (refl, h.0 ∙ sym g.0)
same_case ExprType zero (suc m) l n text h g = absurd g
same_case ExprType (suc k) m l n text h g = absurd h
same_case RuleLabel zero zero l n text h g = (refl, same_label (codes " replaces one that each sample has") l n (sym h ∙ g))
same_case RuleLabel zero (suc zero) l n text h g = absurd (replaced_is_not_removed l n (sym h ∙ g))
same_case RuleLabel zero (suc (suc m)) l n text h g = absurd g
same_case RuleLabel (suc zero) zero l n text h g = absurd (replaced_is_not_removed n l (sym g ∙ h))
same_case RuleLabel (suc zero) (suc zero) l n text h g = (refl, same_label (codes " is removed but on no sample") l n (sym h ∙ g))
same_case RuleLabel (suc zero) (suc (suc m)) l n text h g = absurd g
same_case RuleLabel (suc (suc k)) m l n text h g = absurd h

-- ---- a finding has one answer

module _ (rules : List RuleTree) (i : ℕ) where
  same_first : (r q s z : RuleTree) (j k : ℕ) → r ≡ q → IsFirstAt rules i r j s → IsFirstAt rules i q k z → j ≡ k
  same_first r q s z j k e (before, at, same, none) h =
      let P : RuleTree → Type 0 = λ x. IsFirstAt rules i x k z in
      let also = subst P (sym e) h in
      not_apart j k (λ less. also.3 j s less at same) (λ less. none k z less also.1 also.2)

  same_named : (c : Check) (o p : Option ℕ) → NamesOther rules i c o → NamesOther rules i c p → o ≡ p
  same_named RuleDuplicate o p (r, s, j, at, first, e) (q, z, k, there, second, d) =
      let both : Some r ≡ Some q = sym at ∙ there in
      let rule : r ≡ q = cc in
      e ∙ ap (λ (n : ℕ). Some n) (same_first r q s z j k rule first second) ∙ sym d
  same_named AlertComparison o p h g = h ∙ sym g
  same_named AlertTemplate o p h g = h ∙ sym g
  same_named RuleDependency o p h g = h ∙ sym g
  same_named PromqlRegexp o p h g = h ∙ sym g
  same_named MatchLabel o p h g = h ∙ sym g
  same_named ExprEmpty o p h g = h ∙ sym g
  same_named ExprType o p h g = h ∙ sym g
  same_named RuleLabel o p h g = h ∙ sym g

  same_parts : (a b : Row) → a.check ≡ b.check → a.case ≡ b.case → a.span ≡ b.span → a.label ≡ b.label → a.other ≡ b.other → a ≡ b
  same_parts a b check case span label other x = record { check = check x; case = case x; span = span x; label = label x; other = other x }

  pub one_numbered : (f : Finding) (a b : Row) → HasNumbers rules i f a → HasNumbers rules i f b → a ≡ b
  one_numbered f a b h g =
      let said = same_case f.check a.case b.case a.label b.label f.text h.case g.case in
      same_parts a b (h.check ∙ sym g.check) said.0 (h.span ∙ sym g.span) said.1 (same_named f.check a.other b.other h.other g.other)

module _ (files : List File) (rules : List RuleTree) (i : ℕ) where
  abbrev IsNumbered : Row → Type 0
  IsNumbered f = HasNumbers rules i (shown files rules f) f

  same_rows : (found other : List Row) → all_shown files rules found ≡ all_shown files rules other → AreNumbered files rules i found → AreNumbered files rules i other → found ≡ other
  same_rows [] [] e h g = refl
  same_rows [] (b ∷ other) e h g = absurd (let clash : [] ≡ shown files rules b ∷ all_shown files rules other = e in cc)
  same_rows (a ∷ found) [] e h g = absurd (let clash : shown files rules a ∷ all_shown files rules found ≡ [] = e in cc)
  same_rows (a ∷ found) (b ∷ other) e h g =
      let both : shown files rules a ∷ all_shown files rules found ≡ shown files rules b ∷ all_shown files rules other = e in
      let head : shown files rules a ≡ shown files rules b = cc in
      let behind : all_shown files rules found ≡ all_shown files rules other = cc in
      let first : a ≡ b = one_numbered rules i (shown files rules a) a b (All-head IsNumbered a found h) (subst (λ (f : Finding). HasNumbers rules i f b) (sym head) (All-head IsNumbered b other g)) in
      ap₂ (λ (x : Row) (l : List Row). x ∷ l) first (same_rows found other behind (All-tail IsNumbered a found h) (All-tail IsNumbered b other g))

  -- two answers that tell the findings of a rule, with their numbers, are one
  pub one_answer : (u : Listing) (env : Environment) (found other : List Row) → AreFindingsIn files u rules env i (all_shown files rules found) → AreFindingsIn files u rules env i (all_shown files rules other) → AreNumbered files rules i found → AreNumbered files rules i other → found ≡ other
  one_answer u env found other one another h g = same_rows found other (one_list_in files u rules env i (all_shown files rules found) (all_shown files rules other) one another) h g
