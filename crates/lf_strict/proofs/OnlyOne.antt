-- A one side of one sample, which is found by its signature.
use Rattle.std.proofs.Common.{◌≡◌, inl, inr, ◌++◌, Bool, true, false, cond, List, [], ◌∷◌, Option, Some, None, refl, ap, ap₂, ◌∙◌, subst}
use Rattle.std.specs.List.{Contains, flat_map}
use Rattle.std.specs.Option.{option_map, option_to_list}
use Rattle.std.specs.Ordering.{is_eq}
use Rattle.lf_laws.proofs.Members.{first_or_behind, here, none_in}
use Rattle.lf_ast.specs.Labels.{Labels}
use Rattle.lf_ast.specs.declared.expr.Matching.{Matching}
use Rattle.lf_ast.specs.declared.expr.Op.{Op}
use Rattle.lf_semantics.specs.Texts.{HasTexts}
use Rattle.lf_witness.specs.Ascending.{labels_cmp}
use Rattle.lf_witness.proofs.Decided.{equal_itself, told_same}
use Rattle.lf_strict.specs.views.Paired.{FindsEach, result_of, signature_of, with_found, with_only}

module _ (m : Matching) (t : Labels) where
  -- the sample, where it is asked for by its signature
  abbrev pub only : Labels → Option Labels
  only k = cond (is_eq (labels_cmp k (signature_of m t))) (Some t) None

  pub only_index : HasTexts t → FindsEach m (t ∷ []) only
  only_index full = (
    λ k u found. by k u (is_eq (labels_cmp k (signature_of m t))) refl found,
    λ u c. elim (first_or_behind t [] u c) [
      | inl first ↦ subst (λ z. HasTexts z × (only (signature_of m z) ≡ Some z)) first (full, ap (λ o. cond (is_eq o) (Some t) None) (equal_itself (signature_of m t)))
      | inr later ↦ absurd (none_in u later)
    ],
  )
    where
      by : (k u : Labels) (b : Bool) → is_eq (labels_cmp k (signature_of m t)) ≡ b → cond b (Some t) None ≡ Some u → Contains (t ∷ []) u × (k ≡ signature_of m u)
      by k u true same found = let one : t ≡ u = cc in (subst (Contains (t ∷ [])) one (here t []), told_same k (signature_of m t) same ∙ ap (signature_of m) one)
      by k u false same found = absurd (cc)

  one_gives : (op : Op) (s : Labels) → with_only op m t s ≡ with_found op m only s
  one_gives op s = by (is_eq (labels_cmp (signature_of m s) (signature_of m t)))
    where
      by : (b : Bool) → cond b (result_of m.group op m s t ∷ []) [] ≡ option_to_list (option_map (result_of m.group op m s) (cond b (Some t) None))
      by true = refl
      by false = refl

  pub all_give : (op : Op) (many : List Labels) → flat_map (with_only op m t) many ≡ flat_map (with_found op m only) many
  all_give op [] = refl
  all_give op (s ∷ many) = ap₂ (λ (x y : List Labels). x ++ y) (one_gives op s) (all_give op many)
