-- The texts that the sides of a match get, label by label.
use Rattle.std.proofs.Common.{◌≡◌, ℕ, Bool, true, false, not, ◌&&◌, ◌||◌, cond, Option, Some, None, Result, Ok, Err, IfOk, refl, sym, ◌∙◌, ap, subst}
use Rattle.std.specs.Prelude.{is_some, option_map}
use Rattle.std.specs.Option.{option_or}
use Rattle.lf_ast.specs.Labels.{Bytes}
use Rattle.lf_ast.specs.declared.expr.Matching.{Matching}
use Rattle.lf_ast.specs.declared.expr.Op.{Op}
use Rattle.lf_semantics.specs.ClassRows.{Sets}
use Rattle.lf_semantics.specs.Grouped.{signs}
use Rattle.lf_semantics.specs.Listing.{Listing}
use Rattle.lf_trials.specs.Candidates.{candidates_in_both, first}
use Rattle.lf_trials.specs.Given.{Given}
use Rattle.lf_trials.specs.Matched.{side, signature_text}
use Rattle.lf_trials.specs.Sides.{drops}
use Rattle.lf_candidates.specs.views.ClassTexts.{IsClass, StandsAt, name_at, text_at}

module _ (u : Listing) (op : Op) (m : Matching) (left right : Sets) (D : Given) (label : ℕ) where
  abbrev name : Bytes
  name = name_at u label

  abbrev common : Option Bytes
  common = first (candidates_in_both u left right name)

  abbrev E : Given
  E = signature_text u op m left right D

  -- what is said of a label, unless it is dropped
  kept : (dropped : Bool) (class : Option ℕ) → dropped ≡ drops op m name → StandsAt u label class D → IsClass u label (cond dropped None class) × (cond (drops op m name) None (D name) ≡ option_map (text_at u label) (cond dropped None class))
  kept true class is stands = (tt, ap (λ (b : Bool). cond b None (D name)) (sym is))
  kept false class is stands = (stands.0, ap (λ (b : Bool). cond b None (D name)) (sym is) ∙ stands.1)

  pub signature_said : (dropped : Bool) (class : Option ℕ) (own : ℕ) → dropped ≡ drops op m name → StandsAt u label class D → cond dropped None class ≡ Some own → StandsAt u label (Some own) E
  signature_said dropped class own is stands e =
      let at = kept dropped class is stands in
      (subst (IsClass u label) e at.0, ap (λ (o : Option Bytes). option_or o common) (at.1 ∙ ap (option_map (text_at u label)) e))

  -- and else what is found
  pub signature_found : {E : Type 0} (dropped : Bool) (class : Option ℕ) (found : Result (Option ℕ) E) → dropped ≡ drops op m name → StandsAt u label class D → cond dropped None class ≡ None
      → IfOk found (IsClass u label) → IfOk found (λ o. option_map (text_at u label) o ≡ common) → IfOk found (λ o. StandsAt u label o (signature_text u op m left right D))
  signature_found dropped class (Ok found) is stands e own common_is =
      let at = kept dropped class is stands in
      (own, ap (λ (o : Option Bytes). option_or o common) (at.1 ∙ ap (option_map (text_at u label)) e) ∙ sym common_is)
  signature_found dropped class (Err error) is stands e own common_is = tt

  -- a side
  pub side_stands : (gives : Bytes → Bool) (class signature : Option ℕ) → StandsAt u label class D → (signs m name ≡ true → StandsAt u label signature E)
      → StandsAt u label (cond (signs m name) signature (cond (gives name) class None)) (side u gives op m left right D)
  side_stands gives class signature stands signed = by (signs m name) refl (gives name) refl
    where
      by : (b : Bool) → signs m name ≡ b → (c : Bool) → gives name ≡ c → StandsAt u label (cond b signature (cond c class None)) (side u gives op m left right D)
      by true is c gives_it = let at = signed is in (at.0, ap (λ (z : Bool). cond z (E name) (cond (gives name) (D name) None)) is ∙ at.1)
      by false is true gives_it = (stands.0, ap (λ (z : Bool). cond z (E name) (cond (gives name) (D name) None)) is ∙ ap (λ (z : Bool). cond z (D name) None) gives_it ∙ stands.1)
      by false is false gives_it = (tt, ap (λ (z : Bool). cond z (E name) (cond (gives name) (D name) None)) is ∙ ap (λ (z : Bool). cond z (D name) None) gives_it)

  pub side_now : (gives : Bytes → Bool) (is_signed given : Bool) (class signature now : Option ℕ) → is_signed ≡ signs m name → given ≡ gives name → now ≡ cond is_signed signature (cond given class None) → StandsAt u label class D
      → (is_signed ≡ true → StandsAt u label signature E) → StandsAt u label now (side u gives op m left right D)
  side_now gives is_signed given class signature now is gives_it made stands signed =
      subst (λ o. StandsAt u label o (side u gives op m left right D)) (sym (made ∙ ap (λ (b : Bool). cond b signature (cond given class None)) is ∙ ap (λ (b : Bool). cond (signs m name) signature (cond b class None)) gives_it))
      (side_stands gives class signature stands (λ e. signed (is ∙ e)))

  -- whether a label of the signature has a text
  pub text_told : (is_signed : Bool) (signature : Option ℕ) → is_signed ≡ signs m name → (is_signed ≡ true → StandsAt u label signature E) → (not (signs m name) || is_some (E name)) ≡ not (is_signed && not (is_some signature))
  text_told true signature is signed = ap (λ (b : Bool). not b || is_some (E name)) (sym is) ∙ ap is_some (signed refl).1 ∙ by signature
    where
      by : (o : Option ℕ) → is_some (option_map (text_at u label) o) ≡ not (not (is_some o))
      by None = refl
      by (Some class) = refl
  text_told false signature is signed = ap (λ (b : Bool). not b || is_some (E name)) (sym is)
