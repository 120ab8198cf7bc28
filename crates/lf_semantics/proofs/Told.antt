-- What a row tells of the labels of a label set that it represents.
use Rattle.std.proofs.Common.{◌≡◌, ◌≢◌, Bool, true, false, not, eqb, [], refl, sym, ◌∙◌, ap, subst}
use Rattle.std.specs.Str.{bytes_eq}
use Rattle.std.proofs.lemmas.Bool.{true≢false}
use Rattle.lf_ast.specs.Labels.{Bytes, Labels}
use Rattle.lf_semantics.specs.ClassRows.{HoldsText, Represents, Sets, is_live}
use Rattle.lf_semantics.specs.Listing.{Listing, class_of, label_of}
use Rattle.lf_semantics.specs.RowTable.{may_be_absent, may_be_present}
use Rattle.lf_semantics.specs.Texts.{value_of}
use Rattle.lf_semantics.proofs.EffectsRepresent.{has_class_at}
use Rattle.lf_semantics.proofs.Members.{same_true, true_same}
use Rattle.lf_semantics.proofs.Places.{class_of_some}

module _ (u : Listing) (row : Sets) (s : Labels) (represents : Represents u row s) where
  -- the empty row has no label set
  pub not_empty : is_live row ≡ false → ⊥
  not_empty e = true≢false (sym represents.0 ∙ e)

  -- a label whose set lacks the empty text is there
  pub is_present : (name : Bytes) → may_be_absent u row name ≡ false → value_of s name ≢ []
  is_present name e none =
      let P : Bytes → Type 0 = λ t. HoldsText u row name t in
      let held : may_be_absent u row name ≡ true = subst P none (represents.1 name) in
      true≢false (sym held ∙ e)

  -- a label whose set has nothing but the empty text isn't
  pub is_absent : (name : Bytes) → may_be_present u row name ≡ false → value_of s name ≡ []
  is_absent name e = by (bytes_eq (value_of s name) []) refl
    where
      by : (b : Bool) → bytes_eq (value_of s name) [] ≡ b → value_of s name ≡ []
      by true f = true_same (value_of s name) [] f
      by false f =
          let some : value_of s name ≢ [] = λ none. true≢false (sym (same_true (value_of s name) [] none) ∙ f) in
          let held : may_be_present u row name ≡ true =
          has_class_at u (λ class. not (eqb class 0)) row (label_of u name) (class_of u (label_of u name) (value_of s name)) (represents.1 name) (ap not (class_of_some u (label_of u name) (value_of s name) some)) in
          absurd (true≢false (sym held ∙ e))
