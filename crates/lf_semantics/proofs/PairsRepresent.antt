-- The rows of operators represent what they make of samples.
use Rattle.std.proofs.Common.{◌≡◌, ℕ, Bool, true, false, not, ◌||◌, cond, eqb, List, [], refl, sym, ◌∙◌, ap, subst}
use Rattle.std.proofs.lemmas.Bool.{not-false, not-true}
use Rattle.lf_ast.specs.Labels.{Bytes, Labels}
use Rattle.lf_ast.specs.Types.{names_at}
use Rattle.lf_ast.specs.declared.expr.Group.{Group}
use Rattle.lf_ast.specs.declared.expr.Group.TheVariants.{One, Left, Right}
use Rattle.lf_ast.specs.declared.expr.Matching.{Matching}
use Rattle.lf_ast.specs.declared.expr.Name.{Name}
use Rattle.lf_ast.specs.declared.expr.Op.{Op}
use Rattle.lf_semantics.specs.ClassRows.{HasShape, HoldsText, Represents, Sets, bottom, holds, is_live, narrowed, replaced}
use Rattle.lf_semantics.specs.Grouped.{SameSignature, is_arithmetic, keeps, many_to_one, out, paired, signs, taken_from, without_name_if}
use Rattle.lf_semantics.specs.Listing.{IsListing, Listing, class_of, label_of}
use Rattle.lf_semantics.specs.RowTable.{is_label_among, keeps_label, many_to_one_row, matched_row, nameless_if, paired_row, signs_label, taken_row}
use Rattle.lf_semantics.specs.Texts.{restricted, value_of}
use Rattle.lf_semantics.proofs.EffectsRepresent.{represents_nameless, shape_nameless}
use Rattle.lf_semantics.proofs.LabelTexts.{value-taken_from}
use Rattle.lf_semantics.proofs.Numbered.{AreKnown, among_label, keep_label, sign_label}
use Rattle.lf_semantics.proofs.Restricted.{value-restricted}
use Rattle.lf_semantics.proofs.RowLaws.{represents_narrowed, represents_only_empty, represents_replaced, shape_bottom, shape_narrowed, shape_replaced}

module _ (u : Listing) (p : IsListing u) where
  pub shape_nameless_if : (drops : Bool) (row : Sets) → HasShape u row → HasShape u (nameless_if u drops row)
  shape_nameless_if true row shape = shape_nameless u p row shape
  shape_nameless_if false row shape = shape

  pub represents_nameless_if : (drops : Bool) (row : Sets) (s : Labels) → HasShape u row → Represents u row s → Represents u (nameless_if u drops row) (without_name_if drops s)
  represents_nameless_if true row s shape represents = represents_nameless u p row s shape represents
  represents_nameless_if false row s shape represents = represents

  pub shape_taken : (one : Sets) (names : List Name) (row : Sets) → HasShape u row → HasShape u (taken_row u one names row)
  shape_taken one names row shape = elim (is_live one) as (λ b. HasShape u (cond b (replaced (is_label_among u names) (holds one) row) (bottom u))) [
    | true ↦ shape_replaced (is_label_among u names) (holds one) row ∙ shape
    | false ↦ shape_bottom u
  ]

  -- labels that are taken from the one side
  pub represents_taken : (one : Sets) (names : List Name) (row : Sets) (s t : Labels) → AreKnown u names → HasShape u row → Represents u row s → Represents u one t → Represents u (taken_row u one names row) (taken_from t names s)
  represents_taken one names row s t known shape represents represents' =
      let new : Labels = taken_from t names s in
      let L : Bool → Type 0 = λ b. Represents u (cond b (replaced (is_label_among u names) (holds one) row) (bottom u)) new in
      subst L (sym represents'.0)
      (represents_replaced u p (is_label_among u names) (holds one) row new shape represents.0
      (λ name e.
      let P : Bytes → Type 0 = λ x. HoldsText u one name x in
      subst P (sym (value-taken_from t names s name ∙ ap (λ b. cond b (value_of t name) (value_of s name)) (sym (among_label u names known name) ∙ e))) (represents'.1 name))
      (λ name e.
      let P : Bytes → Type 0 = λ x. HoldsText u row name x in
      subst P (sym (value-taken_from t names s name ∙ ap (λ b. cond b (value_of t name) (value_of s name)) (sym (among_label u names known name) ∙ e))) (represents.1 name)))

  pub shape_matched : (m : Matching) (row other : Sets) → HasShape u row → HasShape u (matched_row u m row other)
  shape_matched m row other shape = elim (is_live other) as (λ b. HasShape u (cond b (narrowed (λ label class. not (signs_label u m label) || holds other label class) row) (bottom u))) [
    | true ↦ shape_narrowed (λ label class. not (signs_label u m label) || holds other label class) row ∙ shape
    | false ↦ shape_bottom u
  ]

  shape_many : (m : Matching) (op : Op) (many one : Sets) → HasShape u many → HasShape u (many_to_one_row u op m many one)
  shape_many m op many one shape =
      shape_nameless_if m.bool_mod (taken_row u one m.include (nameless_if u (is_arithmetic op) many)) (shape_taken one m.include (nameless_if u (is_arithmetic op) many) (shape_nameless_if (is_arithmetic op) many shape))

  pub shape_paired : (m : Matching) (op : Op) (g : Group) (left right : Sets) → HasShape u left → HasShape u right → HasShape u (paired_row u g op m left right)
  shape_paired m op One left right h k = shape_replaced (λ label. not (keeps_label u op m label)) (λ l c. eqb c 0) left ∙ h
  shape_paired m op Left left right h k = shape_many m op left right h
  shape_paired m op Right left right h k = shape_many m op right left k

  pub shape_pairs : (m : Matching) (op : Op) (left right : Sets) → HasShape u left → HasShape u right → HasShape u (paired_row u m.group op m (matched_row u m left right) (matched_row u m right left))
  shape_pairs m op left right h k = shape_paired m op m.group (matched_row u m left right) (matched_row u m right left) (shape_matched m left right h) (shape_matched m right left k)

  module _ (m : Matching) (on : AreKnown u (names_at m.on)) (ignoring : AreKnown u (names_at m.ignoring)) where
    -- at a label of the signature both sides have the class
    meet_at : (other : Sets) (s t : Labels) (name : Bytes) (b : Bool) → Represents u other t → (b ≡ true → value_of s name ≡ value_of t name)
        → (not b || holds other (label_of u name) (class_of u (label_of u name) (value_of s name))) ≡ true
    meet_at other s t name false represents same = refl
    meet_at other s t name true represents same =
        let P : Bytes → Type 0 = λ v. HoldsText u other name v in
        subst P (sym (same refl)) (represents.1 name)

    -- the matched row represents a sample with a partner of equal signature
    pub represents_matched : (row other : Sets) (s t : Labels) → HasShape u row → SameSignature m s t → Represents u row s → Represents u other t → Represents u (matched_row u m row other) s
    represents_matched row other s t shape same represents represents' =
        let test : ℕ → ℕ → Bool = λ label class. not (signs_label u m label) || holds other label class in
        let pass : (name : Bytes) → test (label_of u name) (class_of u (label_of u name) (value_of s name)) ≡ true = λ name.
        let P : Bool → Type 0 = λ b. (not b || holds other (label_of u name) (class_of u (label_of u name) (value_of s name))) ≡ true in
        subst P (sym (sign_label u p m on ignoring name)) (meet_at other s t name (signs m name) represents' (λ e. same name e)) in
        let L : Bool → Type 0 = λ b. Represents u (cond b (narrowed test row) (bottom u)) s in
        subst L (sym represents'.0) (represents_narrowed u p test row s shape pass represents)

    module _ (include : AreKnown u m.include) (op : Op) where
      represents_many : (many one : Sets) (s t : Labels) → HasShape u many → Represents u many s → Represents u one t → Represents u (many_to_one_row u op m many one) (many_to_one op m s t)
      represents_many many one s t shape represents represents' =
          let first : Sets = nameless_if u (is_arithmetic op) many in
          let kept : HasShape u first = shape_nameless_if (is_arithmetic op) many shape in
          represents_nameless_if m.bool_mod (taken_row u one m.include first) (taken_from t m.include (without_name_if (is_arithmetic op) s)) (shape_taken one m.include first kept)
          (represents_taken one m.include first (without_name_if (is_arithmetic op) s) t include kept (represents_nameless_if (is_arithmetic op) many s shape represents) represents')

      pub represents_paired : (g : Group) (left right : Sets) (s t : Labels) → HasShape u left → HasShape u right → Represents u left s → Represents u right t → Represents u (paired_row u g op m left right) (paired g op m s t)
      represents_paired One left right s t h k represents represents' =
          represents_only_empty u p (λ label. not (keeps_label u op m label)) left s (restricted (keeps op m) s) h represents
          (λ name e. value-restricted (keeps op m) s name ∙ ap (λ b. cond b (value_of s name) []) (sym (keep_label u p op m on ignoring name) ∙ not-true _ e))
          (λ name e. value-restricted (keeps op m) s name ∙ ap (λ b. cond b (value_of s name) []) (sym (keep_label u p op m on ignoring name) ∙ not-false _ e))
      represents_paired Left left right s t h k represents represents' = represents_many left right s t h represents represents'
      represents_paired Right left right s t h k represents represents' = represents_many right left t s k represents' represents

      -- the row of the two sides represents the result of a pair of equal signature
      pub represents_out : (left right : Sets) (s t : Labels) → HasShape u left → HasShape u right → SameSignature m s t → Represents u left s → Represents u right t
          → Represents u (paired_row u m.group op m (matched_row u m left right) (matched_row u m right left)) (out op m s t)
      represents_out left right s t h k same represents represents' =
          represents_paired m.group (matched_row u m left right) (matched_row u m right left) s t (shape_matched m left right h) (shape_matched m right left k) (represents_matched left right s t h same represents represents')
          (represents_matched right left t s k (λ label e. sym (same label e)) represents' represents)
