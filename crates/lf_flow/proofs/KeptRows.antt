-- What is kept of the parts of an expression has their rows.
use Rattle.std.proofs.Common.{◌≡◌, ◌≤◌, ℕ, zero, suc, List, length, map, take, drop, Option, None, Some, refl, sym, ◌∙◌, ap, subst, arith}
use Rattle.std.specs.Prelude.{option_to_list}
use Rattle.std.proofs.lemmas.List.{length-map}
use Rattle.lf_laws.proofs.Slices.{one_taken}
use Rattle.lf_ast.specs.Functions.{Signature}
use Rattle.lf_ast.specs.Tree.{Tree, Trees, Number, Str, Selector, Subquery, Paren, Unary, Binary, Call, Aggregate, Nil, Next, list}
use Rattle.lf_ast.specs.declared.expr.Grouping.{Grouping}
use Rattle.lf_semantics.specs.ClassRows.{HasShape}
use Rattle.lf_semantics.specs.Environments.{IsEnvironment}
use Rattle.lf_semantics.specs.Listing.{IsListing, Listing}
use Rattle.lf_semantics.specs.Parts.{operand_place}
use Rattle.lf_semantics.specs.RowTable.{Environment, call_row, effect_row, row_at, row_of}
use Rattle.lf_semantics.proofs.RowLaws.{shape_bottom}
use Rattle.lf_semantics.proofs.Soundness.{shape_of_row}
use Rattle.lf_flow.specs.declared.typed_row.TypedRow.{TypedRow}
use Rattle.lf_flow.specs.views.Kept.{kept_row, made_row, operand_row, typed_operand, typed_row_of}

module _ (u : Listing) (env : Environment) where
  -- the row that is kept of an expression is its own
  pub made_is : (e : Tree) → made_row u (kept_row u env e) ≡ row_of u env e
  made_is (Number text span) = refl
  made_is (Str text span) = refl
  made_is (Selector name matchers sight span) = refl
  made_is (Subquery of sight span) = refl
  made_is (Paren of span) = refl
  made_is (Unary minus of span) = refl
  made_is (Binary op m left right span) = refl
  made_is (Call name args span) = refl
  made_is (Aggregate op grouping args span) = refl

  pub made_shape : IsListing u → IsEnvironment u env → (e : Tree) (typed : TypedRow) → typed ≡ typed_row_of u env e → HasShape u (made_row u typed.row)
  made_shape listing environment e typed is =
      let P : _ → Type 0 = λ row. HasShape u row in
      subst P (sym (ap (λ (g : TypedRow). made_row u g.row) is ∙ made_is e)) (shape_of_row u listing env environment e)

  -- the parts of an expression

  -- the operand among arguments

  abbrev operands : Trees → ℕ → List TypedRow
  operands args k = map (typed_row_of u env) (take 1 (drop k (list args)))

  operand_is : (args : Trees) (k : ℕ) (o : Option TypedRow) → operands args k ≡ option_to_list o → row_at u env args k ≡ operand_row u o
  operand_is Nil zero None e = refl
  operand_is Nil (suc k) None e = refl
  operand_is Nil zero (Some g) e = absurd (cc)
  operand_is Nil (suc k) (Some g) e = absurd (cc)
  operand_is (Next x xs) zero None e = absurd (cc)
  operand_is (Next x xs) zero (Some g) e = let same : typed_row_of u env x ≡ g = cc in sym (made_is x) ∙ ap (λ (h : TypedRow). made_row u h.row) same
  operand_is (Next x xs) (suc k) o e = operand_is xs k o e

  -- what is kept of the operand of a call

  pub one_of_call : (o : Option Signature) (args : Trees) → length (typed_operand u env o args) ≤ 1
  one_of_call None args = omega arith
  one_of_call (Some s) args =
      let few = drop (operand_place s) (list args) in
      let same = length-map (take 1 few) (typed_row_of u env) in
      let one = one_taken few in
      omega (arith, same, one)

  pub row_of_call : (o : Option Signature) (grouping : Grouping) (args : Trees) (operand : Option TypedRow) → typed_operand u env o args ≡ option_to_list operand
      → call_row u o grouping args (λ place. operand_row u operand) ≡ call_row u o grouping args (row_at u env args)
  row_of_call None grouping args operand e = refl
  row_of_call (Some s) grouping args operand e = ap (effect_row u s.labels grouping args) (sym (operand_is args (operand_place s) operand e))

  module _ (listing : IsListing u) (environment : IsEnvironment u env) where
    shape_at : (args : Trees) (k : ℕ) → HasShape u (row_at u env args k)
    shape_at Nil k = shape_bottom u
    shape_at (Next x xs) zero = shape_of_row u listing env environment x
    shape_at (Next x xs) (suc k) = shape_at xs k

    pub shape_of_call : (o : Option Signature) (args : Trees) (operand : Option TypedRow) → typed_operand u env o args ≡ option_to_list operand → HasShape u (operand_row u operand)
    shape_of_call None args None e = shape_bottom u
    shape_of_call None args (Some typed) e = absurd (cc)
    shape_of_call (Some s) args operand e = subst (HasShape u) (operand_is args (operand_place s) operand e) (shape_at args (operand_place s))
