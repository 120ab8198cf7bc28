-- Rows of the classes that pass patterns, as they are cached.
use Rattle.std.proofs.Common.{◌≡◌, ℕ, ◌+◌, ◌<◌, Bool, true, false, not, ◌&&◌, ◌||◌, cond, eqb, List, [], map, length, get_or, refl, sym, ◌∙◌, ap, subst, arith}
use Rattle.std.proofs.lemmas.Bool.Decides.{Decides-eqb}
use Rattle.lf_ast.specs.Labels.{Bytes}
use Rattle.lf_ast.specs.declared.expr.MatchOp.{MatchOp}
use Rattle.lf_ast.specs.declared.expr.MatchOp.TheVariants.{Matches}
use Rattle.std.proofs.lemmas.Bool.{false_from_ne_true}
use Rattle.lf_laws.proofs.Booleans.{clash}
use Rattle.lf_semantics.specs.ClassRows.{HasShape, Sets, emptied, top, holds, is_live, narrowed, remade, normalized}
use Rattle.lf_semantics.specs.Listing.{Listing, named_at}
use Rattle.lf_semantics.specs.RowTable.{may_match, passes_class}
use Rattle.lf_semantics.proofs.RowLaws.{full_at, holds-remade, live_when, shape_top, shape_narrowed, shape_remade}
use Rattle.lf_classes.specs.views.PatternCache.{passing_row}
use Rattle.lf_semantics.proofs.RowSets.{emptied_holds, remade_same}
use Rattle.lf_flow.specs.views.ClassSets.{IsSet}
use Rattle.lf_flow.proofs.ClassSets.{row_length, set_length}
use Rattle.lf_flow.proofs.PatternSets.{retested}

-- the full row of which one label has the classes that pass
module _ (u : Listing) (label : ℕ) (pass : ℕ → ℕ → Bool) (within : label < length u.named) where
  abbrev test : ℕ → ℕ → Bool
  test l c = not (eqb label l) || pass l c

  abbrev made : Sets
  made = remade (λ l c on. on && test l c) (top u)

  at : (l c : ℕ) → l < length u.named → c < length (named_at u l) + 2 → holds made l c ≡ test l c
  at l c h k =
      holds-remade (λ l c on. on && test l c) (top u) l c (omega (arith, h, row_length u (top u) (shape_top u))) (omega (arith, k, set_length u (top u) (shape_top u) l h))
      ∙ ap (λ on. on && test l c) (full_at u l c h k)

  own : (c : ℕ) → c < length (named_at u label) + 2 → holds made label c ≡ pass label c
  own c k = at label c within k ∙ ap (λ b. not b || pass label c) ((Decides-eqb label label).1 refl)

  -- where a class passes, each label has a class
  each : (c : ℕ) → c < length (named_at u label) + 2 → pass label c ≡ true → (l : ℕ) → l < length made → (d : ℕ) × (holds made l d ≡ true)
  each c k p l h = by (eqb label l) refl
    where
      inside : l < length u.named
      inside = omega (arith, h, row_length u made (shape_remade (λ l c on. on && test l c) 0 (top u) ∙ shape_top u))

      by : (b : Bool) → eqb label l ≡ b → (d : ℕ) × (holds made l d ≡ true)
      by true e = let P : ℕ → Type 0 = λ m. (d : ℕ) × (holds made m d ≡ true) in subst P ((Decides-eqb label l).0 e) (c, own c k ∙ p)
      by false e = (0, at l 0 inside (omega arith) ∙ ap (λ b. not b || pass l 0) e)

  -- a label has the classes that pass, also where none does, and the row is empty
  pub holds_own : (c : ℕ) → c < length (named_at u label) + 2 → holds (normalized made) label c ≡ pass label c
  holds_own c k = by (is_live made) refl
    where
      by : (b : Bool) → is_live made ≡ b → holds (cond b made (emptied made)) label c ≡ pass label c
      by true e = own c k
      by false e = emptied_holds made label c ∙ sym (false_from_ne_true (pass label c) (λ p. clash (is_live made) (live_when made (each c k p)) e))

-- a row that meets the row of a pattern keeps the classes that pass
pub met_passing : (u : Listing) (label : ℕ) (op : MatchOp) (pattern : Bytes) (passing row : Sets) → label < length u.named → HasShape u row → passing ≡ passing_row u label op pattern
    → narrowed (λ l c. not (eqb label l) || holds passing l c) row ≡ narrowed (λ l c. not (eqb label l) || passes_class u op pattern l c) row
met_passing u label op pattern passing row within shape is = ap normalized (remade_same _ _ row (λ l c b k. by l c k (eqb label l) refl))
  where
    by : (l c : ℕ) → c < length (get_or row l []) → (b : Bool) → eqb label l ≡ b → (holds row l c && (not b || holds passing l c)) ≡ (holds row l c && (not b || passes_class u op pattern l c))
    by l c k false e = refl
    by l c k true e =
        let P : ℕ → Type 0 = λ m. c < length (get_or row m []) → holds passing m c ≡ passes_class u op pattern m c in
        ap (λ b. holds row l c && b)
        (subst P ((Decides-eqb label l).0 e)
        (λ j. ap (λ r. holds r label c) is ∙ holds_own u label (passes_class u op pattern) within c (omega (arith, j, set_length u row shape label within))) k)

pub shape_passing : (u : Listing) (label : ℕ) (op : MatchOp) (pattern : Bytes) (passing row : Sets) → HasShape u row → passing ≡ passing_row u label op pattern → map length row ≡ map length passing
shape_passing u label op pattern passing row shape is =
    shape ∙ sym (ap (map length) is ∙ shape_narrowed (λ l c. not (eqb label l) || passes_class u op pattern l c) (top u) ∙ shape_top u)

-- and has at the label the classes that may match a pattern behind `=~`
pub row_matching : (u : Listing) (label : ℕ) (pattern : Bytes) (passing : Sets) (on : List Bool) → label < length u.named → passing ≡ passing_row u label Matches pattern
    → IsSet (length (named_at u label) + 2) (holds passing label) on → IsSet (length (named_at u label) + 2) (may_match u pattern label) on
row_matching u label pattern passing on within is set =
    retested _ _ _ on (λ c k. ap (λ r. holds r label c) is ∙ holds_own u label (passes_class u Matches pattern) within c k) set
