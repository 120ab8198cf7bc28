-- Texts of sources, joined one after the other.
use Rattle.std.proofs.Common.{◌≡◌, ◌<◌, ◌+◌, ℕ, suc, false, List, [], ◌∷◌, ◌++◌, cond, eqb, get_or, length, map, take, refl, sym, ap, ◌∙◌, arith}
use Rattle.std.proofs.lemmas.List.{append_assoc, length-map, length-take-le, map-append, take_more}
use Rattle.std.proofs.lemmas.Bool.Decides.{nat_tests}
use Rattle.lf_ast.specs.Arguments.{text_of, texts_of}
use Rattle.lf_ast.specs.Labels.{Bytes}
use Rattle.lf_ast.specs.Tree.{tree, trees}
use Rattle.lf_ast.specs.declared.expr.Expr.{Expr}
use Rattle.lf_semantics.specs.Strings.{joined_by}

-- the texts of arguments

texts_more : (es : List Expr) (e : Expr) → texts_of (trees (es ++ e ∷ [])) ≡ texts_of (trees es) ++ text_of (tree e) ∷ []
texts_more [] e = refl
texts_more (x ∷ es) e = ap (λ (l : List Bytes). text_of (tree x) ∷ l) (texts_more es e)

-- one more text behind others, of which there is one at least
joined_further : (separator : Bytes) (y : Bytes) (ys : List Bytes) (x : Bytes) → joined_by separator (y ∷ (ys ++ x ∷ [])) ≡ joined_by separator (y ∷ ys) ++ separator ++ x
joined_further separator y [] x = sym (append_assoc y separator x)
joined_further separator y (z ∷ ys) x =
    ap (λ (t : Bytes). y ++ (separator ++ t)) (joined_further separator z ys x)
    ∙ ap (λ (t : Bytes). y ++ (separator ++ t)) (append_assoc (joined_by separator (z ∷ ys)) separator x)
    ∙ ap (λ (t : Bytes). y ++ t) (sym (append_assoc separator (joined_by separator (z ∷ ys)) (separator ++ x)))
    ∙ sym (append_assoc y (separator ++ joined_by separator (z ∷ ys)) (separator ++ x))
    ∙ sym (append_assoc (y ++ (separator ++ joined_by separator (z ∷ ys))) separator x)

some_texts : (n : ℕ) → eqb (suc n) 0 ≡ false
some_texts n = grind (arith, nat_tests)

-- one more text
joined_last : (separator : Bytes) (ys : List Bytes) (x : Bytes) → joined_by separator (ys ++ x ∷ []) ≡ joined_by separator ys ++ cond (eqb (length ys) 0) [] separator ++ x
joined_last separator [] x = refl
joined_last separator (y ∷ ys) x = joined_further separator y ys x ∙ ap (λ b. joined_by separator (y ∷ ys) ++ cond b [] separator ++ x) (sym (some_texts (length ys)))

length_texts : (es : List Expr) → length (texts_of (trees es)) ≡ length es
length_texts [] = refl
length_texts (e ∷ es) = ap suc (length_texts es)

-- a loop goes one source further
pub joined_more : (separator : Bytes) (f : Bytes → Bytes) (es : List Expr) (k : ℕ) (e : Expr) → k < length es → e ≡ get_or es k e
    → joined_by separator (map f (texts_of (trees (take (k + 1) es)))) ≡ joined_by separator (map f (texts_of (trees (take k es)))) ++ cond (eqb k 0) [] separator ++ f (text_of (tree e))
joined_more separator f es k e lt is =
    let before = take k es in
    ap (λ (l : List Expr). joined_by separator (map f (texts_of (trees l)))) (take_more es k e lt ∙ ap (λ (y : Expr). before ++ y ∷ []) (sym is))
    ∙ ap (λ (l : List Bytes). joined_by separator (map f l)) (texts_more before e)
    ∙ ap (joined_by separator) (map-append f (texts_of (trees before)) (text_of (tree e) ∷ []))
    ∙ joined_last separator (map f (texts_of (trees before))) (f (text_of (tree e)))
    ∙ ap (λ n. joined_by separator (map f (texts_of (trees before))) ++ cond (eqb n 0) [] separator ++ f (text_of (tree e))) (length-map (texts_of (trees before)) f ∙ length_texts before ∙ length-take-le k es (omega (arith, lt)))
