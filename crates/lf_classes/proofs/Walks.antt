-- What is mentioned one after the other.
use Rattle.std.proofs.Common.{◌≡◌, ◌<◌, ◌+◌, ℕ, length, take, get_or, List, [], ◌∷◌, ◌++◌, drop, map, sym, ◌∙◌, ap, refl, zero, suc}
use Rattle.std.proofs.lemmas.List.{map_more}
use Rattle.std.proofs.lemmas.List.Sums.{fold-append}
use Rattle.lf_ast.specs.Arguments.{text_of, texts_of}
use Rattle.lf_ast.specs.Labels.{Bytes}
use Rattle.lf_ast.specs.Tree.{tree, trees}
use Rattle.lf_ast.specs.declared.expr.Expr.{Expr}
use Rattle.lf_semantics.specs.Listing.{Listing}
use Rattle.lf_semantics.specs.Mentions.{Mention, mention}
use Rattle.lf_classes.specs.views.Mentioned.{mentioned_all, with_mentioned}

-- a beginning, and then more
pub mentioned_both : (start mid new : Listing) (xs ys : List Mention) → mid ≡ mentioned_all start xs → new ≡ mentioned_all mid ys → new ≡ mentioned_all start (xs ++ ys)
mentioned_both start mid new xs ys first more = more ∙ ap (λ seen. mentioned_all seen ys) first ∙ sym (fold-append with_mentioned start xs ys)

-- one more, in a loop
pub mentioned_more : {A : Type 0} (f : A → Mention) (xs : List A) (i : ℕ) (x : A) (start old new : Listing) → i < length xs → x ≡ get_or xs i x → old ≡ mentioned_all start (map f (take i xs)) → new ≡ with_mentioned old (f x)
    → new ≡ mentioned_all start (map f (take (i + 1) xs))
mentioned_more f xs i x start old new inside at before here =
    mentioned_both start old new (map f (take i xs)) (f x ∷ []) before here
    ∙ ap (λ y. mentioned_all start (map f (take i xs) ++ f y ∷ [])) at ∙ ap (mentioned_all start) (sym (map_more f xs i x inside))

-- the arguments behind the first ones, each of which names a label
pub mentioned_arguments : (args : List Expr) (k : ℕ) → map (λ (text : Bytes). mention text []) (drop k (texts_of (trees args))) ≡ map (λ (e : Expr). mention (text_of (tree e)) []) (drop k args)
mentioned_arguments [] zero = refl
mentioned_arguments [] (suc k) = refl
mentioned_arguments (e ∷ es) zero = ap (λ (l : List Mention). mention (text_of (tree e)) [] ∷ l) (mentioned_arguments es 0)
mentioned_arguments (e ∷ es) (suc k) = mentioned_arguments es k
