-- Words of a row that are raised one after the other.
use Rattle.std.proofs.Common.{◌≡◌, ℕ, ◌+◌, ◌<◌, List, [], ◌∷◌, map, length, ◌∙◌, ap, arith}
use Rattle.std.proofs.Math.Nat.{div-add-mod}
use Rattle.std.proofs.lemmas.List.Sums.{sum_by-cons}
use Rattle.std.specs.List.{sum}
use Rattle.lf_ast.specs.Labels.{Bytes}
use Rattle.lf_classes.specs.RowWords.{in_order, word_count, words_for}
use Rattle.lf_classes.proofs.RowWordOrder.{length-in_order}
use Rattle.lf_semantics.specs.ClassRows.{HasShape, Sets}
use Rattle.lf_semantics.specs.Listing.{IsListing, Listing}

-- a row of a universe has as many words as there are for it
pub shape_words : (u : Listing) (row : Sets) → HasShape u row → words_for (length (in_order row)) ≡ word_count u
shape_words u row h = ap words_for (length-in_order row ∙ ap sum h)

some_class : (named : List (List Bytes)) → 0 < length named → 0 < sum (map (λ texts. length texts + 2) named)
some_class [] h = absurd (omega arith)
some_class (texts ∷ named) h = omega (arith, sum_by-cons (λ (n : ℕ). n) (length texts + 2) (map (λ (more : List Bytes). length more + 2) named))

-- and at least one
pub some_word : (u : Listing) → IsListing u → 0 < word_count u
some_word u p = let some = some_class u.named (omega (arith, p.count)) in omega (arith, some, div-add-mod (sum (map (λ (texts : List Bytes). length texts + 2) u.named) + 63) 64)
