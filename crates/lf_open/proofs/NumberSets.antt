-- Numbers that are put among others.
use Rattle.std.proofs.Common.{◌≡◌, ◌+◌, ◌<◌, ℕ, List, [], ◌∷◌, ◌++◌, length, take, get_or, refl, sym, ◌∙◌, ap}
use Rattle.std.proofs.lemmas.List.{take_more}
use Rattle.std.specs.BTreeSet.{insert_key}
use Rattle.std.specs.Ordering.{nat_cmp}
use Rattle.lf_open.specs.views.Told.{put_all}

put_push : (xs into : List ℕ) (k : ℕ) → put_all (xs ++ k ∷ []) into ≡ insert_key nat_cmp (put_all xs into) k
put_push [] into k = refl
put_push (x ∷ xs) into k = put_push xs (insert_key nat_cmp into x) k

-- one more
pub put_next : (xs into : List ℕ) (i d : ℕ) (old new : List ℕ) → i < length xs → old ≡ put_all (take i xs) into → new ≡ insert_key nat_cmp old (get_or xs i d) → new ≡ put_all (take (i + 1) xs) into
put_next xs into i d old new lt was is =
    is ∙ ap (λ (l : List ℕ). insert_key nat_cmp l (get_or xs i d)) was ∙ sym (put_push (take i xs) into (get_or xs i d)) ∙ ap (λ (l : List ℕ). put_all l into) (sym (take_more xs i d lt))
