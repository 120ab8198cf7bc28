-- One more text behind others, and what it does to the texts that are seen first.
use Rattle.std.proofs.Common.{◌≡◌, ltb, Bool, true, false, not, cond, ◌||◌, List, [], ◌∷◌, ◌++◌, get_or, length, refl, sym, ap, subst, ◌∙◌, append-nil, append_assoc}
use Rattle.std.specs.Bool.{Decides}
use Rattle.std.specs.Prelude.{fold}
use Rattle.std.specs.List.{Contains, filter, list_any}
use Rattle.std.specs.Str.{bytes_eq}
use Rattle.std.proofs.lemmas.Bool.Decides.{same_from_decides}
use Rattle.std.proofs.lemmas.List.Elements.{Contains-get_or, filter-append}
use Rattle.std.proofs.lemmas.List.Folds.{list_any_at}
use Rattle.std.proofs.lemmas.Bool.{lt-ltb, ltb-true}
use Rattle.std.proofs.lemmas.Map.Views.{Contains-from_any}
use Rattle.lf_ast.specs.Labels.{Bytes}
use Rattle.lf_semantics.specs.Listing.{first_seen, place}
use Rattle.lf_semantics.proofs.ListingLaws.{in_first_seen, of_first_seen, place_within}
use Rattle.lf_semantics.proofs.Members.{same_true, true_same}
use Rattle.lf_semantics.proofs.Places.{at_place}
use Rattle.lf_classes.specs.views.TextSets.{with_text}

abbrev among : List Bytes → Bytes → Bool
among xs t = list_any (bytes_eq t) xs

among-Decides : (xs : List Bytes) (t : Bytes) → Decides (among xs t) (Contains xs t)
among-Decides xs t = (Contains-from_any true_same t xs, λ c. list_any_at (bytes_eq t) xs c.0 t c.1 (same_true t (get_or xs c.0 t) (sym c.2)))

place-Decides : (xs : List Bytes) (t : Bytes) → Decides (ltb (place xs t) (length xs)) (Contains xs t)
place-Decides xs t = (
  λ h. let b = ltb-true (place xs t) (length xs) h in subst (λ z. Contains xs z) (at_place xs t b) (Contains-get_or xs (place xs t) [] b),
  λ c. lt-ltb (place xs t) (length xs) (place_within xs t c),
)

seen_is : (xs : List Bytes) (t : Bytes) → among xs t ≡ ltb (place (first_seen xs) t) (length (first_seen xs))
seen_is xs t =
    same_from_decides {P = Contains xs t} (among xs t) (ltb (place (first_seen xs) t) (length (first_seen xs))) (among-Decides xs t)
    ((λ h. of_first_seen xs t ((place-Decides (first_seen xs) t).0 h)), (λ c. (place-Decides (first_seen xs) t).1 (in_first_seen xs t c)))

abbrev others : Bytes → List Bytes → List Bytes
others first texts = filter (λ y. not (bytes_eq y first)) texts

-- by whether the text is the first one, and whether it stands among the others
step : (first text : Bytes) (seen after : List Bytes) (same there : Bool) → bytes_eq text first ≡ same → after ≡ cond there seen (seen ++ text ∷ [])
    → first ∷ others first after ≡ cond (same || there) (first ∷ others first seen) (first ∷ others first seen ++ text ∷ [])
step first text seen after true true e h = ap (λ l. first ∷ others first l) h
step first text seen after false true e h = ap (λ l. first ∷ others first l) h
step first text seen after true false e h =
    ap (λ l. first ∷ others first l) h
    ∙ ap (λ l. first ∷ l) (filter-append (λ y. not (bytes_eq y first)) seen (text ∷ []) ∙ ap (λ b. others first seen ++ cond (not b) (text ∷ []) []) e ∙ append-nil (others first seen))
step first text seen after false false e h =
    ap (λ l. first ∷ others first l) h
    ∙ ap (λ l. first ∷ l) (filter-append (λ y. not (bytes_eq y first)) seen (text ∷ []) ∙ ap (λ b. others first seen ++ cond (not b) (text ∷ []) []) e)

pushed : (xs : List Bytes) (t : Bytes) → first_seen (xs ++ t ∷ []) ≡ cond (among xs t) (first_seen xs) (first_seen xs ++ t ∷ [])
pushed [] t = refl
pushed (x ∷ xs) t = step x t (first_seen xs) (first_seen (xs ++ t ∷ [])) (bytes_eq t x) (among xs t) refl (pushed xs t)

-- one more text goes last, unless it was seen
pub first_seen-push : (xs : List Bytes) (t : Bytes) → first_seen (xs ++ t ∷ []) ≡ with_text (first_seen xs) t
first_seen-push xs t = pushed xs t ∙ ap (λ b. cond b (first_seen xs) (first_seen xs ++ t ∷ [])) (seen_is xs t)

-- a text goes behind the others, unless it is empty or there
abbrev pub with_some : List Bytes → Bytes → List Bytes
with_some texts text = cond (bytes_eq text []) texts (with_text texts text)

abbrev pub some_texts : List Bytes → List Bytes
some_texts texts = filter (λ t. not (bytes_eq t [])) texts

pub first_seen-more : (xs ts : List Bytes) → first_seen (xs ++ some_texts ts) ≡ fold with_some (first_seen xs) ts
first_seen-more xs [] = ap first_seen (append-nil xs)
first_seen-more xs (t ∷ ts) = by (bytes_eq t []) refl (λ ys. first_seen-more ys ts)
  where
    by : (b : Bool) → bytes_eq t [] ≡ b → ((ys : List Bytes) → first_seen (ys ++ some_texts ts) ≡ fold with_some (first_seen ys) ts)
        → first_seen (xs ++ some_texts (t ∷ ts)) ≡ fold with_some (with_some (first_seen xs) t) ts
    by true e rest =
        ap (λ b. first_seen (xs ++ cond (not b) (t ∷ some_texts ts) (some_texts ts))) e ∙ rest xs
        ∙ ap (λ b. fold with_some (cond b (first_seen xs) (with_text (first_seen xs) t)) ts) (sym e)
    by false e rest =
        ap (λ b. first_seen (xs ++ cond (not b) (t ∷ some_texts ts) (some_texts ts))) e
        ∙ ap first_seen (sym (append_assoc xs (t ∷ []) (some_texts ts))) ∙ rest (xs ++ t ∷ []) ∙ ap (λ s. fold with_some s ts) (first_seen-push xs t)
        ∙ ap (λ b. fold with_some (cond b (first_seen xs) (with_text (first_seen xs) t)) ts) (sym e)
