-- `matches` says when a pattern matches.
use Rattle.std.proofs.Common.{◌≡◌, ℕ, true, List, Option, Some, None, sym, ◌∙◌, inl, inr, refl, subst}
use Rattle.std.specs.Prelude.{Contains, ◌↔◌, IsTrue}
use Rattle.std.specs.Option.{option_map_or}
use Rattle.std.specs.List.{list_any}
use Rattle.std.specs.Str.{bytes_eq}
use Rattle.std.proofs.lemmas.List.Folds.{Any-from_list_any, list_any-from_Any}
use Rattle.std.proofs.lemmas.Option.{none-some, same_Some}
use Rattle.std.proofs.lemmas.Slice.Eq.{bytes_eq-Decides}
use Rattle.lf_pattern.specs.Scan.{alternatives_of}
use Rattle.lf_pattern.specs.Read.{finds}
use Rattle.lf_pattern.specs.Matching.{Matches, matches}
use Rattle.lf_pattern.proofs.PlainLaws.{found, is_found}

contains_any : (xs : List (List ℕ)) (v : List ℕ) → Contains xs v → list_any (λ a. bytes_eq a v) xs ≡ true
contains_any xs v (k, lt, e) = list_any-from_Any (λ a. bytes_eq a v) xs (k, v, lt, e, (bytes_eq-Decides v v).1 refl)

any_contains : (xs : List (List ℕ)) (v : List ℕ) → list_any (λ a. bytes_eq a v) xs ≡ true → Contains xs v
any_contains xs v h =
    let (k, x, lt, e, t) = Any-from_list_any (λ a. bytes_eq a v) xs h in
    let same : x ≡ v = (bytes_eq-Decides x v).0 t in
    subst (Contains xs) same (k, lt, e)

by_form : (p v : List ℕ) (o : Option (List (List ℕ))) → alternatives_of p ≡ o →
    (option_map_or (λ alternatives. list_any (λ a. bytes_eq a v) alternatives) o (finds p v) ≡ true) ↔ Matches p v
by_form p v None e = (
  λ t. inr ((λ xs h. none-some _ (sym e ∙ found p xs h)), t),
  λ m. elim m [ inl (xs, h, there) ↦ absurd (none-some _ (sym e ∙ found p xs h)) | inr (plain, t) ↦ t ],
)
by_form p v (Some xs) e = (
  λ t. inl (xs, is_found p xs e, any_contains xs v t),
  λ m. elim m [
    | inl (ys, h, there) ↦ contains_any xs v (let P : List (List ℕ) → Type 0 = λ zs. Contains zs v in subst P (same_Some _ _ (sym (found p ys h) ∙ e)) there)
    | inr (plain, t) ↦ absurd (plain xs (is_found p xs e))
  ],
)

pub matches_is : (p v : List ℕ) → IsTrue (matches p v) ↔ Matches p v
matches_is p v = by_form p v (alternatives_of p) refl
