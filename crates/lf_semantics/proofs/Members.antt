-- Members of lists. Those of lf_laws go by this file too.
use Rattle.std.proofs.Common.{◌≡◌, Bool, true, false, cond, List, [], ◌∷◌, ◌⊎◌, inl, inr, refl, sym, ◌∙◌, ap, subst}
use Rattle.std.specs.List.{AllByRecursion, Contains, filter}
pub use Rattle.std.proofs.lemmas.Bool.{or_cases}
pub use Rattle.lf_laws.proofs.Members.{all_back, all_front, behind, each_member as one_of, first_or_behind, here, in_flat_map, in_map, map_member, none_in, other_false, same_true, true_same}

pub all_of : {X : Type 0} (P : X → Type 0) (xs : List X) → ((x : X) → Contains xs x → P x) → AllByRecursion P xs
all_of P [] h = tt
all_of P (x ∷ xs) h = (h x (here x xs), all_of P xs (λ y c. h y (behind x xs y c)))

pub in_filter : {X : Type 0} (test : X → Bool) (xs : List X) (x : X) → Contains xs x → test x ≡ true → Contains (filter test xs) x
in_filter test [] x c h = absurd (none_in x c)
in_filter test (y ∷ xs) x c h = by (test y) refl (first_or_behind y xs x c) (λ d. in_filter test xs x d h)
  where
    by : (b : Bool) → test y ≡ b → (y ≡ x) ⊎ Contains xs x → (Contains xs x → Contains (filter test xs) x) → Contains (cond b (y ∷ filter test xs) (filter test xs)) x
    by true e (inl f) rest = let P : _ → Type 0 = λ z. Contains (y ∷ filter test xs) z in subst P f (here y (filter test xs))
    by true e (inr d) rest = behind y (filter test xs) x (rest d)
    by false e (inl f) rest = let g : false ≡ true = sym e ∙ ap test f ∙ h in absurd (cc)
    by false e (inr d) rest = rest d

pub of_filter : {X : Type 0} (test : X → Bool) (xs : List X) (x : X) → Contains (filter test xs) x → Contains xs x × (test x ≡ true)
of_filter test [] x c = absurd (none_in x c)
of_filter test (y ∷ xs) x c = by (test y) refl c (of_filter test xs x)
  where
    by : (b : Bool) → test y ≡ b → Contains (cond b (y ∷ filter test xs) (filter test xs)) x → (Contains (filter test xs) x → Contains xs x × (test x ≡ true)) → Contains (y ∷ xs) x × (test x ≡ true)
    by true e d rest = elim (first_or_behind y (filter test xs) x d) [
      | inl f ↦ let P : _ → Type 0 = λ z. Contains (y ∷ xs) z × (test z ≡ true) in subst P f (here y xs, e)
      | inr g ↦ let k = rest g in (behind y xs x k.0, k.1)
    ]
    by false e d rest = let k = rest d in (behind y xs x k.0, k.1)
