-- Rules that are looked through.
use Rattle.std.proofs.Common.{◌||◌, ◌≡◌, ◌⊎◌, ℕ, ◌+◌, ◌<◌, Bool, true, false, cond, List, [], ◌∷◌, ◌++◌, length, get_or, take, refl, inl, inr, ⊎_elim, sym, subst}
use Rattle.std.specs.List.{Contains}
use Rattle.std.proofs.lemmas.List.Elements.{Contains-append_cases, Contains-append_left, Contains-append_right}
use Rattle.lf_laws.proofs.Members.{here, only_one}
use Rattle.lf_rounds.proofs.Reading.{one_more}

-- only what is looked through is added
pub due_some : (all due more : List ℕ) (number : ℕ) (test : Bool) → more ≡ cond test (due ++ number ∷ []) due → Contains all number → ((k : ℕ) → Contains due k → Contains all k) → (k : ℕ) → Contains more k → Contains all k
due_some all due more number true e there old k c =
    let P : List ℕ → Type 0 = λ l. Contains l k in
    let Q : ℕ → Type 0 = λ n. Contains all n in
    ⊎_elim (λ (d : Contains due k). old k d) (λ (d : Contains (number ∷ []) k). subst Q (only_one number k d) there) (Contains-append_cases due (number ∷ []) k (subst P e c))
due_some all due more number false e there old k c = (let P : List ℕ → Type 0 = λ l. Contains l k in old k (subst P e c))

-- and what isn't added is as it should be
pub due_others : (P : ℕ → Type 0) (items due more : List ℕ) (i : ℕ) (test : Bool) → i < length items → more ≡ cond test (due ++ get_or items i 0 ∷ []) due → (test ≡ false → P (get_or items i 0)) → ((k : ℕ) → Contains (take i items) k → Contains due k ⊎ P k)
    → (k : ℕ) → Contains (take (i + 1) items) k → Contains more k ⊎ P k
due_others P items due more i true h e is old k c =
    let number = get_or items i 0 in
    let M : List ℕ → Type 0 = λ l. Contains l k in
    ⊎_elim
    (λ (b : Contains (take i items) k). ⊎_elim (λ (d : Contains due k). inl (subst M (sym e) (Contains-append_left due (number ∷ []) k d))) (λ (p : P k). inr p) (old k b))
    (λ (same : number ≡ k). let N : ℕ → Type 0 = λ n. Contains more n in
    let L : List ℕ → Type 0 = λ l. Contains l number in
    inl (subst N same (subst L (sym e) (Contains-append_right due (number ∷ []) number (here number [])))))
    (one_more items i k h c)
due_others P items due more i false h e is old k c =
    let M : List ℕ → Type 0 = λ l. Contains l k in
    ⊎_elim
    (λ (b : Contains (take i items) k). ⊎_elim (λ (d : Contains due k). inl (subst M (sym e) d)) (λ (p : P k). inr p) (old k b))
    (λ (same : get_or items i 0 ≡ k). inr (subst P same (is refl)))
    (one_more items i k h c)

pub neither : (a b : Bool) → (a || b) ≡ false → a ≡ false
neither true b e = e
neither false b e = refl
