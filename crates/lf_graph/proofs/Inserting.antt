-- Numbers that are added to an ordered set.
use Rattle.std.proofs.Common.{◌≡◌, ℕ, ◌+◌, ◌<◌, ◌≤◌, ◌⊎◌, List, [], ◌∷◌, ◌++◌, take, length, get_or, inl, inr, refl, sym, subst, arith}
use Rattle.std.specs.BTreeSet.{insert_key}
use Rattle.std.specs.List.{Contains, flat_map}
use Rattle.std.specs.Ordering.{match_ordering, nat_cmp}
use Rattle.std.specs.declared.cmp.Ordering.{Ordering}
use Rattle.std.specs.declared.cmp.Ordering.TheVariants.{Equal, Greater, Less}
use Rattle.std.proofs.lemmas.List.Elements.{Contains-append_cases, Contains-append_left, Contains-append_right, Contains-push, Contains-push_cases}
use Rattle.std.proofs.lemmas.Map.Lookups.{exact_unsigned}
use Rattle.lf_laws.proofs.Gaining.{gains_as, gains_both, gains_none}
use Rattle.lf_graph.specs.views.Listing.{Adds, AddsBelow}
use Rattle.lf_graph.proofs.Prefixes.{flat_map_next, prefix_next}
use Rattle.lf_laws.proofs.Members.{behind, first_or_behind, here, none_in, only_one}

insert_to : (xs : List ℕ) (x k : ℕ) → Contains (insert_key nat_cmp xs x) k → Contains xs k ⊎ (x ≡ k)
insert_to [] x k c = inr (only_one x k c)
insert_to (y ∷ xs) x k c = by (nat_cmp x y) c (insert_to xs x k)
  where
    by : (o : Ordering) → Contains (match_ordering o (x ∷ y ∷ xs) (y ∷ xs) (y ∷ insert_key nat_cmp xs x)) k → (Contains (insert_key nat_cmp xs x) k → Contains xs k ⊎ (x ≡ k)) → Contains (y ∷ xs) k ⊎ (x ≡ k)
    by Less d rest = elim (first_or_behind x (y ∷ xs) k d) [ inl e ↦ inr e | inr f ↦ inl f ]
    by Equal d rest = inl d
    by Greater d rest = elim (first_or_behind y (insert_key nat_cmp xs x) k d) [
      | inl e ↦ let P : ℕ → Type 0 = λ z. Contains (y ∷ xs) z in inl (subst P e (here y xs))
      | inr f ↦ elim (rest f) [ inl g ↦ inl (behind y xs k g) | inr h ↦ inr h ]
    ]

insert_old : (xs : List ℕ) (x k : ℕ) → Contains xs k → Contains (insert_key nat_cmp xs x) k
insert_old [] x k c = absurd (none_in k c)
insert_old (y ∷ xs) x k c = by (nat_cmp x y) (insert_old xs x k)
  where
    by : (o : Ordering) → (Contains xs k → Contains (insert_key nat_cmp xs x) k) → Contains (match_ordering o (x ∷ y ∷ xs) (y ∷ xs) (y ∷ insert_key nat_cmp xs x)) k
    by Less rest = behind x (y ∷ xs) k c
    by Equal rest = c
    by Greater rest = elim (first_or_behind y xs k c) [
      | inl e ↦ let P : ℕ → Type 0 = λ z. Contains (y ∷ insert_key nat_cmp xs x) z in subst P e (here y (insert_key nat_cmp xs x))
      | inr d ↦ behind y (insert_key nat_cmp xs x) k (rest d)
    ]

insert_new : (xs : List ℕ) (x : ℕ) → Contains (insert_key nat_cmp xs x) x
insert_new [] x = here x []
insert_new (y ∷ xs) x = by (nat_cmp x y) refl (insert_new xs x)
  where
    by : (o : Ordering) → nat_cmp x y ≡ o → Contains (insert_key nat_cmp xs x) x → Contains (match_ordering o (x ∷ y ∷ xs) (y ∷ xs) (y ∷ insert_key nat_cmp xs x)) x
    by Less e rest = here x (y ∷ xs)
    by Equal e rest = let P : ℕ → Type 0 = λ z. Contains (y ∷ xs) z in subst P (sym (exact_unsigned x y e)) (here y xs)
    by Greater e rest = behind y (insert_key nat_cmp xs x) x rest

-- a set has what it had and what is put in
pub put_in : (old new : List ℕ) (x k : ℕ) → new ≡ insert_key nat_cmp old x → Contains new k → Contains old k ⊎ (x ≡ k)
put_in old new x k e c = let P : List ℕ → Type 0 = λ l. Contains l k in insert_to old x k (subst P e c)

pub stays_in : (old new : List ℕ) (x k : ℕ) → new ≡ insert_key nat_cmp old x → Contains old k → Contains new k
stays_in old new x k e c = let P : List ℕ → Type 0 = λ l. Contains l k in subst P (sym e) (insert_old old x k c)

pub comes_in : (old new : List ℕ) (x k : ℕ) → new ≡ insert_key nat_cmp old x → x ≡ k → Contains new k
comes_in old new x k e same =
    let P : List ℕ → Type 0 = λ l. Contains l k in
    let Q : ℕ → Type 0 = λ z. Contains (insert_key nat_cmp old x) z in
    subst P (sym e) (subst Q same (insert_new old x))

-- one more number is added
pub adds_one : (old new : List ℕ) (x : ℕ) → new ≡ insert_key nat_cmp old x → Adds (x ∷ []) old new
adds_one old new x e = record {
  kept = λ k c. stays_in old new x k e c;
  all = λ k c. comes_in old new x k e (only_one x k c);
  only = λ k c. elim (put_in old new x k e c) [ inl d ↦ inl d | inr f ↦ inr (subst (Contains (x ∷ [])) f (here x [])) ];
}

pub adds_none : (xs : List ℕ) → Adds [] xs xs
adds_none xs = gains_none (λ (l : List ℕ). l) (Contains []) xs none_in

pub adds_then : (a b x y z : List ℕ) → Adds a x y → Adds b y z → Adds (a ++ b) x z
adds_then a b x y z g h =
    gains_as (λ (l : List ℕ). l) (λ k. Contains a k ⊎ Contains b k) (Contains (a ++ b)) x z (gains_both (λ (l : List ℕ). l) (Contains a) (Contains b) x y z g h)
    (λ k s. elim s [ inl c ↦ Contains-append_left a b k c | inr c ↦ Contains-append_right a b k c ]) (Contains-append_cases a b)

pub adds_behind : (xs added : List ℕ) → Adds added xs (xs ++ added)
adds_behind xs added = record { kept = Contains-append_left xs added; all = Contains-append_right xs added; only = Contains-append_cases xs added }

-- the numbers of one more element
pub adds_more : {X : Type 0} (f : X → List ℕ) (xs : List X) (k : ℕ) (d x : X) (a b c : List ℕ) → k < length xs → x ≡ get_or xs k d → Adds (flat_map f (take k xs)) a b → Adds (f x) b c
    → Adds (flat_map f (take (k + 1) xs)) a c
adds_more f xs k d x a b c h is g s =
    let P : List ℕ → Type 0 = λ l. Adds l a c in
    subst P (sym (flat_map_next f xs k d x h is)) (adds_then (flat_map f (take k xs)) (f x) a b c g s)

pub adds_next : (numbers : List ℕ) (k x : ℕ) (a b c : List ℕ) → k < length numbers → x ≡ get_or numbers k 0 → Adds (take k numbers) a b → Adds (x ∷ []) b c → Adds (take (k + 1) numbers) a c
adds_next numbers k x a b c h is g s =
    let P : List ℕ → Type 0 = λ l. Adds l a c in
    subst P (sym (prefix_next numbers k 0 x h is)) (adds_then (take k numbers) (x ∷ []) a b c g s)

-- numbers below one

pub below_none : (number : ℕ) (xs : List ℕ) → AddsBelow [] number xs xs
below_none number xs = gains_none (λ (l : List ℕ). l) (λ k. Contains [] k × (k < number)) xs (λ k h. none_in k h.0)

pub below_one : (number : ℕ) (xs a b c : List ℕ) (x : ℕ) → x < number → AddsBelow xs number a b → c ≡ insert_key nat_cmp b x → AddsBelow (xs ++ x ∷ []) number a c
below_one number xs a b c x less g e = record {
  kept = λ k d. stays_in b c x k e (g.kept k d);
  all = λ k d. elim (Contains-push_cases xs x k d.0) [ inl h ↦ stays_in b c x k e (g.all k (h, d.1)) | inr h ↦ comes_in b c x k e h ];
  only = λ k d. elim (put_in b c x k e d) [
    | inl f ↦ elim (g.only k f) [ inl h ↦ inl h | inr h ↦ inr (Contains-append_left xs (x ∷ []) k h.0, h.1) ]
    | inr f ↦ let P : ℕ → Type 0 = λ z. Contains (xs ++ x ∷ []) z × (z < number) in inr (subst P f (Contains-push xs x, less))
  ];
}

pub below_other : (number : ℕ) (xs a b : List ℕ) (x : ℕ) → number ≤ x → AddsBelow xs number a b → AddsBelow (xs ++ x ∷ []) number a b
below_other number xs a b x more g =
    gains_as (λ (l : List ℕ). l) (λ k. Contains xs k × (k < number)) (λ k. Contains (xs ++ x ∷ []) k × (k < number)) a b g
    (λ k h. (Contains-append_left xs (x ∷ []) k h.0, h.1))
    (λ k h. elim (Contains-push_cases xs x k h.0) [ inl c ↦ (c, h.1) | inr e ↦ absurd (omega (arith, e, more, h.1)) ])
