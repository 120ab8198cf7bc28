-- A set has one list in ascending order.
use Rattle.std.proofs.Common.{◌≡◌, ◌⊎◌, inl, inr, true, ℕ, zero, suc, List, [], ◌∷◌, Some, refl, sym, ap, ap₂, ◌∙◌, subst, arith}
use Rattle.std.proofs.lemmas.Cmp.{nat_cmp_total, tied_itself}
use Rattle.std.proofs.lemmas.Option.{get_or_from_slice_get, slice_get-get_or, slice_get_within}
use Rattle.std.specs.Cmp.{IsTotalOrder, nat_cmp_is}
use Rattle.std.specs.List.{Contains}
use Rattle.std.specs.Ordering.{is_eq, nat_cmp, ordering_reverse}
use Rattle.std.specs.declared.cmp.Ordering.{Ordering}
use Rattle.std.specs.declared.cmp.Ordering.TheVariants.{Less, Greater, Equal}
use Rattle.lf_laws.specs.Ascending.{AreAscending, IsAscending, IsInOrder}
use Rattle.lf_laws.proofs.Members.{behind, first_or_behind, here, none_in, only_one}
use Rattle.lf_laws.proofs.Slices.{member_at}

-- what neither comes before nor behind another is tied with it
pub tied : (o : Ordering) → is_eq o ≡ true → o ≡ Equal
tied Less e = cc
tied Equal e = refl
tied Greater e = cc

module _ {X : Type 0} (cmp : X → X → Ordering) where
  pub none_ascends : IsAscending cmp []
  none_ascends i j x y less at behind = absurd (none_in x (member_at [] i x at))

  pub tail_ascends : (x : X) (xs : List X) → IsAscending cmp (x ∷ xs) → IsAscending cmp xs
  tail_ascends x xs ascends i j y z less = ascends (suc i) (suc j) y z (omega (arith, less))

  pub head_less : (x y : X) (xs : List X) → IsAscending cmp (x ∷ xs) → Contains xs y → cmp x y ≡ Less
  head_less x y xs ascends c = ascends zero (suc c.0) x y (omega arith) refl (slice_get-get_or xs c.0 y c.1 ∙ ap Some c.2)

  -- in front of a list of greater values
  pub ascends_behind : (x : X) (xs : List X) → IsAscending cmp xs → ((y : X) → Contains xs y → cmp x y ≡ Less) → IsAscending cmp (x ∷ xs)
  ascends_behind x xs ascends less zero zero y z lt a b = absurd (omega (arith, lt))
  ascends_behind x xs ascends less zero (suc j) y z lt a b = let same : x ≡ y = (let e : Some x ≡ Some y = a in cc) in subst (λ (w : X). cmp w z ≡ Less) same (less z (member_at xs j z b))
  ascends_behind x xs ascends less (suc i) zero y z lt a b = absurd (omega (arith, lt))
  ascends_behind x xs ascends less (suc i) (suc j) y z lt a b = ascends i j y z (omega (arith, lt)) a b

  pub alone_ascends : (x : X) → IsAscending cmp (x ∷ [])
  alone_ascends x = ascends_behind x [] none_ascends (λ y c. absurd (none_in y c))

-- ---- two lists of the same values

module _ {X : Type 0} {cmp : X → X → Ordering} (total : IsTotalOrder cmp) where
  pub less_itself : (x : X) → cmp x x ≡ Less → ⊥
  less_itself x less = let tied = sym less ∙ tied_itself total x in cc

  less_both : (x y : X) → cmp x y ≡ Less → cmp y x ≡ Less → ⊥
  less_both x y less more = let clash : Less ≡ Greater = sym less ∙ total.antisymm x y ∙ ap ordering_reverse more in cc

  abbrev Within : List X → List X → Type 0
  Within xs ys = (x : X) → Contains xs x → Contains ys x

  -- the members of one tail are those of the other
  tail_within : (x : X) (xs ys : List X) → IsAscending cmp (x ∷ xs) → Within (x ∷ xs) (x ∷ ys) → Within xs ys
  tail_within x xs ys ascends within y c = elim (first_or_behind x ys y (within y (behind x xs y c))) [
    | inl e ↦ absurd (less_itself x (subst (λ (z : X). cmp x z ≡ Less) (sym e) (head_less cmp x y xs ascends c)))
    | inr later ↦ later
  ]

  same_heads : (x y : X) (xs ys : List X) → IsAscending cmp (x ∷ xs) → IsAscending cmp (y ∷ ys) → Within (x ∷ xs) (y ∷ ys) → Within (y ∷ ys) (x ∷ xs) → x ≡ y
  same_heads x y xs ys one another within back = by (first_or_behind y ys x (within x (here x xs))) (first_or_behind x xs y (back y (here y ys)))
    where
      by : (y ≡ x) ⊎ Contains ys x → (x ≡ y) ⊎ Contains xs y → x ≡ y
      by (inl e) _ = sym e
      by (inr later) (inl e) = e
      by (inr later) (inr before) = absurd (less_both x y (head_less cmp x y xs one before) (head_less cmp y x ys another later))

  pub same_lists : (xs ys : List X) → IsAscending cmp xs → IsAscending cmp ys → Within xs ys → Within ys xs → xs ≡ ys
  same_lists [] [] one another within back = refl
  same_lists [] (y ∷ ys) one another within back = absurd (none_in y (back y (here y ys)))
  same_lists (x ∷ xs) [] one another within back = absurd (none_in x (within x (here x xs)))
  same_lists (x ∷ xs) (y ∷ ys) one another within back =
      let e = same_heads x y xs ys one another within back in
      let to : Within (x ∷ xs) (x ∷ ys) = subst (λ (z : X). Within (x ∷ xs) (z ∷ ys)) (sym e) within in
      let from : Within (x ∷ ys) (x ∷ xs) = subst (λ (z : X). Within (z ∷ ys) (x ∷ xs)) (sym e) back in
      let ascends : IsAscending cmp (x ∷ ys) = subst (λ (z : X). IsAscending cmp (z ∷ ys)) (sym e) another in
      ap₂ (λ (z : X) (l : List X). z ∷ l) e
      (same_lists xs ys (tail_ascends cmp x xs one) (tail_ascends cmp y ys another) (tail_within x xs ys one to) (tail_within x ys xs ascends from))

-- ---- the list of some values

module _ {X : Type 0} {cmp : X → X → Ordering} (total : IsTotalOrder cmp) (exact : (x y : X) → cmp x y ≡ Equal → x ≡ y) where
  -- a list that ascends and has the members of another, and one value more
  record IsPut (x : X) (xs more : List X) : Type 0 where
    ascending : IsAscending cmp more
    new : Contains more x
    kept : (y : X) → Contains xs y → Contains more y
    only : (y : X) → Contains more y → (x ≡ y) ⊎ Contains xs y

  -- in front of a list whose first is greater
  put_first : (x y : X) (xs : List X) → IsAscending cmp (y ∷ xs) → cmp x y ≡ Less → IsPut x (y ∷ xs) (x ∷ y ∷ xs)
  put_first x y xs ascends less = record {
    ascending = ascends_behind cmp x (y ∷ xs) ascends (λ z c. elim (first_or_behind y xs z c) [
      | inl e ↦ subst (λ (w : X). cmp x w ≡ Less) e less
      | inr later ↦ total.trans x y z less (head_less cmp y z xs ascends later)
    ]);
    new = here x (y ∷ xs);
    kept = λ z c. behind x (y ∷ xs) z c;
    only = λ z c. first_or_behind x (y ∷ xs) z c;
  }

  put_behind : (x y : X) (xs more : List X) → IsAscending cmp (y ∷ xs) → cmp y x ≡ Less → IsPut x xs more → IsPut x (y ∷ xs) (y ∷ more)
  put_behind x y xs more ascends less put = record {
    ascending = ascends_behind cmp y more put.ascending (λ z c. elim (put.only z c) [
      | inl e ↦ subst (λ (w : X). cmp y w ≡ Less) e less
      | inr old ↦ head_less cmp y z xs ascends old
    ]);
    new = behind y more x put.new;
    kept = λ z c. elim (first_or_behind y xs z c) [
      | inl e ↦ subst (Contains (y ∷ more)) e (here y more)
      | inr later ↦ behind y more z (put.kept z later)
    ];
    only = λ z c. elim (first_or_behind y more z c) [
      | inl e ↦ inr (subst (Contains (y ∷ xs)) e (here y xs))
      | inr later ↦ elim (put.only z later) [
        | inl e ↦ inl e
        | inr old ↦ inr (behind y xs z old)
      ]
    ];
  }

  put : (x : X) (xs : List X) → IsAscending cmp xs → (more : List X) × IsPut x xs more
  put x [] ascends = (x ∷ [], record { ascending = alone_ascends cmp x; new = here x []; kept = λ y c. absurd (none_in y c); only = λ y c. inl (only_one x y c) })
  put x (y ∷ xs) ascends = by (cmp x y) refl (put x xs (tail_ascends cmp y xs ascends))
    where
      by : (o : Ordering) → cmp x y ≡ o → (more : List X) × IsPut x xs more → (more : List X) × IsPut x (y ∷ xs) more
      by Less e rest = (x ∷ y ∷ xs, put_first x y xs ascends e)
      by Equal e rest = (y ∷ xs, record { ascending = ascends; new = subst (Contains (y ∷ xs)) (sym (exact x y e)) (here y xs); kept = λ z c. c; only = λ z c. inr c })
      by Greater e rest = (y ∷ rest.0, put_behind x y xs rest.0 ascends (total.antisymm y x ∙ ap ordering_reverse e) rest.1)

  pub in_order : (listed : List X) → (found : List X) × IsInOrder cmp listed found
  in_order [] = ([], record { ascending = none_ascends cmp; kept = λ x c. c; only = λ x c. c })
  in_order (x ∷ xs) =
      let rest = in_order xs in
      let placed = put x rest.0 rest.1.ascending in (
        placed.0,
        record {
          ascending = placed.1.ascending;
          kept = λ y c. elim (first_or_behind x xs y c) [
            | inl e ↦ subst (Contains placed.0) e placed.1.new
            | inr later ↦ placed.1.kept y (rest.1.kept y later)
          ];
          only = λ y c. elim (placed.1.only y c) [
            | inl e ↦ subst (Contains (x ∷ xs)) e (here x xs)
            | inr old ↦ behind x xs y (rest.1.only y old)
          ];
        },
      )

-- ---- numbers

pub numbers_ascend : (ks : List ℕ) → AreAscending ks → IsAscending nat_cmp ks
numbers_ascend ks ascend i j x y less at behind =
    let step = ascend i j less (slice_get_within ks j y behind) in
    let first = get_or_from_slice_get ks i x 0 at in
    let second = get_or_from_slice_get ks j y 0 behind in
    sym (nat_cmp_is x y Less (omega (arith, step, first, second)))

pub same_numbers : (js ks : List ℕ) → AreAscending js → AreAscending ks → ((k : ℕ) → Contains js k → Contains ks k) → ((k : ℕ) → Contains ks k → Contains js k) → js ≡ ks
same_numbers js ks one other within back = same_lists nat_cmp_total js ks (numbers_ascend js one) (numbers_ascend ks other) within back
