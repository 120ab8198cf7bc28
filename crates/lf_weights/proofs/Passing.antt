-- What the masks of components have while they are joined, from the first component on.
use Rattle.std.proofs.Common.{◌≡◌, ◌⊎◌, ℕ, ◌<◌, ◌≤◌, ◌+◌, ◌*◌, ◌%◌, ◌^◌, List, [], ◌∷◌, fold, length, get_or, set, w64, inl, inr, refl, sym, ◌∙◌, ap, subst, arith}
use Rattle.std.specs.Prelude.{bit_or}
use Rattle.std.specs.Int.{bit_at}
use Rattle.std.specs.List.{Contains}
use Rattle.std.proofs.lemmas.Bool.{cases_eq, cases_lt}
use Rattle.std.proofs.lemmas.List.{get_or-set_other, get_or-set_same, length-set}
use Rattle.std.proofs.lemmas.Nat.Bits.{bit_at-lt, bit_at_or, bit_at_set_other, bit_at_set_same}
use Rattle.lf_graph.specs.Paths.{Leads, along, nowhere}
use Rattle.lf_laws.proofs.Members.{behind, first_or_behind, here, none_in}
use Rattle.lf_weights.specs.views.Masks.{AreMasks, IsOwn, LeadsInto, joined, mask_at}

-- the masks before a component are those of what it leads to, and the others have their own nodes
abbrev pub HasSoFar : List (List ℕ) → List ℕ → ℕ → ℕ → ℕ → Type 0
HasSoFar nexts numbers n k j = ((k < n) × LeadsInto nexts numbers k j) ⊎ ((n ≤ k) × IsOwn numbers k j)

-- a bit of joined masks is one of either

either : (a b j : ℕ) → bit_at (bit_or a b) j ≡ 1 → (bit_at a j ≡ 1) ⊎ (bit_at b j ≡ 1)
either a b j e =
    let or = bit_at_or a b j in
    let low = bit_at-lt a j in
    elim (cases_eq (bit_at a j) 1) [
      | inl is ↦ inl is
      | inr not ↦ let zero : bit_at a j ≡ 0 = below (bit_at a j) low not in inr (omega (arith, or, zero, e))
    ]
  where
    below : (n : ℕ) → n < 2 → (n ≡ 1 → ⊥) → n ≡ 0
    below n less not = elim (cases_lt n 1) [ inl h ↦ omega (arith, h) | inr h ↦ absurd (not (omega (arith, h, less))) ]

of_left : (a b j : ℕ) → bit_at a j ≡ 1 → bit_at (bit_or a b) j ≡ 1
of_left a b j e = let or = bit_at_or a b j in let low = bit_at-lt b j in omega (arith, or, low, e)

of_right : (a b j : ℕ) → bit_at b j ≡ 1 → bit_at (bit_or a b) j ≡ 1
of_right a b j e = let or = bit_at_or a b j in let low = bit_at-lt a j in omega (arith, or, low, e)

module _ (masks : List ℕ) (j : ℕ) where
  -- some of these masks has the bit
  abbrev SomeHas : List ℕ → Type 0
  SomeHas others = (l : ℕ) × Contains others l × (bit_at (mask_at masks l) j ≡ 1)

  folded : ℕ → List ℕ → ℕ
  folded mask others = fold (λ m l. bit_or m (mask_at masks l)) mask others

  has_all : (mask : ℕ) (others : List ℕ) → (bit_at mask j ≡ 1) ⊎ SomeHas others → bit_at (folded mask others) j ≡ 1
  unfolding folded
  has_all mask [] (inl e) = e
  has_all mask [] (inr s) = absurd (none_in s.0 s.1)
  has_all mask (l ∷ others) (inl e) = has_all (bit_or mask (mask_at masks l)) others (inl (of_left mask (mask_at masks l) j e))
  has_all mask (l ∷ others) (inr s) = elim (first_or_behind l others s.0 s.1) [
    | inl e ↦ has_all (bit_or mask (mask_at masks l)) others (inl (of_right mask (mask_at masks l) j (ap (λ (k : ℕ). bit_at (mask_at masks k) j) e ∙ s.2)))
    | inr c ↦ has_all (bit_or mask (mask_at masks l)) others (inr (s.0, c, s.2))
  ]

  has_only : (mask : ℕ) (others : List ℕ) → bit_at (folded mask others) j ≡ 1 → (bit_at mask j ≡ 1) ⊎ SomeHas others
  unfolding folded
  has_only mask [] e = inl e
  has_only mask (l ∷ others) e = elim (has_only (bit_or mask (mask_at masks l)) others e) [
    | inl f ↦ elim (either mask (mask_at masks l) j f) [ inl g ↦ inl g | inr g ↦ inr (l, here l others, g) ]
    | inr s ↦ inr (s.0, behind l others s.0 s.1, s.2)
  ]

-- what a component leads to is of itself, or a lesser one next to it leads to it
module _ (nexts : List (List ℕ)) (down : (k l : ℕ) → Contains (get_or nexts k []) l → l ≤ k) where
  abbrev GoesOn : ℕ → ℕ → Type 0
  GoesOn t k = (t ≡ k) ⊎ ((l : ℕ) × Contains (get_or nexts k []) l × (l < k) × Leads nexts l t)

  goes_on : (k t : ℕ) → Leads nexts k t → GoesOn t k
  goes_on k t nowhere = inl refl
  goes_on k t (along l c p) = elim (cases_lt l k) [
    | inl less ↦ inr (l, c, less, p)
    | inr more ↦ let e : l ≡ k = omega (arith, more, down k l c) in subst (GoesOn t) e (goes_on l t p)
  ]

  stays : (k t : ℕ) → t ≡ k → Leads nexts k t
  stays k t e = let P : ℕ → Type 0 = λ z. Leads nexts k z in subst P (sym e) nowhere

  module _ (numbers masks : List ℕ) (n : ℕ) (within : n < length nexts) (are : AreMasks (length nexts) (HasSoFar nexts numbers n) masks) where
    abbrev next : List ℕ
    next = get_or nexts n []

    has_it : (j : ℕ) → bit_at (joined masks n next) j ≡ 1 → LeadsInto nexts numbers n j
    unfolding folded
    has_it j e = elim (has_only masks j (mask_at masks n) next e) [
      | inl own ↦ elim ((are.bits n j within).0 own) [
        | inl d ↦ absurd (omega (arith, d.0))
        | inr d ↦ (d.1.0, stays n (get_or numbers j 0) d.1.1)
      ]
      | inr s ↦ elim ((are.bits s.0 j (omega (arith, within, down n s.0 s.1))).0 s.2) [
        | inl d ↦ (d.1.0, along s.0 s.1 d.1.1)
        | inr d ↦ (d.1.0, along s.0 s.1 (stays s.0 (get_or numbers j 0) d.1.1))
      ]
    ]

    gets_it : (j : ℕ) → LeadsInto nexts numbers n j → bit_at (joined masks n next) j ≡ 1
    unfolding folded
    gets_it j into = has_all masks j (mask_at masks n) next (elim (goes_on n (get_or numbers j 0) into.1) [
      | inl e ↦ inl ((are.bits n j within).1 (inr (omega arith, (into.0, e))))
      | inr d ↦ let less = d.2 in inr (d.0, d.1, (are.bits d.0 j (omega (arith, less, within))).1 (inl (less, (into.0, d.3))))
    ])

    pub one_more : AreMasks (length nexts) (HasSoFar nexts numbers (n + 1)) (set masks n (joined masks n next))
    one_more =
        let mask : ℕ = joined masks n next in
        let inside : n < length masks = omega (arith, within, are.size) in
        record {
          size = length-set masks n mask ∙ are.size;
          bits = λ k j less. elim (cases_eq k n) [
            | inl same ↦
                let is : get_or (set masks n mask) k 0 ≡ mask = ap (λ (i : ℕ). get_or (set masks n mask) i 0) same ∙ get_or-set_same masks n mask 0 inside in
                let K : ℕ → Type 0 = λ i. LeadsInto nexts numbers i j in (
                  λ e. inl (omega (arith, same), subst K (sym same) (has_it j (ap (λ (m : ℕ). bit_at m j) (sym is) ∙ e))),
                  λ h. ap (λ (m : ℕ). bit_at m j) is ∙ gets_it j (elim h [ inl d ↦ subst K same d.1 | inr d ↦ absurd (omega (arith, same, d.0)) ]),
                )
            | inr other ↦
                let is : get_or (set masks n mask) k 0 ≡ get_or masks k 0 = get_or-set_other masks n k mask 0 other in (
                  λ e. elim ((are.bits k j less).0 (ap (λ (m : ℕ). bit_at m j) (sym is) ∙ e)) [
                    | inl d ↦ inl (omega (arith, d.0), d.1)
                    | inr d ↦ inr (behind_it k other d.0, d.1)
                  ],
                  λ h. ap (λ (m : ℕ). bit_at m j) is ∙ (are.bits k j less).1 (elim h [
                    | inl d ↦ inl (before_it k other d.0, d.1)
                    | inr d ↦ inr (omega (arith, d.0), d.1)
                  ]),
                )
          ];
        }
      where
        behind_it : (k : ℕ) → (k ≡ n → ⊥) → n ≤ k → n + 1 ≤ k
        behind_it k other le = elim (cases_lt n k) [ inl h ↦ omega (arith, h) | inr h ↦ absurd (other (omega (arith, h, le))) ]

        before_it : (k : ℕ) → (k ≡ n → ⊥) → k < n + 1 → k < n
        before_it k other lt = elim (cases_lt k n) [ inl h ↦ h | inr h ↦ absurd (other (omega (arith, h, lt))) ]

-- before all are joined each has its own nodes, and once all are joined those of all that it leads to

pub none_joined : (nexts : List (List ℕ)) (numbers masks : List ℕ) → AreMasks (length nexts) (IsOwn numbers) masks → AreMasks (length nexts) (HasSoFar nexts numbers 0) masks
none_joined nexts numbers masks are = record {
  size = are.size;
  bits = λ k j less. (
    λ e. inr (omega arith, (are.bits k j less).0 e),
    λ h. (are.bits k j less).1 (elim h [ inl d ↦ absurd (omega (arith, d.0)) | inr d ↦ d.1 ]),
  );
}

pub all_joined : (nexts : List (List ℕ)) (numbers masks : List ℕ) (n : ℕ) → n ≡ length nexts → AreMasks (length nexts) (HasSoFar nexts numbers n) masks → AreMasks (length nexts) (LeadsInto nexts numbers) masks
all_joined nexts numbers masks n all are = record {
  size = are.size;
  bits = λ k j less. (
    λ e. elim ((are.bits k j less).0 e) [ inl d ↦ d.1 | inr d ↦ absurd (omega (arith, all, less, d.0)) ],
    λ h. (are.bits k j less).1 (inl (omega (arith, all, less), h)),
  );
}

-- the masks of components with the nodes before a place of the block

abbrev pub HasBefore : List ℕ → ℕ → ℕ → ℕ → Type 0
HasBefore numbers n k j = (j < n) × (get_or numbers j 0 ≡ k)

module _ (numbers masks : List ℕ) (count n : ℕ) where
  pub one_more_node : n < 64 → get_or numbers n 0 < count → AreMasks count (HasBefore numbers n) masks
      → AreMasks count (HasBefore numbers (n + 1)) (set masks (get_or numbers n 0) (bit_or (get_or masks (get_or numbers n 0) 0) (1 * 2 ^ n % 2 ^ 64)))
  one_more_node few within are =
      let number : ℕ = get_or numbers n 0 in
      let was : ℕ = get_or masks number 0 in
      let mask : ℕ = bit_or was (1 * 2 ^ n % 2 ^ 64) in
      let inside : number < length masks = omega (arith, within, are.size) in
      record {
        size = length-set masks number mask ∙ are.size;
        bits = λ k j less. elim (cases_eq k number) [
          | inl same ↦
              let is : get_or (set masks number mask) k 0 ≡ mask = ap (λ (i : ℕ). get_or (set masks number mask) i 0) same ∙ get_or-set_same masks number mask 0 inside in
              elim (cases_eq j n) [
                | inl last ↦ (
                  λ e. (omega (arith, last), ap (λ (i : ℕ). get_or numbers i 0) last ∙ sym same),
                  λ d. ap (λ (m : ℕ). bit_at m j) is ∙ ap (bit_at mask) last ∙ bit_at_set_same w64 was n few,
                )
                | inr before ↦
                    let keeps : bit_at mask j ≡ bit_at was j = bit_at_set_other w64 was n few j before in
                    let bits = are.bits k j less in
                    let old : bit_at (get_or masks k 0) j ≡ bit_at was j = ap (λ (i : ℕ). bit_at (get_or masks i 0) j) same in (
                      λ e. let d = bits.0 (old ∙ sym keeps ∙ ap (λ (m : ℕ). bit_at m j) (sym is) ∙ e) in (omega (arith, d.0), d.1),
                      λ d. ap (λ (m : ℕ). bit_at m j) is ∙ keeps ∙ sym old ∙ bits.1 (before_it j before d.0, d.1),
                    )
              ]
          | inr other ↦
              let is : get_or (set masks number mask) k 0 ≡ get_or masks k 0 = get_or-set_other masks number k mask 0 other in
              let bits = are.bits k j less in (
                λ e. let d = bits.0 (ap (λ (m : ℕ). bit_at m j) (sym is) ∙ e) in (omega (arith, d.0), d.1),
                λ d. ap (λ (m : ℕ). bit_at m j) is ∙ bits.1 (before_it j (λ last. other (sym d.1 ∙ ap (λ (i : ℕ). get_or numbers i 0) last)) d.0, d.1),
              )
        ];
      }
    where
      before_it : (j : ℕ) → (j ≡ n → ⊥) → j < n + 1 → j < n
      before_it j other lt = elim (cases_lt j n) [ inl h ↦ h | inr h ↦ absurd (other (omega (arith, h, lt))) ]
