-- Bits in lists of words.
use Rattle.std.proofs.Common.{◌≡◌, ◌≢◌, ℕ, zero, suc, ◌+◌, ◌*◌, ◌/◌, ◌%◌, ◌<◌, ◌≤◌, Bool, true, false, List, [], ◌∷◌, length, replicate, get_or, inl, inr, refl, sym, ◌∙◌, ap, arith, length-set}
use Rattle.std.proofs.Math.ListN.{set}
use Rattle.std.proofs.Math.Nat.{div-add-mod}
use Rattle.std.proofs.lemmas.Bool.{cases_eq, cases_lt}
use Rattle.std.proofs.lemmas.List.{same_lists, get_or-replicate, get_or-set_same, get_or-set_other, length-replicate}
use Rattle.std.proofs.lemmas.List.FromFn.{get_or-map-range_with_len, length-map-range_with_len}
use Rattle.lf_classes.specs.views.Bits.{bit, bit_of, bits_of}
use Rattle.lf_laws.proofs.Booleans.{clash}

pub length_bits : (words : List ℕ) (len : ℕ) → length (bits_of words len) ≡ len
length_bits words len = length-map-range_with_len (bit_of words) 0 len

pub get_bits : (words : List ℕ) (len k : ℕ) (d : Bool) → k < len → get_or (bits_of words len) k d ≡ bit_of words k
get_bits words len k d h = get_or-map-range_with_len (bit_of words) 0 len k k d h (omega arith)

-- past the last bit nothing is set
pub past_bits : (words : List ℕ) (len k : ℕ) → len ≤ k → get_or (bits_of words len) k false ≡ false
past_bits words len k h = past (bits_of words len) k (omega (arith, length_bits words len))
  where
    past : (xs : List Bool) (k : ℕ) → length xs ≤ k → get_or xs k false ≡ false
    past [] k h = refl
    past (x ∷ xs) zero h = absurd (omega arith)
    past (x ∷ xs) (suc k) h = past xs k (omega arith)

-- one word is another: its bits, and the others

pub bit_here : (words : List ℕ) (number w k : ℕ) → number < length words → k / 64 ≡ number → bit_of (set words number w) k ≡ bit w (k % 64)
bit_here words number w k h e = ap (λ n. bit (get_or (set words number w) n 0) (k % 64)) e ∙ ap (λ x. bit x (k % 64)) (get_or-set_same words number w 0 h)

pub bit_there : (words : List ℕ) (number w k : ℕ) → k / 64 ≢ number → bit_of (set words number w) k ≡ bit_of words k
bit_there words number w k n = ap (λ x. bit x (k % 64)) (get_or-set_other words number (k / 64) w 0 n)

-- a word alone

pub bit_alone : (words : List ℕ) (number k : ℕ) → k / 64 ≡ number → bit_of words k ≡ bit (get_or words number 0) (k % 64)
bit_alone words number k e = ap (λ n. bit (get_or words n 0) (k % 64)) e

-- one bit is set or cleared

module _ (words : List ℕ) (len k w : ℕ) (on : Bool) (h : k < len) (fit : len ≤ 64 * length words) (same : bit w (k % 64) ≡ on)
    (others : (i : ℕ) → i < 64 → i ≢ k % 64 → bit w i ≡ bit (get_or words (k / 64) 0) i) where
  within : k / 64 < length words
  within = omega (arith, div-add-mod k 64)

  elsewhere : (j : ℕ) → j ≢ k → bit_of (set words (k / 64) w) j ≡ bit_of words j
  elsewhere j n = elim (cases_eq (j / 64) (k / 64)) [
    | inl e ↦ (let m : j % 64 ≢ k % 64 = λ q. n (omega (arith, div-add-mod j 64, div-add-mod k 64)) in
        bit_here words (k / 64) w j within e ∙ others (j % 64) (omega arith) m ∙ sym (bit_alone words (k / 64) j e))
    | inr d ↦ bit_there words (k / 64) w j d
  ]

  pub set_bits : bits_of (set words (k / 64) w) len ≡ set (bits_of words len) k on
  set_bits =
      let b : k < length (bits_of words len) = omega (arith, length_bits words len) in
      same_lists (bits_of (set words (k / 64) w) len) (set (bits_of words len) k on)
      (omega (arith, length_bits words len, length_bits (set words (k / 64) w) len, length-set (bits_of words len) k on))
      (λ j d c. let l : j < len = omega (arith, length_bits (set words (k / 64) w) len) in
      get_bits (set words (k / 64) w) len j d l ∙ (elim (cases_eq j k) [
        | inl e ↦ ap (bit_of (set words (k / 64) w)) e ∙ (bit_here words (k / 64) w k within refl ∙ same) ∙ sym (ap (λ i. get_or (set (bits_of words len) k on) i d) e ∙ get_or-set_same (bits_of words len) k on d b)
        | inr n ↦ elsewhere j n ∙ sym (get_or-set_other (bits_of words len) k j on d n ∙ get_bits words len j d l)
      ]))

-- a range is made anew word by word

-- the words below the number are done: at each place from `from` on and below `to` the bit is that of `f`. The other bits are as they were
pub record IsChanged (f : ℕ → Bool) (old words : List ℕ) (from to number : ℕ) : Type 0 where
  pub len : length words ≡ length old
  pub inside : (k : ℕ) → from ≤ k → k < to → k < 64 * number → bit_of words k ≡ f k
  pub below : (k : ℕ) → k < from → bit_of words k ≡ bit_of old k
  pub above : (k : ℕ) → to ≤ k → bit_of words k ≡ bit_of old k
  pub later : (n : ℕ) → number ≤ n → get_or words n 0 ≡ get_or old n 0

module _ (f : ℕ → Bool) (old words : List ℕ) (from to number word mask w : ℕ) (h : number < length words) (before : IsChanged f old words from to number) (read : word ≡ get_or words number 0)
    (kept : (i : ℕ) → i < 64 → bit mask i ≡ false → bit w i ≡ bit word i)
    (made : (i : ℕ) → i < 64 → bit mask i ≡ true → bit w i ≡ f (64 * number + i))
    (within : (i : ℕ) → i < 64 → from ≤ 64 * number + i → 64 * number + i < to → bit mask i ≡ true)
    (under : (i : ℕ) → i < 64 → 64 * number + i < from → bit mask i ≡ false)
    (over : (i : ℕ) → i < 64 → to ≤ 64 * number + i → bit mask i ≡ false) where
  -- the place of a bit of the word
  at_number : (k : ℕ) → k / 64 ≡ number → 64 * number + k % 64 ≡ k
  at_number k e = omega (arith, div-add-mod k 64)

  same_word : (k : ℕ) → k / 64 ≡ number → bit mask (k % 64) ≡ false → bit_of (set words number w) k ≡ bit_of words k
  same_word k e off =
      bit_here words number w k h e ∙ kept (k % 64) (omega arith) off ∙ ap (λ x. bit x (k % 64)) read ∙ sym (bit_alone words number k e)

  pub changed_more : IsChanged f old (set words number w) from to (number + 1)
  changed_more = record {
    len = length-set words number w ∙ before.len;
    inside = λ k l u b. elim (cases_eq (k / 64) number) [
      | inl e ↦ bit_here words number w k h e ∙ made (k % 64) (omega arith) (within (k % 64) (omega arith) (omega (arith, at_number k e)) (omega (arith, at_number k e))) ∙ ap f (at_number k e)
      | inr n ↦ bit_there words number w k n ∙ before.inside k l u (omega (arith, div-add-mod k 64))
    ];
    below = λ k l. elim (cases_eq (k / 64) number) [
      | inl e ↦ same_word k e (under (k % 64) (omega arith) (omega (arith, at_number k e))) ∙ before.below k l
      | inr n ↦ bit_there words number w k n ∙ before.below k l
    ];
    above = λ k u. elim (cases_eq (k / 64) number) [
      | inl e ↦ same_word k e (over (k % 64) (omega arith) (omega (arith, at_number k e))) ∙ before.above k u
      | inr n ↦ bit_there words number w k n ∙ before.above k u
    ];
    later = λ n l. get_or-set_other words number n w 0 (λ e. absurd (omega (arith, l, e))) ∙ before.later n (omega arith);
  }

pub changed_none : (f : ℕ → Bool) (words : List ℕ) (from to number : ℕ) → number ≡ from / 64 → IsChanged f words words from to number
changed_none f words from to number e = record {
  len = refl;
  inside = λ k l u b. absurd (omega (arith, div-add-mod from 64));
  below = λ k l. refl;
  above = λ k u. refl;
  later = λ n l. refl;
}

-- the bit of a word at a place, by its number among all

pub at_place : (words : List ℕ) (number i : ℕ) → i < 64 → bit_of words (64 * number + i) ≡ bit (get_or words number 0) i
at_place words number i h =
    let d : (64 * number + i) / 64 ≡ number = omega (arith, div-add-mod (64 * number + i) 64) in
    let m : (64 * number + i) % 64 ≡ i = omega (arith, div-add-mod (64 * number + i) 64) in
    bit_alone words number (64 * number + i) d ∙ ap (bit (get_or words number 0)) m

-- the bit that a word gets from itself and another
pub changed_here : (f : Bool → Bool → Bool) (old words others : List ℕ) (number i word : ℕ) → i < 64 → word ≡ get_or words number 0 → get_or words number 0 ≡ get_or old number 0
    → f (bit word i) (bit (get_or others number 0) i) ≡ f (bit_of old (64 * number + i)) (bit_of others (64 * number + i))
changed_here f old words others number i word h read same =
    ap (λ x. f (bit x i) (bit (get_or others number 0) i)) (read ∙ same)
    ∙ sym (ap (λ b. f b (bit_of others (64 * number + i))) (at_place old number i h) ∙ ap (f (bit (get_or old number 0) i)) (at_place others number i h))

-- a range is looked through word by word

module _ (words : List ℕ) (from to number word mask : ℕ) (read : word ≡ get_or words number 0)
    (within : (i : ℕ) → i < 64 → from ≤ 64 * number + i → 64 * number + i < to → bit mask i ≡ true)
    (under : (i : ℕ) → i < 64 → 64 * number + i < from → bit mask i ≡ false)
    (over : (i : ℕ) → i < 64 → to ≤ 64 * number + i → bit mask i ≡ false) where
  place_div : (i : ℕ) → i < 64 → (64 * number + i) / 64 ≡ number
  place_div i h = omega (arith, div-add-mod (64 * number + i) 64)

  place_mod : (i : ℕ) → i < 64 → (64 * number + i) % 64 ≡ i
  place_mod i h = omega (arith, div-add-mod (64 * number + i) 64)

  pub found_here : (i : ℕ) × (i < 64) × (bit word i ≡ true) × (bit mask i ≡ true) → (k : ℕ) × (from ≤ k) × (k < to) × (bit_of words k ≡ true)
  found_here r =
      let i = r.0 in
      let e : bit_of words (64 * number + i) ≡ bit (get_or words number 0) i =
      bit_alone words number (64 * number + i) (place_div i r.1) ∙ ap (bit (get_or words number 0)) (place_mod i r.1) in (
        64 * number + i,
        (elim (cases_lt (64 * number + i) from) [ inl b ↦ absurd (clash (bit mask i) r.3 (under i r.1 b)) | inr b ↦ b ]),
        (elim (cases_lt (64 * number + i) to) [ inl b ↦ b | inr b ↦ absurd (clash (bit mask i) r.3 (over i r.1 b)) ]),
        e ∙ sym (ap (λ x. bit x i) read) ∙ r.2,
      )

  pub none_more : ((k : ℕ) → from ≤ k → k < to → k < 64 * number → bit_of words k ≡ false) → ((i : ℕ) → i < 64 → bit mask i ≡ true → bit word i ≡ false)
      → (k : ℕ) → from ≤ k → k < to → k < 64 * (number + 1) → bit_of words k ≡ false
  none_more before none k l u b = elim (cases_eq (k / 64) number) [
    | inl e ↦ (let q : 64 * number + k % 64 ≡ k = omega (arith, div-add-mod k 64) in
        bit_alone words number k e ∙ sym (ap (λ x. bit x (k % 64)) read) ∙ none (k % 64) (omega arith) (within (k % 64) (omega arith) (omega arith) (omega arith)))
    | inr n ↦ before k l u (omega (arith, div-add-mod k 64))
  ]

-- a word is looked through for a bit that another lacks

module _ (words others : List ℕ) (to number mask rest : ℕ)
    (kept : (i : ℕ) → i < 64 → bit (get_or others number 0) i ≡ false → bit rest i ≡ bit (get_or words number 0) i)
    (cleared : (i : ℕ) → i < 64 → bit (get_or others number 0) i ≡ true → bit rest i ≡ false)
    (within : (i : ℕ) → i < 64 → 0 ≤ 64 * number + i → 64 * number + i < to → bit mask i ≡ true)
    (over : (i : ℕ) → i < 64 → to ≤ 64 * number + i → bit mask i ≡ false) where
  pub lacked_here : (i : ℕ) × (i < 64) × (bit rest i ≡ true) × (bit mask i ≡ true) → (k : ℕ) × (k < to) × (bit_of words k ≡ true) × (bit_of others k ≡ false)
  lacked_here r = by (bit (get_or others number 0) r.0) refl
    where
      by : (b : Bool) → bit (get_or others number 0) r.0 ≡ b → (k : ℕ) × (k < to) × (bit_of words k ≡ true) × (bit_of others k ≡ false)
      by true e = absurd (clash (bit rest r.0) r.2 (cleared r.0 r.1 e))
      by false e = (
        64 * number + r.0,
        (elim (cases_lt (64 * number + r.0) to) [ inl b ↦ b | inr b ↦ absurd (clash (bit mask r.0) r.3 (over r.0 r.1 b)) ]),
        at_place words number r.0 r.1 ∙ sym (kept r.0 r.1 e) ∙ r.2,
        at_place others number r.0 r.1 ∙ e,
      )

  pub all_more : ((k : ℕ) → k < to → k < 64 * number → bit_of words k ≡ true → bit_of others k ≡ true) → ((i : ℕ) → i < 64 → bit mask i ≡ true → bit rest i ≡ false)
      → (k : ℕ) → k < to → k < 64 * (number + 1) → bit_of words k ≡ true → bit_of others k ≡ true
  all_more before none k l u on = elim (cases_eq (k / 64) number) [
    | inl e ↦ bit_alone others number k e ∙ here e (bit (get_or others number 0) (k % 64)) refl
    | inr n ↦ before k l (omega (arith, div-add-mod k 64)) on
  ]
    where
      here : k / 64 ≡ number → (b : Bool) → bit (get_or others number 0) (k % 64) ≡ b → bit (get_or others number 0) (k % 64) ≡ true
      here e true f = f
      here e false f =
          let q : 64 * number + k % 64 ≡ k = omega (arith, div-add-mod k 64) in
          absurd (clash (bit rest (k % 64)) (kept (k % 64) (omega arith) f ∙ sym (bit_alone words number k e) ∙ on) (none (k % 64) (omega arith) (within (k % 64) (omega arith) (omega arith) (omega (arith, q)))))

-- words of one kind

pub bits_alike : (word n len : ℕ) (on : Bool) → len ≤ 64 * n → ((i : ℕ) → i < 64 → bit word i ≡ on) → bits_of (replicate n word) len ≡ replicate len on
bits_alike word n len on h all =
    same_lists (bits_of (replicate n word) len) (replicate len on) (length_bits (replicate n word) len ∙ sym (length-replicate len on))
    (λ k d b. let l : k < len = omega (arith, length_bits (replicate n word) len) in
    get_bits (replicate n word) len k d l ∙ ap (λ x. bit x (k % 64)) (get_or-replicate n (k / 64) word 0 (omega (arith, div-add-mod k 64)))
    ∙ all (k % 64) (omega arith) ∙ sym (get_or-replicate len k on d l))

-- the bits of words, as the list that is seen of them

module _ (words slice : List ℕ) (len : ℕ) (view : List Bool) (from to : ℕ) (fit : to ≤ len) (read : slice ≡ words) (is : bits_of words len ≡ view) where
  seen : (k : ℕ) → k < to → get_or view k false ≡ bit_of slice k
  seen k u = ap (λ xs. get_or xs k false) (sym is) ∙ get_bits words len k false (omega arith) ∙ ap (λ ws. bit_of ws k) (sym read)

  pub any_seen : (k : ℕ) × (from ≤ k) × (k < to) × (bit_of slice k ≡ true) → (k : ℕ) × (from ≤ k) × (k < to) × (get_or view k false ≡ true)
  any_seen r = (r.0, r.1, r.2, seen r.0 r.2 ∙ r.3)

  pub none_seen : ((k : ℕ) → from ≤ k → k < to → bit_of slice k ≡ false) → (k : ℕ) → from ≤ k → k < to → get_or view k false ≡ false
  none_seen none k l u = seen k u ∙ none k l u

-- the same of words that are changed alike

same_bit : (old new : List ℕ) (len k : ℕ) → (k < len → bit_of new k ≡ bit_of old k) → get_or (bits_of new len) k false ≡ get_or (bits_of old len) k false
same_bit old new len k same = elim (cases_lt k len) [
  | inl b ↦ get_bits new len k false b ∙ same b ∙ sym (get_bits old len k false b)
  | inr b ↦ past_bits new len k b ∙ sym (past_bits old len k b)
]

module _ (old new : List ℕ) (len : ℕ) (view : List Bool) (is : bits_of old len ≡ view) where
  pub same_length : length (bits_of new len) ≡ length view
  same_length = length_bits new len ∙ sym (length_bits old len) ∙ ap length is

  pub same_seen : (k : ℕ) → bit_of new k ≡ bit_of old k → get_or (bits_of new len) k false ≡ get_or view k false
  same_seen k same = same_bit old new len k (λ b. same) ∙ ap (λ xs. get_or xs k false) is

  pub fill_seen : (on : Bool) (k : ℕ) → k < len → bit_of new k ≡ on → get_or (bits_of new len) k false ≡ on
  fill_seen on k b is = get_bits new len k false b ∙ is

  pub both_seen : (f : Bool → Bool → Bool) (others slice : List ℕ) (n k : ℕ) (other : List Bool) → bits_of others n ≡ other → slice ≡ others → n ≡ len → k < len
      → bit_of new k ≡ f (bit_of old k) (bit_of slice k) → get_or (bits_of new len) k false ≡ f (get_or view k false) (get_or other k false)
  both_seen f others slice n k other is' read e b done =
      let mine : bit_of old k ≡ get_or view k false = sym (get_bits old len k false b) ∙ ap (λ xs. get_or xs k false) is in
      let theirs : bit_of slice k ≡ get_or other k false =
      ap (λ ws. bit_of ws k) read ∙ sym (get_bits others n k false (omega (arith, e))) ∙ ap (λ xs. get_or xs k false) is' in
      get_bits new len k false b ∙ done ∙ ap (λ x. f x (bit_of slice k)) mine ∙ ap (f (get_or view k false)) theirs

-- whether all bits of the one are bits of the other

module _ (words slice others slice' : List ℕ) (len n : ℕ) (view other : List Bool) (read : slice ≡ words) (read' : slice' ≡ others) (is : bits_of words len ≡ view) (is' : bits_of others n ≡ other) (e : n ≡ len) where
  mine_seen : (k : ℕ) → k < len → get_or view k false ≡ bit_of slice k
  mine_seen k l = ap (λ xs. get_or xs k false) (sym is) ∙ get_bits words len k false l ∙ ap (λ ws. bit_of ws k) (sym read)

  theirs_seen : (k : ℕ) → k < len → get_or other k false ≡ bit_of slice' k
  theirs_seen k l = ap (λ xs. get_or xs k false) (sym is') ∙ get_bits others n k false (omega (arith, e)) ∙ ap (λ ws. bit_of ws k) (sym read')

  pub all_seen : ((k : ℕ) → k < len → bit_of slice k ≡ true → bit_of slice' k ≡ true) → (k : ℕ) → get_or view k false ≡ true → get_or other k false ≡ true
  all_seen all k on = elim (cases_lt k len) [
    | inl b ↦ theirs_seen k b ∙ all k b (sym (mine_seen k b) ∙ on)
    | inr b ↦ absurd (let q : true ≡ false = sym on ∙ ap (λ xs. get_or xs k false) (sym is) ∙ past_bits words len k b in cc)
  ]

  pub lacks_seen : (k : ℕ) × (k < len) × (bit_of slice k ≡ true) × (bit_of slice' k ≡ false) → (k : ℕ) × (k < length view) × (get_or view k false ≡ true) × (get_or other k false ≡ false)
  lacks_seen r = (r.0, omega (arith, r.1, ap length is, length_bits words len), mine_seen r.0 r.1 ∙ r.2, theirs_seen r.0 r.1 ∙ r.3)
