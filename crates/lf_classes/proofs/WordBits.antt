-- Bits of one word.
use Rattle.std.proofs.Common.{◌≡◌, ◌≢◌, ℕ, zero, suc, ◌-◌, ◌<◌, ◌^◌, Bool, true, false, not, ◌&&◌, ◌||◌, ◌⊎◌, inl, inr, eqb, min, max, refl, sym, ◌∙◌, ap, arith, w64, lit<}
use Rattle.std.proofs.lemmas.Bool.{cases_lt}
use Rattle.std.specs.Int.{bit_at, bit_not}
use Rattle.std.specs.Prelude.{bit_and, bit_or}
use Rattle.std.proofs.lemmas.Nat.Bits.{bit_at_and, bit_at_or, bit_at_not, bit_at-lt, bit_at-zero, same_from_bits_below}
use Rattle.lf_classes.specs.views.Bits.{bit}
use Rattle.std.proofs.lemmas.Bool.{and_parts, and_right}

both_on : (x y : ℕ) → x < 2 → y < 2 → eqb (min x y) 1 ≡ (eqb x 1 && eqb y 1)
both_on zero zero h k = refl
both_on zero (suc zero) h k = refl
both_on (suc zero) zero h k = refl
both_on (suc zero) (suc zero) h k = refl
both_on (suc (suc x)) y h k = absurd (omega arith)
both_on x (suc (suc y)) h k = absurd (omega arith)

either_on : (x y : ℕ) → x < 2 → y < 2 → eqb (max x y) 1 ≡ (eqb x 1 || eqb y 1)
either_on zero zero h k = refl
either_on zero (suc zero) h k = refl
either_on (suc zero) zero h k = refl
either_on (suc zero) (suc zero) h k = refl
either_on (suc (suc x)) y h k = absurd (omega arith)
either_on x (suc (suc y)) h k = absurd (omega arith)

off_on : (x : ℕ) → x < 2 → eqb (1 - x) 1 ≡ not (eqb x 1)
off_on zero h = refl
off_on (suc zero) h = refl
off_on (suc (suc x)) h = absurd (omega arith)

pub bit-and : (a b i : ℕ) → bit (bit_and a b) i ≡ (bit a i && bit b i)
bit-and a b i = ap (λ x. eqb x 1) (bit_at_and a b i) ∙ both_on (bit_at a i) (bit_at b i) (bit_at-lt a i) (bit_at-lt b i)

pub bit-or : (a b i : ℕ) → bit (bit_or a b) i ≡ (bit a i || bit b i)
bit-or a b i = ap (λ x. eqb x 1) (bit_at_or a b i) ∙ either_on (bit_at a i) (bit_at b i) (bit_at-lt a i) (bit_at-lt b i)

pub bit-not : (a i : ℕ) → a < 2 ^ 64 → i < 64 → bit (bit_not w64 a) i ≡ not (bit a i)
bit-not a i h k = ap (λ x. eqb x 1) (bit_at_not w64 a i h k) ∙ off_on (bit_at a i) (bit_at-lt a i)

off : (x : ℕ) → x < 2 → eqb x 1 ≡ false → x ≡ 0
off zero h e = refl
off (suc zero) h e = absurd (cc)
off (suc (suc x)) h e = absurd (omega arith)

-- a word none of whose bits is set is 0
pub all_off : (a : ℕ) → a < 2 ^ 64 → ((i : ℕ) → i < 64 → bit a i ≡ false) → a ≡ 0
all_off a h none = same_from_bits_below 64 a 0 h (lit< tt) (λ i k. off (bit_at a i) (bit_at-lt a i) (none i k) ∙ sym (bit_at-zero i))

pub zero_off : (a i : ℕ) → a ≡ 0 → bit a i ≡ false
zero_off a i e = ap (λ x. bit x i) e ∙ ap (λ x. eqb x 1) (bit_at-zero i)

-- a bit that is set among the first, or none
pub look : (f : ℕ → Bool) (n : ℕ) → ((i : ℕ) × (i < n) × (f i ≡ true)) ⊎ ((i : ℕ) → i < n → f i ≡ false)
look f zero = inr (λ i h. absurd (omega arith))
look f (suc n) = by (f n) refl (look f n)
  where
    last : f n ≡ false → ((i : ℕ) → i < n → f i ≡ false) → (i : ℕ) → i < suc n → f i ≡ false
    last e none i h = elim (cases_lt i n) [
      | inl b ↦ none i b
      | inr b ↦ let q : i ≡ n = omega arith in ap f q ∙ e
    ]

    by : (b : Bool) → f n ≡ b → ((i : ℕ) × (i < n) × (f i ≡ true)) ⊎ ((i : ℕ) → i < n → f i ≡ false) → ((i : ℕ) × (i < suc n) × (f i ≡ true)) ⊎ ((i : ℕ) → i < suc n → f i ≡ false)
    by true e r = inl (n, omega arith, e)
    by false e (inl r) = inl (r.0, omega (arith, r.1), r.2)
    by false e (inr r) = inr (last e r)

not_both : (x y : Bool) → (x && y) ≡ false → y ≡ true → x ≡ false
not_both true true e h = absurd (cc)
not_both true false e h = absurd (cc)
not_both false y e h = refl

-- what a word that isn't 0 under a mask has
pub some_met : (word mask : ℕ) → bit_and word mask < 2 ^ 64 → bit_and word mask ≢ 0 → (i : ℕ) × (i < 64) × (bit word i ≡ true) × (bit mask i ≡ true)
some_met word mask h n = elim (look (bit (bit_and word mask)) 64) [
  | inl r ↦ (let both = and_parts (bit word r.0) (bit mask r.0) (sym (bit-and word mask r.0) ∙ r.2) in (r.0, r.1, both.0, both.1))
  | inr r ↦ absurd (n (all_off (bit_and word mask) h r))
]

pub none_met : (word mask : ℕ) → bit_and word mask ≡ 0 → (i : ℕ) → bit mask i ≡ true → bit word i ≡ false
none_met word mask e i h = not_both (bit word i) (bit mask i) (sym (bit-and word mask i) ∙ zero_off (bit_and word mask) i e) h

without_kept : (x y : Bool) → y ≡ false → (x && not y) ≡ x
without_kept true y e = ap not e
without_kept false y e = refl

without_out : (x y : Bool) → y ≡ true → (x && not y) ≡ false
without_out true y e = ap not e
without_out false y e = refl

bit-without : (word mask i : ℕ) → mask < 2 ^ 64 → i < 64 → bit (bit_and word (bit_not w64 mask)) i ≡ (bit word i && not (bit mask i))
bit-without word mask i h k = bit-and word (bit_not w64 mask) i ∙ ap (λ b. bit word i && b) (bit-not mask i h k)

pub kept_without : (word mask i : ℕ) → mask < 2 ^ 64 → i < 64 → bit mask i ≡ false → bit (bit_and word (bit_not w64 mask)) i ≡ bit word i
kept_without word mask i h k e = bit-without word mask i h k ∙ without_kept (bit word i) (bit mask i) e

pub out_without : (word mask i : ℕ) → mask < 2 ^ 64 → i < 64 → bit mask i ≡ true → bit (bit_and word (bit_not w64 mask)) i ≡ false
out_without word mask i h k e = bit-without word mask i h k ∙ without_out (bit word i) (bit mask i) e

-- bits that are picked by a mask

other_in : (x y : Bool) → y ≡ true → (x && y) ≡ x
other_in true y e = e
other_in false y e = refl

left_alone : (x y : Bool) → y ≡ false → (x || y) ≡ x
left_alone true y e = refl
left_alone false y e = e

pub in_picked : (rest other mask i : ℕ) → bit rest i ≡ false → bit mask i ≡ true → bit (bit_or rest (bit_and other mask)) i ≡ bit other i
in_picked rest other mask i none on =
    bit-or rest (bit_and other mask) i ∙ ap (λ b. b || bit (bit_and other mask) i) none ∙ bit-and other mask i ∙ other_in (bit other i) (bit mask i) on

pub out_picked : (word rest other mask i : ℕ) → bit rest i ≡ bit word i → bit mask i ≡ false → bit (bit_or rest (bit_and other mask)) i ≡ bit word i
out_picked word rest other mask i same off =
    bit-or rest (bit_and other mask) i ∙ left_alone (bit rest i) (bit (bit_and other mask) i) (bit-and other mask i ∙ and_right (bit other i) (bit mask i) off) ∙ same
