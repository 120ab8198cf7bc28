-- Where words, runs and strings begin and end a text may be cut.
use Rattle.std.proofs.Common.{◌≡◌, ℕ, ◌+◌, ◌-◌, ◌<◌, ◌≤◌, Bool, true, false, cond, List, [], ◌∷◌, length, get_or, drop, refl, ap, subst, arith, ◌∙◌, length-drop, not, eqb, ◌&&◌, ◌||◌}
use Rattle.std.proofs.lemmas.List.{get_or-drop}
use Rattle.std.proofs.lemmas.Grind.{get_or_after_one}
use Rattle.std.proofs.lemmas.Bool.{false≢true}
use Rattle.std.proofs.lemmas.Bool.Decides.{nat_tests}
use Rattle.std.proofs.lemmas.Bool.{cases_lt}
use Rattle.std.proofs.Common.{◌⊎◌, inl, inr}
use Rattle.std.proofs.lemmas.List.Sums.{prefix_len_passes, prefix_len_stops}
use Rattle.std.proofs.lemmas.Str.{IsCharBoundary-before_ascii, IsCharBoundary-after_ascii}
use Rattle.std.specs.List.{prefix_len}
use Rattle.std.specs.Str.{IsUtf8, IsCharBoundary}
use Rattle.lf_lex.specs.Bytes.{is_dot, is_exponent, is_plus_minus, begins_word, is_in_word, is_in_run, is_in_mantissa}
use Rattle.lf_base.specs.Names.{is_digit, is_letter, begins_label}
use Rattle.lf_lex.specs.reading.Runs.{begins_signed, run_len}
use Rattle.lf_lex.specs.Runs.{begins_run}
use Rattle.lf_lex.proofs.Words.{begins_in_word}
use Rattle.lf_lex.proofs.RunLaws.{digit_in_run, dot_in_run}

begins_ascii : (inside : Bool) (b : ℕ) → begins_word inside b ≡ true → b < 128
unfolding begins_word begins_label is_letter
begins_ascii inside b h = grind (arith, nat_tests)

word_ascii : (inside : Bool) (b : ℕ) → is_in_word inside b ≡ true → b < 128
unfolding is_in_word begins_word begins_label is_letter is_digit
word_ascii inside b h = grind (arith, nat_tests)

run_ascii : (b : ℕ) → is_in_run b ≡ true → b < 128
unfolding is_in_run is_letter is_digit
run_ascii b h = grind (arith, nat_tests)

-- ---- the first byte and the last

pub first_drop : (bs : List ℕ) (at : ℕ) → get_or (drop at bs) 0 0 ≡ get_or bs at 0
first_drop bs at = let e : at + 0 ≡ at = omega arith in get_or-drop at bs 0 0 ∙ ap (λ (n : ℕ). get_or bs n 0) e

pub some_pass : (p : ℕ → Bool) (src : List ℕ) → 0 < length src → p (get_or src 0 0) ≡ true → 0 < prefix_len p src
some_pass p [] lt h = absurd (omega arith)
some_pass p (b ∷ src) lt h = rw h (omega arith)

cut_before : (bs : List ℕ) (at : ℕ) → at < length bs → get_or (drop at bs) 0 0 < 128 → IsCharBoundary bs at
cut_before bs at lt h = let e = first_drop bs at in IsCharBoundary-before_ascii bs at lt (omega arith)

cut_behind : (bs : List ℕ) (at n : ℕ) → IsUtf8 bs → 0 < n → at + n ≤ length bs → get_or (drop at bs) (n - 1) 0 < 128 → IsCharBoundary bs (at + n)
cut_behind bs at n u p le h =
    let e = get_or-drop at bs (n - 1) 0 in
    let k : at + (n - 1) + 1 ≡ at + n = omega arith in
    subst (IsCharBoundary bs) k (IsCharBoundary-after_ascii bs (at + (n - 1)) u (omega arith) (omega arith))

module _ (bs : List ℕ) (at : ℕ) (u : IsUtf8 bs) (lt : at < length bs) where
  module _ (inside : Bool) (begins : begins_word inside (get_or bs at 0) ≡ true) where
    pub word_some : 0 < prefix_len (is_in_word inside) (drop at bs)
    word_some =
        let p : 0 < length (drop at bs) = omega (arith, length-drop at bs) in
        some_pass (is_in_word inside) (drop at bs) p (ap (is_in_word inside) (first_drop bs at) ∙ begins_in_word inside _ begins)

    pub word_start : IsCharBoundary bs at
    word_start = IsCharBoundary-before_ascii bs at lt (begins_ascii inside _ begins)

    pub word_end : (n : ℕ) → n ≡ prefix_len (is_in_word inside) (drop at bs) → at + n ≤ length bs → IsCharBoundary bs (at + n)
    word_end n e le =
        let some = word_some in
        let q : n - 1 < prefix_len (is_in_word inside) (drop at bs) = omega arith in
        cut_behind bs at n u (omega arith) le (word_ascii inside _ (prefix_len_passes (is_in_word inside) (drop at bs) (n - 1) 0 q))

  pub string_start : get_or bs at 0 ≡ 96 → IsCharBoundary bs (at + 1)
  string_start e = IsCharBoundary-after_ascii bs at u lt (omega arith)

  pub string_end : (n : ℕ) → n ≡ prefix_len (λ b. not (eqb b 96)) (drop 1 (drop at bs)) → n < length (drop 1 (drop at bs)) → IsCharBoundary bs (at + 1 + n)
  string_end n e h =
      let q : prefix_len (λ b. not (eqb b 96)) (drop 1 (drop at bs)) < length (drop 1 (drop at bs)) = omega arith in
      let s = prefix_len_stops (λ b. not (eqb b 96)) (drop 1 (drop at bs)) 0 q in
      let b : get_or (drop 1 (drop at bs)) n 0 ≡ 96 = rw e (is_96 _ s) in
      let k = get_or_after_one (drop at bs) n 0 in
      let j = get_or-drop at bs (1 + n) 0 in
      let m : at + (1 + n) ≡ at + 1 + n = omega arith in
      let i = ap (λ (x : ℕ). get_or bs x 0) m in
      let l = length-drop 1 (drop at bs) in
      let o = length-drop at bs in
      IsCharBoundary-before_ascii bs (at + 1 + n) (omega arith) (omega arith)
    where
      is_96 : (b : ℕ) → not (eqb b 96) ≡ false → b ≡ 96
      is_96 b h = grind (arith, nat_tests)

-- ---- runs

first_in_run : (src : List ℕ) → begins_run src ≡ true → (0 < length src) × (is_in_run (get_or src 0 0) ≡ true)
first_in_run [] h = cc
first_in_run (b ∷ []) h = (omega arith, digit_in_run b h)
first_in_run (b ∷ c ∷ more) h = (omega arith, by (is_digit b) (is_dot b) refl refl h)
  where
    by : (s t : Bool) → is_digit b ≡ s → is_dot b ≡ t → (is_digit b || (is_dot b && is_digit c)) ≡ true → is_in_run b ≡ true
    by true t p q h = digit_in_run b p
    by false true p q h = dot_in_run b q
    by false false p q h = absurd (let k = rw (p, q) at h in false≢true k)

sign_ascii : (b : ℕ) → is_plus_minus b ≡ true → b < 128
unfolding is_plus_minus
sign_ascii b h = grind (arith, nat_tests)

signed_ascii : (src : List ℕ) → begins_signed src ≡ true → get_or src 1 0 < 128
signed_ascii [] h = cc
signed_ascii (e ∷ []) h = cc
signed_ascii (e ∷ s ∷ more) h = by (is_exponent e) h
  where
    by : (t : Bool) → (t && is_plus_minus s) ≡ true → s < 128
    by true h = sign_ascii s h
    by false h = absurd (false≢true h)

run_last : (src : List ℕ) → 0 < run_len src → get_or src (run_len src - 1) 0 < 128
unfolding run_len
run_last src some = by (begins_signed (drop (prefix_len is_in_mantissa src) src)) refl some
  where
    row : (xs : List ℕ) → 0 < prefix_len is_in_run xs → get_or xs (prefix_len is_in_run xs - 1) 0 < 128
    row xs p = let q : prefix_len is_in_run xs - 1 < prefix_len is_in_run xs = omega arith in run_ascii _ (prefix_len_passes is_in_run xs (prefix_len is_in_run xs - 1) 0 q)

    signed : (front k : ℕ) → begins_signed (drop front src) ≡ true → k ≡ prefix_len is_in_run (drop (front + 2) src) → (0 < k) ⊎ (k ≤ 0) → get_or src (front + 2 + k - 1) 0 < 128
    signed front k h e (inl p) =
        let a = row (drop (front + 2) src) (omega arith) in
        let b = get_or-drop (front + 2) src (k - 1) 0 in
        let c : front + 2 + (k - 1) ≡ front + 2 + k - 1 = omega arith in
        let d = ap (λ (x : ℕ). get_or src x 0) c in
        let f : get_or (drop (front + 2) src) (k - 1) 0 < 128 = rw e a in
        omega arith
    signed front k h e (inr z) =
        let a = signed_ascii (drop front src) h in
        let b = get_or-drop front src 1 0 in
        let c : front + 1 ≡ front + 2 + k - 1 = omega arith in
        let d = ap (λ (x : ℕ). get_or src x 0) c in
        omega arith

    by : (t : Bool) → begins_signed (drop (prefix_len is_in_mantissa src) src) ≡ t
        → 0 < cond (begins_signed (drop (prefix_len is_in_mantissa src) src)) (prefix_len is_in_mantissa src + 2 + prefix_len is_in_run (drop (prefix_len is_in_mantissa src + 2) src)) (prefix_len is_in_run src)
        → get_or src (cond (begins_signed (drop (prefix_len is_in_mantissa src) src)) (prefix_len is_in_mantissa src + 2 + prefix_len is_in_run (drop (prefix_len is_in_mantissa src + 2) src)) (prefix_len is_in_run src) - 1) 0 < 128
    by true e p = rw e (signed (prefix_len is_in_mantissa src) _ e refl (cases_lt 0 _))
    by false e p = rw e (row src (rw e at p))

run_begun : (src : List ℕ) → begins_run src ≡ true → 0 < run_len src
unfolding run_len
run_begun src h = by (begins_signed (drop (prefix_len is_in_mantissa src) src))
  where
    by : (t : Bool) → 0 < cond t (prefix_len is_in_mantissa src + 2 + prefix_len is_in_run (drop (prefix_len is_in_mantissa src + 2) src)) (prefix_len is_in_run src)
    by true = omega arith
    by false = some_pass is_in_run src (first_in_run src h).0 (first_in_run src h).1

module _ (bs : List ℕ) (at : ℕ) (u : IsUtf8 bs) (lt : at < length bs) (begins : begins_run (drop at bs) ≡ true) where
  pub run_start : IsCharBoundary bs at
  run_start = cut_before bs at lt (run_ascii _ (first_in_run (drop at bs) begins).1)

  pub run_some : 0 < run_len (drop at bs)
  run_some = run_begun (drop at bs) begins

  pub run_end : (n : ℕ) → n ≡ run_len (drop at bs) → at + n ≤ length bs → IsCharBoundary bs (at + n)
  run_end n e le =
      let some = run_some in
      let last : get_or (drop at bs) (n - 1) 0 < 128 = rw e (run_last (drop at bs) some) in
      cut_behind bs at n u (omega arith) le last
