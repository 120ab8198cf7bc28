-- The length of a run is that of the longest.
use Rattle.std.proofs.Common.{◌≡◌, ℕ, zero, suc, ◌+◌, ◌<◌, ◌≤◌, Bool, true, false, ◌&&◌, cond, List, [], ◌∷◌, ◌++◌, length, take, drop, refl, ap, arith, append_assoc, sym, ◌∙◌, subst, inl, inr, length-append, take-append-drop}
use Rattle.std.proofs.lemmas.List.Sums.{prefix_len-le-length}
use Rattle.std.proofs.lemmas.List.{drop_at}
use Rattle.std.proofs.lemmas.Bool.{and_parts, and_from, or_cases, false≢true}
use Rattle.std.proofs.lemmas.Bool.Decides.{nat_tests}
use Rattle.std.specs.List.{prefix_len, list_all}
use Rattle.lf_lex.specs.Bytes.{is_dot, is_exponent, is_plus_minus, is_in_run, is_in_mantissa}
use Rattle.lf_base.specs.Names.{is_digit, is_letter}
use Rattle.lf_lex.specs.Runs.{begins_run, IsRunRow, plain_row, signed_row, IsRun}
use Rattle.lf_lex.specs.reading.Runs.{begins_signed, run_len}
use Rattle.lf_base.proofs.Rows.{row_all, row_past, row_is, row_bound}
use Rattle.lf_lex.proofs.Longest.{Greatest}

-- ---- classes

pub exponent_ends_mantissa : (e : ℕ) → is_exponent e ≡ true → is_in_mantissa e ≡ false
unfolding is_exponent is_in_mantissa is_digit is_dot
exponent_ends_mantissa e h = grind (arith, nat_tests)

exponent_in_run : (e : ℕ) → is_exponent e ≡ true → is_in_run e ≡ true
unfolding is_exponent is_in_run is_digit is_letter
exponent_in_run e h = grind (arith, nat_tests)

sign_ends_run : (s : ℕ) → is_plus_minus s ≡ true → is_in_run s ≡ false
unfolding is_plus_minus is_in_run is_digit is_letter
sign_ends_run s h = grind (arith, nat_tests)

mantissa_in_run : (b : ℕ) → is_in_mantissa b ≡ true → is_in_run b ≡ true
unfolding is_in_mantissa is_in_run is_digit is_letter is_dot
mantissa_in_run b h = grind (arith, nat_tests)

pub digit_in_run : (b : ℕ) → is_digit b ≡ true → is_in_run b ≡ true
unfolding is_in_run
digit_in_run b h = rw h refl

pub dot_in_run : (b : ℕ) → is_dot b ≡ true → is_in_run b ≡ true
unfolding is_in_run is_dot is_digit is_letter
dot_in_run b h = grind (arith, nat_tests)

pub all_are : (p q : ℕ → Bool) → ((b : ℕ) → p b ≡ true → q b ≡ true) → (bs : List ℕ) → list_all p bs ≡ true → list_all q bs ≡ true
all_are p q k [] h = refl
all_are p q k (b ∷ bs) h = let a = and_parts (p b) (list_all p bs) h in and_from (q b) (list_all q bs) (k b a.0) (all_are p q k bs a.1)

-- ---- a sign in a run

pub record Signed (xs : List ℕ) : Type 0 where
  pub e : ℕ
  pub s : ℕ
  pub more : List ℕ
  pub source : xs ≡ e ∷ s ∷ more
  pub is_e : is_exponent e ≡ true
  pub is_s : is_plus_minus s ≡ true

signed_is : (xs : List ℕ) → begins_signed xs ≡ true → Signed xs
signed_is [] h = absurd (false≢true h)
signed_is (e ∷ []) h = absurd (false≢true h)
signed_is (e ∷ s ∷ more) h = let a = and_parts (is_exponent e) (is_plus_minus s) h in record { e = e; s = s; more = more; source = refl; is_e = a.0; is_s = a.1 }

drop_on : (front xs : List ℕ) (k : ℕ) → drop (length front + k) (front ++ xs) ≡ drop k xs
drop_on [] xs k = let e : 0 + k ≡ k = omega arith in rw e refl
drop_on (b ∷ front) xs k = let e : length (b ∷ front) + k ≡ suc (length front + k) = omega arith in rw e (drop_on front xs k)

take_on : (front xs : List ℕ) (k : ℕ) → take (length front + k) (front ++ xs) ≡ front ++ take k xs
take_on [] xs k = let e : 0 + k ≡ k = omega arith in rw e refl
take_on (b ∷ front) xs k = let e : length (b ∷ front) + k ≡ suc (length front + k) = omega arith in rw e (ap (λ (zs : List ℕ). b ∷ zs) (take_on front xs k))

module _ (front : List ℕ) (e s : ℕ) (more : List ℕ) (m : list_all is_in_mantissa front ≡ true) (is_e : is_exponent e ≡ true) (is_s : is_plus_minus s ≡ true) where
  front_len : prefix_len is_in_mantissa (front ++ e ∷ s ∷ more) ≡ length front
  front_len = row_is is_in_mantissa front (e ∷ s ∷ more) m (exponent_ends_mantissa e is_e)

  pub signed_len : run_len (front ++ e ∷ s ∷ more) ≡ length front + 2 + prefix_len is_in_run more
  unfolding run_len
  signed_len =
      let behind : drop (length front) (front ++ e ∷ s ∷ more) ≡ e ∷ s ∷ more = drop_at front (e ∷ s ∷ more) (length front) refl in
      let past : drop (length front + 2) (front ++ e ∷ s ∷ more) ≡ more = drop_on front (e ∷ s ∷ more) 2 in
      rw (front_len, behind, past, is_e, is_s) refl

  plain_len : prefix_len is_in_run (front ++ e ∷ s ∷ more) ≡ length front + 1
  plain_len =
      let r = row_past is_in_run front (e ∷ s ∷ more) (all_are is_in_mantissa is_in_run mantissa_in_run front m) in
      let one : prefix_len is_in_run (e ∷ s ∷ more) ≡ 1 = rw (exponent_in_run e is_e, sign_ends_run s is_s) refl in
      omega arith

  pub signed_more : prefix_len is_in_run (front ++ e ∷ s ∷ more) ≤ run_len (front ++ e ∷ s ∷ more)
  signed_more = let a = signed_len in let b = plain_len in omega arith

  pub signed_take : take (run_len (front ++ e ∷ s ∷ more)) (front ++ e ∷ s ∷ more) ≡ front ++ e ∷ s ∷ take (prefix_len is_in_run more) more
  signed_take =
      let k = prefix_len is_in_run more in
      let n : run_len (front ++ e ∷ s ∷ more) ≡ length front + suc (suc k) = let a = signed_len in omega arith in
      ap (λ (x : ℕ). take x (front ++ e ∷ s ∷ more)) n ∙ take_on front (e ∷ s ∷ more) (suc (suc k))

  pub signed_within : run_len (front ++ e ∷ s ∷ more) ≤ length (front ++ e ∷ s ∷ more)
  signed_within = let a = signed_len in let b = prefix_len-le-length is_in_run more in let l = length-append front (e ∷ s ∷ more) in omega arith

-- ---- the longest row

module _ (src : List ℕ) where
  signed_src : (d : Signed (drop (prefix_len is_in_mantissa src) src)) → src ≡ take (prefix_len is_in_mantissa src) src ++ d.e ∷ d.s ∷ d.more
  signed_src d = sym (take-append-drop (prefix_len is_in_mantissa src) src) ∙ ap (λ (x : List ℕ). take (prefix_len is_in_mantissa src) src ++ x) d.source

  by_sign : (P : ℕ → Type 0) → ((d : Signed (drop (prefix_len is_in_mantissa src) src)) → P (run_len src)) → P (prefix_len is_in_run src) → P (run_len src)
  unfolding run_len
  by_sign P yes_sign no_sign = by (begins_signed (drop (prefix_len is_in_mantissa src) src)) refl yes_sign
    where
      by : (t : Bool) → begins_signed (drop (prefix_len is_in_mantissa src) src) ≡ t
          → ((d : Signed (drop (prefix_len is_in_mantissa src) src)) → P (cond (begins_signed (drop (prefix_len is_in_mantissa src) src)) (prefix_len is_in_mantissa src + 2 + prefix_len is_in_run (drop (prefix_len is_in_mantissa src + 2) src)) (prefix_len is_in_run src)))
          → P (cond (begins_signed (drop (prefix_len is_in_mantissa src) src)) (prefix_len is_in_mantissa src + 2 + prefix_len is_in_run (drop (prefix_len is_in_mantissa src + 2) src)) (prefix_len is_in_run src))
      by true e k = k (signed_is _ e)
      by false e k = rw e no_sign

  pub run_within : run_len src ≤ length src
  run_within = by_sign (λ n. n ≤ length src) (λ d. let e = signed_src d in subst (λ (x : List ℕ). run_len x ≤ length x) (sym e) (signed_within (take (prefix_len is_in_mantissa src) src) d.e d.s d.more (row_all is_in_mantissa src) d.is_e d.is_s)) (prefix_len-le-length is_in_run src)

  pub run_row : IsRunRow (take (run_len src) src)
  run_row = by_sign (λ n. IsRunRow (take n src)) (λ d. subst (λ (x : List ℕ). IsRunRow (take (run_len x) x)) (sym (signed_src d)) (signed_row (take (prefix_len is_in_mantissa src) src) d.e d.s (take (prefix_len is_in_run d.more) d.more) (signed_take (take (prefix_len is_in_mantissa src) src) d.e d.s d.more (row_all is_in_mantissa src) d.is_e d.is_s) (row_all is_in_mantissa src) d.is_e d.is_s (row_all is_in_run d.more))) (plain_row (row_all is_in_run src))

  plain_le : prefix_len is_in_run src ≤ run_len src
  plain_le = by_sign (λ n. prefix_len is_in_run src ≤ n) (λ d. subst (λ (x : List ℕ). prefix_len is_in_run x ≤ run_len x) (sym (signed_src d)) (signed_more (take (prefix_len is_in_mantissa src) src) d.e d.s d.more (row_all is_in_mantissa src) d.is_e d.is_s)) (omega arith)

  pub row_len_bound : (text left : List ℕ) → src ≡ text ++ left → IsRunRow text → length text ≤ run_len src
  row_len_bound text left e (plain_row h) = let a = row_bound is_in_run src text left e h in let b = plain_le in omega arith
  row_len_bound text left e (signed_row front x s more t m is_e is_s h) =
      let whole : src ≡ front ++ x ∷ s ∷ (more ++ left) = e ∙ ap (λ (y : List ℕ). y ++ left) t ∙ append_assoc front (x ∷ s ∷ more) left in
      let n = ap run_len whole ∙ signed_len front x s (more ++ left) m is_e is_s in
      let r = row_past is_in_run more left h in
      let l = ap length t ∙ length-append front (x ∷ s ∷ more) in
      omega arith

-- ---- the longest run

one_row : (b : ℕ) → is_in_run b ≡ true → IsRunRow (b ∷ [])
one_row b h = plain_row (rw h refl)

run_begins : (src : List ℕ) (n : ℕ) → n ≡ run_len src → begins_run src ≡ true → begins_run (take n src) ≡ true
run_begins [] n k h = absurd (false≢true h)
run_begins (b ∷ []) n k h = by n (let l = row_len_bound (b ∷ []) (b ∷ []) [] refl (one_row b (digit_in_run b h)) in omega arith)
  where
    by : (n : ℕ) → 1 ≤ n → begins_run (take n (b ∷ [])) ≡ true
    by zero le = absurd (omega arith)
    by (suc zero) le = h
    by (suc (suc n)) le = h
run_begins (b ∷ c ∷ more) n k h = elim (or_cases (is_digit b) (is_dot b && is_digit c) h) [
  | inl d ↦ first d n (let l = row_len_bound (b ∷ c ∷ more) (b ∷ []) (c ∷ more) refl (one_row b (digit_in_run b d)) in omega arith)
  | inr d ↦
      let a = and_parts (is_dot b) (is_digit c) d in
      both n (let l = row_len_bound (b ∷ c ∷ more) (b ∷ c ∷ []) more refl (plain_row (rw (dot_in_run b a.0, digit_in_run c a.1) refl)) in omega arith)
]
  where
    first : is_digit b ≡ true → (n : ℕ) → 1 ≤ n → begins_run (take n (b ∷ c ∷ more)) ≡ true
    first d zero le = absurd (omega arith)
    first d (suc zero) le = d
    first d (suc (suc n)) le = h

    both : (n : ℕ) → 2 ≤ n → begins_run (take n (b ∷ c ∷ more)) ≡ true
    both zero le = absurd (omega arith)
    both (suc zero) le = absurd (omega arith)
    both (suc (suc n)) le = h

pub run_greatest : (src : List ℕ) → begins_run src ≡ true → Greatest IsRun src (run_len src)
run_greatest src h = record {
  within = run_within src;
  is = (run_begins src (run_len src) refl h, run_row src);
  bound = λ text left e r. row_len_bound src text left e r.1;
}

-- what begins as a run does begins a run
pub begins_on : (text left : List ℕ) → begins_run text ≡ true → begins_run (text ++ left) ≡ true
begins_on [] left h = absurd (false≢true h)
begins_on (b ∷ []) [] h = h
begins_on (b ∷ []) (c ∷ left) h = rw h refl
begins_on (b ∷ c ∷ more) left h = h

pub no_run : (src text left : List ℕ) → begins_run src ≡ false → src ≡ text ++ left → IsRun text → ⊥
no_run src text left n e h = let k = begins_on text left h.0 in let f : begins_run src ≡ true = ap begins_run e ∙ k in cc

pub some_run : (run : List ℕ) → begins_run run ≡ true → 0 < length run
some_run [] h = absurd (false≢true h)
some_run (b ∷ run) h = omega arith
