-- The longest part of a value that is UTF-8.
use Rattle.std.proofs.Common.{◌≡◌, ℕ, zero, suc, ◌+◌, ◌-◌, ◌<◌, ◌≤◌, Bool, true, false, cond, List, [], ◌∷◌, ◌++◌, length, take, drop, refl, ap, arith, append_assoc, append-nil, sym, ◌∙◌, subst, ◌⊎◌, inl, inr, length-append, length-take-le, take-append-drop}
use Rattle.std.proofs.lemmas.Bool.{cases_lt, false≢true}
use Rattle.std.proofs.lemmas.List.{take-append-le, take_all, take_at}
use Rattle.std.proofs.lemmas.Str.{IsUtf8-nil, IsUtf8-from_is_utf8, is_utf8-from_IsUtf8, utf8_valid_len_le, utf8_valid_len-IsValidUpTo}
use Rattle.std.specs.Str.{IsUtf8, is_utf8, IsValidUpTo}
use Rattle.std.specs.Str.Lossy.{utf8_valid_len, valid_len_up_to}
use Rattle.lf_lex.specs.Lexemes.{IsLongest}
use Rattle.lf_lex.proofs.Longest.{Greatest, take_on}
use Rattle.lf_lex.proofs.PieceLaws.{utf8_bytes}
use Rattle.lf_laws.proofs.Members.{all_back}

-- ---- the length of the longest front

up_is : (bs : List ℕ) (k : ℕ) → IsUtf8 (take (valid_len_up_to bs k) bs)
up_is bs zero = IsUtf8-nil
up_is bs (suc k) = by (is_utf8 (take (suc k) bs)) refl (up_is bs k)
  where
    by : (t : Bool) → is_utf8 (take (suc k) bs) ≡ t → IsUtf8 (take (valid_len_up_to bs k) bs) → IsUtf8 (take (cond (is_utf8 (take (suc k) bs)) (suc k) (valid_len_up_to bs k)) bs)
    by true e h = rw e (IsUtf8-from_is_utf8 (take (suc k) bs) e)
    by false e h = rw e h

up_bound : (bs : List ℕ) (k m : ℕ) → m ≤ k → IsUtf8 (take m bs) → m ≤ valid_len_up_to bs k
up_bound bs zero m le h = omega arith
up_bound bs (suc k) m le h = by (is_utf8 (take (suc k) bs)) refl (cases_lt m (suc k)) (λ l. up_bound bs k m l h)
  where
    by : (t : Bool) → is_utf8 (take (suc k) bs) ≡ t → (m < suc k) ⊎ (suc k ≤ m) → (m ≤ k → m ≤ valid_len_up_to bs k) → m ≤ cond (is_utf8 (take (suc k) bs)) (suc k) (valid_len_up_to bs k)
    by true e c again = rw e le
    by false e (inl lt) again = rw e (again (omega arith))
    by false e (inr ge) again =
        let m_is : m ≡ suc k = omega arith in
        let u : is_utf8 (take (suc k) bs) ≡ true = is_utf8-from_IsUtf8 (take (suc k) bs) (subst (λ (x : ℕ). IsUtf8 (take x bs)) m_is h) in
        absurd (false≢true (sym e ∙ u))

pub utf8_greatest : (bs : List ℕ) → Greatest IsUtf8 bs (utf8_valid_len bs)
unfolding utf8_valid_len
utf8_greatest bs = record {
  within = utf8_valid_len_le bs;
  is = up_is bs (length bs);
  bound = λ text left e h.
      let l = ap length e in
      let m = length-append text left in
      up_bound bs (length bs) (length text) (omega arith) (subst IsUtf8 (sym (ap (take (length text)) e ∙ take_at text left (length text) refl)) h);
}

-- ---- where a value ceases to be UTF-8

-- what follows the pieces: nothing, or the byte that stands for a wrong escape
pub data Tail (tail : List ℕ) : Type 0 where
  no_tail : tail ≡ [] → Tail tail
  wrong_tail : (more : List ℕ) → tail ≡ 255 ∷ more → Tail tail

no_255 : (xs more : List ℕ) → IsUtf8 (xs ++ 255 ∷ more) → ⊥
no_255 xs more u = let a = all_back (λ b. b < 255) xs (255 ∷ more) (utf8_bytes (xs ++ 255 ∷ more) u) in let c : 255 < 255 = a.0 in omega arith

module _ (good rest tail : List ℕ) (longest : IsLongest IsUtf8 good rest) (is_tail : Tail tail) (some : 0 < length rest + length tail) where
  past : (m k : ℕ) → m ≡ length good + k → 0 < k → (k ≤ length rest) ⊎ (length rest < k) → IsUtf8 (take m (good ++ (rest ++ tail))) → ⊥
  past m k e lt (inl le) u =
      let t : take m (good ++ (rest ++ tail)) ≡ good ++ take k rest = take_on good (rest ++ tail) k m e ∙ ap (λ (x : List ℕ). good ++ x) (take-append-le k rest tail le) in
      let l = length-take-le k rest le in
      longest.1 (take k rest) (drop k rest) (sym (take-append-drop k rest)) (omega arith) (subst IsUtf8 t u)
  past m k e lt (inr gt) u = by is_tail
    where
      by : Tail tail → ⊥
      by (no_tail z) =
          let l = ap length z in
          let t : take m (good ++ (rest ++ tail)) ≡ good ++ rest = take_on good (rest ++ tail) k m e ∙ ap (λ (x : List ℕ). good ++ x) (ap (λ (x : List ℕ). take k (rest ++ x)) z ∙ ap (take k) (append-nil rest) ∙ take_all k rest (omega arith)) in
          longest.1 rest [] (sym (append-nil rest)) (omega arith) (subst IsUtf8 t u)
      by (wrong_tail more z) =
          let j = k - length rest - 1 in
          let k_is : k ≡ length rest + suc j = omega arith in
          let t : take m (good ++ (rest ++ tail)) ≡ (good ++ rest) ++ 255 ∷ take j more = take_on good (rest ++ tail) k m e ∙ ap (λ (x : List ℕ). good ++ x) (take_on rest tail (suc j) k k_is ∙ ap (λ (x : List ℕ). rest ++ take (suc j) x) z) ∙ sym (append_assoc good rest (255 ∷ take j more)) in
          no_255 (good ++ rest) (take j more) (subst IsUtf8 t u)

  pub valid_up_to : IsValidUpTo (good ++ (rest ++ tail)) (length good)
  valid_up_to =
      let l = length-append good (rest ++ tail) in
      let m = length-append rest tail in
      record {
        short = omega arith;
        front = subst IsUtf8 (sym (take_at good (rest ++ tail) (length good) refl)) longest.0;
        longest = λ m lt u. past m (m - length good) (omega arith) (omega arith) (sides (m - length good)) u;
      }
    where
      sides : (k : ℕ) → (k ≤ length rest) ⊎ (length rest < k)
      sides k = elim (cases_lt (length rest) k) [ inl l ↦ inr l | inr l ↦ inl l ]

  pub valid_len_is : utf8_valid_len (good ++ (rest ++ tail)) ≡ length good
  valid_len_is = utf8_valid_len-IsValidUpTo (good ++ (rest ++ tail)) (length good) valid_up_to

  pub not_utf8 : IsUtf8 (good ++ (rest ++ tail)) → ⊥
  not_utf8 u =
      let v = valid_up_to in
      let w = v.short in
      v.longest (length (good ++ (rest ++ tail))) w (subst IsUtf8 (sym (take_all (length (good ++ (rest ++ tail))) (good ++ (rest ++ tail)) (omega arith))) u)
