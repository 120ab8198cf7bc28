-- The characters of a file are allowed, or one is the first that isn't.
use Rattle.std.proofs.Common.{◌≡◌, ℕ, zero, suc, ◌+◌, ◌<◌, ◌≤◌, true, false, eqb, ◌||◌, List, [], ◌∷◌, length, length-drop, get_or, drop, take, refl, ap, arith, sym, ◌∙◌, subst, ◌⊎◌, inl, inr}
use Rattle.std.specs.Prelude.{nat_lt}
use Rattle.std.specs.Str.{IsUtf8, is_utf8, IsValidUpTo, continuation_len}
use Rattle.std.proofs.lemmas.Bool.{cases_Bool, cases_lt, or_cases, and_parts, ltb-true, eqb-true, lt-ltb}
use Rattle.std.proofs.lemmas.Slice.Eq.{bytes_eq-Decides}
use Rattle.std.proofs.lemmas.List.{drop_all, take_all}
use Rattle.std.proofs.lemmas.Str.{IsUtf8-nil, IsUtf8-from_is_utf8, is_utf8-from_IsUtf8}
use Rattle.lf_base.specs.declared.kind.Kind.TheVariants.{BadUtf8, BadChar}
use Rattle.lf_base.specs.declared.fault.Fault.{Fault}
use Rattle.lf_base.specs.Faults.{LiesIn}
use Rattle.lf_scalar.specs.Cells.{cell, byte_fault, character_fault}
use Rattle.lf_scalar.proofs.Characters.{byte_lies}
use Rattle.lf_scalar.proofs.Tails.{true-false}
use Rattle.lf_yaml.specs.Characters.{begins, mark, mark_length, is_control, is_wrong_control, is_high_control, is_left_out, is_wrong, NoneWrong, FirstWrong, AreCharacters, BreaksCharacters}

module _ (bytes : List ℕ) where
  -- ---- UTF-8

  abbrev NoLonger : ℕ → Type 0
  NoLonger n = (m : ℕ) → n < m → IsUtf8 (take m bytes) → ⊥

  longest : (n : ℕ) → n < length bytes → NoLonger n → (k : ℕ) × IsValidUpTo bytes k
  longest zero lt none = (0, record { short = lt; front = IsUtf8-nil; longest = none })
  longest (suc n) lt none =
      elim (cases_Bool (is_utf8 (take (suc n) bytes))) [
        | inl a ↦ (suc n, record { short = lt; front = IsUtf8-from_is_utf8 (take (suc n) bytes) a; longest = none })
        | inr a ↦ longest n (omega (arith, lt)) (λ m less u.
            elim (cases_lt (suc n) m) [
              | inl more ↦ none m more u
              | inr le ↦
                  let same : m ≡ suc n = omega (arith, less, le) in
                  true-false (is_utf8 (take (suc n) bytes)) (is_utf8-from_IsUtf8 (take (suc n) bytes) (subst (λ (k : ℕ). IsUtf8 (take k bytes)) same u)) a
            ])
      ]

  last_of : (n : ℕ) → length bytes ≡ n → is_utf8 bytes ≡ false → (k : ℕ) × IsValidUpTo bytes k
  last_of zero e a = true-false (is_utf8 bytes) (is_utf8-from_IsUtf8 bytes (subst IsUtf8 (take_all 0 bytes (omega (arith, e))) IsUtf8-nil)) a
  last_of (suc n) e a =
      longest n (omega (arith, e)) (λ m less u. true-false (is_utf8 bytes) (is_utf8-from_IsUtf8 bytes (subst IsUtf8 (take_all m bytes (omega (arith, e, less))) u)) a)

  -- ---- the characters

  abbrev NoneBefore : ℕ → Type 0
  NoneBefore n = (j : ℕ) → mark_length bytes ≤ j → j < n → is_wrong (drop j bytes) ≡ false

  first_wrong : (left n : ℕ) → length bytes ≤ n + left → mark_length bytes ≤ n → NoneBefore n → NoneWrong bytes ⊎ ((k : ℕ) × FirstWrong bytes k)
  first_wrong zero n le high none = inl (λ k above. elim (cases_lt k n) [ inl lt ↦ none k above lt | inr more ↦ ap is_wrong (drop_all k bytes (omega (arith, le, more))) ])
  first_wrong (suc left) n le high none =
      elim (cases_Bool (is_wrong (drop n bytes))) [
        | inl a ↦ inr (n, (high, a, none))
        | inr a ↦ first_wrong left (suc n) (omega (arith, le)) (omega (arith, high)) (λ j above lt. elim (cases_lt j n) [
          | inl less ↦ none j above less
          | inr more ↦ let same : n ≡ j = omega (arith, lt, more) in subst (λ (k : ℕ). is_wrong (drop k bytes) ≡ false) same a
        ])
      ]

  pub characters-or-breach : AreCharacters bytes ⊎ ((f : Fault) × BreaksCharacters bytes f)
  characters-or-breach =
      elim (cases_Bool (is_utf8 bytes)) [
        | inl a ↦ by (IsUtf8-from_is_utf8 bytes a) (first_wrong (length bytes) (mark_length bytes) (omega arith) (omega arith) (λ j above lt. absurd (omega (arith, above, lt))))
        | inr a ↦ let k = last_of (length bytes) refl a in inr (byte_fault BadUtf8 k.0, inl (k.0, k.1, refl))
      ]
    where
      by : IsUtf8 bytes → NoneWrong bytes ⊎ ((k : ℕ) × FirstWrong bytes k) → AreCharacters bytes ⊎ ((f : Fault) × BreaksCharacters bytes f)
      by utf8 (inl none) = inl (utf8, none)
      by utf8 (inr wrong) = inr (character_fault BadChar (cell (get_or bytes wrong.0 0) wrong.0), inr (utf8, (wrong.0, wrong.1, refl)))

  -- ---- the span of such a breach lies in the file

  wrong_within : (k : ℕ) → is_wrong (drop k bytes) ≡ true → suc k ≤ length bytes
  wrong_within k e =
      elim (cases_lt k (length bytes)) [
        | inl lt ↦ omega (arith, lt)
        | inr le ↦ true-false (is_wrong (drop k bytes)) e (ap is_wrong (drop_all k bytes le))
      ]

  -- the character is whole, since it has all of its bytes
  whole : (xs : List ℕ) → is_wrong xs ≡ true → 1 + continuation_len (get_or xs 0 0) ≤ length xs
  whole xs e =
      elim (or_cases (is_wrong_control xs) (is_high_control xs || is_left_out xs) e) [
        | inl a ↦ low xs a
        | inr a ↦ elim (or_cases (is_high_control xs) (is_left_out xs) a) [
          | inl b ↦ high xs b
          | inr b ↦ elim (or_cases (begins (0xE2 ∷ 0x80 ∷ 0xA8 ∷ []) xs) _ b) [
            | inl d ↦ three 0xE2 0x80 0xA8 xs refl d
            | inr d ↦ elim (or_cases (begins (0xE2 ∷ 0x80 ∷ 0xA9 ∷ []) xs) _ d) [
              | inl f ↦ three 0xE2 0x80 0xA9 xs refl f
              | inr f ↦ elim (or_cases (begins mark xs) _ f) [
                | inl g ↦ three 0xEF 0xBB 0xBF xs refl g
                | inr g ↦ elim (or_cases (begins (0xEF ∷ 0xBF ∷ 0xBE ∷ []) xs) _ g) [ inl h ↦ three 0xEF 0xBF 0xBE xs refl h | inr h ↦ three 0xEF 0xBF 0xBF xs refl h ]
              ]
            ]
          ]
        ]
      ]
    where
      low : (xs : List ℕ) → is_wrong_control xs ≡ true → 1 + continuation_len (get_or xs 0 0) ≤ length xs
      low [] e = true-false false e refl
      low (x ∷ xs) e = let k : continuation_len x ≡ 0 = ascii x (control x (and_parts (is_control x) _ e).0) in omega (arith, k)
        where
          control : (x : ℕ) → is_control x ≡ true → x < 128
          control x e = elim (or_cases (nat_lt x 32) (eqb x 127) e) [ inl a ↦ (let k : x < 32 = ltb-true x 32 a in omega (arith, k)) | inr a ↦ (let k : x ≡ 127 = eqb-true x 127 a in omega (arith, k)) ]

          ascii : (x : ℕ) → x < 128 → continuation_len x ≡ 0
          ascii x lt = rw (lt-ltb x 128 lt) refl

      high : (xs : List ℕ) → is_high_control xs ≡ true → 1 + continuation_len (get_or xs 0 0) ≤ length xs
      high [] e = true-false false e refl
      high (x ∷ []) e = true-false false e refl
      high (x ∷ y ∷ xs) e = let k : x ≡ 0xC2 = eqb-true x 0xC2 (and_parts (eqb x 0xC2) _ e).0 in rw k (omega arith)

      three : (a b d : ℕ) (xs : List ℕ) → continuation_len a ≡ 2 → begins (a ∷ b ∷ d ∷ []) xs ≡ true → 1 + continuation_len (get_or xs 0 0) ≤ length xs
      three a b d xs long e = by xs ((bytes_eq-Decides (take 3 xs) (a ∷ b ∷ d ∷ [])).0 e)
        where
          by : (xs : List ℕ) → take 3 xs ≡ a ∷ b ∷ d ∷ [] → 1 + continuation_len (get_or xs 0 0) ≤ length xs
          by [] e = absurd cc
          by (x ∷ []) e = absurd cc
          by (x ∷ y ∷ []) e = absurd cc
          by (x ∷ y ∷ z ∷ xs) e =
              let k : x ≡ a = cc in
              let n : continuation_len x ≡ 2 = ap continuation_len k ∙ long in
              omega (arith, n)

  pub characters_lie : (f : Fault) → BreaksCharacters bytes f → LiesIn (length bytes) f.span
  characters_lie f (inl (n, h, e)) = subst (λ (x : Fault). LiesIn (length bytes) x.span) (sym e) (byte_lies n (length bytes) (omega (arith, h.short)))
  characters_lie f (inr (utf8, (k, h, e))) =
      let w = whole (drop k bytes) h.1 in
      let g : get_or (drop k bytes) 0 0 ≡ get_or bytes k 0 = first k bytes in
      let n : 1 + continuation_len (get_or bytes k 0) ≤ length (drop k bytes) = rw (← g) w in
      subst (λ (x : Fault). LiesIn (length bytes) x.span) (sym e) (omega arith, omega (arith, n, length-drop k bytes, wrong_within k h.1))
    where
      first : (k : ℕ) (xs : List ℕ) → get_or (drop k xs) 0 0 ≡ get_or xs k 0
      first zero [] = refl
      first zero (x ∷ xs) = refl
      first (suc k) [] = refl
      first (suc k) (x ∷ xs) = first k xs
