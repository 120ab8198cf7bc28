-- In a text that is UTF-8, what gives the byte with which a value ceases to be UTF-8 is an escape.
use Rattle.std.proofs.Common.{◌≡◌, ℕ, zero, suc, ◌+◌, ◌*◌, ◌/◌, ◌%◌, ◌<◌, ◌≤◌, Bool, true, false, ◌&&◌, cond, eqb, leb, ltb, List, [], ◌∷◌, ◌++◌, length, get_or, take, drop, Option, Some, None, refl, ap, arith, append_assoc, append-nil, sym, ◌∙◌, subst, ◌⊎◌, inl, inr, length-append, length-take-le, take-append-drop}
use Rattle.std.proofs.lemmas.Bool.{cases_lt, and_parts, eqb-true, leb-true, le-ltb}
use Rattle.std.proofs.lemmas.List.{drop_all, drop_more, take_all, take_more}
use Rattle.std.proofs.lemmas.Str.{IsUtf8-append, IsUtf8-encode, IsUtf8-drop, encode_ascii, encode_same, inside_one}
use Rattle.std.specs.List.{flat_map, AllByRecursion}
use Rattle.std.specs.Str.{IsUtf8, IsCharBoundary}
use lib.Utf8.{encode, encodes, scalar, scalars}
use Rattle.lf_lex.specs.Strings.{IsQuote, byte_of_letter, octal_value, Tell, IsEscape, a_letter, the_quote, octal_byte, hexadecimal_byte, short_character, long_character, StringPiece, Bare, Escape, piece_text, meant, IsStringPiece}
use Rattle.lf_lex.specs.Lexemes.{IsLongest}
use Rattle.lf_lex.specs.Breaches.{BeginsNoEscape}
use Rattle.lf_lex.proofs.Options.{none_some}
use Rattle.lf_base.specs.Names.{hexadecimal_value}
use Rattle.lf_base.proofs.Digits.{digit_low}
use Rattle.lf_lex.proofs.Heads.{first, tail_of}

abbrev AreHigh : List ℕ → Type 0
AreHigh bs = AllByRecursion (λ b. 128 ≤ b) bs

abbrev AreLow : List ℕ → Type 0
AreLow bs = AllByRecursion (λ b. b < 128) bs

-- ---- characters

-- what begins a character of several bytes, and what goes on with it
pub record IsLong (c : ℕ) : Type 0 where
  pub head : 192 ≤ first (encode c)
  pub rest : AreHigh (tail_of (encode c))
  pub some : 0 < length (encode c)

long_is : (c : ℕ) → 128 ≤ c → IsLong c
unfolding encode
long_is c le = two (ltb c 2048)
  where
    Form : List ℕ → Type 0
    Form bs = (192 ≤ first bs) × AreHigh (tail_of bs) × (0 < length bs)

    four : Form ((240 + c / 262144) ∷ (128 + c / 4096 % 64) ∷ (128 + c / 64 % 64) ∷ (128 + c % 64) ∷ [])
    four = (omega arith, (omega arith, (omega arith, (omega arith, tt))), omega arith)

    three : (t : Bool) → Form (cond t ((224 + c / 4096) ∷ (128 + c / 64 % 64) ∷ (128 + c % 64) ∷ []) ((240 + c / 262144) ∷ (128 + c / 4096 % 64) ∷ (128 + c / 64 % 64) ∷ (128 + c % 64) ∷ []))
    three true = (omega arith, (omega arith, (omega arith, tt)), omega arith)
    three false = four

    short : (t : Bool) → Form (cond t ((192 + c / 64) ∷ (128 + c % 64) ∷ []) (cond (ltb c 65536) ((224 + c / 4096) ∷ (128 + c / 64 % 64) ∷ (128 + c % 64) ∷ []) ((240 + c / 262144) ∷ (128 + c / 4096 % 64) ∷ (128 + c / 64 % 64) ∷ (128 + c % 64) ∷ [])))
    short true = (omega arith, (omega arith, tt), omega arith)
    short false = three (ltb c 65536)

    two : (t : Bool) → IsLong c
    two t = let f : Form (encode c) = rw (le-ltb c 128 le) (short (ltb c 2048)) in record { head = f.0; rest = f.1; some = f.2 }

-- a part of a character behind a text that it doesn't end
partial : (v : List ℕ) (c k : ℕ) → 128 ≤ c → 0 < k → k < length (encode c) → IsUtf8 (v ++ take k (encode c)) → ⊥
partial v c k le some lt u =
    let l = length-take-le k (encode c) (omega arith) in
    let long = long_is c le in
    let h = long.head in
    let all = length-append v (take k (encode c)) in
    let cut : IsCharBoundary (v ++ take k (encode c)) (length v) = (omega arith, λ i j. let e = at_seam v (encode c) k some in omega arith) in
    let part : IsUtf8 (take k (encode c)) = subst IsUtf8 (past v (take k (encode c))) (IsUtf8-drop (v ++ take k (encode c)) (length v) u cut) in
    begun part.0 part.1.1
  where
    past : (xs ys : List ℕ) → drop (length xs) (xs ++ ys) ≡ ys
    past [] ys = refl
    past (x ∷ xs) ys = past xs ys

    first_take : (xs : List ℕ) (k : ℕ) → 0 < k → first (take k xs) ≡ first xs
    first_take xs zero lt = absurd (omega arith)
    first_take [] (suc k) lt = refl
    first_take (x ∷ xs) (suc k) lt = refl

    first_at : (xs ys : List ℕ) → get_or (xs ++ ys) (length xs) 0 ≡ first ys
    first_at [] [] = refl
    first_at [] (y ∷ ys) = refl
    first_at (x ∷ xs) ys = first_at xs ys

    at_seam : (v xs : List ℕ) (k : ℕ) → 0 < k → get_or (v ++ take k xs) (length v) 0 ≡ first xs
    at_seam v xs k lt = first_at v (take k xs) ∙ first_take xs k lt

    begun : (ds : List ℕ) → encodes ds ≡ take k (encode c) → ⊥
    begun [] e = let l = length-take-le k (encode c) (omega arith) in let m = ap length e in omega arith
    begun (d ∷ ds) e =
        let whole : encode c ++ [] ≡ encode d ++ (encodes ds ++ drop k (encode c)) =
        append-nil (encode c) ∙ sym (take-append-drop k (encode c)) ∙ ap (λ (x : List ℕ). x ++ drop k (encode c)) (sym e) ∙ append_assoc (encode d) (encodes ds) (drop k (encode c)) in
        let s = encode_same c d [] (encodes ds ++ drop k (encode c)) whole in
        let z = ap length s.1 in
        let a = length-append (encodes ds) (drop k (encode c)) in
        let t = ap length (take-append-drop k (encode c)) in
        let b = length-append (take k (encode c)) (drop k (encode c)) in
        let l = length-take-le k (encode c) (omega arith) in
        omega arith

-- ---- escapes are written in ASCII

abbrev IsLow : ℕ → Option ℕ → Type 0
IsLow e o = (b : ℕ) → o ≡ Some b → e < 128

none_low : (e : ℕ) → IsLow e None
none_low e b h = none_some b None refl h

some_low : (e b : ℕ) → e < 128 → IsLow e (Some b)
some_low e b lt c h = lt

cond_low : (e : ℕ) (t : Bool) (x y : Option ℕ) → (t ≡ true → IsLow e x) → IsLow e y → IsLow e (cond t x y)
cond_low e true x y h k = h refl
cond_low e false x y h k = k

pick : (e k b : ℕ) (o : Option ℕ) → k < 128 → IsLow e o → IsLow e (cond (eqb e k) (Some b) o)
pick e k b o lt more = cond_low e (eqb e k) (Some b) o (λ t. some_low e b (let f = eqb-true e k t in omega arith)) more

letter_low : (e : ℕ) → IsLow e (byte_of_letter e)
unfolding byte_of_letter
letter_low e = pick e 97 7 _ (omega arith) (pick e 98 8 _ (omega arith) (pick e 102 12 _ (omega arith) (pick e 110 10 _ (omega arith) (pick e 114 13 _ (omega arith) (pick e 116 9 _ (omega arith) (pick e 118 11 _ (omega arith) (pick e 92 92 _ (omega arith) (none_low e))))))))

between : (a b d : ℕ) → (leb a d && leb d b) ≡ true → d ≤ b
between a b d h = leb-true d b (and_parts (leb a d) (leb d b) h).1

octal_low : (d : ℕ) → IsLow d (octal_value d)
unfolding octal_value
octal_low d = cond_low d _ _ _ (λ t. some_low d _ (let k = between 48 55 d t in omega arith)) (none_low d)

digits_low : (base : ℕ) (value : ℕ → Option ℕ) → ((d : ℕ) → IsLow d (value d)) → (before : ℕ) (digits : List ℕ) (n : ℕ) → Tell base value before digits n → AreLow digits
digits_low base value low before [] n t = tt
digits_low base value low before (d ∷ digits) n t = (low d t.0 t.1, digits_low base value low (base * before + t.0) digits n t.2)

pub quote_low : (q : ℕ) → IsQuote q → q < 128
quote_low q (inl e) = omega arith
quote_low q (inr e) = omega arith

escape_low : (quote : ℕ) (tail bytes : List ℕ) → IsQuote quote → IsEscape quote tail bytes → AreLow tail
escape_low quote tail bytes q (a_letter e b t f g) = subst AreLow (sym t) (letter_low e b f, tt)
escape_low quote tail bytes q (the_quote t g) = subst AreLow (sym t) (quote_low quote q, tt)
escape_low quote tail bytes q (octal_byte n l t lt g) = digits_low 8 octal_value octal_low 0 tail n t
escape_low quote tail bytes q (hexadecimal_byte digits n t l h g) = subst AreLow (sym t) (omega arith, digits_low 16 hexadecimal_value digit_low 0 digits n h)
escape_low quote tail bytes q (short_character digits c t l h s g) = subst AreLow (sym t) (omega arith, digits_low 16 hexadecimal_value digit_low 0 digits c h)
escape_low quote tail bytes q (long_character digits c t l h s g) = subst AreLow (sym t) (omega arith, digits_low 16 hexadecimal_value digit_low 0 digits c h)

-- ---- ASCII at the front of a text

char_some : (c : ℕ) → 0 < length (encode c)
char_some c = elim (cases_lt c 128) [ inl lt ↦ let l = ap length (encode_ascii c lt) in omega arith | inr ge ↦ (long_is c ge).some ]

-- characters whose text is what is left
pub record Left (cs rest : List ℕ) : Type 0 where
  pub ds : List ℕ
  pub text : encodes ds ≡ rest
  pub are_scalars : scalars ds ≡ true

past_low : (xs cs rest : List ℕ) → AreLow xs → scalars cs ≡ true → encodes cs ≡ xs ++ rest → Left cs rest
past_low [] cs rest low s e = record { ds = cs; text = e; are_scalars = s }
past_low (x ∷ xs) [] rest low s e = let l = ap length e in absurd (omega arith)
past_low (x ∷ xs) (c ∷ cs) rest low s e =
    let x_low = low.0 in
    let c_is : c ≡ x = inside_one c (encodes cs) (x ∷ (xs ++ rest)) 0 (sym e) (char_some c) x_low in
    let one : encode c ≡ c ∷ [] = encode_ascii c (omega arith) in
    let left = past_low xs cs rest low.1 (and_parts (scalar c) (scalars cs) s).1 (ap tail_of (ap (λ (y : List ℕ). y ++ encodes cs) (sym one) ∙ e)) in
    record { ds = left.ds; text = left.text; are_scalars = left.are_scalars }

-- ---- bytes above ASCII stand for themselves

module _ (quote : ℕ) (rest : List ℕ) (stops : (rest ≡ []) ⊎ BeginsNoEscape quote rest) where
  no_high : (y : ℕ) (ys : List ℕ) → 128 ≤ y → y ∷ ys ≡ rest → ⊥
  no_high y ys ge e = by rest stops e
    where
      by : (rest : List ℕ) → (rest ≡ []) ⊎ BeginsNoEscape quote rest → y ∷ ys ≡ rest → ⊥
      by rest (inl z) e = let l = ap length (e ∙ z) in omega arith
      by [] (inr w) e = w
      by (b ∷ src) (inr w) e = let f = ap first e in let g = w.0 in omega arith

  high_values : (ys : List ℕ) (ps : List StringPiece) (more : List ℕ) → AreHigh ys → ys ++ more ≡ flat_map piece_text ps ++ rest → (left : List ℕ) × (flat_map meant ps ≡ ys ++ left)
  high_values [] ps more high e = (flat_map meant ps, refl)
  high_values (y ∷ ys) [] more high e = absurd (no_high y (ys ++ more) high.0 e)
  high_values (y ∷ ys) (Bare x ∷ ps) more high e =
      let again = high_values ys ps more high.1 (ap tail_of e) in
      (again.0, ap (λ (z : ℕ). z ∷ flat_map meant ps) (sym (ap first e)) ∙ ap (λ (z : List ℕ). y ∷ z) again.1)
  high_values (y ∷ ys) (Escape tail bytes ∷ ps) more high e = let f = ap first e in let h = high.0 in absurd (omega arith)

-- ---- a byte for itself ends no value

module _ (quote : ℕ) (q : IsQuote quote) (b : ℕ) (later : List StringPiece) (rest : List ℕ) (stops : (rest ≡ []) ⊎ BeginsNoEscape quote rest) where
  abbrev Ends : List ℕ → Type 0
  Ends good = IsLongest IsUtf8 good (b ∷ flat_map meant later)

  abbrev text_from : List StringPiece → List ℕ
  text_from before = flat_map piece_text (before ++ Bare b ∷ later) ++ rest

  text_some : (before : List StringPiece) → 0 < length (text_from before)
  text_some [] = omega arith
  text_some (Bare x ∷ before) = omega arith
  text_some (Escape tail bytes ∷ before) = omega arith

  -- at the beginning of a character
  at_character : (v : List ℕ) (c : ℕ) (cs : List ℕ) → scalar c ≡ true → encode c ++ encodes cs ≡ b ∷ (flat_map piece_text later ++ rest) → Ends v → ⊥
  at_character v c cs s e longest = by (encode c) refl (high (cases_lt c 128))
    where
      high : (c < 128) ⊎ (128 ≤ c) → AreHigh (tail_of (encode c))
      high (inl lt) = subst (λ (x : List ℕ). AreHigh (tail_of x)) (sym (encode_ascii c lt)) tt
      high (inr ge) = (long_is c ge).rest

      by : (bytes : List ℕ) → encode c ≡ bytes → AreHigh (tail_of (encode c)) → ⊥
      by [] f h = let k = char_some c in let l = ap length f in omega arith
      by (y ∷ ys) f h =
          let whole : (y ∷ ys) ++ encodes cs ≡ b ∷ (flat_map piece_text later ++ rest) = ap (λ (x : List ℕ). x ++ encodes cs) (sym f) ∙ e in
          let tail_high : AreHigh ys = subst (λ (x : List ℕ). AreHigh (tail_of x)) f h in
          let values = high_values quote rest stops ys later (encodes cs) tail_high (ap tail_of whole) in
          let y_is : y ≡ b = ap first whole in
          let more : b ∷ flat_map meant later ≡ encode c ++ values.0 = ap (λ (x : List ℕ). b ∷ x) values.1 ∙ ap (λ (x : ℕ). x ∷ (ys ++ values.0)) (sym y_is) ∙ ap (λ (x : List ℕ). x ++ values.0) (sym f) in
          longest.1 (encode c) values.0 more (char_some c) (IsUtf8-append v (encode c) longest.0 (IsUtf8-encode c s))

  Mid : List StringPiece → Type 0
  Mid before = (v : List ℕ) (c : ℕ) (cs : List ℕ) (k : ℕ) → k < length (encode c) → scalars (c ∷ cs) ≡ true → drop k (encode c) ++ encodes cs ≡ text_from before → Ends ((v ++ take k (encode c)) ++ flat_map meant before) → ⊥

  -- at the next character
  at_next : (before : List StringPiece) → Mid before → (v cs : List ℕ) → scalars cs ≡ true → encodes cs ≡ text_from before → Ends (v ++ flat_map meant before) → ⊥
  unfolding Mid
  at_next before mid v [] s e longest = let l = ap length e in let k = text_some before in omega arith
  at_next before mid v (c ∷ cs) s e longest = mid v c cs 0 (char_some c) s e (subst (λ (x : List ℕ). Ends (x ++ flat_map meant before)) (sym (append-nil v)) longest)

  mid : (before : List StringPiece) → AllByRecursion (IsStringPiece quote) (before ++ Bare b ∷ later) → Mid before
  unfolding Mid
  mid [] each v c cs zero lt s e longest = at_character v c cs (and_parts (scalar c) (scalars cs) s).0 e (subst Ends (append-nil (v ++ []) ∙ append-nil v) longest)
  mid [] each v c cs (suc k) lt s e longest = elim (cases_lt c 128) [
    | inl low ↦ let l = ap length (encode_ascii c low) in omega arith
    | inr ge ↦ partial v c (suc k) ge (omega arith) lt (subst IsUtf8 (append-nil (v ++ take (suc k) (encode c))) longest.0)
  ]
  mid (Bare x ∷ before) each v c cs k lt s e longest = by (mid before each.1) (cases_lt (k + 1) (length (encode c)))
    where
      here : drop k (encode c) ≡ get_or (encode c) k 0 ∷ drop (k + 1) (encode c)
      here = drop_more (encode c) k 0 lt

      whole : get_or (encode c) k 0 ∷ (drop (k + 1) (encode c) ++ encodes cs) ≡ x ∷ text_from before
      whole = ap (λ (y : List ℕ). y ++ encodes cs) (sym here) ∙ e

      value : (v ++ take k (encode c)) ++ (x ∷ flat_map meant before) ≡ (v ++ take (k + 1) (encode c)) ++ flat_map meant before
      value =
          let one : take k (encode c) ++ x ∷ [] ≡ take (k + 1) (encode c) = ap (λ (y : ℕ). take k (encode c) ++ y ∷ []) (sym (ap first whole)) ∙ sym (take_more (encode c) k 0 lt) in
          sym (append_assoc (v ++ take k (encode c)) (x ∷ []) (flat_map meant before)) ∙ ap (λ (y : List ℕ). y ++ flat_map meant before) (append_assoc v (take k (encode c)) (x ∷ []) ∙ ap (λ (y : List ℕ). v ++ y) one)

      ends_more : Ends ((v ++ take (k + 1) (encode c)) ++ flat_map meant before)
      ends_more = subst Ends value longest

      by : Mid before → (k + 1 < length (encode c)) ⊎ (length (encode c) ≤ k + 1) → ⊥
      by again (inl more) = again v c cs (k + 1) more s (ap tail_of whole) ends_more
      by again (inr le) =
          let text : encodes cs ≡ text_from before = ap (λ (y : List ℕ). y ++ encodes cs) (sym (drop_all (k + 1) (encode c) le)) ∙ ap tail_of whole in
          at_next before again (v ++ encode c) cs (and_parts (scalar c) (scalars cs) s).1 text (subst (λ (y : List ℕ). Ends ((v ++ y) ++ flat_map meant before)) (take_all (k + 1) (encode c) le) ends_more)
  mid (Escape tail bytes ∷ before) each v c cs k lt s e longest =
      let whole : get_or (encode c) k 0 ∷ (drop (k + 1) (encode c) ++ encodes cs) ≡ 92 ∷ ((tail ++ flat_map piece_text (before ++ Bare b ∷ later)) ++ rest) = ap (λ (y : List ℕ). y ++ encodes cs) (sym (drop_more (encode c) k 0 lt)) ∙ e in
      let slash : get_or (encode c) k 0 ≡ 92 = ap first whole in
      let c_is : c ≡ get_or (encode c) k 0 = inside_one c [] (encode c) k (sym (append-nil (encode c))) lt (omega arith) in
      let one = ap length (encode_ascii c (omega arith)) in
      let k_is : k ≡ 0 = omega arith in
      let text : encodes cs ≡ tail ++ text_from before = ap (λ (y : List ℕ). y ++ encodes cs) (sym (drop_all (k + 1) (encode c) (omega arith))) ∙ ap tail_of whole ∙ append_assoc tail (flat_map piece_text (before ++ Bare b ∷ later)) rest in
      let left = past_low tail cs (text_from before) (escape_low quote tail bytes q each.0) (and_parts (scalar c) (scalars cs) s).1 text in
      let value : (v ++ take k (encode c)) ++ (bytes ++ flat_map meant before) ≡ (v ++ bytes) ++ flat_map meant before =
      ap (λ (n : ℕ). (v ++ take n (encode c)) ++ (bytes ++ flat_map meant before)) k_is ∙ ap (λ (y : List ℕ). y ++ (bytes ++ flat_map meant before)) (append-nil v) ∙ sym (append_assoc v bytes (flat_map meant before)) in
      at_next before (mid before each.1) (v ++ bytes) left.ds left.are_scalars left.text (subst Ends value longest)

  pub no_bare : (inner : List ℕ) (before : List StringPiece) → AllByRecursion (IsStringPiece quote) (before ++ Bare b ∷ later) → IsUtf8 inner → inner ≡ text_from before → Ends (flat_map meant before) → ⊥
  no_bare inner before each (cs, u) e longest = at_next before (mid before each) [] cs u.0 (u.1 ∙ e) longest
