-- What a string stands for, piece by piece.
use Rattle.std.proofs.Common.{◌≡◌, ◌≢◌, ℕ, zero, suc, Bool, true, false, cond, eqb, List, [], ◌∷◌, ◌++◌, map, drop, Option, Some, None, length, refl, ap, sym, ◌∙◌}
use Rattle.std.proofs.lemmas.Bool.{ne_eqb}
use Rattle.lf_base.specs.Names.{is_digit}
use Rattle.lf_lex.specs.Strings.{StringPiece, Bare, Escape, piece_text, meant}
use Rattle.lf_lex.specs.reading.Strings.{both, two_digits, four_digits, eight_digits, octal_byte, as_byte, as_character, escape, piece, placed, gives, bytes_of}
use Rattle.lf_lex.specs.Strings.{byte_of_letter}
use Rattle.lf_lex.proofs.PlacedBytes.{bytes-more}
use Rattle.lf_lex.proofs.Options.{none_some}

-- a piece, as it is read
abbrev pub IsRead : ℕ → StringPiece → Type 0
IsRead quote (Bare b) = b ≢ 92
IsRead quote (Escape tail bytes) = escape quote tail ≡ Some (bytes, length tail)

-- ---- an escape is told by its own bytes alone

no_low : (o : Option ℕ) → both 256 o None ≡ None
no_low None = refl
no_low (Some m) = refl

module _ (ys : List ℕ) where
  two_kept : (xs : List ℕ) (n : ℕ) → two_digits xs ≡ Some n → two_digits (xs ++ ys) ≡ Some n
  unfolding two_digits
  two_kept [] n h = none_some n None refl h
  two_kept (a ∷ []) n h = none_some n None refl h
  two_kept (a ∷ b ∷ xs) n h = h

  four_kept : (xs : List ℕ) (n : ℕ) → four_digits xs ≡ Some n → four_digits (xs ++ ys) ≡ Some n
  unfolding four_digits two_digits
  four_kept [] n h = none_some n None refl h
  four_kept (a ∷ []) n h = none_some n None refl h
  four_kept (a ∷ b ∷ xs) n h = by (two_digits (a ∷ b ∷ xs)) (two_digits xs) refl h
    where
      by : (o q : Option ℕ) → two_digits xs ≡ q → both 256 o q ≡ Some n → both 256 o (two_digits (xs ++ ys)) ≡ Some n
      by None q e h = none_some n (both 256 None q) refl h
      by (Some m) None e h = none_some n None refl h
      by (Some m) (Some k) e h = rw (two_kept xs k e) h

  eight_by : (xs : List ℕ) (n : ℕ) (o q : Option ℕ) → four_digits xs ≡ o → four_digits (drop 4 xs) ≡ q → four_digits (drop 4 (xs ++ ys)) ≡ four_digits (drop 4 xs ++ ys) → both 65536 o q ≡ Some n → both 65536 (four_digits (xs ++ ys)) (four_digits (drop 4 (xs ++ ys))) ≡ Some n
  eight_by xs n None q p e l h = none_some n (both 65536 None q) refl h
  eight_by xs n (Some m) None p e l h = none_some n None refl h
  eight_by xs n (Some m) (Some k) p e l h = rw (four_kept xs m p, l, four_kept (drop 4 xs) k e) h

  eight_kept : (xs : List ℕ) (n : ℕ) → eight_digits xs ≡ Some n → eight_digits (xs ++ ys) ≡ Some n
  unfolding eight_digits four_digits two_digits
  eight_kept [] n h = none_some n None refl h
  eight_kept (a ∷ []) n h = none_some n None refl h
  eight_kept (a ∷ b ∷ []) n h = none_some n (eight_digits (a ∷ b ∷ [])) (ap (λ (o : Option ℕ). both 65536 o (four_digits [])) (no_low (two_digits (a ∷ b ∷ [])))) h
  eight_kept (a ∷ b ∷ c ∷ []) n h = none_some n (eight_digits (a ∷ b ∷ c ∷ [])) (ap (λ (o : Option ℕ). both 65536 o (four_digits [])) (no_low (two_digits (a ∷ b ∷ c ∷ [])))) h
  eight_kept (a ∷ b ∷ c ∷ d ∷ xs) n h = eight_by (a ∷ b ∷ c ∷ d ∷ xs) n (four_digits (a ∷ b ∷ c ∷ d ∷ xs)) (four_digits xs) refl refl refl h

  octal_kept : (xs : List ℕ) (n : ℕ) → octal_byte xs ≡ Some n → octal_byte (xs ++ ys) ≡ Some n
  unfolding octal_byte
  octal_kept [] n h = none_some n None refl h
  octal_kept (a ∷ []) n h = none_some n None refl h
  octal_kept (a ∷ b ∷ []) n h = none_some n None refl h
  octal_kept (a ∷ b ∷ c ∷ xs) n h = h

  byte_kept : (count : ℕ) (r : List ℕ × ℕ) (o q : Option ℕ) → ((n : ℕ) → o ≡ Some n → q ≡ Some n) → as_byte count o ≡ Some r → as_byte count q ≡ Some r
  byte_kept count r None q k h = none_some r None refl h
  byte_kept count r (Some n) q k h = rw (k n refl) h

  character_kept : (count : ℕ) (r : List ℕ × ℕ) (o q : Option ℕ) → ((n : ℕ) → o ≡ Some n → q ≡ Some n) → as_character count o ≡ Some r → as_character count q ≡ Some r
  character_kept count r None q k h = none_some r None refl h
  character_kept count r (Some n) q k h = rw (k n refl) h

  pub escape_kept : (quote : ℕ) (tail : List ℕ) (r : List ℕ × ℕ) → escape quote tail ≡ Some r → escape quote (tail ++ ys) ≡ Some r
  unfolding escape
  escape_kept quote [] r h = none_some r None refl h
  escape_kept quote (e ∷ xs) r h = first (eqb e quote) h
    where
      letter : (t : Bool) → cond t (as_byte 3 (octal_byte (e ∷ xs))) (as_byte 1 (byte_of_letter e)) ≡ Some r → cond t (as_byte 3 (octal_byte (e ∷ (xs ++ ys)))) (as_byte 1 (byte_of_letter e)) ≡ Some r
      letter true h = byte_kept 3 r (octal_byte (e ∷ xs)) (octal_byte (e ∷ (xs ++ ys))) (octal_kept (e ∷ xs)) h
      letter false h = h

      long : (t : Bool) → cond t (as_character 9 (eight_digits xs)) (cond (is_digit e) (as_byte 3 (octal_byte (e ∷ xs))) (as_byte 1 (byte_of_letter e))) ≡ Some r → cond t (as_character 9 (eight_digits (xs ++ ys))) (cond (is_digit e) (as_byte 3 (octal_byte (e ∷ (xs ++ ys)))) (as_byte 1 (byte_of_letter e))) ≡ Some r
      long true h = character_kept 9 r (eight_digits xs) (eight_digits (xs ++ ys)) (eight_kept xs) h
      long false h = letter (is_digit e) h

      short : (t : Bool) → cond t (as_character 5 (four_digits xs)) (cond (eqb e 85) (as_character 9 (eight_digits xs)) (cond (is_digit e) (as_byte 3 (octal_byte (e ∷ xs))) (as_byte 1 (byte_of_letter e)))) ≡ Some r → cond t (as_character 5 (four_digits (xs ++ ys))) (cond (eqb e 85) (as_character 9 (eight_digits (xs ++ ys))) (cond (is_digit e) (as_byte 3 (octal_byte (e ∷ (xs ++ ys)))) (as_byte 1 (byte_of_letter e)))) ≡ Some r
      short true h = character_kept 5 r (four_digits xs) (four_digits (xs ++ ys)) (four_kept xs) h
      short false h = long (eqb e 85) h

      byte : (t : Bool) → cond t (as_byte 3 (two_digits xs)) (cond (eqb e 117) (as_character 5 (four_digits xs)) (cond (eqb e 85) (as_character 9 (eight_digits xs)) (cond (is_digit e) (as_byte 3 (octal_byte (e ∷ xs))) (as_byte 1 (byte_of_letter e))))) ≡ Some r → cond t (as_byte 3 (two_digits (xs ++ ys))) (cond (eqb e 117) (as_character 5 (four_digits (xs ++ ys))) (cond (eqb e 85) (as_character 9 (eight_digits (xs ++ ys))) (cond (is_digit e) (as_byte 3 (octal_byte (e ∷ (xs ++ ys)))) (as_byte 1 (byte_of_letter e))))) ≡ Some r
      byte true h = byte_kept 3 r (two_digits xs) (two_digits (xs ++ ys)) (two_kept xs) h
      byte false h = short (eqb e 117) h

      first : (t : Bool) → cond t (Some (quote ∷ [], 1)) (cond (eqb e 120) (as_byte 3 (two_digits xs)) (cond (eqb e 117) (as_character 5 (four_digits xs)) (cond (eqb e 85) (as_character 9 (eight_digits xs)) (cond (is_digit e) (as_byte 3 (octal_byte (e ∷ xs))) (as_byte 1 (byte_of_letter e)))))) ≡ Some r → cond t (Some (quote ∷ [], 1)) (cond (eqb e 120) (as_byte 3 (two_digits (xs ++ ys))) (cond (eqb e 117) (as_character 5 (four_digits (xs ++ ys))) (cond (eqb e 85) (as_character 9 (eight_digits (xs ++ ys))) (cond (is_digit e) (as_byte 3 (octal_byte (e ∷ (xs ++ ys)))) (as_byte 1 (byte_of_letter e)))))) ≡ Some r
      first true h = h
      first false h = byte (eqb e 120) h

-- ---- pieces

pub bytes_place : (quote p q k : ℕ) (src : List ℕ) → bytes_of (gives quote p k src) ≡ bytes_of (gives quote q k src)
unfolding gives
bytes_place quote p q k [] = refl
bytes_place quote p q (suc k) (b ∷ src) = bytes_place quote (suc p) (suc q) k src
bytes_place quote p q zero (b ∷ src) = bytes-more p (piece quote (b ∷ src)).0 _ ∙ ap (λ (x : List ℕ). (piece quote (b ∷ src)).0 ++ x) (bytes_place quote (suc p) (suc q) (piece quote (b ∷ src)).1 src) ∙ sym (bytes-more q (piece quote (b ∷ src)).0 _)

pub bytes_past : (quote p : ℕ) (xs ys : List ℕ) → bytes_of (gives quote p (length xs) (xs ++ ys)) ≡ bytes_of (gives quote 0 0 ys)
unfolding gives
bytes_past quote p [] ys = bytes_place quote p 0 0 ys
bytes_past quote p (x ∷ xs) ys = bytes_past quote (suc p) xs ys

pub bytes_first : (quote b : ℕ) (src xs : List ℕ) (k : ℕ) → piece quote (b ∷ src) ≡ (xs, k) → bytes_of (gives quote 0 0 (b ∷ src)) ≡ xs ++ bytes_of (gives quote 1 k src)
unfolding gives
bytes_first quote b src xs k e = ap (λ (p : List ℕ × ℕ). bytes_of (map (placed 0) p.0 ++ gives quote 1 p.1 src)) e ∙ bytes-more 0 xs (gives quote 1 k src)

pub piece_bare : (quote b : ℕ) (src : List ℕ) → b ≢ 92 → piece quote (b ∷ src) ≡ (b ∷ [], 0)
unfolding piece
piece_bare quote b src n = rw (ne_eqb b 92 n) refl

pub piece_escape : (quote : ℕ) (src : List ℕ) (r : List ℕ × ℕ) → escape quote src ≡ Some r → piece quote (92 ∷ src) ≡ r
unfolding piece
piece_escape quote src r e = rw e refl

pub value_one : (quote : ℕ) (p : StringPiece) (src : List ℕ) → IsRead quote p → bytes_of (gives quote 0 0 (piece_text p ++ src)) ≡ meant p ++ bytes_of (gives quote 0 0 src)
value_one quote (Bare b) src h = bytes_first quote b src (b ∷ []) 0 (piece_bare quote b src h) ∙ ap (λ (x : List ℕ). b ∷ x) (bytes_place quote 1 0 0 src)
value_one quote (Escape tail bytes) src h = bytes_first quote 92 (tail ++ src) bytes (length tail) (piece_escape quote (tail ++ src) (bytes, length tail) (escape_kept src quote tail (bytes, length tail) h)) ∙ ap (λ (x : List ℕ). bytes ++ x) (bytes_past quote 1 tail src)
