-- What stands between quotes is read as pieces, as far as its escapes are right.
use Rattle.std.proofs.Common.{◌≡◌, ℕ, zero, suc, ◌+◌, ◌/◌, ◌%◌, ◌<◌, ◌≤◌, Bool, true, false, cond, eqb, ltb, List, [], ◌∷◌, ◌++◌, take, drop, Option, Some, None, length, refl, ap, arith, append_assoc, sym, ◌∙◌, subst, ◌⊎◌, inl, inr, length-drop}
use Rattle.std.proofs.lemmas.Option.{same_Some}
use Rattle.std.proofs.lemmas.Bool.{and_parts, ltb-true}
use Rattle.std.proofs.lemmas.Bool.Decides.{eqb_tells}
use Rattle.std.proofs.lemmas.List.{take-append-drop}
use Rattle.std.proofs.lemmas.List.{length-take-le}
use Rattle.std.specs.List.{flat_map, AllByRecursion}
use Rattle.std.specs.Str.{IsUtf8}
use lib.Utf8.{encode, encodes, scalar, scalars, scalar_cases}
use Rattle.lf_base.specs.Names.{is_digit}
use Rattle.lf_lex.specs.Strings.{StringPiece, Bare, Escape, piece_text, meant}
use Rattle.lf_lex.specs.reading.Strings.{both, two_digits, four_digits, eight_digits, octal_byte, as_byte, as_character, escape, piece, is_scalar, gives, bytes_of}
use Rattle.lf_lex.specs.Strings.{byte_of_letter}
use Rattle.lf_lex.proofs.ValueLaws.{IsRead, bytes_first, value_one}
use Rattle.lf_lex.proofs.Options.{none_some}
use Rattle.lf_laws.proofs.Members.{all_append}

-- ---- no UTF-8 has the byte 255

abbrev pub AreBytes : List ℕ → Type 0
AreBytes bs = AllByRecursion (λ b. b < 255) bs

one_character : (c : ℕ) → c < 1114112 → AreBytes (encode c)
unfolding encode
one_character c lt = one (ltb c 128) refl
  where
    three : (t : Bool) → ltb c 65536 ≡ t → AreBytes (cond t ((224 + c / 4096) ∷ (128 + c / 64 % 64) ∷ (128 + c % 64) ∷ []) ((240 + c / 262144) ∷ (128 + c / 4096 % 64) ∷ (128 + c / 64 % 64) ∷ (128 + c % 64) ∷ []))
    three true e = let l = ltb-true c 65536 e in (omega arith, (omega arith, (omega arith, tt)))
    three false e = (omega arith, (omega arith, (omega arith, (omega arith, tt))))

    two : (t : Bool) → ltb c 2048 ≡ t → AreBytes (cond t ((192 + c / 64) ∷ (128 + c % 64) ∷ []) (cond (ltb c 65536) ((224 + c / 4096) ∷ (128 + c / 64 % 64) ∷ (128 + c % 64) ∷ []) ((240 + c / 262144) ∷ (128 + c / 4096 % 64) ∷ (128 + c / 64 % 64) ∷ (128 + c % 64) ∷ [])))
    two true e = let l = ltb-true c 2048 e in (omega arith, (omega arith, tt))
    two false e = three (ltb c 65536) refl

    one : (t : Bool) → ltb c 128 ≡ t → AreBytes (cond t (c ∷ []) (cond (ltb c 2048) ((192 + c / 64) ∷ (128 + c % 64) ∷ []) (cond (ltb c 65536) ((224 + c / 4096) ∷ (128 + c / 64 % 64) ∷ (128 + c % 64) ∷ []) ((240 + c / 262144) ∷ (128 + c / 4096 % 64) ∷ (128 + c / 64 % 64) ∷ (128 + c % 64) ∷ []))))
    one true e = let l = ltb-true c 128 e in (omega arith, tt)
    one false e = two (ltb c 2048) refl

characters : (cs : List ℕ) → scalars cs ≡ true → AreBytes (encodes cs)
characters [] h = tt
characters (c ∷ cs) h =
    let b = and_parts (scalar c) (scalars cs) h in
    let small : c < 1114112 = elim (scalar_cases c b.0) [ inl l ↦ omega arith | inr l ↦ l.1 ] in
    all_append (λ b. b < 255) (encode c) (encodes cs) (one_character c small) (characters cs b.1)

pub utf8_bytes : (bs : List ℕ) → IsUtf8 bs → AreBytes bs
utf8_bytes bs (cs, u) = subst AreBytes u.1 (characters cs u.0)

-- ---- an escape is told by its own bytes

pub record Cut (f : List ℕ → Option ℕ) (count : ℕ) (xs : List ℕ) (m : ℕ) : Type 0 where
  pub room : count ≤ length xs
  pub same : f (take count xs) ≡ Some m

two_cut : (xs : List ℕ) (m : ℕ) → two_digits xs ≡ Some m → Cut two_digits 2 xs m
unfolding two_digits
two_cut [] m h = none_some m None refl h
two_cut (a ∷ []) m h = none_some m None refl h
two_cut (a ∷ b ∷ xs) m h = record { room = omega arith; same = h }

no_low : (o : Option ℕ) (base : ℕ) → both base o None ≡ None
no_low None base = refl
no_low (Some m) base = refl

four_cut : (xs : List ℕ) (m : ℕ) → four_digits xs ≡ Some m → Cut four_digits 4 xs m
unfolding four_digits two_digits
four_cut [] m h = none_some m None refl h
four_cut (a ∷ []) m h = none_some m None refl h
four_cut (a ∷ b ∷ []) m h = none_some m (four_digits (a ∷ b ∷ [])) (no_low (two_digits (a ∷ b ∷ [])) 256) h
four_cut (a ∷ b ∷ c ∷ []) m h = none_some m (four_digits (a ∷ b ∷ c ∷ [])) (no_low (two_digits (a ∷ b ∷ c ∷ [])) 256) h
four_cut (a ∷ b ∷ c ∷ d ∷ xs) m h = record { room = omega arith; same = h }

eight_by : (a b c d : ℕ) (xs : List ℕ) (m : ℕ) (o q : Option ℕ) → four_digits (a ∷ b ∷ c ∷ d ∷ xs) ≡ o → four_digits xs ≡ q → both 65536 o q ≡ Some m → Cut eight_digits 8 (a ∷ b ∷ c ∷ d ∷ xs) m
unfolding eight_digits four_digits two_digits
eight_by a b c d xs m None q e p h = none_some m (both 65536 None q) refl h
eight_by a b c d xs m (Some s) None e p h = none_some m None refl h
eight_by a b c d xs m (Some s) (Some t) e p h =
    let low = four_cut xs t p in
    let l = low.room in
    record { room = omega arith; same = ap (λ (o : Option ℕ). both 65536 o (four_digits (take 4 xs))) e ∙ ap (both 65536 (Some s)) low.same ∙ h }

pub eight_cut : (xs : List ℕ) (m : ℕ) → eight_digits xs ≡ Some m → Cut eight_digits 8 xs m
unfolding eight_digits
eight_cut xs m h = by (four_digits xs) refl h
  where
    by : (o : Option ℕ) → four_digits xs ≡ o → both 65536 o (four_digits (drop 4 xs)) ≡ Some m → Cut eight_digits 8 xs m
    by None e h = none_some m (both 65536 None (four_digits (drop 4 xs))) refl h
    by (Some s) e h = split xs e h (four_cut xs s e).room
      where
        split : (xs : List ℕ) → four_digits xs ≡ Some s → both 65536 (Some s) (four_digits (drop 4 xs)) ≡ Some m → 4 ≤ length xs → Cut eight_digits 8 xs m
        split [] e h l = absurd (omega arith)
        split (a ∷ []) e h l = absurd (omega arith)
        split (a ∷ b ∷ []) e h l = absurd (omega arith)
        split (a ∷ b ∷ c ∷ []) e h l = absurd (omega arith)
        split (a ∷ b ∷ c ∷ d ∷ xs) e h l = eight_by a b c d xs m (Some s) (four_digits xs) e refl h

octal_cut : (xs : List ℕ) (m : ℕ) → octal_byte xs ≡ Some m → Cut octal_byte 3 xs m
unfolding octal_byte
octal_cut [] m h = none_some m None refl h
octal_cut (a ∷ []) m h = none_some m None refl h
octal_cut (a ∷ b ∷ []) m h = none_some m None refl h
octal_cut (a ∷ b ∷ c ∷ xs) m h = record { room = omega arith; same = h }

abbrev pub IsCut : ℕ → List ℕ → List ℕ × ℕ → Type 0
IsCut quote src r = (r.1 ≤ length src) × (escape quote (take r.1 src) ≡ Some r)

pub escape_cut : (quote : ℕ) (src : List ℕ) (r : List ℕ × ℕ) → escape quote src ≡ Some r → IsCut quote src r
unfolding escape
escape_cut quote [] r h = none_some r None refl h
escape_cut quote (e ∷ xs) r h = first (eqb e quote) refl h
  where
    is_r : (x : List ℕ × ℕ) → Some x ≡ Some r → IsCut quote (e ∷ xs) x → IsCut quote (e ∷ xs) r
    is_r x k c = subst (IsCut quote (e ∷ xs)) (same_Some x r k) c

    letter : eqb e quote ≡ false → eqb e 120 ≡ false → eqb e 117 ≡ false → eqb e 85 ≡ false → is_digit e ≡ false → (o : Option ℕ) → byte_of_letter e ≡ o → as_byte 1 o ≡ Some r → IsCut quote (e ∷ xs) r
    letter p q u v d None f h = none_some r None refl h
    letter p q u v d (Some m) f h = is_r (m ∷ [], 1) h (omega arith, rw (p, q, u, v, d, f) refl)

    octal : eqb e quote ≡ false → eqb e 120 ≡ false → eqb e 117 ≡ false → eqb e 85 ≡ false → is_digit e ≡ true → (o : Option ℕ) → octal_byte (e ∷ xs) ≡ o → as_byte 3 o ≡ Some r → IsCut quote (e ∷ xs) r
    octal p q u v d None f h = none_some r None refl h
    octal p q u v d (Some m) f h = let c = octal_cut (e ∷ xs) m f in is_r (m ∷ [], 3) h (c.room, rw (p, q, u, v, d) (ap (as_byte 3) c.same))

    digit : eqb e quote ≡ false → eqb e 120 ≡ false → eqb e 117 ≡ false → eqb e 85 ≡ false → (t : Bool) → is_digit e ≡ t → cond t (as_byte 3 (octal_byte (e ∷ xs))) (as_byte 1 (byte_of_letter e)) ≡ Some r → IsCut quote (e ∷ xs) r
    digit p q u v true d h = octal p q u v d (octal_byte (e ∷ xs)) refl h
    digit p q u v false d h = letter p q u v d (byte_of_letter e) refl h

    eight : eqb e quote ≡ false → eqb e 120 ≡ false → eqb e 117 ≡ false → eqb e 85 ≡ true → (m : ℕ) → eight_digits xs ≡ Some m → (s : Bool) → is_scalar m ≡ s → cond s (Some (encode m, 9)) None ≡ Some r → IsCut quote (e ∷ xs) r
    eight p q u v m f true s h = let c = eight_cut xs m f in let l = c.room in is_r (encode m, 9) h (omega arith, rw (p, q, u, v) (ap (as_character 9) c.same ∙ rw s refl))
    eight p q u v m f false s h = none_some r None refl h

    long : eqb e quote ≡ false → eqb e 120 ≡ false → eqb e 117 ≡ false → eqb e 85 ≡ true → (o : Option ℕ) → eight_digits xs ≡ o → as_character 9 o ≡ Some r → IsCut quote (e ∷ xs) r
    long p q u v None f h = none_some r None refl h
    long p q u v (Some m) f h = eight p q u v m f (is_scalar m) refl h

    upper : eqb e quote ≡ false → eqb e 120 ≡ false → eqb e 117 ≡ false → (t : Bool) → eqb e 85 ≡ t → cond t (as_character 9 (eight_digits xs)) (cond (is_digit e) (as_byte 3 (octal_byte (e ∷ xs))) (as_byte 1 (byte_of_letter e))) ≡ Some r → IsCut quote (e ∷ xs) r
    upper p q u true v h = long p q u v (eight_digits xs) refl h
    upper p q u false v h = digit p q u v (is_digit e) refl h

    four : eqb e quote ≡ false → eqb e 120 ≡ false → eqb e 117 ≡ true → (m : ℕ) → four_digits xs ≡ Some m → (s : Bool) → is_scalar m ≡ s → cond s (Some (encode m, 5)) None ≡ Some r → IsCut quote (e ∷ xs) r
    four p q u m f true s h = let c = four_cut xs m f in let l = c.room in is_r (encode m, 5) h (omega arith, rw (p, q, u) (ap (as_character 5) c.same ∙ rw s refl))
    four p q u m f false s h = none_some r None refl h

    short : eqb e quote ≡ false → eqb e 120 ≡ false → eqb e 117 ≡ true → (o : Option ℕ) → four_digits xs ≡ o → as_character 5 o ≡ Some r → IsCut quote (e ∷ xs) r
    short p q u None f h = none_some r None refl h
    short p q u (Some m) f h = four p q u m f (is_scalar m) refl h

    lower : eqb e quote ≡ false → eqb e 120 ≡ false → (t : Bool) → eqb e 117 ≡ t → cond t (as_character 5 (four_digits xs)) (cond (eqb e 85) (as_character 9 (eight_digits xs)) (cond (is_digit e) (as_byte 3 (octal_byte (e ∷ xs))) (as_byte 1 (byte_of_letter e)))) ≡ Some r → IsCut quote (e ∷ xs) r
    lower p q true u h = short p q u (four_digits xs) refl h
    lower p q false u h = upper p q u (eqb e 85) refl h

    two : eqb e quote ≡ false → eqb e 120 ≡ true → (o : Option ℕ) → two_digits xs ≡ o → as_byte 3 o ≡ Some r → IsCut quote (e ∷ xs) r
    two p q None f h = none_some r None refl h
    two p q (Some m) f h = let c = two_cut xs m f in let l = c.room in is_r (m ∷ [], 3) h (omega arith, rw (p, q) (ap (as_byte 3) c.same))

    byte : eqb e quote ≡ false → (t : Bool) → eqb e 120 ≡ t → cond t (as_byte 3 (two_digits xs)) (cond (eqb e 117) (as_character 5 (four_digits xs)) (cond (eqb e 85) (as_character 9 (eight_digits xs)) (cond (is_digit e) (as_byte 3 (octal_byte (e ∷ xs))) (as_byte 1 (byte_of_letter e))))) ≡ Some r → IsCut quote (e ∷ xs) r
    byte p true q h = two p q (two_digits xs) refl h
    byte p false q h = lower p q (eqb e 117) refl h

    first : (t : Bool) → eqb e quote ≡ t → cond t (Some (quote ∷ [], 1)) (cond (eqb e 120) (as_byte 3 (two_digits xs)) (cond (eqb e 117) (as_character 5 (four_digits xs)) (cond (eqb e 85) (as_character 9 (eight_digits xs)) (cond (is_digit e) (as_byte 3 (octal_byte (e ∷ xs))) (as_byte 1 (byte_of_letter e)))))) ≡ Some r → IsCut quote (e ∷ xs) r
    first true p h = is_r (quote ∷ [], 1) h (omega arith, rw p refl)
    first false p h = byte p (eqb e 120) refl h

-- ---- pieces

-- a backslash with which no escape begins
abbrev pub IsReadWrong : ℕ → List ℕ → Type 0
IsReadWrong quote rest = (tail : List ℕ) × (rest ≡ 92 ∷ tail) × (escape quote tail ≡ None)

-- pieces, as far as escapes are right
pub record ReadTo (quote : ℕ) (src : List ℕ) : Type 0 where
  pub pieces : List StringPiece
  pub rest : List ℕ
  pub each : AllByRecursion (IsRead quote) pieces
  pub source : src ≡ flat_map piece_text pieces ++ rest
  pub stops : (rest ≡ []) ⊎ IsReadWrong quote rest

module _ (quote : ℕ) where
  abbrev pub value_of : List ℕ → List ℕ
  value_of src = bytes_of (gives quote 0 0 src)

  pub wrong_value : (src : List ℕ) → escape quote src ≡ None → value_of (92 ∷ src) ≡ 255 ∷ bytes_of (gives quote 1 0 src)
  unfolding piece
  wrong_value src e = bytes_first quote 92 src (255 ∷ []) 0 (rw e refl)

  pub nil_value : value_of [] ≡ []
  unfolding gives
  nil_value = refl

  pub pieces_value : (ps : List StringPiece) (rest : List ℕ) → AllByRecursion (IsRead quote) ps → value_of (flat_map piece_text ps ++ rest) ≡ flat_map meant ps ++ value_of rest
  pieces_value [] rest each = refl
  pieces_value (p ∷ ps) rest each =
      ap value_of (append_assoc (piece_text p) (flat_map piece_text ps) rest) ∙ value_one quote p (flat_map piece_text ps ++ rest) each.0 ∙ ap (λ (x : List ℕ). meant p ++ x) (pieces_value ps rest each.1) ∙ sym (append_assoc (meant p) (flat_map meant ps) (value_of rest))

  more_pieces : (p : StringPiece) (src rest : List ℕ) → IsRead quote p → src ≡ piece_text p ++ rest → ReadTo quote rest → ReadTo quote src
  more_pieces p src rest h e a = record {
    pieces = p ∷ a.pieces;
    rest = a.rest;
    each = (h, a.each);
    source = e ∙ ap (λ (x : List ℕ). piece_text p ++ x) a.source ∙ sym (append_assoc (piece_text p) (flat_map piece_text a.pieces) a.rest);
    stops = a.stops;
  }

  pub read_to : (fuel : ℕ) (src : List ℕ) → length src < fuel → ReadTo quote src
  read_to zero src lt = absurd (omega arith)
  read_to (suc fuel) [] lt = record { pieces = []; rest = []; each = tt; source = refl; stops = inl refl }
  read_to (suc fuel) (b ∷ src) lt =
      elim (eqb_tells b 92) [
        | inl s ↦ by (λ rest l. read_to fuel rest l) (escape quote src) refl s.1
        | inr s ↦ more_pieces (Bare b) (b ∷ src) src s.1 refl (read_to fuel src (omega arith))
      ]
    where
      by : ((rest : List ℕ) → length rest < fuel → ReadTo quote rest) → (o : Option (List ℕ × ℕ)) → escape quote src ≡ o → b ≡ 92 → ReadTo quote (b ∷ src)
      by again None e s = record { pieces = []; rest = b ∷ src; each = tt; source = refl; stops = inr (src, ap (λ (x : ℕ). x ∷ src) s, e) }
      by again (Some r) e s =
          let c = escape_cut quote src r e in
          let l : length (take r.1 src) ≡ r.1 = length-take-le r.1 src c.0 in
          let d = length-drop r.1 src in
          let is : escape quote (take r.1 src) ≡ Some (r.0, length (take r.1 src)) = c.1 ∙ ap (λ (k : ℕ). Some (r.0, k)) (sym l) in
          more_pieces (Escape (take r.1 src) r.0) (b ∷ src) (drop r.1 src) is (ap (λ (x : ℕ). x ∷ src) s ∙ ap (λ (x : List ℕ). 92 ∷ x) (sym (take-append-drop r.1 src))) (again (drop r.1 src) (omega arith))
