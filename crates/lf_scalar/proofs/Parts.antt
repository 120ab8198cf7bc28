-- Parts of a text that begin behind a byte below 128 and end before one.
use Rattle.std.proofs.Common.{◌≡◌, ◌+◌, ◌<◌, true, ◌&&◌, eqb, List, [], ◌∷◌, ◌++◌, length, get_or, drop, refl, ap, arith, append_assoc, sym, ◌∙◌, subst, ◌⊎◌, inl, inr, eqb-true}
use Rattle.std.specs.Str.{IsUtf8, IsCharBoundary}
use Rattle.std.specs.List.{list_all}
use Rattle.std.proofs.lemmas.List.{append-nil, length-append, map-append, get_or_at, take_at, drop_at}
use Rattle.std.proofs.lemmas.Bool.{and_parts, or_cases, cases_Bool}
use Rattle.std.proofs.lemmas.Str.{IsUtf8-take, IsUtf8-drop, IsCharBoundary-before_ascii, IsCharBoundary-after_ascii}
use Rattle.lf_scalar.specs.Cells.{Cell, bytes_of}
use Rattle.lf_scalar.specs.Lines.{begins_with, is_blank, after_blanks, after_spaces}
use Rattle.lf_scalar.specs.Folding.{trimmed}
use Rattle.lf_scalar.specs.Plain.{before_comment}

-- the bytes of some cells are UTF-8
abbrev pub Utf8 : List Cell → Type 0
Utf8 cs = IsUtf8 (bytes_of cs)

abbrev pub EndsLow : List Cell → Type 0
EndsLow front = (front ≡ []) ⊎ ((xs : List Cell) × (c : Cell) × (front ≡ xs ++ c ∷ []) × (c.byte < 128))

abbrev pub BeginsLow : List Cell → Type 0
BeginsLow [] = Unit {0}
BeginsLow (c ∷ cs) = c.byte < 128

pub record Part (whole part : List Cell) : Type 0 where
  pub front : List Cell
  pub back : List Cell
  pub source : whole ≡ front ++ (part ++ back)
  pub ends_low : EndsLow front
  pub begins_low : BeginsLow back

-- ---- UTF-8

pub utf8-behind : (xs : List Cell) (c : Cell) (rest : List Cell) → Utf8 (xs ++ c ∷ rest) → c.byte < 128 → Utf8 rest
utf8-behind xs c rest u lt =
    let e : bytes_of (xs ++ c ∷ rest) ≡ bytes_of xs ++ c.byte ∷ bytes_of rest = map-append (λ (d : Cell). d.byte) xs (c ∷ rest) in
    let v : IsUtf8 (bytes_of xs ++ c.byte ∷ bytes_of rest) = subst IsUtf8 e u in
    let n : get_or (bytes_of xs ++ c.byte ∷ bytes_of rest) (length (bytes_of xs)) 0 ≡ c.byte = get_or_at (bytes_of xs) c.byte (bytes_of rest) 0 (length (bytes_of xs)) refl in
    let s : length (bytes_of xs) < length (bytes_of xs ++ c.byte ∷ bytes_of rest) = omega (arith, length-append (bytes_of xs) (c.byte ∷ bytes_of rest)) in
    let b : IsCharBoundary (bytes_of xs ++ c.byte ∷ bytes_of rest) (length (bytes_of xs) + 1) = IsCharBoundary-after_ascii (bytes_of xs ++ c.byte ∷ bytes_of rest) (length (bytes_of xs)) v s (omega (arith, n, lt)) in
    let d : drop (length (bytes_of xs) + 1) (bytes_of xs ++ c.byte ∷ bytes_of rest) ≡ bytes_of rest =
    ap (drop (length (bytes_of xs) + 1)) (sym (append_assoc (bytes_of xs) (c.byte ∷ []) (bytes_of rest))) ∙ drop_at (bytes_of xs ++ c.byte ∷ []) (bytes_of rest) (length (bytes_of xs) + 1) (length-append (bytes_of xs) (c.byte ∷ [])) in
    subst IsUtf8 d (IsUtf8-drop (bytes_of xs ++ c.byte ∷ bytes_of rest) (length (bytes_of xs) + 1) v b)

pub utf8-before : (xs : List Cell) (c : Cell) (rest : List Cell) → Utf8 (xs ++ c ∷ rest) → c.byte < 128 → Utf8 xs
utf8-before xs c rest u lt =
    let e : bytes_of (xs ++ c ∷ rest) ≡ bytes_of xs ++ c.byte ∷ bytes_of rest = map-append (λ (d : Cell). d.byte) xs (c ∷ rest) in
    let v : IsUtf8 (bytes_of xs ++ c.byte ∷ bytes_of rest) = subst IsUtf8 e u in
    let n : get_or (bytes_of xs ++ c.byte ∷ bytes_of rest) (length (bytes_of xs)) 0 ≡ c.byte = get_or_at (bytes_of xs) c.byte (bytes_of rest) 0 (length (bytes_of xs)) refl in
    let s : length (bytes_of xs) < length (bytes_of xs ++ c.byte ∷ bytes_of rest) = omega (arith, length-append (bytes_of xs) (c.byte ∷ bytes_of rest)) in
    let b : IsCharBoundary (bytes_of xs ++ c.byte ∷ bytes_of rest) (length (bytes_of xs)) = IsCharBoundary-before_ascii (bytes_of xs ++ c.byte ∷ bytes_of rest) (length (bytes_of xs)) s (omega (arith, n, lt)) in
    subst IsUtf8 (take_at (bytes_of xs) (c.byte ∷ bytes_of rest) (length (bytes_of xs)) refl) (IsUtf8-take (bytes_of xs ++ c.byte ∷ bytes_of rest) (length (bytes_of xs)) v b)

pub part-utf8 : (whole part : List Cell) → Part whole part → Utf8 whole → Utf8 part
part-utf8 whole part p u = back p.back (front p.ends_low) p.begins_low
  where
    front : EndsLow p.front → Utf8 (part ++ p.back)
    front (inl e) = subst Utf8 (p.source ∙ ap (λ (xs : List Cell). xs ++ (part ++ p.back)) e) u
    front (inr (xs, c, e, lt)) =
        utf8-behind xs c (part ++ p.back) (subst Utf8 (p.source ∙ ap (λ (ys : List Cell). ys ++ (part ++ p.back)) e ∙ append_assoc xs (c ∷ []) (part ++ p.back)) u) lt

    back : (b : List Cell) → Utf8 (part ++ b) → BeginsLow b → Utf8 part
    back [] v lt = subst Utf8 (append-nil part) v
    back (c ∷ cs) v lt = utf8-before part c cs v lt

-- ---- the parts of a line

pub blank-low : (c : Cell) → is_blank c ≡ true → c.byte < 128
blank-low c h =
    elim (or_cases (eqb c.byte 32) (eqb c.byte 9) h) [
      | inl a ↦ omega (arith, eqb-true c.byte 32 a)
      | inr a ↦ omega (arith, eqb-true c.byte 9 a)
    ]

pub whole-part : (cs : List Cell) → Part cs cs
whole-part cs = record { front = []; back = []; source = sym (append-nil cs); ends_low = inl refl; begins_low = tt }

-- one more cell below 128 at the front
pub low-part : (c : Cell) (cs part : List Cell) → c.byte < 128 → Part cs part → Part (c ∷ cs) part
low-part c cs part lt p = record { front = c ∷ p.front; back = p.back; source = ap (λ (xs : List Cell). c ∷ xs) p.source; ends_low = longer p.ends_low; begins_low = p.begins_low }
  where
    longer : EndsLow p.front → EndsLow (c ∷ p.front)
    longer (inl e) = inr ([], c, ap (λ (xs : List Cell). c ∷ xs) e, lt)
    longer (inr (xs, d, e, h)) = inr (c ∷ xs, d, ap (λ (ys : List Cell). c ∷ ys) e, h)

pub after-blanks-part : (cs : List Cell) → Part cs (after_blanks cs)
after-blanks-part [] = whole-part []
after-blanks-part (c ∷ cs) =
    elim (cases_Bool (is_blank c)) [
      | inl a ↦ rw a (low-part c cs (after_blanks cs) (blank-low c a) (after-blanks-part cs))
      | inr a ↦ rw a (whole-part (c ∷ cs))
    ]

pub after-spaces-part : (cs : List Cell) → Part cs (after_spaces cs)
after-spaces-part [] = whole-part []
after-spaces-part (c ∷ cs) =
    elim (cases_Bool (eqb c.byte 32)) [
      | inl a ↦ rw a (low-part c cs (after_spaces cs) (omega (arith, eqb-true c.byte 32 a)) (after-spaces-part cs))
      | inr a ↦ rw a (whole-part (c ∷ cs))
    ]

-- a part at the front
pub record Front (whole part : List Cell) : Type 0 where
  pub back : List Cell
  pub source : whole ≡ part ++ back
  pub begins_low : BeginsLow back

pub front-part : (whole part : List Cell) → Front whole part → Part whole part
front-part whole part f = record { front = []; back = f.back; source = f.source; ends_low = inl refl; begins_low = f.begins_low }

one-more : (c : Cell) (cs part : List Cell) → Front cs part → Front (c ∷ cs) (c ∷ part)
one-more c cs part f = record { back = f.back; source = ap (λ (xs : List Cell). c ∷ xs) f.source; begins_low = f.begins_low }

pub before-comment-front : (cs : List Cell) → Front cs (before_comment cs)
before-comment-front [] = record { back = []; source = refl; begins_low = tt }
before-comment-front (c ∷ cs) =
    elim (cases_Bool (is_blank c && begins_with 35 cs)) [
      | inl a ↦ rw a (record { back = c ∷ cs; source = refl; begins_low = blank-low c (and_parts (is_blank c) (begins_with 35 cs) a).0 })
      | inr a ↦ rw a (one-more c cs (before_comment cs) (before-comment-front cs))
    ]

pub trimmed-front : (cs : List Cell) → Front cs (trimmed is_blank cs)
trimmed-front [] = record { back = []; source = refl; begins_low = tt }
trimmed-front (c ∷ cs) =
    elim (cases_Bool (is_blank c && list_all is_blank cs)) [
      | inl a ↦ rw a (record { back = c ∷ cs; source = refl; begins_low = blank-low c (and_parts (is_blank c) (list_all is_blank cs) a).0 })
      | inr a ↦ rw a (one-more c cs (trimmed is_blank cs) (trimmed-front cs))
    ]
