-- The text of a scalar between quotes: it is UTF-8, and its offsets never fall.
use Rattle.std.proofs.Common.{◌≡◌, ℕ, suc, ◌+◌, ◌*◌, ◌<◌, ◌≤◌, true, ◌&&◌, eqb, List, [], ◌∷◌, ◌++◌, Option, Some, None, length, map, refl, ap, arith, append_assoc, sym, ◌∙◌, subst, inl, inr, eqb-true}
use Rattle.std.specs.Str.{IsUtf8}
use Rattle.std.specs.Char.{IsScalar, encode_utf8}
use Rattle.std.specs.List.{flat_map, list_all, AllByRecursion}
use Rattle.std.proofs.lemmas.List.{append-nil}
use Rattle.std.proofs.lemmas.Bool.{and_parts, cases_Bool, true≢false}
use Rattle.std.proofs.lemmas.Grind.{flat_map-append}
use Rattle.std.proofs.lemmas.Str.{IsUtf8-encode}
use Rattle.std.proofs.lemmas.Option.{same_Some}
use Rattle.lf_scalar.specs.Cells.{Cell, cell, bytes_of}
use Rattle.lf_scalar.specs.Lines.{Line, after_blanks}
use Rattle.lf_scalar.specs.Folding.{trimmed}
use Rattle.lf_scalar.specs.Quoted.{Quotes, Single, Double, quote_of, letters, looked_up, letter_of, width_of, TellsNumber, QuotedPiece, Bare, Twice, Letter, Number, spelled, char_cells, given, IsQuotedPiece, is_bare_blank, Break, Folds, Drops, filled, IsBroken, unindented, QuotedFrom, last, more}
use Rattle.lf_scalar.proofs.Parts.{Utf8, utf8-before, utf8-behind, part-utf8, after-blanks-part, blank-low, BeginsLow}
use Rattle.lf_scalar.proofs.Utf8Lines.{utf8-nil, utf8-append, utf8-low, feeds-utf8, fold-utf8, LinesUtf8, lines-utf8-behind}
use Rattle.lf_scalar.proofs.Rising.{Rises, Climbs, LinesRise, rises-le, rises-front, rises-back, rises-before, rises-behind, rises-part, climbs-low, climbs-high, climbs-append, feeds-climb, fold-climbs, lines-behind}
use Rattle.lf_base.proofs.Digits.{digit_low}
use Rattle.lf_laws.proofs.Members.{all_front}

-- ---- escapes

abbrev pub some : ℕ → Option ℕ
some n = Some n

abbrev none : Option ℕ
none = None

not-none : (n : ℕ) → none ≡ some n → ⊥
not-none n e = cc

letters-are : (byte n : ℕ) (pairs : List (ℕ × ℕ)) → AllByRecursion (λ p. (p.0 < 128) × IsScalar p.1) pairs → looked_up byte pairs ≡ some n → (byte < 128) × IsScalar n
letters-are byte n [] h e = absurd (not-none n e)
letters-are byte n (pair ∷ pairs) h e =
    elim (cases_Bool (eqb byte pair.0)) [
      | inl a ↦
          let k : some pair.1 ≡ some n = rw a at e in
          (omega (arith, eqb-true byte pair.0 a, h.0.0), subst IsScalar (same_Some pair.1 n k) h.0.1)
      | inr a ↦ letters-are byte n pairs h.1 (rw a at e)
    ]

pub letter-low : (byte n : ℕ) → letter_of byte ≡ Some n → (byte < 128) × IsScalar n
unfolding letter_of
letter-low byte n e =
    letters-are byte n letters (
      (omega arith, refl),
      (
        (omega arith, refl),
        (
          (omega arith, refl),
          (
            (omega arith, refl),
            (
              (omega arith, refl),
              (
                (omega arith, refl),
                (
                  (omega arith, refl),
                  (
                    (omega arith, refl),
                    (
                      (omega arith, refl),
                      ((omega arith, refl), ((omega arith, refl), ((omega arith, refl), ((omega arith, refl), ((omega arith, refl), ((omega arith, refl), ((omega arith, refl), ((omega arith, refl), ((omega arith, refl), tt))))))))),
                    ),
                  ),
                ),
              ),
            ),
          ),
        ),
      ),
    )
    e

width-low : (byte n : ℕ) → width_of byte ≡ some n → byte < 128
width-low byte n e =
    elim (cases_Bool (eqb byte 120)) [
      | inl a ↦ omega (arith, eqb-true byte 120 a)
      | inr a ↦ elim (cases_Bool (eqb byte 117)) [
        | inl b ↦ omega (arith, eqb-true byte 117 b)
        | inr b ↦ elim (cases_Bool (eqb byte 85)) [
          | inl c ↦ omega (arith, eqb-true byte 85 c)
          | inr c ↦ let k : none ≡ some n = rw (a, b, c) at e in absurd (not-none n k)
        ]
      ]
    ]

abbrev pub AreLow : List Cell → Type 0
AreLow cs = AllByRecursion (λ c. c.byte < 128) cs

digits-low : (before : ℕ) (cs : List Cell) (n : ℕ) → TellsNumber before cs n → AreLow cs
digits-low before [] n h = tt
digits-low before (c ∷ cs) n (d, e, h) = (digit_low c.byte d e, digits-low (16 * before + d) cs n h)

behind-low : (cs rest : List Cell) → AreLow cs → Utf8 (cs ++ rest) → Utf8 rest
behind-low [] rest h u = u
behind-low (c ∷ cs) rest h u = behind-low cs rest h.1 (utf8-behind [] c (cs ++ rest) u h.0)

char-bytes : (at : ℕ) (bytes : List ℕ) → bytes_of (map (λ (b : ℕ). cell b at) bytes) ≡ bytes
char-bytes at [] = refl
char-bytes at (b ∷ bytes) = ap (λ (bs : List ℕ). b ∷ bs) (char-bytes at bytes)

char-utf8 : (at n : ℕ) → IsScalar n → Utf8 (char_cells at n)
char-utf8 at n s = subst IsUtf8 (sym (char-bytes at (encode_utf8 n))) (IsUtf8-encode n s)

-- ---- pieces

-- a piece that gives another text than it spells, behind some cells
replaced : (xs : List Cell) (c : Cell) (behind text now : List Cell) → c.byte < 128 → Utf8 (xs ++ c ∷ behind) → Utf8 text → Utf8 now → Utf8 (xs ++ (text ++ now))
replaced xs c behind text now lt u t v = utf8-append xs (text ++ now) (utf8-before xs c behind u lt) (utf8-append text now t v)

pieces-utf8-from : (kind : Quotes) (xs : List Cell) (ps : List QuotedPiece) → AllByRecursion (IsQuotedPiece kind) ps → Utf8 (xs ++ flat_map spelled ps) → Utf8 (xs ++ flat_map given ps)
pieces-utf8-from kind xs [] h u = u
pieces-utf8-from kind xs (Bare c ∷ ps) h u =
    subst Utf8 (append_assoc xs (c ∷ []) (flat_map given ps)) (pieces-utf8-from kind (xs ++ c ∷ []) ps h.1 (subst Utf8 (sym (append_assoc xs (c ∷ []) (flat_map spelled ps))) u))
pieces-utf8-from Single xs (Twice c d ∷ ps) h u =
    let lc : c.byte < 128 = omega (arith, h.0.0) in
    let ld : d.byte < 128 = omega (arith, h.0.1) in
    let rest : Utf8 (flat_map spelled ps) = utf8-behind [] d (flat_map spelled ps) (utf8-behind xs c (d ∷ flat_map spelled ps) u lc) ld in
    replaced xs c (d ∷ flat_map spelled ps) (c ∷ []) (flat_map given ps) lc u (utf8-low c [] lc utf8-nil) (pieces-utf8-from Single [] ps h.1 rest)
pieces-utf8-from Double xs (Twice c d ∷ ps) h u = absurd h.0
pieces-utf8-from Single xs (Letter b e n ∷ ps) h u = absurd h.0
pieces-utf8-from Double xs (Letter b e n ∷ ps) h u =
    let l = letter-low e.byte n h.0.1 in
    let lb : b.byte < 128 = omega (arith, h.0.0) in
    let rest : Utf8 (flat_map spelled ps) = utf8-behind [] e (flat_map spelled ps) (utf8-behind xs b (e ∷ flat_map spelled ps) u lb) l.0 in
    replaced xs b (e ∷ flat_map spelled ps) (char_cells b.at n) (flat_map given ps) lb u (char-utf8 b.at n l.1) (pieces-utf8-from Double [] ps h.1 rest)
pieces-utf8-from Single xs (Number b e digits n ∷ ps) h u = absurd h.0
pieces-utf8-from Double xs (Number b e digits n ∷ ps) h u =
    let lb : b.byte < 128 = omega (arith, h.0.0) in
    let le : e.byte < 128 = width-low e.byte (length digits) h.0.1 in
    let tail : Utf8 (digits ++ flat_map spelled ps) = utf8-behind [] e (digits ++ flat_map spelled ps) (utf8-behind xs b (e ∷ (digits ++ flat_map spelled ps)) u lb) le in
    let rest : Utf8 (flat_map spelled ps) = behind-low digits (flat_map spelled ps) (digits-low 0 digits n h.0.2) tail in
    replaced xs b (e ∷ (digits ++ flat_map spelled ps)) (char_cells b.at n) (flat_map given ps) lb u (char-utf8 b.at n h.0.3) (pieces-utf8-from Double [] ps h.1 rest)

pub pieces-utf8 : (kind : Quotes) (ps : List QuotedPiece) → AllByRecursion (IsQuotedPiece kind) ps → Utf8 (flat_map spelled ps) → Utf8 (flat_map given ps)
pieces-utf8 kind ps h u = pieces-utf8-from kind [] ps h u

chars-climb : (lo at hi : ℕ) (bytes : List ℕ) (rest : List Cell) → lo ≤ at → at < hi → Climbs at rest hi → Climbs lo (map (λ (b : ℕ). cell b at) bytes ++ rest) hi
chars-climb lo at hi [] rest le lt h = climbs-low at lo rest hi le h
chars-climb lo at hi (b ∷ bytes) rest le lt h = (le, lt, chars-climb at at hi bytes rest (omega arith) lt h)

pub pieces-climb : (lo : ℕ) (ps : List QuotedPiece) (hi : ℕ) → Rises lo (flat_map spelled ps) hi → Climbs lo (flat_map given ps) hi
pieces-climb lo [] hi h = h
pieces-climb lo (Bare c ∷ ps) hi h =
    let le = rises-le (suc c.at) (flat_map spelled ps) hi h.1 in
    (h.0, omega (arith, le), climbs-low (suc c.at) c.at (flat_map given ps) hi (omega arith) (pieces-climb (suc c.at) ps hi h.1))
pieces-climb lo (Twice c d ∷ ps) hi h =
    let le = rises-le (suc d.at) (flat_map spelled ps) hi h.1.1 in
    (h.0, omega (arith, le, h.1.0), climbs-low (suc d.at) c.at (flat_map given ps) hi (omega (arith, h.1.0)) (pieces-climb (suc d.at) ps hi h.1.1))
pieces-climb lo (Letter b e n ∷ ps) hi h =
    let le = rises-le (suc e.at) (flat_map spelled ps) hi h.1.1 in
    chars-climb lo b.at hi (encode_utf8 n) (flat_map given ps) h.0 (omega (arith, le, h.1.0)) (climbs-low (suc e.at) b.at (flat_map given ps) hi (omega (arith, h.1.0)) (pieces-climb (suc e.at) ps hi h.1.1))
pieces-climb lo (Number b e digits n ∷ ps) hi h =
    let r : Rises (suc e.at) (flat_map spelled ps) hi = rises-back (suc e.at) digits (flat_map spelled ps) hi h.1.1 in
    let le = rises-le (suc e.at) (flat_map spelled ps) hi r in
    chars-climb lo b.at hi (encode_utf8 n) (flat_map given ps) h.0 (omega (arith, le, h.1.0)) (climbs-low (suc e.at) b.at (flat_map given ps) hi (omega (arith, h.1.0)) (pieces-climb (suc e.at) ps hi r))

-- ---- without the blanks at the end

pub record FrontPieces (ps front : List QuotedPiece) : Type 0 where
  pub back : List QuotedPiece
  pub source : ps ≡ front ++ back
  pub begins_low : BeginsLow (flat_map spelled back)

bare-low : (p : QuotedPiece) (ps : List QuotedPiece) → is_bare_blank p ≡ true → BeginsLow (flat_map spelled (p ∷ ps))
bare-low (Bare c) ps h = blank-low c h
bare-low (Twice c d) ps h = absurd (true≢false (sym h))
bare-low (Letter b e n) ps h = absurd (true≢false (sym h))
bare-low (Number b e digits n) ps h = absurd (true≢false (sym h))

trimmed-pieces : (ps : List QuotedPiece) → FrontPieces ps (trimmed is_bare_blank ps)
trimmed-pieces [] = record { back = []; source = refl; begins_low = tt }
trimmed-pieces (p ∷ ps) =
    elim (cases_Bool (is_bare_blank p && list_all is_bare_blank ps)) [
      | inl a ↦ rw a (record { back = p ∷ ps; source = refl; begins_low = bare-low p ps (and_parts (is_bare_blank p) (list_all is_bare_blank ps) a).0 })
      | inr a ↦ rw a (longer (trimmed-pieces ps))
    ]
  where
    longer : FrontPieces ps (trimmed is_bare_blank ps) → FrontPieces (p ∷ ps) (p ∷ trimmed is_bare_blank ps)
    longer f = record { back = f.back; source = ap (λ (qs : List QuotedPiece). p ∷ qs) f.source; begins_low = f.begins_low }

module _ (ps : List QuotedPiece) where
  spelled-parts : flat_map spelled ps ≡ flat_map spelled (trimmed is_bare_blank ps) ++ flat_map spelled (trimmed-pieces ps).back
  spelled-parts = ap (flat_map spelled) (trimmed-pieces ps).source ∙ flat_map-append spelled (trimmed is_bare_blank ps) (trimmed-pieces ps).back

  cut-utf8 : (text back : List Cell) → BeginsLow back → Utf8 (text ++ back) → Utf8 text
  cut-utf8 text [] h u = subst Utf8 (append-nil text) u
  cut-utf8 text (c ∷ cs) h u = utf8-before text c cs u h

  pub trimmed-utf8 : (kind : Quotes) → AllByRecursion (IsQuotedPiece kind) ps → Utf8 (flat_map spelled ps) → Utf8 (flat_map given (trimmed is_bare_blank ps))
  trimmed-utf8 kind h u =
      pieces-utf8 kind (trimmed is_bare_blank ps) (all_front (IsQuotedPiece kind) (trimmed is_bare_blank ps) (trimmed-pieces ps).back (subst (AllByRecursion (IsQuotedPiece kind)) (trimmed-pieces ps).source h))
      (cut-utf8 (flat_map spelled (trimmed is_bare_blank ps)) (flat_map spelled (trimmed-pieces ps).back) (trimmed-pieces ps).begins_low (subst Utf8 spelled-parts u))

  pub trimmed-climbs : (lo hi : ℕ) → Rises lo (flat_map spelled ps) hi → Climbs lo (flat_map given (trimmed is_bare_blank ps)) hi
  trimmed-climbs lo hi r =
      pieces-climb lo (trimmed is_bare_blank ps) hi (rises-front lo (flat_map spelled (trimmed is_bare_blank ps)) (flat_map spelled (trimmed-pieces ps).back) hi (subst (λ (cs : List Cell). Rises lo cs hi) spelled-parts r))

-- ---- lines

pub quote-low : (kind : Quotes) (c : Cell) → c.byte ≡ quote_of kind → c.byte < 128
quote-low Single c e = omega (arith, e)
quote-low Double c e = omega (arith, e)

pub broken-utf8 : (kind : Quotes) (l : Line) (text : List Cell) (break : Break) → IsBroken kind l text break → Utf8 l.text → Utf8 text
broken-utf8 kind l text (Folds at) (ps, h, s, t, p) u = subst Utf8 (sym t) (trimmed-utf8 ps kind h (subst Utf8 s u))
broken-utf8 Double l text (Drops at) (ps, b, h, lb, s, t, p) u =
    subst Utf8 (sym t) (pieces-utf8 Double ps h (utf8-before (flat_map spelled ps) b [] (subst Utf8 s u) (omega (arith, lb))))
broken-utf8 Single l text (Drops at) h u = absurd h

pub filled-utf8 : (break : Break) (k : ℕ) → Utf8 (filled break k)
filled-utf8 (Folds at) k = fold-utf8 at k
filled-utf8 (Drops at) k = feeds-utf8 k at

pub quoted-utf8 : (kind : Quotes) (l : Line) (ls : List Line) (text : List Cell) → QuotedFrom kind l ls text → LinesUtf8 (l ∷ ls) → Utf8 text
quoted-utf8 kind l _ _ (last ps c h q s) u = pieces-utf8 kind ps h (utf8-before (flat_map spelled ps) c [] (subst Utf8 s u.0) (quote-low kind c q))
quoted-utf8 kind l _ _ (more {next = next} {ls = ls} {text = text} part break blank b f i rest) u =
    let v = lines-utf8-behind blank (next ∷ ls) u.1 in
    utf8-append part (filled break (length blank) ++ text) (broken-utf8 kind l part break b u.0)
    (utf8-append (filled break (length blank)) text (filled-utf8 break (length blank)) (quoted-utf8 kind (unindented next) ls text rest (part-utf8 next.text (after_blanks next.text) (after-blanks-part next.text) v.0, v.1)))

pub broken-climbs : (kind : Quotes) (l : Line) (text : List Cell) (break : Break) (lo : ℕ) → IsBroken kind l text break → Rises lo l.text l.break → Climbs lo text l.break
broken-climbs kind l text (Folds at) lo (ps, h, s, t, p) r = subst (λ (cs : List Cell). Climbs lo cs l.break) (sym t) (trimmed-climbs ps lo l.break (subst (λ (cs : List Cell). Rises lo cs l.break) s r))
broken-climbs Double l text (Drops at) lo (ps, b, h, lb, s, t, p) r =
    subst (λ (cs : List Cell). Climbs lo cs l.break) (sym t) (pieces-climb lo ps l.break (rises-front lo (flat_map spelled ps) (b ∷ []) l.break (subst (λ (cs : List Cell). Rises lo cs l.break) s r)))
broken-climbs Single l text (Drops at) lo h r = absurd h

pub filled-climbs : (kind : Quotes) (l : Line) (text : List Cell) (break : Break) (k : ℕ) → IsBroken kind l text break → Climbs l.break (filled break k) (suc l.break)
filled-climbs kind l text (Folds at) k (ps, h, s, t, p) = rw p (fold-climbs l.break k)
filled-climbs Double l text (Drops at) k (ps, b, h, lb, s, t, p) = rw p (feeds-climb k l.break)
filled-climbs Single l text (Drops at) k h = absurd h

pub quoted-climbs : (kind : Quotes) (l : Line) (ls : List Line) (text : List Cell) → QuotedFrom kind l ls text → (lo hi : ℕ) → LinesRise lo (l ∷ ls) (suc hi) → Climbs lo text hi
quoted-climbs kind l _ _ (last ps c h q s) lo hi r =
    let k : Rises lo (flat_map spelled ps ++ c ∷ []) l.break = subst (λ (cs : List Cell). Rises lo cs l.break) s r.0 in
    let e : suc c.at ≤ l.break = rises-behind lo (flat_map spelled ps) c [] l.break k in
    climbs-high lo (flat_map given ps) c.at hi (omega (arith, e, r.1)) (pieces-climb lo ps c.at (rises-before lo (flat_map spelled ps) c [] l.break k))
quoted-climbs kind l _ _ (more {next = next} {ls = ls} {text = text} part break blank b f i rest) lo hi r =
    let n : LinesRise (suc l.break) (next ∷ ls) (suc hi) = lines-behind (suc l.break) blank (next ∷ ls) (suc hi) r.2 in
    let below : Climbs (suc l.break) text hi =
    quoted-climbs kind (unindented next) ls text rest (suc l.break) hi (rises-part (suc l.break) next.text (after_blanks next.text) next.break (after-blanks-part next.text) n.0, n.1, n.2) in
    climbs-append lo part l.break (filled break (length blank) ++ text) hi (broken-climbs kind l part break lo b r.0)
    (climbs-append l.break (filled break (length blank)) (suc l.break) text hi (filled-climbs kind l part break (length blank) b) below)
