-- Reading a line piece by piece finds the pieces that stand there, all of them and no others.
use Rattle.std.proofs.Common.{◌≡◌, ℕ, zero, suc, ◌+◌, ◌*◌, ◌<◌, true, eqb, List, [], ◌∷◌, ◌++◌, Option, Some, None, length, take, drop, eq-eqb, refl, ap, arith, append_assoc, sym, ◌∙◌, subst, ◌⊎◌, inl, inr}
use Rattle.std.specs.List.{flat_map, AllByRecursion}
use Rattle.std.proofs.lemmas.List.{length-append, take-append-drop}
use Rattle.std.proofs.lemmas.List.Concat.{flat_map-cons}
use Rattle.std.proofs.lemmas.Bool.{ne_eqb, eqb-true, cases_Bool}
use Rattle.std.proofs.lemmas.Bool.Decides.{eqb_tells}
use Rattle.std.proofs.Math.Seq.{take-append_seam}
use Rattle.std.proofs.lemmas.Option.{none-some}
use lib.Utf8.{scalar}
use Rattle.lf_scalar.specs.Cells.{Cell}
use Rattle.lf_scalar.specs.Quoted.{Quotes, Single, Double, letter_of, width_of, TellsNumber, QuotedPiece, Bare, Twice, Letter, Number, spelled, IsQuotedPiece}
use Rattle.lf_scalar.specs.reading.Quoted.{told_on, told, piece_of, scan}
use Rattle.lf_base.specs.Names.{hexadecimal_value}

pub told-tells : (before : ℕ) (cs : List Cell) (n : ℕ) → told before cs ≡ Some n → TellsNumber before cs n
told-tells before [] n e = let h : before ≡ n = cc in sym h
told-tells before (c ∷ cs) n e = by (hexadecimal_value c.byte) refl e (λ d. told-tells (16 * before + d) cs n)
  where
    by : (o : Option ℕ) → hexadecimal_value c.byte ≡ o → told_on before o (λ n. told n cs) ≡ Some n → ((d : ℕ) → told (16 * before + d) cs ≡ Some n → TellsNumber (16 * before + d) cs n) → TellsNumber before (c ∷ cs) n
    by None p e later = absurd (none-some n e)
    by (Some d) p e later = (d, p, later d e)

pub tells-told : (before : ℕ) (cs : List Cell) (n : ℕ) → TellsNumber before cs n → told before cs ≡ Some n
tells-told before [] n e = ap (λ (x : ℕ). Some x) (sym e)
tells-told before (c ∷ cs) n (d, p, t) = rw p (tells-told (16 * before + d) cs n t)

no-width : (b n : ℕ) → letter_of b ≡ Some n → width_of b ≡ None
unfolding letter_of
no-width b n h =
    elim (eqb_tells b 120) [
      | inl x ↦ absurd (none-some n (subst (λ (k : ℕ). letter_of k ≡ Some n) x.1 h))
      | inr x ↦ elim (eqb_tells b 117) [
        | inl y ↦ absurd (none-some n (subst (λ (k : ℕ). letter_of k ≡ Some n) y.1 h))
        | inr y ↦ elim (eqb_tells b 85) [
          | inl z ↦ absurd (none-some n (subst (λ (k : ℕ). letter_of k ≡ Some n) z.1 h))
          | inr z ↦ rw (x.0, y.0, z.0) refl
        ]
      ]
    ]

-- ---- one piece

abbrev pub head_of : QuotedPiece → Cell
head_of (Bare c) = c
head_of (Twice c d) = c
head_of (Letter b e n) = b
head_of (Number b e digits n) = b

abbrev pub tail_of : QuotedPiece → List Cell
tail_of (Bare c) = []
tail_of (Twice c d) = d ∷ []
tail_of (Letter b e n) = e ∷ []
tail_of (Number b e digits n) = e ∷ digits

pub spelled-is : (p : QuotedPiece) (rest : List Cell) → spelled p ++ rest ≡ head_of p ∷ (tail_of p ++ rest)
spelled-is (Bare c) rest = refl
spelled-is (Twice c d) rest = refl
spelled-is (Letter b e n) rest = refl
spelled-is (Number b e digits n) rest = refl

-- a piece that stands there is found
pub piece-one : (kind : Quotes) (p : QuotedPiece) (rest : List Cell) → IsQuotedPiece kind p → piece_of kind (head_of p) (tail_of p ++ rest) ≡ Some (p, length (tail_of p))
unfolding piece_of
piece-one Single (Bare c) rest h = rw (ne_eqb c.byte 39 h) refl
piece-one Single (Twice c d) rest h = rw (eq-eqb c.byte 39 h.0, eq-eqb d.byte 39 h.1) refl
piece-one Single (Letter b e n) rest h = absurd h
piece-one Single (Number b e digits n) rest h = absurd h
piece-one Double (Bare c) rest h = rw (ne_eqb c.byte 92 h.1, ne_eqb c.byte 34 h.0) refl
piece-one Double (Twice c d) rest h = absurd h
piece-one Double (Letter b e n) rest h = rw (eq-eqb b.byte 92 h.0, no-width e.byte n h.1, h.1) refl
piece-one Double (Number b e digits n) rest h =
    rw (eq-eqb b.byte 92 h.0, h.1, take-append_seam digits rest, eq-eqb (length digits) (length digits) refl, tells-told 0 digits n h.2, h.3) refl

-- a piece, and what follows it
pub record Starts (kind : Quotes) (src : List Cell) : Type 0 where
  pub piece : QuotedPiece
  pub is_piece : IsQuotedPiece kind piece
  pub rest : List Cell
  pub source : src ≡ spelled piece ++ rest

-- a piece stands there, or none is found
pub starts : (kind : Quotes) (c : Cell) (src : List Cell) → Starts kind (c ∷ src) ⊎ (piece_of kind c src ≡ None)
unfolding piece_of
starts Single c src =
    elim (eqb_tells c.byte 39) [
      | inl a ↦ twice src a
      | inr a ↦ inl (record { piece = Bare c; is_piece = a.1; rest = src; source = refl })
    ]
  where
    twice : (src : List Cell) → (eqb c.byte 39 ≡ true) × (c.byte ≡ 39) → Starts Single (c ∷ src) ⊎ (piece_of Single c src ≡ None)
    twice [] a = inr (rw a.0 refl)
    twice (d ∷ src) a =
        elim (eqb_tells d.byte 39) [
          | inl b ↦ inl (record { piece = Twice c d; is_piece = (a.1, b.1); rest = src; source = refl })
          | inr b ↦ inr (rw (a.0, b.0) refl)
        ]
starts Double c src =
    elim (eqb_tells c.byte 92) [
      | inl a ↦ escapes src a
      | inr a ↦ elim (eqb_tells c.byte 34) [
        | inl b ↦ inr (rw (a.0, b.0) refl)
        | inr b ↦ inl (record { piece = Bare c; is_piece = (b.1, a.1); rest = src; source = refl })
      ]
    ]
  where
    numbers : (e : Cell) (src : List Cell) (width : ℕ) (o : Option ℕ) → (eqb c.byte 92 ≡ true) × (c.byte ≡ 92) → width_of e.byte ≡ Some width → eqb (length (take width src)) width ≡ true → told 0 (take width src) ≡ o
        → Starts Double (c ∷ e ∷ src) ⊎ (piece_of Double c (e ∷ src) ≡ None)
    numbers e src width None a w l t = inr (rw (a.0, w, l, t) refl)
    numbers e src width (Some n) a w l t =
        elim (cases_Bool (scalar n)) [
          | inl s ↦ inl (record {
            piece = Number c e (take width src) n;
            is_piece = (a.1, w ∙ ap (λ (k : ℕ). Some k) (sym (eqb-true _ _ l)), told-tells 0 (take width src) n t, s);
            rest = drop width src;
            source = ap (λ (x : List Cell). c ∷ e ∷ x) (sym (take-append-drop width src));
          })
          | inr s ↦ inr (rw (a.0, w, l, t, s) refl)
        ]

    escape : (e : Cell) (src : List Cell) (w : Option ℕ) (o : Option ℕ) → (eqb c.byte 92 ≡ true) × (c.byte ≡ 92) → width_of e.byte ≡ w → letter_of e.byte ≡ o → Starts Double (c ∷ e ∷ src) ⊎ (piece_of Double c (e ∷ src) ≡ None)
    escape e src None None a p q = inr (rw (a.0, p, q) refl)
    escape e src None (Some n) a p q = inl (record { piece = Letter c e n; is_piece = (a.1, q); rest = src; source = refl })
    escape e src (Some width) o a p q =
        elim (cases_Bool (eqb (length (take width src)) width)) [
          | inl l ↦ numbers e src width (told 0 (take width src)) a p l refl
          | inr l ↦ inr (rw (a.0, p, l) refl)
        ]

    escapes : (src : List Cell) → (eqb c.byte 92 ≡ true) × (c.byte ≡ 92) → Starts Double (c ∷ src) ⊎ (piece_of Double c src ≡ None)
    escapes [] a = inr (rw a.0 refl)
    escapes (e ∷ src) a = escape e src (width_of e.byte) (letter_of e.byte) a refl refl

-- where none is found none stands
pub none-stands : (kind : Quotes) (c : Cell) (src : List Cell) → piece_of kind c src ≡ None → (p : QuotedPiece) (rest : List Cell) → IsQuotedPiece kind p → c ∷ src ≡ spelled p ++ rest → ⊥
none-stands kind c src none p rest h e =
    let k : c ∷ src ≡ head_of p ∷ (tail_of p ++ rest) = e ∙ spelled-is p rest in
    let i : c ≡ head_of p = cc in
    let j : src ≡ tail_of p ++ rest = cc in
    let found : piece_of kind c src ≡ Some (p, length (tail_of p)) = rw (i, j) (piece-one kind p rest h) in
    none-some (p, length (tail_of p)) (sym none ∙ found)

pub none-found : (kind : Quotes) (c : Cell) (src : List Cell) → ((p : QuotedPiece) (rest : List Cell) → IsQuotedPiece kind p → c ∷ src ≡ spelled p ++ rest → ⊥) → piece_of kind c src ≡ None
none-found kind c src none = elim (starts kind c src) [ inl s ↦ absurd (none s.piece s.rest s.is_piece s.source) | inr k ↦ k ]

-- ---- many pieces

abbrev pub NoPiece : Quotes → List Cell → Type 0
NoPiece kind [] = Unit {0}
NoPiece kind (c ∷ src) = piece_of kind c src ≡ None

scan-skip : (kind : Quotes) (cs rest : List Cell) → scan kind (length cs) (cs ++ rest) ≡ scan kind 0 rest
unfolding scan
scan-skip kind [] rest = refl
scan-skip kind (c ∷ cs) rest = scan-skip kind cs rest

scanned-some : (kind : Quotes) (c : Cell) (src : List Cell) (p : QuotedPiece) (k : ℕ) → piece_of kind c src ≡ Some (p, k) → scan kind 0 (c ∷ src) ≡ (p ∷ (scan kind k src).0, (scan kind k src).1)
unfolding scan
scanned-some kind c src p k e = rw e refl

scanned-none : (kind : Quotes) (rest : List Cell) → NoPiece kind rest → scan kind 0 rest ≡ ([], rest)
unfolding scan
scanned-none kind [] e = refl
scanned-none kind (c ∷ src) e = rw e refl

pub scan-one : (kind : Quotes) (p : QuotedPiece) (rest : List Cell) → IsQuotedPiece kind p → scan kind 0 (spelled p ++ rest) ≡ (p ∷ (scan kind 0 rest).0, (scan kind 0 rest).1)
scan-one kind p rest h =
    let e : scan kind 0 (head_of p ∷ (tail_of p ++ rest)) ≡ (p ∷ (scan kind 0 rest).0, (scan kind 0 rest).1) =
    scanned-some kind (head_of p) (tail_of p ++ rest) p (length (tail_of p)) (piece-one kind p rest h) ∙ rw (scan-skip kind (tail_of p) rest) refl in
    ap (scan kind 0) (spelled-is p rest) ∙ e

-- pieces with which the cells begin, and behind which no piece stands, are those that are read
pub scan-again : (kind : Quotes) (ps : List QuotedPiece) (rest : List Cell) → AllByRecursion (IsQuotedPiece kind) ps → NoPiece kind rest → scan kind 0 (flat_map spelled ps ++ rest) ≡ (ps, rest)
scan-again kind [] rest each none = scanned-none kind rest none
scan-again kind (p ∷ ps) rest each none =
    let regrouped : flat_map spelled (p ∷ ps) ++ rest ≡ spelled p ++ (flat_map spelled ps ++ rest) = ap (λ (x : List Cell). x ++ rest) (flat_map-cons spelled p ps) ∙ append_assoc (spelled p) (flat_map spelled ps) rest in
    ap (scan kind 0) regrouped ∙ scan-one kind p (flat_map spelled ps ++ rest) each.0 ∙ ap (λ (x : List QuotedPiece × List Cell). (p ∷ x.0, x.1)) (scan-again kind ps rest each.1 none)

-- what is read are pieces, and behind them none stands
pub record IsScan (kind : Quotes) (cs : List Cell) (read : List QuotedPiece × List Cell) : Type 0 where
  pub each : AllByRecursion (IsQuotedPiece kind) read.0
  pub source : cs ≡ flat_map spelled read.0 ++ read.1
  pub none : NoPiece kind read.1

length-spelled : (src : List Cell) (p : QuotedPiece) (rest : List Cell) → src ≡ spelled p ++ rest → length rest < length src
length-spelled src p rest e = let k = ap length (e ∙ spelled-is p rest) in omega (arith, length-append (tail_of p) rest)

pub scan-sound : (kind : Quotes) (n : ℕ) (cs : List Cell) → length cs < n → IsScan kind cs (scan kind 0 cs)
scan-sound kind zero cs lt = absurd (omega arith)
scan-sound kind (suc n) [] lt = subst (IsScan kind []) (sym (scanned-none kind [] tt)) (record { each = tt; source = refl; none = tt })
scan-sound kind (suc n) (c ∷ src) lt =
    elim (starts kind c src) [
      | inl s ↦
          let shorter = length-spelled (c ∷ src) s.piece s.rest s.source in
          let later = scan-sound kind n s.rest (omega arith) in
          subst (IsScan kind (c ∷ src)) (sym (ap (scan kind 0) s.source ∙ scan-one kind s.piece s.rest s.is_piece)) (record {
            each = (s.is_piece, later.each);
            source = s.source ∙ ap (λ (x : List Cell). spelled s.piece ++ x) later.source ∙ sym (append_assoc (spelled s.piece) (flat_map spelled (scan kind 0 s.rest).0) (scan kind 0 s.rest).1)
                ∙ ap (λ (x : List Cell). x ++ (scan kind 0 s.rest).1) (sym (flat_map-cons spelled s.piece (scan kind 0 s.rest).0));
            none = later.none;
          })
      | inr k ↦ subst (IsScan kind (c ∷ src)) (sym (scanned-none kind (c ∷ src) k)) (record { each = tt; source = refl; none = k })
    ]
