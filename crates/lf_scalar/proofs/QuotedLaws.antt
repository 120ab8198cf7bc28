-- Reading the lines between quotes is the definition, in both directions, and its fault is the breach.
use Rattle.std.proofs.Common.{◌≡◌, ◌≢◌, ℕ, zero, suc, ◌+◌, ◌<◌, Bool, true, false, eqb, List, [], ◌∷◌, ◌++◌, Option, Some, None, Result, Ok, Err, length, eq-eqb, refl, ap, arith, sym, ◌∙◌, subst, ◌⊎◌, inl, inr}
use Rattle.std.specs.List.{flat_map, AllByRecursion, list_all}
use Rattle.std.proofs.lemmas.List.{append-nil, length-append}
use Rattle.std.proofs.lemmas.Bool.Decides.{eqb_tells}
use Rattle.std.proofs.lemmas.Bool.{cases_Bool, and_parts}
use Rattle.lf_base.specs.declared.kind.Kind.TheVariants.{BadEscape, LeftOut}
use Rattle.lf_base.specs.declared.fault.Fault.{Fault}
use Rattle.lf_scalar.specs.Cells.{Cell, byte_fault, front, ◌>>=◌}
use Rattle.lf_scalar.specs.Lines.{Line, start_of, is_blank, after_blanks, is_blank_line, AreBlank}
use Rattle.lf_scalar.specs.Markers.{is_marker}
use Rattle.lf_scalar.specs.Quoted.{Quotes, Single, Double, quote_of, QuotedPiece, Bare, Twice, spelled, given, IsQuotedPiece, Break, Folds, Drops, filled, IsBroken, Follows, unindented, QuotedFrom, last, more, HasBadEscape, QuotedBreaks, escape, marker, later}
use Rattle.lf_scalar.specs.reading.Quoted.{piece_of, scan, closing_of, ended, line_of, lines_behind, lines_from}
use Rattle.lf_scalar.specs.Splits.{Split, behind_cell}
use Rattle.lf_scalar.proofs.Pieces.{none-stands, none-found, scan-again, IsScan, scan-sound}
use Rattle.lf_scalar.proofs.Closing.{ahead, closing-pieces}
use Rattle.lf_scalar.proofs.InnerLines.{LinesOk, behind-was, behind-none, passed}
use Rattle.lf_scalar.proofs.Tails.{true-false}

-- ---- what the definition has is read: one line

abbrev Read : Type 0
Read = List Cell × Break

abbrev good : List Cell → Break → Result Read Fault
good part break = Ok (part, break)

no-piece-closing : (kind : Quotes) (c : Cell) → c.byte ≡ quote_of kind → (piece_of kind c [] ≡ None) × (eqb c.byte 92 ≡ false)
unfolding piece_of
no-piece-closing Single c e = (rw (eq-eqb c.byte 39 e) refl, rw e refl)
no-piece-closing Double c e = (rw (e) refl, rw e refl)

line-last : (kind : Quotes) (l : Line) (ps : List QuotedPiece) (closing : Cell) → AllByRecursion (IsQuotedPiece kind) ps → closing.byte ≡ quote_of kind → l.text ≡ flat_map spelled ps ++ closing ∷ [] → line_of kind l ≡ good (flat_map given ps) (Folds l.break)
line-last kind l ps closing each e source =
    let n = no-piece-closing kind closing e in
    ap (λ (x : List Cell). ended l.break (scan kind 0 x)) source ∙ ap (ended l.break) (scan-again kind ps (closing ∷ []) each n.0) ∙ rw n.1 refl

pub broken-again : (kind : Quotes) (l : Line) (part : List Cell) (break : Break) → IsBroken kind l part break → line_of kind l ≡ good part break
unfolding piece_of
broken-again kind l part (Folds at) (ps, each, source, p, a) =
    ap (λ (x : List Cell). ended l.break (scan kind 0 x)) (source ∙ sym (append-nil (flat_map spelled ps))) ∙ ap (ended l.break) (scan-again kind ps [] each tt) ∙ rw (p, a) refl
broken-again Single l part (Drops at) h = absurd h
broken-again Double l part (Drops at) (ps, b, each, e, source, p, a) =
    let n : piece_of Double b [] ≡ None = rw (eq-eqb b.byte 92 e) refl in
    ap (λ (x : List Cell). ended l.break (scan Double 0 x)) source ∙ ap (ended l.break) (scan-again Double ps (b ∷ []) each n) ∙ rw (eq-eqb b.byte 92 e, p, a) refl

escape-again : (kind : Quotes) (l : Line) (b : Cell) → HasBadEscape kind l.text b → line_of kind l ≡ Err (byte_fault BadEscape b.at)
escape-again kind l b h =
    ap (λ (x : List Cell). ended l.break (scan kind 0 x)) h.source ∙ ap (ended l.break) (scan-again kind h.pieces (b ∷ h.more) h.each (none-found kind b h.more h.is_bad.none)) ∙ by h.more h.is_bad.inside
  where
    by : (left : List Cell) → left ≢ [] → ended l.break (h.pieces, b ∷ left) ≡ Err (byte_fault BadEscape b.at)
    by [] n = absurd (n refl)
    by (d ∷ left) n = rw (eq-eqb b.byte 92 h.is_bad.is_backslash) refl

-- ---- blank lines

pub blanks-passed : (kind : Quotes) (break : Break) (k : ℕ) (blank rest : List Line) → AreBlank blank → lines_behind kind break k (blank ++ rest) ≡ lines_behind kind break (k + length blank) rest
unfolding lines_behind
blanks-passed kind break k [] rest h = ap (λ (n : ℕ). lines_behind kind break n rest) (omega arith)
blanks-passed kind break k (l ∷ ls) rest h =
    let n : suc k + length ls ≡ k + suc (length ls) = omega arith in
    rw h.0 (blanks-passed kind break (suc k) ls rest h.1 ∙ ap (λ (m : ℕ). lines_behind kind break m rest) n)

-- the line behind blank ones
abbrev next_read : Quotes → Break → ℕ → Line → List Line → Bool → Result (List Cell) Fault
next_read kind break k next rest false = front (filled break k) (lines_from kind (unindented next) rest)
next_read kind break k next rest true = Err (byte_fault LeftOut (start_of next))

next-is : (kind : Quotes) (break : Break) (k : ℕ) (next : Line) (rest : List Line) (b : Bool) → is_blank_line next ≡ false → is_marker next ≡ b → lines_behind kind break k (next ∷ rest) ≡ next_read kind break k next rest b
unfolding lines_behind
next-is kind break k next rest true f e = rw (f, e) refl
next-is kind break k next rest false f e = rw (f, e) refl

pub behind-is : (kind : Quotes) (break : Break) (blank : List Line) (next : Line) (rest : List Line) (b : Bool) → Follows blank next → is_marker next ≡ b → lines_behind kind break 0 (blank ++ next ∷ rest) ≡ next_read kind break (length blank) next rest b
behind-is kind break blank next rest b f e =
    let n : 0 + length blank ≡ length blank = omega arith in
    blanks-passed kind break 0 blank (next ∷ rest) f.are_blank ∙ ap (λ (k : ℕ). lines_behind kind break k (next ∷ rest)) n ∙ next-is kind break (length blank) next rest b f.is_full e

-- ---- what the definition has is read: all lines

from-line : (kind : Quotes) (l : Line) (ls : List Line) (part : List Cell) (break : Break) (read : Result (List Cell) Fault) → line_of kind l ≡ good part break → lines_behind kind break 0 ls ≡ read → lines_from kind l ls ≡ front part read
from-line kind l ls part break read e h = rw (e, h) refl

behind-nothing : (kind : Quotes) (break : Break) → lines_behind kind break 0 [] ≡ Ok []
unfolding lines_behind
behind-nothing kind break = refl

pub from-again : (kind : Quotes) (l : Line) (ls : List Line) (text : List Cell) → QuotedFrom kind l ls text → lines_from kind l ls ≡ Ok text
from-again kind l _ _ (last ps closing each e source) =
    from-line kind l [] (flat_map given ps) (Folds l.break) (Ok []) (line-last kind l ps closing each e source) (behind-nothing kind (Folds l.break)) ∙ ap (λ (x : List Cell). Ok x) (append-nil (flat_map given ps))
from-again kind l _ _ (more {next = next} {ls = ls} {text = text} part break blank broken follows bare rest) =
    let below : lines_behind kind break 0 (blank ++ next ∷ ls) ≡ Ok (filled break (length blank) ++ text) =
    behind-is kind break blank next ls false follows bare ∙ rw (from-again kind (unindented next) ls text rest) refl in
    from-line kind l (blank ++ next ∷ ls) part break _ (broken-again kind l part break broken) below

pub breaks-again : (kind : Quotes) (l : Line) (ls : List Line) (f : Fault) → QuotedBreaks kind l ls f → lines_from kind l ls ≡ Err f
breaks-again kind l _ _ (escape {backslash = b} ls h) = rw (escape-again kind l b h) refl
breaks-again kind l _ _ (marker {next = next} part break blank ls broken follows marked) =
    from-line kind l (blank ++ next ∷ ls) part break _ (broken-again kind l part break broken) (behind-is kind break blank next ls true follows marked)
breaks-again kind l _ _ (later {next = next} {ls = ls} {f = f} part break blank broken follows bare rest) =
    let below : lines_behind kind break 0 (blank ++ next ∷ ls) ≡ Err f = behind-is kind break blank next ls false follows bare ∙ rw (breaks-again kind (unindented next) ls f rest) refl in
    from-line kind l (blank ++ next ∷ ls) part break _ (broken-again kind l part break broken) below

-- ---- what is read is told by the definition: one line

abbrev pub some-closing : Split → Option Split
some-closing x = Some x

abbrev bad : Fault → Result Read Fault
bad f = Err f

pub no-some : (x : Split) → None ≡ some-closing x → ⊥
no-some x e = cc

-- where no piece stands: a backslash, or a quote that closes
pub data Stuck (kind : Quotes) (c : Cell) (src : List Cell) : Type 0 where
  backslash : kind ≡ Double → c.byte ≡ 92 → Stuck kind c src
  closing : c.byte ≡ quote_of kind → closing_of kind 0 (c ∷ src) ≡ Some ([], (c, src)) → Stuck kind c src

stuck : (kind : Quotes) (c : Cell) (src : List Cell) → piece_of kind c src ≡ None → Stuck kind c src
unfolding closing_of
stuck Single c [] none =
    elim (eqb_tells c.byte 39) [
      | inl a ↦ closing a.1 (rw a.0 refl)
      | inr a ↦ absurd (none-stands Single c [] none (Bare c) [] a.1 refl)
    ]
stuck Single c (d ∷ src) none =
    elim (eqb_tells c.byte 39) [
      | inl a ↦ elim (eqb_tells d.byte 39) [
        | inl b ↦ absurd (none-stands Single c (d ∷ src) none (Twice c d) src (a.1, b.1) refl)
        | inr b ↦ closing a.1 (rw (a.0, b.0) refl)
      ]
      | inr a ↦ absurd (none-stands Single c (d ∷ src) none (Bare c) (d ∷ src) a.1 refl)
    ]
stuck Double c src none =
    elim (eqb_tells c.byte 92) [
      | inl a ↦ backslash refl a.1
      | inr a ↦ elim (eqb_tells c.byte 34) [
        | inl b ↦ closing b.1 (rw b.0 refl)
        | inr b ↦ absurd (none-stands Double c src none (Bare c) src (b.1, a.1) refl)
      ]
    ]

not-single : {X : Type 0} → ◌≡◌ {A = Quotes} Single Double → X
not-single e = absurd (subst Is e tt)
  where
    Is : Quotes → Type 0
    Is Single = Unit {0}
    Is Double = ⊥

drops : (kind : Quotes) (l : Line) (ps : List QuotedPiece) (c : Cell) → kind ≡ Double → AllByRecursion (IsQuotedPiece kind) ps → c.byte ≡ 92 → l.text ≡ flat_map spelled ps ++ c ∷ [] → IsBroken kind l (flat_map given ps) (Drops l.break)
drops Single l ps c k each e source = not-single k
drops Double l ps c k each e source = (ps, c, each, e, source, refl, refl)

bad-escape : (kind : Quotes) (text : List Cell) (ps : List QuotedPiece) (c d : Cell) (left : List Cell) → IsScan kind text (ps, c ∷ d ∷ left) → c.byte ≡ 92 → HasBadEscape kind text c
bad-escape kind text ps c d left r e = record { pieces = ps; each = r.each; more = d ∷ left; source = r.source; is_bad = record { is_backslash = e; inside = some-left; none = none-stands kind c (d ∷ left) r.none } }
  where
    some-left : d ∷ left ≢ []
    some-left e = cc

quote-is : (kind : Quotes) (b : ℕ) → b ≡ quote_of kind → eqb b 92 ≡ false
quote-is Single b e = rw e refl
quote-is Double b e = rw e refl

-- a line before the last
abbrev Middle : Quotes → Line → Result Read Fault → Type 0
Middle kind l (Ok x) = IsBroken kind l x.0 x.1
Middle kind l (Err f) = (b : Cell) × HasBadEscape kind l.text b × (f ≡ byte_fault BadEscape b.at)

ended-drops : (break : ℕ) (ps : List QuotedPiece) (c : Cell) → c.byte ≡ 92 → ended break (ps, c ∷ []) ≡ good (flat_map given ps) (Drops break)
ended-drops break ps c e = rw (eq-eqb c.byte 92 e) refl

ended-bad : (break : ℕ) (ps : List QuotedPiece) (c d : Cell) (left : List Cell) → c.byte ≡ 92 → ended break (ps, c ∷ d ∷ left) ≡ bad (byte_fault BadEscape c.at)
ended-bad break ps c d left e = rw (eq-eqb c.byte 92 e) refl

ended-closes : (kind : Quotes) (break : ℕ) (ps : List QuotedPiece) (c : Cell) (src : List Cell) → c.byte ≡ quote_of kind → ended break (ps, c ∷ src) ≡ good (flat_map given ps) (Folds break)
ended-closes kind break ps c src e = rw (quote-is kind c.byte e) refl

middle-by : (kind : Quotes) (l : Line) (ps : List QuotedPiece) (rest : List Cell) → IsScan kind l.text (ps, rest) → closing_of kind 0 l.text ≡ None → Middle kind l (ended l.break (ps, rest))
middle-by kind l ps [] r none = (ps, r.each, r.source ∙ append-nil (flat_map spelled ps), refl, refl)
middle-by kind l ps (c ∷ src) r none = by src r (stuck kind c src r.none)
  where
    by : (src : List Cell) → IsScan kind l.text (ps, c ∷ src) → Stuck kind c src → Middle kind l (ended l.break (ps, c ∷ src))
    by [] r (backslash k e) = subst (Middle kind l) (sym (ended-drops l.break ps c e)) (drops kind l ps c k r.each e r.source)
    by (d ∷ left) r (backslash k e) = subst (Middle kind l) (sym (ended-bad l.break ps c d left e)) (c, bad-escape kind l.text ps c d left r e, refl)
    by src r (closing e f) =
        let found : closing_of kind 0 l.text ≡ some-closing (flat_map spelled ps ++ [], (c, src)) = ap (closing_of kind 0) r.source ∙ closing-pieces kind ps (c ∷ src) r.each ∙ ap (ahead (flat_map spelled ps)) f in
        absurd (no-some (flat_map spelled ps ++ [], (c, src)) (sym none ∙ found))

pub middle-tells : (kind : Quotes) (l : Line) → closing_of kind 0 l.text ≡ None → Middle kind l (line_of kind l)
middle-tells kind l none = middle-by kind l (scan kind 0 l.text).0 (scan kind 0 l.text).1 (scan-sound kind (suc (length l.text)) l.text (omega arith)) none

-- the last line
abbrev Last : Quotes → Line → Result Read Fault → Type 0
Last kind l (Ok x) = QuotedFrom kind l [] x.0
Last kind l (Err f) = (b : Cell) × HasBadEscape kind l.text b × (f ≡ byte_fault BadEscape b.at)

closing-is : (x y : Split) → some-closing x ≡ some-closing y → x ≡ y
closing-is x y e = cc

none-closes : (kind : Quotes) (c : Cell) → kind ≡ Double → c.byte ≡ 92 → (closing_of kind 0 [] ≡ None) × (closing_of kind 0 (c ∷ []) ≡ None)
unfolding closing_of
none-closes Single c k e = not-single k
none-closes Double c k e = (refl, rw e refl)

nothing-closes : (kind : Quotes) → closing_of kind 0 [] ≡ None
unfolding closing_of
nothing-closes kind = refl

last-by : (kind : Quotes) (l : Line) (ps : List QuotedPiece) (rest within : List Cell) (end : Cell) → IsScan kind l.text (ps, rest) → closing_of kind 0 l.text ≡ Some (within, (end, [])) → Last kind l (ended l.break (ps, rest))
last-by kind l ps rest within end r found = by rest r (ap (closing_of kind 0) (sym r.source) ∙ found)
  where
    unfound : (rest : List Cell) → AllByRecursion (IsQuotedPiece kind) ps → closing_of kind 0 rest ≡ None → closing_of kind 0 (flat_map spelled ps ++ rest) ≡ some-closing (within, (end, [])) → ⊥
    unfound rest each none f = no-some (within, (end, [])) (sym (closing-pieces kind ps rest each ∙ ap (ahead (flat_map spelled ps)) none) ∙ f)

    stopping : (c : Cell) (src : List Cell) → IsScan kind l.text (ps, c ∷ src) → closing_of kind 0 (flat_map spelled ps ++ c ∷ src) ≡ some-closing (within, (end, [])) → Stuck kind c src → Last kind l (ended l.break (ps, c ∷ src))
    stopping c [] r f (backslash k e) = absurd (unfound (c ∷ []) r.each ((none-closes kind c k e).1) f)
    stopping c (d ∷ left) r f (backslash k e) = subst (Last kind l) (sym (ended-bad l.break ps c d left e)) (c, bad-escape kind l.text ps c d left r e, refl)
    stopping c src r f (closing e g) =
        let i = closing-is (flat_map spelled ps ++ [], (c, src)) (within, (end, [])) (sym (closing-pieces kind ps (c ∷ src) r.each ∙ ap (ahead (flat_map spelled ps)) g) ∙ f) in
        let j : src ≡ [] = ap (λ (x : Split). x.1.1) i in
        subst (Last kind l) (sym (ended-closes kind l.break ps c src e)) (last ps c r.each e (r.source ∙ ap (λ (x : List Cell). flat_map spelled ps ++ c ∷ x) j))

    by : (rest : List Cell) → IsScan kind l.text (ps, rest) → closing_of kind 0 (flat_map spelled ps ++ rest) ≡ some-closing (within, (end, [])) → Last kind l (ended l.break (ps, rest))
    by [] r f = absurd (unfound [] r.each (nothing-closes kind) f)
    by (c ∷ src) r f = stopping c src r f (stuck kind c src r.none)

pub last-tells : (kind : Quotes) (l : Line) (within : List Cell) (end : Cell) → closing_of kind 0 l.text ≡ Some (within, (end, [])) → Last kind l (line_of kind l)
last-tells kind l within end found = last-by kind l (scan kind 0 l.text).0 (scan kind 0 l.text).1 within end (scan-sound kind (suc (length l.text)) l.text (omega arith)) found

-- ---- what is read is told by the definition: all lines

abbrev pub Answers : Quotes → Line → List Line → Result (List Cell) Fault → Type 0
Answers kind l ls (Ok text) = QuotedFrom kind l ls text
Answers kind l ls (Err f) = QuotedBreaks kind l ls f

-- blank lines, and a line that isn't blank
pub record Behind (kind : Quotes) (end : Cell) (ls : List Line) : Type 0 where
  pub blank : List Line
  pub next : Line
  pub rest : List Line
  pub source : ls ≡ blank ++ next ∷ rest
  pub follows : Follows blank next
  pub ok : LinesOk kind 0 end (next ∷ rest)

blank-is : (c : Cell) → is_blank c ≡ true → (c.byte ≡ 32) ⊎ (c.byte ≡ 9)
blank-is c h =
    elim (eqb_tells c.byte 32) [
      | inl a ↦ inl a.1
      | inr a ↦ elim (eqb_tells c.byte 9) [ inl b ↦ inr b.1 | inr b ↦ true-false (is_blank c) h (rw (a.0, b.0) refl) ]
    ]

blank-bare : (b : ℕ) → (b ≡ 32) ⊎ (b ≡ 9) → (b ≢ 39) × (b ≢ 34) × (b ≢ 92)
blank-bare b (inl h) = (λ e. omega arith, λ e. omega arith, λ e. omega arith)
blank-bare b (inr h) = (λ e. omega arith, λ e. omega arith, λ e. omega arith)

blank-passed : (kind : Quotes) (c : Cell) (src : List Cell) → is_blank c ≡ true → closing_of kind 0 (c ∷ src) ≡ behind_cell c (closing_of kind 0 src)
blank-passed kind c src h = let n = blank-bare c.byte (blank-is c h) in passed kind 0 c src (omega arith) n.0 n.1 n.2

blank-closes : (kind : Quotes) (cs : List Cell) → list_all is_blank cs ≡ true → closing_of kind 0 cs ≡ None
blank-closes kind [] h = nothing-closes kind
blank-closes kind (c ∷ cs) h = blank-passed kind c cs (and_parts _ _ h).0 ∙ behind-none c (closing_of kind 0 cs) (blank-closes kind cs (and_parts _ _ h).1)

pub blanks-behind : (kind : Quotes) (end : Cell) (l : Line) (ls : List Line) → LinesOk kind 0 end (l ∷ ls) → Behind kind end (l ∷ ls)
blanks-behind kind end l [] ok =
    elim (cases_Bool (is_blank_line l)) [
      | inl a ↦ absurd (no-some (ok.0, (end, [])) (sym (blank-closes kind l.text a) ∙ ok.1))
      | inr a ↦ record { blank = []; next = l; rest = []; source = refl; follows = record { are_blank = tt; is_full = a }; ok = ok }
    ]
blanks-behind kind end l (m ∷ ms) ok =
    elim (cases_Bool (is_blank_line l)) [
      | inl a ↦
          let b = blanks-behind kind end m ms ok.1 in
          record { blank = l ∷ b.blank; next = b.next; rest = b.rest; source = ap (λ (x : List Line). l ∷ x) b.source; follows = record { are_blank = (a, b.follows.are_blank); is_full = b.follows.is_full }; ok = b.ok }
      | inr a ↦ record { blank = []; next = l; rest = m ∷ ms; source = refl; follows = record { are_blank = tt; is_full = a }; ok = ok }
    ]

none-was : (c : Cell) (o : Option Split) → behind_cell c o ≡ None → o ≡ None
none-was c None e = refl
none-was c (Some x) e = absurd (no-some (c ∷ x.0, x.1) (sym e))

after-none : (kind : Quotes) (cs : List Cell) → closing_of kind 0 cs ≡ None → closing_of kind 0 (after_blanks cs) ≡ None
after-none kind [] h = h
after-none kind (c ∷ cs) h =
    elim (cases_Bool (is_blank c)) [
      | inl a ↦ rw a (after-none kind cs (none-was c (closing_of kind 0 cs) (sym (blank-passed kind c cs a) ∙ h)))
      | inr a ↦ rw a h
    ]

after-some : (kind : Quotes) (cs within : List Cell) (x : Cell × List Cell) → closing_of kind 0 cs ≡ Some (within, x) → (left : List Cell) × (closing_of kind 0 (after_blanks cs) ≡ Some (left, x))
after-some kind [] within x h = (within, h)
after-some kind (c ∷ cs) within x h =
    elim (cases_Bool (is_blank c)) [
      | inl a ↦
          let was = behind-was c (closing_of kind 0 cs) within x (sym (blank-passed kind c cs a) ∙ h) in
          rw a (after-some kind cs was.0 x was.1)
      | inr a ↦ rw a (within, h)
    ]

after-closes : (kind : Quotes) (end : Cell) (l : Line) (ls : List Line) → LinesOk kind 0 end (l ∷ ls) → LinesOk kind 0 end (unindented l ∷ ls)
after-closes kind end l [] ok = after-some kind l.text ok.0 (end, []) ok.1
after-closes kind end l (m ∷ ms) ok = (after-none kind l.text ok.0, ok.1)

only-line : (kind : Quotes) (l : Line) (read : Result Read Fault) → Last kind l read → Answers kind l [] (read >>= λ x. front x.0 (lines_behind kind x.1 0 []))
only-line kind l (Ok x) h =
    let e : front x.0 (lines_behind kind x.1 0 []) ≡ Ok x.0 = rw (behind-nothing kind x.1) (ap (λ (t : List Cell). Ok t) (append-nil x.0)) in
    subst (Answers kind l []) (sym e) h
only-line kind l (Err f) (b, h, e) = subst (QuotedBreaks kind l []) (sym e) (escape [] h)

-- what is read of the lines behind makes what is read of all
onward : (kind : Quotes) (l next : Line) (rest blank : List Line) (part : List Cell) (break : Break) (read : Result (List Cell) Fault) → IsBroken kind l part break → Follows blank next → is_marker next ≡ false
    → Answers kind (unindented next) rest read → Answers kind l (blank ++ next ∷ rest) (front part (front (filled break (length blank)) read))
onward kind l next rest blank part break (Ok text) broken follows bare h = more part break blank broken follows bare h
onward kind l next rest blank part break (Err f) broken follows bare h = later part break blank broken follows bare h

abbrev Whole : Quotes → Line → List Line → Type 0
Whole kind l ls = Answers kind l ls (lines_from kind l ls)

middle-line : (kind : Quotes) (end : Cell) (l : Line) (ls : List Line) (b : Behind kind end ls) (read : Result Read Fault) → Middle kind l read → Whole kind (unindented b.next) b.rest
    → Answers kind l ls (read >>= λ x. front x.0 (lines_behind kind x.1 0 ls))
middle-line kind end l ls b (Err f) (c, h, e) below = subst (QuotedBreaks kind l ls) (sym e) (escape ls h)
middle-line kind end l ls b (Ok x) broken below =
    subst (λ (y : List Line). Answers kind l y (front x.0 (lines_behind kind x.1 0 y))) (sym b.source) (elim (cases_Bool (is_marker b.next)) [
      | inl a ↦ subst (λ (r : Result (List Cell) Fault). Answers kind l (b.blank ++ b.next ∷ b.rest) (front x.0 r)) (sym (behind-is kind x.1 b.blank b.next b.rest true b.follows a))
          (marker x.0 x.1 b.blank b.rest broken b.follows a)
      | inr a ↦ subst (λ (r : Result (List Cell) Fault). Answers kind l (b.blank ++ b.next ∷ b.rest) (front x.0 r)) (sym (behind-is kind x.1 b.blank b.next b.rest false b.follows a))
          (onward kind l b.next b.rest b.blank x.0 x.1 (lines_from kind (unindented b.next) b.rest) broken b.follows a below)
    ])

pub from-tells : (kind : Quotes) (n : ℕ) (end : Cell) (l : Line) (ls : List Line) → length ls < n → LinesOk kind 0 end (l ∷ ls) → Answers kind l ls (lines_from kind l ls)
from-tells kind zero end l ls lt ok = absurd (omega arith)
from-tells kind (suc n) end l [] lt ok = only-line kind l (line_of kind l) (last-tells kind l ok.0 end ok.1)
from-tells kind (suc n) end l (m ∷ ms) lt ok =
    let b = blanks-behind kind end m ms ok.1 in
    let size : length (m ∷ ms) ≡ length b.blank + suc (length b.rest) = ap length b.source ∙ length-append b.blank (b.next ∷ b.rest) in
    middle-line kind end l (m ∷ ms) b (line_of kind l) (middle-tells kind l ok.0) (from-tells kind n end (unindented b.next) b.rest (omega (arith, size)) (after-closes kind end b.next b.rest b.ok))
