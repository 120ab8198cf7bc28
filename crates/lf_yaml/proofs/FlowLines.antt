-- Plain scalars of flow collections, line by line: reading them is the definition, and their texts come from the file.
use Rattle.std.proofs.Common.{◌≡◌, ℕ, zero, suc, ◌+◌, ◌<◌, ◌≤◌, Bool, true, false, cond, not, List, [], ◌∷◌, ◌++◌, Option, Some, None, Ok, Err, length, get_or, drop, take, refl, ap, arith, append_assoc, sym, ◌∙◌, subst, ◌⊎◌, inl, inr, length-drop}
use Rattle.std.specs.Prelude.{take_while}
use Rattle.std.specs.List.{AllByRecursion, list_all, prefix_len}
use Rattle.std.specs.Str.{IsCharBoundary}
use Rattle.std.proofs.lemmas.List.{append-nil, drop-drop}
use Rattle.std.proofs.lemmas.Bool.{cases_Bool, false≢true}
use Rattle.std.proofs.lemmas.Str.{IsCharBoundary-end, IsCharBoundary-before_ascii}
use Rattle.std.proofs.Math.Seq.{drop-append_seam}
use Rattle.lf_base.specs.declared.kind.Kind.TheVariants.{NotANode}
use Rattle.lf_base.specs.declared.fault.Fault.{Fault}
use Rattle.lf_scalar.specs.Cells.{Cell, cells, byte_fault, ◌>>=◌}
use Rattle.lf_scalar.specs.Lines.{Line, line, lines, lengthen, start_of, is_blank, after_blanks}
use Rattle.lf_scalar.specs.Folding.{fold}
use Rattle.lf_scalar.specs.Plain.{before_comment}
use Rattle.lf_scalar.specs.Scalars.{source_at}
use Rattle.lf_scalar.specs.reading.Plain.{unless_key}
use Rattle.lf_scalar.proofs.LineSteps.{line-step, lines-nil, lines-feed, lines-return, lines-other}
use Rattle.lf_scalar.proofs.Parts.{Utf8, Front, BeginsLow, part-utf8, front-part, after-blanks-part, before-comment-front, trimmed-front}
use Rattle.lf_scalar.proofs.Rising.{Rises, Climbs, LinesRise, rises-le, rises-front, rises-back, rises-part, climbs-from, climbs-high, climbs-append, fold-climbs, lines-low, cells-rise, lines-rise}
use Rattle.lf_scalar.proofs.Utf8Lines.{LinesUtf8, utf8-append, fold-utf8}
use Rattle.lf_yaml.specs.Rows.{content_row}
use Rattle.lf_yaml.specs.Flow.{first_line, later_lines, lines_on, line_on, lines_below, is_flow_sign, flow_text, behind_text, line_text, line_left, line_colon, is_bare, is_spaces, goes_on, Onward, onward, following, left_on, PlainFrom, last, more, PlainBreaks, colon, later}
use Rattle.lf_yaml.specs.reading.Trees.{Folded, before_text, plain_behind, plain_from}
use Rattle.lf_yaml.proofs.Cuts.{small-sign}
use Rattle.lf_yaml.proofs.RowsAfter.{get-drop}
use Rattle.lf_laws.proofs.Members.{all_front, all_back}

-- ---- reading is the definition

abbrev pub good : List Cell → ℕ → Folded
good text after = Ok (text, after)

-- what is read behind a line, by the line that goes on
abbrev pub read_on : ℕ → ℕ → Option Onward → Folded
read_on break after None = good [] after
read_on break after (Some x) = before_text (fold break x.0) (plain_from x.1 x.2)

behind-is : (break k : ℕ) (ls : List Line) → plain_behind break k ls ≡ read_on break break (onward k ls)
unfolding plain_behind onward
behind-is break k [] = refl
behind-is break k (l ∷ ls) =
    elim (cases_Bool (is_spaces l)) [
      | inl a ↦ rw a (behind-is break (suc k) ls)
      | inr a ↦ elim (cases_Bool (goes_on (content_row l))) [
        | inl b ↦ rw (a, b) refl
        | inr b ↦ rw (a, b) refl
      ]
    ]

on-is : (l : Line) (ls : List Line) → cond (is_bare l) (plain_behind l.break 0 ls) (good [] (left_on l)) ≡ read_on l.break (left_on l) (following l ls)
on-is l ls =
    elim (cases_Bool (is_bare l)) [
      | inl a ↦ rw a (behind-is l.break 0 ls)
      | inr a ↦ rw a refl
    ]

pub step-on : (l : Line) (ls : List Line) (o : Option Onward) → line_colon l ≡ None → following l ls ≡ o → plain_from l ls ≡ before_text (line_text l) (read_on l.break (left_on l) o)
step-on l ls o e f =
    ap (λ (c : Option Cell). unless_key (line_text l) c >>= λ text. before_text text (cond (is_bare l) (plain_behind l.break 0 ls) (good [] (left_on l)))) e
    ∙ ap (before_text (line_text l)) (on-is l ls ∙ ap (read_on l.break (left_on l)) f)

pub plain-again : (l : Line) (ls : List Line) (text : List Cell) (after : ℕ) → PlainFrom l ls text after → plain_from l ls ≡ good text after
plain-again l ls _ _ (last e n) = step-on l ls None e n ∙ ap (λ (text : List Cell). good text (left_on l)) (append-nil (line_text l))
plain-again l ls _ after (more {next = next} {later = below} {k = k} {text = text} e f rest) =
    step-on l ls (Some (k, next, below)) e f ∙ ap (λ (r : Folded). before_text (line_text l) (before_text (fold l.break k) r)) (plain-again next below text after rest)

abbrev bad : Fault → Folded
bad f = Err f

pub plain-breaks : (l : Line) (ls : List Line) (f : Fault) → PlainBreaks l ls f → plain_from l ls ≡ bad f
plain-breaks l ls _ (colon {c = c} xs e) = rw e refl
plain-breaks l ls f (later {next = next} {later = below} {k = k} e g rest) =
    step-on l ls (Some (k, next, below)) e g ∙ ap (λ (r : Folded). before_text (line_text l) (before_text (fold l.break k) r)) (plain-breaks next below f rest)

some-onward : (x y : Onward) → Some x ≡ Some y → x ≡ y
some-onward x y e = cc

none-onward : {X : Type 0} (x : Onward) → None ≡ Some x → X
none-onward x e = absurd cc

onward-shorter : (k : ℕ) (ls : List Line) (x : Onward) → onward k ls ≡ Some x → length x.2 < length ls
unfolding onward
onward-shorter k [] x e = none-onward x e
onward-shorter k (l ∷ ls) x e =
    elim (cases_Bool (is_spaces l)) [
      | inl a ↦ let h = onward-shorter (suc k) ls x (rw a at e) in omega (arith, h)
      | inr a ↦ elim (cases_Bool (goes_on (content_row l))) [
        | inl b ↦ let h : (k, l, ls) ≡ x = some-onward (k, l, ls) x (rw (a, b) at e) in omega (arith, ap (λ (y : Onward). length y.2) h)
        | inr b ↦ none-onward x (rw (a, b) at e)
      ]
    ]

-- a line that goes on stands behind a bare line
pub is-onward : (l : Line) (ls : List Line) (x : Onward) → following l ls ≡ Some x → onward 0 ls ≡ Some x
is-onward l ls x e = by (is_bare l) e
  where
    by : (b : Bool) → cond b (onward 0 ls) None ≡ Some x → onward 0 ls ≡ Some x
    by true e = e
    by false e = none-onward x e

abbrev pub PlainTold : Line → List Line → Folded → Type 0
PlainTold l ls (Ok x) = PlainFrom l ls x.0 x.1
PlainTold l ls (Err f) = PlainBreaks l ls f

more-told : (l : Line) (ls : List Line) (x : Onward) → line_colon l ≡ None → following l ls ≡ Some x → (r : Folded) → PlainTold x.1 x.2 r → PlainTold l ls (before_text (line_text l) (before_text (fold l.break x.0) r))
more-told l ls x e f (Ok y) h = more e f h
more-told l ls x e f (Err g) h = later e f h

pub plain-tells : (n : ℕ) (l : Line) (ls : List Line) → length ls < n → PlainTold l ls (plain_from l ls)
plain-tells zero l ls lt = absurd (omega arith)
plain-tells (suc n) l ls lt = by (line_colon l) (following l ls) refl refl (λ x e. plain-tells n x.1 x.2 (let h = onward-shorter 0 ls x (is-onward l ls x e) in omega (arith, h)))
  where
    by : (c : Option Cell) (o : Option Onward) → line_colon l ≡ c → following l ls ≡ o → ((x : Onward) → following l ls ≡ Some x → PlainTold x.1 x.2 (plain_from x.1 x.2)) → PlainTold l ls (plain_from l ls)
    by (Some c) o e f below = subst (PlainTold l ls) (sym (plain-breaks l ls (byte_fault NotANode c.at) (colon ls e))) (colon ls e)
    by None None e f below = subst (PlainTold l ls) (sym (plain-again l ls (line_text l) (left_on l) (last e f))) (last e f)
    by None (Some x) e f below = subst (PlainTold l ls) (sym (step-on l ls (Some x) e f)) (more-told l ls x e f (plain_from x.1 x.2) (below x f))

pub plain-told : (l : Line) (ls : List Line) → PlainTold l ls (plain_from l ls)
plain-told l ls = plain-tells (suc (length ls)) l ls (omega arith)

-- ---- what is cut off a line begins with a byte below 128

front_trans : (all part less : List Cell) → Front all part → Front part less → Front all less
front_trans all part less f g =
    record { back = g.back ++ f.back; source = f.source ∙ ap (λ (xs : List Cell). xs ++ f.back) g.source ∙ append_assoc less g.back f.back; begins_low = by g.back g.begins_low }
  where
    by : (back : List Cell) → BeginsLow back → BeginsLow (back ++ f.back)
    by [] h = f.begins_low
    by (c ∷ cs) h = h

no_sign_at : (c : Cell) (cs : List Cell) → is_flow_sign c ≡ true → take_while (λ c. not (is_flow_sign c)) (c ∷ cs) ≡ []
no_sign_at c cs h = rw h refl

more_at : (c : Cell) (cs : List Cell) → is_flow_sign c ≡ false → take_while (λ c. not (is_flow_sign c)) (c ∷ cs) ≡ c ∷ take_while (λ c. not (is_flow_sign c)) cs
more_at c cs h =
    let m = prefix_len (λ (c : Cell). not (is_flow_sign c)) cs in
    let z : 1 + m ≡ suc m = omega arith in
    rw h (ap (λ (k : ℕ). take k (c ∷ cs)) z)

before_sign : (cs : List Cell) → Front cs (take_while (λ c. not (is_flow_sign c)) cs)
before_sign [] = record { back = []; source = refl; begins_low = tt }
before_sign (c ∷ cs) =
    elim (cases_Bool (is_flow_sign c)) [
      | inl a ↦ subst (Front (c ∷ cs)) (sym (no_sign_at c cs a)) (record { back = c ∷ cs; source = refl; begins_low = small-sign c.byte c.at a })
      | inr a ↦ let k = before_sign cs in subst (Front (c ∷ cs)) (sym (more_at c cs a)) (record { back = k.back; source = ap (λ (xs : List Cell). c ∷ xs) k.source; begins_low = k.begins_low })
    ]

pub flow_front : (cs : List Cell) → Front cs (flow_text cs)
flow_front cs =
    let one = take_while (λ c. not (is_flow_sign c)) cs in
    front_trans cs one (flow_text cs) (before_sign cs) (front_trans one (before_comment one) (flow_text cs) (before-comment-front one) (trimmed-front (before_comment one)))

pub behind_back : (cs : List Cell) → behind_text cs ≡ (flow_front cs).back
behind_back cs = ap (drop (length (flow_text cs))) (flow_front cs).source ∙ drop-append_seam (flow_text cs) (flow_front cs).back

-- ---- what holds of a line's cells holds of its text and of what is left

all-left : (P : Cell → Type 0) (l : Line) → AllByRecursion P l.text → AllByRecursion P (line_left l)
all-left P l h =
    let p = after-blanks-part l.text in
    let f = flow_front (after_blanks l.text) in
    let after : AllByRecursion P (after_blanks l.text) = all_front P (after_blanks l.text) p.back (all_back P p.front (after_blanks l.text ++ p.back) (subst (AllByRecursion P) p.source h)) in
    subst (AllByRecursion P) (sym (behind_back (after_blanks l.text))) (all_back P (line_text l) f.back (subst (AllByRecursion P) f.source after))

after-rises : (lo hi : ℕ) (l : Line) → Rises lo l.text hi → Rises lo (after_blanks l.text) hi
after-rises lo hi l r = rises-part lo l.text (after_blanks l.text) hi (after-blanks-part l.text) r

pub text-rises : (lo hi : ℕ) (l : Line) → Rises lo l.text hi → Rises lo (line_text l) hi
text-rises lo hi l r = let f = flow_front (after_blanks l.text) in rises-front lo (line_text l) f.back hi (subst (λ (xs : List Cell). Rises lo xs hi) f.source (after-rises lo hi l r))

left-rises : (lo hi : ℕ) (l : Line) → Rises lo l.text hi → Rises lo (line_left l) hi
left-rises lo hi l r =
    let f = flow_front (after_blanks l.text) in
    subst (λ (xs : List Cell). Rises lo xs hi) (sym (behind_back (after_blanks l.text))) (rises-back lo (line_text l) f.back hi (subst (λ (xs : List Cell). Rises lo xs hi) f.source (after-rises lo hi l r)))

left-low : (l : Line) → BeginsLow (line_left l)
left-low l = subst BeginsLow (sym (behind_back (after_blanks l.text))) (flow_front (after_blanks l.text)).begins_low

text-utf8 : (l : Line) → Utf8 l.text → Utf8 (line_text l)
text-utf8 l u = part-utf8 (after_blanks l.text) (line_text l) (front-part (after_blanks l.text) (line_text l) (flow_front (after_blanks l.text))) (part-utf8 l.text (after_blanks l.text) (after-blanks-part l.text) u)

-- what holds of all lines holds from the one on that goes on
onward-all : (P : Line → Type 0) (k : ℕ) (ls : List Line) (x : Onward) → onward k ls ≡ Some x → AllByRecursion P ls → AllByRecursion P (x.1 ∷ x.2)
unfolding onward
onward-all P k [] x e h = none-onward x e
onward-all P k (l ∷ ls) x e h =
    elim (cases_Bool (is_spaces l)) [
      | inl a ↦ onward-all P (suc k) ls x (rw a at e) h.1
      | inr a ↦ elim (cases_Bool (goes_on (content_row l))) [
        | inl b ↦ subst (λ (y : Onward). AllByRecursion P (y.1 ∷ y.2)) (some-onward (k, l, ls) x (rw (a, b) at e)) h
        | inr b ↦ none-onward x (rw (a, b) at e)
      ]
    ]

pub onward-rises : (k lo hi : ℕ) (ls : List Line) (x : Onward) → onward k ls ≡ Some x → LinesRise lo ls hi → LinesRise lo (x.1 ∷ x.2) hi
unfolding onward
onward-rises k lo hi [] x e h = none-onward x e
onward-rises k lo hi (l ∷ ls) x e h =
    elim (cases_Bool (is_spaces l)) [
      | inl a ↦ let le = rises-le lo l.text l.break h.0 in lines-low (suc l.break) lo (x.1 ∷ x.2) hi (omega (arith, le)) (onward-rises (suc k) (suc l.break) hi ls x (rw a at e) h.2)
      | inr a ↦ elim (cases_Bool (goes_on (content_row l))) [
        | inl b ↦ subst (λ (y : Onward). LinesRise lo (y.1 ∷ y.2) hi) (some-onward (k, l, ls) x (rw (a, b) at e)) h
        | inr b ↦ none-onward x (rw (a, b) at e)
      ]
    ]

-- ---- the text's offsets, and where the collection is read on

start-within : (lo : ℕ) (cs : List Cell) (break : ℕ) → Rises lo cs break → (lo ≤ start_of (line cs break)) × (start_of (line cs break) ≤ break)
start-within lo [] break r = (r, omega arith)
start-within lo (c ∷ cs) break r = let le = rises-le (suc c.at) cs break r.1 in (r.0, omega (arith, le))

left-within : (lo : ℕ) (l : Line) → Rises lo l.text l.break → (lo ≤ left_on l) × (left_on l ≤ l.break)
left-within lo l r = by (is_bare l)
  where
    by : (b : Bool) → (lo ≤ cond b l.break (start_of (line (line_left l) l.break))) × (cond b l.break (start_of (line (line_left l) l.break)) ≤ l.break)
    by true = (rises-le lo l.text l.break r, omega arith)
    by false = start-within lo (line_left l) l.break (left-rises lo l.break l r)

pub plain-climbs : (l : Line) (ls : List Line) (text : List Cell) (after : ℕ) → PlainFrom l ls text after → (lo hi : ℕ) → LinesRise lo (l ∷ ls) hi → Climbs lo text hi
plain-climbs l ls _ _ (last e n) lo hi r = climbs-high lo (line_text l) l.break hi r.1 (climbs-from lo (line_text l) l.break (text-rises lo l.break l r.0))
plain-climbs l ls _ after (more {next = next} {later = below} {k = k} {text = text} e f rest) lo hi r =
    let under : Climbs (suc l.break) text hi = plain-climbs next below text after rest (suc l.break) hi (onward-rises 0 (suc l.break) hi ls (k, next, below) (is-onward l ls (k, next, below) f) r.2) in
    climbs-append lo (line_text l) l.break (fold l.break k ++ text) hi (climbs-from lo (line_text l) l.break (text-rises lo l.break l r.0))
    (climbs-append l.break (fold l.break k) (suc l.break) text hi (fold-climbs l.break k) under)

pub plain-within : (l : Line) (ls : List Line) (text : List Cell) (after : ℕ) → PlainFrom l ls text after → (lo hi : ℕ) → LinesRise lo (l ∷ ls) hi → (lo ≤ after) × (after ≤ hi)
plain-within l ls _ _ (last e n) lo hi r = let h = left-within lo l r.0 in let le = r.1 in (h.0, omega (arith, h.1, le))
plain-within l ls _ after (more {next = next} {later = below} {k = k} {text = text} e f rest) lo hi r =
    let h = plain-within next below text after rest (suc l.break) hi (onward-rises 0 (suc l.break) hi ls (k, next, below) (is-onward l ls (k, next, below) f) r.2) in
    let le = rises-le lo l.text l.break r.0 in
    (omega (arith, le, h.0), h.1)

pub plain-utf8 : (l : Line) (ls : List Line) (text : List Cell) (after : ℕ) → PlainFrom l ls text after → LinesUtf8 (l ∷ ls) → Utf8 text
plain-utf8 l ls _ _ (last e n) u = text-utf8 l u.0
plain-utf8 l ls _ after (more {next = next} {later = below} {k = k} {text = text} e f rest) u =
    utf8-append (line_text l) (fold l.break k ++ text) (text-utf8 l u.0)
    (utf8-append (fold l.break k) text (fold-utf8 l.break k) (plain-utf8 next below text after rest (onward-all (λ (m : Line). Utf8 m.text) 0 ls (k, next, below) (is-onward l ls (k, next, below) f) u.1)))

-- ---- cells and line breaks of a file

abbrev pub InFile : List ℕ → Cell → Type 0
InFile bytes c = (c.at < length bytes) × (get_or bytes c.at 0 ≡ c.byte)

abbrev pub LineInFile : List ℕ → Line → Type 0
LineInFile bytes l = AllByRecursion (InFile bytes) l.text × ((l.break ≡ length bytes) ⊎ ((l.break < length bytes) × (get_or bytes l.break 0 ≡ 10)))

abbrev pub LinesInFile : List ℕ → List Line → Type 0
LinesInFile bytes ls = AllByRecursion (LineInFile bytes) ls

longer-in : (bytes : List ℕ) (c : Cell) (ls : List Line) → InFile bytes c → LinesInFile bytes ls → LinesInFile bytes (lengthen (length bytes) c ls)
longer-in bytes c [] h k = (((h, tt), inl refl), tt)
longer-in bytes c (l ∷ ls) h k = (((h, k.0.0), k.0.1), k.1)

cells-lines : (bytes : List ℕ) (src : List Cell) → AllByRecursion (InFile bytes) src → LinesInFile bytes (lines (length bytes) src)
cells-lines bytes [] h = subst (LinesInFile bytes) (sym (lines-nil (length bytes))) tt
cells-lines bytes (c ∷ src) h =
    let below = cells-lines bytes src h.1 in
    elim (line-step c src) [
      | inl f ↦ subst (LinesInFile bytes) (sym (lines-feed (length bytes) c src f)) ((tt, inr (h.0.0, h.0.1 ∙ f)), below)
      | inr (inl r) ↦
          let same : lines (length bytes) (c ∷ src) ≡ lines (length bytes) src = lines-return (length bytes) c src r ∙ sym (ap (λ (xs : List Cell). lines (length bytes) xs) r.source ∙ lines-feed (length bytes) r.feed r.rest r.is_feed) in
          subst (LinesInFile bytes) (sym same) below
      | inr (inr o) ↦ subst (LinesInFile bytes) (sym (lines-other (length bytes) c src o)) (longer-in bytes c (lines (length bytes) src) h.0 below)
    ]

pub short-drop : (at x : ℕ) (xs bytes : List ℕ) → drop at bytes ≡ x ∷ xs → (at < length bytes) × (get_or bytes at 0 ≡ x) × (drop (suc at) bytes ≡ xs)
short-drop at x xs bytes e =
    let n : suc (length xs) ≡ length (drop at bytes) = ap length (sym e) in
    let z : at + 0 ≡ at = omega arith in
    let s : at + 1 ≡ suc at = omega arith in (
      omega (arith, n, length-drop at bytes),
      ap (λ (k : ℕ). get_or bytes k 0) (sym z) ∙ sym (get-drop at 0 bytes) ∙ ap (λ (ys : List ℕ). get_or ys 0 0) e,
      ap (λ (k : ℕ). drop k bytes) (sym s) ∙ sym (drop-drop 1 at bytes) ∙ ap (drop 1) e,
    )

pub cells-in : (bytes : List ℕ) (at : ℕ) (xs : List ℕ) → drop at bytes ≡ xs → AllByRecursion (InFile bytes) (cells at xs)
cells-in bytes at [] e = tt
cells-in bytes at (x ∷ xs) e = let h = short-drop at x xs bytes e in ((h.0, h.1), cells-in bytes (suc at) xs h.2)

pub source-in : (bytes : List ℕ) (at : ℕ) → AllByRecursion (InFile bytes) (source_at bytes at)
source-in bytes at = cells-in bytes at (drop at bytes) refl

pub file-lines : (bytes : List ℕ) (at : ℕ) → LinesInFile bytes (lines_on bytes at)
file-lines bytes at = cells-lines bytes (source_at bytes at) (source-in bytes at)

first-in : (bytes : List ℕ) (ls : List Line) → LinesInFile bytes ls → LinesInFile bytes (first_line (length bytes) ls ∷ later_lines ls)
first-in bytes [] h = ((tt, inl refl), tt)
first-in bytes (l ∷ ls) h = h

pub lines-here : (bytes : List ℕ) (at : ℕ) → LinesInFile bytes (line_on bytes at ∷ lines_below bytes at)
lines-here bytes at = first-in bytes (lines_on bytes at) (file-lines bytes at)

-- a collection is read on where a character begins
bare-all : (l : Line) → is_bare l ≡ false → line_left l ≡ [] → ⊥
bare-all l b e = absurd (false≢true (sym b ∙ ap (list_all is_blank) e))

break-boundary : (bytes : List ℕ) (l : Line) → LineInFile bytes l → IsCharBoundary bytes l.break
break-boundary bytes l (h, inl e) = subst (IsCharBoundary bytes) (sym e) (IsCharBoundary-end bytes)
break-boundary bytes l (h, inr (lt, e)) = IsCharBoundary-before_ascii bytes l.break lt (omega (arith, e))

pub left-boundary : (bytes : List ℕ) (l : Line) → LineInFile bytes l → IsCharBoundary bytes (left_on l)
left-boundary bytes l h =
    elim (cases_Bool (is_bare l)) [
      | inl b ↦ rw b (break-boundary bytes l h)
      | inr b ↦ rw b (by (line_left l) refl (left-low l) (all-left (InFile bytes) l h.0) b)
    ]
  where
    by : (cs : List Cell) → line_left l ≡ cs → BeginsLow cs → AllByRecursion (InFile bytes) cs → is_bare l ≡ false → IsCharBoundary bytes (start_of (line cs l.break))
    by [] e low all b = absurd (bare-all l b e)
    by (c ∷ cs) e low all b = let x = all.0 in IsCharBoundary-before_ascii bytes c.at x.0 (omega (arith, x.1, low))

pub plain-boundary : (bytes : List ℕ) (l : Line) (ls : List Line) (text : List Cell) (after : ℕ) → PlainFrom l ls text after → LinesInFile bytes (l ∷ ls) → IsCharBoundary bytes after
plain-boundary bytes l ls _ _ (last e n) h = left-boundary bytes l h.0
plain-boundary bytes l ls _ after (more {next = next} {later = below} {k = k} {text = text} e f rest) h =
    plain-boundary bytes next below text after rest (onward-all (LineInFile bytes) 0 ls (k, next, below) (is-onward l ls (k, next, below) f) h.1)

-- ---- offsets of a file rise

pub source-rises : (bytes : List ℕ) (at : ℕ) → at ≤ length bytes → Rises at (source_at bytes at) (length bytes)
source-rises bytes at le =
    let e : at + length (drop at bytes) ≡ length bytes = omega (arith, length-drop at bytes, le) in
    subst (Rises at (cells at (drop at bytes))) e (cells-rise at (drop at bytes))

first-rises : (end at : ℕ) (ls : List Line) → at ≤ end → LinesRise at ls end → LinesRise at (first_line end ls ∷ later_lines ls) end
first-rises end at [] le h = (le, omega arith, tt)
first-rises end at (l ∷ ls) le h = h

pub lines-rise-here : (bytes : List ℕ) (at : ℕ) → at ≤ length bytes → LinesRise at (line_on bytes at ∷ lines_below bytes at) (length bytes)
lines-rise-here bytes at le =
    first-rises (length bytes) at (lines_on bytes at) le (lines-rise (suc (length (source_at bytes at))) (length bytes) at (source_at bytes at) (omega arith) (source-rises bytes at le))
