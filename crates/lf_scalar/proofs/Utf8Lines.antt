-- The lines of a source that is UTF-8, and the texts that lines give.
use Rattle.std.proofs.Common.{◌≡◌, ℕ, zero, suc, ◌+◌, ◌<◌, List, [], ◌∷◌, ◌++◌, length, ap, arith, sym, ◌∙◌, subst, ◌⊎◌, inl, inr}
use Rattle.std.specs.Str.{IsUtf8, IsAscii}
use Rattle.std.specs.List.{AllByRecursion}
use Rattle.std.proofs.lemmas.List.{append-nil, length-append, map-append}
use Rattle.std.proofs.lemmas.Str.{IsUtf8-nil, IsUtf8-append, IsUtf8-from_ascii}
use Rattle.lf_scalar.specs.Cells.{Cell, cell, bytes_of}
use Rattle.lf_scalar.specs.Lines.{Line, lines, after_blanks}
use Rattle.lf_scalar.specs.Folding.{fold, feeds}
use Rattle.lf_scalar.specs.Plain.{before_comment, plain_text, PlainFrom, last, more}
use Rattle.lf_scalar.proofs.LineSteps.{lines-nil}
use Rattle.lf_scalar.proofs.LineCuts.{EndsAt, HasLine, has-line}
use Rattle.lf_scalar.proofs.Parts.{Utf8, part-utf8, utf8-before, utf8-behind, after-blanks-part, before-comment-front, trimmed-front, front-part}
use Rattle.lf_scalar.proofs.Rising.{fed, ended}

-- ---- texts from texts

pub utf8-nil : Utf8 []
utf8-nil = IsUtf8-nil

pub utf8-append : (xs ys : List Cell) → Utf8 xs → Utf8 ys → Utf8 (xs ++ ys)
utf8-append xs ys u v = subst IsUtf8 (sym (map-append (λ (c : Cell). c.byte) xs ys)) (IsUtf8-append (bytes_of xs) (bytes_of ys) u v)

one-low : (b : ℕ) → b < 128 → IsAscii (b ∷ [])
one-low b lt zero = lt
one-low b lt (suc i) = omega arith

-- one more cell below 128
pub utf8-low : (c : Cell) (cs : List Cell) → c.byte < 128 → Utf8 cs → Utf8 (c ∷ cs)
utf8-low c cs lt u = IsUtf8-append (c.byte ∷ []) (bytes_of cs) (IsUtf8-from_ascii (c.byte ∷ []) (one-low c.byte lt)) u

pub feeds-utf8 : (k at : ℕ) → Utf8 (feeds k at)
feeds-utf8 zero at = utf8-nil
feeds-utf8 (suc k) at = utf8-low (cell 10 at) (feeds k at) (omega arith) (feeds-utf8 k at)

pub fold-utf8 : (at k : ℕ) → Utf8 (fold at k)
fold-utf8 at zero = utf8-low (cell 32 at) [] (omega arith) utf8-nil
fold-utf8 at (suc k) = feeds-utf8 (suc k) at

-- ---- lines

abbrev pub LinesUtf8 : List Line → Type 0
LinesUtf8 ls = AllByRecursion (λ l. Utf8 l.text) ls

pub lines-utf8-behind : (xs ys : List Line) → LinesUtf8 (xs ++ ys) → LinesUtf8 ys
lines-utf8-behind [] ys h = h
lines-utf8-behind (x ∷ xs) ys h = lines-utf8-behind xs ys h.1

pub lines-utf8-front : (xs ys : List Line) → LinesUtf8 (xs ++ ys) → LinesUtf8 xs
lines-utf8-front [] ys h = tt
lines-utf8-front (x ∷ xs) ys h = (h.0, lines-utf8-front xs ys h.1)

before-return : (text before : List Cell) → (before ≡ []) ⊎ ((r : Cell) × (before ≡ r ∷ []) × (r.byte ≡ 13)) → Utf8 (text ++ before) → Utf8 text
before-return text before (inl e) u = subst Utf8 (ap (λ (xs : List Cell). text ++ xs) e ∙ append-nil text) u
before-return text before (inr (r, e, b)) u = utf8-before text r [] (subst Utf8 (ap (λ (xs : List Cell). text ++ xs) e) u) (omega (arith, b))

pub lines-utf8 : (n end : ℕ) (src : List Cell) → length src < n → Utf8 src → LinesUtf8 (lines end src)
lines-utf8 zero end src lt u = absurd (omega (arith, lt))
lines-utf8 (suc n) end [] lt u = subst LinesUtf8 (sym (lines-nil end)) tt
lines-utf8 (suc n) end (c ∷ src) lt u = by (has-line end c src) (λ rest lt u. lines-utf8 n end rest lt u)
  where
    by : HasLine end (c ∷ src) → ((rest : List Cell) → length rest < n → Utf8 rest → LinesUtf8 (lines end rest)) → LinesUtf8 (lines end (c ∷ src))
    by (l, ls, e, f) below = subst LinesUtf8 (sym e) (cases f.ends)
      where
        cases : EndsAt l.break f.ending ⊎ ((f.ending ≡ []) × (f.rest ≡ []) × (l.break ≡ end)) → LinesUtf8 (l ∷ ls)
        cases (inl a) =
            let s : c ∷ src ≡ (l.text ++ a.before) ++ a.feed ∷ f.rest = f.source ∙ fed l.text a.before f.rest a.feed f.ending a.is_ending in
            let v : Utf8 ((l.text ++ a.before) ++ a.feed ∷ f.rest) = subst Utf8 s u in
            let low : a.feed.byte < 128 = omega (arith, a.is_feed) in
            let size : suc (length src) ≡ length (l.text ++ a.before) + suc (length f.rest) = ap length s ∙ length-append (l.text ++ a.before) (a.feed ∷ f.rest) in (
              before-return l.text a.before a.returns (utf8-before (l.text ++ a.before) a.feed f.rest v low),
              subst LinesUtf8 (sym f.following) (below f.rest (omega (arith, lt, size)) (utf8-behind (l.text ++ a.before) a.feed f.rest v low)),
            )
        cases (inr (e, r, p)) =
            let s : c ∷ src ≡ l.text = f.source ∙ ended l.text f.ending f.rest e r in
            (subst Utf8 s u, subst LinesUtf8 (sym (f.following ∙ ap (lines end) r ∙ lines-nil end)) tt)

-- ---- plain scalars

pub plain-text-utf8 : (l : Line) → Utf8 l.text → Utf8 (plain_text l)
plain-text-utf8 l u =
    part-utf8 (before_comment (after_blanks l.text)) (plain_text l) (front-part (before_comment (after_blanks l.text)) (plain_text l) (trimmed-front (before_comment (after_blanks l.text))))
    (part-utf8 (after_blanks l.text) (before_comment (after_blanks l.text)) (front-part (after_blanks l.text) (before_comment (after_blanks l.text)) (before-comment-front (after_blanks l.text)))
    (part-utf8 l.text (after_blanks l.text) (after-blanks-part l.text) u))

pub plain-utf8 : (above : ℕ) (l : Line) (ls : List Line) (text : List Cell) → PlainFrom above l ls text → LinesUtf8 (l ∷ ls) → Utf8 text
plain-utf8 above l ls _ (last e h) u = plain-text-utf8 l u.0
plain-utf8 above l _ _ (more {next = next} {ls = ls} {text = text} blank e g t rest) u =
    utf8-append (plain_text l) (fold l.break (length blank) ++ text) (plain-text-utf8 l u.0)
    (utf8-append (fold l.break (length blank)) text (fold-utf8 l.break (length blank)) (plain-utf8 above next ls text rest (lines-utf8-behind blank (next ∷ ls) u.1)))
