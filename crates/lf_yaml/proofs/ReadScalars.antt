-- What a reader of scalars returned is what reading gives, by its clauses.
use Rattle.std.proofs.Common.{◌≡◌, ℕ, suc, ◌+◌, ◌-◌, ◌<◌, ◌≤◌, true, false, eqb, List, [], ◌∷◌, ◌++◌, Some, Result, Ok, Err, length, get_or, take, drop, refl, ap, arith, sym, ◌∙◌, subst, length-take, eq-eqb}
use Rattle.std.specs.Str.{IsCharBoundary, IsUtf8}
use Rattle.std.proofs.lemmas.Str.{IsCharBoundary-after_ascii, IsCharBoundary-before_ascii, IsUtf8-take}
use Rattle.lf_base.specs.declared.refusal.Refusal.{Refusal}
use Rattle.lf_scalar.specs.declared.quotes.Quotes.{Quotes}
use Rattle.lf_scalar.specs.declared.quotes.Quotes.TheVariants.{Single, Double}
use Rattle.lf_scalar.specs.declared.scalar.Style.{Style}
use Rattle.lf_base.specs.declared.fault.Fault.{Fault}
use Rattle.lf_base.specs.Answers.{AnswersAs}
use Rattle.lf_scalar.specs.Cells.{Cell, cell, cells, Value}
use Rattle.lf_scalar.specs.Lines.{Line, lines, first_text, lengthen}
use Rattle.lf_scalar.specs.Quoted.{quote_of}
use Rattle.lf_scalar.specs.reading.Quoted.{quoted_of}
use Rattle.lf_scalar.specs.Splits.{split_of}
use Rattle.lf_scalar.specs.Scalars.{begins, source_at, IsOfStyle, BreaksStyle, BeginsAt}
use Rattle.lf_scalar.specs.reading.Styles.{reading}
use Rattle.lf_scalar.proofs.Laws as scalars
use Rattle.lf_scalar.proofs.Cells.{cells-take}
use Rattle.lf_scalar.proofs.LineSteps.{IsOther, lines-other}
use Rattle.lf_yaml.specs.reading.Trees.{between_of}
use Rattle.lf_yaml.specs.views.Quoting.{style_of_quotes}
use Rattle.lf_yaml.proofs.RowsAfter.{drop-of-take, get-drop}
use Rattle.std.proofs.lemmas.List.{get_or-take, take-take}

pub gives-reading : {X : Type 0} (view : X → Value) (s : Style) (above end : ℕ) (src : List Cell) (r : Result X Refusal) → begins s (first_text (lines end src)) ≡ true
    → ((v : Value) → IsOfStyle s above end src v → AnswersAs view r (Ok v)) → ((f : Fault) → BreaksStyle s above end src f → AnswersAs view r (Err f)) → AnswersAs view r (reading s above end src)
gives-reading view s above end src r b only breach = by (reading s above end src) (scalars.tells s above end src b)
  where
    by : (x : Result Value Fault) → scalars.Told s above end src x → AnswersAs view r x
    by (Ok v) h = only v h
    by (Err f) h = breach f h

-- ---- a quoted scalar of a file that is cut right behind the closing quote

-- the bytes from the opening quote on, of which k stand before the closing one
pub cut-source : (bytes inside : List ℕ) (at k q : ℕ) → q ∷ inside ≡ take (length inside + 1) (drop at bytes) → k < length inside → drop at (take (at + k + 2) bytes) ≡ q ∷ take (k + 1) inside
cut-source bytes inside at k q e lt =
    let n : (at + k + 2) - at ≡ k + 2 = omega arith in
    let two : k + 2 ≡ suc (k + 1) = omega arith in
    let a : take (k + 2) (drop at bytes) ≡ take (k + 2) (take (length inside + 1) (drop at bytes)) = sym (take-take (k + 2) (length inside + 1) (drop at bytes) (omega arith)) in
    drop-of-take at (at + k + 2) bytes ∙ ap (λ (m : ℕ). take m (drop at bytes)) n ∙ a ∙ ap (take (k + 2)) (sym e) ∙ ap (λ (m : ℕ). take m (q ∷ inside)) two

no-feed : (kind : Quotes) (q : ℕ) → q ≡ quote_of kind → eqb q 10 ≡ false
no-feed Single q e = rw e refl
no-feed Double q e = rw e refl

no-return : (kind : Quotes) (q : ℕ) → q ≡ quote_of kind → eqb q 13 ≡ false
no-return Single q e = rw e refl
no-return Double q e = rw e refl

-- a quoted scalar begins with its quote
pub quote-begins : (kind : Quotes) (end : ℕ) (c : Cell) (src : List Cell) → c.byte ≡ quote_of kind → begins (style_of_quotes kind) (first_text (lines end (c ∷ src))) ≡ true
quote-begins kind end c src e =
    let o : IsOther c src = record { no_feed = no-feed kind c.byte e; no_return = rw (no-return kind c.byte e) refl } in
    ap (λ (ls : List Line). begins (style_of_quotes kind) (first_text ls)) (lines-other end c src o) ∙ by kind (lines end src) e
  where
    by : (kind : Quotes) (ls : List Line) → c.byte ≡ quote_of kind → begins (style_of_quotes kind) (first_text (lengthen end c ls)) ≡ true
    by Single [] e = eq-eqb c.byte 39 e
    by Single (l ∷ ls) e = eq-eqb c.byte 39 e
    by Double [] e = eq-eqb c.byte 34 e
    by Double (l ∷ ls) e = eq-eqb c.byte 34 e

quoted-reading : (kind : Quotes) (end : ℕ) (c : Cell) (src : List Cell) → reading (style_of_quotes kind) 0 end (c ∷ src) ≡ quoted_of kind end c src
quoted-reading Single end c src = refl
quoted-reading Double end c src = refl

-- what is read from the cut file
pub cut-reading : (kind : Quotes) (bytes inside : List ℕ) (at k q : ℕ) → q ∷ inside ≡ take (length inside + 1) (drop at bytes) → k < length inside → at + k + 2 ≤ length bytes
    → reading (style_of_quotes kind) 0 (length (take (at + k + 2) bytes)) (source_at (take (at + k + 2) bytes) at) ≡ between_of kind (cell q at) (Some (split_of (at + 1) inside k))
cut-reading kind bytes inside at k q e lt le =
    let n : length (take (at + k + 2) bytes) ≡ at + 1 + k + 1 = omega (arith, length-take (at + k + 2) bytes) in
    let s : source_at (take (at + k + 2) bytes) at ≡ cell q at ∷ cells (suc at) (take (k + 1) inside) = ap (cells at) (cut-source bytes inside at k q e lt) in
    let z : suc at ≡ at + 1 = omega arith in
    let t : cells (suc at) (take (k + 1) inside) ≡ cells (at + 1) (take k inside) ++ cell (get_or inside k 0) (at + 1 + k) ∷ [] = ap (λ (m : ℕ). cells m (take (k + 1) inside)) z ∙ cells-take (at + 1) inside k lt in
    ap (λ (m : ℕ). reading (style_of_quotes kind) 0 m (source_at (take (at + k + 2) bytes) at)) n ∙ ap (reading (style_of_quotes kind) 0 (at + 1 + k + 1)) s
    ∙ quoted-reading kind (at + 1 + k + 1) (cell q at) (cells (suc at) (take (k + 1) inside)) ∙ ap (quoted_of kind (at + 1 + k + 1) (cell q at)) t

get-of-take : (n : ℕ) (xs ys : List ℕ) (i : ℕ) → xs ≡ take n ys → i < length xs → get_or xs i 0 ≡ get_or ys i 0
get-of-take n xs ys i e lt = ap (λ (zs : List ℕ). get_or zs i 0) e ∙ get_or-take n ys i 0 (omega (arith, lt, ap length e, length-take n ys))

-- the closing quote in the file
closing-byte : (bytes inside : List ℕ) (at k q : ℕ) → q ∷ inside ≡ take (length inside + 1) (drop at bytes) → k < length inside → get_or inside k 0 ≡ get_or bytes (at + (k + 1)) 0
closing-byte bytes inside at k q e lt =
    let z : suc k ≡ k + 1 = omega arith in
    get-of-take (length inside + 1) (q ∷ inside) (drop at bytes) (suc k) e (omega arith) ∙ get-drop at (suc k) bytes ∙ ap (λ (m : ℕ). get_or bytes (at + m) 0) z

pub small-quote : (kind : Quotes) (b : ℕ) → b ≡ quote_of kind → b < 128
small-quote Single b e = omega (arith, e)
small-quote Double b e = omega (arith, e)

-- the cut file is UTF-8
pub cut-utf8 : (kind : Quotes) (bytes inside : List ℕ) (at k q : ℕ) → IsUtf8 bytes → q ∷ inside ≡ take (length inside + 1) (drop at bytes) → k < length inside → at + length inside + 1 ≤ length bytes → get_or inside k 0 ≡ quote_of kind
    → IsUtf8 (take (at + k + 2) bytes)
cut-utf8 kind bytes inside at k q utf8 e lt le c =
    let small : get_or bytes (at + (k + 1)) 0 < 128 = small-quote kind _ (sym (closing-byte bytes inside at k q e lt) ∙ c) in
    let z : at + (k + 1) + 1 ≡ at + k + 2 = omega arith in
    IsUtf8-take bytes (at + k + 2) utf8 (subst (IsCharBoundary bytes) z (IsCharBoundary-after_ascii bytes (at + (k + 1)) utf8 (omega arith) small))

-- the scalar begins in the cut file
pub cut-begins : (kind : Quotes) (bytes inside : List ℕ) (at k q : ℕ) → q ∷ inside ≡ take (length inside + 1) (drop at bytes) → k < length inside → at + length inside + 1 ≤ length bytes → q ≡ quote_of kind
    → BeginsAt (take (at + k + 2) bytes) at (style_of_quotes kind)
cut-begins kind bytes inside at k q e lt le c =
    let s : source_at (take (at + k + 2) bytes) at ≡ cell q at ∷ cells (suc at) (take (k + 1) inside) = ap (cells at) (cut-source bytes inside at k q e lt) in
    let cut = take (at + k + 2) bytes in
    let n : length cut ≡ at + k + 2 = omega (arith, length-take (at + k + 2) bytes) in
    let d : get_or cut at 0 ≡ q =
    (let z : at + 0 ≡ at = omega arith in ap (λ (m : ℕ). get_or cut m 0) (sym z) ∙ sym (get-drop at 0 cut) ∙ ap (λ (xs : List ℕ). get_or xs 0 0) (cut-source bytes inside at k q e lt)) in
    (IsCharBoundary-before_ascii cut at (omega (arith, n)) (small-quote kind _ (d ∙ c)), ap (λ (xs : List Cell). begins (style_of_quotes kind) (first_text (lines (length cut) xs))) s ∙ quote-begins kind (length cut) (cell q at) (cells (suc at) (take (k + 1) inside)) c)
