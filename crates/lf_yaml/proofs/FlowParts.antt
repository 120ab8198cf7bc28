-- The parts of flow collections are read: where the next one begins, and scalars.
use Rattle.std.proofs.Common.{◌≡◌, ℕ, suc, ◌+◌, ◌<◌, ◌≤◌, Bool, true, false, cond, eqb, List, [], ◌∷◌, ◌++◌, Some, None, Result, Ok, Err, length, eq-eqb, refl, ap, arith, sym, ◌∙◌, subst, inl, inr, ◌&&◌, ◌||◌}
use Rattle.std.specs.List.{flat_map, AllByRecursion}
use Rattle.std.specs.Str.{IsCharBoundary, IsUtf8}
use Rattle.std.proofs.lemmas.Bool.{cases_lt, cases_Bool}
use Rattle.std.proofs.lemmas.Bool.Decides.{eqb_tells}
use Rattle.std.proofs.lemmas.List.{drop_all}
use Rattle.std.proofs.lemmas.Str.{IsCharBoundary-after_ascii}
use Rattle.std.proofs.Math.Bool.{or-true}
use Rattle.lf_base.specs.declared.kind.Kind.TheVariants.{OpenQuote}
use Rattle.lf_scalar.specs.declared.quotes.Quotes.{Quotes}
use Rattle.lf_scalar.specs.declared.quotes.Quotes.TheVariants.{Single, Double}
use Rattle.lf_base.specs.declared.fault.Fault.{Fault}
use Rattle.lf_scalar.specs.Cells.{Cell, cell, cells, Value, byte_fault}
use Rattle.lf_scalar.specs.Lines.{Line, lines, begins_with, is_blank, after_spaces}
use Rattle.lf_scalar.specs.Scalars.{source_at}
use Rattle.lf_scalar.specs.Quoted.{quote_of, raw, Closes}
use Rattle.lf_scalar.specs.reading.Quoted.{closing_of}
use Rattle.lf_scalar.proofs.Closing.{closes-again}
use Rattle.lf_scalar.proofs.LineSteps.{lines-nil}
use Rattle.lf_scalar.proofs.Parts.{after-spaces-part}
use Rattle.lf_scalar.proofs.QuotedTexts.{quote-low}
use Rattle.lf_scalar.proofs.Rising.{Rises, LinesRise, rises-le, rises-low, rises-part, rises-before, rises-behind}
use Rattle.lf_scalar.proofs.Tails.{true-false}
use Rattle.lf_scalar.proofs.Within.{rises_high}
use Rattle.lf_scalar.specs.Lines.{start_of}
use Rattle.lf_yaml.specs.Rows.{ContentRow, text_of, is_mark, headed, content_row, rows_of}
use Rattle.lf_yaml.specs.Heads.{OpensQuote}
use Rattle.lf_yaml.specs.Flow.{first_line, later_lines, lines_on, line_on, lines_below, Next, at_part, broken, on_line, next_part, next_on, begins_flow, FlowScalar, quoted, plain, begins_part, part_fault, FlowScalarBreaks, no_scalar, open_quote, inside, plain_lines}
use Rattle.lf_yaml.specs.reading.Trees.{quotes_of, Folded, plain_from, FlowPart, plain_part, with_after, quoted_part, part_by, flow_scalar}
use Rattle.lf_yaml.proofs.FlowLines.{PlainTold, plain-again, plain-breaks, plain-told, plain-within, plain-boundary, InFile, source-in, lines-here, source-rises, lines-rise-here}
use Rattle.lf_yaml.proofs.HeadLaws.{NoQuote, quotes-is, quotes-view, not-quote, between-view, single_line, BetweenTold, between-tells, between-is, between-breaks}
use Rattle.lf_laws.proofs.Members.{all_back}

-- ---- the next part stands further on

-- the first of some rows, if there is one, begins at an offset or later, and its cells rise
abbrev FirstRow : ℕ → ℕ → List ContentRow → Type 0
FirstRow lo hi [] = Unit {0}
FirstRow lo hi (r ∷ rs) = (lo ≤ r.first.at) × Rises r.first.at (text_of r) hi

first-low : (lo low hi : ℕ) (rs : List ContentRow) → low ≤ lo → FirstRow lo hi rs → FirstRow low hi rs
first-low lo low hi [] le h = tt
first-low lo low hi (r ∷ rs) le h = (let at = h.0 in omega (arith, le, at), h.1)

line-first : (lo hi : ℕ) (l : Line) (rs : List ContentRow) → Rises lo l.text l.break → l.break ≤ hi → FirstRow (suc l.break) hi rs → FirstRow lo hi (content_row l ++ rs)
line-first lo hi l rs r le below = by (begins_with 35 (after_spaces l.text)) (after_spaces l.text) (rises-part lo l.text (after_spaces l.text) l.break (after-spaces-part l.text) r)
  where
    lower : FirstRow lo hi rs
    lower = let k = rises-le lo l.text l.break r in first-low (suc l.break) lo hi rs (omega (arith, k)) below

    by : (b : Bool) (cs : List Cell) → Rises lo cs l.break → FirstRow lo hi (cond b [] (headed (start_of l) cs) ++ rs)
    by true cs k = lower
    by false [] k = lower
    by false (c ∷ cs) k = (k.0, (omega arith, rises_high (suc c.at) cs l.break hi le k.1))

rows-first : (lo hi : ℕ) (ls : List Line) → LinesRise lo ls hi → FirstRow lo hi (rows_of ls)
unfolding rows_of
rows-first lo hi [] h = tt
rows-first lo hi (l ∷ ls) h = line-first lo hi l (rows_of ls) h.0 h.1 (rows-first (suc l.break) hi ls h.2)

abbrev NextLow : ℕ → ℕ → Next → Type 0
NextLow lo hi (broken f) = Unit {0}
NextLow lo hi (at_part c cs) = (lo ≤ c.at) × Rises c.at (c ∷ cs) hi

on-line-low : (end lo hi : ℕ) (rs : List ContentRow) → FirstRow lo hi rs → NextLow lo hi (on_line end rs)
on-line-low end lo hi [] h = tt
on-line-low end lo hi (r ∷ rs) h =
    elim (cases_Bool (eqb r.first.byte 9)) [
      | inl a ↦ rw a tt
      | inr a ↦ elim (cases_Bool (is_mark r)) [
        | inl b ↦ rw (a, b) tt
        | inr b ↦ rw (a, b) h
      ]
    ]

next-low : (end : ℕ) (blank : Bool) (lo hi : ℕ) (cs : List Cell) (rs : List ContentRow) → Rises lo cs hi → FirstRow lo hi rs → NextLow lo hi (next_part end blank cs rs)
unfolding next_part
next-low end blank lo hi [] rs h rows = on-line-low end lo hi rs rows
next-low end blank lo hi (c ∷ cs) rs h rows =
    elim (cases_Bool (is_blank c)) [
      | inl a ↦ rw a (next-low end true lo hi cs rs (rises-low (suc c.at) lo cs hi (let at = h.0 in omega (arith, at)) h.1) rows)
      | inr a ↦ elim (cases_Bool (blank && eqb c.byte 35)) [
        | inl b ↦ rw (a, b) (on-line-low end lo hi rs rows)
        | inr b ↦ rw (a, b) (h.0, (omega arith, h.1))
      ]
    ]

broken-part : {X : Type 0} (f : Fault) (c : Cell) (cs : List Cell) → broken f ≡ at_part c cs → X
broken-part f c cs e = absurd cc

nothing-there : (end : ℕ) (ls : List Line) (c : Cell) (cs : List Cell) → ls ≡ [] → next_part end false (first_line end ls).text (rows_of (later_lines ls)) ≡ at_part c cs → ⊥
unfolding next_part rows_of
nothing-there end ls c cs e h = broken-part _ c cs (sym (ap (λ (ms : List Line). next_part end false (first_line end ms).text (rows_of (later_lines ms))) e) ∙ h)

-- a part stands at an offset or behind it, and its line lies in the file
pub part-bounds : (bytes : List ℕ) (at : ℕ) (c : Cell) (cs : List Cell) → next_on bytes at ≡ at_part c cs → (at ≤ c.at) × Rises c.at (c ∷ cs) (length bytes)
unfolding next_on
part-bounds bytes at c cs e =
    elim (cases_lt (length bytes) at) [
      | inl beyond ↦ absurd (nothing-there (length bytes) (lines_on bytes at) c cs (ap (λ (xs : List ℕ). lines (length bytes) (cells at xs)) (drop_all at bytes (omega arith)) ∙ lines-nil (length bytes)) e)
      | inr le ↦
          let r = lines-rise-here bytes at le in
          let low = rises-le at (line_on bytes at).text (line_on bytes at).break r.0 in
          subst (NextLow at (length bytes)) e
          (next-low (length bytes) false at (length bytes) (line_on bytes at).text (rows_of (lines_below bytes at)) (rises_high at (line_on bytes at).text (line_on bytes at).break (length bytes) r.1 r.0)
          (first-low (suc (line_on bytes at).break) at (length bytes) (rows_of (lines_below bytes at)) (omega (arith, low)) (rows-first (suc (line_on bytes at).break) (length bytes) (lines_below bytes at) r.2)))
    ]

pub part-within : (bytes : List ℕ) (at : ℕ) (c : Cell) (cs : List Cell) → next_on bytes at ≡ at_part c cs → (at ≤ c.at) × (suc c.at ≤ length bytes)
part-within bytes at c cs e = let h = part-bounds bytes at c cs e in (h.0, rises-le (suc c.at) cs (length bytes) h.1.1)

-- ---- scalars

pub flow-quotes : (c : Cell) (cs : List Cell) → begins_flow c cs ≡ true → quotes_of c ≡ None
flow-quotes c cs h = not-quote (λ b. begins_flow (cell b c.at) cs) c refl refl h

-- a scalar between quotes by its closing quote
pub between-of : (kind : Quotes) (c : Cell) (cs : List Cell) (between : Closes kind cs) → closing_of kind 0 cs ≡ Some (flat_map raw between.raws, (between.closing, between.rest))
    → quoted_part kind c (closing_of kind 0 cs) ≡ with_after (suc between.closing.at) (single_line kind c between)
between-of kind c cs between e = ap (quoted_part kind c) e

quoted-part : (bytes : List ℕ) (kind : Quotes) (c : Cell) (cs : List Cell) (between : Closes kind (source_at bytes (suc c.at))) → c.byte ≡ quote_of kind
    → flow_scalar bytes c cs ≡ with_after (suc between.closing.at) (single_line kind c between)
unfolding flow_scalar
quoted-part bytes kind c cs between e =
    ap (part_by bytes c cs) (quotes-is c kind e) ∙ between-of kind c (source_at bytes (suc c.at)) between (closes-again kind (source_at bytes (suc c.at)) between)

plain-lines : (bytes : List ℕ) (c : Cell) (cs : List Cell) → begins_flow c cs ≡ true → flow_scalar bytes c cs ≡ plain_part c (plain_from (line_on bytes c.at) (lines_below bytes c.at))
unfolding flow_scalar
plain-lines bytes c cs p = ap (part_by bytes c cs) (flow-quotes c cs p) ∙ rw p refl

pub part-is : (bytes : List ℕ) (c : Cell) (cs : List Cell) (v : Value) (after : ℕ) → FlowScalar bytes c cs v after → flow_scalar bytes c cs ≡ Ok (v, after)
part-is bytes c cs _ _ (quoted {v = v} kind between e h) =
    quoted-part bytes kind c cs between e ∙ ap (with_after (suc between.closing.at)) (between-is kind c (source_at bytes (suc c.at)) between v h)
part-is bytes c cs _ after (plain {text = text} p l) =
    plain-lines bytes c cs p ∙ ap (plain_part c) (plain-again (line_on bytes c.at) (lines_below bytes c.at) text after l)

-- what begins no part is no quote
pub no-part-quotes : (c : Cell) (cs : List Cell) → begins_part c cs ≡ false → quotes_of c ≡ None
no-part-quotes c cs p =
    elim (eqb_tells c.byte 39) [
      | inl a ↦ true-false (begins_part c cs) (rw a.0 refl) p
      | inr a ↦ elim (eqb_tells c.byte 34) [
        | inl b ↦ true-false (begins_part c cs) (rw (a.0, b.0) refl) p
        | inr b ↦ rw (a.0, b.0) refl
      ]
    ]

pub no-part-flow : (c : Cell) (cs : List Cell) → begins_part c cs ≡ false → begins_flow c cs ≡ false
no-part-flow c cs p = by (eqb c.byte 39) (eqb c.byte 34) (begins_flow c cs) p
  where
    by : (a b d : Bool) → (a || (b || d)) ≡ false → d ≡ false
    by true b d h = true-false true refl h
    by false true d h = true-false true refl h
    by false false d h = h

-- and what is no quote begins a part as a plain scalar
pub part-flow : (c : Cell) (cs : List Cell) → NoQuote c → begins_flow c cs ≡ false → begins_part c cs ≡ false
part-flow c cs n h =
    elim (eqb_tells c.byte 39) [
      | inl a ↦ absurd (n Single a.1)
      | inr a ↦ elim (eqb_tells c.byte 34) [
        | inl b ↦ absurd (n Double b.1)
        | inr b ↦ by (eqb c.byte 39) (eqb c.byte 34) (begins_flow c cs) a.0 b.0 h
      ]
    ]
  where
    by : (a b d : Bool) → a ≡ false → b ≡ false → d ≡ false → (a || (b || d)) ≡ false
    by a b d p q r = rw (p, q, r) refl

open-part : (bytes : List ℕ) (c : Cell) (cs : List Cell) (h : OpensQuote c (source_at bytes (suc c.at))) → flow_scalar bytes c cs ≡ Err (byte_fault OpenQuote c.at)
unfolding flow_scalar
open-part bytes c cs h =
    elim (between-view h.kind (source_at bytes (suc c.at))) [
      | inl (between, e) ↦ absurd (h.unclosed between)
      | inr (n, e) ↦ ap (part_by bytes c cs) (quotes-is c h.kind h.is_quote) ∙ ap (quoted_part h.kind c) n
    ]

no-part : (bytes : List ℕ) (c : Cell) (cs : List Cell) → quotes_of c ≡ None → begins_flow c cs ≡ false → flow_scalar bytes c cs ≡ Err (part_fault c cs)
unfolding flow_scalar
no-part bytes c cs q p = ap (part_by bytes c cs) q ∙ rw p refl

pub part-breaks : (bytes : List ℕ) (c : Cell) (cs : List Cell) (f : Fault) → FlowScalarBreaks bytes c cs f → flow_scalar bytes c cs ≡ Err f
part-breaks bytes c cs _ (no_scalar p) = no-part bytes c cs (no-part-quotes c cs p) (no-part-flow c cs p)
part-breaks bytes c cs _ (open_quote h) = open-part bytes c cs h
part-breaks bytes c cs f (inside kind e h) = quoted-part bytes kind c cs h.0 e ∙ ap (with_after (suc h.0.closing.at)) (between-breaks kind c (source_at bytes (suc c.at)) f h)
part-breaks bytes c cs f (plain_lines p h) = plain-lines bytes c cs p ∙ ap (plain_part c) (plain-breaks (line_on bytes c.at) (lines_below bytes c.at) f h)

abbrev pub PartTold : List ℕ → Cell → List Cell → Result FlowPart Fault → Type 0
PartTold bytes c cs (Ok x) = FlowScalar bytes c cs x.0 x.1
PartTold bytes c cs (Err f) = FlowScalarBreaks bytes c cs f

quoted-tells : (bytes : List ℕ) (kind : Quotes) (c : Cell) (cs : List Cell) (between : Closes kind (source_at bytes (suc c.at))) → c.byte ≡ quote_of kind → (r : Result Value Fault) → BetweenTold kind c (source_at bytes (suc c.at)) between r
    → PartTold bytes c cs (with_after (suc between.closing.at) r)
quoted-tells bytes kind c cs between e (Ok v) h = quoted kind between e h
quoted-tells bytes kind c cs between e (Err f) h = inside kind e h

plain-tells : (bytes : List ℕ) (c : Cell) (cs : List Cell) → begins_flow c cs ≡ true → (r : Folded) → PlainTold (line_on bytes c.at) (lines_below bytes c.at) r → PartTold bytes c cs (plain_part c r)
plain-tells bytes c cs p (Ok x) h = plain p h
plain-tells bytes c cs p (Err f) h = plain_lines p h

pub part-tells : (bytes : List ℕ) (c : Cell) (cs : List Cell) → PartTold bytes c cs (flow_scalar bytes c cs)
part-tells bytes c cs =
    elim (quotes-view c) [
      | inl (kind, q, s) ↦ elim (between-view kind (source_at bytes (suc c.at))) [
        | inl (between, e) ↦
            subst (PartTold bytes c cs) (sym (quoted-part bytes kind c cs between q))
            (quoted-tells bytes kind c cs between q (single_line kind c between) (between-tells kind c (source_at bytes (suc c.at)) between))
        | inr (n, e) ↦
            let h : OpensQuote c (source_at bytes (suc c.at)) = record { kind = kind; is_quote = q; unclosed = e } in
            subst (PartTold bytes c cs) (sym (open-part bytes c cs h)) (open_quote h)
      ]
      | inr (q, n) ↦ elim (cases_Bool (begins_flow c cs)) [
        | inl p ↦
            subst (PartTold bytes c cs) (sym (plain-lines bytes c cs p))
            (plain-tells bytes c cs p (plain_from (line_on bytes c.at) (lines_below bytes c.at)) (plain-told (line_on bytes c.at) (lines_below bytes c.at)))
        | inr p ↦ subst (PartTold bytes c cs) (sym (no-part bytes c cs q p)) (no_scalar (part-flow c cs n p))
      ]
    ]

-- ---- how a scalar begins, and where the collection is read on behind it

pub quote-begins : (c : Cell) (cs : List Cell) (kind : Quotes) → c.byte ≡ quote_of kind → begins_part c cs ≡ true
quote-begins c cs Single e = rw (eq-eqb c.byte 39 e) refl
quote-begins c cs Double e = rw (eq-eqb c.byte 34 e) (or-true (eqb c.byte 39))

pub flow-begins : (c : Cell) (cs : List Cell) → begins_flow c cs ≡ true → begins_part c cs ≡ true
flow-begins c cs p = by (eqb c.byte 39) (eqb c.byte 34) (begins_flow c cs) p
  where
    by : (a b d : Bool) → d ≡ true → (a || (b || d)) ≡ true
    by true b d h = refl
    by false true d h = refl
    by false false d h = h

pub part-begins : (bytes : List ℕ) (c : Cell) (cs : List Cell) (v : Value) (after : ℕ) → FlowScalar bytes c cs v after → begins_part c cs ≡ true
part-begins bytes c cs _ _ (quoted kind between e h) = quote-begins c cs kind e
part-begins bytes c cs _ _ (plain p l) = flow-begins c cs p

-- a sign with which no part begins is none
pub part-no-sign : (sign : ℕ) (c : Cell) (cs : List Cell) → begins_part (cell sign c.at) cs ≡ false → begins_part c cs ≡ true → eqb c.byte sign ≡ false
part-no-sign sign c cs never is =
    elim (eqb_tells c.byte sign) [
      | inl a ↦ true-false (begins_part c cs) is (ap (λ (b : ℕ). begins_part (cell b c.at) cs) a.1 ∙ never)
      | inr a ↦ a.0
    ]

pub closing-within : (kind : Quotes) (lo hi : ℕ) (src : List Cell) (between : Closes kind src) → Rises lo src hi → (lo ≤ between.closing.at) × (suc between.closing.at ≤ hi)
closing-within kind lo hi src between r =
    let s : Rises lo (flat_map raw between.raws ++ between.closing ∷ between.rest) hi = subst (λ (xs : List Cell). Rises lo xs hi) between.source r in (
      rises-le lo (flat_map raw between.raws) between.closing.at (rises-before lo (flat_map raw between.raws) between.closing between.rest hi s),
      rises-le (suc between.closing.at) between.rest hi (rises-behind lo (flat_map raw between.raws) between.closing between.rest hi s),
    )

pub scalar-within : (bytes : List ℕ) (c : Cell) (cs : List Cell) (v : Value) (after : ℕ) → suc c.at ≤ length bytes → FlowScalar bytes c cs v after → (c.at ≤ after) × (after ≤ length bytes)
scalar-within bytes c cs _ _ le (quoted kind between e h) =
    let k = closing-within kind (suc c.at) (length bytes) (source_at bytes (suc c.at)) between (source-rises bytes (suc c.at) le) in
    let low = k.0 in
    (omega (arith, low), k.1)
scalar-within bytes c cs _ after le (plain {text = text} p l) =
    plain-within (line_on bytes c.at) (lines_below bytes c.at) text after l c.at (length bytes) (lines-rise-here bytes c.at (omega (arith, le)))

-- a character begins there
pub ascii-boundary : (bytes : List ℕ) (c : Cell) → IsUtf8 bytes → InFile bytes c → c.byte < 128 → IsCharBoundary bytes (suc c.at)
ascii-boundary bytes c utf8 h low =
    let z : c.at + 1 ≡ suc c.at = omega arith in
    let b = h.1 in
    subst (IsCharBoundary bytes) z (IsCharBoundary-after_ascii bytes c.at utf8 h.0 (omega (arith, b, low)))

pub scalar-boundary : (bytes : List ℕ) (c : Cell) (cs : List Cell) (v : Value) (after : ℕ) → IsUtf8 bytes → FlowScalar bytes c cs v after → IsCharBoundary bytes after
scalar-boundary bytes c cs _ _ utf8 (quoted kind between e h) =
    ascii-boundary bytes between.closing utf8 (all_back (InFile bytes) (flat_map raw between.raws) (between.closing ∷ between.rest) (subst (AllByRecursion (InFile bytes)) between.source (source-in bytes (suc c.at)))).0
    (quote-low kind between.closing between.closes)
scalar-boundary bytes c cs _ after utf8 (plain {text = text} p l) = plain-boundary bytes (line_on bytes c.at) (lines_below bytes c.at) text after l (lines-here bytes c.at)
