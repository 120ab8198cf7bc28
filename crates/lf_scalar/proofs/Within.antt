-- The span of each breach of a scalar lies in its file.
use Rattle.std.proofs.Common.{◌≡◌, ◌≢◌, ℕ, suc, ◌+◌, ◌<◌, ◌≤◌, Bool, true, false, eqb, ◌&&◌, List, [], ◌∷◌, ◌++◌, Option, Some, None, Ok, Err, length, drop, refl, ap, arith, sym, ◌∙◌, subst, inl, inr, eqb-true}
use Rattle.std.specs.Prelude.{ℤ, leb, nat_lt, is_none}
use Rattle.std.specs.Str.{IsUtf8}
use Rattle.std.specs.List.{flat_map}
use Rattle.std.proofs.lemmas.Bool.{cases_Bool, and_parts}
use Rattle.std.proofs.lemmas.List.{length-drop}
use Rattle.std.proofs.lemmas.Str.{IsUtf8-drop}
use Rattle.std.proofs.lemmas.Option.{none-some, same_Some}
use Rattle.lf_base.specs.declared.kind.Kind.{Kind}
use Rattle.lf_base.specs.declared.kind.Kind.TheVariants.{BadHeader, NotANode}
use Rattle.lf_base.specs.declared.fault.Fault.{Fault}
use Rattle.lf_base.specs.Faults.{LiesIn}
use Rattle.lf_scalar.specs.declared.block.Chomp.{Chomp}
use Rattle.lf_scalar.specs.declared.block.Chomp.TheVariants.{Strip, Clip, Keep}
use Rattle.lf_scalar.specs.declared.scalar.Style.{Style}
use Rattle.lf_scalar.specs.declared.scalar.Style.TheVariants as style
use Rattle.lf_scalar.specs.Cells.{Cell, cells, character_fault}
use Rattle.lf_scalar.specs.Lines.{Line, lines, start_of, first_text, begins_with, is_blank, after_blanks, indent_of, is_spaces}
use Rattle.lf_scalar.specs.Markers.{is_marker}
use Rattle.lf_scalar.specs.Plain.{plain_text, key_sign, before_blank, has_tab, first_tab, PlainBreaks, BreaksPlain}
use Rattle.lf_scalar.specs.Plain as plain
use Rattle.lf_scalar.specs.Quoted.{Quotes, Single, Double, quote_of, raw, spelled, unindented, QuotedBreaks, escape, marker, later, behind, BreaksQuoted, open_quote, inside, outside}
use Rattle.lf_scalar.specs.reading.Quoted.{wrong_behind}
use Rattle.lf_scalar.specs.Block.{content_indent, spaces_fault, tab_fault, body_fault, IsChomp, BreaksBlock}
use Rattle.lf_scalar.specs.Block as block
use Rattle.lf_scalar.specs.reading.Block.{Header, once, ends_header, header_from}
use Rattle.lf_scalar.specs.Scalars.{least_above, begins, source_at, BeginsAt, BreaksStyle, BreaksAt}
use Rattle.lf_scalar.proofs.BlockHeader.{Mark, sign, numeral, neither, mark, step-sign, step-digit, step-end, wrong-again}
use Rattle.lf_scalar.proofs.Cells.{cells-bytes}
use Rattle.lf_scalar.proofs.Characters.{character_lies, byte_lies, lies_further}
use Rattle.lf_scalar.proofs.Parts.{Utf8, utf8-before, utf8-behind, part-utf8, blank-low, after-blanks-part}
use Rattle.lf_scalar.proofs.PlainOffsets.{plain-text-rises}
use Rattle.lf_scalar.proofs.QuotedTexts.{quote-low}
use Rattle.lf_scalar.proofs.Rising.{Rises, LinesRise, rises-le, rises-part, rises-before, rises-behind, climbs-from, climbs-end, cells-rise, lines-rise, lines-behind}
use Rattle.lf_scalar.proofs.Tails.{true-false, wrong-told, from-front}
use Rattle.lf_scalar.proofs.TextLaws.{first-byte, rises-push}
use Rattle.lf_scalar.proofs.Utf8Lines.{utf8-nil, utf8-append, utf8-low, LinesUtf8, lines-utf8, lines-utf8-behind}

abbrev some : Cell → Option Cell
some c = Some c

abbrev some_place : ℕ → Option ℕ
some_place at = Some at

no_place : (at : ℕ) → None ≡ some_place at → ⊥
no_place at e = cc

place_is : (m n : ℕ) → some_place m ≡ some_place n → m ≡ n
place_is m n e = cc

-- a line with a first byte begins in the source
start_lies : (l : Line) (lo hi : ℕ) → l.text ≢ [] → Rises lo l.text l.break → l.break ≤ hi → suc (start_of l) ≤ hi
start_lies l lo hi some r le = by l.text some r
  where
    by : (cs : List Cell) → cs ≢ [] → Rises lo cs l.break → suc (start_of (record { text = cs; break = l.break })) ≤ hi
    by [] n r = absurd (n refl)
    by (c ∷ cs) n r = let k : suc c.at ≤ l.break = rises-le (suc c.at) cs l.break r.1 in omega (arith, k, le)

-- ---- plain scalars

key_lies : (cs : List Cell) (c : Cell) (lo hi : ℕ) → key_sign cs ≡ some c → Rises lo cs hi → suc c.at ≤ hi
key_lies [] c lo hi e r = absurd (none-some c e)
key_lies (d ∷ cs) c lo hi e r =
    elim (cases_Bool (eqb d.byte 58 && before_blank cs)) [
      | inl a ↦ subst (λ (x : Cell). suc x.at ≤ hi) (same_Some d c (rw a at e)) (rises-le (suc d.at) cs hi r.1)
      | inr a ↦ key_lies cs c (suc d.at) hi (rw a at e) r.1
    ]

-- a line with a tab behind its spaces has a first byte
tab_full : (l : Line) → has_tab l ≡ true → l.text ≢ []
tab_full l h e = let n : has_tab l ≡ false = rw e refl in true-false (has_tab l) h n

tab_lies : (ls : List Line) (at lo hi : ℕ) → first_tab ls ≡ some_place at → LinesRise lo ls hi → suc at ≤ hi
tab_lies [] at lo hi e r = absurd (no_place at e)
tab_lies (l ∷ ls) at lo hi e r =
    elim (cases_Bool (has_tab l)) [
      | inl a ↦ subst (λ (n : ℕ). suc n ≤ hi) (place_is (start_of l) at (rw a at e)) (start_lies l lo hi (tab_full l a) r.0 r.1)
      | inr a ↦ tab_lies ls at (suc l.break) hi (rw a at e) r.2
    ]

lines-upto : (lo : ℕ) (blank : List Line) (next : Line) (ls : List Line) (hi : ℕ) → LinesRise lo (blank ++ next ∷ ls) hi → LinesRise lo (blank ++ next ∷ []) hi
lines-upto lo [] next ls hi r = (r.0, r.1, tt)
lines-upto lo (b ∷ blank) next ls hi r = (r.0, r.1, lines-upto (suc b.break) blank next ls hi r.2)

plain_lies : (above : ℕ) (l : Line) (ls : List Line) (f : Fault) → PlainBreaks above l ls f → (lo hi : ℕ) → LinesRise lo (l ∷ ls) hi → LiesIn hi f.span
plain_lies above l _ _ (plain.key {c = c} ls e) lo hi r =
    let k : suc c.at ≤ l.break = key_lies (plain_text l) c lo l.break e (plain-text-rises lo l l.break r.0) in
    byte_lies c.at hi (omega (arith, k, r.1))
plain_lies above l _ _ (plain.tab {next = next} {at = at} blank ls e g t) lo hi r =
    byte_lies at hi (tab_lies (blank ++ next ∷ []) at (suc l.break) hi t (lines-upto (suc l.break) blank next ls hi r.2))
plain_lies above l _ _ (plain.later {next = next} {ls = ls} {f = f} blank e g t rest) lo hi r = plain_lies above next ls f rest (suc l.break) hi (lines-behind (suc l.break) blank (next ∷ ls) hi r.2)

-- ---- scalars between quotes

marker_full : (l : Line) → is_marker l ≡ true → l.text ≢ []
marker_full l h e = let n : is_marker l ≡ false = rw e refl in true-false (is_marker l) h n

lines_lie : (kind : Quotes) (l : Line) (ls : List Line) (f : Fault) → QuotedBreaks kind l ls f → (lo hi : ℕ) → LinesUtf8 (l ∷ ls) → LinesRise lo (l ∷ ls) hi → LiesIn hi f.span
lines_lie kind l _ _ (escape {backslash = b} ls h) lo hi u r =
    let s : Rises lo (flat_map spelled h.pieces ++ b ∷ h.more) l.break = subst (λ (xs : List Cell). Rises lo xs l.break) h.source r.0 in
    let k : suc b.at ≤ l.break = rises-le (suc b.at) h.more l.break (rises-behind lo (flat_map spelled h.pieces) b h.more l.break s) in
    byte_lies b.at hi (omega (arith, k, r.1))
lines_lie kind l _ _ (marker {next = next} part break blank ls broken follows marked) lo hi u r =
    let n : LinesRise (suc l.break) (next ∷ ls) hi = lines-behind (suc l.break) blank (next ∷ ls) hi r.2 in
    byte_lies (start_of next) hi (start_lies next (suc l.break) hi (marker_full next marked) n.0 n.1)
lines_lie kind l _ _ (later {next = next} {ls = ls} {f = f} part break blank broken follows bare rest) lo hi u r =
    let n : LinesRise (suc l.break) (next ∷ ls) hi = lines-behind (suc l.break) blank (next ∷ ls) hi r.2 in
    let v = lines-utf8-behind blank (next ∷ ls) u.1 in
    lines_lie kind (unindented next) ls f rest (suc l.break) hi (part-utf8 next.text (after_blanks next.text) (after-blanks-part next.text) v.0, v.1)
    (rises-part (suc l.break) next.text (after_blanks next.text) next.break (after-blanks-part next.text) n.0, n.1, n.2)

-- the first character that can't stand behind a scalar
pub wrong_lies : (blank : Bool) (cs : List Cell) (w : Cell) (lo hi : ℕ) → wrong_behind blank cs ≡ some w → Utf8 cs → Rises lo cs hi → (kind : Kind) → LiesIn hi (character_fault kind w).span
wrong_lies blank [] w lo hi e u r kind = absurd (none-some w e)
wrong_lies blank (c ∷ cs) w lo hi e u r kind =
    elim (cases_Bool (is_blank c)) [
      | inl a ↦ wrong_lies true cs w (suc c.at) hi (rw a at e) (utf8-behind [] c cs u (blank-low c a)) r.1 kind
      | inr a ↦ elim (cases_Bool (blank && eqb c.byte 35)) [
        | inl b ↦ absurd (none-some w (rw (a, b) at e))
        | inr b ↦ subst (λ (x : Cell). LiesIn hi (character_fault kind x).span) (same_Some c w (rw (a, b) at e)) (character_lies lo c cs hi u r kind)
      ]
    ]

first_utf8 : (ls : List Line) → LinesUtf8 ls → Utf8 (first_text ls)
first_utf8 [] u = utf8-nil
first_utf8 (l ∷ ls) u = u.0

pub rises_high : (lo : ℕ) (cs : List Cell) (hi high : ℕ) → hi ≤ high → Rises lo cs hi → Rises lo cs high
rises_high lo [] hi high le h = omega (arith, le, h)
rises_high lo (c ∷ cs) hi high le h = (h.0, rises_high (suc c.at) cs hi high le h.1)

first_rises : (lo : ℕ) (ls : List Line) (hi : ℕ) → lo ≤ hi → LinesRise lo ls hi → Rises lo (first_text ls) hi
first_rises lo [] hi le r = le
first_rises lo (l ∷ ls) hi le r = rises_high lo l.text l.break hi r.1 r.0

pub quoted_lies : (kind : Quotes) (end : ℕ) (opening : Cell) (src : List Cell) (f : Fault) → BreaksQuoted kind end opening src f → (lo : ℕ) → opening.byte ≡ quote_of kind → Utf8 (opening ∷ src) → Rises lo (opening ∷ src) end → LiesIn end f.span
quoted_lies kind end opening src _ (open_quote none) lo o u r = byte_lies opening.at end (rises-le (suc opening.at) src end r.1)
quoted_lies kind end opening src _ (inside {first = first} {following = following} {f = f} c source h) lo o u r =
    let low = quote-low kind c.closing c.closes in
    let inner : Utf8 (flat_map raw c.raws ++ c.closing ∷ c.rest) = subst Utf8 c.source (utf8-behind [] opening src u (quote-low kind opening o)) in
    let whole : Utf8 (flat_map raw c.raws ++ c.closing ∷ []) = utf8-append (flat_map raw c.raws) (c.closing ∷ []) (utf8-before (flat_map raw c.raws) c.closing c.rest inner low) (utf8-low c.closing [] low utf8-nil) in
    let us : LinesUtf8 (first ∷ following) = subst LinesUtf8 source (lines-utf8 (suc (length (flat_map raw c.raws ++ c.closing ∷ []))) (c.closing.at + 1) (flat_map raw c.raws ++ c.closing ∷ []) (omega arith) whole) in
    let s : Rises (suc opening.at) (flat_map raw c.raws ++ c.closing ∷ c.rest) end = subst (λ (cs : List Cell). Rises (suc opening.at) cs end) c.source r.1 in
    let stop : suc c.closing.at ≤ end = rises-le (suc c.closing.at) c.rest end (rises-behind (suc opening.at) (flat_map raw c.raws) c.closing c.rest end s) in
    let rise : Rises (suc opening.at) (flat_map raw c.raws ++ c.closing ∷ []) (c.closing.at + 1) = rises-push (suc opening.at) (flat_map raw c.raws) c.closing (rises-before (suc opening.at) (flat_map raw c.raws) c.closing c.rest end s) in
    let rs : LinesRise (suc opening.at) (first ∷ following) (c.closing.at + 1) =
    subst (λ (xs : List Line). LinesRise (suc opening.at) xs (c.closing.at + 1)) source
    (lines-rise (suc (length (flat_map raw c.raws ++ c.closing ∷ []))) (c.closing.at + 1) (suc opening.at) (flat_map raw c.raws ++ c.closing ∷ []) (omega arith) rise) in
    lies_further (c.closing.at + 1) end f.span (omega (arith, stop)) (lines_lie kind first following f h (suc opening.at) (c.closing.at + 1) us rs)
quoted_lies kind end opening src _ (outside {v = v} {wrong = wrong} closed w) lo o u r =
    let c = closed.between in
    let inner : Utf8 (flat_map raw c.raws ++ c.closing ∷ c.rest) = subst Utf8 c.source (utf8-behind [] opening src u (quote-low kind opening o)) in
    let rest : Utf8 c.rest = utf8-behind (flat_map raw c.raws) c.closing c.rest inner (quote-low kind c.closing c.closes) in
    let s : Rises (suc opening.at) (flat_map raw c.raws ++ c.closing ∷ c.rest) end = subst (λ (cs : List Cell). Rises (suc opening.at) cs end) c.source r.1 in
    let rise : Rises (suc c.closing.at) c.rest end = rises-behind (suc opening.at) (flat_map raw c.raws) c.closing c.rest end s in
    let us : Utf8 (behind end c) = first_utf8 (lines end c.rest) (lines-utf8 (suc (length c.rest)) end c.rest (omega arith) rest) in
    let rs : Rises (suc c.closing.at) (behind end c) end =
    first_rises (suc c.closing.at) (lines end c.rest) end (rises-le (suc c.closing.at) c.rest end rise) (lines-rise (suc (length c.rest)) end (suc c.closing.at) c.rest (omega arith) rise) in
    wrong_lies false (behind end c) wrong (suc c.closing.at) end (wrong-told false (behind end c) wrong (from-front (behind end c) wrong w)) us rs NotANode

-- ---- block scalars

abbrev bad : Cell → Header
bad w = Err w

abbrev good : Chomp → Option ℕ → Header
good chomp digit = Ok (chomp, digit)

never_good : (chomp : Chomp) (digit : Option ℕ) (w : Cell) → good chomp digit ≡ bad w → ⊥
never_good chomp digit w e = cc

same_bad : (c w : Cell) → bad c ≡ bad w → c ≡ w
same_bad c w e = cc

chomp_low : (c : Cell) (chomp : Chomp) → IsChomp c chomp → c.byte < 128
chomp_low c Strip h = omega (arith, h)
chomp_low c Clip h = absurd h
chomp_low c Keep h = omega (arith, h)

header_lies : (s : Option Chomp) (d : Option ℕ) (cs : List Cell) (w : Cell) (lo hi : ℕ) → header_from s d cs ≡ bad w → Utf8 cs → Rises lo cs hi → (kind : Kind) → LiesIn hi (character_fault kind w).span
unfolding header_from
header_lies s d [] w lo hi e u r kind = absurd (never_good _ _ w e)
header_lies s d (c ∷ cs) w lo hi e u r kind = by (mark c) (λ s d v h. header_lies s d cs w (suc c.at) hi h v r.1 kind)
  where
    here : c ≡ w → LiesIn hi (character_fault kind w).span
    here same = subst (λ (x : Cell). LiesIn hi (character_fault kind x).span) same (character_lies lo c cs hi u r kind)

    once_lies : {X : Type 0} (o : Option X) (more : Header) → once c o more ≡ bad w → (more ≡ bad w → LiesIn hi (character_fault kind w).span) → LiesIn hi (character_fault kind w).span
    once_lies None more h below = below h
    once_lies (Some x) more h below = here (same_bad c w h)

    ends : (o : Option Cell) → wrong_behind false (c ∷ cs) ≡ o → ends_header s d o ≡ bad w → LiesIn hi (character_fault kind w).span
    ends None t h = absurd (never_good _ _ w h)
    ends (Some x) t h = wrong_lies false (c ∷ cs) w lo hi (t ∙ ap some (same_bad x w h)) u r kind

    by : Mark c → ((s : Option Chomp) (d : Option ℕ) → Utf8 cs → header_from s d cs ≡ bad w → LiesIn hi (character_fault kind w).span) → LiesIn hi (character_fault kind w).span
    by (sign chomp h) below = once_lies s (header_from (Some chomp) d cs) (sym (step-sign s d c cs chomp h) ∙ e) (below (Some chomp) d (utf8-behind [] c cs u (chomp_low c chomp h)))
    by (numeral n h) below = once_lies d (header_from s (Some n) cs) (sym (step-digit s d c cs n h) ∙ e) (below s (Some n) (utf8-behind [] c cs u (omega (arith, h.1, h.2))))
    by (neither p q) below = ends (wrong_behind false (c ∷ cs)) refl (sym (step-end s d c cs p q) ∙ e)

abbrev some_fault : Fault → Option Fault
some_fault f = Some f

no_fault : (f : Fault) → None ≡ some_fault f → ⊥
no_fault f e = cc

fault_is : (f g : Fault) → some_fault f ≡ some_fault g → f ≡ g
fault_is f g e = cc

-- right behind the last space of a line
end_lies : (l : Line) (lo hi : ℕ) → Rises lo l.text l.break → l.break ≤ hi → LiesIn hi (spaces_fault l).span
end_lies l lo hi r le = (omega arith, omega (arith, le, climbs-end l.break lo l.text l.break (omega arith) (climbs-from lo l.text l.break r)))

body_lies : (leads : Bool) (above k : ℕ) (ls : List Line) (f : Fault) (lo hi : ℕ) → body_fault leads above k ls ≡ some_fault f → LinesRise lo ls hi → LiesIn hi f.span
unfolding body_fault
body_lies leads above k [] f lo hi e r = absurd (no_fault f e)
body_lies leads above k (l ∷ ls) f lo hi e r =
    elim (cases_Bool (is_spaces l)) [
      | inl a ↦ elim (cases_Bool (leads && nat_lt k (length l.text))) [
        | inl b ↦ subst (λ (g : Fault). LiesIn hi g.span) (fault_is (spaces_fault l) f (rw (a, b) at e)) (end_lies l lo hi r.0 r.1)
        | inr b ↦ body_lies leads above k ls f (suc l.break) hi (rw (a, b) at e) r.2
      ]
      | inr a ↦ elim (cases_Bool (leb k (indent_of l.text))) [
        | inl b ↦ elim (cases_Bool (leads && has_tab l)) [
          | inl t ↦ tab ((and_parts leads (has_tab l) t).1) (rw (a, b, t) at e)
          | inr t ↦ body_lies false above k ls f (suc l.break) hi (rw (a, b, t) at e) r.2
        ]
        | inr b ↦ elim (cases_Bool (leb above (indent_of l.text) && has_tab l)) [
          | inl t ↦ tab ((and_parts (leb above (indent_of l.text)) (has_tab l) t).1) (rw (a, b, t) at e)
          | inr t ↦ absurd (no_fault f (rw (a, b, t) at e))
        ]
      ]
    ]
  where
    tab : has_tab l ≡ true → some_fault (tab_fault l) ≡ some_fault f → LiesIn hi f.span
    tab t e = subst (λ (g : Fault). LiesIn hi g.span) (fault_is (tab_fault l) f e) (byte_lies (start_of l) hi (start_lies l lo hi (tab_full l t) r.0 r.1))

module _ (end lo : ℕ) (src : List Cell) (u : Utf8 src) (r : Rises lo src end) where
  lines_u : LinesUtf8 (lines end src)
  lines_u = lines-utf8 (suc (length src)) end src (omega arith) u

  lines_r : LinesRise lo (lines end src) end
  lines_r = lines-rise (suc (length src)) end lo src (omega arith) r

  scalar_lies : (above : ℕ) (f : Fault) → BreaksPlain above end src f → LiesIn end f.span
  scalar_lies above f h = plain_lies above h.0.first h.0.following f h.1 lo end (subst (λ (ls : List Line). LinesRise lo ls end) h.0.source lines_r)

  block_lies : (above b : ℕ) → b < 128 → begins_with b (first_text (lines end src)) ≡ true → (f : Fault) → BreaksBlock above end src f → LiesIn end f.span
  block_lies above b lt begun _ (block.header {wrong = wrong} g w) =
      let l : Line = record { text = g.sign ∷ g.header; break = g.break } in
      let v : LinesUtf8 (l ∷ g.following) = subst LinesUtf8 g.source lines_u in
      let s : LinesRise lo (l ∷ g.following) end = subst (λ (ls : List Line). LinesRise lo ls end) g.source lines_r in
      let is : eqb g.sign.byte b ≡ true = ap (λ (ls : List Line). begins_with b (first_text ls)) (sym g.source) ∙ begun in
      let low : g.sign.byte < 128 = omega (arith, lt, eqb-true g.sign.byte b is) in
      let told : LiesIn g.break (character_fault BadHeader wrong).span = header_lies None None g.header wrong (suc g.sign.at) g.break (wrong-again g.header wrong w) (utf8-behind [] g.sign g.header v.0 low) s.0.1 BadHeader in
      lies_further g.break end (character_fault BadHeader wrong).span s.1 told
  block_lies above b lt begun f (block.body {digit = digit} g marks broken) =
      let s : LinesRise lo (record { text = g.sign ∷ g.header; break = g.break } ∷ g.following) end = subst (λ (ls : List Line). LinesRise lo ls end) g.source lines_r in
      body_lies (is_none digit) above (content_indent above digit g.following) g.following f (suc g.break) end broken s.2

pub style_lies : (s : Style) (above end lo : ℕ) (src : List Cell) (f : Fault) → Utf8 src → Rises lo src end → begins s (first_text (lines end src)) ≡ true → BreaksStyle s above end src f → LiesIn end f.span
style_lies style.Plain above end lo src f u r b h = scalar_lies end lo src u r above f h
style_lies style.Single above end lo [] f u r b h = absurd h
style_lies style.Single above end lo (c ∷ src) f u r b h = quoted_lies Single end c src f h lo (first-byte end 39 c src b) u r
style_lies style.Double above end lo [] f u r b h = absurd h
style_lies style.Double above end lo (c ∷ src) f u r b h = quoted_lies Double end c src f h lo (first-byte end 34 c src b) u r
style_lies style.Literal above end lo src f u r b h = block_lies end lo src u r above 124 (omega arith) b f h
style_lies style.Folded above end lo src f u r b h = block_lies end lo src u r above 62 (omega arith) b f h

pub breach_lies : (bytes : List ℕ) (at : ℕ) (parent : ℤ) (s : Style) → IsUtf8 bytes → BeginsAt bytes at s → (f : Fault) → BreaksAt bytes at parent s f → LiesIn (length bytes) f.span
breach_lies bytes at parent s u b f h =
    let e : at + length (drop at bytes) ≡ length bytes = omega (arith, length-drop at bytes, b.0.0) in
    style_lies s (least_above parent) (length bytes) at (source_at bytes at) f (subst IsUtf8 (sym (cells-bytes at (drop at bytes))) (IsUtf8-drop bytes at u b.0))
    (subst (Rises at (cells at (drop at bytes))) e (cells-rise at (drop at bytes))) b.1 h
