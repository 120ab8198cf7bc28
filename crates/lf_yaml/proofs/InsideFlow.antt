-- Flow collections: what they read and what breaks them lies in the file.
use Rattle.std.proofs.Common.{◌≡◌, ℕ, suc, ◌<◌, ◌≤◌, Bool, true, false, cond, eqb, ◌&&◌, List, [], ◌∷◌, ◌++◌, length, arith, sym, ◌∙◌, subst, inl, inr, append_assoc}
use Rattle.std.specs.List.{AllByRecursion, flat_map}
use Rattle.std.specs.Str.{IsUtf8, IsCharBoundary}
use Rattle.std.proofs.lemmas.Bool.{cases_Bool}
use Rattle.lf_base.specs.declared.kind.Kind.TheVariants.{LeftOut}
use Rattle.lf_base.specs.declared.fault.Fault.{Fault}
use Rattle.lf_base.specs.Faults.{LiesIn}
use Rattle.lf_scalar.specs.Cells.{Cell, Value}
use Rattle.lf_scalar.specs.Lines.{Line, start_of, begins_with, is_blank, after_blanks, after_spaces}
use Rattle.lf_scalar.specs.Plain.{before_blank}
use Rattle.lf_scalar.specs.declared.quotes.Quotes.{Quotes}
use Rattle.lf_scalar.specs.Scalars.{source_at}
use Rattle.lf_scalar.specs.Quoted.{raw, Closes}
use Rattle.lf_scalar.proofs.Characters.{byte_lies}
use Rattle.lf_scalar.proofs.Parts.{utf8-behind, blank-low, after-blanks-part, after-spaces-part}
use Rattle.lf_scalar.proofs.QuotedTexts.{quote-low}
use Rattle.lf_scalar.proofs.Rising.{rises-le, rises-low}
use Rattle.lf_scalar.proofs.Utf8Lines.{lines-utf8}
use Rattle.lf_scalar.proofs.Within.{rises_high}
use Rattle.lf_yaml.specs.Rows.{ContentRow, text_of, is_mark, headed, content_row, rows_of}
use Rattle.lf_yaml.specs.Heads.{Key}
use Rattle.lf_yaml.specs.Tree.{Tree, Items, Entries}
use Rattle.lf_yaml.specs.Flow.{lines_on, line_on, lines_below, Next, at_part, broken, on_line, next_part, next_on, is_flow_sign, sign_fault, FlowScalar, FlowScalarBreaks, SequenceIn, SequenceBreaks, FlowKey, NoSign, FlowKeyBreaks, FlowValue, FlowValueBreaks, FlowEntry, MappingIn, MappingBreaks}
use Rattle.lf_yaml.specs.Flow as flow
use Rattle.lf_yaml.specs.Insides.{ScalarInside, Inside, ItemsInside, EntriesInside}
use Rattle.lf_yaml.proofs.FlowLines.{InFile, LinesInFile, left-boundary, lines-here, lines-rise-here}
use Rattle.lf_yaml.proofs.FlowKeys.{split-source, key-within}
use Rattle.lf_yaml.proofs.FlowParts.{part-bounds, part-within, ascii-boundary, scalar-within, scalar-boundary}
use Rattle.lf_yaml.proofs.InsideRows.{AreRowsIn, rows_low, rows_in, first_lies, indent_lies, source_utf8}
use Rattle.lf_yaml.proofs.InsideScalars.{LeftIn, split_sign, flow_scalar_in, flow_scalar_lies, flow_key_from, escape_lies, part_lies, no_part_lies, no_sign_lies, empty_inside}
use Rattle.lf_yaml.proofs.PartPlaces.{first-utf8}
use Rattle.lf_laws.proofs.Members.{all_front, all_back}

-- ---- the next part: its line's cells are those of the file

abbrev AreIn : List ℕ → List Cell → Type 0
AreIn bytes cs = AllByRecursion (InFile bytes) cs

-- the cells of the first of some rows are those of the file
abbrev FirstIn : List ℕ → List ContentRow → Type 0
FirstIn bytes [] = Unit {0}
FirstIn bytes (r ∷ rs) = AreIn bytes (text_of r)

row_first : (bytes : List ℕ) (l : Line) (rs : List ContentRow) → AreIn bytes l.text → FirstIn bytes rs → FirstIn bytes (content_row l ++ rs)
row_first bytes l rs are below = by (begins_with 35 (after_spaces l.text)) (after_spaces l.text) rest
  where
    rest : AreIn bytes (after_spaces l.text)
    rest = let p = after-spaces-part l.text in all_front (InFile bytes) (after_spaces l.text) p.back (all_back (InFile bytes) p.front (after_spaces l.text ++ p.back) (subst (AreIn bytes) p.source are))

    by : (b : Bool) (cs : List Cell) → AreIn bytes cs → FirstIn bytes (cond b [] (headed (start_of l) cs) ++ rs)
    by true cs h = below
    by false [] h = below
    by false (c ∷ cs) h = h

rows_first : (bytes : List ℕ) (ls : List Line) → LinesInFile bytes ls → FirstIn bytes (rows_of ls)
unfolding rows_of
rows_first bytes [] h = tt
rows_first bytes (l ∷ ls) h = row_first bytes l (rows_of ls) h.0.0 (rows_first bytes ls h.1)

abbrev NextAre : List ℕ → Next → Type 0
NextAre bytes (broken f) = Unit {0}
NextAre bytes (at_part c cs) = AreIn bytes (c ∷ cs)

on_line_are : (bytes : List ℕ) (end : ℕ) (rs : List ContentRow) → FirstIn bytes rs → NextAre bytes (on_line end rs)
on_line_are bytes end [] h = tt
on_line_are bytes end (r ∷ rs) h =
    elim (cases_Bool (eqb r.first.byte 9)) [
      | inl a ↦ rw a tt
      | inr a ↦ elim (cases_Bool (is_mark r)) [
        | inl b ↦ rw (a, b) tt
        | inr b ↦ rw (a, b) h
      ]
    ]

next_are : (bytes : List ℕ) (end : ℕ) (blank : Bool) (cs : List Cell) (rs : List ContentRow) → AreIn bytes cs → FirstIn bytes rs → NextAre bytes (next_part end blank cs rs)
unfolding next_part
next_are bytes end blank [] rs are first = on_line_are bytes end rs first
next_are bytes end blank (c ∷ cs) rs are first =
    elim (cases_Bool (is_blank c)) [
      | inl a ↦ rw a (next_are bytes end true cs rs are.1 first)
      | inr a ↦ elim (cases_Bool (blank && eqb c.byte 35)) [
        | inl b ↦ rw (a, b) (on_line_are bytes end rs first)
        | inr b ↦ rw (a, b) are
      ]
    ]

pub part_are : (bytes : List ℕ) (at : ℕ) (c : Cell) (cs : List Cell) → next_on bytes at ≡ at_part c cs → AreIn bytes (c ∷ cs)
unfolding next_on
part_are bytes at c cs e =
    let are = lines-here bytes at in
    subst (NextAre bytes) e (next_are bytes (length bytes) false (line_on bytes at).text (rows_of (lines_below bytes at)) are.0.0 (rows_first bytes (lines_below bytes at) are.1))

-- ---- and it lies in the file

-- a part begins at an offset or later, and so does its line; or what is broken lies in the file
abbrev pub NextIn : ℕ → ℕ → Next → Type 0
NextIn n lo (broken f) = LiesIn n f.span
NextIn n lo (at_part c cs) = (lo ≤ c.at) × LeftIn n c.at (c ∷ cs)

on_line_in : (n lo : ℕ) (rs : List ContentRow) → AreRowsIn n lo rs → NextIn n lo (on_line n rs)
on_line_in n lo [] h = (omega arith, omega arith)
on_line_in n lo (r ∷ rs) h =
    elim (cases_Bool (eqb r.first.byte 9)) [
      | inl a ↦ rw a (rw a at (indent_lies n lo h.0 r h.1 h.2))
      | inr a ↦ elim (cases_Bool (is_mark r)) [
        | inl b ↦ rw (a, b) (first_lies n lo h.0 r h.1 h.2 LeftOut)
        | inr b ↦ rw (a, b) (h.1.low, (rises_high r.first.at (text_of r) h.0 n h.2 h.1.rises, h.1.utf8))
      ]
    ]

pub next_in : (n : ℕ) (blank : Bool) (lo : ℕ) (cs : List Cell) (rs : List ContentRow) → LeftIn n lo cs → AreRowsIn n lo rs → NextIn n lo (next_part n blank cs rs)
unfolding next_part
next_in n blank lo [] rs h rows = on_line_in n lo rs rows
next_in n blank lo (c ∷ cs) rs h rows =
    elim (cases_Bool (is_blank c)) [
      | inl a ↦ rw a (next_in n true lo cs rs (rises-low (suc c.at) lo cs n (let low = h.0.0 in omega (arith, low)) h.0.1, utf8-behind [] c cs h.1 (blank-low c a)) rows)
      | inr a ↦ elim (cases_Bool (blank && eqb c.byte 35)) [
        | inl b ↦ rw (a, b) (on_line_in n lo rs rows)
        | inr b ↦ rw (a, b) (h.0.0, ((omega arith, h.0.1), h.1))
      ]
    ]

-- the sign of a key is a cell of its line
key-cell : (bytes : List ℕ) (c : Cell) (cs : List Cell) (k : Key) (colon : Cell) → FlowKey c cs k colon → AreIn bytes (c ∷ cs) → InFile bytes colon × (colon.byte ≡ 58)
key-cell bytes c cs _ _ (flow.FlowKey.quoted {rest = rest} {colon = colon} kind between e s near) are =
    let all : AreIn bytes ((flat_map raw between.raws ++ between.closing ∷ []) ++ between.rest) =
    subst (AreIn bytes) (between.source ∙ sym (append_assoc (flat_map raw between.raws) (between.closing ∷ []) between.rest)) are.1 in
    let behind : AreIn bytes between.rest = all_back (InFile bytes) (flat_map raw between.raws ++ between.closing ∷ []) between.rest all in
    let p = after-blanks-part between.rest in
    let sign : AreIn bytes (after_blanks between.rest) = all_front (InFile bytes) (after_blanks between.rest) p.back (all_back (InFile bytes) p.front (after_blanks between.rest ++ p.back) (subst (AreIn bytes) p.source behind)) in
    let cut : AreIn bytes (colon ∷ rest) = subst (AreIn bytes) s.0 sign in
    (cut.0, s.1)
key-cell bytes c cs _ _ (flow.FlowKey.bare {front = front} {rest = rest} {colon = colon} p e n) are =
    ((all_back (InFile bytes) (c ∷ front) (colon ∷ rest) (subst (AreIn bytes) (split-source is_flow_sign before_blank (c ∷ cs) (c ∷ front, (colon, rest)) e) are)).0, split_sign is_flow_sign before_blank (c ∷ cs) (c ∷ front, (colon, rest)) e)

-- so is the quote that closes
closing-cell : (bytes : List ℕ) (kind : Quotes) (c : Cell) (cs : List Cell) (between : Closes kind cs) → AreIn bytes (c ∷ cs) → InFile bytes between.closing
closing-cell bytes kind c cs between are = (all_back (InFile bytes) (flat_map raw between.raws) (between.closing ∷ between.rest) (subst (AreIn bytes) between.source are.1)).0

no-sign-boundary : (bytes : List ℕ) (c : Cell) (cs : List Cell) (after : ℕ) → IsUtf8 bytes → NoSign bytes c cs after → AreIn bytes (c ∷ cs) → IsCharBoundary bytes after
no-sign-boundary bytes c cs _ utf8 (flow.NoSign.quoted kind between v q b none) are = ascii-boundary bytes between.closing utf8 (closing-cell bytes kind c cs between are) (quote-low kind between.closing between.closes)
no-sign-boundary bytes c cs _ utf8 (flow.NoSign.bare p e) are = left-boundary bytes (line_on bytes c.at) (lines-here bytes c.at).0

-- ---- where a collection is read on

module _ (bytes : List ℕ) where
  abbrev n : ℕ
  n = length bytes

  -- ---- what is read lies in the file

  -- a scalar behind an offset
  scalar_in : (at : ℕ) (c : Cell) (cs : List Cell) (v : Value) (after : ℕ) → next_on bytes at ≡ at_part c cs → FlowScalar bytes c cs v after → ScalarInside n v × (at ≤ after)
  scalar_in at c cs v after e s =
      let k = part-within bytes at c cs e in
      let w = scalar-within bytes c cs v after k.1 s in
      let low = k.0 in
      ((flow_scalar_in bytes c cs v after s k.1).0, omega (arith, low, w.0))

  -- the bracket that closes
  abbrev pub ClosedIn : ℕ → Cell → Type 0
  ClosedIn lo closing = (lo ≤ closing.at) × (suc closing.at ≤ n)

  pub sequence_in : (at : ℕ) (is : Items) (closing : Cell) → SequenceIn bytes at is closing → ItemsInside n is × ClosedIn at closing
  sequence_in at _ closing (flow.SequenceIn.closes {cs = cs} e b) = (tt, part-within bytes at closing cs e)
  sequence_in at _ closing (flow.SequenceIn.last {after = after} {c = c} {cs = cs} {ds = ds} {v = v} e s g b) =
      let x = scalar_in at c cs v after e s in
      let w = part-within bytes after closing ds g in
      let from = w.0 in
      ((x.0, tt), (omega (arith, x.1, from), w.1))
  sequence_in at _ closing (flow.SequenceIn.more {after = after} {c = c} {comma = comma} {cs = cs} {ds = ds} {v = v} {is = is} e s g b later) =
      let x = scalar_in at c cs v after e s in
      let w = part-within bytes after comma ds g in
      let from = w.0 in
      let k = sequence_in (suc comma.at) is closing later in
      let low = k.1.0 in
      ((x.0, k.0), (omega (arith, x.1, from, low), k.1.1))

  value_in : (colon : Cell) (t : Tree) (after : ℕ) → FlowValue bytes colon t after → suc colon.at ≤ n → Inside n t × (suc colon.at ≤ after)
  value_in colon _ _ (flow.FlowValue.missing e b) le = (empty_inside n (suc colon.at) le, omega arith)
  value_in colon _ after (flow.FlowValue.scalar {c = c} {cs = cs} {v = v} e s) le = scalar_in (suc colon.at) c cs v after e s

  entry_in : (keys : List (List ℕ)) (at : ℕ) (v : Value) (t : Tree) (after : ℕ) → FlowEntry bytes keys at v t after → ScalarInside n v × Inside n t × (at ≤ after)
  entry_in keys at v t after e =
      let p = part-bounds bytes at e.first e.more e.part in
      let w = key-within n e.first e.more e.key e.colon e.is_key p.1 in
      let k = flow_key_from n e.first e.more e.key e.colon v e.is_key p.1 e.key_value in
      let x = value_in e.colon t after e.value w.1 in
      let low = p.0 in
      let on = w.0 in
      (k.0, x.0, omega (arith, low, on, x.1))

  pub mapping_in : (keys : List (List ℕ)) (at : ℕ) (es : Entries) (closing : Cell) → MappingIn bytes keys at es closing → EntriesInside n es × ClosedIn at closing
  mapping_in keys at _ closing (flow.MappingIn.closes {cs = cs} ks e b) = (tt, part-within bytes at closing cs e)
  mapping_in keys at _ closing (flow.MappingIn.last {after = after} {cs = cs} {v = v} {t = t} e g b) =
      let x = entry_in keys at v t after e in
      let w = part-within bytes after closing cs g in
      let from = w.0 in
      ((x.0, x.1, tt), (omega (arith, x.2, from), w.1))
  mapping_in keys at _ closing (flow.MappingIn.more {after = after} {comma = comma} {cs = cs} {v = v} {t = t} {es = es} e g b later) =
      let x = entry_in keys at v t after e in
      let w = part-within bytes after comma cs g in
      let from = w.0 in
      let k = mapping_in (keys ++ v.text ∷ []) (suc comma.at) es closing later in
      let low = k.1.0 in
      ((x.0, x.1, k.0), (omega (arith, x.2, from, low), k.1.1))

  -- ---- what breaks it lies in the file

  module _ (utf8 : IsUtf8 bytes) where
    pub line_in : (at : ℕ) → IsCharBoundary bytes at → LeftIn n at (line_on bytes at).text
    line_in at b =
        let le : at ≤ n = b.0 in
        let r = lines-rise-here bytes at le in
        let u = first-utf8 n (lines_on bytes at) (lines-utf8 (suc (length (source_at bytes at))) n (source_at bytes at) (omega arith) (source_utf8 bytes utf8 at b)) in
        (rises_high at (line_on bytes at).text (line_on bytes at).break n r.1 r.0, u.0)

    next_here : (at : ℕ) → IsCharBoundary bytes at → NextIn n at (next_on bytes at)
    unfolding next_on
    next_here at b =
        let le : at ≤ n = b.0 in
        let r = lines-rise-here bytes at le in
        let u = first-utf8 n (lines_on bytes at) (lines-utf8 (suc (length (source_at bytes at))) n (source_at bytes at) (omega arith) (source_utf8 bytes utf8 at b)) in
        let low = rises-le at (line_on bytes at).text (line_on bytes at).break r.0 in
        next_in n false at (line_on bytes at).text (rows_of (lines_below bytes at)) (line_in at b)
        (rows_low n (suc (line_on bytes at).break) at (rows_of (lines_below bytes at)) (omega (arith, low)) (rows_in n (suc (line_on bytes at).break) (lines_below bytes at) u.1 r.2))

    part_in : (at : ℕ) (c : Cell) (cs : List Cell) → IsCharBoundary bytes at → next_on bytes at ≡ at_part c cs → LeftIn n c.at (c ∷ cs)
    part_in at c cs b e = let h : NextIn n at (at_part c cs) = subst (NextIn n at) e (next_here at b) in h.1

    broken_in : (at : ℕ) (f : Fault) → IsCharBoundary bytes at → next_on bytes at ≡ broken f → LiesIn n f.span
    broken_in at f b e = subst (NextIn n at) e (next_here at b)

    wrong_in : (at : ℕ) (wrong : Cell) (cs : List Cell) → IsCharBoundary bytes at → next_on bytes at ≡ at_part wrong cs → LiesIn n (sign_fault wrong).span
    wrong_in at wrong cs b e = no_sign_lies n wrong cs (part_in at wrong cs b e)

    -- behind a sign a character begins
    behind_sign : (at : ℕ) (c : Cell) (cs : List Cell) → next_on bytes at ≡ at_part c cs → c.byte < 128 → IsCharBoundary bytes (suc c.at)
    behind_sign at c cs e low = let are = part_are bytes at c cs e in ascii-boundary bytes c utf8 are.0 low

    scalar_lies : (at : ℕ) (c : Cell) (cs : List Cell) (f : Fault) → IsCharBoundary bytes at → next_on bytes at ≡ at_part c cs → FlowScalarBreaks bytes c cs f → LiesIn n f.span
    scalar_lies at c cs f b e h = let are = part_are bytes at c cs e in flow_scalar_lies bytes c cs f utf8 h (part_in at c cs b e) are.0

    -- behind the bracket that closes too
    pub sequence_behind : (at : ℕ) (is : Items) (closing : Cell) → SequenceIn bytes at is closing → IsCharBoundary bytes (suc closing.at)
    sequence_behind at _ closing (flow.SequenceIn.closes {cs = cs} e b) = behind_sign at closing cs e (omega (arith, b))
    sequence_behind at _ closing (flow.SequenceIn.last {after = after} {ds = ds} e s g b) = behind_sign after closing ds g (omega (arith, b))
    sequence_behind at _ closing (flow.SequenceIn.more {comma = comma} {is = is} e s g b later) = sequence_behind (suc comma.at) is closing later

    pub sequence_lies : (at : ℕ) (f : Fault) → SequenceBreaks bytes at f → IsCharBoundary bytes at → LiesIn n f.span
    sequence_lies at f (flow.SequenceBreaks.no_part e) start = broken_in at f start e
    sequence_lies at f (flow.SequenceBreaks.scalar {c = c} {cs = cs} e other b) start = scalar_lies at c cs f start e b
    sequence_lies at f (flow.SequenceBreaks.no_sign {after = after} {c = c} {cs = cs} {v = v} e s g) start = broken_in after f (scalar-boundary bytes c cs v after utf8 s) g
    sequence_lies at _ (flow.SequenceBreaks.sign {after = after} {c = c} {wrong = wrong} {cs = cs} {ds = ds} {v = v} e s g a b) start = wrong_in after wrong ds (scalar-boundary bytes c cs v after utf8 s) g
    sequence_lies at f (flow.SequenceBreaks.later {after = after} {comma = comma} {ds = ds} e s g b more) start = sequence_lies (suc comma.at) f more (behind_sign after comma ds g (omega (arith, b)))

    -- behind the `:` of a key
    key_behind : (at : ℕ) (c : Cell) (cs : List Cell) (k : Key) (colon : Cell) → next_on bytes at ≡ at_part c cs → FlowKey c cs k colon → IsCharBoundary bytes (suc colon.at)
    key_behind at c cs k colon e h = let x = key-cell bytes c cs k colon h (part_are bytes at c cs e) in let sign = x.1 in ascii-boundary bytes colon utf8 x.0 (omega (arith, sign))

    value_behind : (colon : Cell) (t : Tree) (after : ℕ) → FlowValue bytes colon t after → IsCharBoundary bytes (suc colon.at) → IsCharBoundary bytes after
    value_behind colon _ _ (flow.FlowValue.missing e b) start = start
    value_behind colon _ after (flow.FlowValue.scalar {c = c} {cs = cs} {v = v} e s) start = scalar-boundary bytes c cs v after utf8 s

    entry_behind : (keys : List (List ℕ)) (at : ℕ) (v : Value) (t : Tree) (after : ℕ) → FlowEntry bytes keys at v t after → IsCharBoundary bytes after
    entry_behind keys at v t after e = value_behind e.colon t after e.value (key_behind at e.first e.more e.key e.colon e.part e.is_key)

    value_lies : (colon : Cell) (f : Fault) → FlowValueBreaks bytes colon f → IsCharBoundary bytes (suc colon.at) → LiesIn n f.span
    value_lies colon f (flow.FlowValueBreaks.no_part e) start = broken_in (suc colon.at) f start e
    value_lies colon f (flow.FlowValueBreaks.scalar {c = c} {cs = cs} e other b) start = scalar_lies (suc colon.at) c cs f start e b

    key_lies : (at : ℕ) (c : Cell) (cs : List Cell) (f : Fault) → FlowKeyBreaks bytes c cs f → IsCharBoundary bytes at → next_on bytes at ≡ at_part c cs → LiesIn n f.span
    key_lies at c cs _ (flow.FlowKeyBreaks.no_key e) start is = no_part_lies n c cs (part_in at c cs start is)
    key_lies at c cs _ (flow.FlowKeyBreaks.key_left_out p e b) start is = part_lies n c cs (part_in at c cs start is) LeftOut
    key_lies at c cs _ (flow.FlowKeyBreaks.open_quote o) start is = byte_lies c.at n (part-within bytes at c cs is).1
    key_lies at c cs _ (flow.FlowKeyBreaks.quoted_left_out kind between q s far) start is = part_lies n c cs (part_in at c cs start is) LeftOut
    key_lies at c cs f (flow.FlowKeyBreaks.escape kind q b near) start is = let p = part_in at c cs start is in escape_lies n kind c cs f p.0 p.1 q b
    key_lies at c cs f (flow.FlowKeyBreaks.no_part {after = after} s e) start is = broken_in after f (no-sign-boundary bytes c cs after utf8 s (part_are bytes at c cs is)) e
    key_lies at c cs _ (flow.FlowKeyBreaks.no_sign {after = after} {wrong = wrong} {ds = ds} s e) start is = wrong_in after wrong ds (no-sign-boundary bytes c cs after utf8 s (part_are bytes at c cs is)) e

    pub mapping_behind : (keys : List (List ℕ)) (at : ℕ) (es : Entries) (closing : Cell) → MappingIn bytes keys at es closing → IsCharBoundary bytes (suc closing.at)
    mapping_behind keys at _ closing (flow.MappingIn.closes {cs = cs} ks e b) = behind_sign at closing cs e (omega (arith, b))
    mapping_behind keys at _ closing (flow.MappingIn.last {after = after} {cs = cs} e g b) = behind_sign after closing cs g (omega (arith, b))
    mapping_behind keys at _ closing (flow.MappingIn.more {comma = comma} {v = v} {es = es} e g b later) = mapping_behind (keys ++ v.text ∷ []) (suc comma.at) es closing later

    pub mapping_lies : (keys : List (List ℕ)) (at : ℕ) (f : Fault) → MappingBreaks bytes keys at f → IsCharBoundary bytes at → LiesIn n f.span
    mapping_lies keys at f (flow.MappingBreaks.no_part ks e) start = broken_in at f start e
    mapping_lies keys at f (flow.MappingBreaks.key {c = c} {cs = cs} ks e other b) start = key_lies at c cs f b start e
    mapping_lies keys at _ (flow.MappingBreaks.twice {c = c} {colon = colon} {cs = cs} {k = k} v e s i there) start =
        let p = part-bounds bytes at c cs e in
        (flow_key_from n c cs k colon v s p.1 i).0.0
    mapping_lies keys at f (flow.MappingBreaks.value {c = c} {colon = colon} {cs = cs} {k = k} v e s i new b) start = value_lies colon f b (key_behind at c cs k colon e s)
    mapping_lies keys at f (flow.MappingBreaks.no_sign {after = after} {v = v} {t = t} e g) start = broken_in after f (entry_behind keys at v t after e) g
    mapping_lies keys at _ (flow.MappingBreaks.sign {after = after} {wrong = wrong} {cs = cs} {v = v} {t = t} e g a b) start = wrong_in after wrong cs (entry_behind keys at v t after e) g
    mapping_lies keys at f (flow.MappingBreaks.later {after = after} {comma = comma} {cs = cs} {v = v} {t = t} e g b more) start =
        mapping_lies (keys ++ v.text ∷ []) (suc comma.at) f more (behind_sign after comma cs g (omega (arith, b)))
