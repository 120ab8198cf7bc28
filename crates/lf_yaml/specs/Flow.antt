-- Flow collections: `[` scalars `]` and `{` entries `}`, on one line or over several.
use Rattle.std.specs.Prelude.{◌≡◌, ◌≢◌, ℕ, suc, List, [], ◌∷◌, ◌++◌, length, drop, take_while, Bool, true, false, not, Option, Some, None, ◌⊎◌, ◌==◌, ◌&&◌, ◌||◌, codes, if◌then◌else◌, Contains}
use Rattle.std.specs.List.{list_all}
use Rattle.lf_base.specs.declared.kind.Kind.TheVariants.{OpenQuote, LeftOut, DoubleKey, NotANode}
use Rattle.lf_base.specs.declared.fault.Fault.{Fault}
use Rattle.lf_base.specs.Faults.{span, fault}
use Rattle.lf_scalar.specs.Cells.{Cell, Value, byte_fault, character_fault}
use Rattle.lf_scalar.specs.Lines.{Line, line, lines, start_of, is_empty_text, is_blank, after_blanks, after_spaces}
use Rattle.lf_scalar.specs.Block.{begins_blank}
use Rattle.lf_scalar.specs.Folding.{fold, trimmed}
use Rattle.lf_scalar.specs.Plain.{before_blank, before_comment, is_plain_byte, value_of}
use Rattle.lf_scalar.specs.Scalars.{source_at}
use Rattle.lf_scalar.specs.declared.quotes.Quotes.{Quotes}
use Rattle.lf_scalar.specs.Quoted.{quote_of, Closes}
use Rattle.lf_yaml.specs.Keys.{is_too_far, before_offset, is_key_left_out}
use Rattle.lf_yaml.specs.Rows.{ContentRow, is_one_of, is_mark, indent_fault, content_row, rows_of}
use Rattle.lf_yaml.specs.Heads.{key_in, Key, Bare, Between, IsBetween, BetweenBreaks, IsKey, IsSignBehind, OpensQuote}
use Rattle.lf_yaml.specs.Tree.{Tree, leaf, Items, no_items, item, Entries, no_entries, entry}
use Rattle.lf_yaml.specs.Spans.{empty_at}

-- ---- the lines of a file from an offset on

abbrev pub first_line : ℕ → List Line → Line
first_line end [] = line [] end
first_line end (l ∷ ls) = l

abbrev pub later_lines : List Line → List Line
later_lines [] = []
later_lines (l ∷ ls) = ls

-- the rest of the line at an offset of a file, and the lines behind it
abbrev pub lines_on : List ℕ → ℕ → List Line
lines_on bytes at = lines (length bytes) (source_at bytes at)

abbrev pub line_on : List ℕ → ℕ → Line
line_on bytes at = first_line (length bytes) (lines_on bytes at)

abbrev pub lines_below : List ℕ → ℕ → List Line
lines_below bytes at = later_lines (lines_on bytes at)

-- ---- the next part

-- Where the next part of a flow collection begins: its first cell, and the cells behind it on its line. Or what is broken before it.
pub data Next : Type 0 where
  at_part : Cell → List Cell → Next
  broken : Fault → Next

-- On a later line, which may have any indent, it begins at the first character, if that is no tab and begins no mark. The file doesn't end before it.
abbrev pub on_line : ℕ → List ContentRow → Next
on_line end [] = broken (fault NotANode (span end end))
on_line end (r ∷ rs) =
    if r.first.byte == 9 then broken (indent_fault r)
    else if is_mark r then broken (character_fault LeftOut r.first)
    else at_part r.first r.rest

-- Behind some cells of a line: blanks are skipped, and a comment, whose `#` stands behind a blank. The flag says that a blank stands before these cells.
unfoldable pub next_part : ℕ → Bool → List Cell → List ContentRow → Next
next_part end blank [] rs = on_line end rs
next_part end blank (c ∷ cs) rs =
    if is_blank c then next_part end true cs rs
    else if blank && (c.byte == 35) then on_line end rs
    else at_part c cs

-- the next part from an offset of a file on
unfoldable pub next_on : List ℕ → ℕ → Next
next_on bytes at = next_part (length bytes) false (line_on bytes at).text (rows_of (lines_below bytes at))

-- ---- texts of plain scalars

-- one of , [ ] { }, which end a text of a flow collection, and ?, which none has
abbrev pub is_flow_sign : Cell → Bool
is_flow_sign c = is_one_of (codes ",[]{}?") c

abbrev pub is_bracket : Cell → Bool
is_bracket c = is_one_of (codes "[{") c

-- As a plain scalar begins elsewhere, but for `?` and `:`.
abbrev pub begins_flow : Cell → List Cell → Bool
begins_flow c cs = is_plain_byte c || ((c.byte == 45) && not (before_blank cs))

-- a plain scalar's text ends before a comment, before one of these signs, and before the blanks there
abbrev pub flow_text : List Cell → List Cell
flow_text cs = trimmed is_blank (before_comment (take_while (λ c. not (is_flow_sign c)) cs))

abbrev pub behind_text : List Cell → List Cell
behind_text cs = drop (length (flow_text cs)) cs

-- the first `:` of a text before a blank or the line's end, with what stands behind the text
abbrev pub colon_in : List Cell → List Cell → Option Cell
colon_in [] behind = None
colon_in (c ∷ text) behind = if (c.byte == 58) && before_blank (text ++ behind) then Some c else colon_in text behind

-- what a line of a plain scalar gives, behind its first blanks; what stands behind that; and a `:` in it that ends a key
abbrev pub line_text : Line → List Cell
line_text l = flow_text (after_blanks l.text)

abbrev pub line_left : Line → List Cell
line_left l = behind_text (after_blanks l.text)

abbrev pub line_colon : Line → Option Cell
line_colon l = colon_in (line_text l) (line_left l)

-- nothing but blanks is left of a line: neither a sign nor a comment
abbrev pub is_bare : Line → Bool
is_bare l = list_all is_blank (line_left l)

-- a line of spaces alone
abbrev pub is_spaces : Line → Bool
is_spaces l = is_empty_text (after_spaces l.text)

-- A line goes on with a plain scalar: it is a row, and its first character is no tab, no sign of flow collections, and begins no mark.
abbrev pub goes_on : List ContentRow → Bool
goes_on [] = false
goes_on (r ∷ rs) = not (r.first.byte == 9) && (not (is_flow_sign r.first) && not (is_mark r))

-- Behind lines of spaces, counted from a number on, such a line, and the lines behind it. A comment line is none.
abbrev pub Onward : Type 0
Onward = ℕ × Line × List Line

unfoldable pub onward : ℕ → List Line → Option Onward
onward k [] = None
onward k (l ∷ ls) =
    if is_spaces l then onward (suc k) ls
    else if goes_on (content_row l) then Some (k, l, ls)
    else None

-- the line that goes on with a scalar behind one of its lines
abbrev pub following : Line → List Line → Option Onward
following l ls = if is_bare l then onward 0 ls else None

-- where the collection is read on behind a scalar's last line: at what is left of it
abbrev pub left_on : Line → ℕ
left_on l = if is_bare l then l.break else start_of (line (line_left l) l.break)

-- `PlainFrom l ls text after`: a plain scalar whose line l stands before the lines ls has this text from l on, its lines folded; the collection is read on at the offset `after`.
pub data PlainFrom : Line → List Line → List Cell → ℕ → Type 0 where
  last : {l : Line} {ls : List Line} → line_colon l ≡ None → following l ls ≡ None → PlainFrom l ls (line_text l) (left_on l)
  more : {l next : Line} {ls later : List Line} {k after : ℕ} {text : List Cell} → line_colon l ≡ None → following l ls ≡ Some (k, next, later) → PlainFrom next later text after
      → PlainFrom l ls (line_text l ++ (fold l.break k ++ text)) after

-- what breaks such a scalar from l on: a `:` before a blank or the line's end, there or on a later line
pub data PlainBreaks : Line → List Line → Fault → Type 0 where
  colon : {l : Line} {c : Cell} (ls : List Line) → line_colon l ≡ Some c → PlainBreaks l ls (byte_fault NotANode c.at)
  later : {l next : Line} {ls later : List Line} {k : ℕ} {f : Fault} → line_colon l ≡ None → following l ls ≡ Some (k, next, later) → PlainBreaks next later f → PlainBreaks l ls f

-- ---- scalars: between quotes or plain, each on one line or over several

-- `FlowScalar bytes c cs v after`: a scalar begins with the cell c, which the cells cs follow on its line; the collection is read on at the offset `after`.
pub data FlowScalar (bytes : List ℕ) (c : Cell) (cs : List Cell) : Value → ℕ → Type 0 where
  quoted : {v : Value} (kind : Quotes) (between : Closes kind (source_at bytes (suc c.at))) → c.byte ≡ quote_of kind → IsBetween kind c (source_at bytes (suc c.at)) between v → FlowScalar bytes c cs v (suc between.closing.at)
  plain : {text : List Cell} {after : ℕ} → begins_flow c cs ≡ true → PlainFrom (line_on bytes c.at) (lines_below bytes c.at) text after → FlowScalar bytes c cs (value_of c text) after

-- a quote, or a character with which a plain scalar begins
abbrev pub begins_part : Cell → List Cell → Bool
begins_part c cs = (c.byte == 39) || ((c.byte == 34) || begins_flow c cs)

-- an anchor, an alias, a tag, or a `?` before a blank
abbrev pub is_flow_property : Cell → List Cell → Bool
is_flow_property c cs = is_one_of (codes "&*!") c || ((c.byte == 63) && begins_blank cs)

-- what is told of a part where a scalar or a key is wanted that can't begin one
abbrev pub part_fault : Cell → List Cell → Fault
part_fault c cs = if is_bracket c || is_flow_property c cs then character_fault LeftOut c else character_fault NotANode c

-- what is told of a part where a sign is wanted
abbrev pub sign_fault : Cell → Fault
sign_fault c = if is_bracket c then character_fault LeftOut c else character_fault NotANode c

-- what breaks a scalar that begins with a cell
pub data FlowScalarBreaks (bytes : List ℕ) (c : Cell) (cs : List Cell) : Fault → Type 0 where
  no_scalar : begins_part c cs ≡ false → FlowScalarBreaks bytes c cs (part_fault c cs)
  open_quote : OpensQuote c (source_at bytes (suc c.at)) → FlowScalarBreaks bytes c cs (byte_fault OpenQuote c.at)
  inside : {f : Fault} (kind : Quotes) → c.byte ≡ quote_of kind → BetweenBreaks kind c (source_at bytes (suc c.at)) f → FlowScalarBreaks bytes c cs f
  plain_lines : {f : Fault} → begins_flow c cs ≡ true → PlainBreaks (line_on bytes c.at) (lines_below bytes c.at) f → FlowScalarBreaks bytes c cs f

-- ---- sequences

-- `SequenceIn bytes at is closing`: behind a `[` or a comma, from the offset `at` on, stand these items and the bracket that closes.
pub data SequenceIn (bytes : List ℕ) : ℕ → Items → Cell → Type 0 where
  closes : {at : ℕ} {closing : Cell} {cs : List Cell} → next_on bytes at ≡ at_part closing cs → closing.byte ≡ 93 → SequenceIn bytes at no_items closing
  last : {at after : ℕ} {c closing : Cell} {cs ds : List Cell} {v : Value} → next_on bytes at ≡ at_part c cs → FlowScalar bytes c cs v after
      → next_on bytes after ≡ at_part closing ds → closing.byte ≡ 93 → SequenceIn bytes at (item (leaf v) no_items) closing
  more : {at after : ℕ} {c comma closing : Cell} {cs ds : List Cell} {v : Value} {is : Items} → next_on bytes at ≡ at_part c cs → FlowScalar bytes c cs v after
      → next_on bytes after ≡ at_part comma ds → comma.byte ≡ 44 → SequenceIn bytes (suc comma.at) is closing → SequenceIn bytes at (item (leaf v) is) closing

-- What breaks such items: no part follows, a part is no scalar and doesn't close, or a scalar is broken; no part follows it, or one that is no comma and doesn't close.
pub data SequenceBreaks (bytes : List ℕ) : ℕ → Fault → Type 0 where
  no_part : {at : ℕ} {f : Fault} → next_on bytes at ≡ broken f → SequenceBreaks bytes at f
  scalar : {at : ℕ} {c : Cell} {cs : List Cell} {f : Fault} → next_on bytes at ≡ at_part c cs → c.byte ≢ 93 → FlowScalarBreaks bytes c cs f → SequenceBreaks bytes at f
  no_sign : {at after : ℕ} {c : Cell} {cs : List Cell} {v : Value} {f : Fault} → next_on bytes at ≡ at_part c cs → FlowScalar bytes c cs v after → next_on bytes after ≡ broken f → SequenceBreaks bytes at f
  sign : {at after : ℕ} {c wrong : Cell} {cs ds : List Cell} {v : Value} → next_on bytes at ≡ at_part c cs → FlowScalar bytes c cs v after
      → next_on bytes after ≡ at_part wrong ds → wrong.byte ≢ 44 → wrong.byte ≢ 93 → SequenceBreaks bytes at (sign_fault wrong)
  later : {at after : ℕ} {c comma : Cell} {cs ds : List Cell} {v : Value} {f : Fault} → next_on bytes at ≡ at_part c cs → FlowScalar bytes c cs v after
      → next_on bytes after ≡ at_part comma ds → comma.byte ≡ 44 → SequenceBreaks bytes (suc comma.at) f → SequenceBreaks bytes at f

-- ---- mappings

-- `FlowKey c cs k colon`: the key k begins with the cell c, which the cells cs follow on its line, and there its `:` stands, and not too far.
pub data FlowKey (c : Cell) (cs : List Cell) : Key → Cell → Type 0 where
  quoted : {rest : List Cell} {colon : Cell} (kind : Quotes) (between : Closes kind cs) → c.byte ≡ quote_of kind → IsSignBehind between.rest colon rest → is_too_far (before_offset colon.at (c ∷ cs)) ≡ false → FlowKey c cs (Between kind) colon
  bare : {front rest : List Cell} {colon : Cell} → begins_flow c cs ≡ true → key_in is_flow_sign before_blank (c ∷ cs) ≡ Some (c ∷ front, (colon, rest)) → is_key_left_out (c ∷ front) ≡ false → FlowKey c cs (Bare (trimmed is_blank (c ∷ front))) colon

-- `NoSign bytes c cs after`: a text where a key is wanted, behind which no `:` stands on its line that ends one; the mapping is read on at the offset `after`.
pub data NoSign (bytes : List ℕ) (c : Cell) (cs : List Cell) : ℕ → Type 0 where
  quoted : (kind : Quotes) (between : Closes kind cs) (v : Value) → c.byte ≡ quote_of kind → IsBetween kind c cs between v → ((colon : Cell) (rest : List Cell) → IsSignBehind between.rest colon rest → ⊥) → NoSign bytes c cs (suc between.closing.at)
  bare : begins_flow c cs ≡ true → key_in is_flow_sign before_blank (c ∷ cs) ≡ None → NoSign bytes c cs (left_on (line_on bytes c.at))

-- no `:` stands too far behind a key between quotes
abbrev pub NoneFar : {kind : Quotes} → Cell → (cs : List Cell) → Closes kind cs → Type 0
NoneFar c cs between = (colon : Cell) (rest : List Cell) → IsSignBehind between.rest colon rest → is_too_far (before_offset colon.at (c ∷ cs)) ≡ false

-- What breaks a key that begins with a cell. Some are left out, and a quote of a key closes on its line. A key between quotes whose `:` stands too far is left out whatever
-- stands between them. Where no `:` follows, that is told at the next part.
pub data FlowKeyBreaks (bytes : List ℕ) (c : Cell) (cs : List Cell) : Fault → Type 0 where
  no_key : begins_part c cs ≡ false → FlowKeyBreaks bytes c cs (part_fault c cs)
  key_left_out : {front rest : List Cell} {colon : Cell} → begins_flow c cs ≡ true → key_in is_flow_sign before_blank (c ∷ cs) ≡ Some (c ∷ front, (colon, rest)) → is_key_left_out (c ∷ front) ≡ true
      → FlowKeyBreaks bytes c cs (character_fault LeftOut c)
  open_quote : OpensQuote c cs → FlowKeyBreaks bytes c cs (byte_fault OpenQuote c.at)
  quoted_left_out : {rest : List Cell} {colon : Cell} (kind : Quotes) (between : Closes kind cs) → c.byte ≡ quote_of kind → IsSignBehind between.rest colon rest → is_too_far (before_offset colon.at (c ∷ cs)) ≡ true
      → FlowKeyBreaks bytes c cs (character_fault LeftOut c)
  escape : {f : Fault} (kind : Quotes) → c.byte ≡ quote_of kind → (b : BetweenBreaks kind c cs f) → NoneFar c cs b.0 → FlowKeyBreaks bytes c cs f
  no_part : {after : ℕ} {f : Fault} → NoSign bytes c cs after → next_on bytes after ≡ broken f → FlowKeyBreaks bytes c cs f
  no_sign : {after : ℕ} {wrong : Cell} {ds : List Cell} → NoSign bytes c cs after → next_on bytes after ≡ at_part wrong ds → FlowKeyBreaks bytes c cs (sign_fault wrong)

-- a `,` or a `}`
abbrev pub EndsValue : Cell → Type 0
EndsValue c = (c.byte ≡ 44) ⊎ (c.byte ≡ 125)

-- The value behind a `:`: nothing before a `,` or a `}`, or a scalar. Then the mapping is read on at the offset `after`.
pub data FlowValue (bytes : List ℕ) (colon : Cell) : Tree → ℕ → Type 0 where
  missing : {c : Cell} {cs : List Cell} → next_on bytes (suc colon.at) ≡ at_part c cs → EndsValue c → FlowValue bytes colon (empty_at (suc colon.at)) (suc colon.at)
  scalar : {after : ℕ} {c : Cell} {cs : List Cell} {v : Value} → next_on bytes (suc colon.at) ≡ at_part c cs → FlowScalar bytes c cs v after → FlowValue bytes colon (leaf v) after

pub data FlowValueBreaks (bytes : List ℕ) (colon : Cell) : Fault → Type 0 where
  no_part : {f : Fault} → next_on bytes (suc colon.at) ≡ broken f → FlowValueBreaks bytes colon f
  scalar : {c : Cell} {cs : List Cell} {f : Fault} → next_on bytes (suc colon.at) ≡ at_part c cs → (EndsValue c → ⊥) → FlowScalarBreaks bytes c cs f → FlowValueBreaks bytes colon f

-- `FlowEntry bytes keys at v t after`: an entry stands at the offset `at` or behind it, its key new to those before it; the mapping is read on at `after`.
pub record FlowEntry (bytes : List ℕ) (keys : List (List ℕ)) (at : ℕ) (v : Value) (t : Tree) (after : ℕ) : Type 0 where
  pub first : Cell
  pub more : List Cell
  pub part : next_on bytes at ≡ at_part first more
  pub key : Key
  pub colon : Cell
  pub is_key : FlowKey first more key colon
  pub key_value : IsKey first more key v
  pub is_new : Contains keys v.text → ⊥
  pub value : FlowValue bytes colon t after

-- the same of entries as of items
pub data MappingIn (bytes : List ℕ) : List (List ℕ) → ℕ → Entries → Cell → Type 0 where
  closes : {at : ℕ} {closing : Cell} {cs : List Cell} (keys : List (List ℕ)) → next_on bytes at ≡ at_part closing cs → closing.byte ≡ 125 → MappingIn bytes keys at no_entries closing
  last : {at after : ℕ} {closing : Cell} {cs : List Cell} {keys : List (List ℕ)} {v : Value} {t : Tree} → FlowEntry bytes keys at v t after
      → next_on bytes after ≡ at_part closing cs → closing.byte ≡ 125 → MappingIn bytes keys at (entry v t no_entries) closing
  more : {at after : ℕ} {comma closing : Cell} {cs : List Cell} {keys : List (List ℕ)} {v : Value} {t : Tree} {es : Entries} → FlowEntry bytes keys at v t after
      → next_on bytes after ≡ at_part comma cs → comma.byte ≡ 44 → MappingIn bytes (keys ++ v.text ∷ []) (suc comma.at) es closing → MappingIn bytes keys at (entry v t es) closing

pub data MappingBreaks (bytes : List ℕ) : List (List ℕ) → ℕ → Fault → Type 0 where
  no_part : {at : ℕ} {f : Fault} (keys : List (List ℕ)) → next_on bytes at ≡ broken f → MappingBreaks bytes keys at f
  key : {at : ℕ} {c : Cell} {cs : List Cell} {f : Fault} (keys : List (List ℕ)) → next_on bytes at ≡ at_part c cs → c.byte ≢ 125 → FlowKeyBreaks bytes c cs f → MappingBreaks bytes keys at f
  twice : {at : ℕ} {c colon : Cell} {cs : List Cell} {k : Key} {keys : List (List ℕ)} (v : Value) → next_on bytes at ≡ at_part c cs → FlowKey c cs k colon → IsKey c cs k v
      → Contains keys v.text → MappingBreaks bytes keys at (fault DoubleKey v.span)
  value : {at : ℕ} {c colon : Cell} {cs : List Cell} {k : Key} {f : Fault} {keys : List (List ℕ)} (v : Value) → next_on bytes at ≡ at_part c cs → FlowKey c cs k colon → IsKey c cs k v
      → (Contains keys v.text → ⊥) → FlowValueBreaks bytes colon f → MappingBreaks bytes keys at f
  no_sign : {at after : ℕ} {v : Value} {t : Tree} {f : Fault} {keys : List (List ℕ)} → FlowEntry bytes keys at v t after → next_on bytes after ≡ broken f → MappingBreaks bytes keys at f
  sign : {at after : ℕ} {wrong : Cell} {cs : List Cell} {v : Value} {t : Tree} {keys : List (List ℕ)} → FlowEntry bytes keys at v t after → next_on bytes after ≡ at_part wrong cs
      → wrong.byte ≢ 44 → wrong.byte ≢ 125 → MappingBreaks bytes keys at (sign_fault wrong)
  later : {at after : ℕ} {comma : Cell} {cs : List Cell} {v : Value} {t : Tree} {f : Fault} {keys : List (List ℕ)} → FlowEntry bytes keys at v t after → next_on bytes after ≡ at_part comma cs
      → comma.byte ≡ 44 → MappingBreaks bytes (keys ++ v.text ∷ []) (suc comma.at) f → MappingBreaks bytes keys at f
