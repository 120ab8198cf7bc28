-- Keys: where their `:` stands, and which are left out.
use Rattle.std.specs.Prelude.{ℕ, suc, nat_lt, leb, List, [], ◌∷◌, take_while, Bool, false, Option, Some, None, ◌==◌, ◌&&◌, ◌||◌, if◌then◌else◌}
use Rattle.lf_scalar.specs.declared.quotes.Quotes.{Quotes}
use Rattle.lf_scalar.specs.declared.quotes.Quotes.TheVariants.{Single, Double}
use Rattle.lf_scalar.specs.Cells.{Cell}
use Rattle.lf_scalar.specs.Lines.{is_blank, after_blanks, begins_with}
use Rattle.lf_scalar.specs.Folding.{trimmed}
use Rattle.lf_scalar.specs.Splits.{Split, behind_cell}
use Rattle.lf_scalar.specs.Plain.{before_blank, begins_plain, is_null}

-- ---- keys without quotes

-- The split at the first `:` that ends a key. None where one of some signs or a comment, whose `#` stands behind a blank, comes before such a `:`, or the line's end
-- does.
unfoldable pub key_in : (Cell → Bool) → (List Cell → Bool) → List Cell → Option Split
key_in stops ends [] = None
key_in stops ends (c ∷ cs) =
    if (c.byte == 58) && ends cs then Some ([], (c, cs))
    else if stops c then None
    else if is_blank c && begins_with 35 cs then None
    else behind_cell c (key_in stops ends cs)

-- no sign stops a key of a block mapping
abbrev pub never : Cell → Bool
never c = false

-- ---- how far a `:` may stand behind the start of its key

-- a byte that begins a character, and is no later byte of one
abbrev pub begins_character : Cell → Bool
begins_character c = nat_lt c.byte 128 || leb 192 c.byte

-- how many characters some cells have
abbrev pub characters : List Cell → ℕ
characters [] = 0
characters (c ∷ cs) = if begins_character c then suc (characters cs) else characters cs

-- A `:` stands too far where it stands more than 1,024 characters behind the first of its key, which may be a quote. These cells stand before the `:`.
abbrev pub is_too_far : List Cell → Bool
is_too_far front = nat_lt 1024 (characters front)

-- the cells of a text that stand before an offset
abbrev pub before_offset : ℕ → List Cell → List Cell
before_offset at text = take_while (λ c. nat_lt c.at at) text

-- ---- keys that are left out

-- A key without quotes is left out where it is `null`, `Null`, `NULL` or `~`, and where its `:` stands too far.
abbrev pub is_key_left_out : List Cell → Bool
is_key_left_out front = is_null (trimmed is_blank front) || is_too_far front

-- a text begins with such a key of a block mapping
abbrev pub has_bare_left_out : List Cell → Bool
has_bare_left_out cs = begins_plain cs && by (key_in never before_blank cs)
  where
    by : Option Split → Bool
    by None = false
    by (Some x) = is_key_left_out x.0

-- Behind a quote that opens: the split at the quote that closes. A single quote between single quotes stands twice, and a
-- backslash between double quotes takes the byte behind it, whether an escape begins there or not. None where nothing closes. (It is what `Closes` says:
-- proofs/FarKeys, closes-in and none-in.)
unfoldable pub closed_in : Quotes → List Cell → Option Split
closed_in kind [] = None
closed_in Single (c ∷ []) = if c.byte == 39 then Some ([], (c, [])) else None
closed_in Single (c ∷ d ∷ cs) =
    if c.byte == 39 then (if d.byte == 39 then behind_cell c (behind_cell d (closed_in Single cs)) else Some ([], (c, d ∷ cs)))
    else behind_cell c (closed_in Single (d ∷ cs))
closed_in Double (c ∷ []) = if c.byte == 34 then Some ([], (c, [])) else None
closed_in Double (c ∷ d ∷ cs) =
    if c.byte == 34 then Some ([], (c, d ∷ cs))
    else if c.byte == 92 then behind_cell c (behind_cell d (closed_in Double cs))
    else behind_cell c (closed_in Double (d ∷ cs))

-- which quote a cell is
abbrev pub quotes_of : Cell → Option Quotes
quotes_of c = if c.byte == 39 then Some Single else if c.byte == 34 then Some Double else None

-- A key between quotes is left out where its `:` stands too far behind the quote that opens, whatever stands between the quotes.
abbrev pub has_far_sign : List Cell → List Cell → Bool
has_far_sign text [] = false
has_far_sign text (c ∷ cs) = (c.byte == 58) && (before_blank cs && is_too_far (before_offset c.at text))

abbrev pub is_far_behind : List Cell → Option Split → Bool
is_far_behind text None = false
is_far_behind text (Some x) = has_far_sign text (after_blanks x.1.1)

abbrev pub is_far_between : List Cell → List Cell → Option Quotes → Bool
is_far_between text inside None = false
is_far_between text inside (Some kind) = is_far_behind text (closed_in kind inside)

-- a text begins with such a key of a block mapping
abbrev pub has_far_key : List Cell → Bool
has_far_key [] = false
has_far_key (c ∷ cs) = is_far_between (c ∷ cs) cs (quotes_of c)

-- a text begins with a key of a block mapping that is left out
abbrev pub has_key_left_out : List Cell → Bool
has_key_left_out cs = has_bare_left_out cs || has_far_key cs
