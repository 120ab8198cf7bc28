-- The samples of a pattern's shape as a function, character by character, with a frame for each open group. The universe of lf_semantics is a value that is computed of rules, and
-- goes by it; so it is a definition. `HasSamples` of Shape.antt says the same as a relation, and laws in proofs/ say that it finds exactly the samples that `HasSamples` gives, each cut to
-- None where it has more than 256 bytes.
use Rattle.std.specs.Prelude.{ℕ, zero, suc, ◌+◌, ◌*◌, max, Bool, true, false, ◌==◌, ◌||◌, not, nat_lt, nat_le, List, [], ◌∷◌, ◌++◌, length, reverse, Option, Some, None, unwrap_or, encode_utf8, if◌then◌else◌}
use Rattle.std.specs.Char.{digit_value}
use Rattle.lf_pattern.specs.Plain.{is_special, is_escapable}
use Rattle.lf_pattern.specs.declared.sample.Both.{Both}
use Rattle.lf_pattern.specs.declared.shape.GroupFrame.{GroupFrame}
use Rattle.lf_pattern.specs.declared.shape_mode.ShapeMode.{ShapeMode}
use Rattle.lf_pattern.specs.declared.shape_mode.ShapeMode.TheVariants.{Ready, Atom, Lazy, Escape, Open, Quiet, ClassStart, Class, NegatedStart, Negated, Brace, Least, Comma, Most, Outside}
use Rattle.lf_pattern.specs.declared.shape_mode.CharacterKind.{CharacterKind}
use Rattle.lf_pattern.specs.declared.shape_mode.CharacterKind.TheVariants as kind
use Rattle.lf_pattern.specs.declared.shape.Reader.{Reader}

-- ---- samples of at most 256 bytes

abbrev pub capped : List ℕ → Option (List ℕ)
capped text = if nat_le (length text) 256 then Some text else None

abbrev pub joined : Option (List ℕ) → Option (List ℕ) → Option (List ℕ)
joined None b = None
joined (Some a) None = None
joined (Some a) (Some b) = capped (a ++ b)

abbrev pub times_of : ℕ → Option (List ℕ) → Option (List ℕ)
times_of zero a = Some []
times_of (suc n) a = joined (times_of n a) a

abbrev pub pair : List ℕ → List ℕ → Both
pair low high = record { low = Some low; high = Some high }

abbrev pub nothing_read : Both
nothing_read = pair [] []

abbrev pub followed_by : Both → Both → Both
followed_by p q = record { low = joined p.low q.low; high = joined p.high q.high }

abbrev pub counted_by : ℕ → Both → Both
counted_by least p = record { low = times_of least p.low; high = times_of (max 1 least) p.high }

-- ---- frames and states

-- a frame's samples as if its last branch ended here
abbrev pub value_of : GroupFrame → Both
value_of f = record { low = unwrap_or f.first f.branch.low; high = f.branch.high }

abbrev pub with_branch : GroupFrame → Both → GroupFrame
with_branch f p = record { first = f.first; branch = followed_by f.branch p }

-- what was read: in which mode, the samples of the last piece, which isn't in its branch yet, the frame of the branch, and the frames round it, the innermost first
pub record ShapeState : Type 0 where
  pub mode : ShapeMode
  pub piece : Both
  pub frame : GroupFrame
  pub stack : List GroupFrame

abbrev pub state_of : Reader → ShapeState
state_of r = record { mode = r.mode; piece = r.piece; frame = r.frame; stack = reverse r.stack }

abbrev pub in_mode : ShapeMode → ShapeState → ShapeState
in_mode m s = record { mode = m; piece = s.piece; frame = s.frame; stack = s.stack }

-- an atom was read, with these samples
abbrev pub with_atom : Both → ShapeState → ShapeState
with_atom p s = record { mode = Atom; piece = p; frame = s.frame; stack = s.stack }

-- a count was read
abbrev pub with_count : ℕ → ShapeState → ShapeState
with_count least s = record { mode = Lazy; piece = counted_by least s.piece; frame = s.frame; stack = s.stack }

-- the last piece is put into its branch
abbrev pub flushed : ShapeState → ShapeState
flushed s = record { mode = s.mode; piece = nothing_read; frame = with_branch s.frame s.piece; stack = s.stack }

abbrev pub barred : ShapeState → ShapeState
barred s = record { mode = Ready; piece = s.piece; frame = record { first = Some (unwrap_or s.frame.first s.frame.branch.low); branch = nothing_read }; stack = s.stack }

abbrev pub opened : ShapeState → ShapeState
opened s = record { mode = Open; piece = s.piece; frame = record { first = None; branch = nothing_read }; stack = s.frame ∷ s.stack }

abbrev pub closed_onto : List GroupFrame → ShapeState → ShapeState
closed_onto [] s = in_mode Outside s
closed_onto (f ∷ fs) s = record { mode = Atom; piece = value_of s.frame; frame = f; stack = fs }

-- what a character can be that begins something
abbrev pub kind_of : ℕ → CharacterKind
kind_of c =
    if c == 124 then kind.Bar
    else if c == 40 then kind.Open
    else if c == 41 then kind.Close
    else if c == 91 then kind.Bracket
    else if c == 92 then kind.Backslash
    else if c == 46 then kind.Dot
    else if (c == 94) || (c == 36) then kind.Anchor
    else if is_special c then kind.Odd
    else kind.Ordinary

-- a character that begins something, behind a branch that is flushed
abbrev pub begun_with : CharacterKind → ShapeState → ℕ → ShapeState
begun_with kind.Bar s c = barred s
begun_with kind.Open s c = opened s
begun_with kind.Close s c = closed_onto s.stack s
begun_with kind.Bracket s c = in_mode ClassStart s
begun_with kind.Backslash s c = in_mode Escape s
begun_with kind.Dot s c = with_atom (pair (48 ∷ []) (97 ∷ [])) s
begun_with kind.Anchor s c = with_atom nothing_read s
begun_with kind.Odd s c = in_mode Outside s
begun_with kind.Ordinary s c = with_atom (pair (encode_utf8 c) (encode_utf8 c)) s

abbrev pub begun : ShapeState → ℕ → ShapeState
begun s c = begun_with (kind_of c) (flushed s) c

abbrev pub is_hidden : ℕ → Bool
is_hidden c = (c == 92) || (c == 91)

abbrev pub escaped_by : ShapeState → ℕ → ShapeState
escaped_by s c =
    if c == 100 then with_atom (pair (48 ∷ []) (48 ∷ [])) s
    else if c == 119 then with_atom (pair (97 ∷ []) (97 ∷ [])) s
    else if c == 115 then with_atom (pair (32 ∷ []) (32 ∷ [])) s
    else if is_escapable c then with_atom (pair (encode_utf8 c) (encode_utf8 c)) s
    else in_mode Outside s

abbrev pub class_pair : ℕ → ℕ → Bool → Both
class_pair first last opaque = if opaque then pair (48 ∷ []) (97 ∷ []) else pair (encode_utf8 first) (encode_utf8 last)

abbrev pub in_class : ℕ → ℕ → Bool → ShapeState → ℕ → ShapeState
in_class first last opaque s c = if c == 93 then with_atom (class_pair first last opaque) s else in_mode (Class first c (opaque || is_hidden c)) s

-- a character behind an atom
abbrev pub behind_atom : ShapeState → ℕ → ShapeState
behind_atom s c =
    if c == 42 then with_count 0 s
    else if c == 43 then with_count 1 s
    else if c == 63 then with_count 0 s
    else if c == 123 then in_mode Brace s
    else begun s c

abbrev pub is_digit : ℕ → Bool
is_digit c = nat_lt (digit_value c) 10

-- a character behind the digits of a count's least number
abbrev pub in_least : ℕ → ShapeState → ℕ → ShapeState
in_least n s c =
    if is_digit c then (if nat_le (n * 10 + digit_value c) 64 then in_mode (Least (n * 10 + digit_value c)) s else in_mode Outside s)
    else if c == 125 then with_count n s
    else if c == 44 then in_mode (Comma n) s
    else in_mode Outside s

abbrev pub in_most : ℕ → ShapeState → ℕ → ShapeState
in_most n s c =
    if is_digit c then in_mode (Most n) s
    else if c == 125 then with_count n s
    else in_mode Outside s

abbrev pub stepped_in : ShapeMode → ShapeState → ℕ → ShapeState
stepped_in Ready s c = begun s c
stepped_in Atom s c = behind_atom s c
stepped_in Lazy s c = if c == 63 then in_mode Ready s else begun s c
stepped_in Escape s c = escaped_by s c
stepped_in Open s c = if c == 63 then in_mode Quiet s else begun s c
stepped_in Quiet s c = if c == 58 then in_mode Ready s else in_mode Outside s
stepped_in ClassStart s c = if c == 94 then in_mode NegatedStart s else in_mode (Class c c (is_hidden c)) s
stepped_in (Class first last opaque) s c = in_class first last opaque s c
stepped_in NegatedStart s c = in_mode Negated s
stepped_in Negated s c = if c == 93 then with_atom (pair (48 ∷ []) (97 ∷ [])) s else in_mode Negated s
stepped_in Brace s c = if is_digit c then in_mode (Least (digit_value c)) s else in_mode Outside s
stepped_in (Least n) s c = in_least n s c
stepped_in (Comma n) s c = in_most n s c
stepped_in (Most n) s c = in_most n s c
stepped_in Outside s c = s

unfoldable pub stepped : ShapeState → ℕ → ShapeState
stepped s c = stepped_in s.mode s c

-- the state before the first character
abbrev pub start : ShapeState
start = record { mode = Ready; piece = nothing_read; frame = record { first = None; branch = nothing_read }; stack = [] }

-- the pattern may end in this mode
abbrev pub may_end : ShapeMode → Bool
may_end Ready = true
may_end Atom = true
may_end Lazy = true
may_end Open = true
may_end _ = false

-- the samples, where the pattern may end here
abbrev pub ended : ShapeState → Option Both
ended s = if nat_lt 0 (length s.stack) || not (may_end s.mode) then None else Some (value_of (flushed s).frame)

-- the samples of what is left
abbrev pub read_from : ShapeState → List ℕ → Option Both
read_from s [] = ended s
read_from s (c ∷ cs) = read_from (stepped s c) cs
