-- Two measures of patterns. The size of a pattern is about how many states a program has that tries it, by which goes how long it takes to read it. The width is about in how many of these it may be at
-- once, by which goes how long it takes to try it on a byte of a text: of all the characters of a class it waits for one. They are no measures of what the pattern matches, and go by the text alone, so
-- that what is bounded by them is bounded before the pattern is read. Every text has both, also one that is no pattern.
--
-- A text is a list of marks. Each counts by itself, and that as often as the numbers in braces say that stand behind it and behind each group that it stands in. What classes,
-- characters behind a flag `i`, loops, alternatives, ends of groups and commas in braces count is all that the two differ in.
use Rattle.std.specs.Prelude.{ℕ, zero, suc, ◌+◌, ◌-◌, ◌*◌, ◌^◌, max, min, Bool, ◌==◌, ◌||◌, ◌&&◌, nat_le, List, [], ◌∷◌, ◌++◌, if◌then◌else◌}
use Rattle.lf_sizes.specs.declared.size.Mode.{Mode}
use Rattle.lf_sizes.specs.declared.size.Weights.{Weights}
use Rattle.lf_sizes.specs.declared.size.Mode.TheVariants.{Ready, Escape, Open, Flags, Name, Bracket, Negated, Class, ClassEscape, Count, Verbose}

-- ---- marks, and the size of a list of them

pub data SizeMark : Type 0 where
  -- something of its own: a character, a dot, a class. It counts so much
  atom : ℕ → SizeMark
  -- a part of what stands before it: a `*`, a `+`, a `?`, a comma in braces, what stands in brackets, a further byte of a character, what the end of a group counts beside 1
  more : ℕ → SizeMark
  -- a `(` and a `)`
  opens : SizeMark
  closes : SizeMark
  -- a number in braces
  count : ℕ → SizeMark

-- what a mark counts by itself
abbrev pub own : SizeMark → ℕ
own (atom n) = n
own (more n) = n
own opens = 0
own closes = 1
own (count n) = 0

abbrev mutual
  -- how often that counts which stands right before these marks: as often as each number says that follows it, and once at least, before anything else begins; and so on where its group ends
  pub often : List SizeMark → ℕ
  often [] = 1
  often (count n ∷ ms) = max n 1 * often ms
  often (more n ∷ ms) = often ms
  often (closes ∷ ms) = often ms
  often (atom n ∷ ms) = outside 0 ms
  often (opens ∷ ms) = outside 1 ms

  -- how often the group counts that all this stands in, where so many more groups are open in it: what ends it is the first `)` that ends none of these
  pub outside : ℕ → List SizeMark → ℕ
  outside open_groups [] = 1
  outside open_groups (count n ∷ ms) = outside open_groups ms
  outside open_groups (more n ∷ ms) = outside open_groups ms
  outside open_groups (atom n ∷ ms) = outside open_groups ms
  outside open_groups (opens ∷ ms) = outside (suc open_groups) ms
  outside zero (closes ∷ ms) = often ms
  outside (suc open_groups) (closes ∷ ms) = outside open_groups ms

-- the marks where so many groups are open: a `)` that ends none of them is something of its own, which counts as much. It is in no pattern, so that what stands before it doesn't count more often by what stands behind it
abbrev pub in_groups : ℕ → List SizeMark → List SizeMark
in_groups open_groups [] = []
in_groups open_groups (atom n ∷ ms) = atom n ∷ in_groups open_groups ms
in_groups open_groups (more n ∷ ms) = more n ∷ in_groups open_groups ms
in_groups open_groups (count n ∷ ms) = count n ∷ in_groups open_groups ms
in_groups open_groups (opens ∷ ms) = opens ∷ in_groups (suc open_groups) ms
in_groups zero (closes ∷ ms) = atom 1 ∷ in_groups zero ms
in_groups (suc open_groups) (closes ∷ ms) = closes ∷ in_groups open_groups ms

-- each mark counts by itself as often as what stands there counts
abbrev pub size : List SizeMark → ℕ
size [] = 0
size (m ∷ ms) = own m * often ms + size ms

-- ---- the greatest size, which stands for all that are greater

abbrev pub most : ℕ
most = 2 ^ 64 - 1

abbrev pub plus : ℕ → ℕ → ℕ
plus m n = min (m + n) most

abbrev pub times : ℕ → ℕ → ℕ
times m n = min (m * n) most

-- ---- what classes, loops, alternatives, groups and commas in braces count

-- In `Weights`: `letters` is what `\w`, `\p` and their opposites count, a class in brackets where letters match their other cases too, and what may be anything; `digits` is what `\d` and its opposite
-- count; `few` what `\s`, its opposite, a dot, and any other class in brackets, beside each byte in it; `folded` what a character counts where letters match their other cases too;
-- `optional` what a comma in braces counts, by which some of what is counted may be left out, as a `?` says it elsewhere; `repeated` what a `*`, a `+` and a `?` count; `either` what a `|` counts;
-- `ended` what the end of a group counts beside 1.

-- in a size: the ranges of the characters, each of up to four bytes; and of loops, alternatives and groups about how long they take to be read beside a character
abbrev pub in_size : Weights
in_size = record { letters = 512; digits = 64; few = 16; folded = 8; optional = 0; repeated = 4; either = 6; ended = 2 }

-- in a width: the ranges of the first bytes of these, which are gone through to find the next state
abbrev pub in_width : Weights
in_width = record { letters = 8; digits = 4; few = 2; folded = 2; optional = 1; repeated = 1; either = 1; ended = 0 }

-- ---- what a byte says

-- its marks, if it has some, where the next byte stands, and what a character counts there
pub record Said : Type 0 where
  pub marks : List SizeMark
  pub next : Mode
  pub character : ℕ

abbrev pub mark : SizeMark → Mode → ℕ → Said
mark m next character = record { marks = m ∷ []; next = next; character = character }

abbrev pub no_mark : Mode → ℕ → Said
no_mark next character = record { marks = []; next = next; character = character }

abbrev pub is_flag : ℕ → Bool
is_flag c = (c == 45) || (nat_le 65 c && nat_le c 90) || (nat_le 97 c && nat_le c 122)

-- a byte behind a backslash: one of `p P w W`, of `d D`, of `s S`, or another
abbrev pub escaped : Weights → ℕ → ℕ
escaped w c =
    if (c == 112) || (c == 80) || (c == 119) || (c == 87) then w.letters
    else if (c == 100) || (c == 68) then w.digits
    else if (c == 115) || (c == 83) then w.few
    else 1

-- a class in brackets, beside each byte in it: where letters match their other cases too, these are looked for in all of it
abbrev pub class : Weights → ℕ → ℕ
class w k = if k == w.folded then w.letters else w.few

-- a `)`
abbrev pub ending : Weights → ℕ → Said
ending w k = record { marks = closes ∷ more w.ended ∷ []; next = Ready; character = k }

-- a byte that stands nowhere in particular: one of `( ) [ { \ . * + ? |`, one that goes on with a character, or another
abbrev pub said : Weights → ℕ → ℕ → Said
said w k c =
    if c == 40 then mark opens Open k
    else if c == 41 then ending w k
    else if c == 91 then mark (atom (class w k)) (Bracket 1) k
    else if c == 123 then no_mark (Count 0 0) k
    else if c == 92 then no_mark Escape k
    else if c == 46 then mark (atom w.few) Ready k
    else if (c == 42) || (c == 43) || (c == 63) then mark (more w.repeated) Ready k
    else if c == 124 then mark (atom w.either) Ready k
    else if nat_le 128 c && nat_le c 191 then mark (more 1) Ready k
    else mark (atom k) Ready k

-- a byte in so many brackets
abbrev pub said_in_brackets : Weights → ℕ → ℕ → ℕ → Said
said_in_brackets w depth k c =
    if c == 91 then mark (more (class w k)) (Bracket (plus depth 1)) k
    else if c == 93 then (if nat_le depth 1 then no_mark Ready k else no_mark (Class (depth - 1)) k)
    else if c == 92 then no_mark (ClassEscape depth) k
    else mark (more 1) (Class depth) k

-- a byte behind the `[` or the `[^`: a `]` stands for itself there
abbrev pub said_first_in_brackets : Weights → ℕ → ℕ → ℕ → Said
said_first_in_brackets w depth k c = if c == 93 then mark (more 1) (Class depth) k else said_in_brackets w depth k c

-- a byte in braces
abbrev pub said_in_braces : Weights → ℕ → ℕ → ℕ → ℕ → Said
said_in_braces w greatest number k c =
    if nat_le 48 c && nat_le c 57 then no_mark (Count greatest (plus (times number 10) (c - 48))) k
    else if c == 125 then mark (count (max greatest number)) Ready k
    else if c == 44 then mark (more w.optional) (Count (max greatest number) 0) k
    else no_mark (Count (max greatest number) 0) k

abbrev pub says : Weights → Mode → ℕ → ℕ → Said
says w Ready k c = said w k c
says w Escape k c = mark (atom (escaped w c)) Ready k
says w Open k c = if c == 63 then no_mark Flags k else said w k c
says w Flags k c = if c == 120 then no_mark Verbose k else if c == 105 then no_mark Flags w.folded else if is_flag c then no_mark Flags k else if c == 60 then mark (atom k) Name k else said w k c
says w Name k c = mark (atom k) (if c == 62 then Ready else Name) k
says w (Bracket depth) k c = if c == 94 then no_mark (Negated depth) k else said_first_in_brackets w depth k c
says w (Negated depth) k c = said_first_in_brackets w depth k c
says w (Class depth) k c = said_in_brackets w depth k c
says w (ClassEscape depth) k c = mark (more (escaped w c)) (Class depth) k
says w (Count greatest number) k c = said_in_braces w greatest number k c
says w Verbose k c = if c == 123 then mark (count most) Verbose k else mark (more w.letters) Verbose k

-- ---- the size of a pattern, and its width

-- the marks of what stands so
abbrev pub marks_in : Weights → Mode → ℕ → List ℕ → List SizeMark
marks_in w mode k [] = []
marks_in w mode k (c ∷ cs) = (says w mode k c).marks ++ marks_in w (says w mode k c).next (says w mode k c).character cs

-- first of all the group is open that is put round the pattern
abbrev pub measured : Weights → List ℕ → ℕ
measured w pattern = min (size (in_groups 1 (marks_in w Ready 1 pattern))) most

abbrev pub size_of : List ℕ → ℕ
size_of pattern = measured in_size pattern

abbrev pub width_of : List ℕ → ℕ
width_of pattern = measured in_width pattern
