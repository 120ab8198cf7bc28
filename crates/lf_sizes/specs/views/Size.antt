-- How the code measures a pattern, from left to right: with a sum for each open group.
use Rattle.std.specs.Prelude.{ℕ, max, List, [], ◌∷◌, reverse}
use Rattle.lf_sizes.specs.Sizes.{SizeMark, Said, atom, closes, count, more, opens, plus, says, times}
use Rattle.lf_sizes.specs.declared.size.Mode.{Mode}
use Rattle.lf_sizes.specs.declared.size.Mode.TheVariants.{Ready}
use Rattle.lf_sizes.specs.declared.size.Reader.{Reader}
use Rattle.lf_sizes.specs.declared.size.Weights.{Weights}

-- what classes, loops, alternatives, groups and commas count, where the next byte stands, the size of a character, the size of what a count would count, that of what stands before it in its group, and of what stands before each open group, the innermost first and the one that is put round the pattern last
pub record SizeState : Type 0 where
  pub weights : Weights
  pub mode : Mode
  pub character : ℕ
  pub last : ℕ
  pub sum : ℕ
  pub outer : List ℕ

abbrev pub state_of : Reader → SizeState
state_of r = record { weights = r.weights; mode = r.mode; character = r.character; last = r.last; sum = r.sum; outer = reverse r.outer }

abbrev pub start : Weights → SizeState
start w = record { weights = w; mode = Ready; character = 1; last = 0; sum = 0; outer = 0 ∷ [] }

-- ---- a mark is read

-- a `)` closes the innermost group; where none is open, it is something of its own
abbrev pub closed : List ℕ → SizeState → SizeState
closed [] s = record s { last = 1; sum = plus s.sum s.last; outer = [] }
closed (before ∷ outer) s = record s { last = plus (plus s.sum s.last) 1; sum = before; outer = outer }

abbrev pub marked : SizeMark → SizeState → SizeState
marked (atom n) s = record s { last = n; sum = plus s.sum s.last }
marked (more n) s = record s { last = plus s.last n }
marked opens s = record s { last = 0; sum = 0; outer = plus s.sum s.last ∷ s.outer }
marked closes s = closed s.outer s
marked (count n) s = record s { last = times s.last (max n 1) }

abbrev pub marked_all : List SizeMark → SizeState → SizeState
marked_all [] s = s
marked_all (m ∷ ms) s = marked_all ms (marked m s)

-- ---- a byte is read

abbrev pub reads : Said → SizeState → SizeState
reads w s = record (marked_all w.marks s) { weights = s.weights; mode = w.next; character = w.character }

unfoldable pub stepped : SizeState → ℕ → SizeState
stepped s c = reads (says s.weights s.mode s.character c) s

-- ---- all is read

abbrev pub plus_each : ℕ → List ℕ → ℕ
plus_each n [] = n
plus_each n (m ∷ ms) = plus_each (plus n m) ms

abbrev pub total : SizeState → ℕ
total s = plus_each (plus s.sum s.last) s.outer

-- the size where this was read, and these bytes are left
abbrev pub size_from : SizeState → List ℕ → ℕ
size_from s [] = total s
size_from s (c ∷ cs) = size_from (stepped s c) cs
