-- The sets of a row in one list of bits: those of the first label first.
use Rattle.std.specs.Prelude.{◌≡◌, ℕ, ◌+◌, ◌<◌, ◌≤◌, ◌^◌, Bool, true, cond, List, length, slice_index, take}
use Rattle.std.specs.List.{sum}
use Rattle.lf_semantics.specs.ClassRows.{Sets, emptied, is_live}
pub use Rattle.lf_classes.specs.RowWords.{cut}

-- where the classes of a label begin
abbrev pub start : List ℕ → ℕ → ℕ
start counts label = sum (take label counts)

-- the bits of an empty row aren't looked at
abbrev pub shown : Bool → Sets → Sets
shown live row = cond live row (emptied row)

-- there is a label, there is a bit for each class, and in a row that isn't empty each label has a class
pub record IsRow (counts : List ℕ) (bits : List Bool) (live : Bool) : Type 0 where
  pub some : 0 < length counts
  pub total : length bits ≡ sum counts
  pub known : live ≡ true → is_live (cut counts bits) ≡ true
  pub small : sum counts < 2 ^ 32

-- where the classes of each label begin, and behind them where all end. There is a label, and each has a class
pub record IsShape (counts starts : List ℕ) : Type 0 where
  pub some : 0 < length counts
  pub classes : (l : ℕ) → l < length counts → 0 < slice_index counts l
  pub places : length starts ≡ length counts + 1
  pub at : (l : ℕ) → l ≤ length counts → slice_index starts l ≡ start counts l
  pub small : sum counts < 2 ^ 32
