-- Bits in words of 64, the lowest bit of a word first.
use Rattle.std.specs.Prelude.{◌≡◌, ℕ, ◌+◌, ◌/◌, ◌<◌, ◌^◌, Bool, ◌&&◌, ◌||◌, List, length}
pub use Rattle.lf_classes.specs.RowWords.{bit, bit_of, bits_of}
use Rattle.lf_classes.specs.declared.word.Change.{Change}
use Rattle.lf_classes.specs.declared.word.Change.TheVariants.{Take, Meet, Join}

-- there are as many words as the bits fill, and one more, which may be begun
pub record IsBits (words : List ℕ) (len : ℕ) : Type 0 where
  pub filled : length words ≡ len / 64 + 1
  pub small : len < 2 ^ 32

-- a bit after a change, from itself and the bit of the other at its place
abbrev pub changed : Change → Bool → Bool → Bool
changed Take on other = other
changed Meet on other = on && other
changed Join on other = on || other
