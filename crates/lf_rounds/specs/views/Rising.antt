-- How many bits of words are set: each round that changes a word sets one more.
use Rattle.std.specs.Prelude.{ℕ, zero, suc, ◌+◌, List, [], ◌∷◌}
use Rattle.std.specs.Int.{bit_at}

-- of the first bits of a word
abbrev pub ones : ℕ → ℕ → ℕ
ones zero word = 0
ones (suc count) word = bit_at word count + ones count word

abbrev pub bits_set : List ℕ → ℕ
bits_set [] = 0
bits_set (word ∷ words) = ones 64 word + bits_set words
