-- Rows in words of 64 bits: a bit for each class of each label, numbered from 0 over the labels and their classes in order.
use Rattle.std.specs.Prelude.{ℕ, ◌+◌, ◌*◌, ◌/◌, ◌%◌, ◌≤◌, Bool, cond, eqb, List, [], ◌∷◌, map, take, drop, slice_index}
use Rattle.std.specs.Int.{bit_at}
use Rattle.std.specs.List.{flat_map, range_with_len}
use Rattle.lf_semantics.specs.ClassRows.{Sets, normalized}
use Rattle.lf_semantics.specs.Listing.{Listing, class_count, class_counts}

-- how many words so many bits fill
abbrev pub words_for : ℕ → ℕ
words_for bits = (bits + 63) / 64

-- how many words a row of a universe fills
abbrev pub word_count : Listing → ℕ
word_count u = words_for (class_count u)

-- the classes of all labels in order: whether each is in the set of its label
abbrev pub in_order : Sets → List Bool
in_order row = flat_map (λ set. set) row

-- the number that has these bits, the lowest first
abbrev pub number_of : List Bool → ℕ
number_of [] = 0
number_of (on ∷ bits) = cond on 1 0 + 2 * number_of bits

-- a word of a row; past the last class its bits are 0
abbrev pub row_word : Sets → ℕ → ℕ
row_word row k = number_of (take 64 (drop (64 * k) (in_order row)))

-- the bit of a word at a place
abbrev pub bit : ℕ → ℕ → Bool
bit word place = eqb (bit_at word place) 1

-- the bit at a place in a list of words
abbrev pub bit_of : List ℕ → ℕ → Bool
bit_of words k = bit (slice_index words (k / 64)) (k % 64)

-- the first bits of words
abbrev pub bits_of : List ℕ → ℕ → List Bool
bits_of words len = map (bit_of words) (range_with_len 0 len)

-- bits cut into the sets of labels that have as many classes
abbrev pub cut : List ℕ → List Bool → Sets
cut [] bits = []
cut (n ∷ counts) bits = take n bits ∷ cut counts (drop n bits)

-- the row of words: the classes whose bits are set. It is the empty row where some label has none
abbrev pub row_of_words : Listing → List ℕ → Sets
row_of_words u words = normalized (cut (class_counts u) (bits_of words (class_count u)))

-- all words of a row of a universe
abbrev pub words_of_row : Listing → Sets → List ℕ
words_of_row u row = map (row_word row) (range_with_len 0 (word_count u))

-- each bit of a word is one of another
abbrev pub WordLeq : ℕ → ℕ → Type 0
WordLeq a b = (place : ℕ) → bit_at a place ≤ bit_at b place

-- the same of all words
pub record WordsLeq (xs ys : List ℕ) : Type 0 where
  pub at : (k : ℕ) → WordLeq (slice_index xs k) (slice_index ys k)
