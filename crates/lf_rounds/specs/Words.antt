-- Environments in words: the words of the rows of the recorded names, row by row.
use Rattle.std.specs.Prelude.{ℕ, ◌<◌, ◌^◌, All, List, [], ◌∷◌, take, drop}
use Rattle.std.specs.List.{flat_map}
use Rattle.lf_ast.specs.Labels.{Bytes}
use Rattle.lf_classes.specs.RowWords.{row_of_words, word_count, words_of_row}
use Rattle.lf_semantics.specs.Listing.{Listing}
use Rattle.lf_semantics.specs.RowTable.{Environment}

-- the words of an environment
abbrev pub words_of : Listing → Environment → List ℕ
words_of u env = flat_map (λ entry. words_of_row u entry.1) env

-- the environment of these names for which words stand. They need not be the words of rows: where a name's leave some label without a class, its row is the empty one
abbrev pub environment_of : Listing → List Bytes → List ℕ → Environment
environment_of u [] words = []
environment_of u (name ∷ names) words = (name, row_of_words u (take (word_count u) words)) ∷ environment_of u names (drop (word_count u) words)

-- numbers of 64 bits
abbrev pub AreWords : List ℕ → Type 0
AreWords words = All (λ word. word < 2 ^ 64) words
