-- How much a run may spend on its patterns, as the code counts it.
use Rattle.std.specs.Prelude.{◌≡◌, ◌+◌, ◌-◌, ◌/◌, ◌≤◌, ◌↔◌, ℕ, zero, suc, Bool, IsTrue, cond, length}
use Rattle.lf_semantics.specs.Listing.{Listing, named_at}
use Rattle.lf_semantics.specs.RowTable.{text_of}
use Rattle.lf_sizes.specs.Sizes.{plus, times}
use Rattle.lf_flow.specs.declared.budget.PatternBudget.{PatternBudget}

-- the tries of a run
abbrev pub most_tries : ℕ
most_tries = 16000000

-- the words that the cached rows of plain patterns may have together
abbrev pub most_cached_words : ℕ
most_cached_words = 4194304

-- the tries that reading a pattern of a size counts, and trying it, of a width, on so many classes, whose texts have so many bytes
abbrev pub tries_of : ℕ → ℕ → ℕ → ℕ → ℕ
tries_of size width classes bytes = plus (plus (times size 8) 1000) (plus (times width bytes / 8) classes)

module _ (u : Listing) (label : ℕ) where
  -- the bytes of the texts of so many classes of a label; 'any other text', the last class, has none
  abbrev pub bytes_before : ℕ → ℕ
  bytes_before zero = 0
  bytes_before (suc n) = plus (bytes_before n) (length (text_of u label n))

  -- the bytes of the texts of all its classes
  abbrev pub bytes_of : ℕ
  bytes_of = bytes_before (length (named_at u label) + 2)

-- so many tries were left, and they are taken
pub record TakesTries (tries : ℕ) (old new : PatternBudget) : Type 0 where
  pub enough : tries ≤ old.tries
  pub left : new ≡ record old { tries = old.tries - tries }

-- so many words are taken if they are left, and else none
pub record TakesWords (words : ℕ) (taken : Bool) (old new : PatternBudget) : Type 0 where
  pub enough : IsTrue taken ↔ (words ≤ old.words)
  pub left : new ≡ cond taken (record old { words = old.words - words }) old
