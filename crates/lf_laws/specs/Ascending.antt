-- Lists in ascending order.
use Rattle.std.specs.Prelude.{◌≡◌, ◌<◌, ℕ, List, length, Some, slice_get, slice_index_or}
use Rattle.std.specs.List.{Contains}
use Rattle.std.specs.declared.cmp.Ordering.{Ordering}
use Rattle.std.specs.declared.cmp.Ordering.TheVariants.{Less}

module _ {X : Type 0} (cmp : X → X → Ordering) where
  -- each value is less than those behind it, so none stands twice
  abbrev pub IsAscending : List X → Type 0
  IsAscending xs = (i j : ℕ) (x y : X) → i < j → slice_get xs i ≡ Some x → slice_get xs j ≡ Some y → cmp x y ≡ Less

  -- the same values, each once and in ascending order
  pub record IsInOrder (listed found : List X) : Type 0 where
    pub ascending : IsAscending found
    pub kept : (x : X) → Contains listed x → Contains found x
    pub only : (x : X) → Contains found x → Contains listed x

-- each number is less than those behind it, so none stands twice
abbrev pub AreAscending : List ℕ → Type 0
AreAscending numbers = (k l : ℕ) → k < l → l < length numbers → slice_index_or numbers k 0 < slice_index_or numbers l 0
