-- Sets of labels.
use Rattle.std.specs.Prelude.{◌≡◌, ◌<◌, ℕ, Bool, false, List, length, slice_index_or}
use Rattle.lf_semantics.specs.Listing.{Listing}

-- for each label of a universe it says whether the label is chosen
pub record Chooses (u : Listing) (chosen : ℕ → Bool) (set : List Bool) : Type 0 where
  pub count : length set ≡ length u.named
  pub at : (label : ℕ) → label < length u.named → slice_index_or set label false ≡ chosen label
