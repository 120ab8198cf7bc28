-- The places where the classes of labels begin, as they are summed up.
use Rattle.std.proofs.Common.{◌≡◌, ℕ, ◌+◌, ◌≤◌, List, length, get_or}
use Rattle.lf_classes.specs.views.Cut.{start}

-- the places of the labels before one, and that of this one
pub record ArePlaces (counts starts : List ℕ) (place label : ℕ) : Type 0 where
  pub count : length starts ≡ label + 1
  pub here : place ≡ start counts label
  pub all : (l : ℕ) → l ≤ label → get_or starts l 0 ≡ start counts l
