-- Whether some label is open, label by label.
use Rattle.std.proofs.Common.{◌≡◌, ◌<◌, ℕ, zero, suc, ◌+◌, Bool, true, false, ◌||◌, List, [], ◌∷◌, length, get_or, drop, drop-cons, add-one, sym, ap, ◌∙◌, arith}
use Rattle.std.specs.List.{list_any}
use Rattle.std.proofs.lemmas.Bool.{or_parts}
use Rattle.lf_ast.specs.Labels.{Bytes}

module _ (open_at : Bytes → Bool) (labels : List Bytes) where
  from_here : (k : ℕ) → k < length labels → list_any open_at (drop k labels) ≡ (open_at (get_or labels k []) || list_any open_at (drop (k + 1) labels))
  from_here k less = rw add-one (ap (list_any open_at) (drop-cons labels k [] less))

  -- this one is
  pub found_open : (k : ℕ) → k < length labels → list_any open_at labels ≡ list_any open_at (drop k labels) → open_at (get_or labels k []) ≡ true → true ≡ list_any open_at labels
  found_open k less so_far is = sym (so_far ∙ from_here k less ∙ ap (λ (b : Bool). b || list_any open_at (drop (k + 1) labels)) is)

  -- this one isn't
  pub passed_by : (k : ℕ) → k < length labels → list_any open_at labels ≡ list_any open_at (drop k labels) → open_at (get_or labels k []) ≡ false → list_any open_at labels ≡ list_any open_at (drop (k + 1) labels)
  passed_by k less so_far is = so_far ∙ from_here k less ∙ ap (λ (b : Bool). b || list_any open_at (drop (k + 1) labels)) is

-- none is
pub none_open : (open_at : Bytes → Bool) (labels : List Bytes) (k : ℕ) → list_any open_at labels ≡ false → k < length labels → open_at (get_or labels k []) ≡ false
none_open open_at [] k none less = absurd (omega (arith, less))
none_open open_at (l ∷ labels) zero none less = (or_parts (open_at l) (list_any open_at labels) none).0
none_open open_at (l ∷ labels) (suc k) none less = none_open open_at labels k (or_parts (open_at l) (list_any open_at labels) none).1 (omega (arith, less))
