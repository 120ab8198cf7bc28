-- What gains the values that meet a condition, and no others.
use Rattle.std.specs.Prelude.{◌⊎◌, List}
use Rattle.std.specs.List.{Contains}

-- of what stands for a list of values: the new one has what the old one has, each value that meets the condition, and nothing else
pub record Gains {C X : Type 0} (values_of : C → List X) (is : X → Type 0) (old new : C) : Type 0 where
  pub kept : (x : X) → Contains (values_of old) x → Contains (values_of new) x
  pub all : (x : X) → is x → Contains (values_of new) x
  pub only : (x : X) → Contains (values_of new) x → Contains (values_of old) x ⊎ is x

-- a value meets the condition of one of these
abbrev pub OfSome : {Y X : Type 0} → (Y → X → Type 0) → List Y → X → Type 0
OfSome {Y} is ys x = (y : Y) × Contains ys y × is y x
