-- An option has one value.
use Rattle.std.proofs.Common.{◌≡◌, Option, Some, None}

pub clash : {A : Type 0} (x : A) (o : Option A) → o ≡ None → o ≡ Some x → ⊥
clash x o e h = cc

pub none_some : {A X : Type 0} (x : A) (o : Option A) → o ≡ None → o ≡ Some x → X
none_some x o e h = absurd (clash x o e h)
