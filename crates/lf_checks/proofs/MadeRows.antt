-- What is said of rows where they are made, and where they aren't.
use Rattle.std.proofs.Common.{◌≡◌, Option, Some, None, subst}
use Rattle.std.specs.Prelude.{IfNone, IfSome}

pub when_some : {X : Type 0} (P : X → Type 0) (o : Option X) (x : X) → o ≡ Some x → IfSome o P → P x
when_some {X = X} P o x is p = subst (λ (z : Option X). IfSome z P) is p

pub when_none : {X : Type 0} (P : Type 0) (o : Option X) → o ≡ None → IfNone o P → P
when_none {X = X} P o is p = subst (λ (z : Option X). IfNone z P) is p
