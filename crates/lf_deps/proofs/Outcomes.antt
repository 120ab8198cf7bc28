-- What holds of an answer where two things hold of it.
use Rattle.std.specs.Prelude.{OnOk, Result, Ok, Err}

pub on_both : {X E : Type 0} (P Q R : Type 0) (r : Result X E) → (P → Q → R) → OnOk r P → OnOk r Q → OnOk r R
on_both P Q R (Ok x) h p q = h p q
on_both P Q R (Err e) h p q = tt
