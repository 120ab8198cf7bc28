use Rattle.std.proofs.Common.{◌≡◌, false, Option, Some, None, is_some, refl, sym, ◌∙◌}
use Rattle.lf_candidates.proofs.candidates.first_class_with.Goals as goal

none_of : {X : Type 0} (o : Option X) → is_some o ≡ false → None ≡ o
none_of None e = refl
none_of (Some x) e = absurd (cc)

pub returns-else-leaves-clause-candidate : goal.returns-else-leaves-clause-candidate
returns-else-leaves-clause-candidate c = none_of _ (sym c.leaves.ensures ∙ c.if-leaves.false)
