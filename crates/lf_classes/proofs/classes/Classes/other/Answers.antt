use Rattle.std.proofs.Common.{codes, subst}
use Rattle.lf_semantics.specs.Listing.{IsFirstFree}
use Rattle.lf_classes.proofs.classes.Classes.other.Goals as goal

pub returns : goal.returns
returns c = subst (λ texts. IsFirstFree (codes "v") texts c.self.inside.other) c.self.view_is c.self.invariant
