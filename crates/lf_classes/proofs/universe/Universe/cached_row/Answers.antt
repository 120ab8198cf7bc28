use Rattle.std.proofs.Common.{◌≡◌, subst}
use Rattle.std.specs.Prelude.{IfSome}
use Rattle.lf_semantics.specs.Listing.{Listing}
use Rattle.lf_classes.specs.views.PatternCache.{passing_row}
use Rattle.lf_classes.proofs.universe.Universe.cached_row.Goals as goal

pub returns : goal.returns
returns c =
    let P : Listing → Type 0 = λ u. IfSome c.get.result (λ row. row.now ≡ passing_row u c.args.label c.args.op c.args.pattern.now) in
    subst P c.self.view_is (c.get.ensures _ c.self.invariant.patterns)
