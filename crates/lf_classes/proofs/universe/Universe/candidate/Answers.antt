use Rattle.std.proofs.Common.{codes, subst, sym, ◌∙◌, ap, arith, [], length, ◌<◌}
use Rattle.std.proofs.lemmas.List.{get_or_read}
use Rattle.lf_semantics.specs.Listing.{IsFirstFree, named_at}
use Rattle.lf_classes.proofs.universe.Universe.candidate.Goals as goal

pub returns-in-None : goal.returns-in-None
returns-in-None c = record {
  own = λ h. absurd (omega (arith, h, c.in-None.ensures.other));
  other =
      λ h. let within : c.args.label < length c.self.inside.named = subst (λ u. c.args.label < length u.named) (sym c.self.view_is) c.requires.label in
      subst (λ texts. IsFirstFree (codes "v") texts c.other.result.now) (get_or_read c.self.inside.named c.args.label c.get.result.now within c.get.ensures.read [] ∙ ap (λ u. named_at u c.args.label) c.self.view_is) c.other.ensures;
}
