use Rattle.std.proofs.Common.{◌∙◌, ap}
use Rattle.lf_semantics.specs.Strings.{Replacing}
use Rattle.lf_strict.proofs.Replacements.{set_replaced}
use Rattle.lf_strict.proofs.replacing.Replacing.replaced_in.Goals as goal

pub returns-in-Some-clause-made : goal.returns-in-Some-clause-made
returns-in-Some-clause-made c =
    set_replaced c.args.self.now c.args.sample.now c.in_ok-made.made c.set.new.self c.in_ok-value.value c.self.inside.target c.in-Some.text c.in_ok-text.field-0 c.in_ok-made.ensures (c.in_ok-value.ensures ∙ c.source_in.ensures)
    (ap (λ (p : Replacing). p.target) c.self.view_is) c.in-Some.is c.in_ok-text.ensures.made c.in_ok-set-in-Some.ensures.ok
