use Rattle.std.proofs.Common.{◌≡◌, List, IsTrue, subst}
use Rattle.std.proofs.lemmas.List.{take_all}
use Rattle.lf_laws.specs.Gaining.{OfSome}
use Rattle.lf_laws.proofs.Gaining.{gains_as, gains_of_more, gains_of_none}
use Rattle.lf_ast.specs.declared.expr.Matcher.{Matcher}
use Rattle.lf_open.specs.declared.construct.Construct.TheVariants.{ComplexPattern}
use Rattle.lf_open.specs.declared.open_at.OpenAt.{OpenAt}
use Rattle.lf_open.specs.views.Adding.{Adds, IsComplexAt}
use Rattle.lf_open.proofs.forms.add_complex.Goals as goal

pub loop-matcher-init : goal.loop-matcher-init
loop-matcher-init c = gains_of_none _ (IsComplexAt c.args.rule) c.args.found.now.items

pub loop-matcher-preserved : goal.loop-matcher-preserved
loop-matcher-preserved c =
    let is : Matcher → OpenAt → Type 0 = IsComplexAt c.args.rule in
    let m : Matcher = c.matcher-item.result in
    let complex = c.in_ok-complex.complex in
    let own : OpenAt → Type 0 = λ o. IsTrue complex × (o ≡ record { construct = ComplexPattern; rule = c.args.rule; span = m.value_span }) in
    let added : Adds (is m) c.loop-matcher.found.items c.add_if.new.found.items =
    gains_as _ own (is m) c.loop-matcher.found.items c.add_if.new.found.items c.in_ok-add_if.ensures (λ o h. (c.in_ok-complex.ensures.0 h.0, h.1)) (λ o h. (c.in_ok-complex.ensures.1 h.0, h.1)) in
    gains_of_more _ is c.args.matchers.now c.loop-matcher.matcher-index m c.args.found.now.items c.loop-matcher.found.items c.add_if.new.found.items c.loop-matcher-test.true c.loop-matcher.invariant
    (subst (λ (x : Matcher). Adds (is x) c.loop-matcher.found.items c.add_if.new.found.items) c.matcher-item.is added)

pub returns : goal.returns
returns c =
    subst (λ (l : List Matcher). Adds (OfSome (IsComplexAt c.args.rule) l) c.args.found.now.items c.loop-matcher.found.items) (take_all c.loop-matcher.matcher-index c.args.matchers.now c.loop-matcher-test.false) c.loop-matcher.invariant
