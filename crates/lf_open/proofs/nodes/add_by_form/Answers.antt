use Rattle.std.proofs.Common.{◌≡◌, ◌⊎◌, IsTrue, List, refl, subst}
use Rattle.std.proofs.lemmas.Result.{on_ok_weaker}
use Rattle.lf_laws.proofs.Gaining.{gains_both}
use Rattle.lf_base.specs.declared.place.Span.{Span}
use Rattle.lf_ast.specs.Tree.{Tree, tree}
use Rattle.lf_open.specs.Constructs.{MakesLabel, SaysNoName}
use Rattle.lf_open.specs.declared.construct.Construct.TheVariants.{ComplexPattern, MadeLabel, UnnamedSelector}
use Rattle.lf_open.specs.declared.open_at.OpenAt.{OpenAt}
use Rattle.lf_open.specs.views.Adding.{Adds, IsByForm, IsOf}
use Rattle.lf_open.proofs.NodeLaws.{one_of}
use Rattle.lf_open.proofs.nodes.add_by_form.Goals as goal

pub returns : goal.returns
returns c = λ rules.
    let k = c.args.rule in
    let e : Tree = tree c.args.expr.now in
    let old : List OpenAt = c.args.found.now.items in
    let first : List OpenAt = c.add_if.new.found.items in
    let second : List OpenAt = c.add_if-2.new.found.items in
    let new : List OpenAt = c.add_patterns.new.found.items in
    let unnamed : Adds (IsOf rules UnnamedSelector k e) old first =
    one_of rules k UnnamedSelector e (SaysNoName rules e) c.says_no_name-unnamed.result old first (λ s h. h) (λ p. (p, refl)) (c.says_no_name-unnamed.ensures rules)
    (subst (λ (s : Span). Adds (λ o. IsTrue c.says_no_name-unnamed.result × (o ≡ record { construct = UnnamedSelector; rule = k; span = s })) old first) c.span_of-span.ensures c.in_ok-add_if.ensures) in
    let made : Adds (IsOf rules MadeLabel k e) first second =
    one_of rules k MadeLabel e (MakesLabel rules e) c.makes_label-made.result first second (λ s h. h) (λ p. (p, refl)) (c.makes_label-made.ensures rules)
    (subst (λ (s : Span). Adds (λ o. IsTrue c.makes_label-made.result × (o ≡ record { construct = MadeLabel; rule = k; span = s })) first second) c.span_of-span.ensures c.in_ok-add_if-2.ensures) in
    on_ok_weaker {P = Adds (IsOf rules ComplexPattern k e) second new} {Q = Adds (IsByForm rules k e) old new} c.add_patterns.result
    (λ a. gains_both _ (IsOf rules UnnamedSelector k e) (λ o. IsOf rules MadeLabel k e o ⊎ IsOf rules ComplexPattern k e o) old first new unnamed (gains_both _ (IsOf rules MadeLabel k e) (IsOf rules ComplexPattern k e) first second new made a)) (c.add_patterns.ensures rules)
