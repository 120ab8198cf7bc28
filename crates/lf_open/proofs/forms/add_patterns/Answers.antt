use Rattle.std.proofs.Common.{◌≡◌, List, OnOk, sym, ap, subst}
use Rattle.std.proofs.lemmas.Result.{on_ok_weaker}
use Rattle.lf_laws.specs.Gaining.{OfSome}
use Rattle.lf_ast.specs.Tree.{Tree, Selector, tree}
use Rattle.lf_ast.specs.declared.expr.Matcher.{Matcher}
use Rattle.lf_open.specs.declared.construct.Construct.TheVariants.{ComplexPattern}
use Rattle.lf_open.specs.declared.open_at.OpenAt.{OpenAt}
use Rattle.lf_open.specs.views.Adding.{Adds, IsComplexAt, IsOf}
use Rattle.lf_open.proofs.NodeLaws.{patterns_of}
use Rattle.lf_open.proofs.forms.add_patterns.Goals as goal

pub returns-in-Selector : goal.returns-in-Selector
returns-in-Selector c = λ rules.
    let old : List OpenAt = c.args.found.now.items in
    let new : List OpenAt = c.add_complex.new.found.items in
    let of : Tree = Selector c.in-Selector.name c.in-Selector.matchers c.in-Selector.sight c.in-Selector.span in
    let is : tree c.args.expr.now ≡ of = ap tree c.in-Selector.is in
    subst (λ (e : Tree). OnOk c.add_complex.result (Adds (IsOf rules ComplexPattern c.args.rule e) old new)) (sym is)
    (on_ok_weaker {P = Adds (OfSome (IsComplexAt c.args.rule) c.as_slice.result.now) old new} {Q = Adds (IsOf rules ComplexPattern c.args.rule of) old new} c.add_complex.result
    (λ a. patterns_of rules c.args.rule c.in-Selector.name c.in-Selector.matchers c.in-Selector.sight c.in-Selector.span old new (subst (λ (l : List Matcher). Adds (OfSome (IsComplexAt c.args.rule) l) old new) c.as_slice.ensures a)) c.add_complex.ensures)
