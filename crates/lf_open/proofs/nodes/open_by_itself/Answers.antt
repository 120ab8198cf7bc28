use Rattle.std.proofs.Common.{◌≡◌, [], List, sym, ◌∙◌, subst, take}
use Rattle.std.proofs.lemmas.List.{take_all}
use Rattle.std.specs.Borrow.{Bor}
use Rattle.lf_laws.specs.Gaining.{OfSome}
use Rattle.lf_laws.proofs.Gaining.{gains_of_more, gains_of_none}
use Rattle.lf_ast.specs.Rules.{RuleTree}
use Rattle.lf_ast.specs.Tree.{tree}
use Rattle.lf_ast.specs.declared.expr.Expr.{Expr}
use Rattle.lf_open.specs.declared.open_at.OpenAt.{OpenAt}
use Rattle.lf_open.specs.views.Adding.{Adds, IsByItself}
use Rattle.lf_open.specs.views.Known.{rules_of}
use Rattle.lf_open.proofs.NodeLaws.{itself_by}
use Rattle.lf_open.proofs.nodes.open_by_itself.Goals as goal

pub loop-part-init : goal.loop-part-init
loop-part-init c =
    let is : Bor Expr → OpenAt → Type 0 = λ p. IsByItself (rules_of c.args.known.now) c.args.rule (tree p.now) in
    subst (λ (l : List OpenAt). Adds (OfSome is []) [] l) (sym c.new-found.ensures.items) (gains_of_none _ is [])

pub loop-part-preserved : goal.loop-part-preserved
loop-part-preserved c =
    let is : Bor Expr → OpenAt → Type 0 = λ p. IsByItself (rules_of c.args.known.now) c.args.rule (tree p.now) in
    gains_of_more _ is c.as_slice-part-items.result.now c.loop-part.part-index c.part-item.result [] c.loop-part.found.items c.add_by_itself.new.found.items c.loop-part-test.true c.loop-part.invariant
    (subst (λ (p : Bor Expr). Adds (is p) c.loop-part.found.items c.add_by_itself.new.found.items) c.part-item.is c.in_ok-add_by_itself.ensures)

pub returns : goal.returns
returns c =
    let rules : List RuleTree = rules_of c.args.known.now in
    let is : Bor Expr → OpenAt → Type 0 = λ p. IsByItself rules c.args.rule (tree p.now) in
    let same : take c.loop-part.part-index c.as_slice-part-items.result.now ≡ c.in_ok-parts.parts.items = take_all c.loop-part.part-index c.as_slice-part-items.result.now c.loop-part-test.false ∙ c.as_slice-part-items.ensures.value in
    itself_by rules c.args.rule (tree c.args.expr.now) c.in_ok-parts.parts.items c.loop-part.found.items c.in_ok-parts.ensures (subst (λ (l : List (Bor Expr)). Adds (OfSome is l) [] c.loop-part.found.items) same c.loop-part.invariant)
