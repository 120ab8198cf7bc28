use Rattle.std.proofs.Common.{◌≡◌, ◌+◌, ◌∷◌, ◌++◌, ℕ, List, [], Option, take, sym, ◌∙◌, ap, subst, arith}
use Rattle.std.specs.Borrow.{Bor}
use Rattle.std.specs.List.{AllZip}
use Rattle.std.proofs.lemmas.List.{map_more, take_all}
use Rattle.lf_laws.proofs.Slices.{take_none, zip_push}
use Rattle.lf_ast.specs.Tree.{Tree, tree}
use Rattle.lf_ast.specs.declared.expr.Expr.{Expr}
use Rattle.lf_ast.specs.views.Walks.{trees_at}
use Rattle.lf_built.specs.declared.unsaid.SoughtName.{SoughtName}
use Rattle.lf_built.specs.views.Unsaid.{IsSought}
use Rattle.lf_built.proofs.unsaid.sought_in.Goals as goal

pub loop-k-init : goal.loop-k-init
loop-k-init c = λ rules are.
    let Is : Tree → Option SoughtName → Type 0 = IsSought c.args.universe.now rules in
    subst (λ (es : List (Bor Expr)). AllZip Is (trees_at es) c.in_ok-found.found.items) (sym (take_none c.in_ok-nodes.nodes.items))
    (subst (λ (found : List (Option SoughtName)). AllZip Is [] found) (sym c.in_ok-found.ensures.items) tt)

pub loop-k-preserved : goal.loop-k-preserved
loop-k-preserved c = λ rules are.
    let Is : Tree → Option SoughtName → Type 0 = IsSought c.args.universe.now rules in
    let nodes : List (Bor Expr) = c.in_ok-nodes.nodes.items in
    let k : ℕ = c.loop-k.k in
    let node : Bor Expr = c.index-node.result.now in
    let more : trees_at (take (k + 1) nodes) ≡ trees_at (take k nodes) ++ tree node.now ∷ [] =
    map_more (λ (e : Bor Expr). tree e.now) nodes k node (omega (arith, c.loop-k-test.true)) ∙ ap (λ (e : Bor Expr). trees_at (take k nodes) ++ tree e.now ∷ []) (sym c.index-node.ensures) in
    subst (λ (es : List Tree). AllZip Is es c.push.new.self.items) (sym more)
    (subst (λ (found : List (Option SoughtName)). AllZip Is (trees_at (take k nodes) ++ tree node.now ∷ []) found) (sym c.in_ok-push.ensures.items)
    (zip_push Is (trees_at (take k nodes)) c.loop-k.found.items (tree node.now) c.in_ok-sought.sought (c.loop-k.invariant rules are) (c.in_ok-sought.ensures rules are)))

pub returns : goal.returns
returns c = λ rules are.
    subst (λ (es : List Tree). AllZip (IsSought c.args.universe.now rules) es c.loop-k.found.items)
    (ap trees_at (take_all c.loop-k.k c.in_ok-nodes.nodes.items (omega (arith, c.loop-k-test.false))) ∙ c.in_ok-nodes.ensures) (c.loop-k.invariant rules are)
