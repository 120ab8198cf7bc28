use Rattle.std.proofs.Common.{◌≡◌, ◌++◌, ℕ, List, refl, ◌∙◌, ap, subst}
use Rattle.lf_ast.specs.Rules.{RuleTree}
use Rattle.lf_ast.specs.Tree.{Tree, tree}
use Rattle.lf_open.specs.declared.open_at.OpenAt.{OpenAt}
use Rattle.lf_open.specs.declared.told.ExpressionFacts.{ExpressionFacts}
use Rattle.lf_open.specs.views.Known.{rules_of}
use Rattle.lf_open.specs.views.ReadNames.{IsTableOf}
use Rattle.lf_open.specs.views.Told.{Facts, told}
use Rattle.lf_open.proofs.AllParts.{told_opens}
use Rattle.lf_open.proofs.NodeLaws.{found_by}
use Rattle.lf_open.proofs.nodes.open_in.Goals as goal

pub of-requires : goal.of-requires
of-requires c = (rules_of c.args.known.now, c.requires.known.reading)

pub returns : goal.returns
returns c =
    let known = c.args.known.now in
    let rules : List RuleTree = rules_of known in
    let e : Tree = tree c.args.expr.now in
    let k : ℕ = c.args.rule in
    let f : Facts = record { forks = known.forks.now; loud = known.loud.now; on_le = known.on_le.now; table = c.in_ok-table.table; all = known.reading.now.all; rule = k } in
    let table = subst (λ found. IsTableOf rules known.reading.now.names found c.in_ok-table.table) c.requires.selected (c.in_ok-table.ensures rules c.requires.known.reading) in
    let same : c.as_slice.result.now ≡ (told f e).found = c.as_slice.ensures ∙ ap (λ (t : ExpressionFacts). t.found) c.in_ok-told.ensures in
    found_by rules k e c.in_ok-found.found.items (told f e).found c.extend_from_slice.new.self.items c.in_ok-found.ensures
    (told_opens rules f known.reading.now c.requires.known.reading refl e c.requires.rule table c.requires.known.forks c.requires.known.loud c.requires.known.on_le)
    (c.in_ok-extend_from_slice.ensures.items ∙ ap (λ (l : List OpenAt). c.in_ok-found.found.items ++ l) same)
