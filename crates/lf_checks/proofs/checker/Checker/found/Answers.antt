use Rattle.std.proofs.Common.{◌≡◌, ◌<◌, ℕ, List, Option, None, Some, IfSome, not, length, map, take, get_or, sym, ap, ◌∙◌, subst}
use Rattle.std.proofs.lemmas.Option.{IfSome_then, get_or_from_slice_get, slice_get-get_or, slice_get-map, slice_get_within}
use Rattle.std.specs.List.{Contains}
use Rattle.std.specs.Option.{option_map}
use Rattle.std.specs.Prelude.{slice_get}
use Rattle.lf_laws.proofs.Members.{in_map}
use Rattle.lf_ast.specs.Rules.{RuleTree, rule_tree, rule_trees}
use Rattle.lf_ast.specs.Tree.{nodes}
use Rattle.lf_ast.specs.declared.rule.Rule.{Rule}
use Rattle.lf_ast.specs.declared.verdict.Finding.{Finding as Row}
use Rattle.lf_semantics.specs.ClassRows.{HasShape, Sets, is_live}
use Rattle.lf_semantics.specs.Environments.{IsEnvironment, rule_row}
use Rattle.lf_semantics.specs.Listing.{IsListing, Listing}
use Rattle.lf_semantics.specs.RowTable.{row_of, scraped_row}
use Rattle.lf_semantics.proofs.NormalizedRows.{rule_row_is}
use Rattle.lf_flow.proofs.ScrapedSeries.{when_lent}
use Rattle.lf_checks.specs.AlertTemplate.{HaveSources}
use Rattle.lf_checks.specs.Files.{StandIn}
use Rattle.lf_checks.specs.Findings.{IsFindingIn}
use Rattle.lf_checks.specs.views.Checked.{CheckerView}
use Rattle.lf_checks.specs.views.Duplicates.{AreFirsts, IsFirstOf}
use Rattle.lf_checks.specs.views.Shown.{AreNumbered, Lists}
use Rattle.lf_checks.proofs.Checking.{numbered_three, of_three}
use Rattle.lf_checks.proofs.checker.Checker.found.Goals as goal

pub sought_rows-requires-clause-scraped : goal.sought_rows-requires-clause-scraped
sought_rows-requires-clause-scraped c =
    when_lent (λ (row : Sets). row ≡ scraped_row c.self.inside.universe.now c.self.inside.env.now) c.self.inside.scraped c.as_ref-scraped.result c.as_ref-scraped.ensures.value c.self.invariant.3

pub sought_rows-requires-clause-made : goal.sought_rows-requires-clause-made
sought_rows-requires-clause-made c =
    let rules : List Rule = c.self.inside.rules.now in
    let rule : Rule = c.get-rule.result.now in
    let at : slice_get (rule_trees rules) c.args.i ≡ Some (rule_tree rule) = slice_get-map rule_tree rules c.args.i ∙ ap (option_map rule_tree) c.get-rule.ensures.value in
    let made = subst (λ (v : CheckerView). IfSome c.args.made (λ all. (r : RuleTree) → slice_get (rule_trees v.rules) c.args.i ≡ Some r → all.items ≡ map (row_of v.universe v.env) (nodes r.expr))) (sym c.self.view_is) c.requires.made in
    IfSome_then c.args.made made (λ all is. is (rule_tree rule) at)

pub own_row-requires-clause-scraped : goal.own_row-requires-clause-scraped
own_row-requires-clause-scraped c =
    when_lent (λ (row : Sets). row ≡ scraped_row c.self.inside.universe.now c.self.inside.env.now) c.self.inside.scraped c.as_ref-scraped.result c.as_ref-scraped.ensures.value c.self.invariant.3

pub of_rule-requires-clause-shape : goal.of_rule-requires-clause-shape
of_rule-requires-clause-shape c =
    let u : Listing = c.self.inside.universe.now in
    let ok = subst (λ (v : CheckerView). IsEnvironment v.universe v.env) (sym c.self.view_is) c.requires.env in
    let listing : IsListing u = c.self.invariant.0 in
    subst (λ (row : Sets). HasShape u row) (sym c.in_ok-row.ensures) (rule_row_is u listing c.self.inside.env.now ok (rule_tree c.get-rule.result.now)).0

pub of_rule-requires-clause-sources : goal.of_rule-requires-clause-sources
of_rule-requires-clause-sources c t k =
    let rules : List Rule = c.self.inside.rules.now in
    let r : Rule = c.get-rule.result.now in
    let is : slice_get rules c.args.i ≡ Some r = c.get-rule.ensures.value in
    let member : Contains rules r = (c.args.i, slice_get_within rules c.args.i r is, get_or_from_slice_get rules c.args.i r r is) in
    let sources = subst (λ (v : CheckerView). HaveSources (rule_trees v.rules)) (sym c.self.view_is) c.requires.sources in
    sources (rule_tree r) (in_map rule_tree rules r member) t k

pub of_parts-requires-clause-listing : goal.of_parts-requires-clause-listing
of_parts-requires-clause-listing c = c.self.invariant.0

-- the first of the rules before it that is the same, as it is kept
first_of : (trees : List RuleTree) (firsts : List (Option ℕ)) (i : ℕ) (r : RuleTree) (x : Option ℕ) → slice_get trees i ≡ Some r → AreFirsts trees firsts → x ≡ get_or firsts i x → IsFirstOf (take i trees) r x
first_of trees firsts i r x at are is =
    let inside : i < length firsts = subst (λ (n : ℕ). i < n) (sym are.count) (slice_get_within trees i r at) in
    let there : slice_get firsts i ≡ Some x = slice_get-get_or firsts i x inside ∙ ap Some (sym is) in
    subst (λ (o : Option ℕ). IsFirstOf (take i trees) r o) (get_or_from_slice_get firsts i x None there) (are.each i r at)

pub returns-clause-findings : goal.returns-clause-findings
returns-clause-findings c =
    let u : Listing = c.self.inside.universe.now in
    let env = c.self.inside.env.now in
    let i = c.args.i in
    let rules : List Rule = c.self.inside.rules.now in
    let trees : List RuleTree = rule_trees rules in
    let rule : Rule = c.get-rule.result.now in
    let r : RuleTree = rule_tree rule in
    let value : slice_get rules i ≡ Some rule = c.get-rule.ensures.value in
    let at : slice_get trees i ≡ Some r = slice_get-map rule_tree rules i ∙ ap (option_map rule_tree) value in
    let first = first_of trees c.self.inside.firsts.items i r c.index.result.now at c.self.invariant.2 c.index.ensures in
    let two : List Row = c.in_ok-two.two.items in
    let all : List Row = c.in_ok-all.all.items in
    let same : List Row = c.in_ok-same.same.items in
    λ files stand.
    let here = subst (λ (v : CheckerView). StandIn files (rule_trees v.rules)) (sym c.self.view_is) stand in
    subst (λ (v : CheckerView). Lists files (rule_trees v.rules) (IsFindingIn files v.universe (rule_trees v.rules) v.env i) all) c.self.view_is
    (of_three files u trees env i r at c.in_ok-row.row c.in_ok-row.ensures c.in_ok-own.own.items c.in_ok-parts.parts.items same two all c.in_ok-own.ensures
    (c.in_ok-parts.ensures env c.in_ok-rows.ensures.some trees c.self.invariant.1) (c.in_ok-same.ensures.findings files trees i here at first) c.in_ok-two.ensures c.in_ok-all.ensures)

pub returns-clause-numbers : goal.returns-clause-numbers
returns-clause-numbers c files =
    let i = c.args.i in
    let env = c.self.inside.env.now in
    let rules : List Rule = c.self.inside.rules.now in
    let trees : List RuleTree = rule_trees rules in
    let rule : Rule = c.get-rule.result.now in
    let r : RuleTree = rule_tree rule in
    let at : slice_get trees i ≡ Some r = slice_get-map rule_tree rules i ∙ ap (option_map rule_tree) c.get-rule.ensures.value in
    let first = first_of trees c.self.inside.firsts.items i r c.index.result.now at c.self.invariant.2 c.index.ensures in
    let two : List Row = c.in_ok-two.two.items in
    let all : List Row = c.in_ok-all.all.items in
    let same : List Row = c.in_ok-same.same.items in
    subst (λ (v : CheckerView). AreNumbered files (rule_trees v.rules) i all) c.self.view_is
    (numbered_three files trees i c.in_ok-own.own.items c.in_ok-parts.parts.items same two all c.in_ok-own.ensures.numbers (c.in_ok-parts.ensures env c.in_ok-rows.ensures.some trees c.self.invariant.1).numbers
    (c.in_ok-same.ensures.numbers files trees i at first) c.in_ok-two.ensures c.in_ok-all.ensures)

pub returns-clause-empty : goal.returns-clause-empty
returns-clause-empty c =
    let u : Listing = c.self.inside.universe.now in
    let env = c.self.inside.env.now in
    let i = c.args.i in
    let rules : List Rule = c.self.inside.rules.now in
    let rule : Rule = c.get-rule.result.now in
    let here : slice_get (rule_trees rules) i ≡ Some (rule_tree rule) = slice_get-map rule_tree rules i ∙ ap (option_map rule_tree) c.get-rule.ensures.value in
    subst (λ (v : CheckerView). (r : RuleTree) → slice_get (rule_trees v.rules) i ≡ Some r → c.is_empty.result ≡ not (is_live (rule_row v.universe v.env r))) c.self.view_is
    (λ r at.
    let both : Some (rule_tree rule) ≡ Some r = sym here ∙ at in
    let same : rule_tree rule ≡ r = cc in
    c.is_empty.ensures.empty ∙ ap (λ row. not (is_live row)) c.in_ok-row.ensures ∙ ap (λ t. not (is_live (rule_row u env t))) same)
