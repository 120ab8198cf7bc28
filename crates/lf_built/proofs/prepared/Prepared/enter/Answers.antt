use Rattle.std.proofs.Common.{◌≡◌, ◌||◌, Some, length, refl, ◌∙◌, ap, arith}
use Rattle.std.specs.Prelude.{option_map, slice_get}
use Rattle.std.proofs.lemmas.List.{length-map}
use Rattle.std.proofs.lemmas.Option.{slice_get-map}
use Rattle.lf_laws.proofs.Slices.{some_at}
use Rattle.lf_ast.specs.Rules.{RuleTree, rule_tree}
use Rattle.lf_deps.proofs.RuleTrees.{tree_at}
use Rattle.lf_semantics.specs.Grouped.{is_metric}
use Rattle.lf_trials.specs.Built.{sets_label}
use Rattle.lf_trials.specs.Candidates.{labels_in}
use Rattle.lf_candidates.proofs.Standing.{label_count}
use Rattle.lf_built.specs.views.Indexed.{trees_of, universe_of}
use Rattle.lf_built.proofs.Places.{at_first}
use Rattle.lf_built.proofs.Works.{entry_of}
use Rattle.lf_built.proofs.prepared.Prepared.enter.Goals as goal

pub without_marked-texts-requires : goal.without_marked-texts-requires
without_marked-texts-requires c =
    let p = c.args.self.now in
    let own = some_at p.rules.now c.args.number c.requires.number in
    let marks = c.set_by.ensures (rule_tree own.0) (tree_at p.rules.now c.args.number own.0 own.1) in
    let many = ap length marks ∙ length-map (labels_in (universe_of p)) (λ name. is_metric name || sets_label (rule_tree own.0) name) in
    omega (arith, many, label_count (universe_of p) c.requires.known.within, c.requires.texts.1.count)

pub returns : goal.returns
returns c D stands =
    let p = c.args.self.now in
    let u = universe_of p in
    let r : RuleTree = rule_tree c.get.result.now in
    let is : slice_get (trees_of p) c.args.number ≡ Some r = slice_get-map rule_tree p.rules.now c.args.number ∙ ap (option_map rule_tree) c.get.ensures.value in
    let texts = c.without_marked-texts.ensures u (λ name. is_metric name || sets_label r name) D c.requires.known.within (c.set_by.ensures r is) stands in
    entry_of p c.args.number D c.args.work.now _ r is _ c.without_marked-texts.result (r, is, at_first r.expr) refl texts _ _ c.in_ok-push-2.ensures.items c.in_ok-push.ensures.items c.in_ok-put.ensures (omega (arith, c.requires.unmarked)) c.add_selector.ensures refl
