use Rattle.std.proofs.Common.{◌<◌, length, ◌++◌, codes, ap, sym, ◌∙◌, arith}
use Rattle.std.specs.Fmt.{decimal}
use Rattle.std.proofs.lemmas.List.{length-map}
use Rattle.std.proofs.lemmas.Result.{IfOk-weaker}
use Rattle.lf_deps.proofs.RuleTrees.{tree_at}
use Rattle.lf_ast.specs.Rules.{rule_tree, rule_trees}
use Rattle.lf_checks.specs.views.Shown.{place_of}
use Rattle.lf_judge.specs.Judged.{file_of, files_of}
use Rattle.lf_judge.proofs.NamePositions.{place_found, position_count}
use Rattle.lf_judge.proofs.Places.{file_at, stands_in}
use Rattle.lf_judge.proofs.findings.other_place.Goals as goal

pub get-requires-2 : goal.get-requires-2
get-requires-2 c = stands_in c.args.hand.now.files.now c.args.hand.now.rules.now c.in-Some.number c.get.result.now c.requires.stand c.get.ensures.value

pub position_at-requires : goal.position_at-requires
position_at-requires c =
    omega (arith, position_count (files_of c.args.hand.now.files.now) (rule_trees c.args.hand.now.rules.now) c.args.hand.now.names.now c.requires.names, length-map c.args.hand.now.rules.now rule_tree, c.if-at-len.false, c.len.ensures)

pub returns : goal.returns
returns c =
    let files = c.args.hand.now.files.now in
    let rules = c.args.hand.now.rules.now in
    let number = c.in-Some.number in
    let rule = c.get.result.now in
    let file = c.get-2.result.now in
    let position = c.position_at.result in
    let inside : number < length c.args.hand.now.names.now =
    omega (arith, position_count (files_of files) (rule_trees rules) c.args.hand.now.names.now c.requires.names, length-map rules rule_tree, c.if-at-len.false, c.len.ensures) in
    IfOk-weaker c.place_at.result _ _
    (λ place e. e ∙ ap (λ n. n ++ codes ":" ++ decimal position.line ++ codes ":" ++ decimal position.column) c.as_str-name.ensures
    ∙ place_found (files_of files) (rule_trees rules) c.args.hand.now.names.now c.requires.names number (rule_tree rule) (file_of file) position (tree_at rules number rule c.get.ensures.value) (file_at files rule.file file c.get-2.ensures.value) inside c.position_at.ensures
    ∙ ap (λ o. place_of (files_of files) (rule_trees rules) o) (sym c.in-Some.is))
    c.place_at.ensures
