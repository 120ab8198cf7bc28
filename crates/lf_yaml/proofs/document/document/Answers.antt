use Rattle.std.proofs.Common.{subst}
use Rattle.std.proofs.lemmas.Result.{err_from_is_err_and}
use Rattle.lf_base.specs.Answers.{AnswersAs}
use Rattle.lf_yaml.specs.Tree.{tree}
use Rattle.lf_yaml.specs.reading.Trees.{document_of}
use Rattle.lf_yaml.specs.views.Shown.{shown}
use Rattle.lf_yaml.specs.views.Cursor.{rows_after}
use Rattle.lf_yaml.proofs.Edges.{root-fails, root-alone, root-followed, nothing-there}
use Rattle.lf_yaml.proofs.document.document.Goals as goal

pub returns-in-None : goal.returns-in-None
unfolding document_of
returns-in-None c = subst (AnswersAs tree c.empty.result) (nothing-there c.args.source.bytes.now c.in-None.ensures.rows) c.empty.ensures

pub returns-in_err-root-in-Some : goal.returns-in_err-root-in-Some
returns-in_err-root-in-Some c =
    let p = err_from_is_err_and c.from_residual.result c.from_residual.ensures.1 in
    rw (p.1, p.2) (root-fails c.args.source.bytes.now (shown c.in-Some.row) (rows_after c.args.source.bytes.now c.in-Some.behind) c.in_err-root-in-Some.field-0.0 c.in-Some.ensures.rows c.in_err-root-in-Some.ensures.gives)

pub returns-in-None-first_row : goal.returns-in-None-first_row
returns-in-None-first_row c =
    root-alone c.args.source.bytes.now (shown c.in-Some.row) (rows_after c.args.source.bytes.now c.in-Some.behind) (rows_after c.args.source.bytes.now c.in_ok-root-in-Some.left) (tree c.in_ok-root-in-Some.root) c.in-Some.ensures.rows c.in_ok-root-in-Some.ensures.gives
    c.in-None-first_row.ensures.rows

pub returns-in-Some-first_row : goal.returns-in-Some-first_row
returns-in-Some-first_row c =
    rw c.behind_root.ensures
    (root-followed c.args.source.bytes.now (shown c.in-Some.row) (shown c.in-Some-first_row.next) (rows_after c.args.source.bytes.now c.in-Some.behind) (rows_after c.args.source.bytes.now c.in_ok-root-in-Some.left) _ (tree c.in_ok-root-in-Some.root) c.in-Some.ensures.rows
    c.in_ok-root-in-Some.ensures.gives c.in-Some-first_row.ensures.rows)
