use Rattle.std.proofs.Common.{List, sym, ◌∙◌, subst}
use Rattle.lf_ast.specs.declared.expr.Name.{Name}
use Rattle.lf_semantics.specs.ClassRows.{holds, bottom}
use Rattle.lf_semantics.specs.RowTable.{is_label_among}
use Rattle.lf_flow.specs.views.Chosen.{Chooses}
use Rattle.lf_flow.proofs.Sides.{chosen_taken, none_there, some_there}
use Rattle.lf_flow.proofs.matching.take_labels.Goals as goal

pub returns-then-is_empty : goal.returns-then-is_empty
returns-then-is_empty c = c.clear.ensures ∙ none_there c.args.universe.now c.args.row.now c.requires.row c.args.one.now _ (sym c.is_empty.ensures.empty ∙ c.if-is_empty.true)

pub returns-in_ok-taken : goal.returns-in_ok-taken
returns-in_ok-taken c =
    let u = c.args.universe.now in
    let P : List Name → Type 0 = λ names. Chooses u (is_label_among u names) c.in_ok-taken.taken in
    c.take.ensures
    ∙ chosen_taken u c.args.row.now c.requires.row (is_label_among u c.args.names.now) _ (subst P c.as_slice.ensures c.in_ok-taken.ensures) (holds c.args.one.now)
    ∙ some_there c.args.one.now _ (bottom u) (sym c.is_empty.ensures.empty ∙ c.if-is_empty.false)
