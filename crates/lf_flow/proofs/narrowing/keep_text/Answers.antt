use Rattle.std.proofs.Common.{◌+◌, ◌<◌, eqb, sym, ◌∙◌, arith}
use Rattle.lf_ast.specs.declared.expr.MatchOp.TheVariants.{Equal}
use Rattle.lf_semantics.specs.RowTable.{passes_class}
use Rattle.lf_flow.proofs.ClassSets.{row_length, set_length}
use Rattle.lf_flow.proofs.MatcherSets.{none_equal, one_equal}
use Rattle.lf_flow.proofs.Narrowed.{narrowed_as, narrowed_off}
use Rattle.lf_flow.proofs.narrowing.keep_text.Goals as goal

pub keep_class-requires-clause-class : goal.keep_class-requires-clause-class
keep_class-requires-clause-class c = omega (arith, c.class_of-class.ensures.within, set_length c.args.universe.now c.args.row.now c.requires.shape c.args.label c.requires.label)

pub returns-then-class-count : goal.returns-then-class-count
returns-then-class-count c =
    let u = c.args.universe.now in
    let label = c.args.label in
    let text = c.args.text.now in
    c.clear.ensures
    ∙ narrowed_off label (passes_class u Equal text) c.args.row.now (omega (arith, row_length u c.args.row.now c.requires.shape, c.requires.label))
    (none_equal u c.requires.listing label text c.classes-count.result c.class_of-class.result c.classes-count.ensures c.class_of-class.ensures.number c.if-class-count.true)

pub returns-else-class-count : goal.returns-else-class-count
returns-else-class-count c =
    let u = c.args.universe.now in
    let label = c.args.label in
    let text = c.args.text.now in
    let own : c.class_of-class.result + 1 < c.classes-count.result = omega (arith, c.if-class-count.false, c.class_of-class.ensures.within, c.classes-count.ensures) in
    c.keep_class.ensures
    ∙ narrowed_as label (λ l class. eqb class c.class_of-class.result) (passes_class u Equal text) c.args.row.now
    (λ class. sym (one_equal u c.requires.listing label text c.classes-count.result c.class_of-class.result c.classes-count.ensures c.class_of-class.ensures.number own class))
