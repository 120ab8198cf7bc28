use Rattle.std.proofs.Common.{◌≡◌, ◌+◌, ◌∙◌, arith}
use Rattle.lf_ast.specs.declared.expr.MatchOp.TheVariants.{NotEqual}
use Rattle.lf_semantics.specs.RowTable.{passes_class}
use Rattle.lf_flow.proofs.ClassSets.{set_length}
use Rattle.lf_flow.proofs.MatcherSets.{all_unequal, others_unequal}
use Rattle.lf_flow.proofs.Narrowed.{narrowed_but, narrowed_on}
use Rattle.lf_flow.proofs.narrowing.drop_text.Goals as goal

pub keep-requires-clause-class : goal.keep-requires-clause-class
keep-requires-clause-class c = omega (arith, c.class_of-class.ensures.within, set_length c.args.universe.now c.args.row.now c.requires.shape c.args.label c.requires.label)

pub returns-then-class-count : goal.returns-then-class-count
returns-then-class-count c =
    let u = c.args.universe.now in
    let label = c.args.label in
    let text = c.args.text.now in
    c.keep.ensures
    ∙ narrowed_but label c.class_of-class.result (passes_class u NotEqual text) c.args.row.now c.is_empty-empty.ensures.settled
    (others_unequal u c.requires.listing label text c.classes-count.result c.class_of-class.result c.classes-count.ensures c.class_of-class.ensures.number c.if-class-count.true)

pub returns-else-class-count : goal.returns-else-class-count
returns-else-class-count c =
    let u = c.args.universe.now in
    let label = c.args.label in
    let text = c.args.text.now in
    let last : c.class_of-class.result + 1 ≡ c.classes-count.result = omega (arith, c.if-class-count.false, c.class_of-class.ensures.within, c.classes-count.ensures) in
    narrowed_on label (passes_class u NotEqual text) c.args.row.now c.is_empty-empty.ensures.settled
    (all_unequal u c.requires.listing label text c.classes-count.result c.class_of-class.result c.classes-count.ensures c.class_of-class.ensures.number last)
