use Rattle.std.proofs.Common.{length, sym, ◌∙◌, ap}
use Rattle.lf_semantics.specs.Listing.{label_of}
use Rattle.lf_ast.specs.Arguments.{text_at, texts_of}
use Rattle.lf_ast.specs.Tree.{trees}
use Rattle.lf_semantics.specs.RowTable.{is_join}
use Rattle.lf_semantics.specs.Strings.{joining}
use Rattle.lf_flow.proofs.ClassSets.{set_length, set_named}
use Rattle.lf_flow.proofs.joining.join_labels.Goals as goal

pub set_classes-requires-clause-classes : goal.set_classes-requires-clause-classes
set_classes-requires-clause-classes c =
    ap length c.deref.ensures.value ∙ c.in_ok-on.ensures.count ∙ c.classes-count.ensures
    ∙ sym (set_length c.args.universe.now c.args.row.now c.requires.shape c.label_of-label.result c.label_of-label.ensures.within)

pub returns : goal.returns
returns c =
    let u = c.args.universe.now in
    let texts = texts_of (trees c.args.args.now) in
    let size = set_length u c.args.row.now c.requires.shape c.label_of-label.result c.label_of-label.ensures.within in
    let label = c.label_of-label.ensures.number ∙ ap (label_of u) c.text_at.ensures in
    c.set_classes.ensures
    ∙ set_named u (text_at texts 1) c.label_of-label.result c.deref.result.now c.in_ok-on.on.items c.classes-count.result (λ l class. is_join u (joining texts) c.args.row.now class) c.args.row.now
    label c.deref.ensures.value c.in_ok-on.ensures (size ∙ sym c.classes-count.ensures)
