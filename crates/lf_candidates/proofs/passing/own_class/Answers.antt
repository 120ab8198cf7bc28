use Rattle.std.proofs.Common.{◌∙◌, ap, arith}
use Rattle.lf_semantics.specs.ClassRows.{holds}
use Rattle.lf_candidates.proofs.FirstClass.{row_length, set_length}
use Rattle.lf_candidates.proofs.passing.own_class.Goals as goal

pub has-requires-clause-label : goal.has-requires-clause-label
has-requires-clause-label c = let many = row_length c.args.universe.now c.args.row.now c.requires.shape in omega (arith, many, c.requires.label)

pub has-requires-clause-class : goal.has-requires-clause-class
has-requires-clause-class c =
    let room = set_length c.args.universe.now c.args.row.now c.requires.shape c.args.label c.requires.label in
    omega (arith, room, c.class_of-class.ensures.within)

pub returns-then-class-classes : goal.returns-then-class-classes
returns-then-class-classes c =
    let is = c.class_of-class.ensures.number in
    (omega (arith, is, c.if-class-classes.true, c.classes-classes.ensures), c.has.ensures ∙ ap (holds c.args.row.now c.args.label) is)
