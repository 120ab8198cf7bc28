use Rattle.std.proofs.Common.{sym, ◌∙◌, arith}
use Rattle.lf_candidates.proofs.FirstClass.{first_in_both, none_in_both, set_length}
use Rattle.lf_candidates.proofs.candidates.first_common_class.Goals as goal

pub has-requires-clause-class : goal.has-requires-clause-class
has-requires-clause-class c =
    let room = set_length c.args.universe.now c.args.row.now c.requires.row c.args.label c.requires.label in omega (arith, room, c.loop-class-test.true, c.classes-class-end.ensures)

pub has-requires-then-has-clause-class : goal.has-requires-then-has-clause-class
has-requires-then-has-clause-class c =
    let room = set_length c.args.universe.now c.args.other.now c.requires.other c.args.label c.requires.label in omega (arith, room, c.loop-class-test.true, c.classes-class-end.ensures)

pub returns-then-has-2-clause-candidate : goal.returns-then-has-2-clause-candidate
returns-then-has-2-clause-candidate c =
    first_in_both c.args.universe.now c.requires.universe c.args.label c.requires.label c.args.row.now c.args.other.now c.loop-class.class (omega (arith, c.loop-class-test.true, c.classes-class-end.ensures))
    (sym c.has.ensures ∙ c.if-has.true) (sym c.has-then-has.ensures ∙ c.if-has-2.true) c.loop-class.invariant

pub returns-clause-candidate : goal.returns-clause-candidate
returns-clause-candidate c =
    none_in_both c.args.universe.now c.requires.universe c.args.label c.requires.label c.args.row.now c.args.other.now
    (λ j h. c.loop-class.invariant j (omega (arith, h, c.loop-class-test.false, c.classes-class-end.ensures)))
