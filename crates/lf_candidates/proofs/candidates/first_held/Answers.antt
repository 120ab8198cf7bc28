use Rattle.std.proofs.Common.{Bool, [], false, get_or, sym, ◌∙◌, arith}
use Rattle.std.proofs.lemmas.List.Sums.{position_or_len_is}
use Rattle.lf_candidates.proofs.FirstClass.{set_length}
use Rattle.lf_candidates.proofs.candidates.first_held.Goals as goal

pub has-requires-clause-class : goal.has-requires-clause-class
has-requires-clause-class c =
    let room = set_length c.args.universe.now c.args.row.now c.requires.shape c.args.label c.requires.label in omega (arith, room, c.loop-class-test.true, c.classes-classes.ensures)

pub returns-then-has : goal.returns-then-has
returns-then-has c =
    let room = set_length c.args.universe.now c.args.row.now c.requires.shape c.args.label c.requires.label in
    sym (position_or_len_is (λ (on : Bool). on) (get_or c.args.row.now c.args.label []) c.loop-class.class false (omega (arith, room, c.loop-class-test.true, c.classes-classes.ensures)) c.loop-class.invariant (λ less. sym c.has.ensures ∙ c.if-has.true))

pub returns : goal.returns
returns c =
    let room = set_length c.args.universe.now c.args.row.now c.requires.shape c.args.label c.requires.label in
    sym (position_or_len_is (λ (on : Bool). on) (get_or c.args.row.now c.args.label []) c.classes-classes.result false (omega (arith, room, c.classes-classes.ensures))
    (λ k before. c.loop-class.invariant k (omega (arith, before, c.loop-class-test.false))) (λ less. absurd (omega (arith, less, room, c.classes-classes.ensures))))
