use Rattle.std.proofs.Common.{arith}
use Rattle.lf_classes.proofs.Cutting.{found_class, no_class, start_within}
use Rattle.lf_classes.proofs.row.has_class.Goals as goal

pub any-requires : goal.any-requires
any-requires c = omega (arith, c.end.ensures, c.requires.total, start_within c.args.shape.now c.args.label c.requires.label)

pub returns-clause-some : goal.returns-clause-some
returns-clause-some c = λ e.
    let r = c.any.ensures.some e in
    found_class c.args.shape.now c.args.bits.now c.args.label c.requires.label (r.0, omega (arith, r.1, c.start.ensures), omega (arith, r.2, c.end.ensures), r.3)

pub returns-clause-none : goal.returns-clause-none
returns-clause-none c = λ e.
    no_class c.args.shape.now c.args.bits.now c.args.label (omega (arith, c.requires.total)) c.requires.label
    (λ k i j. c.any.ensures.none e k (omega (arith, c.start.ensures)) (omega (arith, c.end.ensures)))
