use Rattle.std.proofs.Common.{arith}
use Rattle.lf_candidates.proofs.FirstClass.{first_by_held, none_by_held}
use Rattle.lf_candidates.proofs.candidates.class_held.Goals as goal

pub returns-then-held-classes-clause-candidate : goal.returns-then-held-classes-clause-candidate
returns-then-held-classes-clause-candidate c row shape is = first_by_held c.args.universe.now c.requires.universe c.args.label c.requires.label row shape c.args.held is (omega (arith, c.if-held-classes.true, c.classes.ensures))

pub returns-else-held-classes-clause-candidate : goal.returns-else-held-classes-clause-candidate
returns-else-held-classes-clause-candidate c row shape is = none_by_held c.args.universe.now c.requires.universe c.args.label c.requires.label row shape c.args.held is (omega (arith, c.if-held-classes.false, c.classes.ensures))
