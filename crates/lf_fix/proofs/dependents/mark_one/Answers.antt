use Rattle.std.proofs.Common.{true, inl, inr, sym, ◌∙◌}
use Rattle.std.proofs.lemmas.List.{get_or-set_other}
use Rattle.std.proofs.lemmas.Bool.{cases_eq}
use Rattle.lf_fix.proofs.dependents.mark_one.Goals as goal

pub returns-then-number-marks-clause-only : goal.returns-then-number-marks-clause-only
returns-then-number-marks-clause-only c k m = elim (cases_eq k c.args.number) [ inl e ↦ inr e | inr n ↦ inl (sym (get_or-set_other c.args.marks.now c.args.number k true true n) ∙ m) ]
