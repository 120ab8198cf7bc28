use Rattle.std.proofs.Common.{sym, ◌∙◌}
use Rattle.lf_laws.proofs.Members.{true_same}
use Rattle.lf_candidates.proofs.Standing.{candidate_text}
use Rattle.lf_uniform.proofs.only.class_with.Goals as goal

pub returns-then-eq-clause-text : goal.returns-then-eq-clause-text
returns-then-eq-clause-text c =
    let u = c.args.universe.now in
    let text = candidate_text u c.requires.universe c.args.label c.requires.label c.class_of-class.result c.candidate.result.now c.class_of-class.ensures.within c.candidate.ensures in
    sym (c.as_str-2.ensures ∙ text) ∙ true_same c.as_str-2.result.now c.as_str-3.result.now (sym c.eq.ensures ∙ c.if-eq.true) ∙ c.as_str-3.ensures
