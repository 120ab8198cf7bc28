use Rattle.std.proofs.Common.{ap, sym, ◌∙◌}
use Rattle.std.specs.List.{list_any}
use Rattle.lf_worlds.specs.views.Told.{label_verdict, rule_verdict}
use Rattle.lf_judge.specs.Judged.{has_unresolved, is_unresolved}
use Rattle.lf_judge.proofs.FirstOpen.{any_of_map}
use Rattle.lf_judge.proofs.verdicts.has_unresolved.Goals as goal

pub returns-in-Labels : goal.returns-in-Labels
returns-in-Labels c =
    c.any_unresolved.ensures ∙ ap (list_any (λ v. is_unresolved (label_verdict v))) c.as_slice.ensures
    ∙ sym (any_of_map is_unresolved label_verdict c.in-Labels.of) ∙ ap (λ k. has_unresolved (rule_verdict k)) (sym c.in-Labels.is)
