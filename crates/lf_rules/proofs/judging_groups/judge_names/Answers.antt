use Rattle.std.proofs.Common.{map, sym, ap, ◌∙◌}
use Rattle.lf_yaml.specs.Tree.{tree}
use Rattle.lf_rules.specs.reading.Files.{least_from, names_faults, name_of, with_name}
use Rattle.std.proofs.lemmas.List.{nil_from_length}
use Rattle.lf_rules.proofs.NameSets.{names_step, names_ended}
use Rattle.lf_rules.proofs.judging_groups.judge_names.Goals as goal

pub loop-group-preserved : goal.loop-group-preserved
loop-group-preserved c =
    let names = c.loop-group.invariant.0 in
    let held = c.loop-group.invariant.1 in (
      with_name names (name_of (tree c.in-Some.group.now)),
      c.in_ok-judge_name.ensures.seen names held,
      names_step names (tree c.in-Some.group.now) (map tree c.in-Some.others.now) c.loop-group.first _ _ (c.in_ok-judge_name.ensures.first names held)
          (ap (λ ns. least_from c.loop-group.first (names_faults names (map tree ns))) (sym c.in-Some.ensures.cases.0) ∙ c.loop-group.invariant.2),
    )

pub returns : goal.returns
returns c =
    sym (names_ended c.loop-group.invariant.0 c.loop-group.first)
    ∙ ap (λ ns. least_from c.loop-group.first (names_faults c.loop-group.invariant.0 (map tree ns))) (sym (nil_from_length c.loop-group.rest.now c.in_default.ensures.cases))
    ∙ c.loop-group.invariant.2
