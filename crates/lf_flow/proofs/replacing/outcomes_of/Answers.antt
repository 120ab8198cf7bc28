use Rattle.std.proofs.Common.{sym, ◌∙◌, ap}
use Rattle.lf_base.specs.Names.{is_label_name}
use Rattle.lf_semantics.specs.RowTable.{may_fail, may_match}
use Rattle.lf_flow.proofs.PatternSets.{failed_set, met}
use Rattle.lf_flow.proofs.replacing.outcomes_of.Goals as goal

pub returns-then-is_label_name-clause-matches : goal.returns-then-is_label_name-clause-matches
returns-then-is_label_name-clause-matches c =
    let u = c.args.universe.now in
    c.meets-may_match.ensures
    ∙ met u c.args.row.now c.args.source.now c.label_of-label.result _ c.in_ok-matched.matched.items (may_match u c.args.pattern.now) c.requires.shape
    c.label_of-label.ensures.within c.label_of-label.ensures.number c.deref-then-is_label_name.ensures.value c.in_ok-matched.ensures (sym (c.is_label_name.ensures ∙ ap is_label_name c.as_bytes.ensures.value) ∙ c.if-is_label_name.true)

pub returns-then-is_label_name-clause-fails : goal.returns-then-is_label_name-clause-fails
returns-then-is_label_name-clause-fails c =
    let u = c.args.universe.now in
    let failed = failed_set u c.args.pattern.now c.label_of-label.result _ c.in_ok-matched.matched.items c.in_ok-failed.failed.items c.deref.ensures.value c.in_ok-matched.ensures c.in_ok-failed.ensures in
    c.meets-may_fail.ensures
    ∙ met u c.args.row.now c.args.source.now c.label_of-label.result _ c.in_ok-failed.failed.items (may_fail u c.args.pattern.now) c.requires.shape
    c.label_of-label.ensures.within c.label_of-label.ensures.number c.deref-then-is_label_name-2.ensures.value failed (sym (c.is_label_name.ensures ∙ ap is_label_name c.as_bytes.ensures.value) ∙ c.if-is_label_name.true)
