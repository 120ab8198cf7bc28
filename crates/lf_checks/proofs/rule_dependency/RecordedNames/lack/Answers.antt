use Rattle.std.proofs.Common.{sym, ◌∙◌, ap}
use Rattle.lf_base.specs.Names.{has_colon}
use Rattle.lf_checks.proofs.RecordedLaws.{lacks_by}
use Rattle.lf_checks.proofs.rule_dependency.RecordedNames.lack.Goals as goal

pub returns-then-has_colon : goal.returns-then-has_colon
returns-then-has_colon c rules are =
    lacks_by rules c.recorded-names.result.now c.args.name.now c.as_str-then-has_colon.result.now c.place.result c.len.result (c.recorded-names.ensures ∙ are.sources.names) c.as_str-then-has_colon.ensures c.place.ensures.place c.place.ensures.within c.len.ensures.count
    (ap has_colon (sym c.as_str.ensures) ∙ sym c.has_colon.ensures ∙ c.if-has_colon.true)
