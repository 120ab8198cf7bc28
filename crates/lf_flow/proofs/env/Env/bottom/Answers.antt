use Rattle.std.proofs.Common.{List, length, map, sym, ◌∙◌, ap, subst, arith}
use Rattle.std.proofs.lemmas.List.{length-replicate}
use Rattle.std.specs.Prelude.{replicate}
use Rattle.lf_ast.specs.Labels.{Bytes}
use Rattle.lf_ast.specs.Rules.{rule_trees}
use Rattle.lf_semantics.specs.ClassRows.{Sets, bottom}
use Rattle.lf_semantics.specs.Environments.{names_recorded, recorded_names}
use Rattle.lf_semantics.specs.Listing.{StandOnce}
use Rattle.lf_semantics.proofs.ListingLaws.{apart, first_seen_distinct}
use Rattle.lf_flow.specs.Raising.{IsJoinOf, entries}
use Rattle.lf_flow.proofs.Entries.{entries_same}
use Rattle.lf_flow.proofs.Joins.{join_of_none}
use Rattle.lf_flow.proofs.env.Env.bottom.Goals as goal

pub invariant_of-result : goal.invariant_of-result
invariant_of-result c = record {
  once = subst StandOnce (sym c.in_ok-names.ensures.names) (apart _ (first_seen_distinct (names_recorded (rule_trees c.as_slice.result.now))));
  count = sym c.len-count.ensures.count ∙ sym (length-replicate c.len-count.result (bottom c.args.universe.now)) ∙ ap length (sym c.in_ok-rows.ensures);
  few = omega (arith, c.if-count-gt-MOST_NAMES.false, c.len-count.ensures.count);
  joined =
      let u = c.args.universe.now in
      let P : List Sets → Sets → Type 0 = λ rows all. IsJoinOf rows all in
      subst (λ rows. P rows c.in_ok-empty.field-0) (sym c.in_ok-rows.ensures)
      (subst (P (replicate c.len-count.result (bottom u))) (sym c.in_ok-empty.ensures) (join_of_none u c.len-count.result c.labels-labels.ensures.within.listing));
}

pub returns : goal.returns
returns c =
    let row = bottom c.args.universe.now in
    ap (entries c.in_ok-names.names) c.in_ok-rows.ensures
    ∙ entries_same c.in_ok-names.names c.len-count.result row c.len-count.ensures.count
    ∙ ap (map (λ (name : Bytes). (name, row))) (c.in_ok-names.ensures.names ∙ ap (λ rules. recorded_names (rule_trees rules)) c.as_slice.ensures)
