use Rattle.std.proofs.Common.{rules, ◌+◌, List, [], get_or, length, ap, ◌∙◌, arith}
use Rattle.std.proofs.lemmas.List.{get_or-map, length-map}
use Rattle.lf_ast.specs.Labels.{Bytes}
use Rattle.lf_classes.proofs.universe.Universe.of.Goals as goal

pub of-requires-clause-classes : goal.of-requires-clause-classes
of-requires-clause-classes c l h =
    let named = c.as_slice.result.now in
    let e = c.in_ok-counts.ensures in
    let long = ap length e ∙ length-map named (λ (texts : List Bytes). length texts + 2) in
    let at = ap (λ xs. get_or xs l 0) e ∙ get_or-map (λ (texts : List Bytes). length texts + 2) named l [] 0 (omega (arith, h, long)) in
    omega (arith, at)

pub invariant_of-result : goal.invariant_of-result
invariant_of-result c = record {
  within = search rules;
  star = search rules;
  empty = search rules;
  shape = search rules;
  patterns = c.new.ensures _;
}
