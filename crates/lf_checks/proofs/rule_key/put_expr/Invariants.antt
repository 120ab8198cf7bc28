use Rattle.std.proofs.Common.{◌≡◌, ◌++◌, take}
use Rattle.std.specs.List.{flat_map}
use Rattle.std.specs.Prelude.{string_bytes}
use Rattle.lf_ast.specs.Tree.{tree}
use Rattle.lf_checks.specs.views.Keys.{node_code}
use Rattle.lf_checks.proofs.rule_key.put_expr.Given as goal

abbrev pub invariant-loop-node : goal.invariant-loop-node
invariant-loop-node l = string_bytes l.key ≡ string_bytes l.fn.key ++ flat_map (λ x. node_code (tree x.now)) (take l.node-index l.node-items)
