-- Rules without the addresses that the code's boxes have.
use Rattle.std.specs.Prelude.{ℕ, Bool, List, map}
use Rattle.lf_base.specs.declared.place.Span.{Span}
use Rattle.lf_ast.specs.Labels.{Bytes}
use Rattle.lf_ast.specs.Tree.{Tree, tree}
use Rattle.lf_ast.specs.declared.rule.Rule.{Rule}
use Rattle.lf_ast.specs.declared.rule.RuleLabel.{RuleLabel}
use Rattle.lf_ast.specs.declared.rule.Template.{Template}

-- a recording rule or an alert, with the number of its file
pub record RuleTree : Type 0 where
  pub file : ℕ
  pub alert : Bool
  pub name : Bytes
  pub name_span : Span
  pub expr : Tree
  pub expr_span : Span
  pub labels : List RuleLabel
  pub templates : List Template

-- what a rule of the code stands for
abbrev pub rule_tree : Rule → RuleTree
rule_tree r = record { file = r.file; alert = r.alert; name = r.name; name_span = r.name_span; expr = tree r.expr; expr_span = r.expr_span; labels = r.labels; templates = r.templates }

abbrev pub rule_trees : List Rule → List RuleTree
rule_trees rules = map rule_tree rules
