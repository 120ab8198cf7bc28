use Rattle.std.proofs.Common.{◌≡◌, ◌<◌, List, [], ◌∷◌, length, Option, refl, ◌∙◌, arith}
use Rattle.std.specs.Option.{option_map}
use Rattle.lf_ast.specs.Labels.{Bytes}
use Rattle.lf_ast.specs.Tree.{trees}
use Rattle.lf_ast.specs.declared.expr.Expr.{Expr}
use Rattle.lf_ast.specs.declared.expr.Grouping.{Grouping}
use Rattle.lf_ast.specs.declared.functions.LabelEffect.TheVariants.{Date}
use Rattle.lf_trials.specs.Follow.{follow_effect, without_name}
use Rattle.lf_uniform.proofs.effects.dated.Goals as goal

some_argument : (label : Bytes) (grouping : Grouping) (args : List Expr) (text : Option Bytes) → 0 < length args → option_map (without_name label) text ≡ follow_effect label Date grouping (trees args) text
some_argument label grouping [] text h = absurd (omega arith)
some_argument label grouping (e ∷ args) text h = refl

pub returns-in-len1-up : goal.returns-in-len1-up
returns-in-len1-up c = λ grouping. c.nameless.ensures ∙ some_argument c.args.label.now grouping c.args.args.now c.args.text (omega (arith, c.in-len1-up.len_at_least))
