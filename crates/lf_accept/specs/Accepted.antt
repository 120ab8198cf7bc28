-- The rules that are accepted of a file, or why the file is refused.
--
-- A file is a tree, which says rules as they stand there. The expression of each is tokens, these are a tree within the bounds of depth, the tree has a type, and
-- nothing is wrong with its patterns and its selectors. A file that breaks a rule is refused with the first breach: one of the tree; else one of the rules; else one
-- of the first expression that has any, of its tokens, its depth and syntax, its types, or its patterns and selectors, in this order.
use Rattle.std.specs.Prelude.{◌≡◌, ℕ, cond, List, [], ◌∷◌, ◌++◌, length, map, slice_index}
use Rattle.std.specs.List.{AllByRecursion, AllZip}
use Rattle.lf_base.specs.declared.fault.Fault.{Fault}
use Rattle.lf_ast.specs.Breaches.{Tells}
use Rattle.lf_ast.specs.Labels.{Bytes}
use Rattle.lf_ast.specs.Rules.{RuleTree}
use Rattle.lf_ast.specs.Tree.{Tree}
use Rattle.lf_ast.specs.Types.{HasType}
use Rattle.lf_ast.specs.declared.expr.ExprType.{ExprType}
use Rattle.lf_ast.specs.declared.rule.RuleLabel.{RuleLabel}
use Rattle.lf_ast.specs.declared.rule.Template.{Template}
use Rattle.lf_lex.specs.Tokens.{Tokens, Breaks}
use Rattle.lf_lex.specs.declared.token.Token.{Token}
use Rattle.lf_parse.specs.Answer.{IsExpression, Refuses}
use Rattle.lf_rules.specs.Breaches.{FirstBreak}
use Rattle.lf_rules.specs.Rules.{IsRules}
use Rattle.lf_rules.specs.Sources.{Setting, Source}
use Rattle.lf_scalar.specs.Cells.{Value}
use Rattle.lf_semantics.specs.PatternBreaches.{BreaksPatterns, TellsPattern}
use Rattle.lf_yaml.specs.Document.{IsTree, TreeBreaks}
use Rattle.lf_yaml.specs.Tree.{Tree as FileTree}

-- ---- expressions

-- the source of what follows the text of a scalar
abbrev pub end_of : Value → ℕ
end_of v = slice_index v.from (length v.text)

-- an expression has a type, and breaks nothing by its patterns and its selectors
pub record IsJudged (e : Tree) : Type 0 where
  pub type : ExprType
  pub has_type : HasType e type
  pub unbroken : (f : Fault) → BreaksPatterns e f → ⊥

-- a scalar's text is tokens, and these are an expression within the bounds, which stands as judged
pub record IsExpr (v : Value) (e : Tree) : Type 0 where
  pub tokens : List Token
  pub are_tokens : Tokens v.from v.text tokens
  pub expression : IsExpression tokens e
  pub judged : IsJudged e

-- what breaks the expression that is to stand in a scalar: its tokens, its depth and syntax, its types, its patterns and selectors
pub data BreaksExpr (v : Value) : Fault → Type 0 where
  bad_tokens : {f : Fault} → Breaks v.from v.text f → BreaksExpr v f
  no_expression : {f : Fault} {tokens : List Token} → Tokens v.from v.text tokens → Refuses tokens (end_of v) f → BreaksExpr v f
  no_type : {f : Fault} {tokens : List Token} (e : Tree) → Tokens v.from v.text tokens → IsExpression tokens e → Tells e f → BreaksExpr v f
  bad_pattern : {f : Fault} {tokens : List Token} (e : Tree) (type : ExprType) → Tokens v.from v.text tokens → IsExpression tokens e → HasType e type → TellsPattern e f → BreaksExpr v f

-- ---- rules

abbrev pub label_of : Setting → RuleLabel
label_of s = record { key = s.0.text; key_span = s.0.span; value = s.1.text }

abbrev pub template_of : Setting → Template
template_of s = record { text = s.1.text; from = s.1.from }

-- the templates of an alert are the texts of its labels and then of its annotations; a recording rule has none
abbrev pub templates_of : Source → List Template
templates_of s = cond s.alert (map template_of (s.labels ++ s.annotations)) []

-- the rule of a file, as it stands there, with its expression
abbrev pub rule_of : ℕ → Source → Tree → RuleTree
rule_of file s e = record { file = file; alert = s.alert; name = s.name.text; name_span = s.name.span; expr = e; expr_span = s.expr.span; labels = map label_of s.labels; templates = templates_of s }

abbrev pub IsAcceptedRule : ℕ → Source → RuleTree → Type 0
IsAcceptedRule file s r = IsExpr s.expr r.expr × (r ≡ rule_of file s r.expr)

-- ---- files

-- the file's tree says these rules
abbrev pub Says : Bytes → List Source → Type 0
Says bytes sources = (t : FileTree) × IsTree bytes t × IsRules t sources

-- these are the rules of the file, in its order
pub record IsAccepted (bytes : Bytes) (file : ℕ) (rules : List RuleTree) : Type 0 where
  pub sources : List Source
  pub says : Says bytes sources
  pub are_rules : AllZip (IsAcceptedRule file) sources rules

-- the first thing of a list of which one fact holds: another holds of each before it
pub record IsFirst {X : Type 0} (before here : X → Type 0) (xs : List X) (x : X) : Type 0 where
  pub front : List X
  pub back : List X
  pub list : xs ≡ front ++ x ∷ back
  pub all_before : AllByRecursion before front
  pub is_here : here x

-- a rule's expression is one
abbrev pub HasExpr : Source → Type 0
HasExpr s = (e : Tree) × IsExpr s.expr e

-- why the file is refused
pub data RefusesFile (bytes : Bytes) : Fault → Type 0 where
  no_tree : {f : Fault} → TreeBreaks bytes f → RefusesFile bytes f
  no_rules : {t : FileTree} {f : Fault} → IsTree bytes t → FirstBreak t f → RefusesFile bytes f
  bad_expression : {sources : List Source} {s : Source} {f : Fault} → Says bytes sources → IsFirst HasExpr (λ s. BreaksExpr s.expr f) sources s → RefusesFile bytes f
