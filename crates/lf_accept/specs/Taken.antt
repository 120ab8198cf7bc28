-- What is taken of an allowance for the patterns of a file. It goes by the text of the file alone.
--
-- The expressions are judged one after another up to the first that is refused. What the patterns of one count is taken once it has a type, right before they are read.
use Rattle.std.specs.Prelude.{◌+◌, ℕ, List, [], ◌∷◌, Result, Ok, Err}
use Rattle.lf_base.specs.Answers.{IfAt}
use Rattle.lf_base.specs.declared.fault.Fault.{Fault}
use Rattle.lf_base.specs.declared.refusal.Refusal.{Refusal}
use Rattle.lf_ast.specs.Labels.{Bytes}
use Rattle.lf_ast.specs.Tree.{Tree}
use Rattle.lf_rules.specs.Breaches.{FirstBreak}
use Rattle.lf_rules.specs.Sources.{Source}
use Rattle.lf_scalar.specs.Cells.{Value}
use Rattle.lf_yaml.specs.Document.{IsTree, TreeBreaks}
use Rattle.lf_yaml.specs.Tree.{Tree as FileTree}
use Rattle.lf_accept.specs.Accepted.{BreaksExpr, IsExpr, Says, bad_pattern}
use Rattle.lf_accept.specs.Allowance.{count_in}

-- what is taken of an expression that is refused: what its patterns count, where it is refused for its patterns or its selectors, and else nothing
abbrev pub taken_at : {v : Value} {f : Fault} → BreaksExpr v f → ℕ
taken_at (bad_pattern e type tokens expression typed told) = count_in e
taken_at _ = 0

-- what is taken of rules, up to the first whose expression is refused
pub data RulesTake : List Source → ℕ → Type 0 where
  all_read : RulesTake [] 0
  accepted : {s : Source} {ss : List Source} {n : ℕ} (e : Tree) → IsExpr s.expr e → RulesTake ss n → RulesTake (s ∷ ss) (count_in e + n)
  refused : {s : Source} {ss : List Source} {f : Fault} (breach : BreaksExpr s.expr f) → RulesTake (s ∷ ss) (taken_at breach)

-- what is taken of a file: nothing where it says no rules
pub data FileTakes (bytes : Bytes) : ℕ → Type 0 where
  no_tree : {f : Fault} → TreeBreaks bytes f → FileTakes bytes 0
  no_rules : {t : FileTree} {f : Fault} → IsTree bytes t → FirstBreak t f → FileTakes bytes 0
  of_rules : {sources : List Source} {n : ℕ} → Says bytes sources → RulesTake sources n → FileTakes bytes n

-- what holds once a file is answered, with its rules or with a breach; want of memory says nothing
abbrev pub IfTold : {X : Type 0} → Result X Refusal → Type 0 → Type 0
IfTold (Ok x) P = P
IfTold (Err refusal) P = IfAt refusal (λ f. P)
