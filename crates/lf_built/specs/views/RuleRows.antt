-- What is told of rules, one by one: how contracts see the code. It defines nothing.
use Rattle.std.specs.Prelude.{◌≡◌, false, List, Option, Some, None}
use Rattle.std.specs.List.{AllZip}
use Rattle.lf_ast.specs.Labels.{Bytes}
use Rattle.lf_ast.specs.Rules.{RuleTree}
use Rattle.lf_ast.specs.Tree.{nodes}
use Rattle.lf_trials.specs.Forks.{has_passing}
use Rattle.lf_forks.specs.views.Holding.{Forks, test_of}
use Rattle.lf_semantics.specs.ClassRows.{Sets}
use Rattle.lf_semantics.specs.Environments.{recorded_row, rule_row}
use Rattle.lf_semantics.specs.Listing.{Listing}
use Rattle.lf_semantics.specs.RowTable.{Environment, row_named, row_of}
use Rattle.lf_built.specs.declared.row_making.RuleRow.{RuleRow}
use Rattle.lf_built.specs.views.PartRows.{part_rows}
use Rattle.lf_built.specs.views.Unsaid.{AreSought}

-- the row of a rule: that of its whole expression where it isn't told
abbrev pub own_or : Option Sets → Sets → Sets
own_or None whole = whole
own_or (Some row) whole = row

-- the row of what a rule of a name stores: the same as is told, and the row of the name in the environment where none is told
abbrev pub IsStored : Environment → Bytes → Sets → Option Sets → Type 0
IsStored e name stored (Some row) = row ≡ stored
IsStored e name stored None = row_named e name ≡ Some stored

module _ (u : Listing) (e : Environment) (forks : Forks) where
  -- this is told of one of some rules
  pub record IsRowOf (rules : List RuleTree) (r : RuleTree) (row : RuleRow) : Type 0 where
    pub parts : row.parts ≡ part_rows u e (has_passing (test_of forks)) (nodes r.expr)
    pub names : AreSought u rules (nodes r.expr) row.names
    pub own : own_or row.own (row_of u e r.expr) ≡ rule_row u e r
    pub recorded : r.alert ≡ false → IsStored e r.name (recorded_row u e r) row.recorded

  -- this is told of the rules, of each in its place
  abbrev pub AreRowsOf : List RuleTree → List RuleRow → Type 0
  AreRowsOf rules rows = AllZip (IsRowOf rules) rules rows
