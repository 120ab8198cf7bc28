-- What a rule of a file says, without where it lies in memory.
use Rattle.std.specs.Prelude.{ℕ, Bool, List, map}
use Rattle.std.specs.List.{AllByRecursion}
use Rattle.lf_scalar.specs.Cells.{Value}
use Rattle.lf_scalar.specs.Scalars.{value}
use Rattle.lf_yaml.specs.Insides.{ScalarInside}
use Rattle.lf_rules.specs.declared.source.Pair.{Pair}
use Rattle.lf_rules.specs.declared.source.PairInTree.{PairInTree}
use Rattle.lf_rules.specs.declared.source.RuleInTree.{RuleInTree}
use Rattle.lf_rules.specs.declared.source.RuleSource.{RuleSource}

-- a key and its text
abbrev pub Setting : Type 0
Setting = Value × Value

pub record Source : Type 0 where
  pub alert : Bool
  pub name : Value
  pub expr : Value
  pub labels : List Setting
  pub annotations : List Setting
  pub group : ℕ

abbrev pub setting : Pair → Setting
setting p = (value p.key, value p.value)

abbrev pub source : RuleSource → Source
source r = record {
  alert = r.alert;
  name = value r.name;
  expr = value r.expr;
  labels = map setting r.labels;
  annotations = map setting r.annotations;
  group = r.group;
}

-- the same of what stands in a tree
abbrev pub setting_in : PairInTree → Setting
setting_in p = (value p.key.now, value p.value.now)

abbrev pub source_in : RuleInTree → Source
source_in r = record {
  alert = r.alert;
  name = value r.name.now;
  expr = value r.expr.now;
  labels = map setting_in r.labels;
  annotations = map setting_in r.annotations;
  group = r.group;
}

-- the scalars of a rule lie in a file of n bytes
abbrev pub SettingInside : ℕ → Setting → Type 0
SettingInside n s = ScalarInside n s.0 × ScalarInside n s.1

pub record SourceInside (n : ℕ) (r : Source) : Type 0 where
  pub name : ScalarInside n r.name
  pub expr : ScalarInside n r.expr
  pub labels : AllByRecursion (SettingInside n) r.labels
  pub annotations : AllByRecursion (SettingInside n) r.annotations

abbrev pub SourcesInside : ℕ → List Source → Type 0
SourcesInside n rs = AllByRecursion (SourceInside n) rs
