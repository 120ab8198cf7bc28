-- Lists that grow by the open constructs that meet a condition. It defines nothing.
use Rattle.std.specs.Prelude.{◌≡◌, ◌⊎◌, ◌↔◌, ℕ, true, false, List, Some}
use Rattle.std.specs.List.{Contains}
use Rattle.lf_laws.specs.Gaining.{Gains}
use Rattle.lf_ast.specs.Rules.{RuleTree}
use Rattle.lf_ast.specs.Tree.{Tree, span_of}
use Rattle.lf_ast.specs.declared.expr.Matcher.{Matcher}
use Rattle.lf_ast.specs.declared.functions.LabelEffect.TheVariants.{Absent}
use Rattle.lf_semantics.specs.Parts.{sought_in}
use Rattle.lf_semantics.specs.Passing.{is_plain}
use Rattle.lf_semantics.specs.PatternBreaches.{takes_pattern}
use Rattle.lf_witness.specs.Strict.{IsOpenAbsent}
use Rattle.lf_open.specs.Constructs.{IsOpenAt, NarrowsFork, SaysCyclicName, effect_of}
use Rattle.lf_open.specs.Holding.{arguments_of}
use Rattle.lf_open.specs.OpenList.{IsOpenIn}
use Rattle.lf_semantics.specs.Standing.{standing}
use Rattle.lf_open.specs.declared.construct.Construct.{Construct}
use Rattle.lf_open.specs.declared.construct.Construct.TheVariants.{ComplexPattern, CyclicName, Forked, MadeLabel, OpenAbsent, UnnamedSelector}
use Rattle.lf_open.specs.declared.open_at.OpenAt.{OpenAt}

-- the list gains those that meet the condition
abbrev pub Adds : (OpenAt → Type 0) → List OpenAt → List OpenAt → Type 0
Adds = Gains (λ (l : List OpenAt). l)

-- it is this construct, open at the expression, of the rule of this number
pub record IsOf (rules : List RuleTree) (of : Construct) (number : ℕ) (e : Tree) (o : OpenAt) : Type 0 where
  pub construct : o.construct ≡ of
  pub rule : o.rule ≡ number
  pub stands : IsOpenAt rules of e o.span

-- it is the pattern of the matcher, which isn't plain
abbrev pub IsComplexAt : ℕ → Matcher → OpenAt → Type 0
IsComplexAt rule m o = ((takes_pattern m.op ≡ true) × (is_plain m.value ≡ false)) × (o ≡ record { construct = ComplexPattern; rule = rule; span = m.value_span })

module _ (rules : List RuleTree) (number : ℕ) (e : Tree) where
  -- one of the constructs that are open whatever the rules are
  abbrev pub IsByForm : OpenAt → Type 0
  IsByForm o = IsOf rules UnnamedSelector number e o ⊎ (IsOf rules MadeLabel number e o ⊎ IsOf rules ComplexPattern number e o)

  -- it is this construct, where something holds of the expression, at the operator, the word or the selector
  abbrev pub IsAt : Type 0 → Construct → OpenAt → Type 0
  IsAt holds construct o = holds × (o ≡ record { construct = construct; rule = number; span = span_of e })

  -- one of those that are open by a name that a selector says, or by the selector of an `absent`
  abbrev pub IsByNames : OpenAt → Type 0
  IsByNames o =
      IsAt (SaysCyclicName rules e) CyclicName o
      ⊎ (IsAt (NarrowsFork rules e) Forked o ⊎ IsAt ((effect_of e ≡ Some Absent) × IsOpenAbsent (sought_in (arguments_of e))) OpenAbsent o)

  -- one of all these
  abbrev pub IsByItself : OpenAt → Type 0
  IsByItself o = IsByForm o ⊎ IsByNames o

  -- it is open at the expression, of the rule of this number
  abbrev pub IsOpenNode : OpenAt → Type 0
  IsOpenNode o = (o.rule ≡ number) × IsOpenAt rules o.construct e o.span

-- they are those of all expressions that stand in one, in whatever order and however often
abbrev pub IsOpenByItself : List RuleTree → ℕ → Tree → List OpenAt → Type 0
IsOpenByItself rules number e found = (o : OpenAt) → Contains found o ↔ ((x : Tree) × Contains (standing e) x × IsByItself rules number x o)

-- they are what is open in the expression, of the rule of this number, in whatever order and however often
abbrev pub AreFound : List RuleTree → ℕ → Tree → List OpenAt → Type 0
AreFound rules number e found = (o : OpenAt) → Contains found o ↔ ((o.rule ≡ number) × IsOpenIn rules e o.construct o.span)
