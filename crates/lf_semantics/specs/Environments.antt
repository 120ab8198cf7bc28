-- Environments: a row for each recorded name. The post-fixed points of the rules, and the least of these.
use Rattle.std.specs.Prelude.{◌≡◌, ◌≢◌, ◌<◌, ◌&&◌, ℕ, Bool, true, false, not, cond, List, [], ◌∷◌, map, length, Some, None}
use Rattle.std.specs.List.{AllByRecursion, Contains}
use Rattle.std.specs.Str.{bytes_eq}
use Rattle.lf_ast.specs.Labels.{Bytes, Labels}
use Rattle.lf_ast.specs.Rules.{RuleTree}
use Rattle.lf_ast.specs.Tree.{Tree}
use Rattle.lf_ast.specs.declared.rule.RuleLabel.{RuleLabel}
use Rattle.lf_ast.specs.Selectors.{metric}
use Rattle.lf_semantics.specs.ClassRows.{HasShape, Represents, Sets, bottom, holds, is_live, normalized, set_to}
use Rattle.lf_semantics.specs.Listing.{Listing, class_of, first_seen, label_of, other_class}
use Rattle.lf_semantics.specs.Parts.{is_evaluated, type_by_form}
use Rattle.lf_semantics.specs.RowTable.{Environment, row_named, row_of}
use Rattle.lf_semantics.specs.Texts.{HasTexts, value_of}
use Rattle.lf_semantics.specs.Mentions.{Mention, mentions, rule_mentions}

-- what is named is in the universe

-- the label is one of the names, and each text is the empty one or a class of its own
abbrev pub IsKnown : Listing → Mention → Type 0
IsKnown u m = (label_of u m.label < length u.names) × AllByRecursion (λ text. class_of u (label_of u m.label) text < other_class u (label_of u m.label)) m.texts

abbrev pub Covers : Listing → Tree → Type 0
Covers u e = AllByRecursion (IsKnown u) (mentions e)

abbrev pub CoversRules : Listing → List RuleTree → Type 0
CoversRules u rules = (r : RuleTree) → Contains rules r → AllByRecursion (IsKnown u) (rule_mentions r)

-- rows of rules

-- the row of a rule: a rule that is a string or a range vector gives nothing
abbrev pub rule_row : Listing → Environment → RuleTree → Sets
rule_row u env r = cond (is_evaluated (type_by_form r.expr)) (row_of u env r.expr) (bottom u)

abbrev pub with_text : Listing → Bytes → Bytes → Sets → Sets
with_text u name text row = set_to (label_of u name) (class_of u (label_of u name) text) row

abbrev pub with_texts : Listing → List RuleLabel → Sets → Sets
with_texts u [] row = row
with_texts u (l ∷ ls) row = with_text u l.key l.value (with_texts u ls row)

-- the row of what a recording rule stores
abbrev pub recorded_row : Listing → Environment → RuleTree → Sets
recorded_row u env r = with_texts u r.labels (with_text u metric r.name (rule_row u env r))

-- environments

-- the rule records the name
abbrev pub records : Bytes → RuleTree → Bool
records name r = not r.alert && bytes_eq r.name name

abbrev pub names_recorded : List RuleTree → List Bytes
names_recorded [] = []
names_recorded (r ∷ rules) = cond r.alert (names_recorded rules) (r.name ∷ names_recorded rules)

-- the recorded names, each once, in the order in which they come first
abbrev pub recorded_names : List RuleTree → List Bytes
recorded_names rules = first_seen (names_recorded rules)

-- a row of a universe; where some label has no class it is the empty row
abbrev pub IsRow : Listing → Sets → Type 0
IsRow u row = HasShape u row × (normalized row ≡ row)

-- an environment: rows, each of a name that is a class of `__name__`
pub record IsEnvironment (u : Listing) (env : Environment) : Type 0 where
  pub rows : AllByRecursion (λ entry. IsRow u entry.1) env
  pub classes : AllByRecursion (λ entry. class_of u (label_of u metric) entry.0 < other_class u (label_of u metric)) env

-- an environment of rules has a row for each recorded name
pub record IsEnvironmentOf (u : Listing) (rules : List RuleTree) (env : Environment) : Type 0 where
  pub environment : IsEnvironment u env
  pub names : map (λ entry. entry.0) env ≡ recorded_names rules

-- the order of rows: the first is the empty row, or the second isn't and has each of its classes
abbrev pub Leq : Sets → Sets → Type 0
Leq row other = is_live row ≡ true → (is_live other ≡ true) × ((label class : ℕ) → holds row label class ≡ true → holds other label class ≡ true)

-- the order of environments of the same names, row by row
abbrev pub EnvironmentLeq : Environment → Environment → Type 0
EnvironmentLeq [] [] = Unit {0}
EnvironmentLeq (a ∷ env) (b ∷ other) = (a.0 ≡ b.0) × Leq a.1 b.1 × EnvironmentLeq env other
EnvironmentLeq _ _ = ⊥

-- an environment holds a rule: the row of what it stores, if it is a recording rule, is at most the row of its name
abbrev pub HoldsRule : Listing → Environment → RuleTree → Type 0
HoldsRule u env r = r.alert ≡ false → (row : Sets) × (row_named env r.name ≡ Some row) × Leq (recorded_row u env r) row

-- a post-fixed point of the rules: it holds each of them
abbrev pub IsPostFixedPoint : Listing → List RuleTree → Environment → Type 0
IsPostFixedPoint u rules env = (r : RuleTree) → Contains rules r → HoldsRule u env r

-- the least post-fixed point
pub record IsLeast (u : Listing) (rules : List RuleTree) (env : Environment) : Type 0 where
  pub of_rules : IsEnvironmentOf u rules env
  pub closed : IsPostFixedPoint u rules env
  pub least : (other : Environment) → IsEnvironmentOf u rules other → IsPostFixedPoint u rules other → EnvironmentLeq env other

-- the scraped series S and the recorded samples N are as an environment says: no text of them is empty, each series has a name that isn't recorded, and each recorded
-- sample is represented by the row of its name
pub record Admits (u : Listing) (env : Environment) (S N : List Labels) : Type 0 where
  pub scraped : (s : Labels) → Contains S s → HasTexts s × (value_of s metric ≢ []) × (row_named env (value_of s metric) ≡ None)
  pub recorded : (s : Labels) → Contains N s → HasTexts s × (row : Sets) × (row_named env (value_of s metric) ≡ Some row) × Represents u row s
