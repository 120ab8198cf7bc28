-- Rules by their numbers: which record a name, and which are read; and what is tried with them.
use Rattle.std.specs.Prelude.{◌≡◌, ◌↔◌, ℕ, suc, Bool, cond, eqb, nat_lt, List, [], ◌∷◌, ◌++◌, length, Option, Some, None, slice_get}
use Rattle.std.specs.List.{Contains, filter, list_any}
use Rattle.lf_laws.specs.Ascending.{AreAscending}
use Rattle.lf_ast.specs.Labels.{Bytes, Labels}
use Rattle.lf_ast.specs.Rules.{RuleTree}
use Rattle.lf_ast.specs.Tree.{Tree}
use Rattle.lf_deps.specs.Reading.{Reaches}
use Rattle.lf_semantics.specs.Environments.{records}

-- some rule records the name
abbrev pub is_recorded : List RuleTree → Bytes → Bool
is_recorded rules name = list_any (records name) rules

-- several rules record the name
abbrev pub has_several_rules : List RuleTree → Bytes → Bool
has_several_rules rules name = nat_lt 1 (length (filter (records name) rules))

-- the number is one of these
abbrev pub is_marked : List ℕ → ℕ → Bool
is_marked marked k = list_any (eqb k) marked

-- the reach of an expression: in ascending order the numbers of the rules that record a name which it reads
pub record IsReach (rules : List RuleTree) (e : Tree) (reach : List ℕ) : Type 0 where
  pub ascending : AreAscending reach
  pub members : (k : ℕ) → Contains reach k ↔ ((r : RuleTree) × (slice_get rules k ≡ Some r) × Reaches rules e r)

-- rule i and its reach, in ascending order, rule i once
abbrev pub with_reach : ℕ → List ℕ → List ℕ
with_reach i reach = filter (λ k. nat_lt k i) reach ++ (i ∷ filter (λ k. nat_lt i k) reach)

-- the first rule that passes, with its number, counted from k
abbrev pub first_rule : (ℕ → RuleTree → Bool) → ℕ → List RuleTree → Option (ℕ × RuleTree)
first_rule test k [] = None
first_rule test k (r ∷ rules) = cond (test k r) (Some (k, r)) (first_rule test (suc k) rules)

-- a trial: scraped series, and the numbers of the rules that are evaluated over them, in their order
pub record Trial : Type 0 where
  pub series : List Labels
  pub steps : List ℕ
