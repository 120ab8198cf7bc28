-- The list of the open constructs of a rule.
use Rattle.std.specs.Prelude.{◌≡◌, ℕ, List, [], ◌∷◌, ◌++◌, Option, None, Some, slice_get}
use Rattle.std.specs.Cmp.Lexicographic.{slice_cmp}
use Rattle.std.specs.List.{Contains}
use Rattle.std.specs.Ordering.{nat_cmp}
use Rattle.std.specs.declared.cmp.Ordering.{Ordering}
use Rattle.lf_laws.specs.Ascending.{IsAscending}
use Rattle.lf_base.specs.declared.place.Span.{Span}
use Rattle.lf_ast.specs.Rules.{RuleTree}
use Rattle.lf_ast.specs.Tree.{Tree}
use Rattle.lf_deps.specs.Ordering.{without}
use Rattle.lf_deps.specs.Reading.{Reaches}
use Rattle.lf_trials.specs.Reached.{IsReach}
use Rattle.lf_open.specs.Constructs.{IsOpenAt, number_of}
use Rattle.lf_semantics.specs.Standing.{standing}
use Rattle.lf_open.specs.declared.construct.Construct.{Construct}
use Rattle.lf_open.specs.declared.open_at.OpenAt.{OpenAt}

-- by what the open constructs of one rule are ordered: where they start, then by their code. Where both are the same, as no accepted rule has it, by where they end
abbrev pub key_of : OpenAt → List ℕ
key_of o = o.span.start ∷ number_of o.construct ∷ o.span.end ∷ []

abbrev pub open_cmp : OpenAt → OpenAt → Ordering
open_cmp o p = slice_cmp nat_cmp (key_of o) (key_of p)

module _ (rules : List RuleTree) where
  -- the construct stands open in the expression, at this span
  abbrev pub IsOpenIn : Tree → Construct → Span → Type 0
  IsOpenIn e construct span = (x : Tree) × Contains (standing e) x × IsOpenAt rules construct x span

  -- it stands open in the expression of rule k
  abbrev pub IsOpenOf : ℕ → OpenAt → Type 0
  IsOpenOf k o = (o.rule ≡ k) × ((r : RuleTree) × (slice_get rules k ≡ Some r) × IsOpenIn r.expr o.construct o.span)

  -- the list of what stands open in rule k: all of it and nothing else, and each less than those behind it, so none stands twice
  pub record AreOpenOf (k : ℕ) (found : List OpenAt) : Type 0 where
    pub each : (o : OpenAt) → Contains found o → IsOpenOf k o
    pub all : (o : OpenAt) → IsOpenOf k o → Contains found o
    pub ascending : IsAscending open_cmp found

  -- what stands open in some rules, one rule after the other
  abbrev pub AreOpenOfEach : List ℕ → List OpenAt → Type 0
  AreOpenOfEach [] found = found ≡ []
  AreOpenOfEach (k ∷ numbers) found = (own : List OpenAt) × (later : List OpenAt) × (found ≡ own ++ later) × AreOpenOf k own × AreOpenOfEach numbers later

  -- the open constructs of rule i: those of its own expression, and then those of each other rule of its reach, in ascending order of the rules' numbers
  abbrev pub AreOpen : ℕ → List OpenAt → Type 0
  AreOpen i found = (r : RuleTree) × (slice_get rules i ≡ Some r) × (reach : List ℕ) × IsReach rules r.expr reach × AreOpenOfEach (i ∷ without i reach) found

  -- the first construct that stands open for rule i, or none where nothing does
  abbrev pub IsFirstOpen : ℕ → Option OpenAt → Type 0
  IsFirstOpen i None = AreOpen i []
  IsFirstOpen i (Some first) = (later : List OpenAt) × AreOpen i (first ∷ later)

  -- nothing stands open in an expression or in a rule that it reads
  pub record IsSettled (e : Tree) : Type 0 where
    pub own : (construct : Construct) (span : Span) → IsOpenIn e construct span → ⊥
    pub read : (r : RuleTree) → Contains rules r → Reaches rules e r → (construct : Construct) (span : Span) → IsOpenIn r.expr construct span → ⊥
