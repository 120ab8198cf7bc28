-- What stands open first in rules, and what is kept of it: how contracts see the code. It defines nothing.
use Rattle.std.specs.Prelude.{◌≡◌, ℕ, List, Option, Some, None, length, slice_get}
use Rattle.lf_ast.specs.Rules.{RuleTree}
use Rattle.lf_open.specs.OpenList.{AreOpenOf, AreOpenOfEach}
use Rattle.lf_open.specs.declared.firsts.OpenFirsts.{OpenFirsts}
use Rattle.lf_open.specs.declared.open_at.OpenAt.{OpenAt}
use Rattle.lf_open.specs.views.Opens.{AreReady, rules_of_opens}

module _ (rules : List RuleTree) where
  -- it is the first of what stands open in the expression of rule k, and none exactly where nothing does
  abbrev pub IsOwnFirst : ℕ → Option OpenAt → Type 0
  IsOwnFirst k first = (own : List OpenAt) × AreOpenOf rules k own × (first ≡ slice_get own 0)

  -- it is the first of what stands open in some rules, one rule after the other
  abbrev pub IsFirstOfEach : List ℕ → Option OpenAt → Type 0
  IsFirstOfEach numbers first = (found : List OpenAt) × AreOpenOfEach rules numbers found × (first ≡ slice_get found 0)

  -- there is a place for each rule, and what is kept at it is the first of what stands open in that rule's expression
  pub record AreKept (kept : List (Option (Option OpenAt))) : Type 0 where
    pub count : length kept ≡ length rules
    pub each : (k : ℕ) (first : Option OpenAt) → slice_get kept k ≡ Some (Some first) → IsOwnFirst k first

-- the rules
abbrev pub rules_in : OpenFirsts → List RuleTree
rules_in f = rules_of_opens f.opens.now

-- all is as it is to be
pub record AreFirstsReady (f : OpenFirsts) : Type 0 where
  pub opens : AreReady f.opens.now
  pub kept : AreKept (rules_in f) f.own.items

-- the first of two, and else the other
abbrev pub earlier : Option OpenAt → Option OpenAt → Option OpenAt
earlier None later = later
earlier (Some first) later = Some first
