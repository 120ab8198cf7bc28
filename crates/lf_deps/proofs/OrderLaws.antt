-- The order of rules has the number of each rule, and no other.
use Rattle.std.proofs.Common.{ℕ, ◌<◌, List, [], ◌∷◌, length, inl, inr, sym, subst}
use Rattle.std.specs.List.{Contains, range_with_len}
use Rattle.std.proofs.lemmas.Bool.{cases_eq}
use Rattle.lf_ast.specs.Rules.{RuleTree}
use Rattle.lf_laws.proofs.Members.{behind, first_or_behind, here, none_in}
use Rattle.lf_deps.specs.Ordering.{IsOrder, IsOrderOf, without}
use Rattle.lf_deps.proofs.Ascending.{in_range, in_without, of_range, of_without}

each_left : (rules : List RuleTree) (order left : List ℕ) → IsOrderOf rules left order → (j : ℕ) → Contains left j → Contains order j
each_left rules [] left is j c = let P : List ℕ → Type 0 = λ l. Contains l j in absurd (none_in j (subst P is c))
each_left rules (k ∷ order) left is j c = elim (cases_eq j k) [
  | inl e ↦ let P : ℕ → Type 0 = λ i. Contains (k ∷ order) i in subst P (sym e) (here k order)
  | inr f ↦ behind k order j (each_left rules order (without k left) is.1 j (in_without k j left c f))
]

only_left : (rules : List RuleTree) (order left : List ℕ) → IsOrderOf rules left order → (j : ℕ) → Contains order j → Contains left j
only_left rules [] left is j c = absurd (none_in j c)
only_left rules (k ∷ order) left is j c = elim (first_or_behind k order j c) [
  | inl e ↦ let P : ℕ → Type 0 = λ i. Contains left i in subst P e is.0.0
  | inr d ↦ (of_without k j left (only_left rules order (without k left) is.1 j d)).0
]

-- each rule is in its order
pub each_ordered : (rules : List RuleTree) (order : List ℕ) → IsOrder rules order → (j : ℕ) → j < length rules → Contains order j
each_ordered rules order is j h = each_left rules order (range_with_len 0 (length rules)) is j (in_range (length rules) j h)

-- only rules are
pub ordered_below : (rules : List RuleTree) (order : List ℕ) → IsOrder rules order → (j : ℕ) → Contains order j → j < length rules
ordered_below rules order is j c = of_range (length rules) j (only_left rules order (range_with_len 0 (length rules)) is j c)
