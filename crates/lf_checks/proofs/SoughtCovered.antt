-- Where the universe covers an expression, it covers the operands on which it seeks labels.
use Rattle.std.proofs.Common.{◌≡◌, inl, inr, ℕ, zero, suc, ◌++◌, Some, sym, subst}
use Rattle.lf_laws.proofs.Members.{all_back, all_front}
use Rattle.lf_ast.specs.Functions.{aggregation}
use Rattle.lf_ast.specs.Tree.{Tree, Trees, Number, Str, Selector, Subquery, Paren, Unary, Binary, Call, Aggregate, Nil, Next}
use Rattle.lf_ast.specs.declared.expr.Group.{Group}
use Rattle.lf_ast.specs.declared.expr.Group.TheVariants.{One, Left, Right}
use Rattle.lf_ast.specs.declared.expr.Grouping.TheVariants.{None as Ungrouped, By, Without}
use Rattle.lf_ast.specs.declared.expr.Name.{Name}
use Rattle.lf_semantics.specs.Environments.{Covers, IsKnown}
use Rattle.lf_semantics.specs.Listing.{Listing}
use Rattle.lf_semantics.specs.Mentions.{arguments_mentions, mentions, modifier_mentions}
use Rattle.lf_semantics.specs.Parts.{argument_at, operand_place}
use Rattle.lf_semantics.proofs.Constructs.{AllKnown}
use Rattle.lf_semantics.proofs.Operands.{aggregate_known}
use Rattle.lf_checks.specs.MatchLabel.{MatchSeeks, Seeks, one_side}

module _ (u : Listing) where
  operand_covered : (args : Trees) (k : ℕ) (x : Tree) → AllKnown u (arguments_mentions args) → argument_at args k ≡ Some x → Covers u x
  operand_covered Nil k x known e = absurd (cc)
  operand_covered (Next y ys) zero x known e = let same : y ≡ x = cc in subst (Covers u) same (all_front (IsKnown u) (mentions y) (arguments_mentions ys) known)
  operand_covered (Next y ys) (suc k) x known e = operand_covered ys k x (all_back (IsKnown u) (mentions y) (arguments_mentions ys) known) e

  side_covered : (group : Group) (left right x : Tree) → Covers u left → Covers u right → one_side group left right ≡ Some x → Covers u x
  side_covered One left right x known too e = absurd (cc)
  side_covered Left left right x known too e = let same : right ≡ x = cc in subst (Covers u) same too
  side_covered Right left right x known too e = let same : left ≡ x = cc in subst (Covers u) same known

  pub sought_covered : (e : Tree) (label : Name) (operand : Tree) → Covers u e → Seeks e label operand → Covers u operand
  sought_covered (Number text span) label operand known seeks = absurd seeks
  sought_covered (Str text span) label operand known seeks = absurd seeks
  sought_covered (Selector name matchers sight span) label operand known seeks = absurd seeks
  sought_covered (Subquery of sight span) label operand known seeks = absurd seeks
  sought_covered (Paren of span) label operand known seeks = absurd seeks
  sought_covered (Unary minus of span) label operand known seeks = absurd seeks
  sought_covered (Call name args span) label operand known seeks = absurd seeks
  sought_covered (Aggregate op Ungrouped args span) label operand known seeks = absurd seeks
  sought_covered (Aggregate op (Without labels) args span) label operand known seeks = absurd seeks
  sought_covered (Aggregate op (By labels) args span) label operand known seeks = operand_covered args (operand_place (aggregation op)) operand (aggregate_known u op (By labels) args span known).2 seeks.1
  sought_covered (Binary op m left right span) label operand known (_, _, seeks) =
      by (all_front (IsKnown u) (mentions left) (modifier_mentions m ++ mentions right) known)
      (all_back (IsKnown u) (modifier_mentions m) (mentions right) (all_back (IsKnown u) (mentions left) (modifier_mentions m ++ mentions right) known)) seeks
    where
      by : Covers u left → Covers u right → MatchSeeks m left right label operand → Covers u operand
      by known too (inl (c, inl e)) = subst (Covers u) (sym e) known
      by known too (inl (c, inr e)) = subst (Covers u) (sym e) too
      by known too (inr (c, e)) = side_covered m.group left right operand known too e
