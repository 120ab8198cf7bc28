-- Where the universe covers rules, it covers the expression of each, and where it covers an expression, the parts in it.
use Rattle.std.proofs.Common.{inl, inr, List, ◌++◌, Option, Some, None, subst}
use Rattle.std.specs.List.{Contains}
use Rattle.std.proofs.lemmas.List.Elements.{Contains-append_cases}
use Rattle.lf_laws.proofs.Members.{all_back, all_front, first_or_behind, none_in, only_one}
use Rattle.lf_ast.specs.Arguments.{texts_of}
use Rattle.lf_ast.specs.Functions.{Signature, function_named}
use Rattle.lf_ast.specs.Rules.{RuleTree}
use Rattle.lf_ast.specs.Tree.{Tree, Trees, Number, Str, Selector, Subquery, Paren, Unary, Binary, Call, Aggregate, Nil, Next, nodes, nodes_in}
use Rattle.lf_semantics.specs.Environments.{Covers, CoversRules, IsKnown}
use Rattle.lf_semantics.specs.Listing.{Listing}
use Rattle.lf_semantics.specs.Mentions.{arguments_mentions, call_mentions, mentions, modifier_mentions}
use Rattle.lf_semantics.proofs.Constructs.{AllKnown, operands_known}
use Rattle.lf_semantics.proofs.Operands.{aggregate_known}

-- the expression of a rule among rules that are covered
pub rule_covered : (u : Listing) (rules : List RuleTree) → CoversRules u rules → (r : RuleTree) → Contains rules r → Covers u r.expr
rule_covered u rules covers r c = all_front (IsKnown u) (mentions r.expr) _ (covers r c)

module _ (u : Listing) where
  -- what arguments name is known
  pub call_operands : (o : Option Signature) (args : Trees) → AllKnown u (call_mentions o (texts_of args) (arguments_mentions args)) → AllKnown u (arguments_mentions args)
  call_operands None args known = known
  call_operands (Some s) args known = operands_known u s.labels (texts_of args) (arguments_mentions args) known

  mutual
    pub part_covered : (e x : Tree) → Covers u e → Contains (nodes e) x → Covers u x
    part_covered (Number text span) x known c = subst (Covers u) (only_one (Number text span) x c) known
    part_covered (Str text span) x known c = subst (Covers u) (only_one (Str text span) x c) known
    part_covered (Selector name matchers sight span) x known c = subst (Covers u) (only_one (Selector name matchers sight span) x c) known
    part_covered (Subquery of sight span) x known c = elim (first_or_behind (Subquery of sight span) (nodes of) x c) [
      | inl e ↦ subst (Covers u) e known
      | inr d ↦ part_covered of x known d
    ]
    part_covered (Paren of span) x known c = elim (first_or_behind (Paren of span) (nodes of) x c) [
      | inl e ↦ subst (Covers u) e known
      | inr d ↦ part_covered of x known d
    ]
    part_covered (Unary minus of span) x known c = elim (first_or_behind (Unary minus of span) (nodes of) x c) [
      | inl e ↦ subst (Covers u) e known
      | inr d ↦ part_covered of x known d
    ]
    part_covered (Binary op m left right span) x known c = elim (first_or_behind (Binary op m left right span) (nodes left ++ nodes right) x c) [
      | inl e ↦ subst (Covers u) e known
      | inr d ↦ elim (Contains-append_cases (nodes left) (nodes right) x d) [
        | inl l ↦ part_covered left x (all_front (IsKnown u) (mentions left) (modifier_mentions m ++ mentions right) known) l
        | inr r ↦ part_covered right x (all_back (IsKnown u) (modifier_mentions m) (mentions right) (all_back (IsKnown u) (mentions left) (modifier_mentions m ++ mentions right) known)) r
      ]
    ]
    part_covered (Call name args span) x known c = elim (first_or_behind (Call name args span) (nodes_in args) x c) [
      | inl e ↦ subst (Covers u) e known
      | inr d ↦ argument_covered args x (call_operands (function_named name) args known) d
    ]
    part_covered (Aggregate op grouping args span) x known c = elim (first_or_behind (Aggregate op grouping args span) (nodes_in args) x c) [
      | inl e ↦ subst (Covers u) e known
      | inr d ↦ argument_covered args x (aggregate_known u op grouping args span known).2 d
    ]

    pub argument_covered : (args : Trees) (x : Tree) → AllKnown u (arguments_mentions args) → Contains (nodes_in args) x → Covers u x
    argument_covered Nil x known c = absurd (none_in x c)
    argument_covered (Next y ys) x known c = elim (Contains-append_cases (nodes y) (nodes_in ys) x c) [
      | inl l ↦ part_covered y x (all_front (IsKnown u) (mentions y) (arguments_mentions ys) known) l
      | inr r ↦ argument_covered ys x (all_back (IsKnown u) (mentions y) (arguments_mentions ys) known) r
    ]
