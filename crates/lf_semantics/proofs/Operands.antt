-- What a call or an aggregation names.
use Rattle.std.proofs.Common.{◌≡◌, Option, Some, subst}
use Rattle.lf_base.specs.declared.place.Span.{Span}
use Rattle.lf_ast.specs.Arguments.{texts_of}
use Rattle.lf_ast.specs.Functions.{Signature, aggregation, function_named}
use Rattle.lf_ast.specs.Labels.{Bytes}
use Rattle.lf_ast.specs.Tree.{Trees, Call, Aggregate}
use Rattle.lf_ast.specs.declared.expr.Agg.{Agg}
use Rattle.lf_ast.specs.declared.expr.Grouping.{Grouping}
use Rattle.lf_semantics.specs.Environments.{Covers}
use Rattle.lf_semantics.specs.Listing.{Listing}
use Rattle.lf_semantics.specs.Mentions.{arguments_mentions, call_mentions, effect_mentions, group_names, names_mentions, stands_first}
use Rattle.lf_semantics.proofs.Constructs.{AllKnown, operands_known}
use Rattle.lf_semantics.proofs.Numbered.{AreKnown}
use Rattle.lf_semantics.proofs.Soundness.{grouped_known}

module _ (u : Listing) where
  -- what a call names by its own strings, and what its arguments name
  pub call_known : (name : Bytes) (args : Trees) (span : Span) (s : Signature) → function_named name ≡ Some s → Covers u (Call name args span)
      → AllKnown u (effect_mentions s.labels (texts_of args) (arguments_mentions args)) × AllKnown u (arguments_mentions args)
  call_known name args span s is known =
      let P : Option Signature → Type 0 = λ o. AllKnown u (call_mentions o (texts_of args) (arguments_mentions args)) in
      let own = subst P is known in
      (own, operands_known u s.labels (texts_of args) (arguments_mentions args) own)

  -- and so for an aggregation, with its grouping
  pub aggregate_known : (op : Agg) (grouping : Grouping) (args : Trees) (span : Span) → Covers u (Aggregate op grouping args span)
      → AreKnown u (group_names grouping) × AllKnown u (effect_mentions (aggregation op).labels (texts_of args) (arguments_mentions args)) × AllKnown u (arguments_mentions args)
  aggregate_known op grouping args span known =
      let both = grouped_known u (stands_first (group_names grouping) args) (names_mentions (group_names grouping)) (effect_mentions (aggregation op).labels (texts_of args) (arguments_mentions args)) known in
      (both.0, both.1, operands_known u (aggregation op).labels (texts_of args) (arguments_mentions args) both.1)
