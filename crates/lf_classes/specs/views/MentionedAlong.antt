-- What an expression mentions is what it names itself and what its parts mention, in the order of its text: the law by which a visitor lists it.
use Rattle.std.specs.Prelude.{◌≡◌, Bool, true, false, List, [], ◌∷◌, ◌++◌, Option, Some, None, cond, refl}
use Rattle.std.proofs.Common.{sym, ◌∙◌, ap, append-nil, append_assoc}
use Rattle.std.proofs.lemmas.List.Sums.{fold-append}
use Rattle.lf_ast.specs.Arguments.{texts_of}
use Rattle.lf_ast.specs.Functions.{Signature, aggregation, function_named}
use Rattle.lf_ast.specs.Labels.{Bytes}
use Rattle.lf_ast.specs.Tree.{Tree, Trees, Number, Str, Selector, Subquery, Paren, Unary, Binary, Call, Aggregate, Nil, Next, list, parts_of}
use Rattle.lf_ast.specs.declared.functions.LabelEffect.{LabelEffect}
use Rattle.lf_ast.specs.declared.functions.LabelEffect.TheVariants.{CountValues, LabelReplace, LabelJoin, HistogramQuantile}
use Rattle.lf_ast.specs.views.Walks.{along, further}
use Rattle.lf_semantics.specs.Listing.{Listing}
use Rattle.lf_semantics.specs.Mentions.{Mention, arguments_mentions, call_mentions, effect_mentions, group_names, grouped_mentions, mention, mentions, modifier_mentions, names_mentions, stands_first}
use Rattle.lf_classes.specs.views.Mentioned.{called_before, called_behind, mentioned_all, mentioned_before, mentioned_behind, own_before, own_behind, own_between, with_mentioned}

-- the strings of a function, round what its operands mention
effect_is : (effect : LabelEffect) (texts : List Bytes) (operands : List Mention) → effect_mentions effect texts operands ≡ mentioned_before effect texts ++ (operands ++ mentioned_behind effect texts)
effect_is HistogramQuantile texts operands = ap (λ ms. mention _ _ ∷ ms) (sym (append-nil operands))
effect_is CountValues texts operands = ap (λ ms. mention _ _ ∷ ms) (sym (append-nil operands))
effect_is LabelReplace texts operands = refl
effect_is LabelJoin texts operands = refl
effect_is _ texts operands = sym (append-nil operands)

call_is : (o : Option Signature) (texts : List Bytes) (operands : List Mention) → call_mentions o texts operands ≡ called_before o texts ++ (operands ++ called_behind o texts)
call_is None texts operands = sym (append-nil operands)
call_is (Some s) texts operands = effect_is s.labels texts operands

grouped_is : (first : Bool) (names before operands behind : List Mention) → grouped_mentions first names (before ++ (operands ++ behind)) ≡ (cond first names [] ++ before) ++ (operands ++ (behind ++ cond first [] names))
grouped_is true names before operands behind =
    ap (λ ms. names ++ (before ++ (operands ++ ms))) (sym (append-nil behind)) ∙ sym (append_assoc names before (operands ++ (behind ++ [])))
grouped_is false names before operands behind = append_assoc before (operands ++ behind) names ∙ ap (λ ms. before ++ ms) (append_assoc operands behind names)

abbrev seen_of : Listing → Tree → Listing
seen_of seen e = mentioned_all seen (mentions e)

abbrev seen_between : Listing → Tree → Listing
seen_between seen e = mentioned_all seen (own_between e)

-- before, along and behind
three : (seen : Listing) (all before operands behind : List Mention) → all ≡ before ++ (operands ++ behind) → mentioned_all seen all ≡ mentioned_all (mentioned_all (mentioned_all seen before) operands) behind
three seen all before operands behind is =
    ap (mentioned_all seen) is ∙ fold-append with_mentioned seen before (operands ++ behind) ∙ fold-append with_mentioned (mentioned_all seen before) operands behind

further_arguments : (x : Tree) (none : (seen : Listing) → seen_between seen x ≡ seen) (args : Trees) (seen : Listing) → mentioned_all seen (arguments_mentions args) ≡ further seen_of seen_between x (list args) seen
further_arguments x none Nil seen = refl
further_arguments x none (Next e es) seen =
    fold-append with_mentioned seen (mentions e) (arguments_mentions es) ∙ further_arguments x none es (seen_of seen e)
    ∙ ap (λ s. further seen_of seen_between x (list es) (seen_of s e)) (sym (none seen))

along_arguments : (x : Tree) (none : (seen : Listing) → seen_between seen x ≡ seen) (args : Trees) (seen : Listing) → mentioned_all seen (arguments_mentions args) ≡ along seen_of seen_between x (list args) seen
along_arguments x none Nil seen = refl
along_arguments x none (Next e es) seen = fold-append with_mentioned seen (mentions e) (arguments_mentions es) ∙ further_arguments x none es (seen_of seen e)

-- what an expression mentions is what it names itself, and what its parts mention
pub mentioned_along : (seen : Listing) (e : Tree) → mentioned_all seen (mentions e) ≡ mentioned_all (along (λ s x. mentioned_all s (mentions x)) (λ s x. mentioned_all s (own_between x)) e (parts_of e) (mentioned_all seen (own_before e))) (own_behind e)
mentioned_along seen (Number text span) = refl
mentioned_along seen (Str text span) = refl
mentioned_along seen (Selector name matchers sight span) = refl
mentioned_along seen (Subquery of sight span) = refl
mentioned_along seen (Paren of span) = refl
mentioned_along seen (Unary minus of span) = refl
mentioned_along seen (Binary op m left right span) =
    fold-append with_mentioned seen (mentions left) (modifier_mentions m ++ mentions right) ∙ fold-append with_mentioned (seen_of seen left) (modifier_mentions m) (mentions right)
mentioned_along seen (Call name args span) =
    let o = function_named name in
    let texts = texts_of args in
    let start = mentioned_all seen (called_before o texts) in
    three seen _ (called_before o texts) (arguments_mentions args) (called_behind o texts) (call_is o texts (arguments_mentions args))
    ∙ ap (λ s. mentioned_all s (called_behind o texts)) (along_arguments (Call name args span) (λ s. refl) args start)
mentioned_along seen (Aggregate op grouping args span) =
    let names = names_mentions (group_names grouping) in
    let first = stands_first (group_names grouping) args in
    let effect = (aggregation op).labels in
    let texts = texts_of args in
    let before = cond first names [] ++ mentioned_before effect texts in
    let behind = mentioned_behind effect texts ++ cond first [] names in
    three seen _ before (arguments_mentions args) behind
    (ap (grouped_mentions first names) (effect_is effect texts (arguments_mentions args)) ∙ grouped_is first names (mentioned_before effect texts) (arguments_mentions args) (mentioned_behind effect texts))
    ∙ ap (λ s. mentioned_all s behind) (along_arguments (Aggregate op grouping args span) (λ s. refl) args (mentioned_all seen before))
