-- What the builder of a universe has seen mentioned so far: the labels but `*`, and the texts mentioned with each.
use Rattle.std.specs.Prelude.{ℕ, List, [], ◌∷◌, ◌++◌, Option, Some, None, cond, codes, fold, length, nat_lt, slice_set}
use Rattle.std.specs.Str.{bytes_eq}
use Rattle.lf_ast.specs.Labels.{Bytes}
use Rattle.lf_ast.specs.declared.functions.LabelEffect.{LabelEffect}
use Rattle.lf_ast.specs.declared.functions.LabelEffect.TheVariants.{CountValues, LabelReplace, LabelJoin, HistogramQuantile}
use Rattle.lf_semantics.specs.Listing.{Listing, label_of, named_at}
use Rattle.lf_ast.specs.Arguments.{text_at, texts_of}
use Rattle.lf_ast.specs.Functions.{Signature, aggregation, function_named}
use Rattle.lf_ast.specs.Tree.{Tree, Selector, Binary, Call, Aggregate}
use Rattle.lf_semantics.specs.Strings.{joining, replacing}
use Rattle.lf_ast.specs.Selectors.{metric}
use Rattle.lf_semantics.specs.Mentions.{Mention, group_names, joining_mentions, matchers_mentions, mention, modifier_mentions, name_mentions, names_mentions, replacing_mentions, stands_first}
use Rattle.lf_classes.specs.views.TextSets.{with_text}

-- only the metric name, and no text with it
abbrev pub nothing_mentioned : Listing
nothing_mentioned = record { names = metric ∷ []; named = [] ∷ [] }

-- a label goes behind the others with no text, unless it is there
abbrev pub with_label : Listing → Bytes → Listing
with_label seen label = record { names = with_text seen.names label; named = cond (nat_lt (label_of seen label) (length seen.names)) seen.named (seen.named ++ [] ∷ []) }

-- a text is mentioned with a label; the empty one is a class already
abbrev pub with_text_of : ℕ → Listing → Bytes → Listing
with_text_of label seen text = record { names = seen.names; named = cond (bytes_eq text []) seen.named (slice_set seen.named label (with_text (named_at seen label) text)) }

-- a label is mentioned with its texts
abbrev pub with_mentioned : Listing → Mention → Listing
with_mentioned seen m = fold (with_text_of (label_of seen m.label)) (with_label seen m.label) m.texts

-- one label after the other
abbrev pub mentioned_all : Listing → List Mention → Listing
mentioned_all seen items = fold with_mentioned seen items

-- a universe has `*` behind the labels, with no text
abbrev pub with_star : Listing → Listing
with_star seen = record { names = seen.names; named = seen.named ++ [] ∷ [] }

-- what a function mentions at its own strings before its operand, and behind it
abbrev pub mentioned_before : LabelEffect → List Bytes → List Mention
mentioned_before HistogramQuantile texts = mention (codes "le") (codes "+Inf" ∷ []) ∷ []
mentioned_before CountValues texts = mention (text_at texts 0) [] ∷ []
mentioned_before _ texts = []

abbrev pub mentioned_behind : LabelEffect → List Bytes → List Mention
mentioned_behind LabelReplace texts = replacing_mentions (replacing texts)
mentioned_behind LabelJoin texts = joining_mentions (joining texts)
mentioned_behind _ texts = []

abbrev pub called_before : Option Signature → List Bytes → List Mention
called_before None texts = []
called_before (Some s) texts = mentioned_before s.labels texts

abbrev pub called_behind : Option Signature → List Bytes → List Mention
called_behind None texts = []
called_behind (Some s) texts = mentioned_behind s.labels texts

-- what an expression mentions itself before its parts, between its sides, and behind its parts
abbrev pub own_before : Tree → List Mention
own_before (Selector name matchers sight span) = name_mentions name ++ matchers_mentions matchers
own_before (Call name args span) = called_before (function_named name) (texts_of args)
own_before (Aggregate op grouping args span) =
    cond (stands_first (group_names grouping) args) (names_mentions (group_names grouping)) [] ++ mentioned_before (aggregation op).labels (texts_of args)
own_before _ = []

abbrev pub own_between : Tree → List Mention
own_between (Binary op m left right span) = modifier_mentions m
own_between _ = []

abbrev pub own_behind : Tree → List Mention
own_behind (Call name args span) = called_behind (function_named name) (texts_of args)
own_behind (Aggregate op grouping args span) =
    mentioned_behind (aggregation op).labels (texts_of args) ++ cond (stands_first (group_names grouping) args) [] (names_mentions (group_names grouping))
own_behind _ = []
