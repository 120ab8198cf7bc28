-- To follow a label through an expression: if it has one text on all scraped series, what text it has on the samples that the expression gives.
use Rattle.std.specs.Prelude.{ℕ, zero, suc, Bool, true, false, not, ◌&&◌, ◌||◌, cond, List, [], ◌∷◌, length, Option, Some, None, codes, option_and_then, option_map}
use Rattle.std.specs.List.{filter, find, list_all}
use Rattle.std.specs.Option.{option_map_or, option_or}
use Rattle.std.specs.Str.{bytes_eq}
use Rattle.lf_ast.specs.Arguments.{text_at, texts_of}
use Rattle.lf_ast.specs.Functions.{Signature, aggregation, function_named}
use Rattle.lf_ast.specs.Labels.{Bytes}
use Rattle.lf_ast.specs.Rules.{RuleTree}
use Rattle.lf_ast.specs.Selectors.{selected_name}
use Rattle.lf_ast.specs.Tree.{Tree, Trees, Number, Str, Selector, Subquery, Paren, Unary, Binary, Call, Aggregate, Nil, Next}
use Rattle.lf_ast.specs.declared.expr.Grouping.{Grouping}
use Rattle.lf_ast.specs.declared.expr.Grouping.TheVariants.{None as Ungrouped}
use Rattle.lf_ast.specs.declared.expr.Matcher.{Matcher}
use Rattle.lf_ast.specs.declared.expr.Matching.{Matching}
use Rattle.lf_ast.specs.declared.expr.Op.{Op}
use Rattle.lf_ast.specs.declared.expr.Op.TheVariants.{Or, Unless}
use Rattle.lf_ast.specs.declared.functions.LabelEffect.{LabelEffect}
use Rattle.lf_ast.specs.declared.functions.LabelEffect.TheVariants.{Maps, Keeps, Groups, CountValues, Date, Absent, LabelReplace, LabelJoin, HistogramQuantile, Bare}
use Rattle.lf_ast.specs.declared.rule.RuleLabel.{RuleLabel}
use Rattle.lf_semantics.specs.Grouped.{is_filter, is_grouped_by, is_metric, signs}
use Rattle.lf_semantics.specs.Listing.{Listing}
use Rattle.lf_semantics.specs.Parts.{Sought, is_scalar_part, operand_place, sought_in}
use Rattle.lf_semantics.specs.Passing.{passes}
use Rattle.lf_semantics.specs.Strings.{equal_texts}
use Rattle.lf_trials.specs.Candidates.{first}
use Rattle.lf_trials.specs.Names.{name_for}
use Rattle.lf_semantics.specs.Environments.{records}
use Rattle.lf_trials.specs.Reached.{first_rule, is_marked, is_recorded}
use Rattle.lf_trials.specs.Sides.{left_gives, right_gives}

-- the text, or that there is none to tell: then the label can't be followed
abbrev pub Followed : Type 0
Followed = Option Bytes

-- a label that is lost
abbrev pub lost : Followed
lost = Some []

-- of one label
module _ (label : Bytes) where
  abbrev pub without_name : Bytes → Bytes
  without_name text = cond (is_metric label) [] text

  -- a text passes the matchers on the label
  abbrev pub passes_on_label : List Matcher → Bytes → Bool
  passes_on_label matchers text = list_all (λ m. not (bytes_eq m.label label) || passes m.op m.value text) matchers

  abbrev pub if_it_passes : List Matcher → Followed → Followed
  if_it_passes matchers followed = option_and_then (λ text. cond (passes_on_label matchers text) (Some text) None) followed

  -- functions and aggregations

  -- the text of the first `=` on the label. The metric name is lost, and so is each label where the argument is no selector
  abbrev pub sought_text : Option Sought → Bytes
  sought_text None = []
  sought_text (Some sought) = cond (is_metric label) [] (option_map_or (λ text. text) (first (equal_texts (filter (λ m. bytes_eq m.label label) sought.matchers))) [])

  abbrev pub grouped_text : Grouping → Bytes → Bytes
  grouped_text grouping text = cond (is_grouped_by grouping label) text []

  abbrev pub counted_text : Grouping → Bytes → Bytes → Bytes
  counted_text grouping x text = cond (bytes_eq label x) (codes "1") (grouped_text grouping text)

  -- `le` has to be `+Inf`, and is lost; so is the metric name, and other labels pass
  abbrev pub bucket_text : Bytes → Followed
  bucket_text text = cond (bytes_eq label (codes "le")) (cond (bytes_eq text (codes "+Inf")) lost None) (Some (without_name text))

  -- the operand of `absent` isn't looked at, and `label_replace` and `label_join` count as if they changed nothing
  abbrev pub follow_effect : LabelEffect → Grouping → Trees → Followed → Followed
  follow_effect Maps grouping args operand = option_map without_name operand
  follow_effect Keeps grouping args operand = operand
  follow_effect Groups grouping args operand = option_map (grouped_text grouping) operand
  follow_effect CountValues grouping args operand = option_map (counted_text grouping (text_at (texts_of args) 0)) operand
  follow_effect Date grouping Nil operand = lost
  follow_effect Date grouping (Next x xs) operand = option_map without_name operand
  follow_effect Absent grouping args operand = Some (sought_text (sought_in args))
  follow_effect LabelReplace grouping args operand = operand
  follow_effect LabelJoin grouping args operand = operand
  follow_effect HistogramQuantile grouping args operand = option_and_then bucket_text operand
  follow_effect Bare grouping args operand = lost

  abbrev pub follow_call : Option Signature → Grouping → Trees → (ℕ → Followed) → Followed
  follow_call None grouping args argument = None
  follow_call (Some s) grouping args argument = follow_effect s.labels grouping args (argument (operand_place s))

  -- operators

  abbrev pub nameless_if : Bool → Followed → Followed
  nameless_if drops operand = cond drops (option_map without_name operand) operand

  -- the text on the result of a pair, of which the sides agree where the label is in the signature
  abbrev pub text_of_pair : Op → Matching → Bytes → Bytes → Bytes
  text_of_pair op m left right = cond (left_gives op m label) left (cond (right_gives op m label) right [])

  abbrev pub follow_pair : Op → Matching → Bytes → Bytes → Followed
  follow_pair op m left right = cond (signs m label && not (bytes_eq left right)) None (Some (text_of_pair op m left right))

  -- of `unless` the left side alone is looked at, and of `or` the right side where the left one fails
  abbrev pub follow_operator : Op → Matching → Followed → Followed → Followed
  follow_operator Or m left right = option_or left right
  follow_operator Unless m left right = left
  follow_operator op m left right = option_and_then (λ s. option_and_then (follow_pair op m s) right) left

  -- by whether the left and the right side are scalars
  abbrev pub follow_binary : Op → Matching → Bool → Bool → Followed → Followed → Followed
  follow_binary op m true true left right = lost
  follow_binary op m false true left right = nameless_if (not (is_filter op m)) left
  follow_binary op m true false left right = nameless_if (not (is_filter op m)) right
  follow_binary op m false false left right = follow_operator op m left right

  -- rules

  -- as a rule stores it: the recorded name, the text of a label that it sets, and else what its expression gives
  abbrev pub recorded_text : RuleTree → Bytes → Bytes
  recorded_text r text = option_map_or (λ (l : RuleLabel). l.value) (find (λ l. bytes_eq l.key label) r.labels) (cond (is_metric label) r.name text)

-- the label, and the text that it has on all scraped series
module _ (u : Listing) (rules : List RuleTree) (label given : Bytes) where
  -- what scraped series have
  abbrev pub on_series : Followed → Followed
  on_series name = cond (is_metric label) name (Some given)

  module _ (follow_rule : Bytes → Followed) where
    -- by the name that is selected: a recorded one gives what a rule gives, and any other the text; for the metric name a selector gives its name
    abbrev pub follow_name : Option Bytes → List Matcher → Followed
    follow_name (Some name) matchers = cond (is_recorded rules name) (follow_rule name) (on_series (Some name))
    follow_name None matchers = on_series (name_for u rules matchers)

    abbrev mutual
      pub follow : Tree → Followed
      follow (Number text span) = lost
      follow (Str text span) = None
      follow (Selector name matchers sight span) = if_it_passes label matchers (follow_name (selected_name name matchers) matchers)
      follow (Subquery of sight span) = follow of
      follow (Paren of span) = follow of
      follow (Unary minus of span) = nameless_if label minus (follow of)
      follow (Binary op m left right span) = follow_binary label op m (is_scalar_part left) (is_scalar_part right) (follow left) (follow right)
      follow (Call name args span) = follow_call label (function_named name) Ungrouped args (follow_argument args)
      follow (Aggregate op grouping args span) = follow_call label (Some (aggregation op)) grouping args (follow_argument args)

      -- argument k, counted from 0
      pub follow_argument : Trees → ℕ → Followed
      follow_argument Nil k = None
      follow_argument (Next x xs) zero = follow x
      follow_argument (Next x xs) (suc k) = follow_argument xs k

  -- recorded names

  -- the first unmarked rule of the name is marked and followed. At most so many rules aren't marked yet: each that is followed marks one, so they run out before the number
  -- does
  abbrev pub follow_by_rule : ℕ → List ℕ → Bytes → Followed
  follow_by_rule zero marked name = None
  follow_by_rule (suc unmarked) marked name =
      option_and_then
      (λ found. option_map (recorded_text label found.1) (follow (follow_by_rule unmarked (found.0 ∷ marked)) found.1.expr))
      (first_rule (λ k r. records name r && not (is_marked marked k)) 0 rules)

  -- the label followed through the expression of rule i, which is marked
  abbrev pub follow_from : ℕ → RuleTree → Followed
  follow_from i r = follow (follow_by_rule (length rules) (i ∷ [])) r.expr
