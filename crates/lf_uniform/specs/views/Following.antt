-- What is told of an expression where a label is followed, and what is known of recorded names.
use Rattle.std.specs.Prelude.{◌&&◌, cond, List, [], ◌∷◌, Option, None, slice_index_or}
use Rattle.std.specs.Str.{bytes_eq}
use Rattle.lf_ast.specs.Functions.{Signature}
use Rattle.lf_ast.specs.Labels.{Bytes}
use Rattle.lf_ast.specs.Rules.{RuleTree}
use Rattle.lf_ast.specs.Selectors.{is_equal}
use Rattle.lf_ast.specs.Tree.{Tree, Trees}
use Rattle.lf_ast.specs.declared.expr.Grouping.{Grouping}
use Rattle.lf_ast.specs.declared.expr.Matcher.{Matcher}
use Rattle.lf_semantics.specs.Listing.{Listing, place}
use Rattle.lf_semantics.specs.Parts.{type_by_form}
use Rattle.lf_trials.specs.Follow.{Followed, follow, follow_call}
use Rattle.lf_uniform.specs.declared.told.FollowedText.{FollowedText}

-- the text on what the rules of a recorded name give, by the names and what is told of each. Of a name that isn't there nothing is told
abbrev pub known_by : List Bytes → List Followed → Bytes → Followed
known_by names values name = slice_index_or values (place names name) None

-- what is told of an expression: the text that the label has on what it gives, and the type that its form tells
abbrev pub told_of : Listing → List RuleTree → Bytes → Bytes → (Bytes → Followed) → Tree → FollowedText
told_of u rules label given known e = record { text = follow u rules label given known e; form = type_by_form e }

-- what is told of the operand of a call, which fails where there is no such argument
abbrev pub operand_of : List FollowedText → Followed
operand_of [] = None
operand_of (operand ∷ others) = operand.text

-- a call whose operand has the text, or fails
abbrev pub followed_call : Bytes → Option Signature → Grouping → Trees → Followed → Followed
followed_call label o grouping args operand = follow_call label o grouping args (λ place. operand)

-- the text of the first `=` on a label, and else none
abbrev pub first_equal : Bytes → List Matcher → Bytes
first_equal label [] = []
first_equal label (m ∷ matchers) = cond (is_equal m.op && bytes_eq m.label label) m.value (first_equal label matchers)
