-- Worked templates: what the definitions say of the tokens of their actions.
use Rattle.std.proofs.Common.{◌≡◌, ℕ, ◌+◌, true, false, List, [], ◌∷◌, Some, None, refl}
use Rattle.std.specs.Prelude.{codes}
use Rattle.lf_templates.specs.declared.token.ActionToken.{ActionToken}
use Rattle.lf_templates.specs.declared.token.ActionToken.TheVariants as tokens
use Rattle.lf_templates.specs.declared.token.Word.TheVariants as words
use Rattle.lf_templates.specs.declared.token.Variable.TheVariants as variables
use Rattle.lf_templates.specs.declared.token.Lexeme.{Lexeme}
use Rattle.lf_templates.specs.declared.token.ReferenceSpan.{ReferenceSpan}
use Rattle.lf_templates.specs.declared.reference.Reference.{Reference}
use Rattle.lf_templates.specs.Actions.{is_sound, head_word, sets_labels, rows}
use Rattle.lf_templates.specs.Templates.{Action, first_flawed, references_of}

abbrev token : ActionToken → ℕ → Lexeme
token t len = record { token = t; len = len }

abbrev blank : ActionToken
blank = tokens.Blank true

abbrev labels : ActionToken
labels = tokens.Variable variables.Labels

abbrev field : ActionToken
field = tokens.Field false

abbrev row : ℕ → ℕ → ℕ → ReferenceSpan
row start name end = record { start = start; name = name; end = end }

-- " $labels.x .Labels.y $.Labels.z " behind "{{", and "(f).Labels.x"
three : rows false 2 (token blank 1 ∷ token labels 7 ∷ token field 2 ∷ token blank 1 ∷ token (tokens.Field true) 7 ∷ token field 2 ∷ token blank 1 ∷ token (tokens.Variable variables.Root) 1 ∷ token (tokens.Field true) 7 ∷ token field 2 ∷ token blank 1 ∷ []) ≡ row 3 11 12 ∷ row 13 21 22 ∷ row 23 32 33 ∷ []
three = refl

behind_a_parenthesis : rows false 0 (token tokens.Open 1 ∷ token (tokens.Word words.Other) 1 ∷ token tokens.Close 1 ∷ token (tokens.Field true) 7 ∷ token field 2 ∷ []) ≡ []
behind_a_parenthesis = refl

-- {{ }}, {{/* a */}}, {{/* a */ }}, {{- -}}, {{ ( }}, {{ ) ( }}
says_nothing : is_sound (blank ∷ []) ≡ false
says_nothing = refl

comment : is_sound (tokens.Comment ∷ []) ≡ true
comment = refl

no_comment : is_sound (tokens.Comment ∷ blank ∷ []) ≡ false
no_comment = refl

trim_marks : is_sound (tokens.Trim ∷ blank ∷ tokens.Trim ∷ []) ≡ false
trim_marks = refl

open_parenthesis : is_sound (blank ∷ tokens.Open ∷ blank ∷ []) ≡ false
open_parenthesis = refl

turned_parentheses : is_sound (tokens.Close ∷ tokens.Open ∷ []) ≡ false
turned_parentheses = refl

-- {{- if a }}, {{ f if }}
head : head_word (tokens.Trim ∷ blank ∷ tokens.Word words.If ∷ blank ∷ tokens.Word words.Other ∷ []) ≡ words.If
head = refl

no_head : head_word (tokens.Word words.Other ∷ blank ∷ tokens.Word words.If ∷ []) ≡ words.Other
no_head = refl

-- {{ $labels := 1 }}, {{ $labels.x, 1 }}
set_anew : sets_labels (labels ∷ blank ∷ tokens.Setting ∷ blank ∷ tokens.Plain ∷ []) ≡ true
set_anew = refl

field_set : sets_labels (labels ∷ field ∷ tokens.Setting ∷ []) ≡ false
field_set = refl

-- ---- actions: {{if a}}, {{range a}}, {{$labels.x}}, {{end}}, {{?}}

abbrev action : ℕ → ℕ → List Lexeme → Action
action start end ls = record { lexemes = ls; start = start; end = end }

abbrev if_at : ℕ → Action
if_at at = action at (at + 8) (token (tokens.Word words.If) 2 ∷ token blank 1 ∷ token (tokens.Word words.Other) 1 ∷ [])

abbrev range_at : ℕ → Action
range_at at = action at (at + 11) (token (tokens.Word words.Range) 5 ∷ token blank 1 ∷ token (tokens.Word words.Other) 1 ∷ [])

abbrev label_at : ℕ → Action
label_at at = action at (at + 13) (token labels 7 ∷ token field 2 ∷ [])

abbrev end_at : ℕ → Action
end_at at = action at (at + 7) (token (tokens.Word words.End) 3 ∷ [])

abbrev wrong_at : ℕ → Action
wrong_at at = action at (at + 5) (token tokens.Wrong 1 ∷ [])

closed : first_flawed [] (if_at 0 ∷ label_at 8 ∷ end_at 21 ∷ []) ≡ None
closed = refl

stays_open : first_flawed [] (if_at 0 ∷ range_at 8 ∷ end_at 19 ∷ wrong_at 26 ∷ []) ≡ Some (if_at 0)
stays_open = refl

wrong_inside : first_flawed [] (if_at 0 ∷ wrong_at 8 ∷ end_at 13 ∷ []) ≡ Some (wrong_at 8)
wrong_inside = refl

no_body : first_flawed [] (if_at 0 ∷ end_at 8 ∷ end_at 15 ∷ []) ≡ Some (end_at 15)
no_body = refl

abbrev shown : ℕ → ℕ → Reference
shown start end = record { label = codes "x"; span = record { start = start; end = end } }

-- in the body of an if a reference is told, and in that of a range it isn't
told : references_of (0 ∷ 1 ∷ 2 ∷ 3 ∷ 4 ∷ 5 ∷ 6 ∷ 7 ∷ 8 ∷ 9 ∷ 10 ∷ 11 ∷ 12 ∷ 13 ∷ 14 ∷ 15 ∷ 16 ∷ 17 ∷ 18 ∷ 19 ∷ []) (codes "{{if a}}{{$labels.x}}") [] false (if_at 0 ∷ label_at 8 ∷ end_at 21 ∷ []) ≡ shown 10 19 ∷ []
told = refl

hidden : references_of [] (codes "{{range a}}{{$labels.x}}") [] false (range_at 0 ∷ label_at 11 ∷ end_at 24 ∷ []) ≡ []
hidden = refl
