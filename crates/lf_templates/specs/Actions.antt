-- What the tokens of an action say.
use Rattle.std.specs.Prelude.{ℕ, ◌+◌, ◌-◌, List, [], ◌∷◌, ◌++◌, map, filter, Bool, true, false, not, ◌==◌, ◌&&◌, ◌||◌, Option, Some, None, is_some, if◌then◌else◌}
use Rattle.std.specs.List.{list_any}
use Rattle.std.specs.Option.{option_map_or}
use Rattle.lf_templates.specs.declared.token.ActionToken.{ActionToken}
use Rattle.lf_templates.specs.declared.token.ActionToken.TheVariants as tokens
use Rattle.lf_templates.specs.declared.token.Word.{Word}
use Rattle.lf_templates.specs.declared.token.Word.TheVariants as words
use Rattle.lf_templates.specs.declared.token.Variable.TheVariants as variables
use Rattle.lf_templates.specs.declared.token.Lexeme.{Lexeme}
use Rattle.lf_templates.specs.declared.token.ReferenceSpan.{ReferenceSpan}

abbrev pub tokens_of : List Lexeme → List ActionToken
tokens_of ls = map (λ l. l.token) ls

-- ---- whether an action is well formed

-- all but blanks and trim marks
abbrev pub says_something : ActionToken → Bool
says_something (tokens.Blank inline) = false
says_something tokens.Trim = false
says_something _ = true

abbrev pub said : List ActionToken → List ActionToken
said ts = filter says_something ts

-- a byte that begins no token, or a comment beside other tokens
abbrev pub is_wrong : ActionToken → Bool
is_wrong tokens.Wrong = true
is_wrong tokens.Comment = true
is_wrong _ = false

-- how many parentheses are open behind a token, or none where one closes that isn't open
abbrev pub depth_behind : ℕ → ActionToken → Option ℕ
depth_behind depth tokens.Open = Some (depth + 1)
depth_behind depth tokens.Close = if depth == 0 then None else Some (depth - 1)
depth_behind depth _ = Some depth

-- Each parenthesis that closes has one that opens before it, and each that opens one that closes. `depth` of them are open.
abbrev pub is_balanced : ℕ → List ActionToken → Bool
is_balanced depth [] = depth == 0
is_balanced depth (t ∷ ts) = option_map_or (λ next. is_balanced next ts) (depth_behind depth t) false

abbrev pub is_trim_mark : ActionToken → Bool
is_trim_mark tokens.Trim = true
is_trim_mark _ = false

abbrev pub is_blank : ActionToken → Bool
is_blank (tokens.Blank inline) = true
is_blank _ = false

abbrev pub is_comment_token : ActionToken → Bool
is_comment_token tokens.Comment = true
is_comment_token _ = false

-- a comment, behind which the action ends right away or with a trim mark and its blank
abbrev pub is_comment_here : List ActionToken → Bool
is_comment_here (t ∷ []) = is_comment_token t
is_comment_here (t ∷ u ∷ v ∷ []) = is_comment_token t && is_blank u && is_trim_mark v
is_comment_here _ = false

-- the same behind a trim mark and its blank, where they are there
abbrev pub is_comment : List ActionToken → Bool
is_comment (t ∷ u ∷ ts) = if is_trim_mark t && is_blank u then is_comment_here ts else is_comment_here (t ∷ u ∷ ts)
is_comment ts = is_comment_here ts

abbrev pub first : {X : Type 0} → List X → Option X
first [] = None
first (x ∷ xs) = Some x

-- the first token that says something
abbrev pub head_of : List ActionToken → Option ActionToken
head_of ts = first (said ts)

-- An action is a comment, or says something, in tokens of which none is wrong and whose parentheses are balanced.
abbrev pub is_sound : List ActionToken → Bool
is_sound ts = is_comment ts || (is_some (head_of ts) && not (list_any is_wrong ts) && is_balanced 0 ts)

-- ---- the word at its head

abbrev pub word_in : ActionToken → Word
word_in (tokens.Word word) = word
word_in _ = words.Other

abbrev pub word_at : Option ActionToken → Word
word_at (Some t) = word_in t
word_at None = words.Other

abbrev pub head_word : List ActionToken → Word
head_word ts = word_at (head_of ts)

-- ---- whether it sets $labels anew

abbrev pub is_labels : ActionToken → Bool
is_labels (tokens.Variable variables.Labels) = true
is_labels _ = false

abbrev pub is_setting : ActionToken → Bool
is_setting tokens.Setting = true
is_setting _ = false

-- one that passes the first test, and right behind it one that passes the second
abbrev pub has_pair : (ActionToken → Bool) → (ActionToken → Bool) → List ActionToken → Bool
has_pair p q [] = false
has_pair p q (t ∷ []) = false
has_pair p q (t ∷ u ∷ ts) = (p t && q u) || has_pair p q (u ∷ ts)

-- Behind $labels, blanks aside, stands := or = or a comma.
abbrev pub sets_labels : List ActionToken → Bool
sets_labels ts = has_pair is_labels is_setting (filter (λ t. not (is_blank t)) ts)

-- ---- the labels that it refers to

-- Fields go on behind a variable, a field and a closing parenthesis; behind anything else a row of fields begins.
abbrev pub goes_on : ActionToken → Bool
goes_on (tokens.Variable variable) = true
goes_on (tokens.Field labels) = true
goes_on tokens.Close = true
goes_on _ = false

abbrev pub is_field : ActionToken → Bool
is_field (tokens.Field labels) = true
is_field _ = false

abbrev pub is_labels_field : ActionToken → Bool
is_labels_field (tokens.Field labels) = labels
is_labels_field _ = false

abbrev pub is_root : ActionToken → Bool
is_root (tokens.Variable variables.Root) = true
is_root _ = false

-- $labels, or .Labels where a row of fields begins
abbrev pub begins_row : Bool → ActionToken → Bool
begins_row inside t = is_labels t || (is_labels_field t && not inside)

-- the row whose first tokens have `before` bytes, and whose last has `len`: a dot and the name
abbrev pub row_to : ℕ → ℕ → ℕ → ReferenceSpan
row_to at before len = record { start = at; name = at + before + 1; end = at + before + len }

abbrev pub row_of_two : Bool → ℕ → Lexeme → Lexeme → Option ReferenceSpan
row_of_two inside at l m = if begins_row inside l.token && is_field m.token then Some (row_to at l.len m.len) else None

-- The reference that begins with the first of these tokens, which stands at an offset: $labels.NAME, .Labels.NAME or $.Labels.NAME. `inside` says that fields go
-- on here.
abbrev pub row_here : Bool → ℕ → List Lexeme → Option ReferenceSpan
row_here inside at [] = None
row_here inside at (l ∷ []) = None
row_here inside at (l ∷ m ∷ []) = row_of_two inside at l m
row_here inside at (l ∷ m ∷ n ∷ ls) =
    if is_root l.token && is_labels_field m.token && is_field n.token then Some (row_to at (l.len + m.len) n.len) else row_of_two inside at l m

abbrev pub as_list : {X : Type 0} → Option X → List X
as_list None = []
as_list (Some x) = x ∷ []

-- all of them, in order
abbrev pub rows : Bool → ℕ → List Lexeme → List ReferenceSpan
rows inside at [] = []
rows inside at (l ∷ ls) = as_list (row_here inside at (l ∷ ls)) ++ rows (goes_on l.token) (at + l.len) ls
