-- A way of reading templates, which defines nothing: what the code computes, function by function. Laws prove that it finds exactly the references and breaches of
-- `Templates.antt`.
use Rattle.std.specs.Prelude.{◌≡◌, ◌<◌, ◌≤◌, ℕ, zero, suc, ◌+◌, ◌-◌, List, [], ◌∷◌, ◌++◌, map, drop, take, length, Bool, true, false, not, ◌==◌, ◌&&◌, ◌||◌, nat_lt, Option, Some, None, Result, Ok, Err, option_map, if◌then◌else◌}
use Rattle.std.specs.List.{prefix_len}
use Rattle.std.specs.Option.{option_and_then}
use Rattle.std.specs.Str.{IsAscii}
use Rattle.lf_base.specs.declared.kind.Kind.TheVariants.{OpenAction, BadAction}
use Rattle.lf_base.specs.declared.place.Span.{Span}
use Rattle.lf_templates.specs.declared.token.ActionToken.{ActionToken}
use Rattle.lf_templates.specs.declared.token.ActionToken.TheVariants as tokens
use Rattle.lf_templates.specs.declared.token.Word.{Word}
use Rattle.lf_templates.specs.declared.token.Word.TheVariants as words
use Rattle.lf_templates.specs.declared.token.TokenContext.{TokenContext}
use Rattle.lf_templates.specs.declared.token.TokenContext.TheVariants as places
use Rattle.lf_templates.specs.declared.token.Lexeme.{Lexeme}
use Rattle.lf_templates.specs.declared.token.ReferenceSpan.{ReferenceSpan}
use Rattle.lf_templates.specs.declared.token.Beginning.{Beginning}
use Rattle.lf_templates.specs.declared.token.Beginning.TheVariants as begins
use Rattle.lf_templates.specs.declared.bytes.ActionByteClass.{ActionByteClass}
use Rattle.lf_templates.specs.declared.bytes.ActionByteClass.TheVariants as classes
use Rattle.lf_templates.specs.declared.body.OpenBody.{OpenBody}
use Rattle.lf_templates.specs.declared.reference.Reference.{Reference}
use Rattle.lf_base.specs.declared.fault.Fault.{Fault}
use Rattle.lf_templates.specs.Source.{in_source}
use Rattle.lf_base.specs.Names.{begins_label, is_in_label}
use Rattle.lf_base.specs.Rows.{is_no_back_quote, starts}
use Rattle.lf_base.specs.reading.Closing.{closing}
use Rattle.lf_templates.specs.Bytes.{beginning, is_in_number}
use Rattle.lf_templates.specs.Tokens.{word_of, variable_of, field_of, takes_comment, ends_comment, closes, is_trim, behind}
use Rattle.lf_templates.specs.Actions.{tokens_of, first, is_field, is_sound, sets_labels}
use Rattle.lf_templates.specs.Templates.{opens, Action, word_of_action, opens_body, is_stray, hides, references_in, references_of, first_flawed, fault_at}

-- ---- tokens

-- the classes that the code goes over in rows
abbrev pub is_in_class : ActionByteClass → ℕ → Bool
is_in_class classes.Word b = is_in_label b
is_in_class classes.Number b = is_in_number b
is_in_class classes.NoBackQuote b = is_no_back_quote b

abbrev pub token : ActionToken → ℕ → Lexeme
token t len = record { token = t; len = len }

-- how many bytes the word at the front has
unfoldable pub name_len : List ℕ → ℕ
name_len [] = 0
name_len (b ∷ src) = if begins_label b then 1 + prefix_len is_in_label src else 0

-- how many bytes stand before the first */
unfoldable pub comment_len : List ℕ → Option ℕ
comment_len [] = None
comment_len (b ∷ src) = if ends_comment (b ∷ src) then Some 0 else option_map suc (comment_len src)

unfoldable pub string_front : ℕ → List ℕ → Option Lexeme
string_front quote src = option_map (λ n. token tokens.Plain (n + 2)) (closing None quote false src)

unfoldable pub raw_front : List ℕ → Option Lexeme
raw_front src = let n = prefix_len is_no_back_quote src in if nat_lt n (length src) then Some (token tokens.Plain (n + 2)) else None

unfoldable pub word_front : List ℕ → Lexeme
word_front src = let n = name_len src in token (tokens.Word (word_of (take n src))) n

unfoldable pub variable_front : List ℕ → Lexeme
variable_front src = let n = name_len src in token (tokens.Variable (variable_of (take n src))) (n + 1)

unfoldable pub field_front : List ℕ → Lexeme
field_front src = let n = name_len src in token (field_of (take n src)) (n + 1)

unfoldable pub number_front : List ℕ → Lexeme
number_front src = token tokens.Plain (prefix_len is_in_number src + 1)

unfoldable pub colon_front : List ℕ → Lexeme
colon_front src = if starts (λ b. b == 61) src then token tokens.Setting 2 else token tokens.Wrong 1

unfoldable pub slash_front : TokenContext → List ℕ → Option Lexeme
slash_front place src =
    if takes_comment place && starts (λ b. b == 42) src then option_map (λ n. token tokens.Comment (n + 4)) (comment_len (drop 1 src)) else Some (token tokens.Wrong 1)

unfoldable pub minus_front : TokenContext → List ℕ → Lexeme
minus_front place src = token (if is_trim place src then tokens.Trim else tokens.Plain) 1

abbrev pub front_by : TokenContext → ℕ → List ℕ → Beginning → Option Lexeme
front_by place b src (begins.Alone t) = Some (token t 1)
front_by place b src begins.Quote = string_front b src
front_by place b src begins.BackQuote = raw_front src
front_by place b src begins.Letter = Some (word_front (b ∷ src))
front_by place b src begins.Dollar = Some (variable_front src)
front_by place b src begins.Dot = Some (field_front src)
front_by place b src begins.Digit = Some (number_front src)
front_by place b src begins.Colon = Some (colon_front src)
front_by place b src begins.Slash = slash_front place src
front_by place b src begins.Minus = Some (minus_front place src)

-- The token at the front, or none where a string or a comment doesn't close.
abbrev pub front : TokenContext → List ℕ → Option Lexeme
front place [] = None
front place (b ∷ src) = front_by place b src (beginning b)

-- The tokens up to }}, where it comes. `skip` bytes at the front are passed over.
unfoldable pub lexed : TokenContext → ℕ → List ℕ → Option (List Lexeme)
lexed place skip [] = None
lexed place (suc skip) (b ∷ src) = lexed place skip src
lexed place zero (b ∷ src) =
    if closes (b ∷ src) then Some [] else option_and_then (λ l. option_map (λ ls. l ∷ ls) (lexed (behind place l.token) (l.len - 1) src)) (front place (b ∷ src))

abbrev pub total : List Lexeme → ℕ
total [] = 0
total (l ∷ ls) = l.len + total ls

-- ---- actions

-- actions, and the offset of one that doesn't end behind them
pub record Acts : Type 0 where
  pub actions : List Action
  pub endless : Option ℕ

abbrev pub action_at : ℕ → List Lexeme → Action
action_at at ls = record { lexemes = ls; start = at; end = at + (total ls + 4) }

abbrev pub before : Action → Acts → Acts
before a acts = record { actions = a ∷ acts.actions; endless = acts.endless }

abbrev pub acts_by : ℕ → Option (List Lexeme) → (ℕ → Acts) → Acts
acts_by at None later = record { actions = []; endless = Some at }
acts_by at (Some ls) later = before (action_at at ls) (later (total ls + 3))

-- Those of a text, the first byte of which stands at an offset. `skip` bytes at the front are passed over.
unfoldable pub acts_of : ℕ → ℕ → List ℕ → Acts
acts_of at skip [] = record { actions = []; endless = None }
acts_of at (suc skip) (b ∷ src) = acts_of (at + 1) skip src
acts_of at zero (b ∷ src) = if opens (b ∷ src) then acts_by at (lexed places.Start 0 (drop 1 src)) (λ skip. acts_of (at + 1) skip src) else acts_of (at + 1) zero src

-- ---- the answer

-- what is wrong with the actions, or else their references
abbrev pub judged_open : List ℕ → List ℕ → Acts → Option ℕ → Result (List Reference) Fault
judged_open from text acts (Some at) = Err (fault_at from OpenAction at (at + 2))
judged_open from text acts None = Ok (references_of from text [] false acts.actions)

abbrev pub judged_by : List ℕ → List ℕ → Acts → Option Action → Result (List Reference) Fault
judged_by from text acts (Some a) = Err (fault_at from BadAction a.start a.end)
judged_by from text acts None = judged_open from text acts acts.endless

abbrev pub judged : List ℕ → List ℕ → Acts → Result (List Reference) Fault
judged from text acts = judged_by from text acts (first_flawed [] acts.actions)

abbrev pub reading : List ℕ → List ℕ → Result (List Reference) Fault
reading from text = judged from text (acts_of 0 0 text)

-- ---- the same over a stack of bodies, from left to right

abbrev pub bad_action : Span → Fault
bad_action span = record { kind = BadAction; span = span }

-- the outermost of the bodies
abbrev pub outermost : List OpenBody → Option Span
outermost [] = None
outermost (body ∷ []) = Some body.span
outermost (body ∷ next ∷ bodies) = outermost (next ∷ bodies)

abbrev pub word_of_body : Option OpenBody → Option Word
word_of_body None = None
word_of_body (Some body) = Some body.word

-- whether an action with these tokens and this word at its head is wrong in itself, where this body is the innermost
abbrev pub is_bad_by : Option OpenBody → List ActionToken → Word → Bool
is_bad_by innermost ts word = not (is_sound ts) || is_stray word (word_of_body innermost)

abbrev pub hidden_in : Option OpenBody → Bool
hidden_in None = false
hidden_in (Some body) = body.hides

abbrev pub some_or : Option Span → Option Span → Option Span
some_or (Some span) other = Some span
some_or None other = other

abbrev pub is_hidden : List OpenBody → Bool
is_hidden bodies = hidden_in (first bodies)

abbrev pub body : Word → Bool → Span → OpenBody
body word hidden span = record { word = word; hides = hidden; span = span }

-- the bodies that are left where an action begins: an end closes one
abbrev pub closed_by : Word → List OpenBody → List OpenBody
closed_by words.End bodies = drop 1 bodies
closed_by _ bodies = bodies

abbrev pub opened_by : Word → Span → List OpenBody → List OpenBody
opened_by word span bodies = if opens_body word then body word (hides word || is_hidden bodies) span ∷ bodies else bodies

abbrev pub or_else : Option Span → Bool → Span → Option Span
or_else (Some flaw) bad span = Some flaw
or_else None bad span = if bad then Some span else None

abbrev pub words_of : List OpenBody → List Word
words_of bodies = map (λ b. b.word) bodies

-- the action that is told at the end: that of the outermost body that is open, or else the first that is wrong
abbrev pub flaw_at_end : List OpenBody → Option Span → Option Span
flaw_at_end bodies flaw = some_or (outermost bodies) flaw

abbrev pub ending_open : List ℕ → List Reference → Option ℕ → Result (List Reference) Fault
ending_open from found (Some at) = Err (fault_at from OpenAction at (at + 2))
ending_open from found None = Ok found

-- the answer at the end: an action that is wrong, one that doesn't end, or the references
abbrev pub ending_by : List ℕ → List Reference → Option ℕ → Option Span → Result (List Reference) Fault
ending_by from found endless (Some span) = Err (bad_action span)
ending_by from found endless None = ending_open from found endless

abbrev pub ending : List ℕ → List OpenBody → Option Span → List Reference → Option ℕ → Result (List Reference) Fault
ending from bodies flaw found endless = ending_by from found endless (flaw_at_end bodies flaw)

-- a flaw with no body open before it, behind which nothing counts
abbrev pub settled : List OpenBody → Option Span → Option Span
settled [] flaw = flaw
settled (body ∷ bodies) flaw = None

abbrev pub or_settled : Option Span → Result (List Reference) Fault → Result (List Reference) Fault
or_settled (Some span) later = Err (bad_action span)
or_settled None later = later

-- The answer behind actions that left these bodies open, gave this first flaw and these references, and perhaps set $labels anew.
unfoldable pub outcome : List ℕ → List ℕ → List OpenBody → Option Span → Bool → List Reference → List Action → Option ℕ → Result (List Reference) Fault
outcome from text bodies flaw renamed found [] endless = ending from bodies flaw found endless
outcome from text bodies flaw renamed found (a ∷ later) endless =
    let span = in_source from a.start a.end in
    let word = word_of_action a in
    let round = closed_by word bodies in
    let gone = renamed || sets_labels (tokens_of a.lexemes) in
    let next = opened_by word span round in
    let worst = or_else flaw (is_bad_by (first bodies) (tokens_of a.lexemes) word) span in
    or_settled (settled next worst) (outcome from text next worst gone (found ++ references_in from text (gone || is_hidden round) a) later endless)

-- ---- what the tokens of an action are known to be

-- No token is empty, and the name of a field is ASCII. The first of the tokens stands at an offset.
abbrev pub Named : List ℕ → ℕ → List Lexeme → Type 0
Named text at [] = Unit {0}
Named text at (l ∷ ls) = (0 < l.len) × (is_field l.token ≡ true → IsAscii (take (l.len - 1) (drop (at + 1) text))) × Named text (at + l.len) ls

-- a reference that lies in the text, and whose label is ASCII
pub record IsRowIn (text : List ℕ) (r : ReferenceSpan) : Type 0 where
  pub order : r.start ≤ r.end
  pub name : r.name ≤ r.end
  pub within : r.end ≤ length text
  pub ascii : IsAscii (take (r.end - r.name) (drop r.name text))
