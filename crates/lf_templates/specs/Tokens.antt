-- The tokens of an action.
use Rattle.std.specs.Prelude.{◌≡◌, ◌≢◌, ℕ, List, [], ◌∷◌, ◌++◌, length, Bool, true, false, ◌==◌, ◌&&◌, ◌||◌, codes, bytes_eq, if◌then◌else◌}
use Rattle.std.specs.List.{flat_map}
use Rattle.lf_templates.specs.declared.token.ActionToken.{ActionToken}
use Rattle.lf_templates.specs.declared.token.ActionToken.TheVariants as tokens
use Rattle.lf_templates.specs.declared.token.Word.{Word}
use Rattle.lf_templates.specs.declared.token.Word.TheVariants as words
use Rattle.lf_templates.specs.declared.token.Variable.{Variable}
use Rattle.lf_templates.specs.declared.token.Variable.TheVariants as variables
use Rattle.lf_templates.specs.declared.token.TokenContext.{TokenContext}
use Rattle.lf_templates.specs.declared.token.TokenContext.TheVariants as places
use Rattle.lf_templates.specs.declared.token.Lexeme.{Lexeme}
use Rattle.lf_templates.specs.declared.token.Beginning.TheVariants as begins
use Rattle.lf_base.specs.Names.{begins_label, is_in_label}
use Rattle.lf_base.specs.Rows.{is_no_back_quote, Each, starts, Stops}
use Rattle.lf_templates.specs.Bytes.{beginning, is_in_number, starts_with}

-- ---- names

unfoldable pub word_of : List ℕ → Word
word_of name =
    if bytes_eq name (codes "if") then words.If
    else if bytes_eq name (codes "range") then words.Range
    else if bytes_eq name (codes "with") then words.With
    else if bytes_eq name (codes "define") then words.Define
    else if bytes_eq name (codes "block") then words.Block
    else if bytes_eq name (codes "else") then words.Else
    else if bytes_eq name (codes "end") then words.End
    else words.Other

unfoldable pub variable_of : List ℕ → Variable
variable_of name =
    if bytes_eq name [] then variables.Root
    else if bytes_eq name (codes "labels") then variables.Labels
    else variables.Other

-- a dot before a name: a field, or a lone dot where there is none
unfoldable pub field_of : List ℕ → ActionToken
field_of name = if bytes_eq name [] then tokens.Plain else tokens.Field (bytes_eq name (codes "Labels"))

-- `name` is the word that stands before the rest, or empty where none begins.
abbrev pub IsName : List ℕ → List ℕ → Type 0
IsName [] rest = Stops begins_label rest
IsName (b ∷ more) rest = (begins_label b ≡ true) × Each is_in_label more × Stops is_in_label rest

-- ---- strings

-- What can stand between quotes: bytes other than the quote and the backslash, and a backslash and the character behind it. (Only the first byte of this character
-- needs to be looked at: those that continue one are no quotes and no backslashes.)
pub data IsActionStringInner (quote : ℕ) : List ℕ → Type 0 where
  nothing : IsActionStringInner quote []
  itself : {b : ℕ} {inner : List ℕ} → b ≢ quote → b ≢ 92 → IsActionStringInner quote inner → IsActionStringInner quote (b ∷ inner)
  pair : {b : ℕ} {inner : List ℕ} → IsActionStringInner quote inner → IsActionStringInner quote (92 ∷ b ∷ inner)

-- ---- comments and trim marks

-- A comment can stand right behind {{, or behind {{- and its blank.
abbrev pub takes_comment : TokenContext → Bool
takes_comment places.Start = true
takes_comment places.Ready = true
takes_comment _ = false

-- */
abbrev pub ends_comment : List ℕ → Bool
ends_comment src = starts_with 42 47 src

-- }}
abbrev pub closes : List ℕ → Bool
closes src = starts_with 125 125 src

-- At no place of the text, before the rest, does a test hold.
abbrev pub FreeOf : (List ℕ → Bool) → List ℕ → List ℕ → Type 0
FreeOf test [] rest = Unit {0}
FreeOf test (b ∷ text) rest = (test (b ∷ (text ++ rest)) ≡ false) × FreeOf test text rest

-- a space or a tab
unfoldable pub is_inline : ℕ → Bool
is_inline b = b == 32 || b == 9

-- The - of {{- stands right behind the braces and before a space or a tab, that of -}} behind a space or a tab and right before the braces.
abbrev pub is_trim : TokenContext → List ℕ → Bool
is_trim places.Start rest = starts is_inline rest
is_trim places.Ready rest = closes rest
is_trim places.Blanked rest = closes rest
is_trim _ rest = false

-- the place behind a token
abbrev pub behind_blank : TokenContext → TokenContext
behind_blank places.Trimmed = places.Ready
behind_blank _ = places.Blanked

abbrev pub behind : TokenContext → ActionToken → TokenContext
behind place (tokens.Blank inline) = if inline then behind_blank place else places.Inside
behind place tokens.Trim = places.Trimmed
behind place _ = places.Inside

-- ---- tokens

-- `IsActionToken place token text rest`: at this place of an action, `text` is this token, where `rest` stands behind it.
pub data IsActionToken (place : TokenContext) (token : ActionToken) (text rest : List ℕ) : Type 0 where
  -- a blank, a sign of one byte, or a byte that begins nothing
  one_byte : (b : ℕ) → text ≡ b ∷ [] → beginning b ≡ begins.Alone token → IsActionToken place token text rest
  in_quotes : (quote : ℕ) (inner : List ℕ) →
      text ≡ quote ∷ (inner ++ quote ∷ []) → beginning quote ≡ begins.Quote → IsActionStringInner quote inner → token ≡ tokens.Plain →
      IsActionToken place token text rest
  in_back_quotes : (inner : List ℕ) → text ≡ 96 ∷ (inner ++ 96 ∷ []) → Each is_no_back_quote inner → token ≡ tokens.Plain → IsActionToken place token text rest
  a_word : (b : ℕ) (more : List ℕ) → text ≡ b ∷ more → IsName (b ∷ more) rest → token ≡ tokens.Word (word_of (b ∷ more)) → IsActionToken place token text rest
  a_variable : (name : List ℕ) → text ≡ 36 ∷ name → IsName name rest → token ≡ tokens.Variable (variable_of name) → IsActionToken place token text rest
  a_field : (name : List ℕ) → text ≡ 46 ∷ name → IsName name rest → token ≡ field_of name → IsActionToken place token text rest
  a_number : (digit : ℕ) (more : List ℕ) →
      text ≡ digit ∷ more → beginning digit ≡ begins.Digit → Each is_in_number more → Stops is_in_number rest → token ≡ tokens.Plain →
      IsActionToken place token text rest
  -- := is a sign, and a colon before anything else is wrong
  declares : text ≡ 58 ∷ 61 ∷ [] → token ≡ tokens.Setting → IsActionToken place token text rest
  a_colon : text ≡ 58 ∷ [] → starts (λ b. b == 61) rest ≡ false → token ≡ tokens.Wrong → IsActionToken place token text rest
  -- a comment goes up to the first */
  a_comment : (inner : List ℕ) →
      text ≡ 47 ∷ 42 ∷ (inner ++ 42 ∷ 47 ∷ []) → takes_comment place ≡ true → FreeOf ends_comment inner (42 ∷ 47 ∷ rest) → token ≡ tokens.Comment →
      IsActionToken place token text rest
  a_slash : text ≡ 47 ∷ [] → (takes_comment place && starts (λ b. b == 42) rest) ≡ false → token ≡ tokens.Wrong → IsActionToken place token text rest
  a_minus : text ≡ 45 ∷ [] → token ≡ (if is_trim place rest then tokens.Trim else tokens.Plain) → IsActionToken place token text rest

-- a token as it is written
pub record Part : Type 0 where
  pub token : ActionToken
  pub text : List ℕ

abbrev pub texts : List Part → List ℕ
texts parts = flat_map (λ part. part.text) parts

abbrev pub lexeme : Part → Lexeme
lexeme part = record { token = part.token; len = length part.text }

-- The parts are tokens one behind the other, the first at a place of an action, before the rest. None begins where the action could end.
abbrev pub AreParts : TokenContext → List Part → List ℕ → Type 0
AreParts place [] rest = Unit {0}
AreParts place (part ∷ parts) rest =
    (closes (part.text ++ (texts parts ++ rest)) ≡ false) × IsActionToken place part.token part.text (texts parts ++ rest) × AreParts (behind place part.token) parts rest
