-- What a text is made of: blanks, comments and tokens.
use Rattle.std.specs.Prelude.{◌≡◌, ℕ, ◌<◌, List, [], ◌∷◌, ◌++◌, length, Bool, true, false}
use Rattle.std.specs.List.{flat_map}
use Rattle.lf_lex.specs.declared.token.Sign.{Sign}
use Rattle.lf_lex.specs.declared.token.Sign.TheVariants.{OpenBracket, CloseBracket, Colon}
use Rattle.lf_lex.specs.declared.token.TokenKind.{TokenKind}
use Rattle.lf_lex.specs.declared.token.TokenKind.TheVariants as kinds
use Rattle.lf_base.specs.Rows.{Each}
use Rattle.lf_lex.specs.Bytes.{is_blank, is_line_break, is_no_line_break, begins_word, is_in_word}
use Rattle.lf_lex.specs.Signs.{spelling}
use Rattle.lf_lex.specs.Runs.{IsRun, IsNumberRun}
use Rattle.lf_lex.specs.Durations.{IsDuration}
use Rattle.lf_lex.specs.Strings.{IsString}

-- `text` is of a sort, and with more of what follows it is not.
abbrev pub IsLongest : (List ℕ → Type 0) → List ℕ → List ℕ → Type 0
IsLongest sort text rest = sort text × ((more left : List ℕ) → rest ≡ more ++ left → 0 < length more → sort (text ++ more) → ⊥)

-- A metric name: a letter, an underscore or a colon, and then these and digits. Inside brackets it has no colon.
abbrev pub IsWord : Bool → List ℕ → Type 0
IsWord inside [] = ⊥
IsWord inside (b ∷ more) = (begins_word inside b ≡ true) × Each (is_in_word inside) more

-- A sign, as it is written. A colon is one inside brackets alone.
abbrev pub IsSign : Bool → Sign → List ℕ → Type 0
IsSign inside sign text = (text ≡ spelling sign) × (sign ≡ Colon → inside ≡ true)

abbrev pub IsSomeSign : Bool → List ℕ → Type 0
IsSomeSign inside text = (sign : Sign) × IsSign inside sign text

-- `text`, before `rest`, is a token of this kind. `inside` says that the last bracket before it is open.
abbrev pub IsToken : Bool → TokenKind → List ℕ → List ℕ → Type 0
IsToken inside (kinds.Word word) text rest = (text ≡ word) × IsLongest (IsWord inside) text rest
IsToken inside (kinds.Number number) text rest = (text ≡ number) × IsLongest IsRun text rest × IsNumberRun text
IsToken inside (kinds.Duration duration) text rest = (text ≡ duration) × IsLongest IsRun text rest × IsDuration text
IsToken inside (kinds.Str value) text rest = IsString text value
IsToken inside (kinds.Sign sign) text rest = IsSign inside sign text × IsLongest (IsSomeSign inside) text rest

-- ---- lexemes

-- a blank, a comment with what stands behind its #, or a token as it is written
pub data Lexeme : Type 0 where
  Blank : ℕ → Lexeme
  Comment : List ℕ → Lexeme
  Written : TokenKind → List ℕ → Lexeme

abbrev pub lexeme_text : Lexeme → List ℕ
lexeme_text (Blank b) = b ∷ []
lexeme_text (Comment line) = 35 ∷ line
lexeme_text (Written kind text) = text

-- the end, or a line feed, at which a string in quotes has to be closed
abbrev pub EndsLine : List ℕ → Type 0
EndsLine [] = Unit {0}
EndsLine (b ∷ rest) = b ≡ 10

-- the end, or a line feed or a carriage return, at which a comment ends
abbrev pub EndsComment : List ℕ → Type 0
EndsComment [] = Unit {0}
EndsComment (b ∷ rest) = is_line_break b ≡ true

abbrev pub IsLexeme : Bool → Lexeme → List ℕ → Type 0
IsLexeme inside (Blank b) rest = is_blank b ≡ true
IsLexeme inside (Comment line) rest = Each is_no_line_break line × EndsComment rest
IsLexeme inside (Written kind text) rest = IsToken inside kind text rest

-- whether the last bracket is open behind a sign, a token, a lexeme
abbrev pub behind_sign : Sign → Bool → Bool
behind_sign OpenBracket inside = true
behind_sign CloseBracket inside = false
behind_sign _ inside = inside

abbrev pub behind_token : TokenKind → Bool → Bool
behind_token (kinds.Sign sign) inside = behind_sign sign inside
behind_token _ inside = inside

abbrev pub behind_lexeme : Lexeme → Bool → Bool
behind_lexeme (Written kind text) inside = behind_token kind inside
behind_lexeme _ inside = inside

abbrev pub behind_lexemes : List Lexeme → Bool → Bool
behind_lexemes [] inside = inside
behind_lexemes (lexeme ∷ lexemes) inside = behind_lexemes lexemes (behind_lexeme lexeme inside)

-- Each is what it says, before the rest of the text.
abbrev pub AreLexemes : Bool → List Lexeme → List ℕ → Type 0
AreLexemes inside [] rest = Unit {0}
AreLexemes inside (lexeme ∷ lexemes) rest = IsLexeme inside lexeme (flat_map lexeme_text lexemes ++ rest) × AreLexemes (behind_lexeme lexeme inside) lexemes rest
