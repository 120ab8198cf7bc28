-- A way of reading a text front by front, which defines nothing.
use Rattle.std.specs.Prelude.{◌≡◌, ℕ, ◌+◌, List, [], ◌∷◌, ◌++◌, drop, Bool, Option, Some, None, Result, Ok, Err}
use Rattle.lf_base.specs.declared.place.Span.{Span}
use Rattle.lf_lex.specs.declared.token.Token.{Token}
use Rattle.lf_lex.specs.declared.token.TokenKind.{TokenKind}
use Rattle.lf_lex.specs.Lexemes.{behind_token}
use Rattle.lf_lex.specs.Tokens.{in_source}
use Rattle.lf_base.specs.declared.fault.Fault.{Fault}
use Rattle.lf_lex.specs.reading.Steps.{next_token}

-- whether a bracket is open behind a token, or behind what stands between tokens
abbrev pub behind : Option TokenKind → Bool → Bool
behind None inside = inside
behind (Some kind) inside = behind_token kind inside

abbrev pub tokens_at : Option TokenKind → Span → List Token
tokens_at None span = []
tokens_at (Some kind) span = record { kind = kind; span = span } ∷ []

abbrev pub with_front : List Token → Result (List Token) Fault → Result (List Token) Fault
with_front tokens (Ok more) = Ok (tokens ++ more)
with_front tokens (Err fault) = Err fault

-- `Reads from inside at src answer`: the bytes `src`, the first of which is byte `at` of the text, are read as these tokens, or broken by this fault, the first from
-- the left. `inside` says that the last bracket before them is open.
pub data Reads (from : List ℕ) : Bool → ℕ → List ℕ → Result (List Token) Fault → Type 0 where
  ends : {inside : Bool} {at : ℕ} → Reads from inside at [] (Ok [])
  goes_on : {inside : Bool} {at b : ℕ} {src : List ℕ} {answer : Result (List Token) Fault} (found : Option TokenKind) (n : ℕ) →
      next_token from inside at (b ∷ src) ≡ Ok (found, n) →
      Reads from (behind found inside) (at + n) (drop n (b ∷ src)) answer →
      Reads from inside at (b ∷ src) (with_front (tokens_at found (in_source from at (at + n))) answer)
  breaks : {inside : Bool} {at b : ℕ} {src : List ℕ} (fault : Fault) →
      next_token from inside at (b ∷ src) ≡ Err fault →
      Reads from inside at (b ∷ src) (Err fault)
