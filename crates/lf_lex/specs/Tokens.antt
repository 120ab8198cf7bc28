-- The tokens of a text, and its first breach.
use Rattle.std.specs.Prelude.{◌≡◌, ℕ, ◌+◌, List, [], ◌∷◌, ◌++◌, length, slice_index, false}
use Rattle.std.specs.List.{flat_map, AllByRecursion}
use Rattle.lf_base.specs.declared.place.Span.{Span}
use Rattle.lf_base.specs.declared.fault.Fault.{Fault}
use Rattle.lf_base.specs.Faults.{span, LiesIn}
use Rattle.lf_lex.specs.declared.token.Token.{Token}
use Rattle.lf_lex.specs.Lexemes.{Lexeme, Written, lexeme_text, behind_lexemes, AreLexemes}
use Rattle.lf_lex.specs.Breaches.{IsBreach}

-- Entry k of `from` is the offset in the source of byte k of the text. So the bytes from `start` up to `end` of the text stand there in the source:
abbrev pub in_source : List ℕ → ℕ → ℕ → Span
in_source from start end = span (slice_index from start) (slice_index from end)

-- the token that a lexeme is, if it is one
abbrev pub token_of : Lexeme → Span → List Token
token_of (Written kind text) span = record { kind = kind; span = span } ∷ []
token_of _ span = []

-- the tokens of lexemes, the first of which begins at byte `at` of the text
abbrev pub tokens_of : List ℕ → ℕ → List Lexeme → List Token
tokens_of from at [] = []
tokens_of from at (lexeme ∷ lexemes) = let end = at + length (lexeme_text lexeme) in token_of lexeme (in_source from at end) ++ tokens_of from end lexemes

-- The text is lexemes, and these are its tokens.
pub record Tokens (from text : List ℕ) (tokens : List Token) : Type 0 where
  pub lexemes : List Lexeme
  pub source : text ≡ flat_map lexeme_text lexemes
  pub are_lexemes : AreLexemes false lexemes []
  pub tokens_are : tokens ≡ tokens_of from 0 lexemes

-- The text is lexemes, and then something that breaks a rule.
pub record Breaks (from text : List ℕ) (fault : Fault) : Type 0 where
  pub lexemes : List Lexeme
  pub rest : List ℕ
  pub source : text ≡ flat_map lexeme_text lexemes ++ rest
  pub are_lexemes : AreLexemes false lexemes rest
  pub start : ℕ
  pub end : ℕ
  pub breach : IsBreach (behind_lexemes lexemes false) rest fault.kind start end
  pub span_is : fault.span ≡ (let at = length (flat_map lexeme_text lexemes) in in_source from (at + start) (at + end))

-- the span of each token lies in a source of n bytes
abbrev pub LieIn : ℕ → List Token → Type 0
LieIn n tokens = AllByRecursion (λ token. LiesIn n token.span) tokens
