-- The signs, as they are written.
use Rattle.std.specs.Prelude.{ℕ, List, codes}
use Rattle.lf_lex.specs.declared.token.Sign.{Sign}
use Rattle.lf_lex.specs.declared.token.Sign.TheVariants as signs

abbrev pub spelling : Sign → List ℕ
spelling signs.OpenParen = codes "("
spelling signs.CloseParen = codes ")"
spelling signs.OpenBrace = codes "{"
spelling signs.CloseBrace = codes "}"
spelling signs.OpenBracket = codes "["
spelling signs.CloseBracket = codes "]"
spelling signs.Comma = codes ","
spelling signs.Colon = codes ":"
spelling signs.Plus = codes "+"
spelling signs.Minus = codes "-"
spelling signs.Times = codes "*"
spelling signs.Over = codes "/"
spelling signs.Modulo = codes "%"
spelling signs.Power = codes "^"
spelling signs.Equal = codes "=="
spelling signs.NotEqual = codes "!="
spelling signs.LessOrEqual = codes "<="
spelling signs.Less = codes "<"
spelling signs.GreaterOrEqual = codes ">="
spelling signs.Greater = codes ">"
spelling signs.Is = codes "="
spelling signs.Matches = codes "=~"
spelling signs.MatchesNot = codes "!~"
spelling signs.At = codes "@"
