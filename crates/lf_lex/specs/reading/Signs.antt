-- A way of reading signs, which defines nothing.
use Rattle.std.specs.Prelude.{ℕ, List, [], ◌∷◌, Option, Some, None, ◌==◌, if◌then◌else◌}
use Rattle.lf_lex.specs.declared.token.Sign.{Sign}
use Rattle.lf_lex.specs.declared.token.Sign.TheVariants as signs

-- the sign of two bytes: == != <= >= =~ !~
unfoldable pub sign_of_two : ℕ → ℕ → Option Sign
sign_of_two b c =
    if c == 61 then (if b == 61 then Some signs.Equal else if b == 33 then Some signs.NotEqual else if b == 60 then Some signs.LessOrEqual else if b == 62 then Some signs.GreaterOrEqual else None) else if c == 126 then (if b == 61 then Some signs.Matches else if b == 33 then Some signs.MatchesNot else None) else None

-- the sign of one byte: ( ) { } [ ] , : + - * / % ^ < > = @
unfoldable pub sign_of_one : ℕ → Option Sign
sign_of_one b =
    if b == 40 then Some signs.OpenParen else if b == 41 then Some signs.CloseParen else if b == 123 then Some signs.OpenBrace else if b == 125 then Some signs.CloseBrace else if b == 91 then Some signs.OpenBracket else if b == 93 then Some signs.CloseBracket else if b == 44 then Some signs.Comma else if b == 58 then Some signs.Colon else if b == 43 then Some signs.Plus else if b == 45 then Some signs.Minus else if b == 42 then Some signs.Times else if b == 47 then Some signs.Over else if b == 37 then Some signs.Modulo else if b == 94 then Some signs.Power else if b == 60 then Some signs.Less else if b == 62 then Some signs.Greater else if b == 61 then Some signs.Is else if b == 64 then Some signs.At else None

abbrev pub one_byte : Option Sign → Option (Sign × ℕ)
one_byte None = None
one_byte (Some sign) = Some (sign, 1)

abbrev pub two_bytes : Option Sign → Option (Sign × ℕ) → Option (Sign × ℕ)
two_bytes None shorter = shorter
two_bytes (Some sign) shorter = Some (sign, 2)

-- the sign at the front, the longer where there are two, and how many bytes it has
unfoldable pub sign_at : List ℕ → Option (Sign × ℕ)
sign_at [] = None
sign_at (b ∷ []) = one_byte (sign_of_one b)
sign_at (b ∷ c ∷ more) = two_bytes (sign_of_two b c) (one_byte (sign_of_one b))
