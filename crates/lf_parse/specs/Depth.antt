-- How deep tokens are nested, and the bounds.
use Rattle.std.specs.Prelude.{◌≡◌, ℕ, ◌+◌, ◌-◌, ◌<◌, ◌≤◌, nat_eq, nat_lt, Bool, true, false, not, ◌&&◌, ◌||◌, if◌then◌else◌, List, [], ◌∷◌, length, take, fold}
use Rattle.std.specs.Option.{is_some}
use Rattle.lf_lex.specs.declared.token.Token.{Token}
use Rattle.lf_lex.specs.declared.token.Sign.TheVariants.{OpenParen, CloseParen, OpenBrace, CloseBrace, OpenBracket, Comma}
use Rattle.lf_parse.specs.declared.class.WordClass.TheVariants.{Operator}
use Rattle.lf_parse.specs.Tokens.{Mark, Word, Sign, MarkedToken, ◌at◌, op_of_sign, marked}

-- Brackets of one kind count for themselves, and a closing one without its opening one is passed over.
pub record Nesting : Type 0 where
  -- how many operators have the innermost open `(` as theirs, or none where none is open
  pub here : ℕ
  -- the same of what is around that `(`, from the inside out: a count for each open `(`
  pub around : List ℕ
  -- how many `{` are open
  pub braces : ℕ
  -- the last token is a `(` or a `,`
  pub begun : Bool

-- the tokens that count as operators outside braces: the operators, and `[`; one that is a word doesn't count right behind a `(` or a `,`, where it is a label
abbrev pub counts : Bool → Mark → Bool
counts begun (Sign OpenBracket) = true
counts begun (Sign s) = is_some (op_of_sign s)
counts begun (Word (Operator o) w) = not begun
counts begun _ = false

abbrev pub opened : Nesting → Nesting
opened n = record { here = 0; around = n.here ∷ n.around; braces = n.braces; begun = true }

abbrev pub closed : List ℕ → Nesting → Nesting
closed [] n = record { here = n.here; around = []; braces = n.braces; begun = false }
closed (k ∷ ks) n = record { here = k; around = ks; braces = n.braces; begun = false }

abbrev pub counted : Bool → Nesting → Nesting
counted one n = record { here = if one && nat_eq n.braces 0 then n.here + 1 else n.here; around = n.around; braces = n.braces; begun = false }

-- the nesting behind one more token
abbrev pub nested : Nesting → MarkedToken → Nesting
nested n (Sign OpenParen at p) = opened n
nested n (Sign CloseParen at p) = closed n.around n
nested n (Sign OpenBrace at p) = record { here = n.here; around = n.around; braces = n.braces + 1; begun = false }
nested n (Sign CloseBrace at p) = record { here = n.here; around = n.around; braces = n.braces - 1; begun = false }
nested n (Sign Comma at p) = record { here = n.here; around = n.around; braces = n.braces; begun = true }
nested n (m at p) = counted (counts n.begun m) n

-- before the first token
abbrev pub surface : Nesting
surface = record { here = 0; around = []; braces = 0; begun = false }

-- the nesting behind tokens
abbrev pub nesting : List Token → Nesting
nesting ts = fold (λ n t. nested n (marked t)) surface ts

-- more than 100 `(` are open, or more than 100 operators have the innermost one as theirs
abbrev pub is_too_deep : Nesting → Bool
is_too_deep n = nat_lt 100 (length n.around) || nat_lt 100 n.here

-- token k is the first behind which a bound is passed
pub record TooDeepAt (ts : List Token) (k : ℕ) : Type 0 where
  pub within : k < length ts
  pub before : (j : ℕ) → j ≤ k → is_too_deep (nesting (take j ts)) ≡ false
  pub here : is_too_deep (nesting (take (k + 1) ts)) ≡ true

-- no bound is passed
abbrev pub IsBounded : List Token → Type 0
IsBounded ts = (j : ℕ) → j ≤ length ts → is_too_deep (nesting (take j ts)) ≡ false
