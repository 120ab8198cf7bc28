-- The bytes that the tokens of an action are made of. Letters and digits are those of ASCII.
use Rattle.std.specs.Prelude.{ℕ, List, [], ◌∷◌, Bool, true, false, ◌==◌, ◌||◌, ◌&&◌, if◌then◌else◌}
use Rattle.lf_base.specs.Names.{begins_label, is_in_label, is_digit}
use Rattle.lf_templates.specs.declared.token.ActionToken.{ActionToken}
use Rattle.lf_templates.specs.declared.token.ActionToken.TheVariants as tokens
use Rattle.lf_templates.specs.declared.token.Beginning.{Beginning}
use Rattle.lf_templates.specs.declared.token.Beginning.TheVariants as begins

-- what a number goes on with behind its first digit
unfoldable pub is_in_number : ℕ → Bool
is_in_number b = is_in_label b || b == 46

-- a space and a tab, the bytes of a line break, ( and ) and , and = and | and +; any other byte begins no token
abbrev pub alone : ℕ → ActionToken
alone b =
    if b == 32 then tokens.Blank true else if b == 9 then tokens.Blank true else if b == 10 then tokens.Blank false else if b == 13 then tokens.Blank false else if b == 40 then tokens.Open else if b == 41 then tokens.Close else if b == 44 then tokens.Setting else if b == 61 then tokens.Setting else if b == 124 then tokens.Plain else if b == 43 then tokens.Plain else tokens.Wrong

-- What a byte begins that is no letter, underscore or digit: blanks, parentheses, most signs and each byte that begins nothing are tokens by themselves.
unfoldable pub sign_begins : ℕ → Beginning
sign_begins b =
    if b == 34 then begins.Quote else if b == 39 then begins.Quote else if b == 96 then begins.BackQuote else if b == 36 then begins.Dollar else if b == 46 then begins.Dot else if b == 58 then begins.Colon else if b == 47 then begins.Slash else if b == 45 then begins.Minus else begins.Alone (alone b)

unfoldable pub beginning : ℕ → Beginning
beginning b = if begins_label b then begins.Letter else if is_digit b then begins.Digit else sign_begins b

-- to be a certain byte
abbrev pub is : ℕ → ℕ → Bool
is b c = b == c

-- whether a text begins with two bytes
abbrev pub starts_with : ℕ → ℕ → List ℕ → Bool
starts_with b c [] = false
starts_with b c (x ∷ []) = false
starts_with b c (x ∷ y ∷ rest) = x == b && y == c
