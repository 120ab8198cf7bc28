-- What the code's escapes stand for.
use Rattle.std.specs.Prelude.{ℕ, List, [], ◌∷◌, Option, Some, None, encode_utf8}
use Rattle.lf_lex.specs.declared.string.Escaped.{Escaped}
use Rattle.lf_lex.specs.declared.string.Escaped.TheVariants.{Byte, Character}

abbrev pub given_by : Escaped → List ℕ
given_by (Byte b) = b ∷ []
given_by (Character c) = encode_utf8 c

abbrev pub told_of : Option (Escaped × ℕ) → Option (List ℕ × ℕ)
told_of None = None
told_of (Some e) = Some (given_by e.0, e.1)
