-- What is read off the arguments of a call: the texts of those that are strings.
use Rattle.std.specs.Prelude.{ℕ, ◌==◌, Bool, List, [], ◌∷◌, slice_index_or, unwrap_or}
use Rattle.std.specs.List.{list_any}
use Rattle.lf_ast.specs.Labels.{Bytes}
use Rattle.lf_ast.specs.Tree.{Tree, Trees, Nil, Next}
use Rattle.lf_ast.specs.Types.{string_of}

-- the text of a string, and the empty text of any other expression
abbrev pub text_of : Tree → Bytes
text_of x = unwrap_or (string_of x) []

-- the texts of arguments
abbrev pub texts_of : Trees → List Bytes
texts_of Nil = []
texts_of (Next x xs) = text_of x ∷ texts_of xs

-- the text of argument k, counted from 0, and the empty text where there is none
abbrev pub text_at : List Bytes → ℕ → Bytes
text_at texts k = slice_index_or texts k []

-- the replacement has a `$`, so it may name groups of a pattern
abbrev pub has_dollar : Bytes → Bool
has_dollar replacement = list_any (λ b. b == 36) replacement
