-- What functions of labels do by their strings: `absent`, `label_replace` and `label_join`.
use Rattle.std.specs.Prelude.{◌≡◌, ◌⊎◌, nat_lt, Bool, true, false, not, ◌&&◌, cond, List, [], ◌∷◌, ◌++◌, map, length, drop}
use Rattle.std.specs.Str.{bytes_eq}
use Rattle.std.specs.List.{filter}
use Rattle.lf_ast.specs.Labels.{Bytes}
use Rattle.lf_ast.specs.declared.expr.Matcher.{Matcher}
use Rattle.lf_ast.specs.Arguments.{has_dollar, text_at}
use Rattle.lf_ast.specs.Selectors.{is_equal}
use Rattle.lf_pattern.specs.Replacement.{HasPieces, IsPlainReplacement, IsTextOf}
use Rattle.lf_pattern.specs.declared.replacement.ReplacementPiece.{ReplacementPiece}

-- `absent`

-- the texts of the `=` matchers
abbrev pub equal_texts : List Matcher → List Bytes
equal_texts matchers = map (λ m. m.value) (filter (λ m. is_equal m.op) matchers)

-- the texts that a label may take, by the matchers on it: of a single `=` its text, of several matchers nothing or the text of any `=`, and else nothing
abbrev pub absent_texts : List Matcher → List Bytes
absent_texts (m ∷ []) = cond (is_equal m.op) m.value [] ∷ []
absent_texts matchers = [] ∷ equal_texts matchers

-- `label_replace(v, TARGET, REPLACEMENT, SOURCE, PATTERN)`

pub record Replacing : Type 0 where
  pub target : Bytes
  pub replacement : Bytes
  pub source : Bytes
  pub pattern : Bytes

abbrev pub replacing : List Bytes → Replacing
replacing texts = record { target = text_at texts 1; replacement = text_at texts 2; source = text_at texts 3; pattern = text_at texts 4 }

-- What a replacement stands for at a value that the pattern matches. Without a `$` it is itself; a plain one with `$` is what its pieces stand for; and any other is
-- any text.
abbrev pub Expands : Replacing → Bytes → Bytes → Type 0
Expands r value text =
    ((has_dollar r.replacement ≡ false) × (text ≡ r.replacement))
    ⊎ ((has_dollar r.replacement ≡ true)
    × (((pieces : List ReplacementPiece) × HasPieces r.replacement pieces × IsTextOf r.pattern value pieces text)
    ⊎ (IsPlainReplacement r.replacement → ⊥)))

-- `label_join(v, TARGET, SEPARATOR, SOURCE, ..)`

pub record Joining : Type 0 where
  pub target : Bytes
  pub separator : Bytes
  pub sources : List Bytes

abbrev pub joining : List Bytes → Joining
joining texts = record { target = text_at texts 1; separator = text_at texts 2; sources = drop 3 texts }

-- a separator shows where there is one between two sources
abbrev pub shows : Joining → Bool
shows p = not (bytes_eq p.separator []) && nat_lt 1 (length p.sources)

-- texts with a separator between each two
abbrev pub joined_by : Bytes → List Bytes → Bytes
joined_by separator [] = []
joined_by separator (x ∷ []) = x
joined_by separator (x ∷ y ∷ xs) = x ++ (separator ++ joined_by separator (y ∷ xs))
