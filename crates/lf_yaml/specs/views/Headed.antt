-- The code's keys and entries as those of the definitions. It defines nothing of trees.
use Rattle.std.specs.Prelude.{◌≡◌, ℕ, suc, ◌+◌, ◌<◌, List, take, drop, length, get_or, Some}
use Rattle.std.specs.Str.{IsCharBoundary}
use Rattle.lf_scalar.specs.Cells.{cell, cells}
use Rattle.lf_scalar.specs.Quoted.{quote_of}
use Rattle.lf_scalar.specs.reading.Quoted.{closing_of}
use Rattle.lf_scalar.specs.Splits.{split_of}
use Rattle.lf_yaml.specs.Heads.{Key, Bare, Between}
use Rattle.lf_yaml.specs.reading.Trees.{EntryHead}
use Rattle.lf_yaml.specs.declared.entries.Key.{Key as CodeKey}
use Rattle.lf_yaml.specs.declared.entries.Key.TheVariants as code
use Rattle.lf_yaml.specs.declared.entries.EntryHead.{EntryHead as CodeHead}

-- the key of a text that stands at an offset
abbrev pub key_of_code : ℕ → List ℕ → CodeKey → Key
key_of_code at text (code.Bare len) = Bare (cells at (take len text))
key_of_code at text (code.Between quote closing) = Between quote

abbrev pub headed : ℕ → List ℕ → CodeHead → EntryHead
headed at text h = (key_of_code at text h.key, cell 58 h.colon, cells (suc h.colon) h.behind.now)

-- what is known of a key that was found in a text
abbrev pub IsKeyIn : ℕ → List ℕ → CodeKey → Type 0
IsKeyIn at text (code.Bare len) = IsCharBoundary text len
IsKeyIn at text (code.Between quote closing) =
    (get_or text 0 0 ≡ quote_of quote) × (closing < length (drop 1 text)) × (get_or (drop 1 text) closing 0 ≡ quote_of quote)
    × (closing_of quote 0 (cells (at + 1) (drop 1 text)) ≡ Some (split_of (at + 1) (drop 1 text) closing))
