-- The texts of label sets. A label that is absent counts as the empty text.
use Rattle.std.specs.Prelude.{◌≡◌, ◌≢◌, Bool, [], Some, cond}
use Rattle.std.specs.Option.{unwrap_or}
use Rattle.std.specs.Str.{bytes_eq}
use Rattle.std.specs.FinMap.{get, insert, remove, retain_keys}
use Rattle.lf_ast.specs.Labels.{Bytes, Labels}

-- the text of a label, or the empty text where it is absent
abbrev pub value_of : Labels → Bytes → Bytes
value_of s name = unwrap_or (get s name) []

-- the label is there
abbrev pub Has : Labels → Bytes → Type 0
Has s name = value_of s name ≢ []

-- no text of the label set is empty
abbrev pub HasTexts : Labels → Type 0
HasTexts s = (name text : Bytes) → get s name ≡ Some text → text ≢ []

-- the labels whose names pass, and no other
abbrev pub restricted : (Bytes → Bool) → Labels → Labels
restricted keeps s = retain_keys s keeps

-- with this text of the label; the empty text removes it
abbrev pub with_label : Bytes → Bytes → Labels → Labels
with_label name text s = cond (bytes_eq text []) (remove s name) (insert s name text)
