-- A file and its tree, and what breaks it.
use Rattle.std.specs.Prelude.{ℕ, List, [], ◌∷◌, length, false}
use Rattle.lf_base.specs.declared.fault.Fault.{Fault}
use Rattle.lf_scalar.specs.Lines.{lines}
use Rattle.lf_scalar.specs.Scalars.{source_at}
use Rattle.lf_yaml.specs.Rows.{ContentRow, rows_of, without_opening, indent_fault, row_fault}
use Rattle.lf_yaml.specs.Heads.{BeginsNoBlock}
use Rattle.lf_yaml.specs.Characters.{mark_length, AreCharacters, BreaksCharacters}
use Rattle.lf_yaml.specs.Tree.{Tree}
use Rattle.lf_yaml.specs.Spans.{empty_at}
use Rattle.lf_yaml.specs.Nodes.{ValueAt, BlockAt, NodeAt}
use Rattle.lf_yaml.specs.Breaches.{NodeBreaks}

-- ---- the document

abbrev pub document_rows : List ℕ → List ContentRow
document_rows bytes = without_opening (rows_of (lines (length bytes) (source_at bytes (mark_length bytes))))

-- One node, at most 16 deep, with no row behind it. A document without a node is the empty text at offset 0.
pub data DocumentAt (bytes : List ℕ) : List ContentRow → Tree → Type 0 where
  nothing : DocumentAt bytes [] (empty_at 0)
  a_node : {r : ContentRow} {rs : List ContentRow} {t : Tree} → NodeAt bytes 0 16 r rs t [] → DocumentAt bytes (r ∷ rs) t

-- The node breaks, or a row stands behind it. Behind a block sequence or mapping its indent fits no open collection; behind a scalar or flow collection it begins nothing that may stand there.
pub data DocumentBreaks (bytes : List ℕ) : List ContentRow → Fault → Type 0 where
  broken_node : {r : ContentRow} {rs : List ContentRow} {f : Fault} → NodeBreaks bytes 0 16 r rs f → DocumentBreaks bytes (r ∷ rs) f
  behind_block : {r next : ContentRow} {rs later : List ContentRow} {t : Tree} → BlockAt bytes 16 false r rs t (next ∷ later) → DocumentBreaks bytes (r ∷ rs) (indent_fault next)
  behind_value : {r next : ContentRow} {rs later : List ContentRow} {t : Tree} → BeginsNoBlock r → ValueAt bytes 0 16 r rs t (next ∷ later) → DocumentBreaks bytes (r ∷ rs) (row_fault next)

-- ---- the file

pub record IsTree (bytes : List ℕ) (t : Tree) : Type 0 where
  pub characters : AreCharacters bytes
  pub document : DocumentAt bytes (document_rows bytes) t

-- The bytes aren't UTF-8, or else hold a character that isn't allowed, or else the document breaks.
pub data TreeBreaks (bytes : List ℕ) : Fault → Type 0 where
  bad_characters : {f : Fault} → BreaksCharacters bytes f → TreeBreaks bytes f
  bad_document : {f : Fault} → AreCharacters bytes → DocumentBreaks bytes (document_rows bytes) f → TreeBreaks bytes f
