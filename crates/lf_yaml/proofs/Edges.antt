-- The edges of a document, as the code finds them.
use Rattle.std.proofs.Common.{◌≡◌, ℕ, ◌<◌, Bool, true, false, List, [], ◌∷◌, ◌++◌, length, take, drop, Some, None, Ok, Err, eq-eqb, refl, ap, arith, sym, ◌∙◌, inl, inr}
use Rattle.std.specs.Prelude.{bytes_eq}
use Rattle.std.specs.Str.{IsCharBoundary, IsUtf8}
use lib.Utf8.{encode}
use Rattle.std.proofs.lemmas.Slice.Eq.{bytes_eq-Decides}
use Rattle.std.proofs.lemmas.Str.{IsCharBoundary-start, IsCharBoundary-past_char}
use Rattle.std.proofs.lemmas.Bool.{cases_Bool}
use Rattle.std.proofs.lemmas.List.{take-append-drop}
use Rattle.lf_scalar.specs.Cells.{Cell, cells, Fails, ◌>>=◌}
use Rattle.lf_scalar.specs.Lines.{is_tail}
use Rattle.lf_scalar.specs.reading.Quoted.{wrong_behind}
use Rattle.lf_scalar.proofs.Tails.{tail-told, told-tail}
use Rattle.lf_base.specs.declared.refusal.Refusal.{Refusal}
use Rattle.lf_base.specs.declared.refusal.Refusal.TheVariants as refusal_of
use Rattle.lf_yaml.specs.Rows.{ContentRow, indent, is_opening_text, is_opening, without_opening}
use Rattle.lf_yaml.specs.Tree.{Tree}
use Rattle.lf_yaml.specs.Characters.{mark_length}
use Rattle.lf_yaml.specs.Document.{document_rows}
use Rattle.lf_yaml.specs.reading.Trees.{Read, begins_block, node_at, behind_root, document_of}
use Rattle.lf_yaml.specs.views.Shown.{shown}
use Rattle.lf_yaml.specs.views.Cursor.{rows_after}
use Rattle.lf_yaml.specs.reading.BlockTurns.{behind_fault}
use Rattle.lf_yaml.specs.declared.row.ContentLine.{ContentLine}
use Rattle.lf_yaml.proofs.RowCode.{text-shown}

-- ---- a byte order mark

abbrev mark : List ℕ
mark = 0xEF ∷ 0xBB ∷ 0xBF ∷ []

-- behind it a character begins
pub mark-start : (bytes : List ℕ) → IsUtf8 bytes → IsCharBoundary bytes (mark_length bytes)
unfolding encode
mark-start bytes utf8 =
    elim (cases_Bool (bytes_eq (take 3 bytes) mark)) [
      | inl h ↦
          let e : take 3 bytes ≡ mark = (bytes_eq-Decides (take 3 bytes) mark).0 h in
          let p : drop 0 bytes ≡ encode 65279 ++ drop 3 bytes = sym (take-append-drop 3 bytes) ∙ ap (λ (xs : List ℕ). xs ++ drop 3 bytes) e in
          rw h (IsCharBoundary-past_char bytes (drop 3 bytes) 0 65279 (omega arith) utf8 p)
      | inr h ↦ rw h (IsCharBoundary-start bytes utf8)
    ]

-- ---- the rest of a line

some-none : (c : Cell) → Some c ≡ None → ⊥
some-none c e = cc

pub no-tail : (cs : List Cell) (wrong : Cell) → Some wrong ≡ wrong_behind false cs → false ≡ is_tail false cs
no-tail cs wrong e =
    elim (cases_Bool (is_tail false cs)) [
      | inl h ↦ absurd (some-none wrong (e ∙ tail-told false cs h))
      | inr h ↦ sym h
    ]

pub all-tail : (cs : List Cell) → None ≡ wrong_behind false cs → true ≡ is_tail false cs
all-tail cs e = sym (told-tail false cs (sym e))

-- ---- `---`

pub opening-short : (xs : List ℕ) → length xs < 3 → (at : ℕ) → false ≡ is_opening_text (cells at xs)
opening-short [] lt at = refl
opening-short (x ∷ []) lt at = refl
opening-short (x ∷ y ∷ []) lt at = refl
opening-short (x ∷ y ∷ z ∷ xs) lt at = absurd (omega (arith, lt))

pub opening-by : (r : ContentLine) (b : Bool) → 0 < length r.text.now → indent (shown r) ≡ 0 → b ≡ is_opening_text (cells r.at r.text.now) → b ≡ is_opening (shown r)
opening-by r b lt e h = rw (eq-eqb (indent (shown r)) 0 e) (h ∙ ap is_opening_text (sym (text-shown r lt)))

-- ---- the rows of the document

pub rows-from-mark : (bytes : List ℕ) (at : ℕ) → at ≡ mark_length bytes → document_rows bytes ≡ without_opening (rows_after bytes at)
unfolding rows_after
rows-from-mark bytes at e = ap (λ (n : ℕ). without_opening (rows_after bytes n)) (sym e)

pub behind-opening : (bytes : List ℕ) (at behind : ℕ) (r : ContentRow) → at ≡ mark_length bytes → rows_after bytes at ≡ r ∷ rows_after bytes behind → is_opening r ≡ true → document_rows bytes ≡ rows_after bytes behind
behind-opening bytes at behind r e h o = rows-from-mark bytes at e ∙ ap without_opening h ∙ rw o refl

pub no-opening : (bytes : List ℕ) (at behind : ℕ) (r : ContentRow) → at ≡ mark_length bytes → rows_after bytes at ≡ r ∷ rows_after bytes behind → is_opening r ≡ false → document_rows bytes ≡ r ∷ rows_after bytes behind
no-opening bytes at behind r e h o = rows-from-mark bytes at e ∙ ap without_opening h ∙ rw o refl

pub no-rows : (bytes : List ℕ) (at : ℕ) → at ≡ mark_length bytes → rows_after bytes at ≡ [] → document_rows bytes ≡ []
no-rows bytes at e h = rows-from-mark bytes at e ∙ ap without_opening h

-- ---- the root

pub root-is : (bytes : List ℕ) (r : ContentRow) (rs : List ContentRow) → document_rows bytes ≡ r ∷ rs → document_of bytes (document_rows bytes) ≡ (node_at bytes 16 false 0 r rs >>= λ x. behind_root r x)
unfolding document_of
root-is bytes r rs e = ap (document_of bytes) e

pub root-fails : (bytes : List ℕ) (r : ContentRow) (rs : List ContentRow) (e : Refusal) → document_rows bytes ≡ r ∷ rs → Fails e (node_at bytes 16 false 0 r rs) → Fails e (document_of bytes (document_rows bytes))
root-fails bytes r rs refusal_of.Memory h k = tt
root-fails bytes r rs (refusal_of.At kind span) h k = root-is bytes r rs h ∙ ap (λ (x : Read Tree). x >>= λ x. behind_root r x) k

pub root-alone : (bytes : List ℕ) (r : ContentRow) (rs left : List ContentRow) (t : Tree) → document_rows bytes ≡ r ∷ rs → node_at bytes 16 false 0 r rs ≡ Ok (t, left) → left ≡ [] → document_of bytes (document_rows bytes) ≡ Ok t
root-alone bytes r rs left t h k e = root-is bytes r rs h ∙ ap (λ (x : Read Tree). x >>= λ x. behind_root r x) k ∙ ap (λ (xs : List ContentRow). behind_root r (t, xs)) e

pub root-followed : (bytes : List ℕ) (r next : ContentRow) (rs left later : List ContentRow) (t : Tree) → document_rows bytes ≡ r ∷ rs → node_at bytes 16 false 0 r rs ≡ Ok (t, left) → left ≡ next ∷ later → document_of bytes (document_rows bytes) ≡ Err (behind_fault r next)
root-followed bytes r next rs left later t h k e =
    root-is bytes r rs h ∙ ap (λ (x : Read Tree). x >>= λ x. behind_root r x) k ∙ ap (λ (xs : List ContentRow). behind_root r (t, xs)) e ∙ told
  where
    told : behind_root r (t, next ∷ later) ≡ Err (behind_fault r next)
    told =
        elim (cases_Bool (begins_block r)) [
          | inl b ↦ rw b refl
          | inr b ↦ rw b refl
        ]

pub nothing-there : (bytes : List ℕ) → document_rows bytes ≡ [] → document_of bytes [] ≡ document_of bytes (document_rows bytes)
nothing-there bytes e = ap (document_of bytes) (sym e)
