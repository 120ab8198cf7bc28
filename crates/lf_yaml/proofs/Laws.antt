-- Reading a file is the definition, both ways: there is one tree or one breach, and never both.
use Rattle.std.proofs.Common.{◌≡◌, ℕ, ◌<◌, Bool, true, false, cond, List, [], ◌∷◌, Result, Ok, Err, length, refl, ap, arith, sym, ◌∙◌, subst, inl, inr, get_or}
use Rattle.std.specs.Prelude.{IsUtf8, drop}
use Rattle.std.specs.Str.{IsValidUpTo}
use Rattle.std.proofs.lemmas.List.{take_all}
use Rattle.std.proofs.lemmas.Bool.{cases_lt}
use Rattle.lf_base.specs.declared.kind.Kind.TheVariants.{BadUtf8, BadChar}
use Rattle.lf_base.specs.declared.fault.Fault.{Fault}
use Rattle.lf_scalar.specs.Cells.{byte_fault, ◌>>=◌, cell, character_fault}
use Rattle.lf_scalar.specs.Lines.{lines}
use Rattle.lf_scalar.specs.Scalars.{source_at}
use Rattle.lf_scalar.proofs.Tails.{true-false}
use Rattle.lf_yaml.specs.Characters.{mark_length, is_wrong, FirstWrong, AreCharacters, BreaksCharacters}
use Rattle.lf_yaml.specs.Rows.{ContentRow, rows_of, is_opening, without_opening}
use Rattle.lf_yaml.specs.Tree.{Tree}
use Rattle.lf_yaml.specs.Nodes.{NodeAt, BlockAt}
use Rattle.lf_yaml.specs.Nodes as nodes
use Rattle.lf_yaml.specs.Document.{document_rows, DocumentAt, nothing, a_node, DocumentBreaks, broken_node, behind_block, behind_value}
use Rattle.lf_yaml.specs.reading.Trees.{Read, begins_block, node_at, behind_root, document_of}
use Rattle.lf_yaml.proofs.HeadLaws.{begins-no-block}
use Rattle.lf_yaml.proofs.Placed.{ArePlaced, file-placed}
use Rattle.lf_yaml.proofs.Steps.{value-node}
use Rattle.lf_yaml.proofs.Values.{value-is}
use Rattle.lf_yaml.proofs.Blocks.{items-begin, entries-begin, begins-mapping, node-is, block-is}
use Rattle.lf_yaml.proofs.HeadLaws as heads
use Rattle.lf_yaml.proofs.BlockBreaks.{node-breaks}
use Rattle.lf_yaml.proofs.BlockTells.{NodeTold, node-tells}

-- ---- the document

block-begins : (bytes : List ℕ) (d : ℕ) (own : Bool) (r : ContentRow) (rs : List ContentRow) (t : Tree) (rest : List ContentRow) → BlockAt bytes d own r rs t rest → begins_block r ≡ true
block-begins bytes _ own r rs _ rest (nodes.BlockAt.block_sequence {d = d} {is = is} h) = heads.begins-block r (inl (items-begin bytes d own _ r rs is rest h))
block-begins bytes _ own r rs _ rest (nodes.BlockAt.block_mapping {d = d} {es = es} h) = begins-mapping r (entries-begin bytes d _ [] r rs es rest h)

abbrev root : ContentRow → Read Tree → Result Tree Fault
root r read = read >>= λ x. behind_root r x

pub document-is : (bytes : List ℕ) (rs : List ContentRow) (t : Tree) → DocumentAt bytes rs t → document_of bytes rs ≡ Ok t
unfolding document_of
document-is bytes _ _ nothing = refl
document-is bytes _ t (a_node {r = r} {rs = rs} h) = ap (root r) (node-is bytes 0 16 r rs t [] h)

pub document-breaks : (bytes : List ℕ) (rs : List ContentRow) (f : Fault) → DocumentBreaks bytes rs f → document_of bytes rs ≡ Err f
unfolding document_of
document-breaks bytes _ f (broken_node {r = r} {rs = rs} h) = ap (root r) (node-breaks bytes 0 16 r rs f h)
document-breaks bytes _ _ (behind_block {r = r} {next = next} {rs = rs} {later = later} {t = t} h) =
    ap (root r) (block-is bytes 0 16 false r rs t (next ∷ later) h) ∙ rw (block-begins bytes 16 false r rs t (next ∷ later) h) refl
document-breaks bytes _ _ (behind_value {r = r} {next = next} {rs = rs} {later = later} {t = t} n h) =
    ap (root r) (value-node bytes 16 false 0 r rs n ∙ value-is bytes 0 16 r rs t (next ∷ later) h) ∙ rw (begins-no-block r n) refl

abbrev pub DocumentTold : List ℕ → List ContentRow → Result Tree Fault → Type 0
DocumentTold bytes rs (Ok t) = DocumentAt bytes rs t
DocumentTold bytes rs (Err f) = DocumentBreaks bytes rs f

behind-told : (bytes : List ℕ) (r next : ContentRow) (rs later : List ContentRow) (t : Tree) → NodeAt bytes 0 16 r rs t (next ∷ later) → DocumentTold bytes (r ∷ rs) (behind_root r (t, next ∷ later))
behind-told bytes r next rs later t (nodes.NodeAt.value n h) = rw (begins-no-block r n) (behind_value n h)
behind-told bytes r next rs later t (nodes.NodeAt.block above h) = rw (block-begins bytes 16 false r rs t (next ∷ later) h) (behind_block h)

root-told : (bytes : List ℕ) (r : ContentRow) (rs : List ContentRow) (read : Read Tree) → NodeTold bytes 0 16 r rs read → DocumentTold bytes (r ∷ rs) (root r read)
root-told bytes r rs (Ok (t, [])) h = a_node h
root-told bytes r rs (Ok (t, next ∷ later)) h = behind-told bytes r next rs later t h
root-told bytes r rs (Err f) h = broken_node h

rows-told : (bytes : List ℕ) (rs : List ContentRow) → ArePlaced bytes rs → DocumentTold bytes rs (document_of bytes rs)
unfolding document_of
rows-told bytes [] placed = nothing
rows-told bytes (r ∷ rs) placed = root-told bytes r rs (node_at bytes 16 false 0 r rs) (node-tells bytes 16 0 r rs placed.0 placed.1)

opening-placed : (bytes : List ℕ) (rs : List ContentRow) → ArePlaced bytes rs → ArePlaced bytes (without_opening rs)
opening-placed bytes [] h = tt
opening-placed bytes (r ∷ rs) h = by (is_opening r)
  where
    by : (b : Bool) → ArePlaced bytes (cond b rs (r ∷ rs))
    by true = h.1
    by false = h

pub rows-of-document : (bytes : List ℕ) → ArePlaced bytes (document_rows bytes)
rows-of-document bytes = opening-placed bytes (rows_of (lines (length bytes) (source_at bytes (mark_length bytes)))) (file-placed bytes (mark_length bytes))

pub document-tells : (bytes : List ℕ) → DocumentTold bytes (document_rows bytes) (document_of bytes (document_rows bytes))
document-tells bytes = rows-told bytes (document_rows bytes) (rows-of-document bytes)

-- ---- the characters

valid-within : (bytes : List ℕ) (m n : ℕ) → IsValidUpTo bytes m → IsValidUpTo bytes n → m < n → ⊥
valid-within bytes m n h k lt = h.longest n lt k.front

valid-one : (bytes : List ℕ) (m n : ℕ) → IsValidUpTo bytes m → IsValidUpTo bytes n → m ≡ n
valid-one bytes m n h k =
    elim (cases_lt m n) [
      | inl lt ↦ absurd (valid-within bytes m n h k lt)
      | inr le ↦ elim (cases_lt n m) [
        | inl lt ↦ absurd (valid-within bytes n m k h lt)
        | inr le2 ↦ omega (arith, le, le2)
      ]
    ]

not-valid : (bytes : List ℕ) (n : ℕ) → IsValidUpTo bytes n → IsUtf8 bytes → ⊥
not-valid bytes n h utf8 = h.longest (length bytes) h.short (subst IsUtf8 (sym (take_all (length bytes) bytes (omega arith))) utf8)

first-within : (bytes : List ℕ) (k j : ℕ) → FirstWrong bytes k → FirstWrong bytes j → k < j → ⊥
first-within bytes k j h g lt = true-false (is_wrong (drop k bytes)) h.1 (g.2 k h.0 lt)

first-one : (bytes : List ℕ) (k j : ℕ) → FirstWrong bytes k → FirstWrong bytes j → k ≡ j
first-one bytes k j h g =
    elim (cases_lt k j) [
      | inl lt ↦ absurd (first-within bytes k j h g lt)
      | inr le ↦ elim (cases_lt j k) [
        | inl lt ↦ absurd (first-within bytes j k g h lt)
        | inr le2 ↦ omega (arith, le, le2)
      ]
    ]

pub characters-one : (bytes : List ℕ) (f g : Fault) → BreaksCharacters bytes f → BreaksCharacters bytes g → f ≡ g
characters-one bytes f g (inl (m, h, e)) (inl (n, k, q)) = e ∙ ap (λ (x : ℕ). byte_fault BadUtf8 x) (valid-one bytes m n h k) ∙ sym q
characters-one bytes f g (inl (m, h, e)) (inr (utf8, k)) = absurd (not-valid bytes m h utf8)
characters-one bytes f g (inr (utf8, h)) (inl (n, k, q)) = absurd (not-valid bytes n k utf8)
characters-one bytes f g (inr (utf8, (k, h, e))) (inr (utf8b, (j, i, q))) = e ∙ ap (λ (x : ℕ). character_fault BadChar (cell (get_or bytes x 0) x)) (first-one bytes k j h i) ∙ sym q

pub characters-never : (bytes : List ℕ) (f : Fault) → BreaksCharacters bytes f → AreCharacters bytes → ⊥
characters-never bytes f (inl (m, h, e)) (utf8, none) = not-valid bytes m h utf8
characters-never bytes f (inr (utf8, (k, h, e))) (utf8b, none) = true-false (is_wrong (drop k bytes)) h.1 (none k h.0)
