-- Worked files with keys between quotes as long as they may be, and one character longer: trees and breaches with offsets and spans written out by hand.
use Rattle.std.proofs.Common.{◌≡◌, ℕ, zero, suc, ◌<◌, false, List, [], ◌∷◌, drop, refl, ap, arith, subst}
use Rattle.std.specs.List.{AllByRecursion}
use Rattle.std.specs.Str.{IsUtf8}
use Rattle.std.proofs.lemmas.List.{drop_all}
use Rattle.lf_base.specs.declared.kind.Kind.TheVariants.{BadEscape, LeftOut}
use Rattle.lf_base.specs.declared.place.Span.{Span}
use Rattle.lf_base.specs.Faults.{span, fault}
use Rattle.lf_scalar.specs.Cells.{Cell, cells}
use Rattle.lf_scalar.specs.Lines.{lines}
use Rattle.lf_scalar.specs.Quoted.{letter_of}
use Rattle.lf_scalar.specs.reading.Quoted.{piece_of, scan, closing_of, lines_behind, quoted_of}
use Rattle.lf_scalar.specs.reading.Plain as plain
use Rattle.lf_yaml.specs.Characters.{is_wrong, AreCharacters}
use Rattle.lf_yaml.specs.Tree.{Tree, leaf, mapping, no_entries, entry}
use Rattle.lf_yaml.specs.Rows.{rows_of}
use Rattle.lf_yaml.specs.Keys.{key_in, closed_in}
use Rattle.lf_yaml.specs.Flow.{next_part, next_on, onward}
use Rattle.lf_yaml.specs.Document.{IsTree, TreeBreaks}
use Rattle.lf_yaml.specs.reading.Trees.{entry_of, key_of, opens_quote, plain_behind, flow_scalar, flow_key, flow_value, mapping_in, value_on, items, entries, node_at, document_of}
use Rattle.lf_scalar.proofs.Cells.{cells-bytes}
use Rattle.lf_scalar.proofs.Worked.{value}
use Rattle.lf_yaml.proofs.Whole.{document-decides}
use Rattle.lf_yaml.proofs.Worked.{low_utf8}

-- ---- the files

-- so many times x before some bytes
abbrev xs : ℕ → List ℕ → List ℕ
xs zero tail = tail
xs (suc n) tail = 120 ∷ xs n tail

-- `"x..":`, with so many x
abbrev block_key : ℕ → List ℕ
block_key n = 34 ∷ xs n (34 ∷ 58 ∷ [])

-- `"\qx..":`
abbrev escaped_key : ℕ → List ℕ
escaped_key n = 34 ∷ 92 ∷ 113 ∷ xs n (34 ∷ 58 ∷ [])

-- `{"x..":}`
abbrev flow_file : ℕ → List ℕ
flow_file n = 123 ∷ 34 ∷ xs n (34 ∷ 58 ∷ 125 ∷ [])

-- `{"\qx..":}`
abbrev escaped_flow : ℕ → List ℕ
escaped_flow n = 123 ∷ 34 ∷ 92 ∷ 113 ∷ xs n (34 ∷ 58 ∷ 125 ∷ [])

-- ---- their characters are allowed

abbrev Clean : List ℕ → Type 0
Clean bytes = (k : ℕ) → is_wrong (drop k bytes) ≡ false

clean-nil : Clean []
clean-nil k = ap is_wrong (drop_all k [] (omega arith))

clean-cons : (b : ℕ) (bytes : List ℕ) → is_wrong (b ∷ bytes) ≡ false → Clean bytes → Clean (b ∷ bytes)
clean-cons b bytes h c zero = h
clean-cons b bytes h c (suc k) = c k

x-is : (n : ℕ) (b : ℕ) (tail : List ℕ) → is_wrong (120 ∷ xs n (b ∷ tail)) ≡ false
x-is zero b tail = refl
x-is (suc n) b tail = refl

clean-xs : (n : ℕ) (b : ℕ) (tail : List ℕ) → Clean (b ∷ tail) → Clean (xs n (b ∷ tail))
clean-xs zero b tail c = c
clean-xs (suc n) b tail c = clean-cons 120 (xs n (b ∷ tail)) (x-is n b tail) (clean-xs n b tail c)

abbrev Low : Cell → Type 0
Low c = c.byte < 128

low-xs : (at n : ℕ) (tail : List ℕ) → ((from : ℕ) → AllByRecursion Low (cells from tail)) → AllByRecursion Low (cells at (xs n tail))
low-xs at zero tail h = h at
low-xs at (suc n) tail h = (omega arith, low-xs (suc at) n tail h)

low-utf8 : (bytes : List ℕ) → AllByRecursion Low (cells 0 bytes) → IsUtf8 bytes
low-utf8 bytes h = subst IsUtf8 (cells-bytes 0 bytes) (low_utf8 (cells 0 bytes) h)

block-end : Clean (34 ∷ 58 ∷ [])
block-end = clean-cons 34 (58 ∷ []) refl (clean-cons 58 [] refl clean-nil)

flow-end : Clean (34 ∷ 58 ∷ 125 ∷ [])
flow-end = clean-cons 34 (58 ∷ 125 ∷ []) refl (clean-cons 58 (125 ∷ []) refl (clean-cons 125 [] refl clean-nil))

in-block : (n : ℕ) → AreCharacters (block_key (suc n))
in-block n = (low-utf8 (block_key (suc n)) (omega arith, low-xs 1 (suc n) (34 ∷ 58 ∷ []) (λ from. (omega arith, (omega arith, tt)))), λ k le. clean k)
  where
    clean : Clean (block_key (suc n))
    clean = clean-cons 34 (xs (suc n) (34 ∷ 58 ∷ [])) refl (clean-xs (suc n) 34 (58 ∷ []) block-end)

in-escaped : (n : ℕ) → AreCharacters (escaped_key (suc n))
in-escaped n = (low-utf8 (escaped_key (suc n)) (omega arith, (omega arith, (omega arith, low-xs 3 (suc n) (34 ∷ 58 ∷ []) (λ from. (omega arith, (omega arith, tt)))))), λ k le. clean k)
  where
    clean : Clean (escaped_key (suc n))
    clean = clean-cons 34 _ refl (clean-cons 92 _ refl (clean-cons 113 (xs (suc n) (34 ∷ 58 ∷ [])) refl (clean-xs (suc n) 34 (58 ∷ []) block-end)))

in-flow : (n : ℕ) → AreCharacters (flow_file (suc n))
in-flow n = (low-utf8 (flow_file (suc n)) (omega arith, (omega arith, low-xs 2 (suc n) (34 ∷ 58 ∷ 125 ∷ []) (λ from. (omega arith, (omega arith, (omega arith, tt)))))), λ k le. clean k)
  where
    clean : Clean (flow_file (suc n))
    clean = clean-cons 123 _ refl (clean-cons 34 (xs (suc n) (34 ∷ 58 ∷ 125 ∷ [])) refl (clean-xs (suc n) 34 (58 ∷ 125 ∷ []) flow-end))

in-escaped-flow : (n : ℕ) → AreCharacters (escaped_flow (suc n))
in-escaped-flow n =
    (low-utf8 (escaped_flow (suc n)) (omega arith, (omega arith, (omega arith, (omega arith, low-xs 4 (suc n) (34 ∷ 58 ∷ 125 ∷ []) (λ from. (omega arith, (omega arith, (omega arith, tt)))))))), λ k le. clean k)
  where
    clean : Clean (escaped_flow (suc n))
    clean = clean-cons 123 _ refl (clean-cons 34 _ refl (clean-cons 92 _ refl (clean-cons 113 (xs (suc n) (34 ∷ 58 ∷ 125 ∷ [])) refl (clean-xs (suc n) 34 (58 ∷ 125 ∷ []) flow-end))))

-- ---- their trees and breaches

-- so many offsets from one on
abbrev offsets : ℕ → ℕ → List ℕ
offsets from zero = []
offsets from (suc n) = from ∷ offsets (suc from) n

-- a mapping of one key and no value
abbrev key_tree : List ℕ → List ℕ → Span → ℕ → Span → Tree
key_tree text from place colon whole = mapping (entry (value text from place) (leaf (value [] (suc colon ∷ []) (span (suc colon) (suc colon)))) no_entries) whole

-- 1,024 characters stand before the `:`: 1,022 between the quotes, and the quotes
longest_key : IsTree (block_key 1022) (key_tree (xs 1022 []) (offsets 1 1023) (span 0 1024) 1024 (span 0 1025))
unfolding lines rows_of key_in closed_in plain_behind plain.plain_behind plain.plain_of entry_of key_of opens_quote value_on items entries node_at document_of letter_of piece_of scan closing_of lines_behind quoted_of
longest_key = (document-decides (block_key 1022) (in-block 1021)).stands (key_tree (xs 1022 []) (offsets 1 1023) (span 0 1024) 1024 (span 0 1025)) refl

-- one more is told at the quote
too_long_key : TreeBreaks (block_key 1023) (fault LeftOut (span 0 1))
unfolding lines rows_of key_in closed_in plain_behind plain.plain_behind plain.plain_of entry_of key_of opens_quote value_on items entries node_at document_of letter_of piece_of scan closing_of lines_behind quoted_of
too_long_key = (document-decides (block_key 1023) (in-block 1022)).breaks (fault LeftOut (span 0 1)) refl

-- an escape that is none, in a key as long as it may be and in one that is longer
longest_escaped : TreeBreaks (escaped_key 1020) (fault BadEscape (span 1 2))
unfolding lines rows_of key_in closed_in plain_behind plain.plain_behind plain.plain_of entry_of key_of opens_quote value_on items entries node_at document_of letter_of piece_of scan closing_of lines_behind quoted_of
longest_escaped = (document-decides (escaped_key 1020) (in-escaped 1019)).breaks (fault BadEscape (span 1 2)) refl

too_long_escaped : TreeBreaks (escaped_key 1021) (fault LeftOut (span 0 1))
unfolding lines rows_of key_in closed_in plain_behind plain.plain_behind plain.plain_of entry_of key_of opens_quote value_on items entries node_at document_of letter_of piece_of scan closing_of lines_behind quoted_of
too_long_escaped = (document-decides (escaped_key 1021) (in-escaped 1020)).breaks (fault LeftOut (span 0 1)) refl

-- the same in a flow mapping
longest_flow : IsTree (flow_file 1022) (key_tree (xs 1022 []) (offsets 2 1023) (span 1 1025) 1025 (span 0 1027))
unfolding lines rows_of key_in closed_in next_part next_on onward plain_behind plain.plain_behind plain.plain_of entry_of key_of opens_quote flow_scalar flow_key flow_value mapping_in value_on items entries node_at document_of letter_of piece_of scan closing_of lines_behind quoted_of
longest_flow = (document-decides (flow_file 1022) (in-flow 1021)).stands (key_tree (xs 1022 []) (offsets 2 1023) (span 1 1025) 1025 (span 0 1027)) refl

too_long_flow : TreeBreaks (flow_file 1023) (fault LeftOut (span 1 2))
unfolding lines rows_of key_in closed_in next_part next_on onward plain_behind plain.plain_behind plain.plain_of entry_of key_of opens_quote flow_scalar flow_key flow_value mapping_in value_on items entries node_at document_of letter_of piece_of scan closing_of lines_behind quoted_of
too_long_flow = (document-decides (flow_file 1023) (in-flow 1022)).breaks (fault LeftOut (span 1 2)) refl

longest_escaped_flow : TreeBreaks (escaped_flow 1020) (fault BadEscape (span 2 3))
unfolding lines rows_of key_in closed_in next_part next_on onward plain_behind plain.plain_behind plain.plain_of entry_of key_of opens_quote flow_scalar flow_key flow_value mapping_in value_on items entries node_at document_of letter_of piece_of scan closing_of lines_behind quoted_of
longest_escaped_flow = (document-decides (escaped_flow 1020) (in-escaped-flow 1019)).breaks (fault BadEscape (span 2 3)) refl

too_long_escaped_flow : TreeBreaks (escaped_flow 1021) (fault LeftOut (span 1 2))
unfolding lines rows_of key_in closed_in next_part next_on onward plain_behind plain.plain_behind plain.plain_of entry_of key_of opens_quote flow_scalar flow_key flow_value mapping_in value_on items entries node_at document_of letter_of piece_of scan closing_of lines_behind quoted_of
too_long_escaped_flow = (document-decides (escaped_flow 1021) (in-escaped-flow 1020)).breaks (fault LeftOut (span 1 2)) refl
