-- Worked files: the tree of one, and the breach of another, with offsets and spans written out by hand.
use Rattle.std.proofs.Common.{◌<◌, zero, suc, List, [], ◌∷◌, ap, arith, refl}
use Rattle.std.specs.Prelude.{codes}
use Rattle.std.specs.List.{AllByRecursion}
use Rattle.std.proofs.lemmas.List.{drop_all}
use Rattle.lf_base.specs.declared.kind.Kind.TheVariants.{DoubleKey}
use Rattle.lf_base.specs.Faults.{span, fault}
use Rattle.lf_scalar.specs.Cells.{Cell, cells}
use Rattle.lf_scalar.specs.Lines.{lines}
use Rattle.lf_scalar.specs.reading.Plain.{plain_behind, plain_of}
use Rattle.lf_scalar.proofs.Parts.{Utf8}
use Rattle.lf_scalar.proofs.Utf8Lines.{utf8-nil, utf8-low}
use Rattle.lf_scalar.proofs.Worked.{value}
use Rattle.lf_yaml.specs.Characters.{is_wrong, NoneWrong, AreCharacters}
use Rattle.lf_yaml.specs.Tree.{Tree, leaf, mapping, no_entries, entry}
use Rattle.lf_yaml.specs.Rows.{rows_of}
use Rattle.lf_yaml.specs.Keys.{key_in}
use Rattle.lf_yaml.specs.Document.{IsTree, TreeBreaks}
use Rattle.lf_yaml.specs.reading.Trees.{entry_of, key_of, opens_quote, value_on, items, entries, node_at, document_of}
use Rattle.lf_yaml.proofs.Whole.{document-decides}

-- a mapping of one key
abbrev one_entry_tree : Tree
one_entry_tree = mapping (entry (value (codes "a") (0 ∷ 1 ∷ []) (span 0 1)) (leaf (value (codes "b") (3 ∷ 4 ∷ []) (span 3 4))) no_entries) (span 0 4)

-- characters of ASCII are UTF-8
pub low_utf8 : (cs : List Cell) → AllByRecursion (λ c. c.byte < 128) cs → Utf8 cs
low_utf8 [] h = utf8-nil
low_utf8 (c ∷ cs) h = utf8-low c cs h.0 (low_utf8 cs h.1)

are_in_one : AreCharacters (codes "a: b\n")
are_in_one = (low_utf8 (cells 0 (codes "a: b\n")) (omega arith, (omega arith, (omega arith, (omega arith, (omega arith, tt))))), none)
  where
    none : NoneWrong (codes "a: b\n")
    none zero h = refl
    none (suc zero) h = refl
    none (suc (suc zero)) h = refl
    none (suc (suc (suc zero))) h = refl
    none (suc (suc (suc (suc zero)))) h = refl
    none (suc (suc (suc (suc (suc k))))) h = ap is_wrong (drop_all (suc (suc (suc (suc (suc k))))) (codes "a: b\n") (omega arith))

one_entry : IsTree (codes "a: b\n") one_entry_tree
unfolding lines rows_of key_in plain_behind plain_of entry_of key_of opens_quote value_on items entries node_at document_of
one_entry = (document-decides (codes "a: b\n") are_in_one).stands one_entry_tree refl

are_in_two : AreCharacters (codes "a:\na:\n")
are_in_two = (low_utf8 (cells 0 (codes "a:\na:\n")) (omega arith, (omega arith, (omega arith, (omega arith, (omega arith, (omega arith, tt)))))), none)
  where
    none : NoneWrong (codes "a:\na:\n")
    none zero h = refl
    none (suc zero) h = refl
    none (suc (suc zero)) h = refl
    none (suc (suc (suc zero))) h = refl
    none (suc (suc (suc (suc zero)))) h = refl
    none (suc (suc (suc (suc (suc zero))))) h = refl
    none (suc (suc (suc (suc (suc (suc k)))))) h = ap is_wrong (drop_all (suc (suc (suc (suc (suc (suc k)))))) (codes "a:\na:\n") (omega arith))

-- a key that stands twice, told at the second
second_key : TreeBreaks (codes "a:\na:\n") (fault DoubleKey (span 3 4))
unfolding lines rows_of key_in plain_behind plain_of entry_of key_of opens_quote value_on items entries node_at document_of
second_key = (document-decides (codes "a:\na:\n") are_in_two).breaks (fault DoubleKey (span 3 4)) refl
