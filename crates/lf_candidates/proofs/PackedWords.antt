-- The words of a row are put into runs of the same, and are the same again.
use Rattle.std.proofs.Common.{◌≡◌, ◌<◌, ◌+◌, ◌++◌, ℕ, Bool, List, [], ◌∷◌, get_or, length, replicate, take, sym, ◌∙◌, ap, arith}
use Rattle.std.specs.List.{position_or_len, sum}
use Rattle.std.proofs.lemmas.List.{append_assoc, append-nil, length-map, map_more, replicate_more, take_more}
use Rattle.std.proofs.lemmas.List.Concat.{flat_map-append}
use Rattle.lf_classes.specs.Limits.{IsWithin}
use Rattle.lf_classes.specs.RowWords.{in_order, word_count, words_for}
use Rattle.lf_classes.proofs.RowWordOrder.{length-in_order}
use Rattle.lf_semantics.specs.ClassRows.{HasShape, Sets}
use Rattle.lf_semantics.specs.Listing.{Listing, class_counts}
use Rattle.lf_candidates.specs.declared.packed_row.WordRun.{WordRun}
use Rattle.lf_candidates.specs.views.ClassTexts.{first_held}
use Rattle.lf_candidates.specs.views.Packed.{first_classes, unpacked}

-- one run more
pub one_run_more : (runs : List WordRun) (run : WordRun) → unpacked (runs ++ run ∷ []) ≡ unpacked runs ++ replicate run.count run.word
one_run_more runs run = flat_map-append (λ (r : WordRun). replicate r.count r.word) runs (run ∷ []) ∙ ap (λ (l : List ℕ). unpacked runs ++ l) (append-nil (replicate run.count run.word))

module _ (words : List ℕ) where
  -- the first words are those of the runs, and of the one at hand
  abbrev pub InRuns : List WordRun → ℕ → ℕ → ℕ → Type 0
  InRuns runs count word i = unpacked runs ++ replicate count word ≡ take i words

  pub same_again : (runs : List WordRun) (count word i : ℕ) → InRuns runs count word i → i < length words → get_or words i 0 ≡ word → InRuns runs (count + 1) word (i + 1)
  same_again runs count word i so less same =
      ap (λ (l : List ℕ). unpacked runs ++ l) (sym (replicate_more count word)) ∙ sym (append_assoc (unpacked runs) (replicate count word) (word ∷ []))
      ∙ ap (λ (l : List ℕ). l ++ word ∷ []) so ∙ ap (λ (y : ℕ). take i words ++ y ∷ []) (sym same) ∙ sym (take_more words i 0 less)

  pub other_word : (runs more : List WordRun) (count word i : ℕ) → InRuns runs count word i → i < length words → unpacked more ≡ unpacked runs ++ replicate count word → InRuns more 1 (get_or words i 0) (i + 1)
  other_word runs more count word i so less put = ap (λ (l : List ℕ). l ++ get_or words i 0 ∷ []) (put ∙ so) ∙ sym (take_more words i 0 less)

-- a row has as many words as its universe
pub words_fit : (u : Listing) (row : Sets) → HasShape u row → words_for (length (in_order row)) ≡ word_count u
words_fit u row shape = ap words_for (length-in_order row ∙ ap sum shape)

-- the first classes, label by label

pub one_more : (row : Sets) (firsts : List ℕ) (label first : ℕ) → firsts ≡ first_classes (take label row) → label < length row → first ≡ first_held row label → firsts ++ first ∷ [] ≡ first_classes (take (label + 1) row)
one_more row firsts label first so less is =
    ap (λ (l : List ℕ). l ++ first ∷ []) so ∙ ap (λ n. first_classes (take label row) ++ n ∷ []) is ∙ sym (map_more (position_or_len (λ (on : Bool). on)) row label [] less)

-- a universe has a label
pub some_label : (u : Listing) → IsWithin u → 0 < length (class_counts u)
some_label u within = omega (arith, length-map u.named (λ named. length named + 2), within.listing.count)
