use Rattle.std.proofs.Common.{◌≡◌, length, ap, subst, ◌∙◌}
use Rattle.std.specs.Prelude.{IfOk}
use Rattle.lf_classes.specs.RowWords.{row_of_words}
use Rattle.lf_classes.proofs.RowWordOrder.{length-words, words_back}
use Rattle.lf_semantics.specs.ClassRows.{Sets}
use Rattle.lf_candidates.specs.views.Packed.{PackedRow}
use Rattle.lf_candidates.proofs.PackedWords.{some_label}
use Rattle.lf_candidates.proofs.packed_row.PackedRow.row.Goals as goal

pub of_words-requires : goal.of_words-requires
of_words-requires c =
    let u = c.args.universe.now in
    let row : Sets = c.requires.row.0 in
    ap length (c.as_slice.ensures.value ∙ c.in_ok-words.ensures ∙ ap (λ (r : PackedRow). r.words) c.requires.row.2) ∙ length-words u row

pub returns : goal.returns
returns c = λ row is same.
    let u = c.args.universe.now in
    let words = c.as_slice.ensures.value ∙ c.in_ok-words.ensures ∙ ap (λ (r : PackedRow). r.words) same in
    subst (λ (own : Sets). IfOk c.of_words.result (λ whole. whole ≡ own)) (ap (row_of_words u) words ∙ words_back u (some_label u c.requires.universe) row is) c.of_words.ensures
