use Rattle.std.proofs.Common.{◌≡◌, List, ℕ, length, subst, sym, ◌∙◌, ap, arith}
use Rattle.std.specs.Prelude.{IfOk}
use Rattle.std.proofs.lemmas.List.{ext_get_or, length-replicate}
use Rattle.lf_classes.specs.RowWords.{word_count, words_of_row}
use Rattle.lf_classes.proofs.RowWordOrder.{length-words, word_at}
use Rattle.lf_candidates.specs.views.Packed.{unpacked}
use Rattle.lf_candidates.proofs.PackedWords.{words_fit}
use Rattle.lf_candidates.proofs.packed_row.runs_of.Goals as goal

pub write_words-requires : goal.write_words-requires
write_words-requires c =
    let zeros = c.in_ok-words.ensures.items_if_clones_equal (λ y e. e) in
    ap length zeros ∙ length-replicate c.words.result 0 ∙ c.words.ensures ∙ sym (words_fit c.args.universe.now c.args.row.now c.requires.shape)

pub returns : goal.returns
returns c =
    let u = c.args.universe.now in
    let row = c.args.row.now in
    let items : List ℕ = c.write_words.new.into.items in
    let zeros = c.in_ok-words.ensures.items_if_clones_equal (λ y e. e) in
    let long : length items ≡ word_count u = c.write_words.ensures.len ∙ ap length zeros ∙ length-replicate c.words.result 0 ∙ c.words.ensures in
    let all : items ≡ words_of_row u row = ext_get_or 0 items (words_of_row u row) (long ∙ sym (length-words u row)) (λ k less. c.write_words.ensures.words k (omega (arith, less, c.write_words.ensures.len)) ∙ sym (word_at u row k (omega (arith, less, long)))) in
    subst (λ (l : List ℕ). IfOk c.runs_in.result (λ runs. unpacked runs.items ≡ l)) (c.as_slice.ensures.value ∙ all) c.runs_in.ensures
