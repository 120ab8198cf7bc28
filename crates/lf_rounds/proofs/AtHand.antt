-- A row that is at hand, and words that are those of it.
use Rattle.std.proofs.Common.{◌≡◌, ℕ, ◌<◌, List, [], length, get_or, set, sym, ◌∙◌, ap, subst, arith}
use Rattle.std.proofs.lemmas.List.{ext_get_or, get_or-map, set-get_or}
use Rattle.std.proofs.lemmas.List.Elements.{Contains-get_or}
use Rattle.lf_ast.specs.Labels.{Bytes}
use Rattle.lf_classes.specs.RowWords.{in_order, row_of_words, row_word, word_count, words_for, words_of_row}
use Rattle.lf_classes.proofs.RowWordOrder.{length-words, word_at, words_back}
use Rattle.lf_laws.proofs.Members.{each_member}
use Rattle.lf_flow.specs.Reads.{rows_of, with_row}
use Rattle.lf_semantics.specs.ClassRows.{Sets}
use Rattle.lf_semantics.specs.Environments.{IsEnvironment, IsRow}
use Rattle.lf_semantics.specs.Listing.{IsListing, Listing}
use Rattle.lf_semantics.specs.RowTable.{Environment}
use Rattle.lf_rounds.proofs.Environments.{some_label}
use Rattle.lf_rounds.proofs.Raising.{shape_words}

module _ (u : Listing) (env : Environment) (k : ℕ) (h : k < length env) (is : IsEnvironment u env) where
  no_entry : Bytes × Sets
  no_entry = ([], [])

  abbrev pub own : Sets
  own = get_or (rows_of env) k []

  own_is : own ≡ (get_or env k no_entry).1
  own_is = get_or-map (λ (entry : Bytes × Sets). entry.1) env k no_entry [] h

  pub is_row : IsRow u own
  is_row = let R : Sets → Type 0 = λ row. IsRow u row in
      subst R (sym own_is) (each_member (λ (entry : Bytes × Sets). IsRow u entry.1) env (get_or env k no_entry) is.rows (Contains-get_or env k no_entry h))

  pub room_for : (row : Sets) (room : ℕ) → row ≡ own → room ≡ word_count u → room ≡ words_for (length (in_order row))
  room_for row room e count = count ∙ sym (shape_words u own is_row.0) ∙ ap (λ r. words_for (length (in_order r))) (sym e)

  stays : with_row k own env ≡ env
  stays = (λ i. set env k (get_or-map (λ (entry : Bytes × Sets). entry.0) env k no_entry [] h i, own_is i)) ∙ set-get_or env k no_entry

  -- the words of the row at hand are the ones that were loaded
  pub same_words : IsListing u → (row : Sets) (words written : List ℕ) → row ≡ own → length written ≡ word_count u → ((j : ℕ) → j < word_count u → get_or written j 0 ≡ row_word row j) → written ≡ words → with_row k (row_of_words u words) env ≡ env
  same_words p row words written e len at same =
      let read : written ≡ words_of_row u own = ext_get_or 0 written (words_of_row u own) (len ∙ sym (length-words u own))
      (λ j l. let b : j < word_count u = omega (arith, l, len) in at j b ∙ ap (λ r. row_word r j) e ∙ sym (word_at u own j b)) in
      let back : row_of_words u words ≡ own = ap (row_of_words u) (sym same ∙ read) ∙ words_back u (some_label u p) own is_row in
      ap (λ r. with_row k r env) back ∙ stays
