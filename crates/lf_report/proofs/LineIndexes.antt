-- Positions of a file in a list that grows, and the line indexes of files.
use Rattle.std.proofs.Common.{true, nat_lt, arith, ◌≡◌, inl, inr, ℕ, ◌+◌, ◌<◌, List, [], ◌∷◌, ◌++◌, take, get_or, length, Some, sym, subst, ap, ◌∙◌}
use Rattle.std.specs.Prelude.{slice_get}
use Rattle.std.proofs.lemmas.Bool.Decides.{nat_tests}
use Rattle.std.proofs.lemmas.List.{take_more}
use Rattle.std.proofs.lemmas.Slice.Zip.{AllZip-long}
use Rattle.lf_ast.specs.Labels.{Bytes}
use Rattle.lf_report.specs.declared.report.FileReport.{FileReport}
use Rattle.lf_report.specs.declared.line_index.LineIndex.{LineIndex}
use Rattle.lf_report.specs.declared.line_index.Position.{Position}
use Rattle.lf_report.specs.views.LineIndex.{AreIndexed, ArePositions, IsPosition}
use Rattle.std.proofs.lemmas.Option.{same_Some}
use Rattle.lf_laws.proofs.Slices.{zip_push}
use Rattle.lf_report.proofs.Zips.{at_push, zip_at}

pub lt_from : (k n : ℕ) → true ≡ nat_lt k n → k < n
lt_from k n e = grind (arith, nat_tests)

-- one more position
pub positions_push : (bytes : Bytes) (old new : List Position) (at : Position) → ArePositions bytes old → IsPosition bytes at → new ≡ old ++ at ∷ [] → ArePositions bytes new
positions_push bytes old new at before is pushed = λ k position e.
    let found : slice_get (old ++ at ∷ []) k ≡ Some position = ap (λ l. slice_get l k) (sym pushed) ∙ e in
    elim (at_push old at k position found) [
      | inl there ↦ before k position there
      | inr last ↦ subst (IsPosition bytes) (sym last.1) is
    ]

pub index_within : (files : List FileReport) (indexes : List LineIndex) (k : ℕ) → AreIndexed files indexes → k < length files → k < length indexes
index_within files indexes k are inside = omega (arith, inside, AllZip-long (λ (f : FileReport) (x : LineIndex). ArePositions f.source x.positions.items) files indexes are)

-- the line index of the file at a number
pub index_at : (files : List FileReport) (indexes : List LineIndex) (k : ℕ) (m : LineIndex) → AreIndexed files indexes → k < length files → m ≡ get_or indexes k m
    → (k < length indexes) × ((file : FileReport) → slice_get files k ≡ Some file → ArePositions file.source m.positions.items)
index_at files indexes k m are inside is =
    let R : FileReport → LineIndex → Type 0 = λ f x. ArePositions f.source x.positions.items in
    let within : k < length indexes = omega (arith, inside, AllZip-long R files indexes are) in
    let found = zip_at R files indexes k m are within in (
      within,
      λ file e. let same : Some found.0 ≡ Some file = sym found.1 ∙ e in
          let one : found.0 ≡ file = same_Some found.0 file same in
          subst (λ (f : FileReport). ArePositions f.source m.positions.items) one (subst (R found.0) (sym is) found.2),
    )

-- one more file
pub indexes_push : (files : List FileReport) (k : ℕ) (file : FileReport) (old new : List LineIndex) (m : LineIndex) → k < length files → file ≡ get_or files k file → AreIndexed (take k files) old
    → ArePositions file.source m.positions.items → new ≡ old ++ m ∷ [] → AreIndexed (take (k + 1) files) new
indexes_push files k file old new m inside is before positions pushed =
    let P : List FileReport → Type 0 = λ fs. AreIndexed fs new in
    let Q : List LineIndex → Type 0 = λ l. AreIndexed (take k files ++ file ∷ []) l in
    subst P (ap (λ (f : FileReport). take k files ++ f ∷ []) is ∙ sym (take_more files k file inside))
    (subst Q (sym pushed) (zip_push (λ (f : FileReport) (x : LineIndex). ArePositions f.source x.positions.items) (take k files) old file m before positions))
