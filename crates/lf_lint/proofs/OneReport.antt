-- A list of words and the bytes of the files have one report, which is written in one way.
use Rattle.std.specs.Prelude.{◌≡◌, List, [], ◌∷◌, length, Some}
use Rattle.std.specs.List.{AllZip}
use Rattle.std.proofs.Common.{refl, sym, subst, ap, ◌∙◌}
use Rattle.lf_ast.specs.Labels.{Bytes}
use Rattle.lf_checks.specs.Files.{File}
use Rattle.lf_words.specs.declared.options.Options.{Options}
use Rattle.lf_words.specs.declared.options.Options.TheVariants.{Lint, Gen}
use Rattle.lf_words.specs.Grammar.{Asks}
use Rattle.lf_words.proofs.Asked.{one_reading}
use Rattle.lf_judge.specs.Judged.{IsReportOn, TellTheSame}
use Rattle.lf_judge.proofs.OneReport.{one_report}
use Rattle.lf_report.specs.declared.report.Report.{Report}
use Rattle.lf_lint.specs.Asked.{AreFiles, names_of, output_of, tells_labels, written}
use Rattle.lf_lint.specs.Ends.{IsOutcome}
use Rattle.lf_lint.proofs.SameBytes.{same_bytes}
use Rattle.lf_lint.specs.Read.{IsReadFile}

same_read : (stand : Bytes → Bytes) (names : List Bytes) (a b : List File) → AllZip (IsReadFile (λ name. Some (stand name))) names a → AllZip (IsReadFile (λ name. Some (stand name))) names b → a ≡ b
same_read stand [] [] [] p q = refl
same_read stand [] [] (y ∷ b) p q = absurd q
same_read stand [] (x ∷ a) b p q = absurd p
same_read stand (n ∷ names) [] b p q = absurd p
same_read stand (n ∷ names) (x ∷ a) [] p q = absurd q
same_read stand (n ∷ names) (x ∷ a) (y ∷ b) p q =
    let rest = same_read stand names a b p.1 q.1 in
    let name : x.name ≡ y.name = p.0.0 ∙ sym q.0.0 in
    let bytes : x.bytes ≡ y.bytes = p.0.1 ∙ sym q.0.1 in
    λ i. record { name = name i; bytes = bytes i } ∷ rest i

-- the files that options ask for are the same where the same bytes stand under their names
same_files : (stand : Bytes → Bytes) (options : Options) (a b : List File) → AreFiles options (λ name. Some (stand name)) a → AreFiles options (λ name. Some (stand name)) b → a ≡ b
same_files stand (Lint workers json labels names) a b p q = same_read stand names a b p q
same_files stand (Gen n) a b p q = p ∙ sym q

pub one_outcome : (words : List Bytes) (stand : Bytes → Bytes) (a b : Report) (c d : Bytes) → IsOutcome words stand a c → IsOutcome words stand b d → TellTheSame a b × (c ≡ d)
one_outcome words stand a b c d h k =
    let options : h.options ≡ k.options = one_reading h.asks k.asks refl in
    let P : Options → Type 0 = λ o. AreFiles o (λ name. Some (stand name)) h.files in
    let files : h.files ≡ k.files = same_files stand k.options h.files k.files (subst P options h.are_files) k.are_files in
    let Q : Options → Type 0 = λ o. IsReportOn h.files (tells_labels o) a in
    let R : List File → Type 0 = λ fs. IsReportOn fs (tells_labels k.options) a in
    let same = one_report k.files (tells_labels k.options) a b (subst R files (subst Q options h.is_report)) k.is_report in
    (same, h.is_written ∙ ap (λ (o : Options). written (output_of o) a) options ∙ same_bytes (output_of k.options) a b same ∙ sym k.is_written)

-- the words ask for one thing, and so for files of one number
pub one_number : (words : List Bytes) (a b : Options) → Asks words a → Asks words b → length (names_of a) ≡ length (names_of b)
one_number words a b h k = ap (λ (o : Options). length (names_of o)) (one_reading h k refl)
