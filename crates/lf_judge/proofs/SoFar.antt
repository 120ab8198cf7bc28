-- What is told of the first files, one after another.
use Rattle.std.proofs.Common.{◌≡◌, ℕ, ◌+◌, ◌<◌, ◌≤◌, zero, suc, List, [], ◌∷◌, ◌++◌, length, map, take, get_or, Option, refl, sym, ap, ap₂, ◌∙◌, arith}
use Rattle.std.proofs.lemmas.List.{take_all}
use Rattle.lf_report.specs.declared.report.FileReport.{FileReport}
use Rattle.lf_report.specs.declared.report.Refused.{Refused as Refusal}
use Rattle.lf_judge.specs.Founds.{Content, Refused, Rules}
use Rattle.lf_judge.specs.Judged.{files_of, files_told}
use Rattle.lf_judge.specs.declared.source.Source.{Source}
use Rattle.lf_judge.specs.views.Accepting.{refusal_in}

abbrev told_as : Source → Option Refusal → FileReport
told_as s refusal = record { name = s.name; source = s.bytes; refusal = refusal }

abbrev pub side_by_side : List Source → List (Option Refusal) → List FileReport
side_by_side (s ∷ files) (refusal ∷ refusals) = told_as s refusal ∷ side_by_side files refusals
side_by_side _ _ = []

told_same : (s : Source) (content : Content) → told_as s (refusal_in content) ≡ record { name = s.name; source = s.bytes; refusal = refusal_in content }
told_same s content = refl

pub all_files : (files : List Source) (contents : List Content) → side_by_side files (map refusal_in contents) ≡ files_told (files_of files) contents
all_files [] contents = refl
all_files (s ∷ files) [] = refl
all_files (s ∷ files) (Rules rules ∷ contents) = ap (λ l. told_as s (refusal_in (Rules rules)) ∷ l) (all_files files contents)
all_files (s ∷ files) (Refused kind span ∷ contents) = ap (λ l. told_as s (refusal_in (Refused kind span)) ∷ l) (all_files files contents)

side_step : (files : List Source) (refusals : List (Option Refusal)) (k : ℕ) (s : Source) (r : Option Refusal) → k < length files → k < length refusals
    → side_by_side (take (suc k) files) (take (suc k) refusals) ≡ side_by_side (take k files) (take k refusals) ++ told_as (get_or files k s) (get_or refusals k r) ∷ []
side_step [] refusals k s r h i = absurd (omega arith)
side_step (f ∷ files) [] k s r h i = absurd (omega arith)
side_step (f ∷ files) (x ∷ refusals) zero s r h i = refl
side_step (f ∷ files) (x ∷ refusals) (suc k) s r h i = ap (λ l. told_as f x ∷ l) (side_step files refusals k s r (omega arith) (omega arith))

pub more_files : (files : List Source) (refusals : List (Option Refusal)) (k : ℕ) (s : Source) (r : Option Refusal) (told new : List FileReport) (one : FileReport) → k < length files → k < length refusals
    → s ≡ get_or files k s → r ≡ get_or refusals k r → told ≡ side_by_side (take k files) (take k refusals) → one ≡ told_as s r → new ≡ told ++ one ∷ []
    → new ≡ side_by_side (take (k + 1) files) (take (k + 1) refusals)
more_files files refusals k s r told new one h i at there before is pushed =
    let next : suc k ≡ k + 1 = omega arith in
    pushed ∙ ap₂ (λ (l : List FileReport) (x : FileReport). l ++ x ∷ []) before (is ∙ ap₂ told_as at there)
    ∙ sym (side_step files refusals k s r h i) ∙ ap (λ (n : ℕ). side_by_side (take n files) (take n refusals)) next

pub whole_files : (files : List Source) (refusals : List (Option Refusal)) (k : ℕ) (told : List FileReport) → length refusals ≡ length files → length files ≤ k
    → told ≡ side_by_side (take k files) (take k refusals) → told ≡ side_by_side files refusals
whole_files files refusals k told n h e = e ∙ ap₂ side_by_side (take_all k files h) (take_all k refusals (omega (arith, n, h)))
