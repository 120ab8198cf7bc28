-- The lines of files, of rules, of findings and of labels, one after another.
use Rattle.std.proofs.Common.{◌≡◌, ℕ, ◌+◌, ◌<◌, ◌≤◌, zero, suc, List, [], ◌∷◌, ◌++◌, map, length, take, get_or, refl, ap, sym, ◌∙◌, arith, append-nil, length-take, true, if◌then◌else◌, codes}
use Rattle.std.specs.List.{flat_map}
use Rattle.std.specs.Fmt.{decimal}
use Rattle.std.proofs.lemmas.List.{length-map, map_more, take_more}
use Rattle.std.proofs.lemmas.List.Concat.{flat_map-append}
use Rattle.lf_ast.specs.Labels.{Bytes}
use Rattle.lf_ast.specs.declared.verdict.Verdict.{Verdict}
use Rattle.lf_report.specs.Counts.{refused_count}
use Rattle.lf_report.specs.Numbers.{numbered}
use Rattle.lf_report.specs.views.Heads.{label_head}
use Rattle.lf_base.specs.Lines.{lines_text}
use Rattle.lf_report.specs.Text.{file_lines, finding_line, label_line, label_lines, rule_lines, totals_line, totals_lines, verdicts_line}
use Rattle.lf_report.specs.declared.counting.Totals.{Totals}
use Rattle.lf_report.specs.declared.report.FileReport.{FileReport}
use Rattle.lf_report.specs.declared.report.ReportedFinding.{ReportedFinding}
use Rattle.lf_report.specs.declared.report.Report.{Report}
use Rattle.lf_report.specs.declared.report.RuleReport.{RuleReport}
use Rattle.lf_report.specs.views.Totals.{AreTotals}
use Rattle.lf_report.proofs.Appends.{appended_lines}
use Rattle.lf_report.proofs.Counted.{flat_more}

get_or-map : {A B : Type 0} (f : A → B) (xs : List A) (k : ℕ) (d : A) (e : B) → k < length xs → get_or (map f xs) k e ≡ f (get_or xs k d)
get_or-map f [] k d e h = absurd (omega arith)
get_or-map f (x ∷ xs) zero d e h = refl
get_or-map f (x ∷ xs) (suc k) d e h = get_or-map f xs k d e (omega arith)

-- an element more, with its number
pub numbered_more : {X : Type 0} (n : ℕ) (xs : List X) (k : ℕ) (x : X) → k < length xs → x ≡ get_or xs k x → numbered n (take (k + 1) xs) ≡ numbered n (take k xs) ++ (n + k, x) ∷ []
numbered_more n xs k x h is = ap (numbered n) (take_more xs k x h ∙ ap (λ y. take k xs ++ y ∷ []) (sym is)) ∙ by n xs k x (omega arith)
  where
    pushed : {X : Type 0} (n : ℕ) (xs : List X) (x : X) → numbered n (xs ++ x ∷ []) ≡ numbered n xs ++ (n + length xs, x) ∷ []
    pushed n [] x = ap (λ m. (m, x) ∷ []) (let e : n ≡ n + 0 = omega arith in e)
    pushed n (y ∷ ys) x = ap (λ l. (n, y) ∷ l) (pushed (n + 1) ys x ∙ ap (λ m. numbered (n + 1) ys ++ (m, x) ∷ []) (let e : n + 1 + length ys ≡ n + suc (length ys) = omega arith in e))

    by : {X : Type 0} (n : ℕ) (xs : List X) (k : ℕ) (x : X) → k ≤ length xs → numbered n (take k xs ++ x ∷ []) ≡ numbered n (take k xs) ++ (n + k, x) ∷ []
    by n xs k x le = pushed n (take k xs) x ∙ ap (λ m. numbered n (take k xs) ++ (n + m, x) ∷ []) (let e : length (take k xs) ≡ k = omega (arith, length-take k xs) in e)

pub numbered_from_0 : {X : Type 0} (xs : List X) (k : ℕ) (x : X) → k < length xs → x ≡ get_or xs k x → numbered 0 (take (k + 1) xs) ≡ numbered 0 (take k xs) ++ (k, x) ∷ []
numbered_from_0 xs k x h is = numbered_more 0 xs k x h is ∙ ap (λ m. numbered 0 (take k xs) ++ (m, x) ∷ []) (let e : 0 + k ≡ k = omega arith in e)

-- what is told of the first files of a report
abbrev pub some_files_lines : Report → List FileReport → List Bytes
some_files_lines report files = flat_map (λ (f : ℕ × FileReport). file_lines report f.0 f.1 f.1.refusal) (numbered 0 files)

module _ (report : Report) where
  pub files_more : (k : ℕ) (file : FileReport) (start old new : Bytes) → k < length report.files → file ≡ get_or report.files k file
      → old ≡ start ++ lines_text (some_files_lines report (take k report.files)) → new ≡ old ++ lines_text (file_lines report k file file.refusal)
      → new ≡ start ++ lines_text (some_files_lines report (take (k + 1) report.files))
  files_more k file start old new h is before pushed =
      let f : ℕ × FileReport → List Bytes = λ p. file_lines report p.0 p.1 p.1.refusal in
      appended_lines start (some_files_lines report (take k report.files)) (file_lines report k file file.refusal) before pushed
      ∙ ap (λ l. start ++ lines_text l) (sym (ap (flat_map f) (numbered_from_0 report.files k file h is) ∙ flat_map-append f (numbered 0 (take k report.files)) ((k, file) ∷ [])
      ∙ ap (λ l. flat_map f (numbered 0 (take k report.files)) ++ l) (append-nil (f (k, file)))))

  pub rules_more : (it : FileReport) (rules : List RuleReport) (k : ℕ) (rule : RuleReport) (start old new : Bytes) → k < length rules → rule ≡ get_or rules k rule
      → old ≡ start ++ lines_text (flat_map (rule_lines report it) (take k rules)) → new ≡ old ++ lines_text (rule_lines report it rule)
      → new ≡ start ++ lines_text (flat_map (rule_lines report it) (take (k + 1) rules))
  rules_more it rules k rule start old new h is before pushed =
      let f : RuleReport → List Bytes = rule_lines report it in
      appended_lines start (flat_map f (take k rules)) (f rule) before pushed
      ∙ ap (λ l. start ++ lines_text l) (sym (flat_more f rules k rule h is))

  -- one more label
  lines_step : (names : List Bytes) (said : List Verdict) (k : ℕ) (other : Verdict) → k < length names → k < length said
      → label_lines report (take (suc k) names) (take (suc k) said) ≡ label_lines report (take k names) (take k said) ++ label_line report (get_or names k []) (get_or said k other) ∷ []
  lines_step [] said k other h i = absurd (omega arith)
  lines_step (name ∷ names) [] k other h i = absurd (omega arith)
  lines_step (name ∷ names) (verdict ∷ said) zero other h i = refl
  lines_step (name ∷ names) (verdict ∷ said) (suc k) other h i = ap (λ (l : List Bytes). label_line report name verdict ∷ l) (lines_step names said k other (omega arith) (omega arith))

  lines_next : (names : List Bytes) (said : List Verdict) (k : ℕ) (other : Verdict) → k < length names → k < length said
      → label_lines report (take (k + 1) names) (take (k + 1) said) ≡ label_lines report (take k names) (take k said) ++ label_line report (get_or names k []) (get_or said k other) ∷ []
  lines_next names said k other h i =
      let next : k + 1 ≡ suc k = omega arith in
      ap (λ (n : ℕ). label_lines report (take n names) (take n said)) next ∙ lines_step names said k other h i

  -- all labels, where there are no more of the one or of the other
  lines_all : (names : List Bytes) (said : List Verdict) (k : ℕ) → k ≤ length names → k ≤ length said → (k < length names → k < length said → ⊥) → label_lines report (take k names) (take k said) ≡ label_lines report names said
  lines_all [] said k h i end = by k h
    where
      by : (k : ℕ) → k ≤ 0 → label_lines report (take k []) (take k said) ≡ []
      by zero h = refl
      by (suc k) h = absurd (omega arith)
  lines_all (name ∷ names) [] zero h i end = refl
  lines_all (name ∷ names) [] (suc k) h i end = absurd (omega arith)
  lines_all (name ∷ names) (verdict ∷ said) zero h i end = absurd (end (omega arith) (omega arith))
  lines_all (name ∷ names) (verdict ∷ said) (suc k) h i end =
      ap (λ (l : List Bytes). label_line report name verdict ∷ l) (lines_all names said k (omega arith) (omega arith) (λ a b. end (omega arith) (omega arith)))

  pub label_lines_more : (names labels : List Bytes) (said : List Verdict) (k : ℕ) (label : Bytes) (here : Verdict) (start old new : Bytes) → labels ≡ map label_head names → k < length labels → k < length said
      → label ≡ get_or labels k label → here ≡ get_or said k here → old ≡ start ++ lines_text (label_lines report (take k names) (take k said))
      → ((name : Bytes) → label ≡ label_head name → new ≡ old ++ lines_text (label_line report name here ∷ [])) → new ≡ start ++ lines_text (label_lines report (take (k + 1) names) (take (k + 1) said))
  label_lines_more names labels said k label here start old new shows inside among at is before pushed =
      let name = get_or names k [] in
      let within : k < length names = omega (arith, ap length shows, length-map names label_head) in
      let label_is : label ≡ label_head name = at ∙ ap (λ l. get_or l k label) shows ∙ get_or-map label_head names k [] label within in
      appended_lines start (label_lines report (take k names) (take k said)) (label_line report name (get_or said k here) ∷ []) before
      (pushed name label_is ∙ ap (λ v. old ++ lines_text (label_line report name v ∷ [])) is)
      ∙ ap (λ l. start ++ lines_text l) (sym (lines_next names said k here within among))

  pub label_lines_end : (names labels : List Bytes) (said : List Verdict) (k : ℕ) (start text : Bytes) → labels ≡ map label_head names → k ≤ length labels → k ≤ length said → (k < length labels → k < length said → ⊥)
      → text ≡ start ++ lines_text (label_lines report (take k names) (take k said)) → text ≡ start ++ lines_text (label_lines report names said)
  label_lines_end names labels said k start text shows h i end before =
      let len : length labels ≡ length names = ap length shows ∙ length-map names label_head in
      before ∙ ap (λ l. start ++ lines_text l) (lines_all names said k (omega (arith, len)) i (λ a b. end (omega (arith, len)) b))

module _ (it : FileReport) where
  pub findings_more : (findings : List ReportedFinding) (k : ℕ) (finding : ReportedFinding) (start old new : Bytes) → k < length findings → finding ≡ get_or findings k finding
      → old ≡ start ++ lines_text (map (finding_line it) (take k findings)) → new ≡ old ++ lines_text (finding_line it finding ∷ [])
      → new ≡ start ++ lines_text (map (finding_line it) (take (k + 1) findings))
  findings_more findings k finding start old new h is before pushed =
      appended_lines start (map (finding_line it) (take k findings)) (finding_line it finding ∷ []) before pushed
      ∙ ap (λ l. start ++ lines_text l) (sym (map_more (finding_line it) findings k finding h
      ∙ ap (λ (x : ReportedFinding). map (finding_line it) (take k findings) ++ finding_line it x ∷ []) (sym is)))

-- the totals, with those of verdicts
pub totals_told : (report : Report) (totals : Totals) (start first second : Bytes) → AreTotals report.rules totals → report.labels ≡ true
    → first ≡ start ++ lines_text ((codes "files " ++ decimal (length report.files) ++ codes ", refused " ++ decimal (refused_count report) ++ codes ", rules " ++ decimal (length report.rules)
    ++ codes ", problems " ++ decimal totals.problems ++ codes ", notes " ++ decimal totals.notes) ∷ [])
    → second ≡ first ++ lines_text ((codes "verdicts guaranteed " ++ decimal totals.guaranteed ++ codes ", impossible " ++ decimal totals.impossible ++ codes ", possible " ++ decimal totals.possible
    ++ codes ", unresolved " ++ decimal totals.unresolved ++ codes ", empty " ++ decimal totals.empty) ∷ [])
    → second ≡ start ++ lines_text (totals_lines report)
totals_told report totals start first second are on e f =
    let one : first ≡ start ++ lines_text (totals_line report ∷ []) = rw (sym are.problems_are, sym are.notes_are) e in
    let two : second ≡ first ++ lines_text (verdicts_line report ∷ []) =
    rw (sym are.guaranteed_are, sym are.impossible_are, sym are.possible_are, sym are.unresolved_are, sym are.empty_are) f in
    appended_lines start (totals_line report ∷ []) (verdicts_line report ∷ []) one two
    ∙ ap (λ b. start ++ lines_text (totals_line report ∷ (if b then verdicts_line report ∷ [] else []))) (sym on)
