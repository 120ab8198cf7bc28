-- Reports that tell the same are written in the same way.
use Rattle.std.proofs.Common.{◌≡◌, ℕ, zero, suc, ◌+◌, ◌==◌, Bool, true, false, cond, List, [], ◌∷◌, ◌++◌, map, length, count_by, is_some, not, Option, Some, None, if◌then◌else◌, refl, sym, ◌∙◌, ap, ap₂, codes}
use Rattle.std.specs.Prelude.{slice_get}
use Rattle.std.specs.Fmt.{decimal}
use Rattle.std.specs.List.{AllZip, filter, flat_map}
use Rattle.std.specs.Option.{option_map_or}
use Rattle.std.proofs.lemmas.List.Sums.{sum_by-cons}
use Rattle.lf_ast.specs.Labels.{Bytes}
use Rattle.lf_ast.specs.declared.verdict.RuleVerdicts.{RuleVerdicts}
use Rattle.lf_ast.specs.declared.verdict.RuleVerdicts.TheVariants.{Empty, Labels}
use Rattle.lf_ast.specs.declared.verdict.Verdict.{Verdict}
use Rattle.lf_ast.specs.declared.verdict.Verdict.TheVariants.{Guaranteed, Impossible, Possible, Unresolved}
use Rattle.lf_base.specs.Places.{line_at, column_at}
use Rattle.lf_judge.specs.Judged.{TellTheSame, ToldFinding, ToldRule, finding_in, rule_in}
use Rattle.serde_json.specs.Data.{Data}
use Rattle.serde_json.specs.Written.{compact_text}
use Rattle.lf_report.specs.Counts.{empty_count, findings_of, is_empty, is_grave, is_guaranteed, is_impossible, is_note, is_possible, is_problem, is_unresolved, note_count, problem_count, refused_count, verdicts_of}
use Rattle.lf_report.specs.Json.{counts_data, summary_object, unresolved_data, file_data, files_items, finding_data, kind_name, label_data, labels_data, labels_items, list_data, report_data, report_json, rule_data, rule_object, said_items, summary_data, told_rules, verdicts_data}
use Rattle.lf_report.specs.Numbers.{labels_of, numbered, rules_of}
use Rattle.lf_report.specs.Places.{place, place_in, place_in_rule}
use Rattle.lf_report.specs.Shown.{shown}
use Rattle.lf_base.specs.Lines.{lines_text}
use Rattle.lf_report.specs.Text.{file_lines, files_lines, finding_line, label_lines, report_text, rule_line, rule_lines, said_lines, totals_line, totals_lines, verdict_lines, verdict_text, verdicts_line}
use Rattle.lf_report.specs.declared.report.FileReport.{FileReport}
use Rattle.lf_report.specs.declared.report.ReportedFinding.{ReportedFinding}
use Rattle.lf_report.specs.declared.report.Refused.{Refused}
use Rattle.lf_report.specs.declared.report.Report.{Report}
use Rattle.lf_report.specs.declared.report.RuleReport.{RuleReport}
use Rattle.lf_lint.specs.declared.output.Output.{Output}
use Rattle.lf_lint.specs.declared.output.Output.TheVariants.{Text, Json, Totals}
use Rattle.lf_gen.specs.Lines.{last_lines}
use Rattle.lf_lint.specs.Asked.{written}

-- ---- lists whose elements are alike

module _ {A : Type 0} (R : A → A → Type 0) where
  zip_map : {X : Type 0} (f g : A → X) → ((x y : A) → R x y → f x ≡ g y) → (xs ys : List A) → AllZip R xs ys → map f xs ≡ map g ys
  zip_map f g same [] [] are = refl
  zip_map f g same [] (y ∷ ys) are = absurd are
  zip_map f g same (x ∷ xs) [] are = absurd are
  zip_map {X} f g same (x ∷ xs) (y ∷ ys) are = ap₂ (λ (z : X) (l : List X). z ∷ l) (same x y are.0) (zip_map f g same xs ys are.1)

  zip_flat_map : {X : Type 0} (f g : A → List X) → ((x y : A) → R x y → f x ≡ g y) → (xs ys : List A) → AllZip R xs ys → flat_map f xs ≡ flat_map g ys
  zip_flat_map f g same [] [] are = refl
  zip_flat_map f g same [] (y ∷ ys) are = absurd are
  zip_flat_map f g same (x ∷ xs) [] are = absurd are
  zip_flat_map {X} f g same (x ∷ xs) (y ∷ ys) are = ap₂ (λ (z l : List X). z ++ l) (same x y are.0) (zip_flat_map f g same xs ys are.1)

  zip_count : (p q : A → Bool) → ((x y : A) → R x y → p x ≡ q y) → (xs ys : List A) → AllZip R xs ys → count_by p xs ≡ count_by q ys
  zip_count p q same [] [] are = refl
  zip_count p q same [] (y ∷ ys) are = absurd are
  zip_count p q same (x ∷ xs) [] are = absurd are
  zip_count p q same (x ∷ xs) (y ∷ ys) are =
      sum_by-cons (λ (z : A). cond (p z) 1 0) x xs ∙ ap₂ (λ (b : Bool) (n : ℕ). cond b 1 0 + n) (same x y are.0) (zip_count p q same xs ys are.1) ∙ sym (sum_by-cons (λ (z : A). cond (q z) 1 0) y ys)

  zip_filter : (p : A → Bool) → ((x y : A) → R x y → p x ≡ p y) → (xs ys : List A) → AllZip R xs ys → AllZip R (filter p xs) (filter p ys)
  zip_filter p same [] [] are = tt
  zip_filter p same [] (y ∷ ys) are = absurd are
  zip_filter p same (x ∷ xs) [] are = absurd are
  zip_filter p same (x ∷ xs) (y ∷ ys) are = by (p x) refl (zip_filter p same xs ys are.1)
    where
      by : (b : Bool) → p x ≡ b → AllZip R (filter p xs) (filter p ys) → AllZip R (filter p (x ∷ xs)) (filter p (y ∷ ys))
      by true e rest = let f : p y ≡ true = sym (same x y are.0) ∙ e in rw (e, f) (are.0, rest)
      by false e rest = let f : p y ≡ false = sym (same x y are.0) ∙ e in rw (e, f) rest

  zip_get : {X : Type 0} (f g : A → X) (none : X) → ((x y : A) → R x y → f x ≡ g y) → (xs ys : List A) → AllZip R xs ys → (k : ℕ) → option_map_or f (slice_get xs k) none ≡ option_map_or g (slice_get ys k) none
  zip_get f g none same [] [] are k = refl
  zip_get f g none same [] (y ∷ ys) are k = absurd are
  zip_get f g none same (x ∷ xs) [] are k = absurd are
  zip_get f g none same (x ∷ xs) (y ∷ ys) are zero = same x y are.0
  zip_get f g none same (x ∷ xs) (y ∷ ys) are (suc k) = zip_get f g none same xs ys are.1 k

  zip_same_length : (xs ys : List A) → AllZip R xs ys → length xs ≡ length ys
  zip_same_length [] [] are = refl
  zip_same_length [] (y ∷ ys) are = absurd are
  zip_same_length (x ∷ xs) [] are = absurd are
  zip_same_length (x ∷ xs) (y ∷ ys) are = ap (λ k. suc k) (zip_same_length xs ys are.1)

  zip_append : (xs ys zs ws : List A) → AllZip R xs ys → AllZip R zs ws → AllZip R (xs ++ zs) (ys ++ ws)
  zip_append [] [] zs ws are more = more
  zip_append [] (y ∷ ys) zs ws are more = absurd are
  zip_append (x ∷ xs) [] zs ws are more = absurd are
  zip_append (x ∷ xs) (y ∷ ys) zs ws are more = (are.0, zip_append xs ys zs ws are.1 more)

map_same : {A X : Type 0} (f g : A → X) → ((x : A) → f x ≡ g x) → (xs : List A) → map f xs ≡ map g xs
map_same f g same [] = refl
map_same {A} {X} f g same (x ∷ xs) = ap₂ (λ (z : X) (l : List X). z ∷ l) (same x) (map_same f g same xs)

flat_map_same : {A X : Type 0} (f g : A → List X) → ((x : A) → f x ≡ g x) → (xs : List A) → flat_map f xs ≡ flat_map g xs
flat_map_same f g same [] = refl
flat_map_same {A} {X} f g same (x ∷ xs) = ap₂ (λ (z l : List X). z ++ l) (same x) (flat_map_same f g same xs)

-- ---- findings and rules that are told alike

abbrev AreAlikeFindings : ReportedFinding → ReportedFinding → Type 0
AreAlikeFindings f g = finding_in f ≡ finding_in g

-- a finding, with the name of its check at the address that it has in another one
abbrev at_address : ReportedFinding → ReportedFinding → ReportedFinding
at_address f g = record { check = record { ref_ptr = f.check.ref_ptr; now = g.check.now }; severity = g.severity; span = g.span; text = g.text }

between : (f g : ReportedFinding) → AreAlikeFindings f g → f ≡ at_address f g
between f g e = λ i. record { check = record { ref_ptr = f.check.ref_ptr; now = (e i).check }; severity = (e i).severity; span = (e i).span; text = (e i).text }

abbrev AreAlike : RuleReport → RuleReport → Type 0
AreAlike r s = rule_in r ≡ rule_in s

findings_alike : (fs gs : List ReportedFinding) → map finding_in fs ≡ map finding_in gs → AllZip AreAlikeFindings fs gs
findings_alike [] [] e = tt
findings_alike [] (g ∷ gs) e = absurd cc
findings_alike (f ∷ fs) [] e = absurd cc
findings_alike (f ∷ fs) (g ∷ gs) e = (let first : finding_in f ≡ finding_in g = cc in let rest : map finding_in fs ≡ map finding_in gs = cc in (first, findings_alike fs gs rest))

rules_alike : (rs ss : List RuleReport) → map rule_in rs ≡ map rule_in ss → AllZip AreAlike rs ss
rules_alike [] [] e = tt
rules_alike [] (s ∷ ss) e = absurd cc
rules_alike (r ∷ rs) [] e = absurd cc
rules_alike (r ∷ rs) (s ∷ ss) e = (let first : rule_in r ≡ rule_in s = cc in let rest : map rule_in rs ≡ map rule_in ss = cc in (first, rules_alike rs ss rest))

of_rule : (r s : RuleReport) → AreAlike r s → AllZip AreAlikeFindings r.findings s.findings
of_rule r s e = findings_alike r.findings s.findings (ap (λ (t : ToldRule). t.findings) e)

all_findings : (rs ss : List RuleReport) → AllZip AreAlike rs ss → AllZip AreAlikeFindings (findings_of rs) (findings_of ss)
all_findings [] [] are = tt
all_findings [] (s ∷ ss) are = absurd are
all_findings (r ∷ rs) [] are = absurd are
all_findings (r ∷ rs) (s ∷ ss) are = zip_append AreAlikeFindings r.findings s.findings (findings_of rs) (findings_of ss) (of_rule r s are.0) (all_findings rs ss are.1)

-- ---- the reports

module _ (a b : Report) (same : TellTheSame a b) where
  alike : AllZip AreAlike a.rules b.rules
  alike = rules_alike a.rules b.rules same.rules_same

  found : AllZip AreAlikeFindings (findings_of a.rules) (findings_of b.rules)
  found = all_findings a.rules b.rules alike

  same_problems : problem_count a ≡ problem_count b
  same_problems = zip_count AreAlikeFindings is_problem is_problem (λ f g e. ap (λ (t : ToldFinding). is_grave t.severity) e) (findings_of a.rules) (findings_of b.rules) found

  same_notes : note_count a ≡ note_count b
  same_notes = zip_count AreAlikeFindings is_note is_note (λ f g e. ap (λ (t : ToldFinding). not (is_grave t.severity)) e) (findings_of a.rules) (findings_of b.rules) found

  same_refused : refused_count a ≡ refused_count b
  same_refused = ap (λ (files : List FileReport). count_by (λ (file : FileReport). is_some file.refusal) files) same.files_same

  same_verdicts : verdicts_of a.rules ≡ verdicts_of b.rules
  same_verdicts = zip_flat_map AreAlike (λ (r : RuleReport). labels_of r.verdicts) (λ (r : RuleReport). labels_of r.verdicts) (λ r s e. ap (λ (t : ToldRule). labels_of t.verdicts) e) a.rules b.rules alike

  same_empty : empty_count a.rules ≡ empty_count b.rules
  same_empty = zip_count AreAlike (λ (r : RuleReport). is_empty r.verdicts) (λ (r : RuleReport). is_empty r.verdicts) (λ r s e. ap (λ (t : ToldRule). is_empty t.verdicts) e) a.rules b.rules alike

  same_count : length a.rules ≡ length b.rules
  same_count = zip_same_length AreAlike a.rules b.rules alike

  same_files_count : length a.files ≡ length b.files
  same_files_count = ap length same.files_same

  same_place : (told : Bytes → Bytes) (rule offset : ℕ) → place_in_rule told a rule offset ≡ place_in_rule told b rule offset
  same_place told rule offset =
      zip_get AreAlike (λ (r : RuleReport). place_in told a r.file offset) (λ (r : RuleReport). place_in told b r.file offset) []
      (λ r s e. ap₂ (λ (n : ℕ) (files : List FileReport). option_map_or (λ file. place told file offset) (slice_get files n) []) (ap (λ (t : ToldRule). t.file) e) same.files_same) a.rules b.rules alike rule

  of_file : (n : ℕ) → AllZip AreAlike (rules_of a n) (rules_of b n)
  of_file n = zip_filter AreAlike (λ rule. rule.file == n) (λ r s e. ap (λ (t : ToldRule). t.file == n) e) a.rules b.rules alike

  -- ---- the text

  same_verdict : (v : Verdict) → verdict_text a v ≡ verdict_text b v
  same_verdict Guaranteed = refl
  same_verdict Impossible = refl
  same_verdict (Possible with without) = refl
  same_verdict (Unresolved construct rule span) = ap (λ (p : Bytes). codes "unresolved O" ++ decimal construct ++ codes " at " ++ p) (same_place shown rule span.start)

  same_labels : (labels : List Bytes) (verdicts : List Verdict) → label_lines a labels verdicts ≡ label_lines b labels verdicts
  same_labels [] verdicts = refl
  same_labels (label ∷ labels) [] = refl
  same_labels (label ∷ labels) (v ∷ verdicts) = ap₂ (λ (x : Bytes) (l : List Bytes). (codes "  " ++ shown label ++ codes ": " ++ x) ∷ l) (same_verdict v) (same_labels labels verdicts)

  same_said : (v : RuleVerdicts) → said_lines a v ≡ said_lines b v
  same_said Empty = refl
  same_said (Labels verdicts) = same_labels a.universe verdicts ∙ ap (λ (u : List Bytes). label_lines b u verdicts) same.universe_same

  same_rule_line : (file : FileReport) (r s : RuleReport) → AreAlike r s → rule_line file r ≡ rule_line file s
  same_rule_line file r s e = ap (λ (t : ToldRule). place shown file t.name_span.start ++ codes ": rule " ++ shown t.name) e

  same_verdict_lines : (file : FileReport) (r s : RuleReport) → AreAlike r s → (v : Option RuleVerdicts) → verdict_lines a file r v ≡ verdict_lines b file s v
  same_verdict_lines file r s e None = refl
  same_verdict_lines file r s e (Some v) = ap₂ (λ (x : Bytes) (l : List Bytes). x ∷ l) (same_rule_line file r s e) (same_said v)

  same_finding : (file : FileReport) (f g : ReportedFinding) → AreAlikeFindings f g → finding_line file f ≡ finding_line file g
  same_finding file f g e = ap (finding_line file) (between f g e)

  same_rule : (file : FileReport) (r s : RuleReport) → AreAlike r s → rule_lines a file r ≡ rule_lines b file s
  same_rule file r s e =
      ap₂ (λ (x y : List Bytes). x ++ y) (same_verdict_lines file r s e r.verdicts ∙ ap (λ (t : ToldRule). verdict_lines b file s t.verdicts) e)
      (zip_map AreAlikeFindings (finding_line file) (finding_line file) (same_finding file) r.findings s.findings (of_rule r s e))

  same_file : (n : ℕ) (file : FileReport) (why : Option Refused) → file_lines a n file why ≡ file_lines b n file why
  same_file n file (Some why) = refl
  same_file n file None = zip_flat_map AreAlike (rule_lines a file) (rule_lines b file) (same_rule file) (rules_of a n) (rules_of b n) (of_file n)

  same_files : files_lines a ≡ files_lines b
  same_files =
      flat_map_same (λ (f : ℕ × FileReport). file_lines a f.0 f.1 f.1.refusal) (λ (f : ℕ × FileReport). file_lines b f.0 f.1 f.1.refusal) (λ f. same_file f.0 f.1 f.1.refusal) (numbered 0 a.files)
      ∙ ap (λ (files : List FileReport). flat_map (λ (f : ℕ × FileReport). file_lines b f.0 f.1 f.1.refusal) (numbered 0 files)) same.files_same

  same_totals_line : totals_line a ≡ totals_line b
  same_totals_line = λ i. codes "files " ++ decimal (same_files_count i) ++ codes ", refused " ++ decimal (same_refused i) ++ codes ", rules " ++ decimal (same_count i)
      ++ codes ", problems " ++ decimal (same_problems i) ++ codes ", notes " ++ decimal (same_notes i)

  same_verdicts_line : verdicts_line a ≡ verdicts_line b
  same_verdicts_line = λ i. codes "verdicts guaranteed " ++ decimal (count_by is_guaranteed (same_verdicts i)) ++ codes ", impossible " ++ decimal (count_by is_impossible (same_verdicts i))
      ++ codes ", possible " ++ decimal (count_by is_possible (same_verdicts i)) ++ codes ", unresolved " ++ decimal (count_by is_unresolved (same_verdicts i))
      ++ codes ", empty " ++ decimal (same_empty i)

  same_totals : totals_lines a ≡ totals_lines b
  same_totals = λ i. same_totals_line i ∷ (if same.labels_same i then same_verdicts_line i ∷ [] else [])

  same_text : report_text a ≡ report_text b
  same_text = ap₂ (λ (x y : List Bytes). lines_text (x ++ y)) same_files same_totals

  -- ---- the JSON

  same_label_data : (label : Bytes) (v : Verdict) → label_data a label v ≡ label_data b label v
  same_label_data label Guaranteed = refl
  same_label_data label Impossible = refl
  same_label_data label (Possible with without) = refl
  same_label_data label (Unresolved construct rule span) = ap (λ (p : Bytes). unresolved_data label construct p) (same_place (λ name. name) rule span.start)

  same_items : (labels : List Bytes) (verdicts : List Verdict) → labels_items a labels verdicts ≡ labels_items b labels verdicts
  same_items [] verdicts = refl
  same_items (label ∷ labels) [] = refl
  same_items (label ∷ labels) (v ∷ verdicts) = λ i. same_label_data label v i ∷ same_items labels verdicts i

  same_said_items : (v : RuleVerdicts) → said_items a v ≡ said_items b v
  same_said_items Empty = refl
  same_said_items (Labels verdicts) = same_items a.universe verdicts ∙ ap (λ (u : List Bytes). labels_items b u verdicts) same.universe_same

  same_labels_data : (v : Option RuleVerdicts) → labels_data a v ≡ labels_data b v
  same_labels_data None = refl
  same_labels_data (Some v) = ap list_data (same_said_items v)

  same_finding_data : (file : FileReport) (f g : ReportedFinding) → AreAlikeFindings f g → finding_data file f ≡ finding_data file g
  same_finding_data file f g e = ap (finding_data file) (between f g e)

  same_rule_data : (file : FileReport) (r s : RuleReport) → AreAlike r s → rule_data a file r ≡ rule_data b file s
  same_rule_data file r s e =
      let findings = zip_map AreAlikeFindings (finding_data file) (finding_data file) (same_finding_data file) r.findings s.findings (of_rule r s e) in
      let labels : labels_data a r.verdicts ≡ labels_data b s.verdicts = same_labels_data r.verdicts ∙ ap (λ (t : ToldRule). labels_data b t.verdicts) e in
      λ i. rule_object (column_at file.source (e i).name_span.start) (e i).empty (list_data (findings i)) (kind_name (e i).alert) (labels i) (line_at file.source (e i).name_span.start) (e i).name

  told_alike : (n : ℕ) (why : Option Refused) → AllZip AreAlike (told_rules a n why) (told_rules b n why)
  told_alike n None = of_file n
  told_alike n (Some why) = tt

  same_file_data : (n : ℕ) (file : FileReport) → file_data a n file ≡ file_data b n file
  same_file_data n file =
      let rules = zip_map AreAlike (rule_data a file) (rule_data b file) (same_rule_data file) (told_rules a n file.refusal) (told_rules b n file.refusal) (told_alike n file.refusal) in
      rw rules refl

  same_files_items : files_items a ≡ files_items b
  same_files_items =
      map_same (λ (f : ℕ × FileReport). file_data a f.0 f.1) (λ (f : ℕ × FileReport). file_data b f.0 f.1) (λ f. same_file_data f.0 f.1) (numbered 0 a.files)
      ∙ ap (λ (files : List FileReport). map (λ (f : ℕ × FileReport). file_data b f.0 f.1) (numbered 0 files)) same.files_same

  same_counts : counts_data (empty_count a.rules) (count_by is_guaranteed (verdicts_of a.rules)) (count_by is_impossible (verdicts_of a.rules)) (count_by is_possible (verdicts_of a.rules)) (count_by is_unresolved (verdicts_of a.rules))
      ≡ counts_data (empty_count b.rules) (count_by is_guaranteed (verdicts_of b.rules)) (count_by is_impossible (verdicts_of b.rules)) (count_by is_possible (verdicts_of b.rules)) (count_by is_unresolved (verdicts_of b.rules))
  same_counts = λ i. counts_data (same_empty i) (count_by is_guaranteed (same_verdicts i)) (count_by is_impossible (same_verdicts i)) (count_by is_possible (same_verdicts i)) (count_by is_unresolved (same_verdicts i))

  same_verdicts_data : verdicts_data a ≡ verdicts_data b
  same_verdicts_data = by a.labels b.labels same.labels_same refl refl
    where
      by : (x y : Bool) → x ≡ y → a.labels ≡ x → b.labels ≡ y → verdicts_data a ≡ verdicts_data b
      by true true e h k = rw (h, k) same_counts
      by false false e h k = rw (h, k) refl
      by true false e h k = absurd cc
      by false true e h k = absurd cc

  same_summary : summary_data a ≡ summary_data b
  same_summary = λ i. summary_object (same_files_count i) (same_notes i) (same_problems i) (same_refused i) (same_count i) (same_verdicts_data i)

  same_data : report_data a ≡ report_data b
  same_data = rw (same_files_items, same_summary) refl

  same_json : report_json a ≡ report_json b
  same_json = ap (λ (d : Data). compact_text d ++ 10 ∷ []) same_data

pub same_bytes : (output : Output) (a b : Report) → TellTheSame a b → written output a ≡ written output b
same_bytes Text a b same = same_text a b same
same_bytes Json a b same = same_json a b same
same_bytes Totals a b same = ap (last_lines 2) (same_text a b same)
