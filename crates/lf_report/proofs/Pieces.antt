-- The JSON of a report, of a file, of a rule, of a label and of a world, piece by piece.
use Rattle.std.proofs.Common.{◌≡◌, ℕ, ◌+◌, ◌<◌, Bool, true, false, ◌||◌, nat_lt, List, [], ◌∷◌, ◌++◌, map, length, take, get_or, refl, ap, sym, ◌∙◌, arith, append-nil, append_assoc, codes, ◌≤◌, zero, suc, length-take}
use Rattle.serde_json.proofs.OnLiterals.{serde_json_on_literals}
use Rattle.serde_json.specs.Data.{Data, boolean, string}
use Rattle.serde_json.specs.View.{items_of}
use Rattle.serde_json.specs.Written.{comma_if, compact_text, items_text}
use Rattle.std.proofs.lemmas.Bool.Decides.{nat_tests}
use Rattle.std.proofs.lemmas.List.{length-map, map-append, map_more}
use Rattle.lf_ast.specs.Labels.{Bytes}
use Rattle.lf_ast.specs.declared.verdict.Verdict.{Verdict}
use Rattle.lf_ast.specs.declared.verdict.World.{World}
use Rattle.lf_base.specs.Places.{line_at, column_at}
use Rattle.lf_report.specs.Json.{count_data, file_data, files_items, finding_data, kind_name, label_data, labels_data, labels_items, list_data, possible_data, refusal_data, report_json, rule_data, set_data, summary_data, told_rules, world_data}
use Rattle.lf_report.specs.Numbers.{numbered}
use Rattle.lf_report.specs.declared.report.FileReport.{FileReport}
use Rattle.lf_report.specs.declared.report.Report.{Report}
use Rattle.lf_report.specs.declared.report.RuleReport.{RuleReport}
use Rattle.lf_report.specs.views.Pieces.{file_head, listed, possible_head, rule_end, rule_head, rule_kind, world_end}
use Rattle.lf_report.proofs.Appends.{appended_two}
use Rattle.lf_report.proofs.Lines.{numbered_from_0}

items_listed : (later : Bool) (ds : List Data) → items_text later (items_of ds) ≡ listed later ds ++ 93 ∷ []
items_listed later [] = refl
items_listed later (d ∷ ds) =
    ap (λ l. comma_if later ++ (compact_text d ++ l)) (items_listed true ds)
    ∙ ap (λ l. comma_if later ++ l) (sym (append_assoc (compact_text d) (listed true ds) (93 ∷ [])))
    ∙ sym (append_assoc (comma_if later) (compact_text d ++ listed true ds) (93 ∷ []))

-- one element more
pub listed_push : (later : Bool) (ds : List Data) (d : Data) → listed later (ds ++ d ∷ []) ≡ listed later ds ++ (comma_if (later || nat_lt 0 (length ds)) ++ compact_text d)
listed_push true [] d = ap (λ l. comma_if true ++ l) (append-nil (compact_text d))
listed_push false [] d = append-nil (compact_text d)
listed_push later (x ∷ xs) d =
    ap (λ l. comma_if later ++ (compact_text x ++ l)) (listed_push true xs d)
    ∙ sym (append_assoc (comma_if later) (compact_text x ++ listed true xs) _ ∙ ap (λ l. comma_if later ++ l) (append_assoc (compact_text x) (listed true xs) _)
    ∙ ap (λ b. comma_if later ++ (compact_text x ++ (listed true xs ++ (comma_if b ++ compact_text d)))) (by later))
  where
    by : (b : Bool) → b || nat_lt 0 (length (x ∷ xs)) ≡ true
    by true = refl
    by false = grind (arith, nat_tests)

assoc_three : (a b c d : Bytes) → (a ++ (b ++ c)) ++ d ≡ a ++ (b ++ (c ++ d))
assoc_three a b c d = simp append_assoc

assoc_five : (a b c d e f : Bytes) → (a ++ (b ++ (c ++ (d ++ e)))) ++ f ≡ a ++ (b ++ (c ++ (d ++ (e ++ f))))
assoc_five a b c d e f = simp append_assoc

-- a list's text, with what follows
listed_then : (ds : List Data) (after : Bytes) → items_text false (items_of ds) ++ after ≡ listed false ds ++ (93 ∷ after)
listed_then ds after = ap (λ l. l ++ after) (items_listed false ds) ∙ append_assoc (listed false ds) (93 ∷ []) after

-- a list is its elements in brackets
pub list_json : (ds : List Data) → compact_text (list_data ds) ≡ codes "[" ++ (listed false ds ++ codes "]")
list_json ds = ap (λ l. 91 ∷ l) (items_listed false ds)

-- a world is the sample, the series and the steps
pub world_json : (world : World) → compact_text (world_data world)
    ≡ codes "{\"sample\":" ++ (compact_text (set_data world.sample) ++ (codes ",\"series\":[" ++ (listed false (map set_data world.series) ++ world_end world.steps)))
unfolding serde_json_on_literals
world_json world =
    ap (λ l. codes "{\"sample\":" ++ (compact_text (set_data world.sample) ++ (codes ",\"series\":[" ++ l)))
    (listed_then (map set_data world.series) (codes ",\"steps\":" ++ (compact_text (list_data (map count_data world.steps)) ++ codes "}")))

-- a possible label is its head, and its worlds
pub possible_json : (label : Bytes) (with without : World) → compact_text (possible_data label with without)
    ≡ possible_head label ++ (compact_text (world_data with) ++ (codes ",\"without\":" ++ (compact_text (world_data without) ++ codes "}")))
unfolding serde_json_on_literals
possible_json label with without =
    sym (assoc_three (codes "{\"label\":") (compact_text (string label)) (codes ",\"verdict\":\"possible\",\"with\":")
    (compact_text (world_data with) ++ (codes ",\"without\":" ++ (compact_text (world_data without) ++ codes "}"))))

-- a rule is its head, its findings, what it is called, its labels, and its end
pub rule_json : (report : Report) (it : FileReport) (rule : RuleReport) → compact_text (rule_data report it rule)
    ≡ rule_head (column_at it.source rule.name_span.start) rule.empty ++ (listed false (map (finding_data it) rule.findings) ++ (rule_kind (kind_name rule.alert)
    ++ (compact_text (labels_data report rule.verdicts) ++ rule_end (line_at it.source rule.name_span.start) rule.name)))
unfolding serde_json_on_literals
rule_json report it rule =
    let column = compact_text (count_data (column_at it.source rule.name_span.start)) in
    let empty = compact_text (boolean rule.empty) in
    let findings = map (finding_data it) rule.findings in
    let kind = compact_text (string (kind_name rule.alert)) in
    let later = compact_text (labels_data report rule.verdicts) ++ rule_end (line_at it.source rule.name_span.start) rule.name in
    ap (λ l. codes "{\"column\":" ++ (column ++ (codes ",\"empty\":" ++ (empty ++ (codes ",\"findings\":[" ++ l)))))
    (listed_then findings (codes ",\"kind\":" ++ (kind ++ (codes ",\"labels\":" ++ later)))
    ∙ ap (λ l. listed false findings ++ l) (sym (assoc_three (codes "],\"kind\":") kind (codes ",\"labels\":") later)))
    ∙ sym (assoc_five (codes "{\"column\":") column (codes ",\"empty\":") empty (codes ",\"findings\":[") (listed false findings ++ (rule_kind (kind_name rule.alert) ++ later)))

-- a file is its head, its rules, and its end
pub file_json : (report : Report) (n : ℕ) (it : FileReport)
    → compact_text (file_data report n it) ≡ file_head it ++ (listed false (map (rule_data report it) (told_rules report n it.refusal)) ++ codes "]}")
unfolding serde_json_on_literals
file_json report n it =
    let rules = map (rule_data report it) (told_rules report n it.refusal) in
    ap (λ l. codes "{\"name\":" ++ (compact_text (string it.name) ++ (codes ",\"refusal\":" ++ (compact_text (refusal_data it it.refusal) ++ (codes ",\"rules\":[" ++ l))))) (listed_then rules (codes "}"))
    ∙ sym (assoc_five (codes "{\"name\":") (compact_text (string it.name)) (codes ",\"refusal\":") (compact_text (refusal_data it it.refusal)) (codes ",\"rules\":[") (listed false rules ++ codes "]}"))

-- a report is its files and its summary
pub report_is : (report : Report) → report_json report ≡ codes "{\"files\":[" ++ (listed false (files_items report) ++ (codes "],\"summary\":" ++ (compact_text (summary_data report) ++ codes "}\n")))
unfolding serde_json_on_literals
report_is report =
    let files = files_items report in
    let summary = compact_text (summary_data report) in
    ap (λ l. (codes "{\"files\":[" ++ l) ++ codes "\n") (listed_then files (codes ",\"summary\":" ++ (summary ++ codes "}")))
    ∙ assoc_five (codes "{\"files\":[") (listed false files) (codes "],\"summary\":") summary (codes "}") (codes "\n")

-- one element more, behind what stood before
pub listed_more : (ds : List Data) (d : Data) (k : ℕ) (start : Bytes) {old mid new : Bytes} → length ds ≡ k → old ≡ start ++ listed false ds → mid ≡ old ++ comma_if (nat_lt 0 k) → new ≡ mid ++ compact_text d
    → new ≡ start ++ listed false (ds ++ d ∷ [])
listed_more ds d k start {old} long before comma pushed =
    appended_two start (listed false ds) (comma_if (nat_lt 0 k) ++ compact_text d) before (appended_two old (comma_if (nat_lt 0 k)) (compact_text d) comma pushed)
    ∙ ap (λ l. start ++ l) (ap (λ n. listed false ds ++ (comma_if (nat_lt 0 n) ++ compact_text d)) (sym long) ∙ sym (listed_push false ds d))

length-numbered : {X : Type 0} (n : ℕ) (xs : List X) → length (numbered n xs) ≡ length xs
length-numbered n [] = refl
length-numbered n (x ∷ xs) = ap (λ m. suc m) (length-numbered (n + 1) xs)

-- one file more
pub files_json_more : (report : Report) (k : ℕ) (file : FileReport) (start : Bytes) {old mid new : Bytes} → k < length report.files → file ≡ get_or report.files k file
    → old ≡ start ++ listed false (map (λ (f : ℕ × FileReport). file_data report f.0 f.1) (numbered 0 (take k report.files)))
    → mid ≡ old ++ comma_if (nat_lt 0 k) → new ≡ mid ++ compact_text (file_data report k file)
    → new ≡ start ++ listed false (map (λ (f : ℕ × FileReport). file_data report f.0 f.1) (numbered 0 (take (k + 1) report.files)))
files_json_more report k file start inside is before comma pushed =
    let f : ℕ × FileReport → Data = λ p. file_data report p.0 p.1 in
    let some = numbered 0 (take k report.files) in
    let long : length (map f some) ≡ k = omega (arith, length-map some f, length-numbered 0 (take k report.files), length-take k report.files, inside) in
    listed_more (map f some) (file_data report k file) k start long before comma pushed
    ∙ ap (λ l. start ++ listed false l) (sym (ap (map f) (numbered_from_0 report.files k file inside is) ∙ map-append f some ((k, file) ∷ [])))

-- one element more of a list that is told element by element
pub mapped_more : {X : Type 0} (f : X → Data) (xs : List X) (k : ℕ) (x : X) (start : Bytes) {old mid new : Bytes} → k < length xs → x ≡ get_or xs k x
    → old ≡ start ++ listed false (map f (take k xs))
    → mid ≡ old ++ comma_if (nat_lt 0 k) → new ≡ mid ++ compact_text (f x)
    → new ≡ start ++ listed false (map f (take (k + 1) xs))
mapped_more {X} f xs k x start inside is before comma pushed =
    let long : length (map f (take k xs)) ≡ k = omega (arith, length-map (take k xs) f, length-take k xs, inside) in
    listed_more (map f (take k xs)) (f x) k start long before comma pushed
    ∙ ap (λ l. start ++ listed false l) (ap (λ (y : X). map f (take k xs) ++ f y ∷ []) is ∙ sym (map_more f xs k x inside))

-- one label more
pub labels_items_more : (report : Report) (labels : List Bytes) (verdicts : List Verdict) (k : ℕ) (label : Bytes) (verdict : Verdict) → k < length labels → k < length verdicts
    → label ≡ get_or labels k label → verdict ≡ get_or verdicts k verdict
    → labels_items report (take (k + 1) labels) (take (k + 1) verdicts) ≡ labels_items report (take k labels) (take k verdicts) ++ label_data report label verdict ∷ []
labels_items_more report labels verdicts k label verdict h i is at =
    ap (λ (n : ℕ). labels_items report (take n labels) (take n verdicts)) (let e : k + 1 ≡ suc k = omega arith in e) ∙ by labels verdicts k h i is at
  where
    by : (labels : List Bytes) (verdicts : List Verdict) (k : ℕ) → k < length labels → k < length verdicts → label ≡ get_or labels k label → verdict ≡ get_or verdicts k verdict
        → labels_items report (take (suc k) labels) (take (suc k) verdicts) ≡ labels_items report (take k labels) (take k verdicts) ++ label_data report label verdict ∷ []
    by [] verdicts k h i is at = absurd (omega arith)
    by (l ∷ ls) [] k h i is at = absurd (omega arith)
    by (l ∷ ls) (v ∷ vs) zero h i is at = ap (λ (x : Bytes). label_data report x v ∷ []) (sym is) ∙ ap (λ (x : Verdict). label_data report label x ∷ []) (sym at)
    by (l ∷ ls) (v ∷ vs) (suc k) h i is at = ap (λ (r : List Data). label_data report l v ∷ r) (by ls vs k (omega arith) (omega arith) is at)

labels_items_length : (report : Report) (labels : List Bytes) (verdicts : List Verdict) (k : ℕ) → k ≤ length labels → k ≤ length verdicts
    → length (labels_items report (take k labels) (take k verdicts)) ≡ k
labels_items_length report labels verdicts zero h i = refl
labels_items_length report [] verdicts (suc k) h i = absurd (omega arith)
labels_items_length report (l ∷ ls) [] (suc k) h i = absurd (omega arith)
labels_items_length report (l ∷ ls) (v ∷ vs) (suc k) h i = ap (λ n. suc n) (labels_items_length report ls vs k (omega arith) (omega arith))

-- the text of one label more
pub labels_json_more : (report : Report) (labels : List Bytes) (verdicts : List Verdict) (k : ℕ) (label : Bytes) (verdict : Verdict) (start : Bytes) {old mid new : Bytes}
    → k < length labels → k < length verdicts → label ≡ get_or labels k label → verdict ≡ get_or verdicts k verdict
    → old ≡ start ++ listed false (labels_items report (take k labels) (take k verdicts))
    → mid ≡ old ++ comma_if (nat_lt 0 k) → new ≡ mid ++ compact_text (label_data report label verdict)
    → new ≡ start ++ listed false (labels_items report (take (k + 1) labels) (take (k + 1) verdicts))
labels_json_more report labels verdicts k label verdict start h i is at before comma pushed =
    let long = labels_items_length report labels verdicts k (omega arith) (omega arith) in
    listed_more (labels_items report (take k labels) (take k verdicts)) (label_data report label verdict) k start long before comma pushed
    ∙ ap (λ l. start ++ listed false l) (sym (labels_items_more report labels verdicts k label verdict h i is at))

-- all labels, where there are no more of the one or of the other
pub labels_items_all : (report : Report) (labels : List Bytes) (verdicts : List Verdict) (k : ℕ) → k ≤ length labels → k ≤ length verdicts → (k < length labels → k < length verdicts → ⊥)
    → labels_items report (take k labels) (take k verdicts) ≡ labels_items report labels verdicts
labels_items_all report [] verdicts k h i end = by k h
  where
    by : (k : ℕ) → k ≤ 0 → labels_items report (take k []) (take k verdicts) ≡ []
    by zero h = refl
    by (suc k) h = absurd (omega arith)
labels_items_all report (l ∷ ls) [] zero h i end = refl
labels_items_all report (l ∷ ls) [] (suc k) h i end = absurd (omega arith)
labels_items_all report (l ∷ ls) (v ∷ vs) zero h i end = absurd (end (omega arith) (omega arith))
labels_items_all report (l ∷ ls) (v ∷ vs) (suc k) h i end =
    ap (λ (r : List Data). label_data report l v ∷ r) (labels_items_all report ls vs k (omega arith) (omega arith) (λ a b. end (omega arith) (omega arith)))
