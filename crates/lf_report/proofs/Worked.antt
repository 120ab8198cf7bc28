-- The definitions of the text and the JSON on worked reports, by computation.
use Rattle.std.proofs.Common.{◌≡◌, ℕ, false, true, List, [], ◌∷◌, Option, None, Some, codes, refl}
use denote.Bor.{Bor}
use Rattle.std.specs.Fmt.{digits}
use Rattle.std.specs.FinMap as map_of
use Rattle.std.specs.Cmp.Lexicographic.{slice_cmp}
use Rattle.std.specs.Ordering.{nat_cmp}
use Rattle.serde_json.proofs.OnLiterals.{serde_json_on_literals}
use Rattle.lf_ast.specs.Labels.{Bytes, Labels as LabelMap}
use Rattle.lf_ast.specs.declared.verdict.RuleVerdicts.{RuleVerdicts}
use Rattle.lf_ast.specs.declared.verdict.RuleVerdicts.TheVariants.{Labels}
use Rattle.lf_ast.specs.declared.verdict.Verdict.TheVariants.{Impossible, Possible}
use Rattle.lf_ast.specs.declared.verdict.World.{World}
use Rattle.lf_base.specs.declared.kind.Kind.TheVariants.{LeftOut}
use Rattle.lf_base.specs.declared.place.Span.{Span}
use Rattle.lf_report.specs.Counts.{is_guaranteed, is_impossible, is_possible, is_unresolved}
use Rattle.lf_report.specs.Json.{report_json}
use Rattle.lf_base.specs.Lines.{lines_text}
use Rattle.lf_report.specs.Text.{report_text}
use Rattle.lf_report.specs.declared.report.FileReport.{FileReport}
use Rattle.lf_report.specs.declared.report.Report.{Report}
use Rattle.lf_report.specs.declared.report.RuleReport.{RuleReport}
use Rattle.lf_report.specs.declared.report.Severity.TheVariants.{Problem}

abbrev at : ℕ → ℕ → Span
at start end = record { start = start; end = end }

abbrev accepted : Bytes → Bytes → FileReport
accepted name source = record { name = name; source = source; refusal = None }

abbrev set : List (Bytes × Bytes) → LabelMap
set entries = map_of.from_sorted entries

-- ---- a rule with its verdicts

job_source : Bytes
job_source = lines_text (codes "groups:" ∷ codes "- name: g" ∷ codes "  rules:" ∷ codes "  - record: job:foo:sum" ∷ codes "    expr: sum by (job) (foo{env=\"p\"})" ∷ [])

with_job : World
with_job = record { series = set ((codes "__name__", codes "foo") ∷ (codes "env", codes "p") ∷ (codes "job", codes "v1") ∷ []) ∷ []; steps = []; sample = set ((codes "job", codes "v1") ∷ []) }

without_job : World
without_job = record { series = set ((codes "__name__", codes "foo") ∷ (codes "env", codes "p") ∷ []) ∷ []; steps = []; sample = set [] }

job_rule : Option RuleVerdicts → RuleReport
job_rule verdicts = record { file = 0; alert = false; name = codes "job:foo:sum"; name_span = at 39 50; verdicts = verdicts; empty = false; findings = [] }

job_labels : RuleVerdicts
job_labels = Labels (Impossible ∷ Possible with_job without_job ∷ Impossible ∷ Impossible ∷ [])

job_report : Report
job_report = record {
  labels = true;
  files = accepted (codes "r.yml") job_source ∷ [];
  rules = job_rule (Some job_labels) ∷ [];
  universe = codes "__name__" ∷ codes "job" ∷ codes "env" ∷ codes "*" ∷ [];
}

job_text : report_text job_report
    ≡ lines_text (codes "r.yml:4:13: rule job:foo:sum" ∷ codes "  __name__: impossible" ∷ codes "  job: possible" ∷ codes "  env: impossible" ∷ codes "  *: impossible"
    ∷ codes "files 1, refused 0, rules 1, problems 0, notes 0" ∷ codes "verdicts guaranteed 0, impossible 3, possible 1, unresolved 0, empty 0" ∷ [])
unfolding job_report job_rule job_labels job_source digits is_guaranteed is_impossible is_possible is_unresolved
job_text = refl

job_json : report_json job_report
    ≡ codes "{\"files\":[{\"name\":\"r.yml\",\"refusal\":null,\"rules\":[{\"column\":13,\"empty\":false,\"findings\":[],\"kind\":\"record\",\"labels\":[{\"label\":\"__name__\",\"verdict\":\"impossible\"},{\"label\":\"job\",\"verdict\":\"possible\",\"with\":{\"sample\":{\"job\":\"v1\"},\"series\":[{\"__name__\":\"foo\",\"env\":\"p\",\"job\":\"v1\"}],\"steps\":[]},\"without\":{\"sample\":{},\"series\":[{\"__name__\":\"foo\",\"env\":\"p\"}],\"steps\":[]}},{\"label\":\"env\",\"verdict\":\"impossible\"},{\"label\":\"*\",\"verdict\":\"impossible\"}],\"line\":4,\"name\":\"job:foo:sum\"}]}],\"summary\":{\"files\":1,\"notes\":0,\"problems\":0,\"refused\":0,\"rules\":1,\"verdicts\":{\"empty\":0,\"guaranteed\":0,\"impossible\":3,\"possible\":1,\"unresolved\":0}}}\n"
unfolding job_report job_rule job_labels with_job without_job job_source digits is_guaranteed is_impossible is_possible is_unresolved serde_json_on_literals
job_json =
    let all = map_of.entries-from_sorted {X = Bytes} (slice_cmp nat_cmp) ((codes "__name__", codes "foo") ∷ (codes "env", codes "p") ∷ (codes "job", codes "v1") ∷ []) tt in
    let two = map_of.entries-from_sorted {X = Bytes} (slice_cmp nat_cmp) ((codes "__name__", codes "foo") ∷ (codes "env", codes "p") ∷ []) tt in
    let one = map_of.entries-from_sorted {X = Bytes} (slice_cmp nat_cmp) ((codes "job", codes "v1") ∷ []) tt in
    let none = map_of.entries-from_sorted {X = Bytes} (slice_cmp nat_cmp) [] tt in
    rw (all, two, one, none) refl

-- ---- an empty file, where no verdicts are told

empty_report : Report
empty_report = record { labels = false; files = accepted (codes "r.yml") [] ∷ []; rules = []; universe = [] }

empty_text : report_text empty_report ≡ codes "files 1, refused 0, rules 0, problems 0, notes 0\n"
unfolding empty_report digits
empty_text = refl

empty_json : report_json empty_report
    ≡ codes "{\"files\":[{\"name\":\"r.yml\",\"refusal\":null,\"rules\":[]}],\"summary\":{\"files\":1,\"notes\":0,\"problems\":0,\"refused\":0,\"rules\":0,\"verdicts\":null}}\n"
unfolding empty_report digits serde_json_on_literals
empty_json = refl

-- ---- three files, the second of which is refused

b_file : FileReport
b_file = record { name = codes "b.yml"; source = codes "groups: &x []\n"; refusal = Some (record { kind = LeftOut; span = at 8 9 }) }

three_report : Report
three_report = record { labels = false; files = accepted (codes "a.yml") job_source ∷ b_file ∷ accepted (codes "c.yml") [] ∷ []; rules = job_rule None ∷ []; universe = [] }

three_text : report_text three_report
    ≡ lines_text (codes "b.yml:1:9: refused [LeftOut] this form is left out of the profile" ∷ codes "files 3, refused 1, rules 1, problems 0, notes 0" ∷ [])
unfolding three_report b_file job_rule job_source digits
three_text = refl

three_json : report_json three_report
    ≡ codes "{\"files\":[{\"name\":\"a.yml\",\"refusal\":null,\"rules\":[{\"column\":13,\"empty\":false,\"findings\":[],\"kind\":\"record\",\"labels\":null,\"line\":4,\"name\":\"job:foo:sum\"}]},{\"name\":\"b.yml\",\"refusal\":{\"column\":9,\"end\":9,\"kind\":\"LeftOut\",\"line\":1,\"start\":8,\"text\":\"this form is left out of the profile\"},\"rules\":[]},{\"name\":\"c.yml\",\"refusal\":null,\"rules\":[]}],\"summary\":{\"files\":3,\"notes\":0,\"problems\":0,\"refused\":1,\"rules\":1,\"verdicts\":null}}\n"
unfolding three_report b_file job_rule job_source digits serde_json_on_literals
three_json = refl

-- ---- findings, beside verdicts on alerts: the file's name, a label and a text hold control characters

sum_source : Bytes
sum_source = lines_text (codes "groups:" ∷ codes "- name: g" ∷ codes "  rules:" ∷ codes "  - record: a:b" ∷ codes "    expr: foo{a=\"x\"} + bar{a=\"y\"}" ∷ [])

sum_rule : Bor (List ℕ) → RuleReport
sum_rule check = record {
  file = 0;
  alert = false;
  name = codes "a:b";
  name_span = at 39 42;
  verdicts = None;
  empty = true;
  findings = record { check = check; severity = Problem; span = at 53 76; text = codes "the expression has no sample in any run" } ∷ [];
}

module _ (check : Bor (List ℕ)) (is : check.now ≡ codes "expr/empty") where
  sum_report : Report
  sum_report = record { labels = false; files = accepted (codes "r.yml") sum_source ∷ []; rules = sum_rule check ∷ []; universe = [] }

  sum_text : report_text sum_report
      ≡ lines_text (codes "r.yml:5:11: problem [expr/empty] the expression has no sample in any run" ∷ codes "files 1, refused 0, rules 1, problems 1, notes 0" ∷ [])
  unfolding sum_report sum_rule sum_source digits
  sum_text = rw is refl

  sum_json : report_json sum_report
      ≡ codes "{\"files\":[{\"name\":\"r.yml\",\"refusal\":null,\"rules\":[{\"column\":13,\"empty\":true,\"findings\":[{\"check\":\"expr/empty\",\"column\":11,\"end\":76,\"line\":5,\"severity\":\"problem\",\"start\":53,\"text\":\"the expression has no sample in any run\"}],\"kind\":\"record\",\"labels\":null,\"line\":4,\"name\":\"a:b\"}]}],\"summary\":{\"files\":1,\"notes\":0,\"problems\":1,\"refused\":0,\"rules\":1,\"verdicts\":null}}\n"
  unfolding sum_report sum_rule sum_source digits serde_json_on_literals
  sum_json = rw is refl
