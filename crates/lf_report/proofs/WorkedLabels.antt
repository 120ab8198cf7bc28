-- The definitions of the text and the JSON on worked reports whose labels are told, by computation: unresolved labels, an empty rule, files that are refused beside one that isn't.
use Rattle.std.proofs.Common.{◌≡◌, ℕ, false, true, List, [], ◌∷◌, ◌++◌, None, Some, codes, refl}
use denote.Bor.{Bor}
use Rattle.std.specs.Fmt.{digits}
use Rattle.serde_json.proofs.OnLiterals.{serde_json_on_literals}
use Rattle.lf_ast.specs.Labels.{Bytes}
use Rattle.lf_ast.specs.declared.verdict.RuleVerdicts.{RuleVerdicts}
use Rattle.lf_ast.specs.declared.verdict.RuleVerdicts.TheVariants.{Empty, Labels}
use Rattle.lf_ast.specs.declared.verdict.Verdict.TheVariants.{Guaranteed, Impossible, Unresolved}
use Rattle.lf_base.specs.declared.kind.Kind.TheVariants.{BadUtf8, LeftOut}
use Rattle.lf_base.specs.declared.place.Span.{Span}
use Rattle.lf_report.specs.Counts.{is_guaranteed, is_impossible, is_possible, is_unresolved}
use Rattle.lf_report.specs.Json.{report_json}
use Rattle.lf_base.specs.Lines.{lines_text}
use Rattle.lf_report.specs.Text.{report_text}
use Rattle.lf_report.specs.declared.report.FileReport.{FileReport}
use Rattle.lf_report.specs.declared.report.Report.{Report}
use Rattle.lf_report.specs.declared.report.RuleReport.{RuleReport}
use Rattle.lf_report.specs.declared.report.Severity.TheVariants.{Problem}

abbrev at : ℕ → ℕ → Span
at start end = record { start = start; end = end }

abbrev accepted : Bytes → Bytes → FileReport
accepted name source = record { name = name; source = source; refusal = None }

-- a file of one rule, whose name stands at 39
abbrev source_of : Bytes → Bytes → Bytes
source_of name expr = lines_text (codes "groups:" ∷ codes "- name: g" ∷ codes "  rules:" ∷ (codes "  - record: " ++ name) ∷ (codes "    expr: " ++ expr) ∷ [])

abbrev recorded : ℕ → Bytes → Span → RuleVerdicts → RuleReport
recorded file name span verdicts = record { file = file; alert = false; name = name; name_span = span; verdicts = Some verdicts; empty = false; findings = [] }

-- ---- an unresolved label: the operator `unless` between two sides that read a common metric stands in the way

unless_source : Bytes
unless_source = source_of (codes "rec:0") (codes "foo unless (foo > 5)")

unless_rule : RuleReport
unless_rule = recorded 0 (codes "rec:0") (at 39 44) (Labels (Guaranteed ∷ Unresolved 1 0 (at 59 65) ∷ []))

unless_report : Report
unless_report = record { labels = true; files = accepted (codes "r.yml") unless_source ∷ []; rules = unless_rule ∷ []; universe = codes "__name__" ∷ codes "*" ∷ [] }

unless_text : report_text unless_report
    ≡ lines_text (codes "r.yml:4:13: rule rec:0" ∷ codes "  __name__: guaranteed" ∷ codes "  *: unresolved O1 at r.yml:5:15"
    ∷ codes "files 1, refused 0, rules 1, problems 0, notes 0" ∷ codes "verdicts guaranteed 1, impossible 0, possible 0, unresolved 1, empty 0" ∷ [])
unfolding unless_report unless_rule unless_source digits is_guaranteed is_impossible is_possible is_unresolved
unless_text = refl

unless_json : report_json unless_report
    ≡ codes "{\"files\":[{\"name\":\"r.yml\",\"refusal\":null,\"rules\":[{\"column\":13,\"empty\":false,\"findings\":[],\"kind\":\"record\",\"labels\":[{\"label\":\"__name__\",\"verdict\":\"guaranteed\"},{\"construct\":\"O1\",\"label\":\"*\",\"place\":\"r.yml:5:15\",\"verdict\":\"unresolved\"}],\"line\":4,\"name\":\"rec:0\"}]}],\"summary\":{\"files\":1,\"notes\":0,\"problems\":0,\"refused\":0,\"rules\":1,\"verdicts\":{\"empty\":0,\"guaranteed\":1,\"impossible\":0,\"possible\":0,\"unresolved\":1}}}\n"
unfolding unless_report unless_rule unless_source digits is_guaranteed is_impossible is_possible is_unresolved serde_json_on_literals
unless_json = refl

-- ---- the construct stands in a rule of another file: the place is there. The file's name holds a tab, which the text tells in its own way, and the JSON by its escapes

read_source : Bytes
read_source = source_of (codes "rec:1") (codes "rec:0")

read_rule : RuleReport
read_rule = recorded 1 (codes "rec:1") (at 39 44) (Labels (Impossible ∷ Unresolved 1 0 (at 59 65) ∷ []))

read_report : Report
read_report = record {
  labels = true;
  files = accepted (codes "a" ++ 9 ∷ codes "b.yml") unless_source ∷ accepted (codes "c.yml") read_source ∷ [];
  rules = unless_rule ∷ read_rule ∷ [];
  universe = codes "__name__" ∷ codes "*" ∷ [];
}

read_text : report_text read_report
    ≡ lines_text (codes "a\\x09b.yml:4:13: rule rec:0" ∷ codes "  __name__: guaranteed" ∷ codes "  *: unresolved O1 at a\\x09b.yml:5:15"
    ∷ codes "c.yml:4:13: rule rec:1" ∷ codes "  __name__: impossible" ∷ codes "  *: unresolved O1 at a\\x09b.yml:5:15"
    ∷ codes "files 2, refused 0, rules 2, problems 0, notes 0" ∷ codes "verdicts guaranteed 1, impossible 1, possible 0, unresolved 2, empty 0" ∷ [])
unfolding read_report read_rule read_source unless_rule unless_source digits is_guaranteed is_impossible is_possible is_unresolved
read_text = refl

read_json : report_json read_report
    ≡ codes "{\"files\":[{\"name\":\"a\\tb.yml\",\"refusal\":null,\"rules\":[{\"column\":13,\"empty\":false,\"findings\":[],\"kind\":\"record\",\"labels\":[{\"label\":\"__name__\",\"verdict\":\"guaranteed\"},{\"construct\":\"O1\",\"label\":\"*\",\"place\":\"a\\tb.yml:5:15\",\"verdict\":\"unresolved\"}],\"line\":4,\"name\":\"rec:0\"}]},{\"name\":\"c.yml\",\"refusal\":null,\"rules\":[{\"column\":13,\"empty\":false,\"findings\":[],\"kind\":\"record\",\"labels\":[{\"label\":\"__name__\",\"verdict\":\"impossible\"},{\"construct\":\"O1\",\"label\":\"*\",\"place\":\"a\\tb.yml:5:15\",\"verdict\":\"unresolved\"}],\"line\":4,\"name\":\"rec:1\"}]}],\"summary\":{\"files\":2,\"notes\":0,\"problems\":0,\"refused\":0,\"rules\":2,\"verdicts\":{\"empty\":0,\"guaranteed\":1,\"impossible\":1,\"possible\":0,\"unresolved\":2}}}\n"
unfolding read_report read_rule read_source unless_rule unless_source digits is_guaranteed is_impossible is_possible is_unresolved serde_json_on_literals
read_json = refl

-- ---- an empty rule: its list of labels is empty, and not null

empty_source : Bytes
empty_source = source_of (codes "rec:0") (codes "foo{a=\"x\"} + bar{a=\"y\"}")

module _ (check : Bor (List ℕ)) (is : check.now ≡ codes "expr/empty") where
  empty_rule : RuleReport
  empty_rule = record {
    file = 0;
    alert = false;
    name = codes "rec:0";
    name_span = at 39 44;
    verdicts = Some Empty;
    empty = true;
    findings = record { check = check; severity = Problem; span = at 55 78; text = codes "the expression has no sample in any run" } ∷ [];
  }

  empty_report : Report
  empty_report = record { labels = true; files = accepted (codes "r.yml") empty_source ∷ []; rules = empty_rule ∷ []; universe = codes "__name__" ∷ codes "a" ∷ codes "*" ∷ [] }

  empty_text : report_text empty_report
      ≡ lines_text (codes "r.yml:4:13: rule rec:0" ∷ codes "  empty" ∷ codes "r.yml:5:11: problem [expr/empty] the expression has no sample in any run"
      ∷ codes "files 1, refused 0, rules 1, problems 1, notes 0" ∷ codes "verdicts guaranteed 0, impossible 0, possible 0, unresolved 0, empty 1" ∷ [])
  unfolding empty_report empty_rule empty_source digits is_guaranteed is_impossible is_possible is_unresolved
  empty_text = rw is refl

  empty_json : report_json empty_report
      ≡ codes "{\"files\":[{\"name\":\"r.yml\",\"refusal\":null,\"rules\":[{\"column\":13,\"empty\":true,\"findings\":[{\"check\":\"expr/empty\",\"column\":11,\"end\":78,\"line\":5,\"severity\":\"problem\",\"start\":55,\"text\":\"the expression has no sample in any run\"}],\"kind\":\"record\",\"labels\":[],\"line\":4,\"name\":\"rec:0\"}]}],\"summary\":{\"files\":1,\"notes\":0,\"problems\":1,\"refused\":0,\"rules\":1,\"verdicts\":{\"empty\":1,\"guaranteed\":0,\"impossible\":0,\"possible\":0,\"unresolved\":0}}}\n"
  unfolding empty_report empty_rule empty_source digits is_guaranteed is_impossible is_possible is_unresolved serde_json_on_literals
  empty_json = rw is refl

-- ---- three files in the order in which they were asked for: refused, accepted, refused. The last isn't UTF-8 from its byte 10 on

b_file : FileReport
b_file = record { name = codes "b.yml"; source = codes "groups: &x []\n"; refusal = Some (record { kind = LeftOut; span = at 8 9 }) }

u_file : FileReport
u_file = record { name = codes "a.yml"; source = codes "groups:\n# " ++ 255 ∷ 10 ∷ []; refusal = Some (record { kind = BadUtf8; span = at 10 11 }) }

foo_source : Bytes
foo_source = source_of (codes "rec:0") (codes "foo{a=\"x\"}")

foo_rule : RuleReport
foo_rule = recorded 1 (codes "rec:0") (at 39 44) (Labels (Guaranteed ∷ Guaranteed ∷ []))

mixed_report : Report
mixed_report = record {
  labels = true;
  files = b_file ∷ accepted (codes "g.yml") foo_source ∷ u_file ∷ [];
  rules = foo_rule ∷ [];
  universe = codes "__name__" ∷ codes "a" ∷ [];
}

mixed_text : report_text mixed_report
    ≡ lines_text (codes "b.yml:1:9: refused [LeftOut] this form is left out of the profile" ∷ codes "g.yml:4:13: rule rec:0" ∷ codes "  __name__: guaranteed" ∷ codes "  a: guaranteed"
    ∷ codes "a.yml:2:3: refused [BadUtf8] the bytes aren't UTF-8" ∷ codes "files 3, refused 2, rules 1, problems 0, notes 0"
    ∷ codes "verdicts guaranteed 2, impossible 0, possible 0, unresolved 0, empty 0" ∷ [])
unfolding mixed_report b_file u_file foo_rule foo_source digits is_guaranteed is_impossible is_possible is_unresolved
mixed_text = refl

mixed_json : report_json mixed_report
    ≡ codes "{\"files\":[{\"name\":\"b.yml\",\"refusal\":{\"column\":9,\"end\":9,\"kind\":\"LeftOut\",\"line\":1,\"start\":8,\"text\":\"this form is left out of the profile\"},\"rules\":[]},{\"name\":\"g.yml\",\"refusal\":null,\"rules\":[{\"column\":13,\"empty\":false,\"findings\":[],\"kind\":\"record\",\"labels\":[{\"label\":\"__name__\",\"verdict\":\"guaranteed\"},{\"label\":\"a\",\"verdict\":\"guaranteed\"}],\"line\":4,\"name\":\"rec:0\"}]},{\"name\":\"a.yml\",\"refusal\":{\"column\":3,\"end\":11,\"kind\":\"BadUtf8\",\"line\":2,\"start\":10,\"text\":\"the bytes aren't UTF-8\"},\"rules\":[]}],\"summary\":{\"files\":3,\"notes\":0,\"problems\":0,\"refused\":2,\"rules\":1,\"verdicts\":{\"empty\":0,\"guaranteed\":2,\"impossible\":0,\"possible\":0,\"unresolved\":0}}}\n"
unfolding mixed_report b_file u_file foo_rule foo_source digits is_guaranteed is_impossible is_possible is_unresolved serde_json_on_literals
mixed_json = refl
