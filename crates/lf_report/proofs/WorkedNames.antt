-- The definitions of the text and the JSON on a worked report with names and texts of every sort, by computation: control characters, quotes, backslashes, and characters beyond
-- ASCII, of which columns count each byte.
use Rattle.std.proofs.Common.{◌≡◌, ℕ, false, true, List, [], ◌∷◌, ◌++◌, None, Some, codes, refl}
use denote.Bor.{Bor}
use Rattle.std.specs.Fmt.{digits}
use Rattle.serde_json.proofs.OnLiterals.{serde_json_on_literals}
use Rattle.lf_ast.specs.Labels.{Bytes}
use Rattle.lf_ast.specs.declared.verdict.RuleVerdicts.TheVariants.{Labels}
use Rattle.lf_ast.specs.declared.verdict.Verdict.TheVariants.{Guaranteed}
use Rattle.lf_base.specs.declared.place.Span.{Span}
use Rattle.lf_report.specs.Counts.{is_guaranteed, is_impossible, is_possible, is_unresolved}
use Rattle.lf_report.specs.Json.{report_json}
use Rattle.lf_base.specs.Lines.{lines_text}
use Rattle.lf_report.specs.Text.{report_text}
use Rattle.lf_report.specs.declared.report.Report.{Report}
use Rattle.lf_report.specs.declared.report.RuleReport.{RuleReport}
use Rattle.lf_report.specs.declared.report.Severity.TheVariants.{Note}

abbrev at : ℕ → ℕ → Span
at start end = record { start = start; end = end }

-- U+00E9 and U+1F525
abbrev e_acute : Bytes
e_acute = 195 ∷ 169 ∷ []

abbrev flame : Bytes
flame = 240 ∷ 159 ∷ 148 ∷ 165 ∷ []

names_source : Bytes
names_source = lines_text (codes "groups:" ∷ codes "- name: g" ∷ codes "  rules:" ∷ codes "  - alert: \"tab\\there, bell\\x07, \\x7f, \\\\ and \\u00e9\""
    ∷ (codes "    expr: foo{a=\"" ++ e_acute ++ codes "\",b=~\"x\"} > 1") ∷ [])

-- a tab, a bell, the byte 0x7F, a backslash, and U+00E9
alert_name : Bytes
alert_name = codes "tab" ++ 9 ∷ codes "here, bell" ++ 7 ∷ codes ", " ++ 127 ∷ codes ", \\ and " ++ e_acute

-- a quote, a backslash, and U+1F525
file_name : Bytes
file_name = codes "a\"b\\" ++ flame ++ codes ".yml"

module _ (check : Bor (List ℕ)) (is : check.now ≡ codes "promql/regexp") where
  names_rule : RuleReport
  names_rule = record {
    file = 0;
    alert = true;
    name = alert_name;
    name_span = at 38 80;
    verdicts = Some (Labels (Guaranteed ∷ []));
    empty = false;
    findings = record { check = check; severity = Note; span = at 105 108; text = codes "the pattern is one plain text" } ∷ record { check = check; severity = Note; span = at 105 108; text = codes "\n\r" ++ 8 ∷ 12 ∷ 31 ∷ codes "\"/" ++ flame } ∷ [];
  }

  names_report : Report
  names_report = record { labels = true; files = record { name = file_name; source = names_source; refusal = None } ∷ []; rules = names_rule ∷ []; universe = codes "__name__" ∷ [] }

  names_text : report_text names_report
      ≡ lines_text ((codes "a\"b\\" ++ flame ++ codes ".yml:4:12: rule tab\\x09here, bell\\x07, \\x7f, \\ and " ++ e_acute) ∷ codes "  __name__: guaranteed"
      ∷ (codes "a\"b\\" ++ flame ++ codes ".yml:5:25: note [promql/regexp] the pattern is one plain text")
      ∷ (codes "a\"b\\" ++ flame ++ codes ".yml:5:25: note [promql/regexp] \\x0a\\x0d\\x08\\x0c\\x1f\"/" ++ flame)
      ∷ codes "files 1, refused 0, rules 1, problems 0, notes 2" ∷ codes "verdicts guaranteed 1, impossible 0, possible 0, unresolved 0, empty 0" ∷ [])
  unfolding names_report names_rule names_source alert_name file_name digits is_guaranteed is_impossible is_possible is_unresolved
  names_text = rw is refl

  names_json : report_json names_report
      ≡ codes "{\"files\":[{\"name\":\"a\\\"b\\\\" ++ flame ++ codes ".yml\",\"refusal\":null,\"rules\":[{\"column\":12,\"empty\":false,\"findings\":[{\"check\":\"promql/regexp\",\"column\":25,\"end\":108,\"line\":5,\"severity\":\"note\",\"start\":105,\"text\":\"the pattern is one plain text\"},{\"check\":\"promql/regexp\",\"column\":25,\"end\":108,\"line\":5,\"severity\":\"note\",\"start\":105,\"text\":\"\\n\\r\\b\\f\\u001f\\\"/" ++ flame ++ codes "\"}],\"kind\":\"alert\",\"labels\":[{\"label\":\"__name__\",\"verdict\":\"guaranteed\"}],\"line\":4,\"name\":\"tab\\there, bell\\u0007, " ++ 127 ∷ codes ", \\\\ and " ++ e_acute ++ codes "\"}]}],\"summary\":{\"files\":1,\"notes\":2,\"problems\":0,\"refused\":0,\"rules\":1,\"verdicts\":{\"empty\":0,\"guaranteed\":1,\"impossible\":0,\"possible\":0,\"unresolved\":0}}}\n"
  unfolding names_report names_rule names_source alert_name file_name digits is_guaranteed is_impossible is_possible is_unresolved serde_json_on_literals
  names_json = rw is refl
