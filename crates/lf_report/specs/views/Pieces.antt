-- Pieces of JSON, as the code writes them one behind the other.
use Rattle.std.specs.Prelude.{ℕ, Bool, true, List, [], ◌∷◌, ◌++◌, codes, map}
use Rattle.serde_json.specs.Data.{Data, boolean, string}
use Rattle.serde_json.specs.Written.{comma_if, compact_text}
use Rattle.lf_ast.specs.Labels.{Bytes}
use Rattle.lf_report.specs.Json.{count_data, list_data, refusal_data}
use Rattle.lf_report.specs.declared.report.FileReport.{FileReport}

-- the elements of a list with commas between them, and one before them where others stand before
abbrev pub listed : Bool → List Data → Bytes
listed later [] = []
listed later (d ∷ ds) = comma_if later ++ (compact_text d ++ listed true ds)

-- a file up to its rules
abbrev pub file_head : FileReport → Bytes
file_head file = codes "{\"name\":" ++ (compact_text (string file.name) ++ (codes ",\"refusal\":" ++ (compact_text (refusal_data file file.refusal) ++ codes ",\"rules\":[")))

-- a rule up to its findings
abbrev pub rule_head : ℕ → Bool → Bytes
rule_head column empty = codes "{\"column\":" ++ (compact_text (count_data column) ++ (codes ",\"empty\":" ++ (compact_text (boolean empty) ++ codes ",\"findings\":[")))

-- what stands between a rule's findings and its labels
abbrev pub rule_kind : Bytes → Bytes
rule_kind kind = codes "],\"kind\":" ++ (compact_text (string kind) ++ codes ",\"labels\":")

-- what stands behind a rule's labels
abbrev pub rule_end : ℕ → Bytes → Bytes
rule_end line name = codes ",\"line\":" ++ (compact_text (count_data line) ++ (codes ",\"name\":" ++ (compact_text (string name) ++ codes "}")))

-- a possible label up to its worlds
abbrev pub possible_head : Bytes → Bytes
possible_head label = codes "{\"label\":" ++ (compact_text (string label) ++ codes ",\"verdict\":\"possible\",\"with\":")

-- what stands behind a world's series
abbrev pub world_end : List ℕ → Bytes
world_end steps = codes "],\"steps\":" ++ (compact_text (list_data (map count_data steps)) ++ codes "}")
