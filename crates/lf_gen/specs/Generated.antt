-- The generated rule file. Its rules are numbered from 0. Of four rules in turn the first sums a scraped metric, each other one reads what the one before it records, and the
-- fourth is an alert.
use Rattle.std.specs.Prelude.{ℕ, zero, suc, ◌-◌, ◌/◌, ◌%◌, ◌==◌, List, [], ◌∷◌, ◌++◌, codes, if◌then◌else◌}
use Rattle.std.specs.Fmt.{decimal}
use Rattle.std.specs.List.{flat_map, range_with_len}
use Rattle.lf_base.specs.Lines.{lines_text}
use Rattle.lf_base.specs.Names.{Bytes}

-- the lines that begin group K
abbrev pub group_lines : ℕ → List Bytes
group_lines k = (codes "- name: g" ++ decimal k) ∷ codes "  rules:" ∷ []

-- `gen:R:a` is the sum of a scraped metric of its own
abbrev pub first_lines : ℕ → List Bytes
first_lines r = (codes "  - record: gen:" ++ decimal r ++ codes ":a") ∷ (codes "    expr: sum by (job, shard) (m_" ++ decimal r ++ codes "{env=\"p\"})") ∷ []

-- `gen:R:b` is the sum of what the rule before it records
abbrev pub second_lines : ℕ → List Bytes
second_lines r = (codes "  - record: gen:" ++ decimal r ++ codes ":b") ∷ (codes "    expr: sum without (shard) (gen:" ++ decimal (r - 1) ++ codes ":a)") ∷ []

-- `gen:R:c` is what the rule before it records, divided by a scraped metric
abbrev pub third_lines : ℕ → List Bytes
third_lines r = (codes "  - record: gen:" ++ decimal r ++ codes ":c") ∷ (codes "    expr: gen:" ++ decimal (r - 1) ++ codes ":b / on (job) m_" ++ decimal r) ∷ []

-- `GenR` fires on what the rule before it records, and tells the labels `job` and `shard`
abbrev pub alert_lines : ℕ → List Bytes
alert_lines r = (codes "  - alert: Gen" ++ decimal r) ∷ (codes "    expr: gen:" ++ decimal (r - 1) ++ codes ":c > 0.5")
    ∷ codes "    annotations:" ∷ codes "      summary: \"{{ $labels.job }} of {{ $labels.shard }}\"" ∷ []

-- rule R is of a kind by what is left of R by 4
abbrev pub kind_lines : ℕ → ℕ → List Bytes
kind_lines zero r = first_lines r
kind_lines (suc zero) r = second_lines r
kind_lines (suc (suc zero)) r = third_lines r
kind_lines (suc (suc (suc k))) r = alert_lines r

-- each hundredth rule begins a group, the first one too
abbrev pub head_lines : ℕ → List Bytes
head_lines r = if r % 100 == 0 then group_lines (r / 100) else []

-- the lines of rule R
abbrev pub lines_of_rule : ℕ → List Bytes
lines_of_rule r = head_lines r ++ kind_lines (r % 4) r

-- the rule file of N rules
abbrev pub generated : ℕ → Bytes
generated n = lines_text (codes "groups:" ∷ flat_map lines_of_rule (range_with_len 0 n))
