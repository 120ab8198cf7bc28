-- What the code writes of a rule is its lines.
use Rattle.std.proofs.Common.{◌≡◌, ℕ, ◌-◌, [], ◌∷◌, ◌++◌, codes, sym, ap, ◌∙◌, append_assoc}
use Rattle.std.specs.Fmt.{decimal}
use Rattle.lf_gen.specs.Generated.{alert_lines, first_lines, second_lines, third_lines}
use Rattle.lf_base.specs.Lines.{lines_text}
use Rattle.lf_base.specs.Names.{Bytes}

-- a line in two, three and four parts, and what follows it

line_of_two : (a b rest : Bytes) → a ++ (b ++ 10 ∷ rest) ≡ ((a ++ b) ++ 10 ∷ []) ++ rest
line_of_two a b rest = sym (append_assoc a b (10 ∷ rest)) ∙ sym (append_assoc (a ++ b) (10 ∷ []) rest)

line_of_three : (a b c rest : Bytes) → a ++ (b ++ (c ++ 10 ∷ rest)) ≡ (((a ++ b) ++ c) ++ 10 ∷ []) ++ rest
line_of_three a b c rest = sym (append_assoc a b (c ++ 10 ∷ rest)) ∙ line_of_two (a ++ b) c rest

line_of_four : (a b c d rest : Bytes) → a ++ (b ++ (c ++ (d ++ 10 ∷ rest))) ≡ ((((a ++ b) ++ c) ++ d) ++ 10 ∷ []) ++ rest
line_of_four a b c d rest = sym (append_assoc a b (c ++ (d ++ 10 ∷ rest))) ∙ line_of_three (a ++ b) c d rest

-- the annotations of an alert
abbrev pub annotations : Bytes
annotations = codes "    annotations:\n      summary: \"{{ $labels.job }} of {{ $labels.shard }}\"\n"

module _ (old : Bytes) (r : ℕ) where
  pub first_written : old ++ (codes "  - record: gen:" ++ (decimal r ++ (codes ":a\n    expr: sum by (job, shard) (m_" ++ (decimal r ++ codes "{env=\"p\"})\n")))) ≡ old ++ lines_text (first_lines r)
  first_written =
      let behind : Bytes = codes "    expr: sum by (job, shard) (m_" ++ (decimal r ++ codes "{env=\"p\"})\n") in
      let line : Bytes = (codes "  - record: gen:" ++ decimal r) ++ codes ":a" in
      ap (λ l. old ++ l)
      (line_of_three (codes "  - record: gen:") (decimal r) (codes ":a") behind
      ∙ ap (λ l. (line ++ 10 ∷ []) ++ l) (line_of_three (codes "    expr: sum by (job, shard) (m_") (decimal r) (codes "{env=\"p\"})") []))

  pub second_written : old ++ (codes "  - record: gen:" ++ (decimal r ++ (codes ":b\n    expr: sum without (shard) (gen:" ++ (decimal (r - 1) ++ codes ":a)\n")))) ≡ old ++ lines_text (second_lines r)
  second_written =
      let behind : Bytes = codes "    expr: sum without (shard) (gen:" ++ (decimal (r - 1) ++ codes ":a)\n") in
      let line : Bytes = (codes "  - record: gen:" ++ decimal r) ++ codes ":b" in
      ap (λ l. old ++ l)
      (line_of_three (codes "  - record: gen:") (decimal r) (codes ":b") behind
      ∙ ap (λ l. (line ++ 10 ∷ []) ++ l) (line_of_three (codes "    expr: sum without (shard) (gen:") (decimal (r - 1)) (codes ":a)") []))

  pub third_written : old ++ (codes "  - record: gen:" ++ (decimal r ++ (codes ":c\n    expr: gen:" ++ (decimal (r - 1) ++ (codes ":b / on (job) m_" ++ (decimal r ++ codes "\n")))))) ≡ old ++ lines_text (third_lines r)
  third_written =
      let behind : Bytes = codes "    expr: gen:" ++ (decimal (r - 1) ++ (codes ":b / on (job) m_" ++ (decimal r ++ codes "\n"))) in
      let line : Bytes = (codes "  - record: gen:" ++ decimal r) ++ codes ":c" in
      ap (λ l. old ++ l)
      (line_of_three (codes "  - record: gen:") (decimal r) (codes ":c") behind
      ∙ ap (λ l. (line ++ 10 ∷ []) ++ l) (line_of_four (codes "    expr: gen:") (decimal (r - 1)) (codes ":b / on (job) m_") (decimal r) []))

  pub alert_written : (old ++ (codes "  - alert: Gen" ++ (decimal r ++ (codes "\n    expr: gen:" ++ (decimal (r - 1) ++ codes ":c > 0.5\n"))))) ++ annotations ≡ old ++ lines_text (alert_lines r)
  alert_written =
      let first : Bytes = (codes "  - alert: Gen" ++ decimal r) ++ 10 ∷ [] in
      let last : Bytes = codes "    expr: gen:" ++ (decimal (r - 1) ++ codes ":c > 0.5\n") in
      let second : Bytes = ((codes "    expr: gen:" ++ decimal (r - 1)) ++ codes ":c > 0.5") ++ 10 ∷ [] in
      append_assoc old (codes "  - alert: Gen" ++ (decimal r ++ 10 ∷ last)) annotations
      ∙ ap (λ l. old ++ (l ++ annotations)) (line_of_two (codes "  - alert: Gen") (decimal r) last)
      ∙ ap (λ l. old ++ l) (append_assoc first last annotations)
      ∙ ap (λ l. old ++ (first ++ l)) (append_assoc (codes "    expr: gen:") (decimal (r - 1) ++ codes ":c > 0.5\n") annotations)
      ∙ ap (λ l. old ++ (first ++ (codes "    expr: gen:" ++ l))) (append_assoc (decimal (r - 1)) (codes ":c > 0.5\n") annotations)
      ∙ ap (λ l. old ++ (first ++ l)) (line_of_three (codes "    expr: gen:") (decimal (r - 1)) (codes ":c > 0.5") annotations)
