-- The definitions on small cases, by computation.
use Rattle.std.proofs.Common.{◌≡◌, [], ◌∷◌, codes, refl}
use Rattle.std.specs.Fmt.{digits}
use Rattle.lf_gen.specs.Generated.{generated, lines_of_rule}
use Rattle.lf_gen.specs.Lines.{last_lines}

one : generated 1 ≡ codes "groups:\n- name: g0\n  rules:\n  - record: gen:0:a\n    expr: sum by (job, shard) (m_0{env=\"p\"})\n"
unfolding digits
one = refl

five : generated 5
    ≡ codes "groups:\n- name: g0\n  rules:\n  - record: gen:0:a\n    expr: sum by (job, shard) (m_0{env=\"p\"})\n  - record: gen:1:b\n    expr: sum without (shard) (gen:0:a)\n  - record: gen:2:c\n    expr: gen:1:b / on (job) m_2\n  - alert: Gen3\n    expr: gen:2:c > 0.5\n    annotations:\n      summary: \"{{ $labels.job }} of {{ $labels.shard }}\"\n  - record: gen:4:a\n    expr: sum by (job, shard) (m_4{env=\"p\"})\n"
unfolding digits
five = refl

-- a group has a hundred rules
last_of_group : lines_of_rule 99 ≡ codes "  - alert: Gen99" ∷ codes "    expr: gen:98:c > 0.5" ∷ codes "    annotations:" ∷ codes "      summary: \"{{ $labels.job }} of {{ $labels.shard }}\"" ∷ []
unfolding digits
last_of_group = refl

first_of_next : lines_of_rule 100 ≡ codes "- name: g1" ∷ codes "  rules:" ∷ codes "  - record: gen:100:a" ∷ codes "    expr: sum by (job, shard) (m_100{env=\"p\"})" ∷ []
unfolding digits
first_of_next = refl

last_rule : lines_of_rule 3999 ≡ codes "  - alert: Gen3999" ∷ codes "    expr: gen:3998:c > 0.5" ∷ codes "    annotations:" ∷ codes "      summary: \"{{ $labels.job }} of {{ $labels.shard }}\"" ∷ []
unfolding digits
last_rule = refl

-- the last two lines

of_three : last_lines 2 (codes "a\nbc\nd\n") ≡ codes "bc\nd\n"
of_three = refl

of_two : last_lines 2 (codes "a\nb\n") ≡ codes "a\nb\n"
of_two = refl

of_one : last_lines 2 (codes "a\n") ≡ codes "a\n"
of_one = refl

of_none : last_lines 2 [] ≡ []
of_none = refl

of_empty_lines : last_lines 2 (codes "a\n\n\n") ≡ codes "\n\n"
of_empty_lines = refl

of_a_line_without_end : last_lines 2 (codes "a\nb\nc") ≡ codes "b\nc"
of_a_line_without_end = refl
