-- Worked recording rules, by computation: what the universe is, and which environments are post-fixed points.
use Rattle.std.proofs.Common.{◌≡◌, true, false, List, [], ◌∷◌, codes, refl}
use Rattle.lf_ast.specs.Rules.{RuleTree}
use Rattle.lf_ast.specs.Selectors.{metric}
use Rattle.lf_semantics.specs.ClassRows.{Sets, bottom}
use Rattle.lf_semantics.specs.Environments.{recorded_names, recorded_row, rule_row}
use Rattle.lf_semantics.specs.Listing.{Listing, universe_of}
use Rattle.lf_semantics.specs.RowTable.{Environment}
use Rattle.lf_semantics.proofs.Written.{Impossible, Possible, record_rule, selector, sum_by, verdicts}

-- `a:one` is `sum by (job, env) (x)`, `a:two` is `a:one` without `env`, and `a:three` is `sum by (job, env) (a:two)`
abbrev one : RuleTree
one = record_rule (codes "a:one") [] (sum_by (codes "job" ∷ codes "env" ∷ []) (selector (codes "x") []))

abbrev two : RuleTree
two = record_rule (codes "a:two") ((codes "env", []) ∷ []) (selector (codes "a:one") [])

abbrev three : RuleTree
three = record_rule (codes "a:three") [] (sum_by (codes "job" ∷ codes "env" ∷ []) (selector (codes "a:two") []))

abbrev chain : List RuleTree
chain = one ∷ two ∷ three ∷ []

chain_universe : universe_of chain
    ≡ record {
      names = metric ∷ codes "job" ∷ codes "env" ∷ [];
      named = (codes "x" ∷ codes "a:one" ∷ codes "a:two" ∷ codes "a:three" ∷ []) ∷ [] ∷ [] ∷ [] ∷ [];
    }
chain_universe = refl

chain_names : recorded_names chain ≡ codes "a:one" ∷ codes "a:two" ∷ codes "a:three" ∷ []
chain_names = refl

abbrev u : Listing
u = record { names = metric ∷ codes "job" ∷ codes "env" ∷ []; named = (codes "x" ∷ codes "a:one" ∷ codes "a:two" ∷ codes "a:three" ∷ []) ∷ [] ∷ [] ∷ [] ∷ [] }

-- the classes of the name are the empty text, the four names, and any other
abbrev row_one : Sets
row_one = (false ∷ false ∷ true ∷ false ∷ false ∷ false ∷ []) ∷ (true ∷ true ∷ []) ∷ (true ∷ true ∷ []) ∷ (true ∷ false ∷ []) ∷ []

abbrev row_two : Sets
row_two = (false ∷ false ∷ false ∷ true ∷ false ∷ false ∷ []) ∷ (true ∷ true ∷ []) ∷ (true ∷ false ∷ []) ∷ (true ∷ false ∷ []) ∷ []

abbrev row_three : Sets
row_three = (false ∷ false ∷ false ∷ false ∷ true ∷ false ∷ []) ∷ (true ∷ true ∷ []) ∷ (true ∷ false ∷ []) ∷ (true ∷ false ∷ []) ∷ []

abbrev env : Environment
env = (codes "a:one", row_one) ∷ (codes "a:two", row_two) ∷ (codes "a:three", row_three) ∷ []

records_one : recorded_row u env one ≡ row_one
records_one = refl

records_two : recorded_row u env two ≡ row_two
records_two = refl

records_three : recorded_row u env three ≡ row_three
records_three = refl

says_of_three : verdicts (rule_row u env three) ≡ Impossible ∷ Possible ∷ Impossible ∷ Impossible ∷ []
says_of_three = refl

-- `a:t` is `sum by (job) (a:t)` alone: the empty row is a post-fixed point
abbrev itself : RuleTree
itself = record_rule (codes "a:t") [] (sum_by (codes "job" ∷ []) (selector (codes "a:t") []))

abbrev alone_u : Listing
alone_u = record { names = metric ∷ codes "job" ∷ []; named = (codes "a:t" ∷ []) ∷ [] ∷ [] ∷ [] }

alone_universe : universe_of (itself ∷ []) ≡ alone_u
alone_universe = refl

records_nothing : recorded_row alone_u ((codes "a:t", bottom alone_u) ∷ []) itself ≡ bottom alone_u
records_nothing = refl

-- with a second rule `a:t`, which is `sum by (job, env) (x)`, the row of `a:t` has what it records, and what the first one makes of that
abbrev other : RuleTree
other = record_rule (codes "a:t") [] (sum_by (codes "job" ∷ codes "env" ∷ []) (selector (codes "x") []))

abbrev both_u : Listing
both_u = record { names = metric ∷ codes "job" ∷ codes "env" ∷ []; named = (codes "a:t" ∷ codes "x" ∷ []) ∷ [] ∷ [] ∷ [] ∷ [] }

both_universe : universe_of (itself ∷ other ∷ []) ≡ both_u
both_universe = refl

abbrev row_t : Sets
row_t = (false ∷ true ∷ false ∷ false ∷ []) ∷ (true ∷ true ∷ []) ∷ (true ∷ true ∷ []) ∷ (true ∷ false ∷ []) ∷ []

records_other : recorded_row both_u ((codes "a:t", row_t) ∷ []) other ≡ row_t
records_other = refl

says_of_itself : verdicts (rule_row both_u ((codes "a:t", row_t) ∷ []) itself) ≡ Impossible ∷ Possible ∷ Impossible ∷ Impossible ∷ []
says_of_itself = refl
