-- The built world of a worked ratio: what its pattern, which isn't plain, matches is taken from regex's definition.
use Rattle.std.proofs.Common.{◌≡◌, ◌∙◌, Bool, true, false, cond, not, List, [], ◌∷◌, Some, None, codes, refl, ap, option_and_then}
use Rattle.std.specs.Char.{encode_utf8}
use Rattle.std.specs.List.{find}
use Rattle.std.specs.Fmt.{digits}
use Rattle.std.specs.Str.{chars}
use Rattle.lf_ast.specs.Functions.{function_named, functions}
use Rattle.lf_ast.specs.Labels.{Bytes}
use Rattle.lf_ast.specs.Rules.{RuleTree}
use Rattle.lf_ast.specs.Selectors.{metric}
use Rattle.lf_ast.specs.Tree.{Tree, Call, Nil, Next}
use Rattle.lf_ast.specs.declared.expr.Group.TheVariants.{One}
use Rattle.lf_ast.specs.declared.expr.Grouping.TheVariants.{By}
use Rattle.lf_ast.specs.declared.expr.Matching.{Matching}
use Rattle.lf_ast.specs.declared.expr.MatchOp.TheVariants.{Matches}
use Rattle.lf_ast.specs.declared.expr.Op.TheVariants.{Divide}
use Rattle.lf_pattern.specs.Matching.{matches}
use Rattle.lf_pattern.specs.Plain.{is_escapable, is_special}
use Rattle.lf_pattern.specs.Scan.{scanned}
use Rattle.lf_pattern.specs.ShapeScan.{stepped}
use Rattle.lf_semantics.specs.ClassRows.{Sets}
use Rattle.lf_semantics.specs.Grouped.{is_grouped_by, is_metric}
use Rattle.lf_semantics.specs.Listing.{Listing, universe_of}
use Rattle.lf_semantics.specs.RowTable.{Environment, combined_row, grouped_row, nameless, row_of}
use Rattle.lf_semantics.proofs.Written.{asks, between, matching, names, over_time, place_at, record_rule, sum_by}
use Rattle.lf_trials.specs.Building.{Builder, Building, and_then, both}
use Rattle.lf_trials.specs.Built.{build, build_by_rule, builder, building_of, start_text}
use Rattle.lf_trials.specs.Matched.{build_match, side}
use Rattle.lf_trials.specs.Candidates.{candidates_in, has_presence}
use Rattle.lf_trials.specs.Forks.{has_own_fork}
use Rattle.lf_trials.specs.Given.{Given, completed, completed_by, giving, losing, nothing_given}
use Rattle.lf_trials.specs.Sides.{left_gives, right_gives}
use Rattle.lf_trials.proofs.WorkedBuilt.{labelled}

-- what an expression without a fork is built from, by its row
handed_by : (u : Listing) (env : Environment) (rules : List RuleTree) (holds_fork : Tree → Bool) (e : Tree) (b : Builder) (row : Sets) (D : Given)
    → holds_fork e ≡ false → row_of u env e ≡ row → build u env rules holds_fork e b D ≡ option_and_then b (completed u row D)
handed_by u env rules holds_fork e b row D none is =
    ap (λ fork. option_and_then b (cond fork (Some D) (completed u (row_of u env e) D))) none ∙ ap (λ row. option_and_then b (completed u row D)) is

abbrev job : Bytes
job = codes "job"

-- `r:r` is `sum by (job) (rate(x{code=~"5.."}[5m])) / sum by (job) (rate(x[5m]))`
abbrev rate : Tree → Tree
rate e = Call (codes "rate") (Next e Nil) (place_at 20)

abbrev failed : Tree
failed = over_time (codes "x") (asks (codes "code") Matches (codes "5..") ∷ [])

abbrev errors : Tree
errors = sum_by (job ∷ []) (rate failed)

abbrev requests : Tree
requests = sum_by (job ∷ []) (rate (over_time (codes "x") []))

abbrev plain : Matching
plain = matching false None None One []

abbrev pub ratio : RuleTree
ratio = record_rule (codes "r:r") [] (between Divide plain errors requests)

abbrev pub ratio_u : Listing
ratio_u = record { names = metric ∷ job ∷ codes "code" ∷ []; named = (codes "x" ∷ codes "r:r" ∷ []) ∷ [] ∷ (codes "500" ∷ codes "5aa" ∷ []) ∷ [] ∷ [] }

abbrev row : List Bool → List Bool → List Bool → Sets
row name code others = name ∷ (true ∷ true ∷ []) ∷ code ∷ others ∷ []

-- of the name the empty text, the two names and any other, of the code the empty text, `500`, `5aa` and any other
abbrev failed_sets : Sets
failed_sets = row (false ∷ true ∷ false ∷ false ∷ []) (false ∷ true ∷ true ∷ true ∷ []) (true ∷ true ∷ [])

abbrev rate_sets : Sets
rate_sets = row (true ∷ false ∷ false ∷ false ∷ []) (false ∷ true ∷ true ∷ true ∷ []) (true ∷ true ∷ [])

abbrev errors_sets : Sets
errors_sets = row (true ∷ false ∷ false ∷ false ∷ []) (true ∷ false ∷ false ∷ false ∷ []) (true ∷ false ∷ [])

abbrev requests_sets : Sets
requests_sets = errors_sets

abbrev ratio_sets : Sets
ratio_sets = errors_sets

module _ (nothing : matches (codes "5..") [] ≡ false) (low : matches (codes "5..") (codes "500") ≡ true) (high : matches (codes "5..") (codes "5aa") ≡ true) where
  ratio_universe : universe_of (ratio ∷ []) ≡ ratio_u
  unfolding function_named functions chars scanned is_special is_escapable encode_utf8 stepped
  ratio_universe = simp (low, high) refl

  failed_row : row_of ratio_u [] failed ≡ failed_sets
  unfolding chars scanned is_special is_escapable encode_utf8 stepped
  failed_row = simp (nothing, low, high) refl

  rate_row : row_of ratio_u [] (rate failed) ≡ rate_sets
  unfolding function_named functions
  rate_row = ap (nameless ratio_u) failed_row

  errors_row : row_of ratio_u [] errors ≡ errors_sets
  unfolding function_named functions
  errors_row = ap (grouped_row ratio_u (By (names 8 (job ∷ [])))) rate_row

  ratio_row : row_of ratio_u [] ratio.expr ≡ ratio_sets
  unfolding function_named functions
  ratio_row = ap (λ left. combined_row ratio_u Divide plain left (row_of ratio_u [] requests)) errors_row

  abbrev builds : Tree → Builder
  builds = builder ratio_u [] (ratio ∷ []) (has_own_fork (ratio ∷ [])) (build_by_rule ratio_u [] (ratio ∷ []) (has_own_fork (ratio ∷ [])) 1 (0 ∷ []))

  -- with the row of an expression in place of it
  abbrev built : Tree → Builder
  built e = build ratio_u [] (ratio ∷ []) (has_own_fork (ratio ∷ [])) e (builds e)

  by_row : (e : Tree) (sets : Sets) (D : Given) → has_own_fork (ratio ∷ []) e ≡ false → row_of ratio_u [] e ≡ sets → built e D ≡ option_and_then (builds e) (completed ratio_u sets D)
  by_row e sets D = handed_by ratio_u [] (ratio ∷ []) (has_own_fork (ratio ∷ [])) e (builds e) sets D

  abbrev series_failed : Building
  series_failed = record { series = labelled ((metric, codes "x") ∷ (job, codes "v1") ∷ (codes "code", codes "500") ∷ []) ∷ []; steps = []; selectors = 1 }

  abbrev series_all : Building
  series_all = record { series = labelled ((metric, codes "x") ∷ (job, codes "v1") ∷ []) ∷ []; steps = []; selectors = 1 }

  -- what each expression is built from
  abbrev whole : Given
  whole = completed_by ratio_u ratio_sets (giving job (codes "v1") nothing_given)

  abbrev of_errors : Given
  of_errors = side ratio_u (left_gives Divide plain) Divide plain errors_sets requests_sets whole

  abbrev of_rate : Given
  of_rate = losing (λ name. not (is_grouped_by (By (names 8 (job ∷ []))) name)) (completed_by ratio_u errors_sets of_errors)

  abbrev of_failed : Given
  of_failed = losing is_metric (completed_by ratio_u rate_sets of_rate)

  build_failed : built failed of_failed ≡ Some series_failed
  unfolding digits
  build_failed = by_row failed failed_sets of_failed refl failed_row

  build_rate : built (rate failed) of_rate ≡ Some series_failed
  unfolding function_named functions digits
  build_rate = by_row (rate failed) rate_sets of_rate refl rate_row ∙ build_failed

  build_errors : built errors of_errors ≡ Some series_failed
  unfolding function_named functions digits
  build_errors = by_row errors errors_sets of_errors refl errors_row ∙ build_rate

  abbrev of_requests : Given
  of_requests = side ratio_u (right_gives Divide plain) Divide plain errors_sets requests_sets whole

  build_requests : built requests of_requests ≡ Some series_all
  unfolding function_named functions digits
  build_requests = refl

  start : start_text ratio_u [] (ratio ∷ []) (has_own_fork (ratio ∷ [])) ratio job true ≡ Some (codes "v1")
  unfolding function_named functions digits
  start = ap (λ (sets : Sets). find (has_presence true) (candidates_in ratio_u sets job)) ratio_row

  -- the sides by their rows
  by_sides : builds ratio.expr whole ≡ and_then (built errors of_errors) (built requests of_requests)
  unfolding function_named functions digits
  by_sides =
      ap (λ (left : Sets). build_match ratio_u Divide plain left requests_sets (built errors) (built requests) whole) errors_row

  build_sides : builds ratio.expr whole ≡ Some (both series_failed series_all)
  build_sides = by_sides ∙ ap (λ left. and_then left (built requests of_requests)) build_errors ∙ ap (and_then (Some series_failed)) build_requests

  -- the series that errors are counted from, and then the one for all requests
  pub ratio_with_job : building_of ratio_u [] (ratio ∷ []) (has_own_fork (ratio ∷ [])) 0 ratio job true
      ≡ Some (record { series = labelled ((metric, codes "x") ∷ (job, codes "v1") ∷ (codes "code", codes "500") ∷ []) ∷ labelled ((metric, codes "x") ∷ (job, codes "v1") ∷ []) ∷ []; steps = []; selectors = 2 })
  unfolding function_named functions
  ratio_with_job = ap (option_and_then (λ text. built ratio.expr (giving job text nothing_given))) start ∙ by_row ratio.expr ratio_sets (giving job (codes "v1") nothing_given) refl ratio_row ∙ build_sides
