-- A rule whose built world would go into an expression that has no sample, with a text for each label: there is no world, by computation.
use Rattle.std.proofs.Common.{◌≡◌, ◌&&◌, Bool, true, false, [], ◌∷◌, Option, Some, None, cond, is_some, codes, ap, refl}
use Rattle.std.specs.Fmt.{digits}
use Rattle.std.specs.List.{list_all}
use Rattle.lf_ast.specs.Labels.{Bytes}
use Rattle.lf_ast.specs.Rules.{RuleTree}
use Rattle.lf_ast.specs.Selectors.{metric}
use Rattle.lf_ast.specs.Tree.{Tree}
use Rattle.lf_ast.specs.declared.expr.Agg.TheVariants.{Sum}
use Rattle.lf_ast.specs.declared.expr.Grouping.TheVariants.{None as Ungrouped}
use Rattle.lf_ast.specs.declared.expr.MatchOp.TheVariants.{Equal}
use Rattle.lf_ast.specs.declared.expr.Op.TheVariants.{And, Or}
use Rattle.lf_semantics.specs.ClassRows.{Sets, is_live}
use Rattle.lf_semantics.specs.Environments.{rule_row}
use Rattle.lf_semantics.specs.Listing.{Listing, universe_of}
use Rattle.lf_semantics.proofs.Written.{aggregate, alone, asks, between, paren, selector, unmodified}
use Rattle.lf_trials.specs.Building.{Building}
use Rattle.lf_trials.specs.Built.{building_of}
use Rattle.lf_trials.specs.Candidates.{labels_in}
use Rattle.lf_trials.specs.Forks.{has_own_fork}
use Rattle.lf_trials.specs.Given.{Given, completed, completed_by}
use Rattle.lf_trials.specs.Verdicts.{leaves}
use Rattle.lf_trials.proofs.WorkedBuilt.{labelled}

-- an empty row completes no texts, whatever they are
pub empty_completes_none : (u : Listing) (row : Sets) (D : Given) → is_live row ≡ false → completed u row D ≡ None
empty_completes_none u row D empty = ap (λ (live : Bool). cond (live && list_all (λ name. is_some (completed_by u row D name)) (labels_in u)) (Some (completed_by u row D)) None) empty

-- a selector with a text of `a`
abbrev pub of_a : Bytes → Bytes → Tree
of_a name text = selector name (asks (codes "a") Equal text ∷ [])

-- `foo{a="1",a="2"}` has no sample
abbrev pub never : Tree
never = selector (codes "foo") (asks (codes "a") Equal (codes "1") ∷ asks (codes "a") Equal (codes "2") ∷ [])

-- `bar{a="1"} or foo{a="1",a="2"}`
abbrev pub either : Tree
either = between Or unmodified (of_a (codes "bar") (codes "1")) never

-- `foo{a=""} or (bar{a="1"} or foo{a="1",a="2"})`
abbrev pub left : Tree
left = between Or unmodified (of_a (codes "foo") []) (paren either)

-- `(foo{a=""} or (bar{a="1"} or foo{a="1",a="2"})) and bar{a="1"}`
abbrev pub conjoined : Tree
conjoined = between And unmodified (paren left) (of_a (codes "bar") (codes "1"))

-- `r:r` is `((foo{a=""} or (bar{a="1"} or foo{a="1",a="2"})) and bar{a="1"}) or sum(zzz)`
abbrev pub rule : RuleTree
rule = alone (between Or unmodified (paren conjoined) (aggregate Sum Ungrouped (selector (codes "zzz") [] ∷ [])))

abbrev pub u : Listing
u = record { names = metric ∷ codes "a" ∷ []; named = (codes "foo" ∷ codes "bar" ∷ codes "zzz" ∷ codes "r:r" ∷ []) ∷ (codes "1" ∷ codes "2" ∷ []) ∷ [] ∷ [] }

universe : universe_of (rule ∷ []) ≡ u
universe = refl

abbrev shown : Bool → Option Building
shown presence = building_of u [] (rule ∷ []) (has_own_fork (rule ∷ [])) 0 rule metric presence

-- the row leaves both presences of the name
leaves_name : leaves u (rule_row u [] rule) metric true ≡ true
leaves_name = refl

leaves_no_name : leaves u (rule_row u [] rule) metric false ≡ true
leaves_no_name = refl

-- With the name `foo` the left side of `and` is built from `1` as the text of `a`, and there from the last selector, as neither of the rows before it holds these texts. Each
-- label has a text then, and yet there is no world, as that selector's row is empty
pub no_name_is_built : shown true ≡ None
unfolding digits
no_name_is_built = refl

pub without_name : shown false ≡ Some (record { series = labelled ((metric, codes "zzz") ∷ []) ∷ []; steps = []; selectors = 1 })
unfolding digits
without_name = refl
