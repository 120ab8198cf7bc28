-- What is built for each function, aggregation, sign and operator with a scalar, by the tables.
use Rattle.std.proofs.Common.{◌≡◌, ◌<◌, ℕ, Bool, true, false, not, List, length, Some, codes}
use Rattle.std.specs.List.{AllByRecursion}
use Rattle.lf_ast.specs.Labels.{Labels}
use Rattle.lf_ast.specs.Rules.{RuleTree}
use Rattle.lf_ast.specs.Tree.{Trees, Nil, Next}
use Rattle.lf_ast.specs.declared.expr.Grouping.{Grouping}
use Rattle.lf_ast.specs.declared.functions.LabelEffect.{LabelEffect}
use Rattle.lf_ast.specs.declared.functions.LabelEffect.TheVariants.{Maps, Keeps, Groups, CountValues, Date, Absent, LabelReplace, LabelJoin, HistogramQuantile, Bare}
use Rattle.lf_semantics.specs.ClassRows.{Sets}
use Rattle.lf_semantics.specs.Environments.{IsKnown}
use Rattle.lf_semantics.specs.Listing.{IsListing, Listing, label_of}
use Rattle.lf_semantics.specs.Mentions.{group_names, matchers_mentions}
use Rattle.lf_semantics.specs.Parts.{Sought, sought_in}
use Rattle.lf_semantics.specs.RowTable.{beside_scalar_row, effect_row, sign_row}
use Rattle.lf_semantics.proofs.Constructs.{shape_effect}
use Rattle.lf_semantics.proofs.EffectsRepresent.{shape_nameless}
use Rattle.lf_semantics.proofs.Numbered.{AreKnown}
use Rattle.lf_witness.specs.Strict.{IsOpenAbsent, Outcomes, StrictBesideScalar, StrictEffect, StrictSign}
use Rattle.lf_trials.specs.Building.{Builder}
use Rattle.lf_trials.specs.Operands.{build_effect, build_nameless_if}
use Rattle.lf_shown.specs.Agreement.{MetricNames}
use Rattle.lf_shown.specs.Silence.{effect_can_be_silent}
use Rattle.lf_shown.proofs.Choices.{IsSmall}
use Rattle.lf_shown.proofs.Effects.{LeavesLast, raw_absent, raw_bare, raw_grouped, raw_nameless, raw_quantile, raw_same}
use Rattle.lf_shown.proofs.Made.{IsMade, IsRaw}

module _ (u : Listing) (rules : List RuleTree) (p : IsListing u) (small : IsSmall u) (Read : MetricNames) (count : ℕ) (row : Sets) (f : List Labels → Outcomes) (b : Builder) (fork silent : Bool) (made : IsMade u rules row Read count f b fork silent) where
  -- what an effect asks of its operand
  abbrev pub EffectFits : LabelEffect → Trees → Type 0
  EffectFits CountValues args = ⊥
  EffectFits LabelReplace args = ⊥
  EffectFits LabelJoin args = ⊥
  EffectFits HistogramQuantile args = LeavesLast u rules p small Read count row f b fork silent made row × (label_of u (codes "le") < length u.names) × (fork ≡ false)
  EffectFits Absent args = (IsOpenAbsent (sought_in args) → ⊥) × (silent ≡ true)
  EffectFits _ args = Unit {0}

  pub raw_effect : (effect : LabelEffect) (grouping : Grouping) (args : Trees) → AreKnown u (group_names grouping) → ((s : Sought) → sought_in args ≡ Some s → AllByRecursion (IsKnown u) (matchers_mentions s.matchers)) → EffectFits effect args
      → IsRaw u rules (effect_row u effect grouping args row) Read count (λ X. StrictEffect effect grouping args (f X)) (build_effect effect grouping args b) fork (effect_can_be_silent effect args silent)
  raw_effect Maps grouping args known sought fit = raw_nameless u rules p small Read count row f b fork silent made (shape_nameless u p row made.shape)
  raw_effect Keeps grouping args known sought fit = raw_same u rules p small Read count row f b fork silent made
  raw_effect Groups grouping args known sought fit = raw_grouped u rules p small Read count row f b fork silent made grouping known (shape_effect u p Groups grouping args row made.shape)
  raw_effect CountValues grouping args known sought fit = absurd fit
  raw_effect Date grouping Nil known sought fit = raw_bare u rules p small Read count row f b fork silent made fork
  raw_effect Date grouping (Next x xs) known sought fit = raw_nameless u rules p small Read count row f b fork silent made (shape_nameless u p row made.shape)
  raw_effect Absent grouping args known sought fit = raw_absent u rules p small Read count row f b fork silent made (sought_in args) fit.0 sought fit.1 (shape_effect u p Absent grouping args row made.shape)
  raw_effect LabelReplace grouping args known sought fit = absurd fit
  raw_effect LabelJoin grouping args known sought fit = absurd fit
  raw_effect HistogramQuantile grouping args known sought fit = raw_quantile u rules p small Read count row f b fork silent made fit.0 fit.1 fit.2 (shape_effect u p HistogramQuantile grouping args row made.shape)
  raw_effect Bare grouping args known sought fit = raw_bare u rules p small Read count row f b fork silent made fork

  pub raw_sign : (minus : Bool) → IsRaw u rules (sign_row u minus row) Read count (λ X. StrictSign minus (f X)) (build_nameless_if minus b) fork silent
  raw_sign true = raw_nameless u rules p small Read count row f b fork silent made (shape_nameless u p row made.shape)
  raw_sign false = raw_same u rules p small Read count row f b fork silent made

  pub raw_beside : (filters : Bool) → IsRaw u rules (beside_scalar_row u filters row) Read count (λ X. StrictBesideScalar filters (f X)) (build_nameless_if (not filters) b) fork silent
  raw_beside true = raw_same u rules p small Read count row f b fork silent made
  raw_beside false = raw_nameless u rules p small Read count row f b fork silent made (shape_nameless u p row made.shape)
