-- What the operand of a function, an aggregation, a sign or an operator with a scalar is built from. What the result doesn't take from the operand is lost.
use Rattle.std.specs.Prelude.{ℕ, Bool, true, false, not, ◌||◌, Option, Some, None, codes}
use Rattle.std.specs.Option.{option_map_or}
use Rattle.std.specs.Str.{bytes_eq}
use Rattle.lf_ast.specs.Arguments.{text_at, texts_of}
use Rattle.lf_ast.specs.Functions.{Signature}
use Rattle.lf_ast.specs.Tree.{Trees, Nil, Next}
use Rattle.lf_ast.specs.declared.expr.Grouping.{Grouping}
use Rattle.lf_ast.specs.declared.functions.LabelEffect.{LabelEffect}
use Rattle.lf_ast.specs.declared.functions.LabelEffect.TheVariants.{Maps, Keeps, Groups, CountValues, Date, Absent, LabelReplace, LabelJoin, HistogramQuantile, Bare}
use Rattle.lf_semantics.specs.Grouped.{is_grouped_by, is_metric}
use Rattle.lf_semantics.specs.Parts.{operand_place}
use Rattle.lf_semantics.specs.Strings.{joining, replacing}
use Rattle.lf_trials.specs.Building.{Builder, nothing}
use Rattle.lf_trials.specs.Given.{Given, giving, losing}

abbrev pub losing_name : Given → Given
losing_name D = losing is_metric D

-- the texts that the operand of a function or an aggregation gets, by the effect on labels, and none where it isn't built. That of an `absent` isn't
abbrev pub effect_texts : LabelEffect → Grouping → Trees → Given → Option Given
effect_texts Maps grouping args D = Some (losing_name D)
effect_texts Keeps grouping args D = Some D
effect_texts Groups grouping args D = Some (losing (λ name. not (is_grouped_by grouping name)) D)
effect_texts CountValues grouping args D = Some (losing (λ name. bytes_eq name (text_at (texts_of args) 0) || not (is_grouped_by grouping name)) D)
effect_texts Date grouping Nil D = None
effect_texts Date grouping (Next x xs) D = Some (losing_name D)
effect_texts Absent grouping args D = None
effect_texts LabelReplace grouping args D = Some (losing (bytes_eq (replacing (texts_of args)).target) D)
effect_texts LabelJoin grouping args D = Some (losing (bytes_eq (joining (texts_of args)).target) D)
effect_texts HistogramQuantile grouping args D = Some (giving (codes "le") (codes "+Inf") (losing_name D))
effect_texts Bare grouping args D = None

-- its operand built from these texts, and nothing where it isn't built
abbrev pub build_effect : LabelEffect → Grouping → Trees → Builder → Builder
build_effect effect grouping args operand D = option_map_or operand (effect_texts effect grouping args D) nothing

abbrev pub build_call : Option Signature → Grouping → Trees → (ℕ → Builder) → Builder
build_call None grouping args argument D = None
build_call (Some s) grouping args argument D = build_effect s.labels grouping args (argument (operand_place s)) D

-- a minus sign, and arithmetic or `bool` with a scalar, drop the name
abbrev pub build_nameless_if : Bool → Builder → Builder
build_nameless_if true operand D = operand (losing_name D)
build_nameless_if false operand D = operand D
