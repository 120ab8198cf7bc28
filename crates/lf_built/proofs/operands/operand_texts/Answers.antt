use Rattle.std.proofs.Common.{◌≡◌, ◌||◌, ◌≤◌, ℕ, Bool, List, [], ◌∷◌, not, map, Option, Some, length, refl, sym, ap, subst, ◌∙◌, arith}
use Rattle.std.specs.Str.{bytes_eq}
use Rattle.std.proofs.lemmas.List.{length-map}
use Rattle.lf_ast.specs.Arguments.{text_at, texts_of}
use Rattle.lf_ast.specs.Labels.{Bytes}
use Rattle.lf_ast.specs.Tree.{trees}
use Rattle.lf_ast.specs.declared.expr.Expr.{Expr}
use Rattle.lf_ast.specs.declared.expr.Grouping.{Grouping}
use Rattle.lf_ast.specs.declared.functions.LabelEffect.{LabelEffect}
use Rattle.lf_ast.specs.declared.functions.LabelEffect.TheVariants.{CountValues, Date, Groups}
use Rattle.lf_semantics.specs.Grouped.{is_grouped_by}
use Rattle.lf_semantics.specs.Listing.{Listing}
use Rattle.lf_trials.specs.Candidates.{labels_in}
use Rattle.lf_trials.specs.Given.{Given}
use Rattle.lf_trials.specs.Operands.{effect_texts, losing_name}
use Rattle.lf_candidates.specs.views.ClassTexts.{Stands, StandsFor}
use Rattle.lf_built.specs.views.Marking.{effect_lost}
use Rattle.lf_built.proofs.operands.operand_texts.Goals as goal

dated : (u : Listing) (args : List Expr) (texts : List (Option ℕ)) (grouping : Grouping) (D : Given) → 1 ≤ length args → Stands u texts (losing_name D) → StandsFor u (Some texts) (effect_texts Date grouping (trees args) D)
dated u [] texts grouping D some stands = absurd (omega (arith, some))
dated u (x ∷ xs) texts grouping D some stands = stands

-- of each label it is marked whether a group loses it

grouped : (names own : List Bytes) (effect : LabelEffect) (grouping : Grouping) (args : List Expr) (marks : List Bool) → effect ≡ Groups → names ≡ own → marks ≡ effect_lost names effect grouping (trees args) → marks ≡ map (λ name. not (is_grouped_by grouping name)) own
grouped names own effect grouping args marks is named e = e ∙ ap (λ (x : LabelEffect). effect_lost names x grouping (trees args)) is ∙ ap (λ (ns : List Bytes). effect_lost ns Groups grouping (trees args)) named

counted : (names own : List Bytes) (effect : LabelEffect) (grouping : Grouping) (args : List Expr) (marks : List Bool) → effect ≡ CountValues → names ≡ own → marks ≡ effect_lost names effect grouping (trees args)
    → marks ≡ map (λ name. bytes_eq name (text_at (texts_of (trees args)) 0) || not (is_grouped_by grouping name)) own
counted names own effect grouping args marks is named e = e ∙ ap (λ (x : LabelEffect). effect_lost names x grouping (trees args)) is ∙ ap (λ (ns : List Bytes). effect_lost ns CountValues grouping (trees args)) named

pub without_marked-requires : goal.without_marked-requires
without_marked-requires c =
    let names = c.args.names.now in
    let lost = c.requires.lost in
    let many = ap length (grouped names names c.args.effect lost.0 c.args.args.now c.args.lost.now c.in-Groups.is refl lost.1) ∙ length-map names (λ name. not (is_grouped_by lost.0 name)) in
    omega (arith, many, c.requires.count)

pub without_marked-requires-in-CountValues : goal.without_marked-requires-in-CountValues
without_marked-requires-in-CountValues c =
    let names = c.args.names.now in
    let args = c.args.args.now in
    let lost = c.requires.lost in
    let many = ap length (counted names names c.args.effect lost.0 args c.args.lost.now c.in-CountValues.is refl lost.1) ∙ length-map names (λ name. bytes_eq name (text_at (texts_of (trees args)) 0) || not (is_grouped_by lost.0 name)) in
    omega (arith, many, c.requires.count)

pub returns-in-Groups : goal.returns-in-Groups
returns-in-Groups c = λ grouping D marks stands.
    let u = c.args.universe.now in
    let args = c.args.args.now in
    let marked = grouped c.args.names.now (labels_in u) c.args.effect grouping args c.args.lost.now c.in-Groups.is c.requires.names marks in
    let made = c.without_marked.ensures u (λ name. not (is_grouped_by grouping name)) D c.requires.universe marked stands in
    subst (λ (e : LabelEffect). StandsFor u (Some c.without_marked.result) (effect_texts e grouping (trees args) D)) (sym c.in-Groups.is) made

pub returns-in-CountValues : goal.returns-in-CountValues
returns-in-CountValues c = λ grouping D marks stands.
    let u = c.args.universe.now in
    let args = c.args.args.now in
    let marked = counted c.args.names.now (labels_in u) c.args.effect grouping args c.args.lost.now c.in-CountValues.is c.requires.names marks in
    let made = c.without_marked-in-CountValues.ensures u (λ name. bytes_eq name (text_at (texts_of (trees args)) 0) || not (is_grouped_by grouping name)) D c.requires.universe marked stands in
    subst (λ (e : LabelEffect). StandsFor u (Some c.without_marked-in-CountValues.result) (effect_texts e grouping (trees args) D)) (sym c.in-CountValues.is) made

pub returns-in-len1-up : goal.returns-in-len1-up
returns-in-len1-up c = λ grouping D marks stands.
    let u = c.args.universe.now in
    let made = c.without_name-in-len1-up.ensures.texts u D c.requires.universe c.requires.names stands in
    subst (λ (e : LabelEffect). StandsFor u (Some c.without_name-in-len1-up.result) (effect_texts e grouping (trees c.args.args.now) D)) (sym c.in-Date.is)
    (dated u c.args.args.now c.without_name-in-len1-up.result grouping D c.in-len1-up.len_at_least made)

pub returns-in-HistogramQuantile : goal.returns-in-HistogramQuantile
returns-in-HistogramQuantile c = λ grouping D marks stands.
    subst (λ (e : LabelEffect). StandsFor c.args.universe.now (Some c.last_bucket.result) (effect_texts e grouping (trees c.args.args.now) D)) (sym c.in-HistogramQuantile.is) (c.last_bucket.ensures D stands)
