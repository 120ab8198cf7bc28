use Rattle.std.proofs.Common.{sym, refl, subst, length, ◌≤◌}
use Rattle.std.specs.Str.{IsCharBoundary, IsUtf8}
use Rattle.std.proofs.lemmas.Str.{IsUtf8-take, IsUtf8-had}
use Rattle.lf_base.specs.Answers.{AnswersAs}
use Rattle.lf_scalar.specs.Scalars.{value as scalar_value}
use Rattle.lf_yaml.specs.reading.Trees.{key_of}
use Rattle.lf_yaml.specs.views.Headed.{key_of_code, IsKeyIn}
use Rattle.lf_yaml.specs.views.Shown.{shown}
use Rattle.lf_yaml.specs.declared.entries.Key.{Key}
use Rattle.lf_yaml.proofs.Ascents.{bare-key}
use Rattle.lf_yaml.proofs.Cuts.{row-utf8}
use Rattle.lf_yaml.proofs.held.key_scalar.Goals as goal

pub returns-in-Bare : goal.returns-in-Bare
returns-in-Bare c =
    let cut : IsCharBoundary c.args.row.text.now c.in-Bare.len = subst (λ (k : Key). IsKeyIn c.args.row.at c.args.row.text.now k) c.in-Bare.is c.requires.key in
    let le : c.in-Bare.len ≤ length c.args.row.text.now = cut.0 in
    subst (λ (k : Key). AnswersAs scalar_value c.slice_scalar.result (key_of (shown c.args.row).first (shown c.args.row).rest (key_of_code c.args.row.at c.args.row.text.now k))) (sym c.in-Bare.is)
    (subst (AnswersAs scalar_value c.slice_scalar.result) (bare-key (shown c.args.row).first (shown c.args.row).rest c.args.row.at c.in-Bare.len c.before-in-Bare.result.now c.args.row.text.now refl le c.before-in-Bare.ensures) c.slice_scalar.ensures)

pub slice_scalar-requires-clause-utf8 : goal.slice_scalar-requires-clause-utf8
slice_scalar-requires-clause-utf8 c =
    let cut : IsCharBoundary c.args.row.text.now c.in-Bare.len = subst (λ (k : Key). IsKeyIn c.args.row.at c.args.row.text.now k) c.in-Bare.is c.requires.key in
    subst IsUtf8 (sym c.before-in-Bare.ensures) (IsUtf8-take c.args.row.text.now c.in-Bare.len (row-utf8 c.args.source.bytes.now c.args.row (IsUtf8-had c.args.source.bytes.now c.args.source.utf8) c.args.row.full c.requires.row) cut)
