use Rattle.std.proofs.Common.{◌≡◌, ◌≤◌, List, length, take, length-take, refl, ap, sym, subst, arith, ◌∙◌}
use Rattle.std.specs.Str.{IsCharBoundary, IsUtf8}
use Rattle.std.proofs.lemmas.Str.{IsUtf8-take}
use Rattle.lf_base.specs.Answers.{AnswersAs}
use Rattle.lf_scalar.specs.Cells.{Cell, cells}
use Rattle.lf_scalar.specs.Lines.{is_blank}
use Rattle.lf_scalar.specs.Folding.{trimmed}
use Rattle.lf_scalar.specs.Scalars.{value as scalar_value}
use Rattle.lf_yaml.specs.reading.Trees.{key_of, bare_key}
use Rattle.lf_yaml.specs.views.Shown.{shown}
use Rattle.lf_yaml.proofs.Ascents.{good}
use Rattle.lf_yaml.proofs.Ascents as ascents
use Rattle.lf_yaml.proofs.Cuts.{cut-before, small-within}
use Rattle.lf_yaml.proofs.KeyCode.{trimmed-key}
use Rattle.lf_yaml.proofs.flow_key.bare_scalar.Goals as goal

pub slice_scalar-requires-clause-utf8 : goal.slice_scalar-requires-clause-utf8
slice_scalar-requires-clause-utf8 c =
    let le : c.trimmed_len-len.result ≤ length c.args.part.text.now = omega (arith, c.trimmed_len-len.ensures.within, ap length c.before-2.ensures, length-take c.args.place c.args.part.text.now, c.requires.within) in
    let cut : IsCharBoundary c.args.part.text.now c.trimmed_len-len.result =
    cut-before c.args.part.text.now c.trimmed_len-len.result le
    (small-within c.args.place c.trimmed_len-len.result c.args.part.text.now c.before-2.result.now c.before-2.ensures (omega (arith, c.requires.within)) c.trimmed_len-len.ensures.within c.trimmed_len-len.ensures.ascii (λ lt. omega (arith, c.requires.sign))) in
    subst IsUtf8 (sym c.before-3.ensures) (IsUtf8-take c.args.part.text.now c.trimmed_len-len.result c.requires.utf8 cut)

pub returns : goal.returns
unfolding key_of
returns c =
    let le : c.trimmed_len-len.result ≤ length c.args.part.text.now = omega (arith, c.trimmed_len-len.ensures.within, ap length c.before-2.ensures, length-take c.args.place c.args.part.text.now, c.requires.within) in
    let same : trimmed is_blank (cells c.args.part.at (take c.args.place c.args.part.text.now)) ≡ cells c.args.part.at (take c.trimmed_len-len.result c.args.part.text.now) =
    trimmed-key c.args.part.at c.args.place c.trimmed_len-len.result c.args.part.text.now c.before-2.result.now c.before-2.ensures c.trimmed_len-len.ensures.within (c.trimmed_len-len.ensures.text c.args.part.at) in
    subst (AnswersAs scalar_value c.slice_scalar.result)
    (ascents.bare-key (shown c.args.part).first (shown c.args.part).rest c.args.part.at c.trimmed_len-len.result c.before-3.result.now c.args.part.text.now refl le c.before-3.ensures
    ∙ ap (λ (cs : List Cell). good (bare_key (shown c.args.part).first cs)) (sym same))
    c.slice_scalar.ensures
