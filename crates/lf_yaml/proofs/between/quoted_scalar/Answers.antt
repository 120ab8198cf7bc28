use Rattle.std.proofs.Common.{◌∙◌, ◌+◌, ap, sym, List, ℕ, length, subst, take, get_or, arith}
use Rattle.std.specs.Str.{IsUtf8}
use Rattle.std.proofs.lemmas.Str.{IsUtf8-had}
use Rattle.lf_scalar.specs.declared.scalar.Style.{Style}
use Rattle.lf_base.specs.Answers.{AnswersAs}
use Rattle.lf_scalar.specs.Scalars.{source_at, value as scalar_value, BeginsAt}
use Rattle.lf_scalar.specs.reading.Styles.{reading}
use Rattle.lf_yaml.proofs.ReadScalars.{gives-reading, cut-utf8, cut-begins, cut-reading}
use Rattle.lf_yaml.proofs.between.quoted_scalar.Goals as goal

pub read_scalar-requires-clause-text : goal.read_scalar-requires-clause-text
read_scalar-requires-clause-text c =
    subst IsUtf8 (sym c.before-cut.ensures)
    (cut-utf8 c.args.quote c.args.source.bytes.now c.args.inside.now c.args.at c.args.closing (get_or c.args.source.bytes.now c.args.at 0) (IsUtf8-had c.args.source.bytes.now c.args.source.utf8) c.requires.inside c.requires.closing c.requires.within c.requires.closes)

pub read_scalar-requires-clause-begins : goal.read_scalar-requires-clause-begins
read_scalar-requires-clause-begins c =
    subst (λ (xs : List ℕ). BeginsAt xs c.args.at c.style_of.result) (sym c.before-cut.ensures)
    (subst (λ (s : Style). BeginsAt (take (c.args.at + c.args.closing + 2) c.args.source.bytes.now) c.args.at s) (sym c.style_of.ensures)
    (cut-begins c.args.quote c.args.source.bytes.now c.args.inside.now c.args.at c.args.closing (get_or c.args.source.bytes.now c.args.at 0) c.requires.inside c.requires.closing c.requires.within c.requires.quote))

pub returns : goal.returns
returns c =
    let b : BeginsAt c.before-cut.result.now c.args.at c.style_of.result =
    subst (λ (xs : List ℕ). BeginsAt xs c.args.at c.style_of.result) (sym c.before-cut.ensures)
    (subst (λ (s : Style). BeginsAt (take (c.args.at + c.args.closing + 2) c.args.source.bytes.now) c.args.at s) (sym c.style_of.ensures)
    (cut-begins c.args.quote c.args.source.bytes.now c.args.inside.now c.args.at c.args.closing (get_or c.args.source.bytes.now c.args.at 0) c.requires.inside c.requires.closing c.requires.within c.requires.quote)) in
    subst (AnswersAs scalar_value c.read_scalar.result)
    (ap (λ (xs : List ℕ). reading c.style_of.result 0 (length xs) (source_at xs c.args.at)) c.before-cut.ensures
    ∙ ap (λ (s : Style). reading s 0 (length (take (c.args.at + c.args.closing + 2) c.args.source.bytes.now)) (source_at (take (c.args.at + c.args.closing + 2) c.args.source.bytes.now) c.args.at)) c.style_of.ensures
    ∙ cut-reading c.args.quote c.args.source.bytes.now c.args.inside.now c.args.at c.args.closing (get_or c.args.source.bytes.now c.args.at 0) c.requires.inside c.requires.closing (omega (arith, c.requires.within, c.requires.closing)))
    (gives-reading scalar_value c.style_of.result 0 (length c.before-cut.result.now) (source_at c.before-cut.result.now c.args.at) c.read_scalar.result b.1 c.read_scalar.ensures.only c.read_scalar.ensures.breach)
