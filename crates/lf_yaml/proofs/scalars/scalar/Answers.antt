use Rattle.std.proofs.Common.{◌∙◌, ◌≡◌, ap, length, subst, not, true, w32, to_z, of_z}
use Rattle.std.specs.Prelude.{ℤ}
use Rattle.std.proofs.Math.Facts.{to_z-of_z}
use Rattle.std.proofs.lemmas.Bool.{and_parts}
use Rattle.std.proofs.lemmas.Str.{IsUtf8-had}
use Rattle.lf_scalar.specs.declared.scalar.Style.{Style}
use Rattle.lf_base.specs.Answers.{AnswersAs}
use Rattle.lf_scalar.specs.Lines.{lines, first_text}
use Rattle.lf_scalar.specs.Scalars.{source_at, begins, least_above, value as scalar_value}
use Rattle.lf_scalar.specs.reading.Styles.{reading}
use Rattle.lf_yaml.specs.Rows.{text_of, is_left_out}
use Rattle.lf_yaml.specs.Heads.{style_of}
use Rattle.lf_yaml.specs.views.Shown.{shown}
use Rattle.lf_yaml.proofs.ReadScalars.{gives-reading}
use Rattle.lf_yaml.proofs.scalars.scalar.Goals as goal

pub read_scalar-requires-clause-text : goal.read_scalar-requires-clause-text
read_scalar-requires-clause-text c = IsUtf8-had c.args.source.bytes.now c.args.source.utf8

pub read_scalar-requires-clause-begins : goal.read_scalar-requires-clause-begins
read_scalar-requires-clause-begins c = (
  c.requires.row.boundary,
  ap (λ (s : Style). begins s (first_text (lines (length c.args.source.bytes.now) (source_at c.args.source.bytes.now c.args.row.at)))) (c.style_by.ensures c.args.row.at)
      ∙ ap (begins (style_of (shown c.args.row).first)) c.requires.row.placed ∙ (and_parts (begins (style_of (shown c.args.row).first) (text_of (shown c.args.row))) (not (is_left_out (shown c.args.row))) c.requires.begins).0,
)

pub returns : goal.returns
returns c =
    let b : begins c.style_by.result (first_text (lines (length c.args.source.bytes.now) (source_at c.args.source.bytes.now c.args.row.at))) ≡ true =
    ap (λ (s : Style). begins s (first_text (lines (length c.args.source.bytes.now) (source_at c.args.source.bytes.now c.args.row.at)))) (c.style_by.ensures c.args.row.at)
    ∙ ap (begins (style_of (shown c.args.row).first)) c.requires.row.placed ∙ (and_parts (begins (style_of (shown c.args.row).first) (text_of (shown c.args.row))) (not (is_left_out (shown c.args.row))) c.requires.begins).0 in
    let i : ℤ = to_z w32 (of_z w32 c.args.parent) in
    let same : i ≡ c.args.parent = to_z-of_z c.ranges.parent in
    subst (AnswersAs scalar_value c.read_scalar.result)
    (ap (λ (s : Style). reading s (least_above i) (length c.args.source.bytes.now) (source_at c.args.source.bytes.now c.args.row.at)) (c.style_by.ensures c.args.row.at)
    ∙ ap (λ (n : ℤ). reading (style_of (shown c.args.row).first) (least_above n) (length c.args.source.bytes.now) (source_at c.args.source.bytes.now c.args.row.at)) same)
    (gives-reading scalar_value c.style_by.result (least_above i) (length c.args.source.bytes.now) (source_at c.args.source.bytes.now c.args.row.at) c.read_scalar.result b c.read_scalar.ensures.only c.read_scalar.ensures.breach)
