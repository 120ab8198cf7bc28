use Rattle.std.proofs.Common.{refl, [], length}
use Rattle.std.proofs.lemmas.Str.{IsUtf8-nil, IsCharBoundary-end, IsUtf8-had}
use Rattle.lf_yaml.proofs.FlowPlaces.{in-line, in-nothing}
use Rattle.lf_yaml.proofs.parts.place_on.Goals as goal

pub returns-then-at-source-clause-place : goal.returns-then-at-source-clause-place
returns-then-at-source-clause-place c =
    in-line c.args.source.bytes.now c.line_of-line.result.text.now c.args.at c.line_of-line.result.behind (IsUtf8-had c.args.source.bytes.now c.args.source.utf8) c.requires.start c.line_of-line.ensures.text c.line_of-line.ensures.start c.line_of-line.ensures.rest c.line_of-line.ensures.below

pub returns-clause-place : goal.returns-clause-place
returns-clause-place c = in-nothing c.args.source.bytes.now [] c.args.at (length c.args.source.bytes.now) IsUtf8-nil refl c.if-at-source.false (IsCharBoundary-end c.args.source.bytes.now) refl
